-- Sign turning as far as the order sees it: what it keeps, sums and quotients of sign-turned values, also where a sum is an
-- exact zero, and counts as floats. Assumes nothing.
use Rattle.std.proofs.Common.{◌≡◌, ℕ, zero, suc, ◌+◌, ◌*◌, ◌<◌, ◌≤◌, Bool, true, false, not, T, pos, sym, refl, ap, ◌∙◌, subst, inl, inr, le_refl, mul-pos, zero-add, arith, pow_pos}
use lib.Ieee.{Float, Format, nan, inf, fin, binary32, binary64, round, neg, add, div, le, is_nan, fits, of_int}
use lib.Ieee.Scale.{finite}
use lib.Ieee.Positive.{den, den_pos, positive}
use Rattle.std.specs.Float.{float_is_infinite}
use Rattle.numeric.proofs.Rounding.{P, N, Is, Is_at, neg-P, neg-N, finite-neg, round-neg, rnd_mono, le_trans_f}
use Rattle.numeric.proofs.Operations.{add-Is, add_mono, div_mono_l}
use Rattle.numeric.proofs.Programs.{le_refl_f}
use Rattle.numeric.proofs.Order.{number_above, number_below}
use Rattle.numeric.proofs.Intervals.{finite_between, above_parts}
use Rattle.numeric.proofs.Signs.{neg-div}
use Rattle.numeric.proofs.Tests.{on}

-- ---- sign turning keeps what a value is
pub fits_neg : (f : Format) (x : Float) → fits f (neg x) ≡ fits f x
unfolding neg fits
fits_neg f nan = refl
fits_neg f (inf s) = refl
fits_neg f (fin s zero e) = refl
fits_neg f (fin s (suc m) e) = refl

pub nan_neg : (x : Float) → is_nan (neg x) ≡ is_nan x
unfolding neg is_nan
nan_neg nan = refl
nan_neg (inf s) = refl
nan_neg (fin s m e) = refl

pub infinite_neg : (x : Float) → float_is_infinite (neg x) ≡ float_is_infinite x
unfolding neg float_is_infinite
infinite_neg nan = refl
infinite_neg (inf s) = refl
infinite_neg (fin s m e) = refl

den_neg : (x : Float) → den (neg x) ≡ den x
unfolding neg
den_neg nan = refl
den_neg (inf s) = refl
den_neg (fin s m e) = refl

pub finite_of : (x : Float) → T (not (is_nan x)) → float_is_infinite x ≡ false → T (finite x)
unfolding float_is_infinite is_nan
finite_of nan n h = n
finite_of (inf s) n h = on false (sym h)
finite_of (fin s m e) n h = tt

-- ---- at one place of the order: the same number, both zeros being one
abbrev pub Level : Float → Float → Type 0
Level x y = T (le x y) × T (le y x)

pub level_infinite : (x y : Float) → Level x y → float_is_infinite x ≡ float_is_infinite y
unfolding le float_is_infinite
level_infinite nan y (h, k) = absurd h
level_infinite (inf s) nan (h, k) = absurd k
level_infinite (inf s) (inf t) (h, k) = refl
level_infinite (inf true) (fin t n d) (h, k) = absurd k
level_infinite (inf false) (fin t n d) (h, k) = absurd h
level_infinite (fin s m e) nan (h, k) = absurd k
level_infinite (fin s m e) (inf true) (h, k) = absurd h
level_infinite (fin s m e) (inf false) (h, k) = absurd k
level_infinite (fin s m e) (fin t n d) (h, k) = refl

-- ---- sums: those of turned values
Is-neg : (f : Format) (x : Float) (p n c : ℕ) → Is f x p n c → Is f (neg x) n p c
Is-neg f x p n c (inl (a, h, e)) = inr (a, h, ap neg e ∙ sym (round-neg f false a c))
Is-neg f x p n c (inr (a, h, e)) = inl (a, h, ap neg e ∙ sym (round-neg f true a c))

add_turned : (f : Format) (x y : Float) → T (finite x) → T (finite y) → Level (add f (neg x) (neg y)) (neg (add f x y))
add_turned f x y X Y =
    let p = P x * den y + P y * den x in
    let n = N x * den y + N y * den x in
    let c = den x * den y in
    let C : 0 < c = mul-pos (den_pos x) (den_pos y) in
    let parts_n : P (neg x) * den (neg y) + P (neg y) * den (neg x) ≡ n = simp (neg-P, den_neg) in
    let parts_p : N (neg x) * den (neg y) + N (neg y) * den (neg x) ≡ p = simp (neg-N, den_neg) in
    let parts_c : den (neg x) * den (neg y) ≡ c = simp den_neg in
    let i = Is_at f (add f (neg x) (neg y)) (P (neg x) * den (neg y) + P (neg y) * den (neg x)) (N (neg x) * den (neg y) + N (neg y) * den (neg x)) (den (neg x) * den (neg y)) n p c parts_n parts_p parts_c (add-Is f (neg x) (neg y) (finite-neg x X) (finite-neg y Y)) in
    let j = Is-neg f (add f x y) p n c (add-Is f x y X Y) in
    (rnd_mono f (add f (neg x) (neg y)) (neg (add f x y)) n p c n p c C C i j (le_refl _), rnd_mono f (neg (add f x y)) (add f (neg x) (neg y)) n p c n p c C C j i (le_refl _))

-- ---- a count as a float
count_is : (f : Format) (c : ℕ) → Is f (of_int f (pos c)) c 0 1
unfolding of_int
count_is f c = inl (c, sym (zero-add c), refl)

one_finite : (f : Format) → T (finite (of_int f (pos 1)))
unfolding of_int round
one_finite binary32 = tt
one_finite binary64 = tt

one_positive : (f : Format) → T (positive (of_int f (pos 1)))
unfolding of_int round
one_positive binary32 = tt
one_positive binary64 = tt

most_finite : (f : Format) → T (finite (of_int f (pos 4096)))
unfolding of_int round
most_finite binary32 = tt
most_finite binary64 = tt

counts_ordered : (f : Format) (a b : ℕ) → a ≤ b → T (le (of_int f (pos a)) (of_int f (pos b)))
counts_ordered f a b h = rnd_mono f (of_int f (pos a)) (of_int f (pos b)) a 0 1 b 0 1 (pow_pos 0) (pow_pos 0) (count_is f a) (count_is f b) (omega arith)

-- ---- quotients by a count
pub div_turned : (f : Format) (x y : Float) (c : ℕ) → T (finite x) → T (finite y) → 1 ≤ c → c ≤ 4096 → Level y (neg x) → Level (div f y (of_int f (pos c))) (neg (div f x (of_int f (pos c))))
div_turned f x y c X Y h k l =
    let d = of_int f (pos c) in
    let one = counts_ordered f 1 c h in
    let D = finite_between (of_int f (pos 1)) d (of_int f (pos 4096)) (one_finite f) (most_finite f) one (counts_ordered f c 4096 k) in
    let parts = above_parts (of_int f (pos 1)) d (one_positive f) (one_finite f) D one in
    let NX = finite-neg x X in
    subst (λ (z : Float). Level (div f y d) z) (neg-div f x d) (div_mono_l f y (neg x) d Y NX D parts.0 parts.1 l.0, div_mono_l f (neg x) y d NX Y D parts.0 parts.1 l.1)

-- where s is not infinite, it is finite, and so is what lies level with its sign turn
pub finite_both : (s t : Float) → Level t (neg s) → float_is_infinite s ≡ false → T (finite s) × T (finite t)
finite_both s t l i = (
  finite_of s (subst (λ (b : Bool). T (not b)) (nan_neg s) (number_above t (neg s) l.0)) i,
  finite_of t (number_below t (neg s) l.0) (level_infinite t (neg s) l ∙ infinite_neg s ∙ i),
)

-- one more summand: where t lies level with the sign-turned s, the sum of t and the sign-turned x does with that of s and x
pub add_opposite : (f : Format) (s t x : Float) → T (finite s) → T (finite t) → T (finite x) → Level t (neg s) → Level (add f t (neg x)) (neg (add f s x))
add_opposite f s t x S U X l =
    let NS = finite-neg s S in
    let NX = finite-neg x X in
    let r = le_refl_f (neg x) NX in
    let m = add_turned f s x S X in (
      le_trans_f (add f t (neg x)) (add f (neg s) (neg x)) (neg (add f s x)) (add_mono f t (neg s) (neg x) (neg x) U NS NX NX l.0 r) m.0,
      le_trans_f (neg (add f s x)) (add f (neg s) (neg x)) (add f t (neg x)) m.1 (add_mono f (neg s) t (neg x) (neg x) NS U NX NX l.1 r),
    )
