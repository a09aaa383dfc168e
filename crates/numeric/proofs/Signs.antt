-- Sign turning through the operations. A product and a quotient turn exactly; a sum turns exactly unless it is an exact zero of unlike signs. Assumes nothing.
use Rattle.std.proofs.Common.{◌≡◌, ℕ, ◌+◌, ◌-◌, ◌*◌, ◌≤◌, Bool, true, false, cond, not, T, eqb, ltb, ℤ, sym, refl, ap, ◌∙◌, arith, nltb→le}
use lib.Ieee.{Float, nan, inf, fin, Format, up, down, unlike, round, sum, neg, add, mul, div}
use Rattle.std.specs.Float.{is_sign_negative, float_with_sign}
use Rattle.numeric.proofs.Rounding.{neg-neg, round-neg, Signed, round_signed}

unlike_not : (s t : Bool) → unlike (not s) t ≡ not (unlike s t)
unlike_not false false = refl
unlike_not false true = refl
unlike_not true false = refl
unlike_not true true = refl

turn : (f : Format) (s t : Bool) (a c : ℕ) → round f (unlike (not s) t) a c ≡ neg (round f (unlike s t) a c)
turn f s t a c = ap (λ (u : Bool). round f u a c) (unlike_not s t) ∙ round-neg f (unlike s t) a c

on_inf : (b s t : Bool) → cond b nan (inf (unlike (not s) t)) ≡ neg (cond b nan (inf (unlike s t)))
unfolding neg
on_inf true s t = refl
on_inf false s t = ap inf (unlike_not s t)

pub neg-mul : (f : Format) (x y : Float) → mul f (neg x) y ≡ neg (mul f x y)
unfolding mul neg
neg-mul f nan y = refl
neg-mul f (inf s) nan = refl
neg-mul f (inf s) (inf t) = ap inf (unlike_not s t)
neg-mul f (inf s) (fin t n d) = on_inf (eqb n 0) s t
neg-mul f (fin s m e) nan = refl
neg-mul f (fin s m e) (inf t) = on_inf (eqb m 0) s t
neg-mul f (fin s m e) (fin t n d) = turn f s t (m * up e * (n * up d)) (down e * down d)

unlike_not_r : (s t : Bool) → unlike s (not t) ≡ not (unlike s t)
unlike_not_r false false = refl
unlike_not_r false true = refl
unlike_not_r true false = refl
unlike_not_r true true = refl

on_inf_r : (b s t : Bool) → cond b nan (inf (unlike s (not t))) ≡ neg (cond b nan (inf (unlike s t)))
unfolding neg
on_inf_r true s t = refl
on_inf_r false s t = ap inf (unlike_not_r s t)

pub mul-neg : (f : Format) (x y : Float) → mul f x (neg y) ≡ neg (mul f x y)
unfolding mul neg
mul-neg f nan y = refl
mul-neg f (inf s) nan = refl
mul-neg f (inf s) (inf t) = ap inf (unlike_not_r s t)
mul-neg f (inf s) (fin t n d) = on_inf_r (eqb n 0) s t
mul-neg f (fin s m e) nan = refl
mul-neg f (fin s m e) (inf t) = on_inf_r (eqb m 0) s t
mul-neg f (fin s m e) (fin t n d) = ap (λ (u : Bool). round f u (m * up e * (n * up d)) (down e * down d)) (unlike_not_r s t) ∙ round-neg f (unlike s t) (m * up e * (n * up d)) (down e * down d)

pub neg-div : (f : Format) (x y : Float) → div f (neg x) y ≡ neg (div f x y)
unfolding div neg
neg-div f nan y = refl
neg-div f (inf s) nan = refl
neg-div f (inf s) (inf t) = refl
neg-div f (inf s) (fin t n d) = ap inf (unlike_not s t)
neg-div f (fin s m e) nan = refl
neg-div f (fin s m e) (inf t) = ap (λ (u : Bool). fin u 0 (lib.IntN.pos 0)) (unlike_not s t)
neg-div f (fin s m e) (fin t n d) = go (eqb n 0)
  where
    go : (b : Bool) → cond b (cond (eqb m 0) nan (inf (unlike (not s) t))) (round f (unlike (not s) t) (m * up e * down d) (n * up d * down e)) ≡ neg (cond b (cond (eqb m 0) nan (inf (unlike s t))) (round f (unlike s t) (m * up e * down d) (n * up d * down e)))
    go true = on_inf (eqb m 0) s t
    go false = turn f s t (m * up e * down d) (n * up d * down e)

neg_sum : (f : Format) (s : Bool) (a : ℕ) (t : Bool) (b c : ℕ) → (a ≡ b → s ≡ t) → sum f (not s) a (not t) b c ≡ neg (sum f s a t b c)
unfolding sum
neg_sum f false a false b c h = round-neg f false (a + b) c
neg_sum f true a true b c h = round-neg f true (a + b) c
neg_sum f false a true b c h = go (ltb a b) (ltb b a) (nltb→le a b) (nltb→le b a)
  where
    go : (x y : Bool) → (T (not x) → b ≤ a) → (T (not y) → a ≤ b) → cond x (round f false (b - a) c) (round f y (a - b) c) ≡ neg (cond x (round f true (b - a) c) (round f false (a - b) c))
    go true y k g = round-neg f true (b - a) c
    go false true k g = round-neg f false (a - b) c
    go false false k g = let u : b ≤ a = k tt in let v : a ≤ b = g tt in absurd (apart (h (omega arith)))
      where
        apart : false ≡ true → ⊥
        apart p = mathlib.Core.Bool.true≢false (sym p)
neg_sum f true a false b c h = go (ltb a b) (ltb b a) (nltb→le a b) (nltb→le b a)
  where
    go : (x y : Bool) → (T (not x) → b ≤ a) → (T (not y) → a ≤ b) → cond x (round f true (b - a) c) (round f false (a - b) c) ≡ neg (cond x (round f false (b - a) c) (round f y (a - b) c))
    go true y k g = round-neg f false (b - a) c
    go false true k g = round-neg f true (a - b) c
    go false false k g = let u : b ≤ a = k tt in let v : a ≤ b = g tt in absurd (mathlib.Core.Bool.true≢false (h (omega arith)))

-- not two finite values that cancel exactly
abbrev pub Apart : Float → Float → Type 0
Apart nan y = Unit {0}
Apart (inf s) y = Unit {0}
Apart (fin s m e) nan = Unit {0}
Apart (fin s m e) (inf t) = Unit {0}
Apart (fin s m e) (fin t n d) = m * up e * down d ≡ n * up d * down e → s ≡ t

pub neg-add : (f : Format) (x y : Float) → Apart x y → add f (neg x) (neg y) ≡ neg (add f x y)
unfolding add neg
neg-add f nan y h = refl
neg-add f (inf s) nan h = refl
neg-add f (inf false) (inf false) h = refl
neg-add f (inf false) (inf true) h = refl
neg-add f (inf true) (inf false) h = refl
neg-add f (inf true) (inf true) h = refl
neg-add f (inf s) (fin t n d) h = refl
neg-add f (fin s m e) nan h = refl
neg-add f (fin s m e) (inf t) h = refl
neg-add f (fin s m e) (fin t n d) h = neg_sum f s (m * up e * down d) t (n * up d * down e) (down e * down d) h

-- values of one sign do not cancel
pub alike_apart : (s : Bool) (x y : Float) → Signed s x → Signed s y → Apart x y
alike_apart s nan y p q = tt
alike_apart s (inf t) y p q = tt
alike_apart s (fin t m e) nan p q = tt
alike_apart s (fin t m e) (inf u) p q = tt
alike_apart s (fin t m e) (fin u n d) p q = λ _. p ∙ sym q

pub mul_signed : (f : Format) (m : ℕ) (e : lib.IntN.ℤ) (n : ℕ) (d : lib.IntN.ℤ) → Signed false (mul f (fin false m e) (fin false n d))
unfolding mul
mul_signed f m e n d = round_signed f false (m * up e * (n * up d)) (down e * down d)

-- ---- a function of the size that takes the argument's sign is odd
abbrev pub by_size : (Float → Float) → Float → Float
by_size g x = cond (is_sign_negative x) (neg (g (float_with_sign false x))) (g (float_with_sign false x))

pub by_size_odd : (g : Float → Float) (s : Bool) (m : ℕ) (e : ℤ) → by_size g (neg (fin s m e)) ≡ neg (by_size g (fin s m e))
by_size_odd g true m e = unfold neg is_sign_negative float_with_sign in sym (neg-neg (g (fin false m e)))
by_size_odd g false m e = unfold neg is_sign_negative float_with_sign in refl

-- a choice turns where its two sides do
pub cond_neg : (b : Bool) (p q p' q' : Float) → p' ≡ neg p → q' ≡ neg q → cond b p' q' ≡ neg (cond b p q)
cond_neg true p q p' q' h k = h
cond_neg false p q p' q' h k = k
