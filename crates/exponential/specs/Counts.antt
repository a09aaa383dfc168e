-- How far the count of ln 2 goes, and which arguments are reduced: two facts of a table, and their proofs for the two tables.
use Rattle.std.specs.Prelude.{◌≡◌, ℕ, true, false, not, T, List, [], ◌∷◌, ℤ, pos, negsuc, ◌≤ℤ◌, from_bits, refl, Float}
use lib.Ieee.{fin, add, mul, neg, le, lt, is_nan, of_bits, to_signed}
use Rattle.std.specs.Float.{is_sign_negative, Format}
use Rattle.std.proofs.Common.{arith, sym, ap, ◌∙◌, subst}
use Rattle.std.proofs.lemmas.Int.{ints}
use Rattle.numeric.proofs.Rounding.{le_trans_f}
use Rattle.numeric.proofs.Intervals.{Itv, mk, In}
use Rattle.numeric.proofs.Order.{le-lt}
use Rattle.numeric.proofs.Programs.{Code, at, lit, plus, times, span, fits_in, bounded_all}
use Rattle.numeric.proofs.Tests.{by_cases}
use Rattle.numeric.proofs.Truncation.{Within, to_signed_within}
use Rattle.numeric.proofs.Words.{mag_in}
use Rattle.float.specs.Constants.{half, minus_half}
use Rattle.exponential.specs.Ln2.{Ln2, half_like, whole_of, widest_of, Reducible}
use Rattle.exponential.specs.Ln2 as Ln2s
use Rattle.exponential.specs.Expm1.{Expm1}
use Rattle.exponential.specs.Expm1 as Expm1s

-- the count of what is reduced is small
abbrev pub CountsFit : Ln2 → Type 0
CountsFit c = (x : Float) → Reducible c x → (negsuc 1999 ≤ℤ whole_of c x) × (whole_of c x ≤ℤ pos 2000)

-- what lies below the far size, or from there up to the threshold of overflow, is reduced
pub record Reduces (t : Expm1) : Type 0 where
  pub far_in : T (le (from_bits t.ln2.format t.far) (widest_of t.ln2))
  pub overflow_in : T (le (from_bits t.ln2.format t.overflow) (widest_of t.ln2))
  pub overflow_is : T (not (is_nan (from_bits t.ln2.format t.overflow)))

-- ---- the count
halves : (f : Format) → T (le (minus_half f) (minus_half f)) × T (le (minus_half f) (half f)) × T (le (half f) (half f))
unfolding of_bits le
halves lib.Ieee.binary32 = (tt, tt, tt)
halves lib.Ieee.binary64 = (tt, tt, tt)

module _ (c : Ln2) where
  abbrev F : Format
  F = c.format

  -- what the fraction is dropped from, where h is the half with x's sign
  abbrev pub in_ln2s : Float → Float → Float
  in_ln2s x h = add F (mul F (of_bits F c.inverse) x) h

  -- the same as code, and the ends of x and h
  abbrev pub steps : Code
  steps = plus (times (lit (of_bits F c.inverse)) (at 0)) (at 1)

  abbrev pub ends : List Itv
  ends = mk (neg (widest_of c)) (widest_of c) ∷ mk (minus_half F) (half F) ∷ []

  pub half_in : (x : Float) → In (half_like c x) (mk (minus_half F) (half F))
  half_in x = by_cases (λ (h : Float). In h (mk (minus_half F) (half F))) (is_sign_negative x) (minus_half F) (half F) (λ _. ((halves F).0, (halves F).1)) (λ _. ((halves F).1, (halves F).2))

-- between these ends it is at most n in size, far inside an i64: to be computed of a table
pub record Reach (c : Ln2) (n : ℕ) : Type 0 where
  pub within : T (fits_in (span c.format (steps c) (ends c)) (neg (fin false n (pos 0))) (fin false n (pos 0)))
  pub low : T (le (fin true 1 (pos 63)) (neg (fin false n (pos 0))))
  pub high : T (not (le (fin false 1 (pos 63)) (fin false n (pos 0))))

-- k is the count of ln 2 in x, and at most n in size
abbrev pub Counted : Ln2 → ℕ → Float → ℤ → Type 0
Counted c n x k = (k ≡ whole_of c x) × Within n k

module _ (c : Ln2) (n : ℕ) (r : Reach c n) (x h : Float) (half_is : h ≡ half_like c x) (ok : Reducible c x) where
  abbrev top : Float
  top = fin false n (pos 0)

  in-ln2s : In (in_ln2s c x h) (mk (neg top) top)
  in-ln2s =
      subst (λ (y : Float). In (in_ln2s c x y) (mk (neg top) top)) (sym half_is)
      (bounded_all c.format (steps c) (x ∷ half_like c x ∷ []) (ends c) (neg top) top r.within (mag_in x (widest_of c) ok, (half_in c x, tt)))

  pub inside_i64 : T (le (fin true 1 (pos 63)) (in_ln2s c x h)) × T (lt (in_ln2s c x h) (fin false 1 (pos 63)))
  inside_i64 = (
    le_trans_f (fin true 1 (pos 63)) (neg top) (in_ln2s c x h) r.low in-ln2s.0,
    le-lt (in_ln2s c x h) top (fin false 1 (pos 63)) (unfold is_nan in tt) in-ln2s.1 r.high,
  )

  pub counted : (k : ℤ) → k ≡ to_signed 63 (in_ln2s c x h) → Counted c n x k
  counted k e = (
    e ∙ ap (λ (y : Float). to_signed 63 (in_ln2s c x y)) half_is,
    subst (Within n) (sym e) (to_signed_within 63 n (in_ln2s c x h) in-ln2s.0 in-ln2s.1),
  )

-- ---- of the two tables
pub double_reach : Reach Ln2s.double 1076
unfolding of_bits add mul neg le
double_reach = record { within = tt; low = tt; high = tt }

pub single_reach : Reach Ln2s.single 129
unfolding of_bits add mul neg le
single_reach = record { within = tt; low = tt; high = tt }

pub double_counts : CountsFit Ln2s.double
double_counts x h = (let k = counted Ln2s.double 1076 double_reach x (half_like Ln2s.double x) refl h (whole_of Ln2s.double x) refl in (omega (arith, ints), omega (arith, ints)))

pub single_counts : CountsFit Ln2s.single
single_counts x h = (let k = counted Ln2s.single 129 single_reach x (half_like Ln2s.single x) refl h (whole_of Ln2s.single x) refl in (omega (arith, ints), omega (arith, ints)))

pub double_reduces : Reduces Expm1s.double
unfolding of_bits le is_nan
double_reduces = record { far_in = tt; overflow_in = tt; overflow_is = tt }

pub single_reduces : Reduces Expm1s.single
unfolding of_bits le is_nan
single_reduces = record { far_in = tt; overflow_in = tt; overflow_is = tt }
