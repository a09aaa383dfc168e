-- The straight-line parts of expm1 as code, over the constants of a format, and the intervals that hold them. Assumes nothing.
use Rattle.std.proofs.Common.{◌≡◌, ℕ, true, false, T, List, [], ◌∷◌, negsuc, refl, ap, subst}
use lib.Ieee.{Float, Format, fin, neg, add, sub, mul, lt, of_bits}
use Rattle.numeric.proofs.Intervals.{Itv, mk, In}
use Rattle.numeric.proofs.Programs.{Code, at, lit, plus, minus, times, over, bind, fetch, eval, span, fits_in, bounded, bounded_all}
use Rattle.numeric.proofs.Order.{zero_f}
use Rattle.numeric.proofs.Split.{Sizes, around}
use Rattle.numeric.proofs.Tests.{by_cases}
use Rattle.float.specs.Constants.{one, two, three, six, half, minus_two, minus_quarter}
use Rattle.float.specs.Polynomial.{horner}
use Rattle.exponential.specs.Expm1.{Expm1, square_of, error_from, error_of, corrected_of, unscaled, halved, doubled}

-- a polynomial by Horner's rule, at the value that `at i` names
abbrev pub horner_code : Format → List ℕ → ℕ → Code
horner_code F [] i = lit (of_bits F 0)
horner_code F (c ∷ []) i = lit (of_bits F c)
horner_code F (c ∷ d ∷ cs) i = plus (lit (of_bits F c)) (times (at i) (horner_code F (d ∷ cs) i))

pub horner_same : (F : Format) (cs : List ℕ) (i : ℕ) (xs : List Float) → eval F (horner_code F cs i) xs ≡ horner F cs (fetch xs i)
horner_same F [] i xs = refl
horner_same F (c ∷ []) i xs = refl
horner_same F (c ∷ d ∷ cs) i xs = ap (λ (y : Float). add F (of_bits F c) (mul F (fetch xs i) y)) (horner_same F (d ∷ cs) i xs)

-- 1/2 and 41/512; 1/16 and 31/16
abbrev pub half_f : Float
half_f = fin false 1 (negsuc 0)

abbrev pub minus_half_lem : Float
minus_half_lem = fin true 1 (negsuc 0)

abbrev pub error_size : Float
error_size = fin false 41 (negsuc 8)

abbrev pub low_f : Float
low_f = fin false 1 (negsuc 3)

abbrev pub high_f : Float
high_f = fin false 31 (negsuc 3)

module _ (t : Expm1) where
  abbrev pub F : Format
  F = t.ln2.format

  -- the error term, over r
  abbrev error_code : Code
  error_code =
      bind (times (lit (half F)) (at 0))
      (bind (times (at 1) (at 0))
      (bind (plus (lit (one F)) (times (at 0) (horner_code F t.q 0)))
      (bind (minus (lit (three F)) (times (at 0) (at 2)))
      (times (at 2) (over (minus (at 1) (at 0)) (minus (lit (six F)) (times (at 4) (at 0))))))))

  error_same : (r : Float) (xs : List Float) → eval F error_code (r ∷ xs) ≡ error_of t r
  error_same r xs =
      let z = square_of t r in
      ap (λ (y : Float). error_from t r (add F (one F) (mul F z y)) (sub F (three F) (mul F (add F (one F) (mul F z y)) (mul F (half F) r))))
      (horner_same F t.q 0 (z ∷ mul F (half F) r ∷ r ∷ xs))

  abbrev square_code : ℕ → Code
  square_code i = times (at i) (times (lit (half F)) (at i))

  -- k = 0, over x
  abbrev unscaled_code : Code
  unscaled_code = bind error_code (minus (at 1) (minus (times (at 1) (at 0)) (square_code 1)))

  unscaled_same : (x : Float) → eval F unscaled_code (x ∷ []) ≡ unscaled t x
  unscaled_same x = ap (λ (e : Float). sub F x (sub F (mul F x e) (square_of t x))) (error_same x [])

  -- the error term with the correction, over r and c
  abbrev pub corrected_code : Code
  corrected_code = bind error_code (minus (minus (times (at 1) (minus (at 0) (at 2))) (at 2)) (square_code 1))

  pub corrected_same : (r c : Float) → eval F corrected_code (r ∷ c ∷ []) ≡ corrected_of t r c
  corrected_same r c = ap (λ (e : Float). sub F (sub F (mul F r (sub F e c)) c) (square_of t r)) (error_same r (c ∷ []))

  -- ---- the last steps, over e and r, and over 2^-k, e and r
  abbrev halved_code : Code
  halved_code = minus (times (lit (half F)) (minus (at 1) (at 0))) (lit (half F))

  abbrev under_code : Code
  under_code = times (lit (minus_two F)) (minus (at 0) (plus (at 1) (lit (half F))))

  abbrev over_code : Code
  over_code = plus (lit (one F)) (times (lit (two F)) (minus (at 1) (at 0)))

  abbrev outer_code : Code
  outer_code = plus (minus (at 1) (at 0)) (lit (one F))

  abbrev early_code : Code
  early_code = plus (minus (at 2) (at 1)) (minus (lit (one F)) (at 0))

  abbrev late_code : Code
  late_code = plus (minus (at 2) (plus (at 1) (at 0))) (lit (one F))

  abbrev once_of : Float
  once_of = of_bits F t.ln2.once

  abbrev Es : Sizes → List Itv
  Es z = around error_size ∷ around z.rest ∷ []

  abbrev Ps : Sizes → List Itv
  Ps z = mk zero_f half_f ∷ Es z

-- what has to be computed of the constants
pub record Kernel (t : Expm1) (z : Sizes) : Type 0 where
  pub plain : T (fits_in (span (F t) (unscaled_code t) (around (once_of t) ∷ [])) minus_half_lem half_f)
  pub plain_up : T (fits_in (span (F t) (unscaled_code t) (mk zero_f (once_of t) ∷ [])) zero_f half_f)
  pub corrected : T (fits_in (span (F t) (corrected_code t) (around z.rest ∷ around z.correction ∷ [])) (neg error_size) error_size)
  pub halving : T (fits_in (span (F t) (halved_code t) (Es t z)) (fin true 3 (negsuc 1)) (fin true 1 (negsuc 1)))
  pub under : T (fits_in (span (F t) (under_code t) (Es t z)) low_f high_f)
  pub over : T (fits_in (span (F t) (over_code t) (Es t z)) low_f high_f)
  pub outermost : T (fits_in (span (F t) (outer_code t) (Es t z)) low_f high_f)
  pub early : T (fits_in (span (F t) (early_code t) (Ps t z)) low_f high_f)
  pub late : T (fits_in (span (F t) (late_code t) (Ps t z)) low_f high_f)

-- the rest and the error term
pub record Pieces (z : Sizes) (r e : Float) : Type 0 where
  pub rest : In r (around z.rest)
  pub term : In e (around error_size)

module _ (t : Expm1) (z : Sizes) (k : Kernel t z) where
  pub plain_in : (x : Float) → In x (around (once_of t)) → In (unscaled t x) (mk minus_half_lem half_f)
  plain_in x (h, l) =
      subst (λ (y : Float). In y (mk minus_half_lem half_f)) (unscaled_same t x)
      (bounded (F t) (unscaled_code t) (neg (once_of t)) (once_of t) minus_half_lem half_f x k.plain h l)

  pub plain_up_in : (x : Float) → In x (mk zero_f (once_of t)) → In (unscaled t x) (mk zero_f half_f)
  plain_up_in x (h, l) =
      subst (λ (y : Float). In y (mk zero_f half_f)) (unscaled_same t x)
      (bounded (F t) (unscaled_code t) zero_f (once_of t) zero_f half_f x k.plain_up h l)

  pub pieces : (r c : Float) → In r (around z.rest) → In c (around z.correction) → Pieces z r (corrected_of t r c)
  pieces r c h l =
      record {
        rest = h;
        term =
            subst (λ (y : Float). In y (around error_size)) (corrected_same t r c)
            (bounded_all (F t) (corrected_code t) (r ∷ c ∷ []) (around z.rest ∷ around z.correction ∷ []) (neg error_size) error_size k.corrected (h, (l, tt)));
      }

  module _ (r e : Float) (p : Pieces z r e) where
    pub halved_in : In (halved t r e) (mk (fin true 3 (negsuc 1)) (fin true 1 (negsuc 1)))
    halved_in = bounded_all (F t) (halved_code t) (e ∷ r ∷ []) (Es t z) (fin true 3 (negsuc 1)) (fin true 1 (negsuc 1)) k.halving (p.term, (p.rest, tt))

    pub doubled_in : In (doubled t r e) (mk low_f high_f)
    doubled_in =
        by_cases (λ (y : Float). In y (mk low_f high_f)) (lt r (minus_quarter (F t))) (mul (F t) (minus_two (F t)) (sub (F t) e (add (F t) r (half (F t))))) (add (F t) (one (F t)) (mul (F t) (two (F t)) (sub (F t) r e)))
        (λ _. bounded_all (F t) (under_code t) (e ∷ r ∷ []) (Es t z) low_f high_f k.under (p.term, (p.rest, tt)))
        (λ _. bounded_all (F t) (over_code t) (e ∷ r ∷ []) (Es t z) low_f high_f k.over (p.term, (p.rest, tt)))

    pub outer_in : In (add (F t) (sub (F t) r e) (one (F t))) (mk low_f high_f)
    outer_in = bounded_all (F t) (outer_code t) (e ∷ r ∷ []) (Es t z) low_f high_f k.outermost (p.term, (p.rest, tt))

    pub early_in : (u : Float) → In u (mk zero_f half_f) → In (add (F t) (sub (F t) r e) (sub (F t) (one (F t)) u)) (mk low_f high_f)
    early_in u h = bounded_all (F t) (early_code t) (u ∷ e ∷ r ∷ []) (Ps t z) low_f high_f k.early (h, (p.term, (p.rest, tt)))

    pub late_in : (u : Float) → In u (mk zero_f half_f) → In (add (F t) (sub (F t) r (add (F t) e u)) (one (F t))) (mk low_f high_f)
    late_in u h = bounded_all (F t) (late_code t) (u ∷ e ∷ r ∷ []) (Ps t z) low_f high_f k.late (h, (p.term, (p.rest, tt)))
