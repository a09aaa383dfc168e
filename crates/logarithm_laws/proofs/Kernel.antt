-- The kernel and the reconstruction as code, and the intervals that hold them. Over the table of a format. Assumes nothing.
use Rattle.std.proofs.Common.{◌≡◌, ℕ, T, List, [], ◌∷◌, ℤ, refl, ap, subst, ap₂}
use lib.Ieee.{Float, Format, of_bits, add, sub, mul, of_int}
use Rattle.numeric.proofs.Intervals.{Itv, mk, In}
use Rattle.numeric.proofs.Programs.{Code, at, lit, plus, minus, times, over, bind, eval, span, fits_in, bounded_all}
use Rattle.float.specs.Constants.{two, half}
use Rattle.float.specs.Polynomial.{horner}
use Rattle.logarithm.specs.Kernel.{Logarithm, slope_of, square_of, join_of, high_part, low_part}
use Rattle.logarithm_laws.proofs.Whole.{Between, minus_whole, whole, of_int_in}
use Rattle.logarithm_laws.proofs.Cutting.{f_low, f_high}

-- ---- polynomials
abbrev horner_code : Format → List ℕ → Code → Code
horner_code f [] z = lit (of_bits f 0)
horner_code f (c ∷ []) z = lit (of_bits f c)
horner_code f (c ∷ d ∷ cs) z = plus (lit (of_bits f c)) (times z (horner_code f (d ∷ cs) z))

horner_same : (f : Format) (cs : List ℕ) (z : Code) (xs : List Float) → eval f (horner_code f cs z) xs ≡ horner f cs (eval f z xs)
horner_same f [] z xs = refl
horner_same f (c ∷ []) z xs = refl
horner_same f (c ∷ d ∷ cs) z xs = ap (λ (y : Float). add f (of_bits f c) (mul f (eval f z xs) y)) (horner_same f (d ∷ cs) z xs)

module _ (t : Logarithm) where
  abbrev F : Format
  F = t.format

  infixl 6 ◌⊕◌ ◌⊖◌
  infixl 7 ◌⊗◌
  abbrev ◌⊕◌ : Float → Float → Float
  x ⊕ y = add F x y

  abbrev ◌⊖◌ : Float → Float → Float
  x ⊖ y = sub F x y

  abbrev ◌⊗◌ : Float → Float → Float
  x ⊗ y = mul F x y

  -- over high, low and f; then s, f²/2, z and w are bound
  abbrev join_code : Code
  join_code =
      bind (over (at 2) (plus (lit (two F)) (at 2)))
      (bind (times (times (lit (half F)) (at 3)) (at 3))
      (bind (times (at 1) (at 1))
      (bind (times (at 0) (at 0))
      (plus (plus (minus (plus (times (at 3) (plus (at 2) (plus (times (at 1) (horner_code F t.odd (at 0))) (times (at 0) (horner_code F t.even (at 0)))))) (at 5)) (at 2)) (at 6)) (at 4)))))

  join_same : (f low high : Float) (xs : List Float) → eval F join_code (high ∷ low ∷ f ∷ xs) ≡ join_of t f (slope_of t f) low high
  join_same f low high xs =
      let s = slope_of t f in
      let q = square_of t f in
      let z = s ⊗ s in
      let w = z ⊗ z in
      let ys = w ∷ z ∷ q ∷ s ∷ high ∷ low ∷ f ∷ xs in
      ap₂ (λ (o e : Float). s ⊗ (q ⊕ (z ⊗ o ⊕ w ⊗ e)) ⊕ low ⊖ q ⊕ f ⊕ high) (horner_same F t.odd (at 0) ys) (horner_same F t.even (at 0) ys)

  -- over f and the exponent as a float: the sum of log
  abbrev pub plain_code : Code
  plain_code = bind (times (at 1) (lit (of_bits F t.ln2_lo))) (bind (times (at 2) (lit (of_bits F t.ln2_hi))) join_code)

  -- over f, the exponent and the correction: the sum of log1p
  abbrev pub mended_code : Code
  mended_code = bind (plus (times (at 1) (lit (of_bits F t.ln2_lo))) (at 2)) (bind (times (at 2) (lit (of_bits F t.ln2_hi))) join_code)

  -- ---- in intervals: f as it is cut, the exponent from -l to h
  module _ (l h : ℕ) (low high : Float) where
    abbrev pub Ks : List Itv
    Ks = mk f_low f_high ∷ mk (minus_whole F l) (whole F h) ∷ []

    pub plain_in : T (fits_in (span F plain_code Ks) low high) → (f : Float) (k : ℤ) → In f (mk f_low f_high) → Between l h k → In (join_of t f (slope_of t f) (low_part t k) (high_part t k)) (mk low high)
    plain_in ok f k i b =
        subst (λ (z : Float). In z (mk low high)) (join_same f (low_part t k) (high_part t k) (of_int F k ∷ []))
        (bounded_all F plain_code (f ∷ of_int F k ∷ []) Ks low high ok (i, (of_int_in F l h k b, tt)))

    -- and the correction in an interval of its own
    abbrev pub Cs : Itv → List Itv
    Cs C = mk f_low f_high ∷ mk (minus_whole F l) (whole F h) ∷ C ∷ []

    pub mended_in : (C : Itv) → T (fits_in (span F mended_code (Cs C)) low high) → (f : Float) (k : ℤ) (c : Float) → In f (mk f_low f_high) → Between l h k → In c C
        → In (join_of t f (slope_of t f) (low_part t k ⊕ c) (high_part t k)) (mk low high)
    mended_in C ok f k c i b j =
        subst (λ (z : Float). In z (mk low high)) (join_same f (low_part t k ⊕ c) (high_part t k) (of_int F k ∷ c ∷ []))
        (bounded_all F mended_code (f ∷ of_int F k ∷ c ∷ []) (Cs C) low high ok (i, (of_int_in F l h k b, (j, tt))))
