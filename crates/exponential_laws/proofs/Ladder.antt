-- What expm1 makes of its pieces at each count: one computed test for every count. Assumes nothing.
use Rattle.std.proofs.Common.{ℕ, suc, ◌-◌, ◌*◌, ◌<◌, ◌≤◌, Bool, true, false, cond, ◌&&◌, ◌||◌, T, leb, List, [], ◌∷◌, ℤ, pos, negsuc, ◌-ℤ◌, refl, subst, inl, inr, zero-add, arith, ltb→lt, lt→ltb, leb→le}
use lib.Signed.{lt_z}
use lib.Ieee.{Float, Format, fin, ones, hid, neg, add, sub, mul, le, of_bits}
use lib.Ieee.Scale.{finite}
use Rattle.numeric.proofs.Rounding.{and_l, and_r, or_r, or_split, le_trans_f}
use Rattle.numeric.proofs.Operations.{mul_mono_l}
use Rattle.numeric.proofs.Intervals.{Itv, mk, In, within, finite_between}
use Rattle.numeric.proofs.Programs.{Code, at, lit, minus, times, span, fits_in, bounded}
use Rattle.numeric.proofs.Order.{zero_f, add_from}
use Rattle.numeric.proofs.Split.{Sizes, Parts}
use Rattle.numeric.proofs.Tests.{by_cases, every, every_at}
use Rattle.float.specs.Constants.{one}
use Rattle.scaling.specs.Scalbn.{scalbn_of}
use Rattle.scaling.proofs.Whole.{by_power}
use Rattle.exponential.specs.Ln2.{equal_z}
use Rattle.exponential.specs.Expm1.{Expm1, corrected_of, halved, doubled, outer, unit, inner, scaled_of, rebuilt}
use Rattle.exponential_laws.proofs.Kernel.{F, Kernel, Pieces, pieces, half_f, low_f, high_f, halved_in, doubled_in, outer_in, early_in, late_in}

abbrev pub minus_one_f : Float
minus_one_f = fin true 1 (pos 0)

-- the largest finite value
abbrev pub largest : Format → Float
largest f = of_bits f (ones f * hid f - 1)

-- from zero to the largest value
abbrev pub Up : Format → Float → Type 0
Up f y = In y (mk zero_f (largest f))

abbrev pub Down : Float → Type 0
Down y = In y (mk minus_one_f zero_f)

abbrev Ms : List Itv
Ms = mk low_f high_f ∷ []

module _ (t : Expm1) where
  abbrev pub scale_code : ℤ → Code
  scale_code k = times (at 0) (lit (fin false 1 k))

  abbrev pub less_code : ℤ → Code
  less_code k = minus (scale_code k) (lit (one (F t)))

  abbrev unit_at : ℤ → Float
  unit_at k = mul (F t) (one (F t)) (fin false 1 (pos 0 -ℤ k))

  -- a count from 1 on
  abbrev pub rung : ℕ → Bool
  rung j =
      within zero_f (unit_at (pos (suc j))) half_f
      && (fits_in (span (F t) (scale_code (pos (suc j))) Ms) zero_f (largest (F t))
      && (leb (suc j) 56 || fits_in (span (F t) (less_code (pos (suc j))) Ms) zero_f (largest (F t))))

  -- and below 0
  abbrev pub step : ℕ → Bool
  step j = fits_in (span (F t) (less_code (negsuc j)) Ms) minus_one_f zero_f

-- what has to be computed of the constants; after the counts up to `top` one more may give an infinity
pub record Ladder (t : Expm1) (top : ℕ) : Type 0 where
  pub rungs : T (every (rung t) top 0)
  pub steps : T (every (step t) 57 0)
  pub wide : 56 < suc top
  pub last : T (le (one (F t)) (mul (F t) low_f (fin false 1 (pos (suc top)))))
  pub ends : T (le high_f (largest (F t))) × T (finite (one (F t))) × T (finite (neg (one (F t))))
  pub less : T (le zero_f (sub (F t) (one (F t)) (one (F t))))

m_up : (f : Format) (y : Float) → T (le high_f (largest f)) → In y (mk low_f high_f) → Up f y
m_up f y w (h, k) = (le_trans_f zero_f low_f y (unfold le in tt) h, le_trans_f y high_f (largest f) k w)

module _ (t : Expm1) (z : Sizes) (top : ℕ) (k : Kernel t z) (l : Ladder t top) where
  record Rung (n : ℕ) : Type 0 where
    small : In (unit t (pos n)) (mk zero_f half_f)
    scale : (y : Float) → In y (mk low_f high_f) → Up (F t) (scalbn_of (F t) y (pos n))
    less : 56 < n → (y : Float) → In y (mk low_f high_f) → Up (F t) (sub (F t) (scalbn_of (F t) y (pos n)) (one (F t)))

  rung_at : (j : ℕ) → j < top → Rung (suc j)
  rung_at j h =
      let f = F t in
      let n = suc j in
      let u = unit_at t (pos n) in
      let A = within zero_f u half_f in
      let B = fits_in (span f (scale_code t (pos n)) Ms) zero_f (largest f) in
      let C = fits_in (span f (less_code t (pos n)) Ms) zero_f (largest f) in
      let w : T (rung t j) = subst (λ (i : ℕ). T (rung t i)) (zero-add j) (every_at (rung t) top 0 j l.rungs h) in
      let a = and_l A (B && (leb n 56 || C)) w in
      let v = and_r A (B && (leb n 56 || C)) w in
      let b = and_l B (leb n 56 || C) v in
      let c = and_r B (leb n 56 || C) v in
      record {
        small = subst (λ (y : Float). In y (mk zero_f half_f)) (by_power f (one f) (pos 0 -ℤ pos n)) (and_l (le zero_f u) (le u half_f) a, and_r (le zero_f u) (le u half_f) a);
        scale = λ y i. subst (Up f) (by_power f y (pos n)) (bounded f (scale_code t (pos n)) low_f high_f zero_f (largest f) y b i.0 i.1);
        less = λ g y i. subst (λ (s : Float). Up f (sub f s (one f))) (by_power f y (pos n)) (bounded f (less_code t (pos n)) low_f high_f zero_f (largest f) y (large n C g c) i.0 i.1);
      }
    where
      large : (n : ℕ) (C : Bool) → 56 < n → T (leb n 56 || C) → T C
      large n C g w = elim (or_split (leb n 56) C w) [ inl v ↦ (let x = leb→le n 56 v in absurd (no n g x)) | inr v ↦ v ]
        where
          no : (n : ℕ) → 56 < n → n ≤ 56 → ⊥
          no n a b = omega arith

  module _ (r e : Float) (p : Pieces z r e) where
    inner_up : (n : ℕ) → Rung n → Up (F t) (inner t (pos n) r e)
    inner_up n q =
        let f = F t in
        let u = unit t (pos n) in
        q.scale (cond (lt_z (pos n) t.wide) (add f (sub f r e) (sub f (one f) u)) (add f (sub f r (add f e u)) (one f)))
        (by_cases (λ (y : Float). In y (mk low_f high_f)) (lt_z (pos n) t.wide) (add f (sub f r e) (sub f (one f) u)) (add f (sub f r (add f e u)) (one f))
        (λ _. early_in t z k r e p u q.small) (λ _. late_in t z k r e p u q.small))

    -- the value at a count from 1 on, where what lies outside 2 to 56 has the property
    up_by : (Q : Float → Type 0) (n : ℕ) → ((y : Float) → Up (F t) y → Q y) → Rung n → (56 < n → Q (outer t (pos n) r e)) → Q (scaled_of t (pos n) r e)
    up_by Q n all q far =
        let v = cond (lt_z (pos n) (pos 0) || lt_z (pos 56) (pos n)) (outer t (pos n) r e) (inner t (pos n) r e) in
        by_cases Q (equal_z (pos n) (negsuc 0)) (halved t r e) (cond (equal_z (pos n) (pos 1)) (doubled t r e) v)
        (λ w. absurd w)
        (λ _. by_cases Q (equal_z (pos n) (pos 1)) (doubled t r e) v
        (λ _. all (doubled t r e) (m_up (F t) (doubled t r e) l.ends.0 (doubled_in t z k r e p)))
        (λ _. by_cases Q (lt_z (pos n) (pos 0) || lt_z (pos 56) (pos n)) (outer t (pos n) r e) (inner t (pos n) r e)
        (λ w. far (elim (or_split (lt_z (pos n) (pos 0)) (lt_z (pos 56) (pos n)) w) [ inl x ↦ absurd (never n (ltb→lt n 0 x)) | inr x ↦ ltb→lt 56 n x ]))
        (λ _. all (inner t (pos n) r e) (inner_up n q))))
      where
        never : (n : ℕ) → n < 0 → ⊥
        never n h = omega arith

    scaled_up : (j : ℕ) → j < top → Up (F t) (scaled_of t (pos (suc j)) r e)
    scaled_up j h =
        let q = rung_at j h in
        up_by (Up (F t)) (suc j) (λ y u. u) q (λ g. q.less g (add (F t) (sub (F t) r e) (one (F t))) (outer_in t z k r e p))

    -- ---- the last count: it may be infinite
    last_is : (Q : Float → Type 0) → Q (outer t (pos (suc top)) r e) → Q (scaled_of t (pos (suc top)) r e)
    last_is Q h =
        let n = suc top in
        let o = outer t (pos n) r e in
        let v = cond (lt_z (pos n) (pos 0) || lt_z (pos 56) (pos n)) o (inner t (pos n) r e) in
        by_cases Q (equal_z (pos n) (negsuc 0)) (halved t r e) (cond (equal_z (pos n) (pos 1)) (doubled t r e) v)
        (λ w. absurd w)
        (λ _. by_cases Q (equal_z (pos n) (pos 1)) (doubled t r e) v
        (λ w. absurd (no n l.wide (leb→le n 1 (and_l (leb n 1) (leb 1 n) w))))
        (λ _. by_cases Q (lt_z (pos n) (pos 0) || lt_z (pos 56) (pos n)) o (inner t (pos n) r e)
        (λ _. h)
        (λ w. absurd (lib.Dec.T_not (lt_z (pos n) (pos 0) || lt_z (pos 56) (pos n)) w (or_r (lt_z (pos n) (pos 0)) (lt_z (pos 56) (pos n)) (lt→ltb 56 n l.wide))))))
      where
        no : (n : ℕ) → 56 < n → n ≤ 1 → ⊥
        no n a b = omega arith

    -- what is at least one, less one
    less_one : (y : Float) → T (le (one (F t)) y) → T (le zero_f (sub (F t) y (one (F t))))
    less_one y h = let m = l.less in unfold sub in le_trans_f zero_f (add (F t) (one (F t)) (neg (one (F t)))) (add (F t) y (neg (one (F t)))) (unfold sub in m) (add_from (F t) (one (F t)) y (neg (one (F t))) l.ends.1 l.ends.2 h)

    last_above : T (le zero_f (outer t (pos (suc top)) r e))
    last_above =
        let f = F t in
        let y = add f (sub f r e) (one f) in
        let b = fin false 1 (pos (suc top)) in
        let i = outer_in t z k r e p in
        let Y = finite_between low_f y high_f tt tt i.0 i.1 in
        less_one (scalbn_of f y (pos (suc top)))
        (subst (λ (w : Float). T (le (one f) w)) (by_power f y (pos (suc top)))
        (le_trans_f (one f) (mul f low_f b) (mul f y b) l.last (mul_mono_l f low_f y b tt Y tt refl i.0)))

    -- ---- counts below 0
    scaled_down : (j : ℕ) → j < 57 → Down (scaled_of t (negsuc j) r e)
    scaled_down j h =
        let f = F t in
        let y = add f (sub f r e) (one f) in
        let i = outer_in t z k r e p in
        by_cases Down (equal_z (negsuc j) (negsuc 0)) (halved t r e) (outer t (negsuc j) r e)
        (λ _. near (halved t r e) (halved_in t z k r e p))
        (λ _. subst (λ (w : Float). Down (sub f w (one f))) (by_power f y (negsuc j))
        (bounded f (less_code t (negsuc j)) low_f high_f minus_one_f zero_f y (subst (λ (n : ℕ). T (step t n)) (zero-add j) (every_at (step t) 57 0 j l.steps h)) i.0 i.1))
      where
        near : (x : Float) → In x (mk (fin true 3 (negsuc 1)) (fin true 1 (negsuc 1))) → Down x
        near x (h, k) = (le_trans_f minus_one_f (fin true 3 (negsuc 1)) x (unfold le in tt) h, le_trans_f x (fin true 1 (negsuc 1)) zero_f k (unfold le in tt))

  -- ---- from the parts of the rest
  module _ (hi lo : Float) (p : Parts (F t) z hi lo) where
    abbrev rest : Float
    rest = sub (F t) hi lo

    abbrev term : Float
    term = corrected_of t rest (sub (F t) (sub (F t) hi rest) lo)

    pub both : Pieces z rest term
    both = pieces t z k rest (sub (F t) (sub (F t) hi rest) lo) p.rest p.correction

    pub rebuilt_up : (j : ℕ) → j < top → Up (F t) (rebuilt t (pos (suc j)) hi lo)
    rebuilt_up j h = scaled_up rest term both j h

    pub rebuilt_last : T (le zero_f (rebuilt t (pos (suc top)) hi lo))
    rebuilt_last = last_is rest term both (λ (y : Float). T (le zero_f y)) (last_above rest term both)

    pub rebuilt_last_by : (Q : Float → Type 0) → Q (outer t (pos (suc top)) rest term) → Q (rebuilt t (pos (suc top)) hi lo)
    rebuilt_last_by Q h = last_is rest term both Q h

    pub rebuilt_down : (j : ℕ) → j < 57 → Down (rebuilt t (negsuc j) hi lo)
    rebuilt_down j h = scaled_down rest term both j h
