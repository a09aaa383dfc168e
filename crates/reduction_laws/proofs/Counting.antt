-- The reduction by multiples of ln 2, over the constants of a format: a reducible x whose count is k lies near k ln 2,
-- and what is left of it is small, by one computed test for each k. Assumes nothing.
use Rattle.std.proofs.Common.{◌≡◌, ℕ, zero, suc, ◌+◌, ◌-◌, ◌*◌, ◌/◌, ◌^◌, ◌<◌, ◌≤◌, Bool, true, false, cond, not, ◌&&◌, T, [], ◌∷◌, ℤ, pos, negsuc, sym, refl, ap, ◌∙◌, subst, le_trans, le_of_suc-le-suc, not-suc-le-zero, le_of_lt, mul-le-mul_right, zero-lt-suc, lt_of_not-le, zero-add, arith, T_not}
use lib.Dec.{not_T}
use lib.Ieee.{Float, Format, fin, prec, round, neg, add, sub, mul, le, lt, is_nan, of_bits, of_int, to_signed}
use lib.Ieee.Order.{round_mono}
use lib.Ieee.Scale.{finite}
use lib.Ieee.Positive.{den}
use Rattle.std.specs.Float.{is_sign_negative}
use Rattle.numeric.proofs.Rounding.{P, N, and_l, and_r, le_trans_f, neg-le, neg-neg, finite-neg}
use Rattle.numeric.proofs.Operations.{add_mono, mul_mono_r}
use Rattle.numeric.proofs.Intervals.{mk, In, finite_between, above_parts}
use Rattle.numeric.proofs.Programs.{Code, at, lit, minus, times, span, fits_in, bounded, bounded_all, le_refl_f}
use Rattle.numeric.proofs.Order.{lt-le, under_by, whole_under}
use Rattle.numeric.proofs.Split.{Sizes, Sound, Parts, parts_in, small_parts, around}
use Rattle.numeric.proofs.Tests.{by_cases, every, every_at, is_on, is_off}
use Rattle.numeric.proofs.Truncation.{cut_lo, cut_hi, to_signed_up, to_signed_down}
use Rattle.numeric.proofs.Words.{mag, mag_in, side_plain, side_turned, not_below}
use Rattle.float.specs.Band.{below_bits}
use Rattle.float.specs.Constants.{half, minus_half}
use Rattle.exponential.specs.Ln2.{Ln2, half_like, whole_of, count_of, high_rest, low_rest, widest_of, Reducible}
use Rattle.exponential.specs.Counts.{in_ln2s, steps, ends, half_in}

abbrev one_f : Float
one_f = fin false 1 (pos 0)

module _ (c : Ln2) where
  abbrev F : Format
  F = c.format

  abbrev inverse_of : Float
  inverse_of = of_bits F c.inverse

  -- the ends of a count, a little outside (n - 1/2) ln 2 and (n + 1/2) ln 2
  abbrev pub from : ℕ → Float
  from n = round F false ((2 * n - 1) * 693146) 2000000

  abbrev pub to : ℕ → Float
  to n = round F false ((2 * n + 1) * 693149) 2000000

  -- where x lies whose count is k
  abbrev pub Near : ℤ → Float → Type 0
  Near (pos n) x = In x (mk (from n) (to n))
  Near (negsuc j) x = In x (mk (neg (to (suc j))) (neg (from (suc j))))

  abbrev whole : ℕ → Float
  whole n = round F false n 1

  abbrev once_of : Float
  once_of = of_bits F c.once

  abbrev more_of : Float
  more_of = of_bits F c.more

  -- ---- the tests at a count
  abbrev sane : Float → Bool
  sane a = finite a && finite (mul F inverse_of a)

  -- the count of the lower end is below n, that of the upper end above it
  abbrev placed_up : ℕ → Bool
  placed_up n = sane (from n) && (sane (to n) && (not (le (whole n) (in_ln2s c (from n) (half F))) && le (whole (suc n)) (in_ln2s c (to n) (half F))))

  abbrev placed_down : ℕ → Bool
  placed_down n =
      sane (neg (from n))
      && (sane (neg (to n)) && (not (le (in_ln2s c (neg (from n)) (minus_half F)) (neg (whole n))) && le (in_ln2s c (neg (to n)) (minus_half F)) (neg (whole (suc n)))))

  abbrev head_code : ℤ → Code
  head_code k = minus (at 0) (lit (mul F (of_int F k) (of_bits F c.high)))

  abbrev pub parts_at : Sizes → ℤ → Float → Float → Bool
  parts_at z k a b = small_parts F z (head_code k) (low_rest c k) a b

  abbrev pub test_up : Sizes → ℕ → Bool
  test_up z j = placed_up (suc j) && parts_at z (pos (suc j)) (from (suc j)) (to (suc j))

  abbrev pub test_down : Sizes → ℕ → Bool
  test_down z j = placed_down (suc j) && parts_at z (negsuc j) (neg (to (suc j))) (neg (from (suc j)))

  -- a quarter below m + 1
  abbrev pub limit : ℕ → Float
  limit m = fin false (4 * m + 3) (negsuc 1)

-- what has to be computed of the constants, for counts up to m in size
pub record Table (c : Ln2) (z : Sizes) (m : ℕ) : Type 0 where
  pub sound : Sound c.format z
  pub ups : T (every (test_up c z) m 0)
  pub downs : T (every (test_down c z) m 0)
  pub some : 1 ≤ m
  pub few : suc m ≤ 2 ^ prec c.format
  pub room : m < 2 ^ 63
  -- the product with 1 / ln 2, and half more, between the widest arguments
  pub product : T (fits_in (span c.format (times (lit (inverse_of c)) (at 0)) (around (widest_of c) ∷ [])) (neg (limit c m)) (limit c m))
  pub reach : T (fits_in (span c.format (steps c) (ends c)) (neg (limit c m)) (limit c m))
  pub inverse_plain : N (inverse_of c) ≡ 0
  pub finites : T (finite (inverse_of c)) × T (finite (half c.format)) × T (finite (minus_half c.format)) × T (finite (more_of c)) × T (finite (widest_of c)) × T (finite (neg (widest_of c)))
  -- from the size `more` on the count is at least 1
  pub first : T (le one_f (in_ln2s c (more_of c) (half c.format))) × T (le (in_ln2s c (neg (more_of c)) (minus_half c.format)) (neg one_f))
  pub first_product : T (finite (mul c.format (inverse_of c) (more_of c))) × T (finite (mul c.format (inverse_of c) (neg (more_of c))))
  pub one_whole : one_f ≡ whole c 1
  -- from `once` to `more` it is 1
  pub once_from : T (le (from c 1) (once_of c))
  pub more_to : T (le (more_of c) (to c 1))
  pub once_room : c.once < lib.Ieee.ones c.format * lib.Ieee.hid c.format
  pub more_room : c.more < lib.Ieee.ones c.format * lib.Ieee.hid c.format

-- x has the count k, and what is left of it is small
pub record Reduced (c : Ln2) (z : Sizes) (k : ℤ) (x : Float) : Type 0 where
  pub near : Near c k x
  pub parts : Parts c.format z (high_rest c k x) (low_rest c k)

under_limit : (m : ℕ) → (4 * m + 3) * 1 < suc m * 4
under_limit m = omega arith

module _ (c : Ln2) (z : Sizes) (m : ℕ) (t : Table c z m) where
  scale_mono : (h x y : Float) → T (finite h) → T (finite x) → T (finite y) → T (finite (mul (F c) (inverse_of c) x)) → T (finite (mul (F c) (inverse_of c) y)) → T (le x y) → T (le (in_ln2s c x h) (in_ln2s c y h))
  scale_mono h x y H X Y X' Y' l =
      add_mono (F c) (mul (F c) (inverse_of c) x) (mul (F c) (inverse_of c) y) h h X' Y' H H (mul_mono_r (F c) (inverse_of c) x y t.finites.0 X Y t.inverse_plain l) (le_refl_f h H)

  -- ---- the ends of a count
  located_up : (n : ℕ) (x : Float) → T (placed_up c n) → T (finite x) → T (finite (mul (F c) (inverse_of c) x)) → T (le (whole c n) (in_ln2s c x (half (F c)))) → T (not (le (whole c (suc n)) (in_ln2s c x (half (F c))))) → Near c (pos n) x
  located_up n x p X X' low high =
      let f = F c in
      let s = λ (y : Float). in_ln2s c y (half f) in
      let A = sane c (from c n) in
      let B = sane c (to c n) in
      let C = not (le (whole c n) (s (from c n))) in
      let D = le (whole c (suc n)) (s (to c n)) in
      let a = and_l A (B && (C && D)) p in
      let r = and_r A (B && (C && D)) p in
      let b = and_l B (C && D) r in
      let q = and_r B (C && D) r in
      let G = and_l (finite (from c n)) (finite (mul f (inverse_of c) (from c n))) a in
      let G' = and_r (finite (from c n)) (finite (mul f (inverse_of c) (from c n))) a in
      let K = and_l (finite (to c n)) (finite (mul f (inverse_of c) (to c n))) b in
      let K' = and_r (finite (to c n)) (finite (mul f (inverse_of c) (to c n))) b in
      let H = t.finites.1 in (
        under_by s x (from c n) X G (scale_mono (half f) x (from c n) H X G X' G')
            (not_T (le (s x) (s (from c n))) (λ (w : T (le (s x) (s (from c n)))). T_not (le (whole c n) (s (from c n))) (and_l C D q) (le_trans_f (whole c n) (s x) (s (from c n)) low w))),
        under_by s (to c n) x K X (scale_mono (half f) (to c n) x H K X K' X')
            (not_T (le (s (to c n)) (s x)) (λ (w : T (le (s (to c n)) (s x))). T_not (le (whole c (suc n)) (s x)) high (le_trans_f (whole c (suc n)) (s (to c n)) (s x) (and_r C D q) w))),
      )

  located_down : (j : ℕ) (x : Float) → T (placed_down c (suc j)) → T (finite x) → T (finite (mul (F c) (inverse_of c) x)) → T (le (in_ln2s c x (minus_half (F c))) (neg (whole c (suc j)))) → T (not (le (in_ln2s c x (minus_half (F c))) (neg (whole c (suc (suc j)))))) → Near c (negsuc j) x
  located_down j x p X X' high low =
      let f = F c in
      let n = suc j in
      let s = λ (y : Float). in_ln2s c y (minus_half f) in
      let u = neg (from c n) in
      let v = neg (to c n) in
      let A = sane c u in
      let B = sane c v in
      let C = not (le (s u) (neg (whole c n))) in
      let D = le (s v) (neg (whole c (suc n))) in
      let a = and_l A (B && (C && D)) p in
      let r = and_r A (B && (C && D)) p in
      let b = and_l B (C && D) r in
      let q = and_r B (C && D) r in
      let G = and_l (finite u) (finite (mul f (inverse_of c) u)) a in
      let G' = and_r (finite u) (finite (mul f (inverse_of c) u)) a in
      let K = and_l (finite v) (finite (mul f (inverse_of c) v)) b in
      let K' = and_r (finite v) (finite (mul f (inverse_of c) v)) b in
      let H = t.finites.2 in (
        under_by s x v X K (scale_mono (minus_half f) x v H X K X' K')
            (not_T (le (s x) (s v)) (λ (w : T (le (s x) (s v))). T_not (le (s x) (neg (whole c (suc n)))) low (le_trans_f (s x) (s v) (neg (whole c (suc n))) w (and_r C D q)))),
        under_by s u x G X (scale_mono (minus_half f) u x H G X G' X')
            (not_T (le (s u) (s x)) (λ (w : T (le (s u) (s x))). T_not (le (s u) (neg (whole c n))) (and_l C D q) (le_trans_f (s u) (s x) (neg (whole c n)) w high))),
      )

  -- ---- a value from 1 up to the limit, and its whole part
  record Cut (y : Float) (n : ℕ) : Type 0 where
    finite_y : T (finite y)
    sign : (N y ≡ 0) × (0 < P y)
    is : P y / den y ≡ n
    from_one : 1 ≤ n
    up_to : n ≤ m
    low : T (le (whole c n) y)
    high : T (not (le (whole c (suc n)) y))

  cut : (y : Float) → T (le one_f y) → T (le y (limit c m)) → Cut y (P y / den y)
  cut y h k =
      let n = P y / den y in
      let Y = finite_between one_f y (limit c m) tt tt h k in
      let g = above_parts one_f y tt tt Y h in
      let u : n < suc m = whole_under y (limit c m) (suc m) Y tt g.0 refl k (under_limit m) in
      let hi = cut_hi (F c) y n Y g.0 refl (le_trans u t.few) in
      record {
        finite_y = Y;
        sign = g;
        is = refl;
        from_one = some n (λ (e : n ≡ 0). T_not (le (whole c (suc n)) y) hi (subst (λ (i : ℕ). T (le (whole c (suc i)) y)) (sym e) (subst (λ (w : Float). T (le w y)) t.one_whole h)));
        up_to = le_of_suc-le-suc u;
        low = cut_lo (F c) y n Y g.0 refl (le_trans (le_of_lt u) t.few);
        high = hi;
      }
    where
      some : (n : ℕ) → (n ≡ 0 → ⊥) → 1 ≤ n
      some n h = omega (arith, h)

  -- ---- what is known of a reducible x
  module _ (x : Float) (ok : Reducible c x) where
    inside : In x (around (widest_of c))
    inside = mag_in x (widest_of c) ok

    finite_x : T (finite x)
    finite_x = finite_between (neg (widest_of c)) x (widest_of c) t.finites.5 t.finites.4 inside.0 inside.1

    finite_limit : T (finite (neg (limit c m)))
    finite_limit = finite-neg (limit c m) tt

    product_x : T (finite (mul (F c) (inverse_of c) x))
    product_x =
        let p = bounded (F c) (times (lit (inverse_of c)) (at 0)) (neg (widest_of c)) (widest_of c) (neg (limit c m)) (limit c m) x t.product inside.0 inside.1 in
        finite_between (neg (limit c m)) (mul (F c) (inverse_of c) x) (limit c m) finite_limit tt p.0 p.1

    in-limit : (h : Float) → half_like c x ≡ h → In (in_ln2s c x h) (around (limit c m))
    in-limit h e =
        subst (λ (y : Float). In (in_ln2s c x y) (around (limit c m))) e
        (bounded_all (F c) (steps c) (x ∷ half_like c x ∷ []) (ends c) (neg (limit c m)) (limit c m) t.reach (inside, (half_in c x, tt)))

    abbrev UpCase : (ℤ → Type 0) → Type 0
    UpCase Q = (n : ℕ) → n < m → is_sign_negative x ≡ false → Reduced c z (pos (suc n)) x → Q (pos (suc n))

    abbrev DownCase : (ℤ → Type 0) → Type 0
    DownCase Q = (j : ℕ) → j < m → is_sign_negative x ≡ true → Reduced c z (negsuc j) x → Q (negsuc j)

    reduced_up : (n : ℕ) → n < m → Near c (pos (suc n)) x → Reduced c z (pos (suc n)) x
    reduced_up n l h =
        let k = suc n in
        let q = subst (λ (i : ℕ). T (test_up c z i)) (zero-add n) (every_at (test_up c z) m 0 n t.ups l) in
        record { near = h; parts = parts_in (F c) z t.sound (head_code c (pos k)) (low_rest c (pos k)) (from c k) (to c k) x (and_r (placed_up c k) (parts_at c z (pos k) (from c k) (to c k)) q) h }

    reduced_down : (j : ℕ) → j < m → Near c (negsuc j) x → Reduced c z (negsuc j) x
    reduced_down j l h =
        let a = neg (to c (suc j)) in
        let b = neg (from c (suc j)) in
        let q = subst (λ (i : ℕ). T (test_down c z i)) (zero-add j) (every_at (test_down c z) m 0 j t.downs l) in
        record { near = h; parts = parts_in (F c) z t.sound (head_code c (negsuc j)) (low_rest c (negsuc j)) a b x (and_r (placed_down c (suc j)) (parts_at c z (negsuc j) a b) q) h }

    -- ---- the count from `more` on
    whole_up : (Q : ℤ → Type 0) → is_sign_negative x ≡ false → T (le (more_of c) x) → UpCase Q → Q (whole_of c x)
    whole_up Q s h k = go (P y / den y) (cut y one_le in_y.1)
      where
        e : half_like c x ≡ half (F c)
        e = ap (λ (b : Bool). cond b (minus_half (F c)) (half (F c))) s

        y : Float
        y = in_ln2s c x (half (F c))

        in_y : In y (around (limit c m))
        in_y = in-limit (half (F c)) e

        one_le : T (le one_f y)
        one_le = le_trans_f one_f (in_ln2s c (more_of c) (half (F c))) y t.first.0 (scale_mono (half (F c)) (more_of c) x t.finites.1 t.finites.3 finite_x t.first_product.0 product_x h)

        go : (n : ℕ) → Cut y n → Q (whole_of c x)
        go zero q = absurd (not-suc-le-zero q.from_one)
        go (suc n) q =
            let w = every_at (test_up c z) m 0 n t.ups q.up_to in
            let p = and_l (placed_up c (suc n)) (parts_at c z (pos (suc n)) (from c (suc n)) (to c (suc n))) (subst (λ (i : ℕ). T (test_up c z i)) (zero-add n) w) in
            subst Q (sym (ap (λ (h : Float). to_signed 63 (in_ln2s c x h)) e ∙ to_signed_up 63 y (suc n) q.finite_y q.sign.0 q.sign.1 q.is (lt_of_le q.up_to)))
            (k n q.up_to s (reduced_up n q.up_to (located_up (suc n) x p finite_x product_x q.low q.high)))
          where
            lt_of_le : (suc n ≤ m) → suc n < 2 ^ 63
            lt_of_le h = native.Mathlib.Nat.lt_of_le_of_lt h t.room

    whole_down : (Q : ℤ → Type 0) → is_sign_negative x ≡ true → T (le x (neg (more_of c))) → DownCase Q → Q (whole_of c x)
    whole_down Q s h k = go (P y / den y) (cut y one_le (subst (λ (w : Float). T (le y w)) (neg-neg (limit c m)) (neg-le (neg (limit c m)) y' in_y.0)))
      where
        e : half_like c x ≡ minus_half (F c)
        e = ap (λ (b : Bool). cond b (minus_half (F c)) (half (F c))) s

        y' : Float
        y' = in_ln2s c x (minus_half (F c))

        y : Float
        y = neg y'

        in_y : In y' (around (limit c m))
        in_y = in-limit (minus_half (F c)) e

        one_le : T (le one_f y)
        one_le =
            subst (λ (w : Float). T (le w y)) (neg-neg one_f)
            (neg-le y' (neg one_f) (le_trans_f y' (in_ln2s c (neg (more_of c)) (minus_half (F c))) (neg one_f) (scale_mono (minus_half (F c)) x (neg (more_of c)) t.finites.2 finite_x (finite-neg (more_of c) t.finites.3) product_x t.first_product.1 h) t.first.1))

        turned : (w : Float) → T (le w y) → T (le y' (neg w))
        turned w l = subst (λ (v : Float). T (le v (neg w))) (neg-neg y') (neg-le w y l)

        turned_back : (w : Float) → T (not (le w y)) → T (not (le y' (neg w)))
        turned_back w l = not_T (le y' (neg w)) (λ (v : T (le y' (neg w))). T_not (le w y) l (subst (λ (u : Float). T (le u y)) (neg-neg w) (neg-le y' (neg w) v)))

        go : (n : ℕ) → Cut y n → Q (whole_of c x)
        go zero q = absurd (not-suc-le-zero q.from_one)
        go (suc j) q =
            let w = every_at (test_down c z) m 0 j t.downs q.up_to in
            let p = and_l (placed_down c (suc j)) (parts_at c z (negsuc j) (neg (to c (suc j))) (neg (from c (suc j)))) (subst (λ (i : ℕ). T (test_down c z i)) (zero-add j) w) in
            subst Q (sym (ap (λ (h : Float). to_signed 63 (in_ln2s c x h)) e ∙ ap (to_signed 63) (sym (neg-neg y')) ∙ to_signed_down 63 y (suc j) q.finite_y q.sign.0 q.sign.1 q.is (native.Mathlib.Nat.lt_of_le_of_lt q.up_to t.room)))
            (k j q.up_to s (reduced_down j q.up_to (located_down j x p finite_x product_x (turned (whole c (suc j)) q.low) (turned_back (whole c (suc (suc j))) q.high))))

    -- ---- the count, of every reducible number
    pub count_case : (Q : ℤ → Type 0) → T (not (is_nan x)) → (T (below_bits (F c) x c.once) → Q (pos 0)) → UpCase Q → DownCase Q → Q (count_of c x)
    count_case Q n o u d =
        by_cases Q (below_bits (F c) x c.once) (pos 0) (cond (below_bits (F c) x c.more) (cond (is_sign_negative x) (negsuc 0) (pos 1)) (whole_of c x)) o
        (λ v. by_cases Q (below_bits (F c) x c.more) (cond (is_sign_negative x) (negsuc 0) (pos 1)) (whole_of c x)
        (λ w. near (not_below (F c) x c.once n t.once_room v) (lt-le (mag x) (more_of c) w))
        (λ w. far (not_below (F c) x c.more n t.more_room w)))
      where
        near : T (le (once_of c) (mag x)) → T (le (mag x) (more_of c)) → Q (cond (is_sign_negative x) (negsuc 0) (pos 1))
        near h k =
            let h' = le_trans_f (from c 1) (once_of c) (mag x) t.once_from h in
            let k' = le_trans_f (mag x) (more_of c) (to c 1) k t.more_to in
            by_cases Q (is_sign_negative x) (negsuc 0) (pos 1)
            (λ w. (let s = is_on (is_sign_negative x) w in d 0 t.some s (reduced_down 0 t.some (side_turned x (from c 1) (to c 1) s h' k'))))
            (λ w. (let s = is_off (is_sign_negative x) w in u 0 t.some s (reduced_up 0 t.some (side_plain x (from c 1) (to c 1) s h' k'))))

        far : T (le (more_of c) (mag x)) → Q (whole_of c x)
        far h = go (is_sign_negative x) refl
          where
            go : (s : Bool) → is_sign_negative x ≡ s → Q (whole_of c x)
            go false s = whole_up Q s (side_plain x (more_of c) (widest_of c) s h ok).0 u
            go true s = whole_down Q s (side_turned x (more_of c) (widest_of c) s h ok).1 d

-- ---- from a bound on x to one on the count
module _ (c : Ln2) where
  from_mono : (n k : ℕ) → n ≤ k → T (le (from c n) (from c k))
  from_mono n k h = round_mono (F c) ((2 * n - 1) * 693146) 2000000 ((2 * k - 1) * 693146) 2000000 (zero-lt-suc 1999999) (zero-lt-suc 1999999) (mul-le-mul_right 2000000 (mul-le-mul_right 693146 (odds n k h)))
    where
      odds : (n k : ℕ) → n ≤ k → 2 * n - 1 ≤ 2 * k - 1
      odds n k h = omega arith

  pub count_under : (m n : ℕ) (x b : Float) → T (not (le (from c (suc m)) b)) → T (le (from c n) x) → T (le x b) → n ≤ m
  count_under m n x b w h k =
      le_of_suc-le-suc (lt_of_not-le (λ (g : suc m ≤ n). T_not (le (from c (suc m)) b) w (le_trans_f (from c (suc m)) (from c n) b (from_mono (suc m) n g) (le_trans_f (from c n) x b h k))))
