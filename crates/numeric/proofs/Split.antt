-- What is left of a difference r = h - l: the correction c = (h - r) - l, where r is below one half in size and l small. Assumes nothing.
use Rattle.std.proofs.Common.{◌≡◌, ℕ, ◌+◌, ◌*◌, ◌^◌, Bool, false, not, ◌&&◌, T, [], ◌∷◌, negsuc, sym, subst, T_not}
use lib.Dec.{not_T}
use lib.Ieee.{Float, Format, fin, prec, low, neg, add, sub, le}
use lib.Ieee.Scale.{finite}
use lib.Ieee.Positive.{den}
use Rattle.numeric.proofs.Rounding.{P, N, neg-neg, finite-neg, Is, le_trans_f, and_l, and_r}
use Rattle.numeric.proofs.Intervals.{Itv, mk, In, within, finite_between}
use Rattle.numeric.proofs.Programs.{Code, at, lit, minus, eval, span, fits_in, bounded, bounded_all}
use Rattle.numeric.proofs.Residue.{sum_off, residue_hi, residue_lo}

-- the sizes that the parts keep to: the head h, the tail l, the rest r and the correction c
pub record Sizes : Type 0 where
  pub head : Float
  pub tail : Float
  pub rest : Float
  pub correction : Float
  -- a value below one half is off by at most 2 ^ places / 2 of the smallest values, which is `slack`
  pub places : ℕ
  pub slack : Float

-- from -b to b
abbrev pub around : Float → Itv
around b = mk (neg b) b

abbrev one_half : Float
one_half = fin false 1 (negsuc 0)

-- the head less the rest
abbrev pub left : Format → Sizes → Itv
left f z = mk (sub f (neg z.tail) z.slack) (add f z.tail z.slack)

-- what has to be computed of the sizes
pub record Sound (f : Format) (z : Sizes) : Type 0 where
  pub half_is : Is f one_half (2 ^ (prec f + z.places)) 0 (2 ^ low f)
  pub half_turned : Is f (neg one_half) 0 (2 ^ (prec f + z.places)) (2 ^ low f)
  pub slack_is : P z.slack * (2 ^ low f * 2) ≡ 2 ^ z.places * den z.slack
  pub slack_plain : N z.slack ≡ 0
  pub finite_slack : T (finite z.slack)
  pub finite_head : T (finite (neg z.head)) × T (finite z.head)
  pub finite_tail : T (finite (neg z.tail)) × T (finite z.tail)
  pub finite_rest : T (finite (neg z.rest)) × T (finite z.rest)
  pub below_half : T (not (le one_half z.rest))
  pub above_half : T (not (le (neg z.rest) (neg one_half)))
  pub step : T (fits_in (span f (minus (at 0) (at 1)) (left f z ∷ around z.tail ∷ [])) (neg z.correction) z.correction)

module _ (f : Format) (z : Sizes) (s : Sound f z) where
  residue_in : (h l : Float) → T (finite h) → T (finite l) → In (sub f h l) (around z.rest) → In l (around z.tail) → In (sub f h (sub f h l)) (left f z)
  unfolding sub
  residue_in h l H L (a, b) (a', b') =
      let t = z.tail in
      let m = neg l in
      let M = finite-neg l L in
      let r = add f h m in
      let R = finite_between (neg z.rest) r z.rest s.finite_rest.0 s.finite_rest.1 a b in
      let o = sum_off f h m one_half z.places H M R s.half_is s.half_turned (not_T (le one_half r) (λ (w : T (le one_half r)). T_not (le one_half z.rest) s.below_half (le_trans_f one_half r z.rest w b)))
      (not_T (le r (neg one_half)) (λ (w : T (le r (neg one_half))). T_not (le (neg z.rest) (neg one_half)) s.above_half (le_trans_f (neg z.rest) r (neg one_half) a w))) in (
        residue_lo f h m (neg t) z.slack z.places H M R s.finite_tail.0 s.finite_slack s.slack_plain s.slack_is o (subst (λ (w : Float). T (le (neg t) w)) (sym (neg-neg l)) a'),
        residue_hi f h m t z.slack z.places H M R s.finite_tail.1 s.finite_slack s.slack_plain s.slack_is o (subst (λ (w : Float). T (le w t)) (sym (neg-neg l)) b'),
      )

  pub correction_in : (h l : Float) → T (finite h) → T (finite l) → In (sub f h l) (around z.rest) → In l (around z.tail) → In (sub f (sub f h (sub f h l)) l) (around z.correction)
  correction_in h l H L r k =
      bounded_all f (minus (at 0) (at 1)) (sub f h (sub f h l) ∷ l ∷ []) (left f z ∷ around z.tail ∷ []) (neg z.correction) z.correction s.step (residue_in h l H L r k, (k, tt))

-- ---- the head h as code over one value x, the tail l a constant: a test that all parts are small where x lies between a and b
abbrev pub small_parts : Format → Sizes → Code → Float → Float → Float → Bool
small_parts f z h l a b =
    fits_in (span f h (mk a b ∷ [])) (neg z.head) z.head
    && (fits_in (span f (minus h (lit l)) (mk a b ∷ [])) (neg z.rest) z.rest && within (neg z.tail) l z.tail)

-- the parts of h - l keep to their sizes
pub record Parts (f : Format) (z : Sizes) (h l : Float) : Type 0 where
  pub head : In h (around z.head)
  pub tail : In l (around z.tail)
  pub rest : In (sub f h l) (around z.rest)
  pub correction : In (sub f (sub f h (sub f h l)) l) (around z.correction)

pub parts_in : (f : Format) (z : Sizes) → Sound f z → (h : Code) (l a b x : Float) → T (small_parts f z h l a b) → In x (mk a b) → Parts f z (eval f h (x ∷ [])) l
parts_in f z s h l a b x t (i, j) =
    let A = fits_in (span f h (mk a b ∷ [])) (neg z.head) z.head in
    let B = fits_in (span f (minus h (lit l)) (mk a b ∷ [])) (neg z.rest) z.rest in
    let C = within (neg z.tail) l z.tail in
    let u = and_r B C (and_r A (B && C) t) in
    let y = eval f h (x ∷ []) in
    let k : In y (around z.head) = bounded f h a b (neg z.head) z.head x (and_l A (B && C) t) i j in
    let r : In (sub f y l) (around z.rest) = bounded f (minus h (lit l)) a b (neg z.rest) z.rest x (and_l B C (and_r A (B && C) t)) i j in
    let q : In l (around z.tail) = (and_l (le (neg z.tail) l) (le l z.tail) u, and_r (le (neg z.tail) l) (le l z.tail) u) in
    let H = finite_between (neg z.head) y z.head s.finite_head.0 s.finite_head.1 k.0 k.1 in
    let L = finite_between (neg z.tail) l z.tail s.finite_tail.0 s.finite_tail.1 q.0 q.1 in
    record { head = k; tail = q; rest = r; correction = correction_in f z s y l H L r q }
