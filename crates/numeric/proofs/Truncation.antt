-- What a value with its fraction dropped is, and how large. Assumes nothing.
use Rattle.std.proofs.Common.{◌≡◌, ℕ, suc, ◌-◌, ◌*◌, ◌/◌, ◌^◌, ◌<◌, ◌≤◌, min, true, false, not, T, ℤ, pos, neg_ℤ, ◌≤ℤ◌, sym, refl, ap, ◌∙◌, true≢false, le_of_eq, lt_irrefl, mul-le-mul_right, div-lt_iff_lt-mul, mul-lt-mul_of_pos_right, le-div_iff_mul-le, zero-mul, mul-one, mul_right_comm, arith}
use lib.Dec.{not_T}
use Rattle.std.proofs.lemmas.Int.{ints}
use lib.Ieee.{Float, nan, inf, fin, down, neg, to_signed, Format, prec, up, round, le}
use lib.Ieee.Exact.{HasValue}
use lib.Ieee.Back.{round_whole}
use lib.Ieee.Scale.{finite}
use lib.Ieee.Positive.{den, den_pos}
use Rattle.numeric.proofs.Rounding.{P, N, Le_of_le, le_of_Le, neg-le}
use Rattle.numeric.proofs.Order.{whole_under}

parts : (x : Float) (k : ℕ) → HasValue x false k 1 → T (finite x) × (P x ≡ k * den x) × (N x ≡ 0)
parts nan k h = absurd h
parts (inf s) k h = absurd h
parts (fin true m e) k h = absurd (true≢false h.0)
parts (fin false m e) k h = (tt, sym (mul-one (m * up e)) ∙ h.1, refl)

-- y is not negative, and its whole part is k
pub cut_lo : (f : Format) (y : Float) (k : ℕ) → T (finite y) → N y ≡ 0 → P y / den y ≡ k → k ≤ 2 ^ prec f → T (le (round f false k 1) y)
cut_lo f y k Y n e h =
    let w = round f false k 1 in
    let q = parts w k (round_whole f false k h) in
    let a : k * den y ≤ P y = (le-div_iff_mul-le (den_pos y)).0 (le_of_eq (sym e)) in
    let b = mul-le-mul_right (den w) a in
    let c : P w * den y ≡ k * den y * den w = ap (λ (z : ℕ). z * den y) q.1 ∙ mul_right_comm k (den w) (den y) in
    let d : N y * den w ≡ 0 = ap (λ (z : ℕ). z * den w) n ∙ zero-mul (den w) in
    le_of_Le w y q.0 Y (omega arith)

pub cut_hi : (f : Format) (y : Float) (k : ℕ) → T (finite y) → N y ≡ 0 → P y / den y ≡ k → suc k ≤ 2 ^ prec f → T (not (le (round f false (suc k) 1) y))
cut_hi f y k Y n e h = not_T (le (round f false (suc k) 1) y) (λ (t : T (le (round f false (suc k) 1) y)). no t)
  where
    no : T (le (round f false (suc k) 1) y) → ⊥
    no t =
        let w = round f false (suc k) 1 in
        let q = parts w (suc k) (round_whole f false (suc k) h) in
        let g = Le_of_le w y q.0 Y t in
        let a : P y < suc k * den y = (div-lt_iff_lt-mul (den_pos y)).0 (le_of_eq (ap suc e)) in
        let b = mul-lt-mul_of_pos_right a (den_pos w) in
        let c : P w * den y ≡ suc k * den y * den w = ap (λ (z : ℕ). z * den y) q.1 ∙ mul_right_comm (suc k) (den w) (den y) in
        let d : N w * den y ≡ 0 = ap (λ (z : ℕ). z * den y) q.2 ∙ zero-mul (den y) in
        lt_irrefl 0 (omega arith)

-- ---- a cast to a whole number of a value above zero, and of its opposite
pub to_signed_up : (h : ℕ) (y : Float) (n : ℕ) → T (finite y) → N y ≡ 0 → 0 < P y → P y / den y ≡ n → n < 2 ^ h → to_signed h y ≡ pos n
unfolding to_signed
to_signed_up h nan n Y z p e l = absurd Y
to_signed_up h (inf s) n Y z p e l = absurd Y
to_signed_up h (fin true m g) n Y z p e l = absurd (lt_irrefl 0 p)
to_signed_up h (fin false m g) n Y z p e l = ap pos (least (m * up g / down g) n (2 ^ h) e l)
  where
    least : (q n t : ℕ) → q ≡ n → n < t → min q (t - 1) ≡ n
    least q n t e l = omega arith

pub to_signed_down : (h : ℕ) (y : Float) (n : ℕ) → T (finite y) → N y ≡ 0 → 0 < P y → P y / den y ≡ n → n < 2 ^ h → to_signed h (neg y) ≡ neg_ℤ (pos n)
unfolding to_signed neg
to_signed_down h nan n Y z p e l = absurd Y
to_signed_down h (inf s) n Y z p e l = absurd Y
to_signed_down h (fin true m g) n Y z p e l = absurd (lt_irrefl 0 p)
to_signed_down h (fin false m g) n Y z p e l = ap (λ (i : ℕ). neg_ℤ (pos i)) (least (m * up g / down g) n (2 ^ h) e l)
  where
    least : (q n t : ℕ) → q ≡ n → n < t → min q t ≡ n
    least q n t e l = omega arith

-- ---- between -n and n it stays there
abbrev pub Within : ℕ → ℤ → Type 0
Within n k = (neg_ℤ (pos n) ≤ℤ k) × (k ≤ℤ pos n)

up_within : (n j : ℕ) → j ≤ n → Within n (pos j)
up_within n j h = (omega (arith, ints), omega (arith, ints))

down_within : (n j : ℕ) → j ≤ n → Within n (neg_ℤ (pos j))
down_within n j h = (omega (arith, ints), omega (arith, ints))

least : (q t n : ℕ) → q < suc n → min q t ≤ n
least q t n h = omega arith

under : (m n : ℕ) (e : ℤ) → T (le (fin false m e) (fin false n (pos 0))) → m * up e / down e < suc n
under m n e h = whole_under (fin false m e) (fin false n (pos 0)) (suc n) tt tt refl refl h (more n)
  where
    more : (n : ℕ) → n * 1 < suc n * 1
    more n = omega arith

pub to_signed_within : (h n : ℕ) (y : Float) → T (le (neg (fin false n (pos 0))) y) → T (le y (fin false n (pos 0))) → Within n (to_signed h y)
to_signed_within h n nan a b = absurd (unfold le in b)
to_signed_within h n (inf true) a b = absurd (unfold le neg in a)
to_signed_within h n (inf false) a b = absurd (unfold le in b)
to_signed_within h n (fin false m e) a b = unfold to_signed in up_within n (min (m * up e / down e) (2 ^ h - 1)) (least (m * up e / down e) (2 ^ h - 1) n (under m n e b))
to_signed_within h n (fin true m e) a b =
    unfold to_signed in
    down_within n (min (m * up e / down e) (2 ^ h)) (least (m * up e / down e) (2 ^ h) n (under m n e (unfold neg in neg-le (neg (fin false n (pos 0))) (fin true m e) a)))
