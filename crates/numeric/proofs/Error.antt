-- How far rounding moves a value: at most half of the last place. Assumes nothing.
use Rattle.std.proofs.Common.{◌≡◌, ℕ, ◌+◌, ◌-◌, ◌*◌, ◌/◌, ◌^◌, ◌<◌, ◌≤◌, true, false, T, sym, refl, ap, ◌∙◌, subst, inl, inr, true≢false, lt_of_le_of_lt, mul-le-mul_right, mul_assoc, mul_comm, div-lt_iff_lt-mul, add-mul, mul-le-mul_left, mul-pos, lt_of_not-le, le-div_iff_mul-le, zero-mul, not-le_of_lt, mul_left_comm, arith, pow_pos, pow_mono, pow-add}
use lib.Ieee.{Float, nan, inf, fin, Format, prec, low, size, round, neg}
use lib.Ieee.Digits.{size-le, size-lt, size_reaches}
use lib.Ieee.Fits.{two, two-le_pos}
use lib.Ieee.Exact.{HasValue}
use lib.Ieee.Order.{kept, drop}
use lib.Ieee.Scale.{finite, grid, round_val, round_under}
use lib.Ieee.Positive.{den}
use Rattle.numeric.proofs.Rounding.{P, N, round-neg, neg-P, neg-N, Is}
use Rattle.numeric.proofs.Nearest.{within_half}

fewer : (z p K : ℕ) → z ≤ p + K → z - p ≤ K
fewer z p K h = omega arith

pub near_grid : (f : Format) (a c K : ℕ) → 0 < c → a * 2 ^ low f < 2 ^ (prec f + K) * c → (grid f a c * c * 2 ≤ a * 2 ^ low f * 2 + c * 2 ^ K) × (a * 2 ^ low f * 2 ≤ grid f a c * c * 2 + c * 2 ^ K)
near_grid f a c K C h =
    let n = a * 2 ^ low f in
    let k = drop (prec f) n c in
    let w = kept (prec f) n c in
    let d : k ≤ K = fewer (size (n / c)) (prec f) K (size-le (n / c) (prec f + K) ((div-lt_iff_lt-mul C).1 h)) in
    let m : c * 2 ^ k ≤ c * 2 ^ K = mul-le-mul_left c (pow_mono d) in
    let e : w * (c * 2 ^ k) ≡ w * 2 ^ k * c = ap (λ (z : ℕ). w * z) (mul_comm c (2 ^ k)) ∙ sym (mul_assoc w (2 ^ k) c) in
    let t = within_half n (c * 2 ^ k) (mul-pos C (pow_pos k)) in
    let t0 : w * (c * 2 ^ k) * 2 ≤ n * 2 + c * 2 ^ k = t.0 in
    let t1 : n * 2 ≤ w * (c * 2 ^ k) * 2 + c * 2 ^ k = t.1 in
    ((omega arith), (omega arith))

-- ---- relative to the value: in the normal range a rounded fraction is off by at most 2 ^ -prec of it
off_by : (G n E H Q : ℕ) → G * 2 ≤ n * 2 + E → n * 2 ≤ G * 2 + E → E * H ≤ n → Q ≡ 2 * H → (G * Q ≤ n * Q + n) × (n * Q ≤ G * Q + n)
off_by G n E H Q h k s e =
    let a : G * Q ≡ G * 2 * H = ap (λ (z : ℕ). G * z) e ∙ sym (mul_assoc G 2 H) in
    let b : n * Q ≡ n * 2 * H = ap (λ (z : ℕ). n * z) e ∙ sym (mul_assoc n 2 H) in
    let h' = mul-le-mul_right H h in
    let k' = mul-le-mul_right H k in
    let c = add-mul (n * 2) E H in
    let d = add-mul (G * 2) E H in
    ((omega arith), (omega arith))

pub relative_error : (f : Format) (a c : ℕ) → 0 < c → 2 ^ (prec f - 1) * c ≤ a * 2 ^ low f
    → (grid f a c * c * 2 ^ prec f ≤ a * 2 ^ low f * 2 ^ prec f + a * 2 ^ low f) × (a * 2 ^ low f * 2 ^ prec f ≤ grid f a c * c * 2 ^ prec f + a * 2 ^ low f)
relative_error f a c C h =
    let n = a * 2 ^ low f in
    let p = prec f in
    let z = size (n / c) in
    let K = z - p in
    let P1 : 0 < p = two-le_pos p (two f) in
    let q : 2 ^ (p - 1) ≤ n / c = (le-div_iff_mul-le C).1 h in
    let long : p ≤ z = reached p z P1 (lt_of_le_of_lt q (size-lt (n / c))) in
    let whole : p + K ≡ z = there p z long in
    let under : n < 2 ^ (p + K) * c = subst (λ (y : ℕ). n < 2 ^ y * c) (sym whole) ((div-lt_iff_lt-mul C).0 (size-lt (n / c))) in
    let t = near_grid f a c K C under in
    let over : 2 ^ (z - 1) * c ≤ n = (le-div_iff_mul-le C).0 (size_reaches (n / c) (z - 1) (before p z P1 long)) in
    let split : 2 ^ (z - 1) ≡ 2 ^ K * 2 ^ (p - 1) = ap (λ (y : ℕ). 2 ^ y) (apart p z P1 long) ∙ pow-add 2 K (p - 1) in
    let small : c * 2 ^ K * 2 ^ (p - 1) ≤ n = subst (λ (y : ℕ). y ≤ n) (ap (λ (y : ℕ). y * c) split ∙ mul_comm (2 ^ K * 2 ^ (p - 1)) c ∙ sym (mul_assoc c (2 ^ K) (2 ^ (p - 1)))) over in
    off_by (grid f a c * c) n (c * 2 ^ K) (2 ^ (p - 1)) (2 ^ p) t.0 t.1 small (ap (λ (y : ℕ). 2 ^ y) (doubled p P1) ∙ pow-add 2 1 (p - 1))
  where
    reached : (p z : ℕ) → 0 < p → 2 ^ (p - 1) < 2 ^ z → p ≤ z
    reached p z h g = back p z h (lt_of_not-le (λ (l : z ≤ p - 1). not-le_of_lt g (pow_mono l)))
      where
        back : (p z : ℕ) → 0 < p → p - 1 < z → p ≤ z
        back p z h l = omega arith

    there : (p z : ℕ) → p ≤ z → p + (z - p) ≡ z
    there p z h = omega arith

    before : (p z : ℕ) → 0 < p → p ≤ z → z - 1 < z
    before p z h g = omega arith

    apart : (p z : ℕ) → 0 < p → p ≤ z → z - 1 ≡ z - p + (p - 1)
    apart p z h g = omega arith

    doubled : (p : ℕ) → 0 < p → p ≡ 1 + (p - 1)
    doubled p h = omega arith

-- ---- with the sign: x is (p - n) / c moved by at most E / (l * 2), where l is 2 ^ low and E is 2 ^ K
core : (X D c a n p l E g : ℕ) → p ≡ n + a → X * l ≡ g * D → g * c * 2 ≤ a * l * 2 + c * E → a * l * 2 ≤ g * c * 2 + c * E
    → (X * (c * (l * 2)) + n * (D * (l * 2)) ≤ p * (D * (l * 2)) + E * (D * c)) × (p * (D * (l * 2)) ≤ X * (c * (l * 2)) + n * (D * (l * 2)) + E * (D * c))
core X D c a n p l E g e v h k =
    let e1 : X * (c * (l * 2)) ≡ g * c * 2 * D = step X c l 2 ∙ ap (λ (z : ℕ). z * (c * 2)) v ∙ step' g D c 2 in
    let e2 : p * (D * (l * 2)) ≡ n * (D * (l * 2)) + a * (D * (l * 2)) = ap (λ (z : ℕ). z * (D * (l * 2))) e ∙ add-mul n a (D * (l * 2)) in
    let e3 : a * (D * (l * 2)) ≡ a * l * 2 * D = step a D l 2 ∙ ap (λ (z : ℕ). a * l * z) (mul_comm D 2) ∙ sym (mul_assoc (a * l) 2 D) in
    let e4 : c * E * D ≡ E * (D * c) = step'' c E D in
    let h' = mul-le-mul_right D h in
    let k' = mul-le-mul_right D k in
    let h1 = add-mul (a * l * 2) (c * E) D in
    let k1 = add-mul (g * c * 2) (c * E) D in
    ((omega arith), (omega arith))
  where
    step : (a b c d : ℕ) → a * (b * (c * d)) ≡ a * c * (b * d)
    step a b c d = simp (mul_assoc, mul_comm, mul_left_comm)

    step' : (a b c d : ℕ) → a * b * (c * d) ≡ a * c * d * b
    step' a b c d = simp (mul_assoc, mul_comm, mul_left_comm)

    step'' : (a b c : ℕ) → a * b * c ≡ b * (c * a)
    step'' a b c = simp (mul_assoc, mul_comm, mul_left_comm)

parts : (x : Float) (g l : ℕ) → HasValue x false g l → (P x * l ≡ g * den x) × (N x ≡ 0)
parts nan g l h = absurd h
parts (inf s) g l h = absurd h
parts (fin true m e) g l h = absurd (true≢false h.0)
parts (fin false m e) g l h = (h.1, refl)

pub neg_den : (x : Float) → den (neg x) ≡ den x
unfolding neg
neg_den nan = refl
neg_den (inf s) = refl
neg_den (fin s m e) = refl

neg-finite : (x : Float) → T (finite (neg x)) → T (finite x)
unfolding neg
neg-finite nan p = p
neg-finite (inf s) p = p
neg-finite (fin s m e) p = tt

-- x exceeds (p - n) / c by at most E / M, and falls short of it by no more
abbrev pub Off : Float → ℕ → ℕ → ℕ → ℕ → ℕ → Type 0
Off x p n c E M = (P x * (c * M) + n * (den x * M) ≤ p * (den x * M) + N x * (c * M) + E * (den x * c)) × (p * (den x * M) + N x * (c * M) ≤ P x * (c * M) + n * (den x * M) + E * (den x * c))

off_pos : (f : Format) (x : Float) (a p n c K : ℕ) → 0 < c → p ≡ n + a → x ≡ round f false a c → T (finite x) → a * 2 ^ low f < 2 ^ (prec f + K) * c → Off x p n c (2 ^ K) (2 ^ low f * 2)
off_pos f x a p n c K C e i F h =
    let g = grid f a c in
    let v : HasValue x false g (2 ^ low f) = subst (λ (z : Float). HasValue z false g (2 ^ low f)) (sym i) (round_val f a c (round_under f a c (subst (λ (z : Float). T (finite z)) i F))) in
    let w = parts x g (2 ^ low f) v in
    let t = near_grid f a c K C h in
    let r = core (P x) (den x) c a n p (2 ^ low f) (2 ^ K) g e w.0 t.0 t.1 in
    let r0 = r.0 in
    let r1 = r.1 in
    let z : N x * (c * (2 ^ low f * 2)) ≡ 0 = ap (λ (u : ℕ). u * (c * (2 ^ low f * 2))) w.1 ∙ zero-mul (c * (2 ^ low f * 2)) in
    ((omega arith), (omega arith))

pub off : (f : Format) (x : Float) (p n c K : ℕ) → 0 < c → Is f x p n c → T (finite x) → p * 2 ^ low f < n * 2 ^ low f + 2 ^ (prec f + K) * c → n * 2 ^ low f < p * 2 ^ low f + 2 ^ (prec f + K) * c → Off x p n c (2 ^ K) (2 ^ low f * 2)
off f x p n c K C (inl (a, e, i)) F h k =
    let s : p * 2 ^ low f ≡ n * 2 ^ low f + a * 2 ^ low f = ap (λ (z : ℕ). z * 2 ^ low f) e ∙ add-mul n a (2 ^ low f) in
    off_pos f x a p n c K C e i F (omega arith)
off f x p n c K C (inr (a, e, i)) F h k =
    let s : n * 2 ^ low f ≡ p * 2 ^ low f + a * 2 ^ low f = ap (λ (z : ℕ). z * 2 ^ low f) e ∙ add-mul p a (2 ^ low f) in
    let y = round f false a c in
    let j : x ≡ neg y = i ∙ round-neg f false a c in
    let r = off_pos f y a n p c K C e refl (neg-finite y (subst (λ (z : Float). T (finite z)) j F)) (omega arith) in
    subst (λ (z : Float). Off z p n c (2 ^ K) (2 ^ low f * 2)) (sym j) (turn y r.0 r.1)
  where
    turn : (y : Float) → P y * (c * (2 ^ low f * 2)) + p * (den y * (2 ^ low f * 2)) ≤ n * (den y * (2 ^ low f * 2)) + N y * (c * (2 ^ low f * 2)) + 2 ^ K * (den y * c)
        → n * (den y * (2 ^ low f * 2)) + N y * (c * (2 ^ low f * 2)) ≤ P y * (c * (2 ^ low f * 2)) + p * (den y * (2 ^ low f * 2)) + 2 ^ K * (den y * c)
        → Off (neg y) p n c (2 ^ K) (2 ^ low f * 2)
    turn y u v =
        subst (λ (z : ℕ). (P (neg y) * (c * (2 ^ low f * 2)) + n * (z * (2 ^ low f * 2)) ≤ p * (z * (2 ^ low f * 2)) + N (neg y) * (c * (2 ^ low f * 2)) + 2 ^ K * (z * c)) × (p * (z * (2 ^ low f * 2)) + N (neg y) * (c * (2 ^ low f * 2)) ≤ P (neg y) * (c * (2 ^ low f * 2)) + n * (z * (2 ^ low f * 2)) + 2 ^ K * (z * c))) (sym (neg_den y))
        (let a = ap (λ (z : ℕ). z * (c * (2 ^ low f * 2))) (neg-P y) in
        let b = ap (λ (z : ℕ). z * (c * (2 ^ low f * 2))) (neg-N y) in
        ((omega arith), (omega arith)))
