-- What is left of a rounded sum: with r = fl (x + z), fl (x - r) is near -z. Assumes nothing.
use Rattle.std.proofs.Common.{◌≡◌, ℕ, ◌+◌, ◌*◌, ◌^◌, ◌<◌, ◌≤◌, not, T, sym, ap, ◌∙◌, subst, ap₂, add-zero, mul-le-mul_right, mul_assoc, mul_comm, add-mul, mul-pos, lt_of_not-le, zero-mul, mul-add, le_of_mul-le-mul_right, mul_left_comm, arith, T_not, pow_pos}
use lib.Ieee.{Float, Format, prec, low, neg, add, sub, le}
use lib.Ieee.Scale.{finite}
use lib.Ieee.Positive.{den, den_pos}
use Rattle.numeric.proofs.Rounding.{P, N, neg-P, neg-N, finite-neg, Is, Is_at, Le_of_le, rnd_mono}
use Rattle.numeric.proofs.Operations.{add-Is}
use Rattle.numeric.proofs.Error.{Off, off, neg_den}

ruleset ring = (mul-add, add-mul, mul_assoc, mul_comm, mul_left_comm)

pub shift : (px nx dx pz nz dz pr nr dr pd nd dd pe de E M : ℕ) → 0 < dz → 0 < M
    → (px * dz + pz * dx) * (dr * M) + nr * (dx * dz * M) ≤ pr * (dx * dz * M) + (nx * dz + nz * dx) * (dr * M) + E * (dr * (dx * dz))
    → nz * dd + nd * dz ≤ pd * dz + pz * dd
    → pe * M ≡ E * de
    → (px * dr + nr * dx) * (dd * de) + nd * de * (dx * dr) ≤ (pd * de + pe * dd) * (dx * dr) + (nx * dr + pr * dx) * (dd * de)
shift px nx dx pz nz dz pr nr dr pd nd dd pe de E M Z M0 h1 h2 h3 =
    let k1 = simp ring at (mul-le-mul_right (dd * de) h1) in
    let k2 = simp ring at (mul-le-mul_right (dx * dr * M * de) h2) in
    let k3 = simp ring at (ap (λ (z : ℕ). z * (dx * dr * dz * dd)) h3) in
    le_of_mul-le-mul_right (simp ring (omega arith)) (mul-pos Z M0)

not_lt-le : (a b : ℕ) → (b ≤ a → ⊥) → a < b
not_lt-le a b h = lt_of_not-le h

-- r = fl (x + z) is below 2 ^ (prec + K) units in size, so it is off by at most 2 ^ K / 2 of them
pub sum_off : (f : Format) (x z cap : Float) (K : ℕ) → T (finite x) → T (finite z) → T (finite (add f x z)) → Is f cap (2 ^ (prec f + K)) 0 (2 ^ low f) → Is f (neg cap) 0 (2 ^ (prec f + K)) (2 ^ low f)
    → T (not (le cap (add f x z))) → T (not (le (add f x z) (neg cap)))
    → Off (add f x z) (P x * den z + P z * den x) (N x * den z + N z * den x) (den x * den z) (2 ^ K) (2 ^ low f * 2)
sum_off f x z cap K X Z R i j h k =
    let p = P x * den z + P z * den x in
    let n = N x * den z + N z * den x in
    let c = den x * den z in
    let C : 0 < c = mul-pos (den_pos x) (den_pos z) in
    let l = 2 ^ low f in
    let t = 2 ^ (prec f + K) in
    let s = add-Is f x z X Z in
    off f (add f x z) p n c K C s R
    (not_lt-le (p * l) (n * l + t * c) (λ (w : n * l + t * c ≤ p * l). T_not (le cap (add f x z)) h (rnd_mono f cap (add f x z) t 0 l p n c (pow_pos (low f)) C i s (omega arith))))
    (not_lt-le (n * l) (p * l + t * c) (λ (w : p * l + t * c ≤ n * l). T_not (le (add f x z) (neg cap)) k (rnd_mono f (add f x z) (neg cap) p n c 0 t l C (pow_pos (low f)) s j (omega arith))))

minus-Is : (f : Format) (x y : Float) → T (finite x) → T (finite y) → Is f (add f x (neg y)) (P x * den y + N y * den x) (N x * den y + P y * den x) (den x * den y)
minus-Is f x y X Y =
    Is_at f (add f x (neg y)) (P x * den (neg y) + P (neg y) * den x) (N x * den (neg y) + N (neg y) * den x) (den x * den (neg y)) (P x * den y + N y * den x) (N x * den y + P y * den x) (den x * den y)
    (ap₂ (λ (u v : ℕ). P x * u + v * den x) (neg_den y) (neg-P y)) (ap₂ (λ (u v : ℕ). N x * u + v * den x) (neg_den y) (neg-N y)) (ap (λ (u : ℕ). den x * u) (neg_den y)) (add-Is f x (neg y) X (finite-neg y Y))

-- fl (x - r) ≤ fl (d + ep) where -z ≤ d, and fl (d - ep) ≤ fl (x - r) where d ≤ -z
pub residue_hi : (f : Format) (x z d ep : Float) (K : ℕ) → T (finite x) → T (finite z) → T (finite (add f x z)) → T (finite d) → T (finite ep) → N ep ≡ 0 → P ep * (2 ^ low f * 2) ≡ 2 ^ K * den ep
    → Off (add f x z) (P x * den z + P z * den x) (N x * den z + N z * den x) (den x * den z) (2 ^ K) (2 ^ low f * 2)
    → T (le (neg z) d) → T (le (sub f x (add f x z)) (add f d ep))
unfolding sub
residue_hi f x z d ep K X Z R D E n0 e o h =
    let r = add f x z in
    let M = 2 ^ low f * 2 in
    let q = Le_of_le (neg z) d (finite-neg z Z) D h in
    let q' : N z * den d + N d * den z ≤ P d * den z + P z * den d = subst (λ (u : ℕ). N z * den d + N d * u ≤ P d * u + P z * den d) (neg_den z) (subst (λ (u : ℕ). N z * den d + N d * den (neg z) ≤ P d * den (neg z) + u * den d) (neg-N z) (subst (λ (u : ℕ). u * den d + N d * den (neg z) ≤ P d * den (neg z) + N (neg z) * den d) (neg-P z) q)) in
    let g = shift (P x) (N x) (den x) (P z) (N z) (den z) (P r) (N r) (den r) (P d) (N d) (den d) (P ep) (den ep) (2 ^ K) M (den_pos z) (mul-pos (pow_pos (low f)) (pow_pos 1)) o.1 q' e in
    let zz : N ep * den d ≡ 0 = ap (λ (u : ℕ). u * den d) n0 ∙ zero-mul (den d) in
    let g' : (P x * den r + N r * den x) * (den d * den ep) + (N d * den ep + N ep * den d) * (den x * den r) ≤ (P d * den ep + P ep * den d) * (den x * den r) + (N x * den r + P r * den x) * (den d * den ep)
    = subst (λ (u : ℕ). (P x * den r + N r * den x) * (den d * den ep) + u * (den x * den r) ≤ (P d * den ep + P ep * den d) * (den x * den r) + (N x * den r + P r * den x) * (den d * den ep)) (sym (ap (λ (u : ℕ). N d * den ep + u) zz ∙ add-zero (N d * den ep))) g in
    rnd_mono f (add f x (neg r)) (add f d ep) (P x * den r + N r * den x) (N x * den r + P r * den x) (den x * den r) (P d * den ep + P ep * den d) (N d * den ep + N ep * den d) (den d * den ep)
    (mul-pos (den_pos x) (den_pos r)) (mul-pos (den_pos d) (den_pos ep)) (minus-Is f x r X R) (add-Is f d ep D E) g'

pub residue_lo : (f : Format) (x z d ep : Float) (K : ℕ) → T (finite x) → T (finite z) → T (finite (add f x z)) → T (finite d) → T (finite ep) → N ep ≡ 0 → P ep * (2 ^ low f * 2) ≡ 2 ^ K * den ep
    → Off (add f x z) (P x * den z + P z * den x) (N x * den z + N z * den x) (den x * den z) (2 ^ K) (2 ^ low f * 2)
    → T (le d (neg z)) → T (le (sub f d ep) (sub f x (add f x z)))
unfolding sub
residue_lo f x z d ep K X Z R D E n0 e o h =
    let r = add f x z in
    let M = 2 ^ low f * 2 in
    let q = Le_of_le d (neg z) D (finite-neg z Z) h in
    let q' : P z * den d + P d * den z ≤ N d * den z + N z * den d = swap (P d * den z) (P z * den d) (N z * den d) (N d * den z) (subst (λ (u : ℕ). P d * u + P z * den d ≤ N z * den d + N d * u) (neg_den z) (subst (λ (u : ℕ). P d * den (neg z) + u * den d ≤ N z * den d + N d * den (neg z)) (neg-N z) (subst (λ (u : ℕ). P d * den (neg z) + N (neg z) * den d ≤ u * den d + N d * den (neg z)) (neg-P z) q))) in
    let o' = o.0 in
    let g = shift (N x) (P x) (den x) (N z) (P z) (den z) (N r) (P r) (den r) (N d) (P d) (den d) (P ep) (den ep) (2 ^ K) M (den_pos z) (mul-pos (pow_pos (low f)) (pow_pos 1)) (omega arith) q' e in
    let zz : N ep * den d ≡ 0 = ap (λ (u : ℕ). u * den d) n0 ∙ zero-mul (den d) in
    let g' : (P d * den ep + N ep * den d) * (den x * den r) + (N x * den r + P r * den x) * (den d * den ep) ≤ (P x * den r + N r * den x) * (den d * den ep) + (N d * den ep + P ep * den d) * (den x * den r)
    = subst (λ (u : ℕ). u * (den x * den r) + (N x * den r + P r * den x) * (den d * den ep) ≤ (P x * den r + N r * den x) * (den d * den ep) + (N d * den ep + P ep * den d) * (den x * den r)) (sym (ap (λ (u : ℕ). P d * den ep + u) zz ∙ add-zero (P d * den ep))) (omega arith) in
    rnd_mono f (add f d (neg ep)) (add f x (neg r)) (P d * den ep + N ep * den d) (N d * den ep + P ep * den d) (den d * den ep) (P x * den r + N r * den x) (N x * den r + P r * den x) (den x * den r)
    (mul-pos (den_pos d) (den_pos ep)) (mul-pos (den_pos x) (den_pos r)) (minus-Is f d ep D E) (minus-Is f x r X R) g'
  where
    swap : (a b c d : ℕ) → a + b ≤ c + d → b + a ≤ d + c
    swap a b c d h = omega arith
