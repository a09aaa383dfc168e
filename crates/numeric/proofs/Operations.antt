-- The four operations as signed fractions, and their order. Assumes nothing.
use Rattle.std.proofs.Common.{◌≡◌, ℕ, zero, suc, ◌+◌, ◌-◌, ◌*◌, ◌<◌, ◌≤◌, Bool, true, false, cond, not, T, eqb, ltb, ◌⊎◌, sym, refl, ap, ◌∙◌, subst, ap₂, inl, inr, lt_irrefl, mul-le-mul_right, mul_comm, add-mul, mul-le-mul_left, mul-pos, mul-zero, zero-mul, mul-add, arith, ltb→lt, nltb→le}
use native.Mathlib.Nat.{mul-mul-mul_comm}
use lib.Dec.{eqb-suc-zero}
use lib.Ieee.{Float, nan, inf, fin, Format, up, down, unlike, round, sum, neg, add, sub, mul, div, le}
use lib.Ieee.Scale.{finite}
use lib.Ieee.Positive.{den, den_pos}
use Rattle.numeric.proofs.Rounding.{pz, nz, P, N, Le_of_le, neg-le, finite-neg, Is, Is_at, rnd_mono, pz_mul, nz_mul}

-- ---- the sum
sum-Is : (f : Format) (s : Bool) (a : ℕ) (t : Bool) (b c : ℕ) → Is f (sum f s a t b c) (pz s a + pz t b) (nz s a + nz t b) c
unfolding sum
sum-Is f false a false b c = inl (a + b, (omega arith), refl)
sum-Is f true a true b c = inr (a + b, (omega arith), refl)
sum-Is f false a true b c = go (ltb a b) (ltb→lt a b) (nltb→le a b)
  where
    go : (x : Bool) → (T x → a < b) → (T (not x) → b ≤ a) → Is f (cond x (round f true (b - a) c) (round f false (a - b) c)) (a + 0) (0 + b) c
    go true h k = let l : a < b = h tt in inr (b - a, (omega arith), refl)
    go false h k = let l : b ≤ a = k tt in inl (a - b, (omega arith), refl)
sum-Is f true a false b c = go (ltb a b) (ltb b a) (ltb→lt a b) (nltb→le a b) (nltb→le b a)
  where
    go : (x y : Bool) → (T x → a < b) → (T (not x) → b ≤ a) → (T (not y) → a ≤ b) → Is f (cond x (round f false (b - a) c) (round f y (a - b) c)) (0 + b) (a + 0) c
    go true y h k g = let l : a < b = h tt in inl (b - a, (omega arith), refl)
    go false true h k g = let l : b ≤ a = k tt in inr (a - b, (omega arith), refl)
    go false false h k g = let l : b ≤ a = k tt in let r : a ≤ b = g tt in inl (a - b, (omega arith), refl)

pub add-Is : (f : Format) (x y : Float) → T (finite x) → T (finite y) → Is f (add f x y) (P x * den y + P y * den x) (N x * den y + N y * den x) (den x * den y)
unfolding add
add-Is f nan y p q = absurd p
add-Is f (inf s) y p q = absurd p
add-Is f (fin s m e) nan p q = absurd q
add-Is f (fin s m e) (inf t) p q = absurd q
add-Is f (fin s m e) (fin t n d) p q =
    let a = m * up e in
    let b = n * up d in
    Is_at f (sum f s (a * down d) t (b * down e) (down e * down d)) (pz s (a * down d) + pz t (b * down e)) (nz s (a * down d) + nz t (b * down e)) (down e * down d)
    (pz s a * down d + pz t b * down e) (nz s a * down d + nz t b * down e) (down e * down d)
    (ap₂ (λ (u v : ℕ). u + v) (pz_mul s a (down d)) (pz_mul t b (down e))) (ap₂ (λ (u v : ℕ). u + v) (nz_mul s a (down d)) (nz_mul t b (down e))) refl
    (sum-Is f s (a * down d) t (b * down e) (down e * down d))

-- (a / d + c / b) in the units of the others
cross : (a b c d u v : ℕ) → (a * b + c * d) * (u * v) ≡ a * u * (b * v) + c * v * (d * u)
cross a b c d u v = add-mul (a * b) (c * d) (u * v) ∙ ap₂ (λ (y z : ℕ). y + z) (mul-mul-mul_comm a b u v) (ap (λ (z : ℕ). c * d * z) (mul_comm u v) ∙ mul-mul-mul_comm c d v u)

add_ineq : (px nx dx px' nx' dx' py ny dy py' ny' dy' : ℕ) → px * dx' + nx' * dx ≤ px' * dx + nx * dx' → py * dy' + ny' * dy ≤ py' * dy + ny * dy'
    → (px * dy + py * dx) * (dx' * dy') + (nx' * dy' + ny' * dx') * (dx * dy) ≤ (px' * dy' + py' * dx') * (dx * dy) + (nx * dy + ny * dx) * (dx' * dy')
add_ineq px nx dx px' nx' dx' py ny dy py' ny' dy' h k =
    let w = dy * dy' in
    let v = dx * dx' in
    let e1 : (px * dy + py * dx) * (dx' * dy') ≡ px * dx' * w + py * dy' * v = cross px dy py dx dx' dy' in
    let e2 : (nx * dy + ny * dx) * (dx' * dy') ≡ nx * dx' * w + ny * dy' * v = cross nx dy ny dx dx' dy' in
    let e3 : (nx' * dy' + ny' * dx') * (dx * dy) ≡ nx' * dx * w + ny' * dy * v = cross nx' dy' ny' dx' dx dy ∙ ap₂ (λ (y z : ℕ). nx' * dx * y + ny' * dy * z) (mul_comm dy' dy) (mul_comm dx' dx) in
    let e4 : (px' * dy' + py' * dx') * (dx * dy) ≡ px' * dx * w + py' * dy * v = cross px' dy' py' dx' dx dy ∙ ap₂ (λ (y z : ℕ). px' * dx * y + py' * dy * z) (mul_comm dy' dy) (mul_comm dx' dx) in
    let h' = mul-le-mul_right w h in
    let k' = mul-le-mul_right v k in
    let h1 = add-mul (px * dx') (nx' * dx) w in
    let h2 = add-mul (px' * dx) (nx * dx') w in
    let k1 = add-mul (py * dy') (ny' * dy) v in
    let k2 = add-mul (py' * dy) (ny * dy') v in
    omega arith

pub add_mono : (f : Format) (x x' y y' : Float) → T (finite x) → T (finite x') → T (finite y) → T (finite y') → T (le x x') → T (le y y') → T (le (add f x y) (add f x' y'))
add_mono f x x' y y' p p' q q' h k =
    rnd_mono f (add f x y) (add f x' y') (P x * den y + P y * den x) (N x * den y + N y * den x) (den x * den y) (P x' * den y' + P y' * den x') (N x' * den y' + N y' * den x') (den x' * den y')
    (mul-pos (den_pos x) (den_pos y)) (mul-pos (den_pos x') (den_pos y')) (add-Is f x y p q) (add-Is f x' y' p' q')
    (add_ineq (P x) (N x) (den x) (P x') (N x') (den x') (P y) (N y) (den y) (P y') (N y') (den y') (Le_of_le x x' p p' h) (Le_of_le y y' q q' k))

-- the difference rises with its first argument, and falls with its second
pub sub_mono : (f : Format) (x x' y y' : Float) → T (finite x) → T (finite x') → T (finite y) → T (finite y') → T (le x x') → T (le y' y) → T (le (sub f x y) (sub f x' y'))
unfolding sub
sub_mono f x x' y y' p p' q q' h k = add_mono f x x' (neg y) (neg y') p p' (finite-neg y q) (finite-neg y' q') h (neg-le y' y k)

-- ---- the product
mul-Is : (f : Format) (x y : Float) → T (finite x) → T (finite y) → Is f (mul f x y) (P x * P y + N x * N y) (P x * N y + N x * P y) (den x * den y)
unfolding mul
mul-Is f nan y p q = absurd p
mul-Is f (inf s) y p q = absurd p
mul-Is f (fin s m e) nan p q = absurd q
mul-Is f (fin s m e) (inf t) p q = absurd q
mul-Is f (fin false m e) (fin false n d) p q = let a = m * up e in let b = n * up d in let z = mul-zero a in inl (a * b, (omega arith), refl)
mul-Is f (fin false m e) (fin true n d) p q = let a = m * up e in let b = n * up d in let z = mul-zero a in inr (a * b, (omega arith), refl)
mul-Is f (fin true m e) (fin false n d) p q = let a = m * up e in let b = n * up d in let z = mul-zero a in inr (a * b, (omega arith), refl)
mul-Is f (fin true m e) (fin true n d) p q = let a = m * up e in let b = n * up d in let z = mul-zero a in inl (a * b, (omega arith), refl)

-- finite values are of one sign or the other
pub either_sign : (x : Float) → (N x ≡ 0) ⊎ (P x ≡ 0)
either_sign nan = inl refl
either_sign (inf s) = inl refl
either_sign (fin false m e) = inl refl
either_sign (fin true m e) = inr refl

scaled : (a d p n c p' n' c' : ℕ) → p * c' + n' * c ≤ p' * c + n * c' → a * p * (d * c') + a * n' * (d * c) ≤ a * p' * (d * c) + a * n * (d * c')
scaled a d p n c p' n' c' h =
    let h' = mul-le-mul_left (a * d) h in
    let h1 = mul-add (a * d) (p * c') (n' * c) in
    let h2 = mul-add (a * d) (p' * c) (n * c') in
    let e1 = mul-mul-mul_comm a p d c' in
    let e2 = mul-mul-mul_comm a n' d c in
    let e3 = mul-mul-mul_comm a p' d c in
    let e4 = mul-mul-mul_comm a n d c' in
    omega arith

-- x ≥ 0 times y, and x ≤ 0 times y
pub mul_up : (f : Format) (x y : Float) → T (finite x) → T (finite y) → N x ≡ 0 → Is f (mul f x y) (P x * P y) (P x * N y) (den x * den y)
mul_up f x y p q z =
    let a = ap (λ (u : ℕ). u * N y) z ∙ zero-mul (N y) in
    let b = ap (λ (u : ℕ). u * P y) z ∙ zero-mul (P y) in
    Is_at f (mul f x y) (P x * P y + N x * N y) (P x * N y + N x * P y) (den x * den y) (P x * P y) (P x * N y) (den x * den y) (omega arith) (omega arith) refl (mul-Is f x y p q)

mul_dn : (f : Format) (x y : Float) → T (finite x) → T (finite y) → P x ≡ 0 → Is f (mul f x y) (N x * N y) (N x * P y) (den x * den y)
mul_dn f x y p q z =
    let a = ap (λ (u : ℕ). u * N y) z ∙ zero-mul (N y) in
    let b = ap (λ (u : ℕ). u * P y) z ∙ zero-mul (P y) in
    Is_at f (mul f x y) (P x * P y + N x * N y) (P x * N y + N x * P y) (den x * den y) (N x * N y) (N x * P y) (den x * den y) (omega arith) (omega arith) refl (mul-Is f x y p q)

pub mul_mono_r : (f : Format) (x y y' : Float) → T (finite x) → T (finite y) → T (finite y') → N x ≡ 0 → T (le y y') → T (le (mul f x y) (mul f x y'))
mul_mono_r f x y y' p q q' z h =
    rnd_mono f (mul f x y) (mul f x y') (P x * P y) (P x * N y) (den x * den y) (P x * P y') (P x * N y') (den x * den y') (mul-pos (den_pos x) (den_pos y)) (mul-pos (den_pos x) (den_pos y'))
    (mul_up f x y p q z) (mul_up f x y' p q' z) (scaled (P x) (den x) (P y) (N y) (den y) (P y') (N y') (den y') (Le_of_le y y' q q' h))

flip : (a b c d : ℕ) → a + b ≤ c + d → b + a ≤ d + c
flip a b c d h = omega arith

pub mul_anti_r : (f : Format) (x y y' : Float) → T (finite x) → T (finite y) → T (finite y') → P x ≡ 0 → T (le y y') → T (le (mul f x y') (mul f x y))
mul_anti_r f x y y' p q q' z h =
    let k = scaled (N x) (den x) (P y) (N y) (den y) (P y') (N y') (den y') (Le_of_le y y' q q' h) in
    rnd_mono f (mul f x y') (mul f x y) (N x * N y') (N x * P y') (den x * den y') (N x * N y) (N x * P y) (den x * den y) (mul-pos (den_pos x) (den_pos y')) (mul-pos (den_pos x) (den_pos y))
    (mul_dn f x y' p q' z) (mul_dn f x y p q z) (flip (N x * P y * (den x * den y')) (N x * N y' * (den x * den y)) (N x * P y' * (den x * den y)) (N x * N y * (den x * den y')) k)

-- a product is the same from either side
pub mul_swap : (f : Format) (x y : Float) → T (finite x) → T (finite y) → mul f x y ≡ mul f y x
unfolding mul
mul_swap f nan y p q = absurd p
mul_swap f (inf s) y p q = absurd p
mul_swap f (fin s m e) nan p q = absurd q
mul_swap f (fin s m e) (inf t) p q = absurd q
mul_swap f (fin s m e) (fin t n d) p q = ap (λ (u : Bool). round f u (m * up e * (n * up d)) (down e * down d)) (alike s t) ∙ ap₂ (λ (u v : ℕ). round f (unlike t s) u v) (mul_comm (m * up e) (n * up d)) (mul_comm (down e) (down d))
  where
    alike : (s t : Bool) → unlike s t ≡ unlike t s
    alike false false = refl
    alike false true = refl
    alike true false = refl
    alike true true = refl

pub mul_mono_l : (f : Format) (x x' y : Float) → T (finite x) → T (finite x') → T (finite y) → N y ≡ 0 → T (le x x') → T (le (mul f x y) (mul f x' y))
mul_mono_l f x x' y p p' q z h = subst (λ (w : Float). T (le w (mul f x' y))) (mul_swap f y x q p) (subst (λ (w : Float). T (le (mul f y x) w)) (mul_swap f y x' q p') (mul_mono_r f y x x' q p p' z h))

-- ---- the quotient by a value above zero
pub div-Is : (f : Format) (x y : Float) → T (finite x) → T (finite y) → N y ≡ 0 → 0 < P y → Is f (div f x y) (P x * den y) (N x * den y) (P y * den x)
unfolding div
div-Is f nan y p q z l = absurd p
div-Is f (inf s) y p q z l = absurd p
div-Is f (fin s m e) nan p q z l = absurd q
div-Is f (fin s m e) (inf t) p q z l = absurd q
div-Is f (fin s m e) (fin true n d) p q z l = absurd (lt_irrefl 0 l)
div-Is f (fin s m e) (fin false zero d) p q z l = absurd (lt_irrefl 0 (subst (λ (u : ℕ). 0 < u) (zero-mul (up d)) l))
div-Is f (fin false m e) (fin false (suc n) d) p q z l = subst (λ (b : Bool). Is f (cond b (cond (eqb m 0) nan (inf false)) (round f false (m * up e * down d) (suc n * up d * down e))) (m * up e * down d) (0 * down d) (suc n * up d * down e)) (sym (eqb-suc-zero n)) (inl (m * up e * down d, (omega arith), refl))
div-Is f (fin true m e) (fin false (suc n) d) p q z l = subst (λ (b : Bool). Is f (cond b (cond (eqb m 0) nan (inf true)) (round f true (m * up e * down d) (suc n * up d * down e))) (0 * down d) (m * up e * down d) (suc n * up d * down e)) (sym (eqb-suc-zero n)) (inr (m * up e * down d, (omega arith), refl))

div_ineq : (p n c p' n' c' a d : ℕ) → p * c' + n' * c ≤ p' * c + n * c' → p * d * (a * c') + n' * d * (a * c) ≤ p' * d * (a * c) + n * d * (a * c')
div_ineq p n c p' n' c' a d h =
    let h' = mul-le-mul_right (d * a) h in
    let h1 = add-mul (p * c') (n' * c) (d * a) in
    let h2 = add-mul (p' * c) (n * c') (d * a) in
    let e1 : p * d * (a * c') ≡ p * c' * (d * a) = ap (λ (z : ℕ). p * d * z) (mul_comm a c') ∙ mul-mul-mul_comm p d c' a in
    let e2 : n' * d * (a * c) ≡ n' * c * (d * a) = ap (λ (z : ℕ). n' * d * z) (mul_comm a c) ∙ mul-mul-mul_comm n' d c a in
    let e3 : p' * d * (a * c) ≡ p' * c * (d * a) = ap (λ (z : ℕ). p' * d * z) (mul_comm a c) ∙ mul-mul-mul_comm p' d c a in
    let e4 : n * d * (a * c') ≡ n * c' * (d * a) = ap (λ (z : ℕ). n * d * z) (mul_comm a c') ∙ mul-mul-mul_comm n d c' a in
    omega arith

pub div_mono_l : (f : Format) (x x' y : Float) → T (finite x) → T (finite x') → T (finite y) → N y ≡ 0 → 0 < P y → T (le x x') → T (le (div f x y) (div f x' y))
div_mono_l f x x' y p p' q z l h =
    rnd_mono f (div f x y) (div f x' y) (P x * den y) (N x * den y) (P y * den x) (P x' * den y) (N x' * den y) (P y * den x') (mul-pos l (den_pos x)) (mul-pos l (den_pos x'))
    (div-Is f x y p q z l) (div-Is f x' y p' q z l) (div_ineq (P x) (N x) (den x) (P x') (N x') (den x') (P y) (den y) (Le_of_le x x' p p' h))

-- p / y for y ≤ y', and the same for n
div_ineq_r : (b dy b' dy' p n c : ℕ) → n ≡ 0 → b * dy' ≤ b' * dy → p * dy' * (b * c) + n * dy * (b' * c) ≤ p * dy * (b' * c) + n * dy' * (b * c)
div_ineq_r b dy b' dy' p n c z h =
    let h' = mul-le-mul_left (p * c) h in
    let e1 : p * dy' * (b * c) ≡ p * c * (b * dy') = ap (λ (u : ℕ). p * dy' * u) (mul_comm b c) ∙ mul-mul-mul_comm p dy' c b ∙ ap (λ (u : ℕ). p * c * u) (mul_comm dy' b) in
    let e2 : p * dy * (b' * c) ≡ p * c * (b' * dy) = ap (λ (u : ℕ). p * dy * u) (mul_comm b' c) ∙ mul-mul-mul_comm p dy c b' ∙ ap (λ (u : ℕ). p * c * u) (mul_comm dy b') in
    let z1 : n * dy * (b' * c) ≡ 0 = ap (λ (u : ℕ). u * dy * (b' * c)) z ∙ ap (λ (u : ℕ). u * (b' * c)) (zero-mul dy) ∙ zero-mul (b' * c) in
    omega arith

pub div_anti_r : (f : Format) (x y y' : Float) → T (finite x) → T (finite y) → T (finite y') → N y ≡ 0 → 0 < P y → N y' ≡ 0 → 0 < P y' → N x ≡ 0 → T (le y y') → T (le (div f x y') (div f x y))
div_anti_r f x y y' p q q' z l z' l' s h =
    let k : P y * den y' ≤ P y' * den y = strip (P y * den y') (N y') (den y) (P y' * den y) (N y) (den y') z z' (Le_of_le y y' q q' h) in
    rnd_mono f (div f x y') (div f x y) (P x * den y') (N x * den y') (P y' * den x) (P x * den y) (N x * den y) (P y * den x) (mul-pos l' (den_pos x)) (mul-pos l (den_pos x))
    (div-Is f x y' p q' z' l') (div-Is f x y p q z l) (div_ineq_r (P y) (den y) (P y') (den y') (P x) (N x) (den x) s k)
  where
    strip : (a n c b n' c' : ℕ) → n' ≡ 0 → n ≡ 0 → a + n * c ≤ b + n' * c' → a ≤ b
    strip a n c b n' c' u v h = let x = ap (λ (w : ℕ). w * c) v ∙ zero-mul c in let y = ap (λ (w : ℕ). w * c') u ∙ zero-mul c' in omega arith

pub div_mono_r : (f : Format) (x y y' : Float) → T (finite x) → T (finite y) → T (finite y') → N y ≡ 0 → 0 < P y → N y' ≡ 0 → 0 < P y' → P x ≡ 0 → T (le y y') → T (le (div f x y) (div f x y'))
div_mono_r f x y y' p q q' z l z' l' s h =
    let k : P y * den y' ≤ P y' * den y = strip (P y * den y') (N y') (den y) (P y' * den y) (N y) (den y') z z' (Le_of_le y y' q q' h) in
    let g = div_ineq_r (P y) (den y) (P y') (den y') (N x) (P x) (den x) s k in
    rnd_mono f (div f x y) (div f x y') (P x * den y) (N x * den y) (P y * den x) (P x * den y') (N x * den y') (P y' * den x) (mul-pos l (den_pos x)) (mul-pos l' (den_pos x))
    (div-Is f x y p q z l) (div-Is f x y' p q' z' l') (omega arith)
  where
    strip : (a n c b n' c' : ℕ) → n' ≡ 0 → n ≡ 0 → a + n * c ≤ b + n' * c' → a ≤ b
    strip a n c b n' c' u v h = let x = ap (λ (w : ℕ). w * c) v ∙ zero-mul c in let y = ap (λ (w : ℕ). w * c') u ∙ zero-mul c' in omega arith
