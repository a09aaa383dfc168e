-- Tests: cases on a condition, and one test at each of many numbers. Assumes nothing.
use Rattle.std.proofs.Common.{◌≡◌, ℕ, zero, suc, ◌+◌, ◌<◌, Bool, true, false, cond, not, ◌&&◌, T, sym, refl, ◌∙◌, subst, le_of_suc-le-suc, not-suc-le-zero, add-zero, add-suc, suc-add}
use Rattle.numeric.proofs.Rounding.{and_l, and_r}

-- a property of both branches, each with what its test says
pub by_cases : {A : Type 0} (Q : A → Type 0) (b : Bool) (x y : A) → (T b → Q x) → (T (not b) → Q y) → Q (cond b x y)
by_cases Q true x y h k = h tt
by_cases Q false x y h k = k tt

pub is_on : (b : Bool) → T b → b ≡ true
is_on true t = refl
is_on false t = absurd t

pub is_off : (b : Bool) → T (not b) → b ≡ false
is_off true t = absurd t
is_off false t = refl

pub on : (b : Bool) → b ≡ true → T b
on b e = subst T (sym e) tt

pub off : (b : Bool) → b ≡ false → T (not b)
off b e = subst (λ (c : Bool). T (not c)) (sym e) tt

-- the test passes at each of n numbers from i on
abbrev pub every : (ℕ → Bool) → ℕ → ℕ → Bool
every t zero i = true
every t (suc n) i = t i && every t n (suc i)

pub every_at : (t : ℕ → Bool) (n i k : ℕ) → T (every t n i) → k < n → T (t (i + k))
every_at t zero i k h l = absurd (not-suc-le-zero l)
every_at t (suc n) i zero h l = subst (λ (m : ℕ). T (t m)) (sym (add-zero i)) (and_l (t i) (every t n (suc i)) h)
every_at t (suc n) i (suc k) h l = subst (λ (m : ℕ). T (t m)) (suc-add i k ∙ sym (add-suc i k)) (every_at t n (suc i) k (and_r (t i) (every t n (suc i)) h) (le_of_suc-le-suc l))
