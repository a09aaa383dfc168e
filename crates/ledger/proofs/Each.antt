-- Something of every element of a list. Assumes nothing.
use Rattle.std.proofs.Common.{◌≡◌, ℕ, zero, suc, Bool, true, false, cond, List, [], ◌∷◌, map, get_or, set, replicate, refl, ap}
use Rattle.std.specs.List.{AllByRecursion}

module _ {A : Type 0} (P : A → Type 0) where
  pub each_set : (xs : List A) (i : ℕ) (y : A) → AllByRecursion P xs → P y → AllByRecursion P (set xs i y)
  each_set [] i y h p = tt
  each_set (x ∷ xs) zero y h p = (p, h.1)
  each_set (x ∷ xs) (suc i) y h p = (h.0, each_set xs i y h.1 p)

  pub each_at : (xs : List A) (i : ℕ) (d : A) → AllByRecursion P xs → P d → P (get_or xs i d)
  each_at [] i d h p = p
  each_at (x ∷ xs) zero d h p = h.0
  each_at (x ∷ xs) (suc i) d h p = each_at xs i d h.1 p

  pub each_replicate : (n : ℕ) (x : A) → P x → AllByRecursion P (replicate n x)
  each_replicate zero x p = tt
  each_replicate (suc n) x p = (p, each_replicate n x p)

  pub either : (b : Bool) (x y : A) → P x → P y → P (cond b x y)
  either true x y p q = p
  either false x y p q = q

module _ {A : Type 0} (P Q : A → Type 0) where
  pub each_also : ((x : A) → P x → Q x) → (xs : List A) → AllByRecursion P xs → AllByRecursion Q xs
  each_also f [] h = tt
  each_also f (x ∷ xs) h = (f x h.0, each_also f xs h.1)

module _ {A B : Type 0} (P : A → Type 0) (Q : B → Type 0) (f : A → B) where
  pub each_map : ((x : A) → P x → Q (f x)) → (xs : List A) → AllByRecursion P xs → AllByRecursion Q (map f xs)
  each_map g [] h = tt
  each_map g (x ∷ xs) h = (g x h.0, each_map g xs h.1)

pub map_replicate : {A B : Type 0} (f : A → B) (n : ℕ) (x : A) → map f (replicate n x) ≡ replicate n (f x)
map_replicate f zero x = refl
map_replicate f (suc n) x = ap (λ l. f x ∷ l) (map_replicate f n x)
