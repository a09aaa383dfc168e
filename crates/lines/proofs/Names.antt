-- The names of the functions.
use Rattle.std.proofs.Common.{◌≡◌, ℕ, ◌≤◌, false, List, length, Some, refl, inl, inr, arith, lit≤}
use Rattle.std.proofs.lemmas.Slice.Eq.{bytes_eq-Decides}
use Rattle.std.proofs.lemmas.Bool.{cases_Bool}
use Rattle.std.specs.Float.{Format, binary32, binary64}
use Rattle.std.specs.List.{AllByRecursion}
use Rattle.std.specs.Str.{bytes_eq}
use Rattle.lines.specs.declared.function.Function.{Function}
use Rattle.lines.specs.declared.function.Function.TheVariants.{Expm1, Log1p, Sinh, Cosh, Tanh, Asinh, Acosh, Atanh, Exp, Log, Expm1f, Log1pf}
use Rattle.lines.specs.Functions.{functions, name_of, format_of, digits_in, places_of, first_named}

-- The table's rows: a function that is added takes a row in each of these three.

-- so far each name is one letter
pub one_letter : (f : Function) → length (name_of f) ≡ 1
one_letter Expm1 = refl
one_letter Log1p = refl
one_letter Sinh = refl
one_letter Cosh = refl
one_letter Tanh = refl
one_letter Asinh = refl
one_letter Acosh = refl
one_letter Atanh = refl
one_letter Exp = refl
one_letter Log = refl
one_letter Expm1f = refl
one_letter Log1pf = refl

-- no name has a space
pub no_space : (f : Function) → AllByRecursion (λ b. b ≡ 32 → ⊥) (name_of f)
no_space Expm1 = ((λ e. omega arith), tt)
no_space Log1p = ((λ e. omega arith), tt)
no_space Sinh = ((λ e. omega arith), tt)
no_space Cosh = ((λ e. omega arith), tt)
no_space Tanh = ((λ e. omega arith), tt)
no_space Asinh = ((λ e. omega arith), tt)
no_space Acosh = ((λ e. omega arith), tt)
no_space Atanh = ((λ e. omega arith), tt)
no_space Exp = ((λ e. omega arith), tt)
no_space Log = ((λ e. omega arith), tt)
no_space Expm1f = ((λ e. omega arith), tt)
no_space Log1pf = ((λ e. omega arith), tt)

-- no two functions have one name: each is the first of its own
pub found_so : (f : Function) → first_named functions (name_of f) ≡ Some f
found_so Expm1 = refl
found_so Log1p = refl
found_so Sinh = refl
found_so Cosh = refl
found_so Tanh = refl
found_so Asinh = refl
found_so Acosh = refl
found_so Atanh = refl
found_so Exp = refl
found_so Log = refl
found_so Expm1f = refl
found_so Log1pf = refl

-- no function has more than 16 digits
few_digits : (t : Format) → digits_in t ≤ 16
few_digits binary32 = lit≤ tt
few_digits binary64 = lit≤ tt

pub at_most_16 : (f : Function) → places_of f ≤ 16
at_most_16 f = few_digits (format_of f)

-- bytes that are apart
pub different : (xs ys : List ℕ) → (xs ≡ ys → ⊥) → bytes_eq xs ys ≡ false
different xs ys apart =
    elim (cases_Bool (bytes_eq xs ys)) [ inl e ↦ absurd (apart ((bytes_eq-Decides xs ys).0 e)) | inr e ↦ e ]
