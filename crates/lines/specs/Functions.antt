-- The functions of the table: their names, how many digits each takes and gives, and what each computes.
use Rattle.std.specs.Prelude.{ℕ, cond, List, [], ◌∷◌, Some, None, codes, Option, from_bits, to_bits, Float}
use Rattle.std.specs.Float.{Format, binary32, binary64}
use Rattle.std.specs.Str.{bytes_eq}
use Rattle.exponential.specs.Expm1.{expm1_of}
use Rattle.logarithm.specs.Log1p.{log1p_of}
use Rattle.hyperbolic.specs.Sinh.{sinh_of}
use Rattle.hyperbolic.specs.Cosh.{cosh_of}
use Rattle.hyperbolic.specs.Tanh.{tanh_of}
use Rattle.inverse.specs.Asinh.{asinh_of}
use Rattle.inverse.specs.Acosh.{acosh_of}
use Rattle.inverse.specs.Atanh.{atanh_of}
use Rattle.exponential.specs.Exp.{exp_of}
use Rattle.logarithm.specs.Log.{log_of}
use Rattle.single.specs.Expm1f.{expm1f_of}
use Rattle.single.specs.Log1pf.{log1pf_of}
use Rattle.lines.specs.declared.function.Function.{Function}
use Rattle.lines.specs.declared.function.Function.TheVariants.{Expm1, Log1p, Sinh, Cosh, Tanh, Asinh, Acosh, Atanh, Exp, Log, Expm1f, Log1pf}

-- every function
abbrev pub functions : List Function
functions = Expm1 ∷ Log1p ∷ Sinh ∷ Cosh ∷ Tanh ∷ Asinh ∷ Acosh ∷ Atanh ∷ Exp ∷ Log ∷ Expm1f ∷ Log1pf ∷ []

-- the name by which a line asks for a function
abbrev pub name_of : Function → List ℕ
name_of Expm1 = codes "E"
name_of Log1p = codes "L"
name_of Sinh = codes "S"
name_of Cosh = codes "C"
name_of Tanh = codes "T"
name_of Asinh = codes "s"
name_of Acosh = codes "c"
name_of Atanh = codes "t"
name_of Exp = codes "x"
name_of Log = codes "n"
name_of Expm1f = codes "F"
name_of Log1pf = codes "G"

-- the format of a function's argument and result
abbrev pub format_of : Function → Format
format_of Expm1 = binary64
format_of Log1p = binary64
format_of Sinh = binary64
format_of Cosh = binary64
format_of Tanh = binary64
format_of Asinh = binary64
format_of Acosh = binary64
format_of Atanh = binary64
format_of Exp = binary64
format_of Log = binary64
format_of Expm1f = binary32
format_of Log1pf = binary32

-- how many digits the bits of a value take
abbrev pub digits_in : Format → ℕ
digits_in binary32 = 8
digits_in binary64 = 16

-- how many digits a function takes and gives
abbrev pub places_of : Function → ℕ
places_of f = digits_in (format_of f)

-- what a function computes
abbrev pub value_of : Function → Float → Float
value_of Expm1 = expm1_of
value_of Log1p = log1p_of
value_of Sinh = sinh_of
value_of Cosh = cosh_of
value_of Tanh = tanh_of
value_of Asinh = asinh_of
value_of Acosh = acosh_of
value_of Atanh = atanh_of
value_of Exp = exp_of
value_of Log = log_of
value_of Expm1f = expm1f_of
value_of Log1pf = log1pf_of

-- the bits of a function's result at the number of the given bits; of a NaN always 0x7ff8000000000000, or 0x7fc00000
abbrev pub result_at : Function → ℕ → ℕ
result_at f bits = to_bits (format_of f) (value_of f (from_bits (format_of f) bits))

-- the first of these functions that has the given name
abbrev pub first_named : List Function → List ℕ → Option Function
first_named [] name = None
first_named (f ∷ fs) name = cond (bytes_eq name (name_of f)) (Some f) (first_named fs name)
