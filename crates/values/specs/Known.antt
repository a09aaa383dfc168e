-- A table of values, by the bits of argument and result, and that the definitions have them.
use Rattle.std.specs.Prelude.{◌≡◌, ℕ, List, [], ◌∷◌}
use Rattle.lines.specs.declared.function.Function.{Function}
use Rattle.lines.specs.declared.function.Function.TheVariants.{Expm1, Log1p, Sinh, Cosh, Tanh, Acosh, Atanh, Log, Expm1f, Log1pf}
use Rattle.lines.specs.Functions.{result_at}
use Rattle.values.specs.declared.Known.{Known}

abbrev row : Function → ℕ → ℕ → Known
row f argument result = record { function = f; argument = argument; result = result }

-- expm1(-0) = -0; expm1(2^-60) = 2^-60; expm1(-40) = -1; expm1(710) = +infinity; log1p(-1) = -infinity;
-- sinh(-2^-30) = -2^-30; cosh(2^-30) = 1; tanh(-800) = -1; acosh(1) = +0; acosh(-2^25) is NaN;
-- atanh(-1) = -infinity; log(1) = +0; expm1f(-20) = -1; log1pf(-1) = -infinity
abbrev pub known_values : List Known
known_values =
    row Expm1 0x8000000000000000 0x8000000000000000 ∷
    row Expm1 0x3c30000000000000 0x3c30000000000000 ∷
    row Expm1 0xc044000000000000 0xbff0000000000000 ∷
    row Expm1 0x4086300000000000 0x7ff0000000000000 ∷
    row Log1p 0xbff0000000000000 0xfff0000000000000 ∷
    row Sinh 0xbe10000000000000 0xbe10000000000000 ∷
    row Cosh 0x3e10000000000000 0x3ff0000000000000 ∷
    row Tanh 0xc089000000000000 0xbff0000000000000 ∷
    row Acosh 0x3ff0000000000000 0x0000000000000000 ∷
    row Acosh 0xc180000000000000 0x7ff8000000000000 ∷
    row Atanh 0xbff0000000000000 0xfff0000000000000 ∷
    row Log 0x3ff0000000000000 0x0000000000000000 ∷
    row Expm1f 0xc1a00000 0xbf800000 ∷
    row Log1pf 0xbf800000 0xff800000 ∷
    []

-- each result is the one that the function's definition gives
abbrev pub Stand : List Known → Type 0
Stand [] = Unit {0}
Stand (k ∷ ks) = (result_at k.function k.argument ≡ k.result) × Stand ks
