-- The special values that C11 Annex F fixes, as a law of the definitions, clause by clause.
use Rattle.std.specs.Prelude.{◌≡◌, Bool, true, false, T, pos, Float}
use Rattle.std.specs.Float.Ieee.{lt}
use Rattle.std.specs.Float.{float_with_sign, nan, inf, fin}
use Rattle.exponential.specs.Exp.{exp_of}
use Rattle.exponential.specs.Expm1.{expm1_of}
use Rattle.logarithm.specs.Log.{log_of}
use Rattle.logarithm.specs.Log1p.{log1p_of}
use Rattle.hyperbolic.specs.Sinh.{sinh_of}
use Rattle.hyperbolic.specs.Cosh.{cosh_of}
use Rattle.hyperbolic.specs.Tanh.{tanh_of}
use Rattle.inverse.specs.Asinh.{asinh_of}
use Rattle.inverse.specs.Acosh.{acosh_of}
use Rattle.inverse.specs.Atanh.{atanh_of}
use Rattle.single.specs.Expm1f.{expm1f_of}
use Rattle.single.specs.Log1pf.{log1pf_of}

-- the zero and the one of a sign: s is true for the negative ones
abbrev pub zero_of : Bool → Float
zero_of s = fin s 0 (pos 0)

abbrev pub one_of : Bool → Float
one_of s = fin s 1 (pos 0)

-- F.10: a NaN argument gives a NaN
abbrev pub KeepsNaN : (Float → Float) → Type 0
KeepsNaN g = g nan ≡ nan

-- a zero stays, with its sign
abbrev pub KeepsZeros : (Float → Float) → Type 0
KeepsZeros g = (s : Bool) → g (zero_of s) ≡ zero_of s

-- an infinity stays, with its sign
abbrev pub KeepsInfinities : (Float → Float) → Type 0
KeepsInfinities g = (s : Bool) → g (inf s) ≡ inf s

-- F.10.2.1
pub record Acosh (g : Float → Float) : Type 0 where
  pub keeps_nan : KeepsNaN g
  pub at_one : g (one_of false) ≡ zero_of false
  pub below_one : (x : Float) → T (lt x (one_of false)) → g x ≡ nan
  pub at_infinity : g (inf false) ≡ inf false

-- F.10.2.2, and F.10.2.5
pub record OddUnbounded (g : Float → Float) : Type 0 where
  pub keeps_nan : KeepsNaN g
  pub keeps_zeros : KeepsZeros g
  pub keeps_infinities : KeepsInfinities g

-- F.10.2.3
pub record Atanh (g : Float → Float) : Type 0 where
  pub keeps_nan : KeepsNaN g
  pub keeps_zeros : KeepsZeros g
  pub at_one : (s : Bool) → g (one_of s) ≡ inf s
  pub beyond_one : (x : Float) → T (lt (one_of false) (float_with_sign false x)) → g x ≡ nan

-- F.10.2.4
pub record Cosh (g : Float → Float) : Type 0 where
  pub keeps_nan : KeepsNaN g
  pub at_zero : (s : Bool) → g (zero_of s) ≡ one_of false
  pub at_infinity : (s : Bool) → g (inf s) ≡ inf false

-- F.10.2.6
pub record Tanh (g : Float → Float) : Type 0 where
  pub keeps_nan : KeepsNaN g
  pub keeps_zeros : KeepsZeros g
  pub at_infinity : (s : Bool) → g (inf s) ≡ one_of s

-- F.10.3.1
pub record Exp (g : Float → Float) : Type 0 where
  pub keeps_nan : KeepsNaN g
  pub at_zero : (s : Bool) → g (zero_of s) ≡ one_of false
  pub at_minus_infinity : g (inf true) ≡ zero_of false
  pub at_infinity : g (inf false) ≡ inf false

-- F.10.3.3
pub record Expm1 (g : Float → Float) : Type 0 where
  pub keeps_nan : KeepsNaN g
  pub keeps_zeros : KeepsZeros g
  pub at_minus_infinity : g (inf true) ≡ one_of true
  pub at_infinity : g (inf false) ≡ inf false

-- F.10.3.7
pub record Log (g : Float → Float) : Type 0 where
  pub keeps_nan : KeepsNaN g
  pub at_zero : (s : Bool) → g (zero_of s) ≡ inf true
  pub at_one : g (one_of false) ≡ zero_of false
  pub below_zero : (x : Float) → T (lt x (zero_of false)) → g x ≡ nan
  pub at_infinity : g (inf false) ≡ inf false

-- F.10.3.9
pub record Log1p (g : Float → Float) : Type 0 where
  pub keeps_nan : KeepsNaN g
  pub keeps_zeros : KeepsZeros g
  pub at_minus_one : g (one_of true) ≡ inf true
  pub below_minus_one : (x : Float) → T (lt x (one_of true)) → g x ≡ nan
  pub at_infinity : g (inf false) ≡ inf false

-- all of them
pub record AnnexF : Type 0 where
  pub acosh : Acosh acosh_of
  pub asinh : OddUnbounded asinh_of
  pub atanh : Atanh atanh_of
  pub cosh : Cosh cosh_of
  pub sinh : OddUnbounded sinh_of
  pub tanh : Tanh tanh_of
  pub exp : Exp exp_of
  pub expm1 : Expm1 expm1_of
  pub log : Log log_of
  pub log1p : Log1p log1p_of
  pub expm1f : Expm1 expm1f_of
  pub log1pf : Log1p log1pf_of
