-- Each small number is one value, whatever the format.
use Rattle.std.specs.Prelude.{◌≡◌, refl}
use Rattle.std.specs.Float.{Format, binary32, binary64}
use Rattle.std.specs.Float.Ieee.{of_bits}
use Rattle.float.specs.Constants.{one, two, three, six, half, minus_one, minus_two, minus_half, minus_quarter, infinity, minus_infinity, plus_zero, not_a_number}

-- a number of the format is the one that is written as an f32
pub record Literals (f : Format) : Type 0 where
  pub one_is : one f ≡ one binary32
  pub two_is : two f ≡ two binary32
  pub three_is : three f ≡ three binary32
  pub six_is : six f ≡ six binary32
  pub half_is : half f ≡ half binary32
  pub minus_one_is : minus_one f ≡ minus_one binary32
  pub minus_two_is : minus_two f ≡ minus_two binary32
  pub minus_half_is : minus_half f ≡ minus_half binary32
  pub minus_quarter_is : minus_quarter f ≡ minus_quarter binary32
  pub infinity_is : infinity f ≡ infinity binary32
  pub minus_infinity_is : minus_infinity f ≡ minus_infinity binary32
  pub plus_zero_is : plus_zero f ≡ plus_zero binary32
  pub not_a_number_is : not_a_number f ≡ not_a_number binary32

pub literals : (f : Format) → Literals f
unfolding of_bits
literals binary32 = record {
  one_is = refl;
  two_is = refl;
  three_is = refl;
  six_is = refl;
  half_is = refl;
  minus_one_is = refl;
  minus_two_is = refl;
  minus_half_is = refl;
  minus_quarter_is = refl;
  infinity_is = refl;
  minus_infinity_is = refl;
  plus_zero_is = refl;
  not_a_number_is = refl;
}
literals binary64 = record {
  one_is = refl;
  two_is = refl;
  three_is = refl;
  six_is = refl;
  half_is = refl;
  minus_one_is = refl;
  minus_two_is = refl;
  minus_half_is = refl;
  minus_quarter_is = refl;
  infinity_is = refl;
  minus_infinity_is = refl;
  plus_zero_is = refl;
  not_a_number_is = refl;
}
