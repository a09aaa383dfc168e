-- The floats of a format as a kind.
use Rattle.std.specs.Prelude.{not, ◌&&◌, pos, from_bits, is_nan, Float}
use Rattle.std.specs.Float.{Format}
use Rattle.std.specs.Float.Ieee.{neg, add, div, lt, le, fits, of_int}
use Rattle.std.specs.Float as Floats
use Rattle.kinds.specs.Kinds.{Meaning}

-- Every value of the format but NaN is a number. Zero is +0, whose bits are all 0. A sum and a quotient are rounded once.
abbrev pub floats : Format → Meaning Float
floats f = record {
  number = λ x. fits f x && not (is_nan x);
  infinite = Floats.float_is_infinite;
  nought = from_bits f 0;
  turned = neg;
  at_most = le;
  greater = λ x y. lt y x;
  plus = add f;
  over = λ x count. div f x (of_int f (pos count));
}

-- The same kind, of values that `to` takes to floats of the format and `of` back.
abbrev pub floats_as : {K : Type 0} → Format → (K → Float) → (Float → K) → Meaning K
floats_as f to of =
    let k = floats f in
    record {
      number = λ x. k.number (to x);
      infinite = λ x. k.infinite (to x);
      nought = of k.nought;
      turned = λ x. of (k.turned (to x));
      at_most = λ x y. k.at_most (to x) (to y);
      greater = λ x y. k.greater (to x) (to y);
      plus = λ x y. of (k.plus (to x) (to y));
      over = λ x count. of (k.over (to x) count);
    }
