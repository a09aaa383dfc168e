-- The floats of a format keep the laws of a kind. Assumes nothing.
use Rattle.std.specs.Prelude.{Bool, not, ◌&&◌, T, List, [], ◌∷◌, map, is_nan, Float}
use Rattle.std.proofs.Common.{ap, ◌∙◌}
use Rattle.std.specs.Float.{Format, binary32, binary64}
use Rattle.std.specs.Float.Ieee.{neg, le, fits, of_bits}
use Rattle.std.specs.Float.Ieee.Scale.{finite}
use Rattle.numeric.proofs.Rounding.{and_r}
use Rattle.numeric.proofs.Tests.{is_on, on}
use Rattle.numeric.proofs.Opposites.{Level, fits_neg, nan_neg, infinite_neg, finite_of, finite_both, level_infinite, add_opposite, div_turned}
use Rattle.kinds.specs.Kinds.{Same, sum, Summable, Lawful}
use Rattle.kinds.specs.Floats.{floats}

nought_level : (f : Format) → Level (of_bits f 0) (neg (of_bits f 0))
unfolding of_bits neg le
nought_level binary32 = (tt, tt)
nought_level binary64 = (tt, tt)

module _ (f : Format) where
  turned_sum : (xs : List Float) → Summable (floats f) xs → Level (sum (floats f) (map neg xs)) (neg (sum (floats f) xs))
  turned_sum [] h = nought_level f
  turned_sum (x ∷ earlier) (h, i, n, j) =
      let s = sum (floats f) earlier in
      let t = sum (floats f) (map neg earlier) in
      let l = turned_sum earlier h in
      let both = finite_both s t l i in
      let X : T (finite x) = finite_of x (and_r (fits f x) (not (is_nan x)) (on _ n)) j in
      add_opposite f s t x both.0 both.1 X l

  same : (x y : Float) → Level x y → Same (floats f) x y
  same x y l = (is_on (le x y) l.0, is_on (le y x) l.1)

  pub floats_lawful : Lawful (floats f)
  floats_lawful = record {
    turned_number = λ x. ap (λ (b : Bool). b && not (is_nan (neg x))) (fits_neg f x) ∙ ap (λ (b : Bool). fits f x && not b) (nan_neg x);
    turned_infinite = infinite_neg;
    sum_infinite = λ xs few h. level_infinite _ _ (turned_sum xs h) ∙ infinite_neg (sum (floats f) xs);
    sum_turned = λ xs few h i. same _ _ (turned_sum xs h);
    mean_turned = λ xs few h i c low high.
        let s = sum (floats f) xs in
        let t = sum (floats f) (map neg xs) in
        let l = turned_sum xs h in
        let both = finite_both s t l i in
        same _ _ (div_turned f s t c both.0 both.1 low high l);
  }
