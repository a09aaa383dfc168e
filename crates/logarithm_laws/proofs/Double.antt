-- The laws of log1p: the table of f64 is of the right size. Assumes nothing.
use lib.Ieee.{of_bits, round, neg, add, sub, mul, div, le, is_nan}
use Rattle.logarithm.specs.Log1p.{double, log1p_of}
use Rattle.logarithm_laws.specs.Laws.{Log1pNumber, Log1pBounded}
use Rattle.logarithm_laws.proofs.Log.{double_cuts}
use Rattle.logarithm_laws.proofs.Log1p.{Sizes, value_number, value_in}

double_sizes : Sizes double 720
unfolding of_bits round add sub mul div neg le is_nan
double_sizes = record {
  cuts = double_cuts;
  tiny = (tt, tt);
  near = (tt, tt, tt, tt);
  inside = tt;
  lowest = (tt, tt, tt);
  mended = tt;
  none = (tt, tt);
  sum = tt;
  infinite = tt;
}

pub log1p_number : Log1pNumber
unfolding log1p_of
log1p_number = value_number double 720 double_sizes

pub log1p_bounded : Log1pBounded
unfolding log1p_of
log1p_bounded = value_in double 720 double_sizes
