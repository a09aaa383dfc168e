-- The laws of log1pf: the table of f32 is of the right size. Assumes nothing.
use lib.Ieee.{of_bits, round, neg, add, sub, mul, div, le, is_nan}
use Rattle.logarithm.specs.Log1p.{single}
use Rattle.single.specs.Log1pf.{log1pf_of}
use Rattle.logarithm_laws.specs.Laws.{Log1pfNumber, Log1pfBounded}
use Rattle.logarithm_laws.proofs.Log1p.{Sizes, value_number, value_in}

single_sizes : Sizes single 100
unfolding of_bits round add sub mul div neg le is_nan
single_sizes = record {
  cuts = record { room = tt; step = tt; fraction = tt };
  tiny = (tt, tt);
  near = (tt, tt, tt, tt);
  inside = tt;
  lowest = (tt, tt, tt);
  mended = tt;
  none = (tt, tt);
  sum = tt;
  infinite = tt;
}

pub log1pf_number : Log1pfNumber
unfolding log1pf_of
log1pf_number = value_number single 100 single_sizes

pub log1pf_bounded : Log1pfBounded
unfolding log1pf_of
log1pf_bounded = value_in single 100 single_sizes
