-- What is computed of the constants of expm1 for an f64. Assumes nothing.
use Rattle.std.proofs.Common.{T, refl, lit<}
use lib.Ieee.{add, sub, mul, div, neg, le, round, is_nan, of_bits}
use Rattle.numeric.proofs.Tests.{every}
use Rattle.exponential.specs.Expm1.{double, expm1_of}
use Rattle.exponential.proofs.Special.{expm1_bands}
use Rattle.reduction_laws.proofs.Double.{sizes, table}
use Rattle.exponential_laws.proofs.Kernel.{Kernel}
use Rattle.exponential_laws.proofs.Ladder.{Ladder, rung}
use Rattle.exponential_laws.proofs.Cases.{Ends}
use Rattle.exponential_laws.proofs.Range.{Limits, Computed}

kernel : Kernel double sizes
unfolding of_bits add sub mul div neg le
kernel = record { plain = tt; plain_up = tt; corrected = tt; halving = tt; under = tt; over = tt; outermost = tt; early = tt; late = tt }

rungs_ok : T (every (rung double) 1023 0)
unfolding of_bits add sub mul neg le
rungs_ok = tt

ladder : Ladder double 1023
unfolding of_bits add sub mul neg le
ladder = record { rungs = rungs_ok; steps = tt; wide = lit< tt; last = tt; ends = (tt, tt, tt); less = tt }

ends : Ends double
unfolding of_bits le is_nan expm1_of
ends = record { tiny_room = lit< tt; far_room = lit< tt; overflow_number = tt; overflow_positive = tt; far_widest = tt; overflow_widest = tt; far_overflow = tt; special = expm1_bands }

limits : Limits double 1023
unfolding of_bits le neg round
limits = record { tiny_largest = tt; half_largest = tt; tiny_one = tt; last_count = tt; least_count = tt; infinity_above = tt; minus_one_is = refl }

pub computed : Computed double sizes 1075 1023
computed = record { table = table; kernel = kernel; ladder = ladder; ends = ends; limits = limits }
