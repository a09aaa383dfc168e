-- What is computed of the constants of expm1f: the reduction for counts up to 128, the kernel and the last steps. Assumes nothing.
use mathlib.Core.Path.{refl}
use mathlib.Core.Logic.{inl, inr}
use mathlib.Core.Bool.{false}
use Prim.Native.Nat.{◌^◌}
use lib.IntN.{negsuc}
use lib.Dec.{lit<, lit≤}
use lib.Ieee.{binary32, fin, round, neg, add, sub, mul, div, le, is_nan, of_bits, of_int}
use Rattle.numeric.proofs.Split.{Sizes, Sound}
use Rattle.exponential.specs.Expm1.{single}
use Rattle.exponential.specs.Ln2 as Ln2s
use Rattle.single.specs.Expm1f.{expm1f_of}
use Rattle.single.proofs.Special.{expm1f_bands}
use Rattle.reduction_laws.proofs.Counting.{Table}
use Rattle.exponential_laws.proofs.Kernel.{Kernel}
use Rattle.exponential_laws.proofs.Ladder.{Ladder}
use Rattle.exponential_laws.proofs.Cases.{Ends}
use Rattle.exponential_laws.proofs.Range.{Limits, Computed}

-- 23/64, 5/4096, 179/512 and 3/1024
abbrev pub sizes : Sizes
sizes = record {
  head = fin false 23 (negsuc 5);
  tail = fin false 5 (negsuc 11);
  rest = fin false 179 (negsuc 8);
  correction = fin false 3 (negsuc 9);
  places = 124;
  slack = fin false 1 (negsuc 25);
}

sizes_sound : Sound binary32 sizes
unfolding round neg add sub le
sizes_sound = record {
  half_is = inl (2 ^ 148, refl, refl);
  half_turned = inr (2 ^ 148, refl, refl);
  slack_is = refl;
  slack_plain = refl;
  finite_slack = tt;
  finite_head = (tt, tt);
  finite_tail = (tt, tt);
  finite_rest = (tt, tt);
  below_half = tt;
  above_half = tt;
  step = tt;
}

table : Table Ln2s.single sizes 128
unfolding add sub mul neg le of_bits round of_int
table = record {
  sound = sizes_sound;
  ups = tt;
  downs = tt;
  some = lit≤ tt;
  few = lit≤ tt;
  room = lit< tt;
  product = tt;
  reach = tt;
  inverse_plain = refl;
  finites = (tt, tt, tt, tt, tt, tt);
  first = (tt, tt);
  first_product = (tt, tt);
  one_whole = refl;
  once_from = tt;
  more_to = tt;
  once_room = lit< tt;
  more_room = lit< tt;
}

kernel : Kernel single sizes
unfolding of_bits add sub mul div neg le
kernel = record { plain = tt; plain_up = tt; corrected = tt; halving = tt; under = tt; over = tt; outermost = tt; early = tt; late = tt }

ladder : Ladder single 127
unfolding of_bits add sub mul neg le
ladder = record { rungs = tt; steps = tt; wide = lit< tt; last = tt; ends = (tt, tt, tt); less = tt }

ends : Ends single
unfolding of_bits le is_nan expm1f_of
ends = record { tiny_room = lit< tt; far_room = lit< tt; overflow_number = tt; overflow_positive = tt; far_widest = tt; overflow_widest = tt; far_overflow = tt; special = expm1f_bands }

limits : Limits single 127
unfolding of_bits le neg round
limits = record { tiny_largest = tt; half_largest = tt; tiny_one = tt; last_count = tt; least_count = tt; infinity_above = tt; minus_one_is = refl }

pub computed : Computed single sizes 128 127
computed = record { table = table; kernel = kernel; ladder = ladder; ends = ends; limits = limits }
