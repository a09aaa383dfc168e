-- The reduction of an f64, for counts up to 1075 in size. Assumes nothing.
use Rattle.std.proofs.Common.{◌^◌, false, T, negsuc, refl, inl, inr, lit<, lit≤}
use lib.Ieee.{binary64, fin, round, neg, add, sub, mul, le, of_bits, of_int}
use Rattle.numeric.proofs.Split.{Sizes, Sound}
use Rattle.numeric.proofs.Tests.{every}
use Rattle.exponential.specs.Ln2.{double}
use Rattle.reduction_laws.proofs.Counting.{Table, test_up, test_down}

-- 23/64, 2^-20, 179/512 and 2^-18
abbrev pub sizes : Sizes
sizes = record {
  head = fin false 23 (negsuc 5);
  tail = fin false 1 (negsuc 19);
  rest = fin false 179 (negsuc 8);
  correction = fin false 1 (negsuc 17);
  places = 1020;
  slack = fin false 1 (negsuc 54);
}

sizes_sound : Sound binary64 sizes
unfolding round neg add sub le
sizes_sound = record {
  half_is = inl (2 ^ 1073, refl, refl);
  half_turned = inr (2 ^ 1073, refl, refl);
  slack_is = refl;
  slack_plain = refl;
  finite_slack = tt;
  finite_head = (tt, tt);
  finite_tail = (tt, tt);
  finite_rest = (tt, tt);
  below_half = tt;
  above_half = tt;
  step = tt;
}

tests_up : T (every (test_up double sizes) 1075 0)
unfolding add sub mul neg le of_bits round of_int
tests_up = tt

tests_down : T (every (test_down double sizes) 1075 0)
unfolding add sub mul neg le of_bits round of_int
tests_down = tt

pub table : Table double sizes 1075
unfolding add sub mul neg le of_bits round of_int
table = record {
  sound = sizes_sound;
  ups = tests_up;
  downs = tests_down;
  some = lit≤ tt;
  few = lit≤ tt;
  room = lit< tt;
  product = tt;
  reach = tt;
  inverse_plain = refl;
  finites = (tt, tt, tt, tt, tt, tt);
  first = (tt, tt);
  first_product = (tt, tt);
  one_whole = refl;
  once_from = tt;
  more_to = tt;
  once_room = lit< tt;
  more_room = lit< tt;
}
