use Rattle.std.proofs.Common.{not, T}
use lib.Ieee.{Float, neg, le, lt, is_nan, of_bits}
use Rattle.numeric.proofs.Rounding.{le_trans_f}
use Rattle.numeric.proofs.Order.{not_lt-le}
use Rattle.numeric.proofs.Tests.{off}
use Rattle.numeric.proofs.Words.{mag_between}
use Rattle.exponential.specs.Ln2.{double, widest_of, Reducible}
use Rattle.exponential.specs.Exp.{overflow, underflow}
use Rattle.exponential.proofs.exp.banded.Goals as goal

reducible : (x : Float) → T (not (is_nan x)) → T (not (lt overflow x)) → T (not (lt x underflow)) → Reducible double x
reducible x n h k =
    mag_between x (widest_of double)
    (le_trans_f (neg (widest_of double)) underflow x (unfold of_bits neg le in tt) (not_lt-le x underflow n (unfold of_bits is_nan in tt) k))
    (le_trans_f x overflow (widest_of double) (not_lt-le overflow x (unfold of_bits is_nan in tt) n h) (unfold of_bits le in tt))

pub count-requires : goal.count-requires
count-requires c = reducible c.args.x c.requires (off (lt overflow c.args.x) c.if-x.false) (off (lt c.args.x underflow) c.if-x-2.false)
