use Rattle.std.proofs.Common.{◌+◌, true, refl, arith}
use Rattle.lines.proofs.Spelling.{below_more, fits_digits, spell_more, all_more}
use Rattle.lines.proofs.digits.number.Goals as goal

pub with_digit-n-requires : goal.with_digit-n-requires
with_digit-n-requires c =
    fits_digits _ (c.loop-byte.byte-index + 1)
    (below_more _ _ _ _ c.loop-byte.invariant.small c.in_ok-digit.ensures.2 refl)
    (omega arith)

pub loop-byte-preserved : goal.loop-byte-preserved
loop-byte-preserved c = record {
  small = below_more _ _ _ _ c.loop-byte.invariant.small c.in_ok-digit.ensures.2 c.with_digit-n.ensures;
  spells = spell_more _ _ _ _ c.loop-byte-test.true _ _ c.in_ok-digit.ensures.1 c.with_digit-n.ensures c.loop-byte.invariant.spells;
  digits = all_more _ true _ _ c.loop-byte-test.true c.in_ok-digit.ensures.0 c.loop-byte.invariant.digits;
}
