use Rattle.std.proofs.Common.{◌-◌, ◌++◌, ap, ◌∙◌, arith}
use Rattle.lines.specs.Digits.{written}
use Rattle.lines.specs.Held.{held}
use Rattle.lines.proofs.Spelling.{write_more}
use Rattle.lines.proofs.digits.digits_of.Goals as goal

pub loop-place-preserved : goal.loop-place-preserved
loop-place-preserved c =
    ap (λ l. l ++ written (c.loop-place.place - 1) c.args.n) c.push.ensures
    ∙ write_more c.loop-place.place (c.loop-place.place - 1) c.args.places c.args.n c.digit_at.result (held c.loop-place.digits)
    (omega (arith, c.loop-place-test.true))
    c.requires
    c.digit_at.ensures
    c.loop-place.invariant
