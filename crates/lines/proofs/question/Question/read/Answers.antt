use Rattle.std.proofs.Common.{length, Ok, Err, sym, ◌∙◌, arith}
use Rattle.std.proofs.lemmas.Bool.{ltb-true, ltb-false}
use Rattle.std.proofs.lemmas.Grind.{common_steps}
use Rattle.std.proofs.lemmas.Result.{err_from_is_err_and}
use Rattle.lines.proofs.Reading.{too_long, with_space, without_space}
use Rattle.lines.proofs.question.Question.read.Goals as goal

pub returns-then-is_long : goal.returns-then-is_long
returns-then-is_long c = sym (too_long c.args.line.now (ltb-true 32 (length c.args.line.now) (sym c.if-is_long.ensures)))

pub returns-in_default : goal.returns-in_default
returns-in_default c =
    sym (without_space c.args.line.now (λ two space. grind (arith, common_steps))
    (ltb-false 32 (length c.args.line.now) (sym c.if-is_long.ensures)))

pub returns-in_err-function : goal.returns-in_err-function
returns-in_err-function c =
    let p = err_from_is_err_and c.from_residual.result c.from_residual.ensures.1 in
    rw (p.1, p.2)
    (with_space c.args.line.now c.from.result (Err c.in_err-function.field-0.0)
    (ltb-false 32 (length c.args.line.now) (sym c.if-is_long.ensures)) (omega arith) (omega arith) c.from.ensures
    (sym c.in_err-function.was ∙ c.try_from.ensures.1))

pub returns : goal.returns
returns c =
    c.of.ensures
    ∙ with_space c.args.line.now c.from.result (Ok c.in_ok-function.function)
    (ltb-false 32 (length c.args.line.now) (sym c.if-is_long.ensures)) (omega arith) (omega arith) c.from.ensures
    (sym c.in_ok-function.was ∙ c.try_from.ensures.1)
