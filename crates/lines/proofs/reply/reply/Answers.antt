use Rattle.std.proofs.Common.{◌∷◌, [], ◌++◌, take, ap, ◌∙◌}
use Rattle.lines.specs.Replies.{reply_to, question_in}
use Rattle.lines.proofs.Answered.{answers}
use Rattle.lines.proofs.Reading.{line_feed_fits}
use Rattle.lines.proofs.reply.reply.Goals as goal

pub returns-clause-value : goal.returns-clause-value
unfolding reply_to
returns-clause-value c =
    c.with_line_feed.ensures
    ∙ (ap (λ l. take 17 (l ++ 10 ∷ [])) c.answer.ensures.value ∙ line_feed_fits (question_in c.args.line.now))

pub returns-clause-law : goal.returns-clause-law
returns-clause-law c = rw (returns-clause-value c) (answers c.args.line.now c.answer.ensures.fitting)
