use Rattle.std.proofs.Common.{◌≡◌, ◌++◌, drop, vec_items}
use Rattle.lines.specs.Cutting.{begun, fed, printed_for}
use Rattle.lines.proofs.session.answer_all.Given as goal

-- what is printed, and what the rest of the input will have printed
abbrev pub invariant-loop-byte : goal.invariant-loop-byte
invariant-loop-byte l =
    vec_items l.printed ++ fed (begun l.session) (drop l.byte-index l.input) ≡ printed_for l.input
