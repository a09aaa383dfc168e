use Rattle.std.proofs.Common.{◌≡◌, ◌+◌, ◌*◌, ◌^◌, ◌<◌, length, drop}
use Rattle.lines.specs.Digits.{all_digits, spelled}
use Rattle.lines.proofs.digits.number.Given as goal

-- what is read is below 16^i, and with what is left spells the whole
abbrev pub invariant-loop-byte : goal.invariant-loop-byte
invariant-loop-byte l = record {
  small : l.n < 16 ^ l.byte-index;
  spells : l.n * 16 ^ length (drop l.byte-index l.digits) + spelled (drop l.byte-index l.digits) ≡ spelled l.digits;
  digits : all_digits (drop l.byte-index l.digits) ≡ all_digits l.digits;
}
