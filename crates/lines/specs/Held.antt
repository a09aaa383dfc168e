-- The bytes that a `ShortBytes` holds.
use Rattle.std.specs.Prelude.{ℕ, List, take}
use Rattle.lines.specs.declared.short.ShortBytes.{ShortBytes}

abbrev pub held : {N : ℕ} → ShortBytes N → List ℕ
held s = take s.len s.bytes
