-- Marks and the bytes that they are written as.
use Rattle.std.specs.Prelude.{ℕ, Bool, true, false, cond, List, codes, ◌==◌}
use Rattle.ledger.specs.declared.mark.Mark.{Mark}
use Rattle.ledger.specs.declared.mark.Mark.TheVariants.{Free, Plain, Turned}

-- 1 is plain, 2 is turned, and any other byte is read as free
abbrev pub mark_of : ℕ → Mark
mark_of byte = cond (byte == 1) Plain (cond (byte == 2) Turned Free)

abbrev pub byte_of : Mark → ℕ
byte_of Free = 0
byte_of Plain = 1
byte_of Turned = 2

-- the name of a mark, as bytes
abbrev pub named : Mark → List ℕ
named Free = codes "free"
named Plain = codes "plain"
named Turned = codes "turned"

-- held: plain or turned
abbrev pub held : Mark → Bool
held Free = false
held Plain = true
held Turned = true

abbrev pub is_plain : Mark → Bool
is_plain Free = false
is_plain Plain = true
is_plain Turned = false

abbrev pub is_turned : Mark → Bool
is_turned Free = false
is_turned Plain = false
is_turned Turned = true
