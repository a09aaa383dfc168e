-- What is said of rows and replies over a list of calls, and of the week that mirrors another.
use Rattle.std.specs.Prelude.{◌≡◌, ℕ, Bool, false, map, ◌==◌}
use Rattle.kinds.specs.Kinds.{Meaning, Same}
use Rattle.ledger.specs.declared.mark.Mark.{Mark}
use Rattle.ledger.specs.declared.mark.Mark.TheVariants.{Free, Plain, Turned}
use Rattle.ledger.specs.declared.call.Call.{Call}
use Rattle.ledger.specs.declared.call.Call.TheVariants.{Enter, On, OnAll, Back, Clear, Read, Close, Reopen, Total, Mean, Exceeds}
use Rattle.ledger.specs.declared.call.Listed.{Listed}
use Rattle.ledger.specs.Rules.{Row}
use Rattle.ledger.specs.Ledgers.{Ledger, Reply, done, row, amount, verdict, refused, left_out}

-- Refused for its figure: 4 from on or on_all, 7 from back.
abbrev pub for_figure : {K : Type 0} → Call K → ℕ → Bool
for_figure (On i) number = number == 4
for_figure OnAll number = number == 4
for_figure (Back i) number = number == 7
for_figure (Enter i x) number = false
for_figure (Clear i) number = false
for_figure (Read i) number = false
for_figure Close number = false
for_figure Reopen number = false
for_figure Total number = false
for_figure Mean number = false
for_figure (Exceeds x) number = false

abbrev pub refused_for_figure : {K : Type 0} → Call K → Reply K → Bool
refused_for_figure call done = false
refused_for_figure call (row m x) = false
refused_for_figure call (amount x) = false
refused_for_figure call (verdict b) = false
refused_for_figure call (refused t) = for_figure call t.number
refused_for_figure call left_out = false

module _ {K : Type 0} (k : Meaning K) where
  -- the figure of a held row with its sign turned; that of a free row as it is
  abbrev pub turn_held : Mark → K → K
  turn_held Free x = x
  turn_held Plain x = k.turned x
  turn_held Turned x = k.turned x

  abbrev pub mirror_row : Row K → Row K
  mirror_row r = record { mark = r.mark; figure = turn_held r.mark r.figure }

  abbrev pub mirror_ledger : Ledger K → Ledger K
  mirror_ledger l = record { closed = l.closed; rows = map mirror_row l.rows }

  -- the same call, where a figure that is entered has its sign turned; a limit stays
  abbrev pub mirror_call : Call K → Call K
  mirror_call (Enter i x) = Enter i (k.turned x)
  mirror_call (On i) = On i
  mirror_call OnAll = OnAll
  mirror_call (Back i) = Back i
  mirror_call (Clear i) = Clear i
  mirror_call (Read i) = Read i
  mirror_call Close = Close
  mirror_call Reopen = Reopen
  mirror_call Total = Total
  mirror_call Mean = Mean
  mirror_call (Exceeds x) = Exceeds x

  abbrev pub mirror_listed : Listed K → Listed K
  mirror_listed q = record { marks = q.marks; figures = q.figures; call = mirror_call q.call }

  -- What the mirrored call is answered: refused alike, by the same number with all that it names; a row read has the
  -- same mark, and its figure sign-turned bit for bit if it is held; a total or a mean is sign-turned as a number, so
  -- that both zeros count as one; of a verdict nothing is said.
  abbrev pub Alike : Reply K → Reply K → Type 0
  Alike done a = a ≡ done
  Alike (row m x) a = a ≡ row m (turn_held m x)
  Alike (amount s) a = (t : K) × (a ≡ amount t) × Same k t (k.turned s)
  Alike (verdict b) a = (v : Bool) × (a ≡ verdict v)
  Alike (refused t) a = a ≡ refused t
  Alike left_out a = a ≡ left_out
