-- What an open gave. Assumes nothing.
use Rattle.std.proofs.Common.{◌≡◌, ℕ, Bool, true, false, not, ◌&&◌, eqb, leb, List, length, Ok, Err, Result, refl, ap, arith}
use Rattle.refusals.specs.Refusals.{Told}
use Rattle.kinds.specs.Kinds.{Meaning}
use Rattle.ledger.specs.Refusals.{memory}
use Rattle.ledger.specs.Rules.{refuse}
use Rattle.sheet.specs.declared.heads.OpenSheet.{OpenSheet}
use Rattle.sheet.specs.Sheets.{openable, fresh, opens, opened}
use Rattle.week.specs.Weeks.{sheet_of, new_sheet}

module _ {K : Type 0} (k : Meaning K) (ms : List ℕ) (xs : List K) (ms' : List ℕ) (xs' : List K) where
  pub record Opened (s : OpenSheet) : Type 0 where
    pub taken : openable (length ms) (length xs) ≡ Ok (length ms)
    pub rows : s.len ≡ length ms
    pub new : sheet_of false ms' xs' ≡ new_sheet k (length ms)

  pub open_done : (s : OpenSheet) → opens (Ok s) ms' xs' ≡ opened k ms xs → Opened s
  open_done s h = go (not (eqb (length xs) (length ms) && (leb 1 (length ms) && leb (length ms) 4096))) refl h
    where
      go : (b : Bool) → not (eqb (length xs) (length ms) && (leb 1 (length ms) && leb (length ms) 4096)) ≡ b → opens (Ok s) ms' xs' ≡ fresh k ms xs (refuse b memory (Ok (length ms))) → Opened s
      go true p h = let a : ◌≡◌ {A = Result ℕ Told} (Ok s.len) (Err memory) = ap (λ o. o.answer) h in let z : ◌≡◌ {A = ℕ} 0 1 = cc in absurd (omega arith)
      go false p h =
          let a : ◌≡◌ {A = Result ℕ Told} (Ok s.len) (Ok (length ms)) = ap (λ o. o.answer) h in
          record {
            taken = ap (λ b. refuse b memory (Ok (length ms))) p;
            rows = cc;
            new = ap (λ o. record { closed = false; slices = o.slices }) h;
          }
