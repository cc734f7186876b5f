-- What a party keeps: its own keys, and the certificates of authorities (BSI TR-03110-3).
use Rattle.std.specs.Prelude.{◌≡◌, ℕ, List, Option, Some, None, IfSome, option_and_then}
use Rattle.keeper.specs.declared.rows.Row.{Row}
use Rattle.keeper.specs.declared.rows.OwnPart.{OwnPart}
use Rattle.keeper.specs.declared.rows.CaPart.{CaPart}
use Rattle.keeper.specs.declared.rows.Part.{Part}
use Rattle.keeper.specs.declared.rows.Part.TheVariants as part
use Rattle.keeper.specs.declared.rows.Table.TheVariants as table
use Rattle.keeper.specs.Rows.{rows_of, row_at}
use Rattle.keeper.specs.Keeping.{IsAsked}

-- ---- its own keys

abbrev pub own_rows : ℕ → List Row → List Row
own_rows party rows = rows_of table.Own party rows

abbrev pub own_part : Part → Option OwnPart
own_part (part.Own p) = Some p
own_part (part.Register request day) = None
own_part (part.Issued p) = None
own_part (part.Ca p) = None

-- what a row that was found keeps of an own key
abbrev pub own_in : Option Row → Option OwnPart
own_in found = option_and_then (λ row. own_part row.part) found

-- the party's own key of this reference
abbrev pub own_at : ℕ → List ℕ → List Row → Option OwnPart
own_at party reference rows = own_in (row_at table.Own party reference rows)

-- ---- authorities: their certificates, with their keys

abbrev pub ca_rows : ℕ → List Row → List Row
ca_rows party rows = rows_of table.Ca party rows

abbrev pub ca_part : Part → Option CaPart
ca_part (part.Ca p) = Some p
ca_part (part.Register request day) = None
ca_part (part.Issued p) = None
ca_part (part.Own p) = None

abbrev pub ca_in : Option Row → Option CaPart
ca_in found = option_and_then (λ row. ca_part row.part) found

-- the authority that the party knows by this reference
abbrev pub ca_at : ℕ → List ℕ → List Row → Option CaPart
ca_at party reference rows = ca_in (row_at table.Ca party reference rows)

-- ---- rows as they were asked for. There are such rows: that this keeper gave them isn't said, but where its rows are told.

pub record IsOwnAsked (party : ℕ) (reference : List ℕ) (own : Option OwnPart) : Type 0 where
  pub row : Option Row
  pub asked : IfSome row (IsAsked table.Own party reference)
  pub own_is : own ≡ own_in row

pub record IsCaAsked (party : ℕ) (reference : List ℕ) (ca : Option CaPart) : Type 0 where
  pub row : Option Row
  pub asked : IfSome row (IsAsked table.Ca party reference)
  pub ca_is : ca ≡ ca_in row
