-- The certificates that a desk hands out (after BSI TR-03129; the limit and the order are this project's own).
use Rattle.std.specs.Prelude.{◌≡◌, ◌-◌, ◌++◌, ℕ, List, length, drop, Option, Some, None, Result, Ok, Err, option_map}
use Rattle.std.specs.List.{All, filter_map}
use Rattle.keeper.specs.declared.rows.Row.{Row}
use Rattle.keeper.specs.declared.rows.Part.{Part}
use Rattle.keeper.specs.declared.rows.Part.TheVariants as part
use Rattle.keeper.specs.declared.rows.Table.TheVariants as table
use Rattle.keeper.specs.Keeping.{IsDeskRow}
use Rattle.holder_core.specs.OwnRows.{own_rows, ca_rows}
use Rattle.holder_core.specs.declared.fault.HolderFault.{HolderFault}
use Rattle.holder_core.specs.declared.fault.HolderFault.TheVariants as fault

-- a list has no more than so many
abbrev pub most_listed : ℕ
most_listed = 64

-- the last ones, or all where there aren't more
abbrev pub last_of : {A : Type 0} → ℕ → List A → List A
last_of count xs = drop (length xs - count) xs

-- ---- what rows hand out

-- an authority's certificate, or an own one that has come
abbrev pub certificate_in : Part → Option (List ℕ)
certificate_in (part.Own p) = option_map (λ s. s.certificate) p.settled
certificate_in (part.Ca p) = Some p.settled.certificate
certificate_in (part.Register request day) = None
certificate_in (part.Issued p) = None

-- in the order of the rows
abbrev pub certificates : List Row → List (List ℕ)
certificates rows = filter_map (λ row. certificate_in row.part) rows

-- the last ones of some rows and further ones behind them
abbrev pub last_listed : (front back : List Row) → List (List ℕ)
last_listed front back = last_of most_listed (certificates front ++ certificates back)

-- ---- the list that is due, by the rows in the order of adding

-- a country authority's: its own certificates
abbrev pub authority_list : ℕ → List Row → List (List ℕ)
authority_list desk rows = last_of most_listed (certificates (own_rows desk rows))

-- a verifier's: those of its authorities, then its own
abbrev pub verifier_list : ℕ → List Row → List (List ℕ)
verifier_list desk rows = last_listed (ca_rows desk rows) (own_rows desk rows)

-- ---- for every keeper: by rows as they were asked for

pub record AuthorityAsked (desk : ℕ) (list : List (List ℕ)) : Type 0 where
  pub own : List Row
  pub own_asked : All (IsDeskRow table.Own desk) own
  pub list_is : list ≡ last_of most_listed (certificates own)

pub record VerifierAsked (desk : ℕ) (list : List (List ℕ)) : Type 0 where
  pub cas : List Row
  pub cas_asked : All (IsDeskRow table.Ca desk) cas
  pub own : List Row
  pub own_asked : All (IsDeskRow table.Own desk) own
  pub list_is : list ≡ last_listed cas own

-- ---- a step: want of memory is the holder's fault of that name

abbrev pub list_result : {L E : Type 0} → Result L E → Result L HolderFault
list_result (Ok list) = Ok list
list_result (Err e) = Err fault.NoMemory
