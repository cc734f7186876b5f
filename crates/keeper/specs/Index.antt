-- The index of a list of rows (this project's own).
use Rattle.std.specs.Prelude.{◌≡◌, ℕ, List}
use Rattle.std.specs.List.{position}
use Rattle.std.specs.BTreeMap.{BTreeMap, get}
use Rattle.keeper.specs.declared.rows.Row.{Row}
use Rattle.keeper.specs.declared.index.Index.{Index}
use Rattle.keeper.specs.Headings.{Heading, heading_cmp, is_under, desk_of, holder_of, key_of, list_at, places_of}

-- under each heading are the places of the rows that are filed there, in their order
abbrev pub AreFiled : (Row → Heading) → BTreeMap Heading (List ℕ) → List Row → Type 0
AreFiled heading_of lists rows = (q : Heading) → list_at lists q ≡ places_of (λ row. is_under (heading_of row) q) rows

-- each key has its row's place
abbrev pub AreKeyed : BTreeMap Heading ℕ → List Row → Type 0
AreKeyed keys rows = (q : Heading) → get heading_cmp keys q ≡ position (λ row. is_under (key_of row) q) rows

pub record IsIndex (index : Index) (rows : List Row) : Type 0 where
  pub keys : AreKeyed index.keys.places rows
  pub desks : AreFiled desk_of index.desks.lists rows
  pub holders : AreFiled holder_of index.holders.lists rows
