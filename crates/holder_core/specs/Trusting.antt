-- A founding certificate that is carried by hand, as `trust_ca` stores it (this project's own).
use Rattle.std.specs.Prelude.{◌≡◌, ℕ, List, [], ◌∷◌, ◌++◌, length, Option, Some, None, Result, Bool, is_some, option_map, nat_le, if◌then◌else◌}
use Rattle.keeper.specs.declared.rows.Row.{Row}
use Rattle.keeper.specs.declared.rows.CaPart.{CaPart}
use Rattle.keeper.specs.declared.rows.Part.{Part}
use Rattle.keeper.specs.declared.rows.Part.TheVariants as part
use Rattle.keeper.specs.declared.rows.Table.TheVariants as table
use Rattle.keeper.specs.Rows.{row_at, most_rows}
use Rattle.keeper.specs.Keeping.{IsAsked}
use Rattle.holder_core.specs.OwnRows.{ca_rows}
use Rattle.holder_core.specs.WritesOnce.{WritesOnce}
use Rattle.holder_core.specs.declared.fault.HolderFault.{HolderFault}
use Rattle.holder_core.specs.declared.adding.Added.{Added}
use Rattle.holder_core.specs.declared.adding.Added.TheVariants as added
use Rattle.holder_core.specs.declared.ca_rule.TakenCa.{TakenCa}
use Rattle.holder_core.specs.declared.ca_rule.TakenCa.TheVariants as taken
use Rattle.holder_core.specs.declared.ca_rule.CaRule.TheVariants as rule

-- ---- what is carried

-- the key and the certificate of an own row that has one
abbrev pub carried : Part → Option CaPart
carried (part.Own own) = option_map (λ settled. record { key = own.key; settled = settled }) own.settled
carried (part.Register request day) = None
carried (part.Issued p) = None
carried (part.Ca p) = None

-- as a row of the party that trusts it
abbrev pub trusted_row : ℕ → List ℕ → CaPart → Row
trusted_row party reference ca = record { desk = party; reference = reference; part = part.Ca ca }

-- ---- over rows

-- the party has no room for a further authority
abbrev pub is_full : ℕ → List Row → Bool
is_full party rows = nat_le most_rows (length (ca_rows party rows))

-- the answer that is due
abbrev pub trust_due : ℕ → List ℕ → List Row → TakenCa
trust_due party reference rows =
    if is_some (row_at table.Ca party reference rows) then taken.Held reference
    else (if is_full party rows then taken.Refused rule.Full else taken.Stored reference)

-- all but `Stored` come without a write
abbrev pub unwritten : TakenCa → Option TakenCa
unwritten (taken.Stored reference) = None
unwritten (taken.Held reference) = Some (taken.Held reference)
unwritten (taken.Refused k) = Some (taken.Refused k)

-- one call
abbrev pub Trusts : ℕ → List ℕ → CaPart → List Row → List Row → Result TakenCa HolderFault → Type 0
Trusts party reference ca before after result =
    WritesOnce (unwritten (trust_due party reference before)) None None
    (λ answer rows. (answer ≡ taken.Stored reference) × (rows ≡ before ++ trusted_row party reference ca ∷ []))
    before after result

-- ---- for every keeper: a row under that reference is held, and `Full` is the keeper's word

abbrev pub TrustCause : ℕ → List ℕ → TakenCa → Type 0
TrustCause party reference (taken.Stored r) = r ≡ reference
TrustCause party reference (taken.Held r) = (r ≡ reference) × (kept : Row) × IsAsked table.Ca party reference kept
TrustCause party reference (taken.Refused k) = k ≡ rule.Full

-- ---- what an adding is answered

abbrev pub trusted_answer : List ℕ → Added → TakenCa
trusted_answer reference added.New = taken.Stored reference
trusted_answer reference (added.There kept) = taken.Held reference
trusted_answer reference added.Full = taken.Refused rule.Full
