-- Parties of a setup, by their kind and by references (this project's own).
use Rattle.std.specs.Prelude.{◌||◌, ℕ, List, [], Option, Some, None, Bool, false, option_map, option_and_then}
use Rattle.holder_reference.specs.Reference.{holder_part}
use Rattle.policy_limits.specs.Setup.{SetupValue, party, number_of, is_authority, is_verifier, is_inspection_system}
use Rattle.policy_limits.specs.declared.party.Party.{Party}
use Rattle.policy_limits.specs.declared.party.PartyKind.{PartyKind}
use Rattle.keeper.specs.declared.rows.Row.{Row}
use Rattle.keeper.specs.declared.rows.Table.TheVariants as table
use Rattle.keeper.specs.Rows.{row_at}

-- ---- kinds

abbrev pub is_issuer : PartyKind → Bool
is_issuer kind = is_authority kind || is_verifier kind

abbrev pub is_holder : PartyKind → Bool
is_holder kind = is_verifier kind || is_inspection_system kind

abbrev pub is_any : PartyKind → Bool
is_any kind = is_authority kind || is_verifier kind || is_inspection_system kind

abbrev pub kind_at : SetupValue → ℕ → Option PartyKind
kind_at setup number = option_map (λ p. p.kind) (party setup number)

abbrev pub kind_is : (PartyKind → Bool) → Option PartyKind → Bool
kind_is test (Some kind) = test kind
kind_is test None = false

-- the party of this number is there, and of such a kind
abbrev pub is_party_of : (PartyKind → Bool) → SetupValue → ℕ → Bool
is_party_of test setup number = kind_is test (kind_at setup number)

-- ---- holders

-- no party has the empty name
abbrev pub holder_of : Option Party → List ℕ
holder_of (Some p) = p.holder
holder_of None = []

abbrev pub holder_at : SetupValue → ℕ → List ℕ
holder_at setup number = holder_of (party setup number)

-- the own row of this reference, at the party whose holder the reference has
abbrev pub own_named : SetupValue → List Row → List ℕ → Option Row
own_named setup rows reference =
    option_and_then (λ desk. row_at table.Own desk reference rows) (number_of setup (holder_part reference))
