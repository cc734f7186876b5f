-- Which kinds of parties are among which.
use Rattle.std.proofs.Common.{ℕ, Some, None, refl}
use Rattle.std.specs.Prelude.{Bool, IsTrue}
use Rattle.std.specs.declared.option.Option.{Option}
use Rattle.policy_limits.specs.Setup.{SetupValue}
use Rattle.policy_limits.specs.declared.party.PartyKind.{PartyKind}
use Rattle.policy_limits.specs.declared.party.PartyKind.TheVariants as kinds
use Rattle.eac_net.specs.Parties.{is_any, kind_at, kind_is, is_party_of}

any_of : (test : PartyKind → Bool) (found : Option PartyKind) → IsTrue (kind_is test found) → IsTrue (kind_is is_any found)
any_of test (Some (kinds.Cvca form rights days)) h = refl
any_of test (Some kinds.Dv) h = refl
any_of test (Some kinds.Terminal) h = refl
any_of test None h = absurd (cc)

-- a party of some kind is one
pub some_party : (test : PartyKind → Bool) (setup : SetupValue) (number : ℕ) → IsTrue (is_party_of test setup number) → IsTrue (is_party_of is_any setup number)
some_party test setup number h = any_of test (kind_at setup number) h
