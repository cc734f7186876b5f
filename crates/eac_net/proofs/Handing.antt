-- A party that is there, and the list that it hands out by its kind.
use Rattle.std.proofs.Common.{◌≡◌, ℕ, List, Bool, true≢false, Some, None, sym, ap, ◌∙◌, subst}
use Rattle.std.specs.Prelude.{IfOk, IsTrue, option_map}
use Rattle.std.specs.declared.option.Option.{Option}
use Rattle.std.specs.declared.result.Result.{Result}
use Rattle.eac_base.specs.Telling.{Told}
use Rattle.policy_limits.specs.Setup.{SetupValue, party}
use Rattle.policy_limits.specs.declared.party.Party.{Party}
use Rattle.policy_limits.specs.declared.party.PartyKind.{PartyKind}
use Rattle.keeper.specs.declared.rows.Row.{Row}
use Rattle.holder_core.specs.declared.fault.HolderFault.{HolderFault}
use Rattle.eac_net.specs.Parties.{is_issuer, kind_at, kind_is, is_party_of}
use Rattle.eac_net.specs.Pushing.{due_by, list_due, asked_by, ListAsked}

-- a party of some kind is there
pub party_there : (test : PartyKind → Bool) (setup : SetupValue) (number : ℕ) → None ≡ party setup number → IsTrue (is_party_of test setup number) → ⊥
party_there test setup number none h = true≢false (sym h ∙ ap (λ (found : Option Party). kind_is test (option_map (λ (p : Party). p.kind) found)) (sym none))

module _ (setup : SetupValue) (desk : ℕ) (p : Party) (there : Some p ≡ party setup desk) (kind : PartyKind) (kind_so : p.kind ≡ kind) where
  at_kind : kind_at setup desk ≡ Some kind
  at_kind = ap (λ (found : Option Party). option_map (λ (q : Party). q.kind) found) (sym there) ∙ ap Some kind_so

  pub told_due : (a b : Option (List Row)) (result : Result (List (List ℕ)) HolderFault) → Told a b (λ before after. (after ≡ before) × IfOk result (λ list. list ≡ due_by (Some kind) desk before)) →
      Told a b (λ before after. (after ≡ before) × IfOk result (λ list. list ≡ list_due setup desk before))
  told_due a b result told = subst (λ (k : Option PartyKind). Told a b (λ (before after : List Row). (after ≡ before) × IfOk result (λ list. list ≡ due_by k desk before))) (sym at_kind) told

  pub asked_due : (result : Result (List (List ℕ)) HolderFault) → IfOk result (asked_by (Some kind) desk) → IfOk result (ListAsked setup desk)
  asked_due result h = subst (λ (k : Option PartyKind). IfOk result (asked_by k desk)) (sym at_kind) h

  pub issues : IsTrue (is_party_of is_issuer setup desk) → IsTrue (is_issuer kind)
  issues h = subst (λ (k : Option PartyKind). IsTrue (kind_is is_issuer k)) at_kind h
