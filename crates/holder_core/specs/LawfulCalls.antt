-- What the calls of a party keep of its rows' laws, and what a request answers under them (this project's own).
use Rattle.std.specs.Prelude.{◌≡◌, ◌≢◌, ◌⊎◌, ℕ, List, Option, Result, Ok, None, Some}
use Rattle.signature_provider.specs.Provider.{Says, Holds, Signed}
use Rattle.keeper.specs.declared.rows.Row.{Row}
use Rattle.keeper.specs.declared.rows.CaPart.{CaPart}
use Rattle.holder_core.specs.OwnRows.{own_rows, ca_rows}
use Rattle.holder_core.specs.Signers.{Signer}
use Rattle.holder_core.specs.Lawful.{AreNumbered, AreFounded}
use Rattle.holder_core.specs.Taking.{Takes}
use Rattle.holder_core.specs.TakingCa.{TakesCa}
use Rattle.holder_core.specs.Trusting.{Trusts}
use Rattle.holder_core.specs.Receiving.{Receives, Question}
use Rattle.holder_core.specs.Requesting.{Requests, WritesRequest, request_refused, authority_in}
use Rattle.holder_core.specs.declared.fault.HolderFault.{HolderFault}
use Rattle.holder_core.specs.declared.made.Made.{Made}
use Rattle.holder_core.specs.declared.take_rule.Taken.{Taken}
use Rattle.holder_core.specs.declared.ca_rule.TakenCa.{TakenCa}
use Rattle.holder_core.specs.declared.received.Item.{Item}

-- each desk's numbers and each authority's certificates stay as they were
pub record KeepsLaw (before after : List Row) : Type 0 where
  pub numbered : (desk : ℕ) (holder : List ℕ) → AreNumbered desk holder before → AreNumbered desk holder after
  pub founded : (desk : ℕ) → AreFounded desk before → AreFounded desk after

abbrev pub TakesKeep : Type 0
TakesKeep = (said : Says) (party : ℕ) (bytes : List ℕ) (before after : List Row) (result : Result Taken HolderFault) → Takes said party
    bytes before after result → KeepsLaw before after

abbrev pub TakesCaKeep : Type 0
TakesCaKeep = (said : Says) (party : ℕ) (bytes : List ℕ) (before after : List Row) (result : Result TakenCa HolderFault) → TakesCa said
    party bytes before after result → KeepsLaw before after

abbrev pub TrustsKeep : Type 0
TrustsKeep = (party : ℕ) (reference : List ℕ) (ca : CaPart) (before after : List Row) (result : Result TakenCa HolderFault) → Trusts party
    reference ca before after result → KeepsLaw before after

abbrev pub ReceivesKeep : Type 0
ReceivesKeep = (said : Says) (party : ℕ) (certificates : List (List ℕ)) (before after : List Row) (items : List Item)
    (fault : Option HolderFault) (asked : List Question) → Receives said party certificates before after items fault asked → KeepsLaw
    before after

-- ---- requests

-- Where the party's own rows are numbered they are so after a request, and no other desk has an own row more or less.
pub record KeepsNumbers (party : ℕ) (holder : List ℕ) (before after : List Row) : Type 0 where
  pub numbered : AreNumbered party holder before → AreNumbered party holder after
  pub others : (desk : ℕ) → desk ≢ party → own_rows desk after ≡ own_rows desk before

module _ (says : Says) (held holds : Holds) (signed : Signed × Signed) (party : ℕ) (holder authority root : List ℕ)
    (home : Option Signer) where
  -- the answer is the refusal that is due by the rows, or the request that is
  abbrev pub IsExact : (before after : List Row) → Made → Type 0
  IsExact before after answer =
      ((request_refused (own_rows party before) (authority_in authority root (ca_rows party before)) ≡ Some answer) × (after ≡ before))
      ⊎ ((request_refused (own_rows party before) (authority_in authority root (ca_rows party before)) ≡ None) × WritesRequest says held
      holds signed party holder authority root home before answer after)

  abbrev pub RequestKeeps : Type 0
  RequestKeeps = (before after : List Row) (result : Result Made HolderFault) → Requests says held holds signed party holder authority
      root home before after result → KeepsNumbers party holder before after

  -- Where the party's own rows are numbered, each refusal comes exactly where it is due by the rows.
  abbrev pub RequestIsExact : Type 0
  RequestIsExact = (before after : List Row) (answer : Made) → Requests says held holds signed party holder authority root home before
      after (Ok answer) → AreNumbered party holder before → IsExact before after answer

abbrev pub RequestsKeep : Type 0
RequestsKeep = (says : Says) (held holds : Holds) (signed : Signed × Signed) (party : ℕ) (holder authority root : List ℕ)
    (home : Option Signer) → RequestKeeps says held holds signed party holder authority root home

abbrev pub RequestsAreExact : Type 0
RequestsAreExact = (says : Says) (held holds : Holds) (signed : Signed × Signed) (party : ℕ) (holder authority root : List ℕ)
    (home : Option Signer) → RequestIsExact says held holds signed party holder authority root home
