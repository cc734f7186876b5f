-- Laws of an issuing desk's rows and calls (this project's own). Those of its stories are each desk's.
use Rattle.std.specs.Prelude.{◌≡◌, ℕ, List, [], ◌∷◌, ◌++◌, None, true, false}
use Rattle.signature_provider.specs.Provider.{Says, Holds, SaysMore}
use Rattle.policy_limits.specs.Setup.{SetupValue}
use Rattle.keeper.specs.declared.rows.Row.{Row}
use Rattle.keeper.specs.Rows.{UniqueKeys}
use Rattle.issue_core.specs.declared.rule.Rule.{Rule}
use Rattle.ledger.specs.Ledger.{Outcome, entries, faces, kept_for, is_open}
use Rattle.issue_core.specs.Issuing.Rules.{Case, first_rule}
use Rattle.issue_core.specs.Issuing.Desk.{issuing, Fault, IssueDelivery, IssuingStory}
use Rattle.issue_core.specs.Issuing.Rows.{entries_at, AreReadable}
use Rattle.issue_core.specs.Issuing.Calls.{case_of, is_held, delivery, Serves}
use Rattle.issue_core.specs.Issuing.Steps.{ByLists}

-- what readable rows with unique keys say of a request
abbrev pub ListsOwe : Type 0
ListsOwe = (said : Says) (setup : SetupValue) (desk day : ℕ) (bytes : List ℕ) (rows : List Row) → UniqueKeys rows → AreReadable rows → ByLists said (case_of said setup desk day bytes rows) rows

-- ---- one call after a story

-- A story whose ledger are the issued rows of a desk goes on by a call there: it is a story with the rows after the call as
-- its ledger, as the provider says after it.
abbrev pub CallsGoOn : Type 0
CallsGoOn = (said says : Says) (holds : Holds) (c : Case) (o : Outcome (List ℕ) Rule Fault) (k p : ℕ × ℕ) (before after : List Row) (ds : List IssueDelivery) → SaysMore said says →
    IssuingStory said [] ds → entries issuing ds ≡ entries_at c.desk before → (served : Serves says holds c o k p before after) →
    IssuingStory says [] (ds ++ delivery c o served.left k p (is_held holds c) ∷ []) × (entries issuing (ds ++ delivery c o served.left k p (is_held holds c) ∷ []) ≡ entries_at c.desk after)

-- where no rule is broken and the key to sign with isn't held, nothing is answered but a fault or want of memory
abbrev pub KeysAreNeeded : Type 0
KeysAreNeeded = (says : Says) (holds : Holds) (c : Case) (o : Outcome (List ℕ) Rule Fault) (k p : ℕ × ℕ) (before after : List Row) → Serves says holds c o k p before after →
    kept_for issuing (entries_at c.desk before) c.bytes ≡ None → first_rule (faces issuing (entries_at c.desk before)) c ≡ None → is_held holds c ≡ false → is_open o ≡ true
