-- What an authority's calls keep of its rows' laws (this project's own).
use Rattle.std.specs.Prelude.{ℕ, List, Result}
use Rattle.signature_provider.specs.Provider.{Says, Holds}
use Rattle.keeper.specs.declared.rows.Row.{Row}
use Rattle.holder_core.specs.Lawful.{AreFounded}
use Rattle.holder_core.specs.LawfulCalls.{KeepsNumbers}
use Rattle.holder_core.specs.declared.fault.HolderFault.{HolderFault}
use Rattle.cvca_desk.specs.declared.terms.Terms.{Terms}
use Rattle.cvca_desk.specs.declared.founding.Founded.{Founded}
use Rattle.cvca_desk.specs.declared.linking.Linked.{Linked}
use Rattle.cvca_desk.specs.Founding.{Founds}
use Rattle.cvca_desk.specs.Linking.{Links}

-- Where its own rows are numbered, and where each has a certificate that a trust point can be made of, they do so
-- afterwards; no other desk has an own row more or less.
pub record KeepsOwn (desk : ℕ) (holder : List ℕ) (before after : List Row) : Type 0 where
  pub numbers : KeepsNumbers desk holder before after
  pub founded : AreFounded desk before → AreFounded desk after

abbrev pub FoundingKeeps : Type 0
FoundingKeeps = (says : Says) (held holds : Holds) (desk day : ℕ) (t : Terms) (before after : List Row)
    (result : Result Founded HolderFault) → Founds held holds desk day t says before after result → KeepsOwn desk t.holder before after

abbrev pub LinkKeeps : Type 0
LinkKeeps = (says : Says) (held holds : Holds) (desk day : ℕ) (t : Terms) (before after : List Row)
    (result : Result Linked HolderFault) → Links held holds desk day t says before after result → KeepsOwn desk t.holder before after
