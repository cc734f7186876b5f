-- The first certificate of an authority, as `found` makes it (BSI TR-03110-3, trust points; the refusals are this
-- project's own).
use Rattle.std.specs.Prelude.{◌≡◌, ℕ, List, [], ◌∷◌, length, Option, Some, None, Result, Ok, Err, is_none, option_map, if◌then◌else◌, nat_lt}
use Rattle.signature_provider.specs.Instruments.{form_named}
use Rattle.signature_provider.specs.Provider.{Says, Holds, Signed}
use Rattle.keeper.specs.declared.rows.Row.{Row}
use Rattle.holder_core.specs.Numbers.{numbered}
use Rattle.holder_core.specs.OwnRows.{own_rows}
use Rattle.holder_core.specs.WritesOnce.{WritesOnce}
use Rattle.holder_core.specs.declared.adding.Added.{Added}
use Rattle.holder_core.specs.declared.adding.Added.TheVariants as added
use Rattle.holder_core.specs.declared.fault.HolderFault.{HolderFault}
use Rattle.cvca_desk.specs.Terms.{dates}
use Rattle.cvca_desk.specs.declared.terms.Terms.{Terms}
use Rattle.cvca_desk.specs.declared.due.Due.{Due}
use Rattle.cvca_desk.specs.OwnCertificate.{WritesOwn}
use Rattle.cvca_desk.specs.Signing.{SignsOwn}
use Rattle.cvca_desk.specs.Asking.{AsksOwn}
use Rattle.cvca_desk.specs.declared.founding.Founded.{Founded}
use Rattle.cvca_desk.specs.declared.founding.Founded.TheVariants as founded

-- the first refusal: there are so many own rows, and these are the dates
abbrev pub found_refused : (count : ℕ) → (days : Option (ℕ × ℕ)) → Option Founded
found_refused count days =
    if nat_lt 0 count then Some founded.AlreadyFounded else (if is_none days then Some founded.Short else None)

-- under the first number, of the form that the setup names, signed by its own key
abbrev pub founding_of : Terms → ℕ × ℕ → Due
founding_of t days = record { terms = t; form = form_named t.form; reference = numbered t.holder 1; by = None; days = days }

abbrev pub founding_due : Terms → (day : ℕ) → Option Due
founding_due t day = option_map (founding_of t) (dates t day)

module _ (held holds : Holds) (desk day : ℕ) (t : Terms) where
  -- one call over rows
  abbrev pub Founds : Says → List Row → List Row → Result Founded HolderFault → Type 0
  Founds says before after result =
      WritesOnce (found_refused (length (own_rows desk before)) (dates t day)) None None
      (WritesOwn founded.New says held holds desk (founding_due t day) before) before after result

  -- what it signed: the certificate's body, by its own key
  abbrev pub SignsFounding : Signed × Signed → List Row → List Row → Result Founded HolderFault → Type 0
  SignsFounding signed before after result =
      SignsOwn (found_refused (length (own_rows desk before)) (dates t day)) None held holds signed desk (founding_due t day) before after result

-- what it asked, whatever its keeper is: by the number of own rows that the keeper said
pub record AsksFounding (held holds : Holds) (day : ℕ) (t : Terms) (says : Says) (signed : Signed × Signed) (result : Result Founded HolderFault) : Type 0 where
  pub count : ℕ
  pub asks : AsksOwn founded.New founded.AlreadyFounded says held holds signed (found_refused count (dates t day)) (founding_due t day) result

-- ---- its steps

-- what is answered to an adding
abbrev pub founded_as : (reference : List ℕ) → Added → Founded
founded_as reference added.New = founded.New reference
founded_as reference (added.There kept) = founded.AlreadyFounded
founded_as reference added.Full = founded.AlreadyFounded

-- the dates, or the first refusal
abbrev pub Plans : ℕ → Terms → ℕ → Result (ℕ × ℕ) Founded → Type 0
Plans day t count (Err refusal) = found_refused count (dates t day) ≡ Some refusal
Plans day t count (Ok days) = (found_refused count (dates t day) ≡ None) × (dates t day ≡ Some days)

module _ (says : Says) (held holds : Holds) (signed : Signed × Signed) (desk : ℕ) where
  -- rows and what was signed at once
  pub record Found (day : ℕ) (t : Terms) (before after : List Row) (result : Result Founded HolderFault) : Type 0 where
    pub rows : Founds held holds desk day t says before after result
    pub signs : SignsFounding held holds desk day t signed before after result

  -- the same where nothing is refused
  abbrev pub Entered : Terms → ℕ × ℕ → List Row → List Row → Result Founded HolderFault → Type 0
  Entered t days before after result =
      (day : ℕ) → dates t day ≡ Some days → found_refused (length (own_rows desk before)) (Some days) ≡ None → Found day t before after result
