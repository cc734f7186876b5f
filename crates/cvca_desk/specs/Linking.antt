-- A link certificate of an authority, as `new_link` makes it (BSI TR-03110-3, link certificates; the refusals are this
-- project's own).
use Rattle.std.specs.Prelude.{◌≡◌, ◌⊎◌, ℕ, ◌+◌, List, [], ◌∷◌, length, Option, Some, None, Result, Ok, Err, Bool, true, false, nat_le, is_none, is_some, option_and_then, option_map, if◌then◌else◌}
use Rattle.std.specs.List.{All}
use Rattle.signature_provider.specs.Provider.{Says, Holds, Signed}
use Rattle.keeper.specs.declared.rows.Row.{Row}
use Rattle.keeper.specs.declared.rows.Table.TheVariants as table
use Rattle.keeper.specs.Rows.{row_at}
use Rattle.keeper.specs.Keeping.{IsDeskRow}
use Rattle.holder_core.specs.Numbers.{numbered, most_keys, reference_after}
use Rattle.holder_core.specs.OwnRows.{own_rows}
use Rattle.holder_core.specs.Lawful.{AreNumbered}
use Rattle.holder_core.specs.Signers.{Signer, form_of, missing_of, newest_wanted}
use Rattle.holder_core.specs.WritesOnce.{WritesOnce}
use Rattle.holder_core.specs.declared.adding.Added.{Added}
use Rattle.holder_core.specs.declared.adding.Added.TheVariants as added
use Rattle.holder_core.specs.declared.fault.HolderFault.{HolderFault}
use Rattle.holder_core.specs.declared.newest.Wanted.TheVariants as wanted
use Rattle.cvca_desk.specs.Terms.{dates}
use Rattle.cvca_desk.specs.declared.terms.Terms.{Terms}
use Rattle.cvca_desk.specs.declared.due.Due.{Due}
use Rattle.cvca_desk.specs.OwnCertificate.{WritesOwn}
use Rattle.cvca_desk.specs.Signing.{SignsOwn}
use Rattle.cvca_desk.specs.Asking.{AsksOwn}
use Rattle.cvca_desk.specs.declared.linking.Linked.{Linked}
use Rattle.cvca_desk.specs.declared.linking.Linked.TheVariants as linked
use Rattle.cvca_desk.specs.declared.linking.Plan.{Plan}

-- ---- what the own rows decide

-- the newest own row with a key that a new one can be made like
abbrev pub link_signer : List Row → Option Signer
link_signer own = newest_wanted wanted.LikeNew own

-- the first refusal below that row, on this day and with these dates
abbrev pub link_refused : List Row → (day : ℕ) → (days : Option (ℕ × ℕ)) → Option Signer → Option Linked
link_refused own day days None = Some linked.Unfounded
link_refused own day days (Some by) =
    if nat_le most_keys (length own) then Some linked.Exhausted
    else (if nat_le day by.settled.from then Some linked.SameDay
    else (if is_none days then Some linked.Short else None))

-- a row is there already under the reference of the next key
abbrev pub link_late : Bool → Option Linked
link_late true = Some linked.Exhausted
link_late false = None

-- under the number that comes after so many, of the form of the key that signs
abbrev pub link_after : Terms → (count : ℕ) → Signer → ℕ × ℕ → Due
link_after t count by days = record { terms = t; form = form_of by.key; reference = numbered t.holder (count + 1); by = Some by; days = days }

module _ (day : ℕ) (t : Terms) (own : List Row) where
  abbrev pub refused_by : Option Linked
  refused_by = link_refused own day (dates t day) (link_signer own)

  abbrev pub link_due : Option Due
  link_due = option_and_then (λ by. option_map (link_after t (length own) by) (dates t day)) (link_signer own)

-- ---- one call

module _ (held holds : Holds) (desk day : ℕ) (t : Terms) where
  -- a row of the next reference is there
  abbrev pub late_in : List Row → Option Linked
  late_in rows = link_late (is_some (row_at table.Own desk (reference_after t.holder (own_rows desk rows)) rows))

  -- over rows
  abbrev pub Links : Says → List Row → List Row → Result Linked HolderFault → Type 0
  Links says before after result =
      WritesOnce (refused_by day t (own_rows desk before)) (missing_of held (link_signer (own_rows desk before))) (late_in before)
      (WritesOwn linked.New says held holds desk (link_due day t (own_rows desk before)) before) before after result

  -- what it signed: the certificate's body, by the key of the own row that signs
  abbrev pub SignsLink : Signed × Signed → List Row → List Row → Result Linked HolderFault → Type 0
  SignsLink signed before after result =
      SignsOwn (refused_by day t (own_rows desk before)) (late_in before) held holds signed desk
      (link_due day t (own_rows desk before)) before after result

  -- On numbered rows no row of the next reference is there. So each refusal comes exactly where it is due, and `New` where
  -- none is; and what is signed loses its row only where the keeper failed or memory was wanting.
  pub record ExactLink (says : Says) (signed : Signed × Signed) (before after : List Row) (result : Result Linked HolderFault) : Type 0 where
    pub rows : WritesOnce (refused_by day t (own_rows desk before)) (missing_of held (link_signer (own_rows desk before))) None
        (WritesOwn linked.New says held holds desk (link_due day t (own_rows desk before)) before) before after result
    pub signs : SignsOwn (refused_by day t (own_rows desk before)) None held holds signed desk (link_due day t (own_rows desk before)) before after result

  abbrev pub LinksExactly : Says → Signed × Signed → List Row → List Row → Result Linked HolderFault → Type 0
  LinksExactly says signed before after result = AreNumbered desk t.holder before → ExactLink says signed before after result

  -- what it asked, whatever its keeper is: by own rows as they were asked for
  pub record AsksLink (says : Says) (signed : Signed × Signed) (result : Result Linked HolderFault) : Type 0 where
    pub own : List Row
    pub own_asked : All (IsDeskRow table.Own desk) own
    pub asks : AsksOwn linked.New linked.Exhausted says held holds signed (refused_by day t own) (link_due day t own) result

-- No refusal is due by own rows as they were asked for, and the key of the one that signs, which has this reference, wasn't
-- held.
pub record MissesLink (held : Holds) (desk day : ℕ) (t : Terms) (reference : List ℕ) : Type 0 where
  pub own : List Row
  pub own_asked : All (IsDeskRow table.Own desk) own
  pub allowed : refused_by day t own ≡ None
  pub missing : missing_of held (link_signer own) ≡ Some reference

-- ---- its steps

-- the first refusal, or the row that signs and the dates
abbrev pub Plans : ℕ → Terms → List Row → Result Plan Linked → Type 0
Plans day t own (Err refusal) = refused_by day t own ≡ Some refusal
Plans day t own (Ok p) = (refused_by day t own ≡ None) × (link_signer own ≡ Some p.signing) × (dates t day ≡ Some p.days)

-- what is answered to an adding
abbrev pub linked_as : (reference : List ℕ) → Added → Linked
linked_as reference added.New = linked.New reference
linked_as reference (added.There kept) = linked.Exhausted
linked_as reference added.Full = linked.Exhausted

module _ (says : Says) (held holds : Holds) (signed : Signed × Signed) (desk : ℕ) where
  -- rows and what was signed at once
  pub record Linking (day : ℕ) (t : Terms) (before after : List Row) (result : Result Linked HolderFault) : Type 0 where
    pub rows : Links held holds desk day t says before after result
    pub signs : SignsLink held holds desk day t signed before after result

  -- the same where nothing is refused
  abbrev pub Entered : Terms → (count : ℕ) → Signer → ℕ × ℕ → List Row → List Row → Result Linked HolderFault → Type 0
  Entered t count by days before after result =
      (day : ℕ) → count ≡ length (own_rows desk before) → Plans day t (own_rows desk before) (Ok (record { signing = by; days = days })) →
      Linking day t before after result

-- the key that was to sign wasn't held
abbrev pub MissesSigner : Holds → Signer → List ℕ → Type 0
MissesSigner held by reference = missing_of held (Some by) ≡ Some reference
