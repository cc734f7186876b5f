-- What came of an adding, as the whole call says it of rows and of what was signed.
use Rattle.std.proofs.Common.{◌≡◌, ◌⊎◌, inl, inr, ℕ, ◌≤◌, List, length, Option, Some, None, refl, ap, ◌∙◌, subst}
use Rattle.std.specs.Prelude.{Result, Ok, Err}
use Rattle.signature_provider.specs.Provider.{Says, Holds, Signed}
use Rattle.keeper.specs.declared.rows.Row.{Row}
use Rattle.keeper.specs.declared.rows.Table.TheVariants as table
use Rattle.keeper.specs.Rows.{row_at, most_rows}
use Rattle.holder_core.specs.Faults.{KeeperCause}
use Rattle.holder_core.specs.OwnRows.{own_rows}
use Rattle.holder_core.specs.Signers.{missing_of}
use Rattle.holder_core.specs.WritesOnce.{WritesOnce}
use Rattle.holder_core.specs.declared.adding.Added.{Added}
use Rattle.holder_core.specs.declared.adding.Added.TheVariants as added
use Rattle.holder_core.specs.declared.fault.HolderFault.{HolderFault}
use Rattle.holder_core.specs.declared.fault.HolderFault.TheVariants as fault
use Rattle.cvca_desk.specs.declared.due.Due.{Due}
use Rattle.cvca_desk.specs.OwnCertificate.{WritesOwn}
use Rattle.cvca_desk.specs.Signing.{SignsPair, SignsNew, SignsNothing, SignsKept, SignsLost, SignsOwn}
use Rattle.cvca_desk.specs.Asking.{AsksDue, AsksOwn}
use Rattle.cvca_desk.specs.Entering.{HasEntered, IsThere, IsFull, Enters, AsksAdded}

-- what is known before an adding: nothing is refused, this is due, and the rows have room
pub record Before {A : Type 0} (Gone : A) (held : Holds) (desk : ℕ) (d : Due) (unwritten late : Option A) (missing : Option (List ℕ)) (due : Option Due) (before : List Row) : Type 0 where
  pub allowed : unwritten ≡ None
  pub due_is : due ≡ Some d
  pub misses : (r : List ℕ) → missing_of held d.by ≡ Some r → missing ≡ Some r
  pub free : row_at table.Own desk d.reference before ≡ None → late ≡ None
  pub taken : (kept : Row) → row_at table.Own desk d.reference before ≡ Some kept → late ≡ Some Gone
  pub room : most_rows ≤ length (own_rows desk before) → ⊥

module _ {A : Type 0} (New : List ℕ → A) (Gone : A) (says : Says) (held holds : Holds) (signed : Signed × Signed) (desk : ℕ) (d : Due) (unwritten late : Option A) (missing : Option (List ℕ)) (due : Option Due) (before : List Row) (known : Before Gone held desk d unwritten late missing due before) where
  abbrev pub Writes : List Row → Result A HolderFault → Type 0
  Writes after result = WritesOnce unwritten missing late (WritesOwn New says held holds desk due before) before after result

  abbrev pub Signs : List Row → Result A HolderFault → Type 0
  Signs after result = SignsOwn unwritten late held holds signed desk due before after result

  -- ---- rows

  pub rows_new : (after : List Row) → HasEntered says held holds signed desk d before after → Writes after (Ok (New d.reference))
  rows_new after e = inr (record {
    due = known.allowed;
    new = known.free e.may.new;
    written = record {
      made = record { d = d; due_is = known.due_is; key = e.made.key; bytes = e.made.text; certificate = e.is_made.certificate };
      answer_is = refl;
      rows = e.rows;
    };
  })

  pub rows_gone : (after : List Row) (kept : Row) → IsThere held holds signed desk d kept before after → Writes after (Ok Gone)
  rows_gone after kept t = inl (inr (record { due = known.allowed; there = known.taken kept t.there }), t.rows)

  pub rows_full : (after : List Row) → IsFull held holds signed desk d before after → Writes after (Ok Gone)
  rows_full after f = absurd (known.room f.full)

  rows_kept : (after : List Row) → HasEntered says held holds signed desk d before after → Writes after (Err fault.KeeperFault)
  rows_kept after e = inr (
    New d.reference,
    record {
      due = known.allowed;
      new = known.free e.may.new;
      written = record {
        made = record { d = d; due_is = known.due_is; key = e.made.key; bytes = e.made.text; certificate = e.is_made.certificate };
        answer_is = refl;
        rows = e.rows;
      };
    },
  )

  pub rows_fault : (after : List Row) (f : HolderFault) → Enters says held holds signed desk d before after (Err f) → Writes after (Err f)
  rows_fault after fault.KeeperFault (inl e) = rows_kept after e
  rows_fault after fault.KeeperFault (inr s) = inl s.0
  rows_fault after fault.NoMemory s = s.0
  rows_fault after fault.ProviderFault s = s.0
  rows_fault after (fault.NoKey r) s = (known.allowed, known.misses r s.2, s.0)

  -- ---- what was signed

  pub signs_new : (after : List Row) → HasEntered says held holds signed desk d before after → SignsKept held holds signed desk due before after
  signs_new after e = record {
    d = d;
    due_is = known.due_is;
    pair = record { key = e.made.key; made = e.is_made.certificate.made; more = e.is_made.more };
    bytes = e.made.text;
    cert = e.is_made.certificate.cert;
    text = e.is_made.certificate.text;
    body = e.is_made.certificate.body;
    rows = e.rows;
  }

  pub signs_gone : (after : List Row) (kept : Row) → IsThere held holds signed desk d kept before after → Signs after (Ok Gone)
  signs_gone after kept t = inr (t.rows, inr (record { allowed = known.allowed; d = d; due_is = known.due_is; pair = t.pair; may = known.taken kept t.there }))

  pub signs_full : (after : List Row) → IsFull held holds signed desk d before after → Signs after (Ok Gone)
  signs_full after f = absurd (known.room f.full)

  wanting : (signed.1 ≡ signed.0) ⊎ SignsPair held holds signed d → (signed.1 ≡ signed.0) ⊎ SignsLost unwritten late held holds signed due (Err fault.NoMemory)
  wanting (inl none) = inl none
  wanting (inr pair) = inr (record { allowed = known.allowed; d = d; due_is = known.due_is; pair = pair; may = tt })

  pub signs_fault : (after : List Row) (f : HolderFault) → Enters says held holds signed desk d before after (Err f) → Signs after (Err f)
  signs_fault after fault.KeeperFault (inl e) = inl (signs_new after e)
  signs_fault after fault.KeeperFault (inr s) = inr (s.0, inr (record { allowed = known.allowed; d = d; due_is = known.due_is; pair = s.1; may = tt }))
  signs_fault after fault.NoMemory s = inr (s.0, wanting s.1)
  signs_fault after fault.ProviderFault s = inr (s.0, inl s.1)
  signs_fault after (fault.NoKey r) s = inr (s.0, inl s.1)
