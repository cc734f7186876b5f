-- The adding of an own certificate's row.
use Rattle.std.proofs.Common.{◌≡◌, ◌⊎◌, inl, inr, ℕ, ◌≤◌, List, [], ◌∷◌, length, Option, Some, None, refl, sym, ap, subst, arith}
use Rattle.std.specs.Prelude.{Result, Ok, Err}
use Rattle.eac_base.specs.Telling.{Told}
use Rattle.eac_base.proofs.Tellings.{told_more, told_same}
use Rattle.signature_provider.specs.Provider.{Says, Holds, Signed}
use Rattle.cvc_grammar.specs.Certificate.{longest_cert}
use Rattle.keeper.specs.declared.rows.Row.{Row}
use Rattle.keeper.specs.Rows.{IsStorable}
use Rattle.holder_core.specs.Adding.{AddsRow}
use Rattle.holder_core.specs.Faults.{KeeperCaused}
use Rattle.holder_core.specs.Signers.{missing_of}
use Rattle.holder_core.specs.Signing.{ProviderCause}
use Rattle.holder_core.specs.declared.adding.Added.{Added}
use Rattle.holder_core.specs.declared.adding.Added.TheVariants as added
use Rattle.holder_core.specs.declared.fault.HolderFault.{HolderFault}
use Rattle.holder_core.specs.declared.fault.HolderFault.TheVariants as fault
use Rattle.holder_core.proofs.Sizes.{key_storable}
use Rattle.cvca_desk.specs.declared.due.Due.{Due}
use Rattle.cvca_desk.specs.declared.making.MadeOwn.{MadeOwn}
use Rattle.cvca_desk.specs.OwnCertificate.{own_row}
use Rattle.cvca_desk.specs.Signing.{SignsPair, SignsNew}
use Rattle.cvca_desk.specs.Entering.{IsMadeOwn, Makes, HasEntered, Enters, AsksAdded}

module _ (says : Says) (held holds : Holds) (signed : Signed × Signed) (desk : ℕ) (d : Due) where
  pair_made : (made : MadeOwn) → IsMadeOwn says held holds signed d made → SignsPair held holds signed d
  pair_made made m = record { key = made.key; made = m.certificate.made; more = m.more }

  pub row_storable : (made : MadeOwn) (row : Row) → IsMadeOwn says held holds signed d made → row ≡ own_row desk d made.text made.key → IsStorable row
  row_storable made row m is = subst (λ (x : Row). IsStorable x) (sym is) (record { request = omega arith; key = key_storable made.key m.certificate.made.legal; settled = size })
    where
      size : length made.text ≤ 65535
      size = omega (arith, ap length m.certificate.text.spelling, m.certificate.text.limits.size)

  entered_new : (made : MadeOwn) → IsMadeOwn says held holds signed d made → (before after : List Row) (r : Result Added HolderFault) → AddsRow (own_row desk d made.text made.key) before after r → Enters says held holds signed desk d before after r
  entered_new made m before after (Ok added.New) a = record { made = made; is_made = m; may = a.0; rows = a.1 }
  entered_new made m before after (Ok (added.There kept)) a = record { pair = pair_made made m; there = a.0; rows = a.1 }
  entered_new made m before after (Ok added.Full) a = record { pair = pair_made made m; full = a.1; rows = a.2 }
  entered_new made m before after (Err fault.KeeperFault) (inl same) = inr (same, pair_made made m)
  entered_new made m before after (Err fault.KeeperFault) (inr a) = inl (record { made = made; is_made = m; may = a.0; rows = a.1 })
  entered_new made m before after (Err fault.NoMemory) a = (a, inr (pair_made made m))
  entered_new made m before after (Err fault.ProviderFault) a = absurd a
  entered_new made m before after (Err (fault.NoKey r)) a = absurd a

  pub told_entered : (o o' : Option (List Row)) (made : MadeOwn) (row : Row) (r : Result Added HolderFault) → IsMadeOwn says held holds signed d made → row ≡ own_row desk d made.text made.key → Told o o' (λ before after. AddsRow row before after r) → Told o o' (λ before after. Enters says held holds signed desk d before after r)
  told_entered o o' made row r m is t = told_more (λ b a. AddsRow row b a r) (λ b a. Enters says held holds signed desk d b a r) o o' t
      (λ b a w. entered_new made m b a r (subst (λ (x : Row). AddsRow x b a r) is w))

  -- ---- for every keeper

  signs_new : (made : MadeOwn) → IsMadeOwn says held holds signed d made → SignsNew says held holds signed d
  signs_new made m = record { key = made.key; bytes = made.text; certificate = m.certificate; more = m.more }

  pub asked_added : (made : MadeOwn) → IsMadeOwn says held holds signed d made → (r : Result Added HolderFault) (k : ℕ × ℕ) → KeeperCaused k.0 k.1 r → AsksAdded says held holds signed d r
  asked_added made m (Ok added.New) k c = signs_new made m
  asked_added made m (Ok (added.There kept)) k c = pair_made made m
  asked_added made m (Ok added.Full) k c = pair_made made m
  asked_added made m (Err fault.KeeperFault) k c = pair_made made m
  asked_added made m (Err fault.NoMemory) k c = inr (pair_made made m)
  asked_added made m (Err fault.ProviderFault) k c = absurd c.failed
  asked_added made m (Err (fault.NoKey r)) k c = absurd c.failed
