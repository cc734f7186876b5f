-- Certificates that come in write no row of a ledger, and leave rows lawful.
use Rattle.std.proofs.Common.{◌≡◌, ◌⊎◌, inl, inr, ℕ, List, [], ◌∷◌, Bool, true, false, cond, Some, None, Ok, Err, refl, sym, subst}
use Rattle.std.specs.declared.option.Option.{Option}
use Rattle.std.specs.declared.result.Result.{Result}
use Rattle.signature_provider.specs.Provider.{Says}
use Rattle.cvc_grammar.specs.declared.certificate.Cert.{Cert}
use Rattle.cvc_grammar.specs.declared.certificate.CertBody.{CertBody}
use Rattle.cvc_grammar.specs.declared.refusal.CvcRefusal.{CvcRefusal}
use Rattle.policy_limits.specs.Setup.{SetupValue}
use Rattle.keeper.specs.declared.rows.Row.{Row}
use Rattle.keeper.specs.declared.rows.CaPart.{CaPart}
use Rattle.keeper.specs.declared.rows.Settled.{Settled}
use Rattle.keeper.specs.declared.rows.Part.{Part}
use Rattle.keeper.specs.declared.rows.Part.TheVariants as part
use Rattle.keeper.specs.declared.rows.Table.TheVariants as table
use Rattle.keeper.specs.Rows.{has_key, settled_part, with_settled, settled_rows}
use Rattle.issue_core.specs.Issuing.Rows.{IsSettled, ReadablePart, AreReadable}
use Rattle.holder_core.specs.OwnRows.{ca_at}
use Rattle.holder_core.specs.Readings.{cert_of, settled_of}
use Rattle.holder_core.specs.Receiving.{Question, is_mine, BreaksOff, TakesItem, Receives}
use Rattle.holder_core.specs.Taking as own
use Rattle.holder_core.specs.Taking.{Takes}
use Rattle.holder_core.specs.TakingCa as authority
use Rattle.holder_core.specs.TakingCa.{TakesCa, rows_below, country_only}
use Rattle.holder_core.specs.Trusting as trust
use Rattle.holder_core.specs.WritesOnce.{HasWritten}
use Rattle.holder_core.specs.declared.ca_rule.TakenCa.{TakenCa}
use Rattle.holder_core.specs.declared.fault.HolderFault.{HolderFault}
use Rattle.holder_core.specs.declared.received.Item.{Item}
use Rattle.holder_core.specs.declared.received.Item.TheVariants as item
use Rattle.holder_core.specs.declared.take_rule.Taken.{Taken}
use Rattle.holder_core.proofs.Lawfuls.{same_or_written, receive_keeps}
use Rattle.eac_net.specs.Lawful.{AreLawful}
use Rattle.eac_net.proofs.Grows.{readable_append}
use Rattle.eac_net.proofs.Ledgers.{SameLedgers, same_ledgers, then_ledgers, ca_ledgers, settled_ledgers}
use Rattle.eac_net.proofs.OwnRows.{settled_again}

-- ---- rows that can be read again stay so

settled_part_readable : (reference : List ℕ) (s : Settled) (p : Part) → IsSettled s → ReadablePart reference p → ReadablePart reference (settled_part s p)
settled_part_readable reference s (part.Own own) is h = is
settled_part_readable reference s (part.Register request day) is h = h
settled_part_readable reference s (part.Issued p) is h = h
settled_part_readable reference s (part.Ca p) is h = h

settled_readable : (party : ℕ) (reference : List ℕ) (s : Settled) (rows : List Row) → IsSettled s → AreReadable rows → AreReadable (settled_rows party reference s rows)
settled_readable party reference s [] is h = tt
settled_readable party reference s (row ∷ rows) is h = (here (has_key table.Own party reference row), settled_readable party reference s rows is h.1)
  where
    here : (b : Bool) → ReadablePart (cond b (with_settled s row) row).reference (cond b (with_settled s row) row).part
    here true = settled_part_readable row.reference s row.part is h.0
    here false = h.0

taken_readable : (party : ℕ) (bytes : List ℕ) (before : List Row) (c : Result Cert CvcRefusal) → cert_of bytes ≡ c → AreReadable before → AreReadable (own.taken_rows party bytes before c)
taken_readable party bytes before (Ok c) read h = settled_readable party c.body.holder (settled_of bytes c.body) before (settled_again bytes c.body c read refl) h
taken_readable party bytes before (Err e) read h = h

below_readable : (party : ℕ) (bytes : List ℕ) (c : Cert) (before : List Row) (issuer : Option CaPart) → cert_of bytes ≡ Ok c → AreReadable before → AreReadable (rows_below party bytes c.body before issuer)
below_readable party bytes c before (Some issuer) read h = readable_append before _ h (settled_again bytes c.body c read refl, tt)
below_readable party bytes c before None read h = h

taken_ca_readable : (party : ℕ) (bytes : List ℕ) (before : List Row) (c : Result Cert CvcRefusal) → cert_of bytes ≡ c → AreReadable before → AreReadable (authority.taken_rows party bytes before c)
taken_ca_readable party bytes before (Ok c) read h = below_readable party bytes c before (country_only (ca_at party c.body.authority before)) read h
taken_ca_readable party bytes before (Err e) read h = h

-- ---- what one certificate leaves, and all of them

-- no ledger changes, and what can be read again stays so
pub record Leaves (before after : List Row) : Type 0 where
  pub ledgers : SameLedgers before after
  pub readable : AreReadable before → AreReadable after

leaves_same : (before after : List Row) → after ≡ before → Leaves before after
leaves_same before after is = record { ledgers = same_ledgers before after is; readable = λ h. subst AreReadable (sym is) h }

leaves_then : (a b c : List Row) → Leaves a b → Leaves b c → Leaves a c
leaves_then a b c f g = record { ledgers = then_ledgers a b c f.ledgers g.ledgers; readable = λ h. g.readable (f.readable h) }

module _ (said : Says) (party : ℕ) where
  -- ---- for an own key

  taken_ledgers : (bytes : List ℕ) (before : List Row) (c : Result Cert CvcRefusal) → SameLedgers before (own.taken_rows party bytes before c)
  taken_ledgers bytes before (Ok c) = settled_ledgers party c.body.holder (settled_of bytes c.body) before
  taken_ledgers bytes before (Err e) = same_ledgers before before refl

  taken_leaves : (bytes : List ℕ) (before : List Row) → Leaves before (own.taken_rows party bytes before (cert_of bytes))
  taken_leaves bytes before = record { ledgers = taken_ledgers bytes before (cert_of bytes); readable = taken_readable party bytes before (cert_of bytes) refl }

  takes_leaves : (bytes : List ℕ) (before after : List Row) (result : Result Taken HolderFault) → Takes said party bytes before after result → Leaves before after
  takes_leaves bytes before after result h = go (same_or_written (own.unwritten (own.take_in said party bytes before (cert_of bytes))) None None
      (λ answer rows. (answer ≡ own.take_in said party bytes before (cert_of bytes)) × (rows ≡ own.taken_rows party bytes before (cert_of bytes))) before after result h)
    where
      go : (after ≡ before) ⊎ ((answer : Taken) × HasWritten (own.unwritten (own.take_in said party bytes before (cert_of bytes))) None None
          (λ answer rows. (answer ≡ own.take_in said party bytes before (cert_of bytes)) × (rows ≡ own.taken_rows party bytes before (cert_of bytes))) after answer) → Leaves before after
      go (inl same) = leaves_same before after same
      go (inr w) = leaves_then before (own.taken_rows party bytes before (cert_of bytes)) after (taken_leaves bytes before)
          (leaves_same (own.taken_rows party bytes before (cert_of bytes)) after w.1.written.1)

  -- ---- of an authority

  below_ledgers : (bytes : List ℕ) (b : CertBody) (before : List Row) (issuer : Option CaPart) → SameLedgers before (rows_below party bytes b before issuer)
  below_ledgers bytes b before (Some issuer) = ca_ledgers before (rows_below party bytes b before (Some issuer)) party b.holder _ refl
  below_ledgers bytes b before None = same_ledgers before before refl

  taken_ca_ledgers : (bytes : List ℕ) (before : List Row) (c : Result Cert CvcRefusal) → SameLedgers before (authority.taken_rows party bytes before c)
  taken_ca_ledgers bytes before (Ok c) = below_ledgers bytes c.body before (country_only (ca_at party c.body.authority before))
  taken_ca_ledgers bytes before (Err e) = same_ledgers before before refl

  taken_ca_leaves : (bytes : List ℕ) (before : List Row) → Leaves before (authority.taken_rows party bytes before (cert_of bytes))
  taken_ca_leaves bytes before = record { ledgers = taken_ca_ledgers bytes before (cert_of bytes); readable = taken_ca_readable party bytes before (cert_of bytes) refl }

  takes_ca_leaves : (bytes : List ℕ) (before after : List Row) (result : Result TakenCa HolderFault) → TakesCa said party bytes before after result → Leaves before after
  takes_ca_leaves bytes before after result h = go (same_or_written (trust.unwritten (authority.take_ca_in said party bytes before (cert_of bytes))) None None
      (λ answer rows. (answer ≡ authority.take_ca_in said party bytes before (cert_of bytes)) × (rows ≡ authority.taken_rows party bytes before (cert_of bytes))) before after result h)
    where
      go : (after ≡ before) ⊎ ((answer : TakenCa) × HasWritten (trust.unwritten (authority.take_ca_in said party bytes before (cert_of bytes))) None None
          (λ answer rows. (answer ≡ authority.take_ca_in said party bytes before (cert_of bytes)) × (rows ≡ authority.taken_rows party bytes before (cert_of bytes))) after answer) → Leaves before after
      go (inl same) = leaves_same before after same
      go (inr w) = leaves_then before (authority.taken_rows party bytes before (cert_of bytes)) after (taken_ca_leaves bytes before)
          (leaves_same (authority.taken_rows party bytes before (cert_of bytes)) after w.1.written.1)

  -- ---- all of them

  broken_leaves : (bytes : List ℕ) (before after : List Row) (f : HolderFault) (mine : Bool) → BreaksOff said party bytes before after f mine → Leaves before after
  broken_leaves bytes before after f true h = takes_leaves bytes before after (Err f) h
  broken_leaves bytes before after f false h = takes_ca_leaves bytes before after (Err f) h

  item_leaves : (bytes : List ℕ) (before after : List Row) (result : Result Item HolderFault) → TakesItem said party bytes before after result → Leaves before after
  item_leaves bytes before after (Ok (item.Own answer)) h = takes_leaves bytes before after (Ok answer) h.1
  item_leaves bytes before after (Ok (item.Ca answer)) h = takes_ca_leaves bytes before after (Ok answer) h.1
  item_leaves bytes before after (Err f) h = broken_leaves bytes before after f (is_mine party bytes before) h

  received_leaves : (certificates : List (List ℕ)) (before after : List Row) (items : List Item) (f : Option HolderFault) (asked : List Question) →
      Receives said party certificates before after items f asked → Leaves before after
  received_leaves [] before after [] None asked h = leaves_same before after h.0
  received_leaves (bytes ∷ more) before after (i ∷ items) f asked h =
      leaves_then before h.0 after (item_leaves bytes before h.0 (Ok i) h.2) (received_leaves more h.0 after items f h.1 h.3)
  received_leaves (bytes ∷ more) before after [] (Some f) asked h = item_leaves bytes before after (Err f) h.0
  received_leaves [] before after [] (Some f) asked h = absurd h
  received_leaves [] before after (i ∷ items) f asked h = absurd h
  received_leaves (bytes ∷ more) before after [] None asked h = absurd h

  pub received_ledgers : (certificates : List (List ℕ)) (before after : List Row) (items : List Item) (f : Option HolderFault) (asked : List Question) →
      Receives said party certificates before after items f asked → SameLedgers before after
  received_ledgers certificates before after items f asked h = (received_leaves certificates before after items f asked h).ledgers

  -- rows stay lawful
  pub received_lawful : (setup : SetupValue) (certificates : List (List ℕ)) (before after : List Row) (items : List Item) (f : Option HolderFault) (asked : List Question) →
      Receives said party certificates before after items f asked → AreLawful setup before → AreLawful setup after
  received_lawful setup certificates before after items f asked h l =
      let keeps = receive_keeps said party certificates before after items f asked h in
      record {
        readable = (received_leaves certificates before after items f asked h).readable l.readable;
        numbered = λ desk p is. keeps.numbered desk p.holder (l.numbered desk p is);
        founded = λ desk p is a. keeps.founded desk (l.founded desk p is a);
      }
