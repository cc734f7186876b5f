-- Certificates that a party takes leave rows lawful, keys held and signatures good.
use Rattle.std.proofs.Common.{◌≡◌, ℕ, Bool, true, false, cond, List, [], ◌∷◌, ◌++◌, Some, None, Ok, Err, refl, sym, ap, ◌∙◌, subst, inl, inr, ◌⊎◌, nat_eq}
use Rattle.std.specs.Prelude.{Contains, ◌&&◌}
use Rattle.std.specs.declared.option.Option.{Option}
use Rattle.std.specs.declared.result.Result.{Result}
use Rattle.std.specs.Str.{bytes_eq}
use Rattle.signature_provider.specs.Provider.{Says, Holds}
use Rattle.cvc_grammar.specs.declared.certificate.Cert.{Cert}
use Rattle.cvc_grammar.specs.declared.refusal.CvcRefusal.{CvcRefusal}
use Rattle.policy_limits.specs.Setup.{SetupValue}
use Rattle.keeper.specs.declared.rows.Row.{Row}
use Rattle.keeper.specs.declared.rows.Part.{Part}
use Rattle.keeper.specs.declared.rows.OwnPart.{OwnPart}
use Rattle.keeper.specs.declared.rows.CaPart.{CaPart}
use Rattle.keeper.specs.declared.rows.Settled.{Settled}
use Rattle.keeper.specs.declared.rows.Part.TheVariants as part
use Rattle.keeper.specs.declared.rows.Table.TheVariants as table
use Rattle.keeper.specs.Keeping.{MaySettle}
use Rattle.keeper.specs.declared.keeping.KeepRefusal.{KeepRefusal}
use Rattle.keeper.specs.Rows.{table_of, same_table, has_key, row_at, is_settled, with_settled, settled_part, UniqueKeys}
use Rattle.keeper.proofs.SettledRows.{settles_unique}
use Rattle.keeper.proofs.UniqueRows.{unique_more}
use Rattle.issue_core.specs.Issuing.Rows.{IsSettled, AreReadable}
use Rattle.holder_core.specs.LawfulCalls.{KeepsLaw}
use Rattle.holder_core.specs.OwnRows.{own_part, own_in, ca_in, ca_part, ca_at}
use Rattle.holder_core.specs.Readings.{cert_of, settled_of}
use Rattle.holder_core.specs.Receiving.{Question, TakesItem, BreaksOff, Receives, is_mine}
use Rattle.holder_core.specs.Taking.{take_seen, take_in, issued_answer, waiting_answer, cert_said, is_kept_as, has_other_key, unwritten, taken_rows, Takes}
use Rattle.holder_core.specs.TakingCa as authority
use Rattle.holder_core.specs.Trusting as trust
use Rattle.holder_core.specs.declared.fault.HolderFault.{HolderFault}
use Rattle.holder_core.specs.declared.take_rule.Taken.{Taken}
use Rattle.holder_core.specs.declared.take_rule.Taken.TheVariants as taken
use Rattle.holder_core.specs.declared.take_rule.TakeRule.TheVariants as rule
use Rattle.holder_core.specs.declared.ca_rule.TakenCa.{TakenCa}
use Rattle.holder_core.specs.declared.ca_rule.TakenCa.TheVariants as taken_ca
use Rattle.holder_core.specs.declared.ca_rule.CaRule.TheVariants as ca_rule
use Rattle.holder_core.specs.declared.received.Item.{Item}
use Rattle.holder_core.specs.declared.received.Item.TheVariants as item
use Rattle.holder_core.proofs.Lawfuls.{take_keeps, same_or_written}
use Rattle.eac_net.specs.Made.{all_made, AreGood}
use Rattle.eac_net.specs.Moment.{AllHeld}
use Rattle.eac_net.specs.Tracing.{Stay}
use Rattle.eac_net.proofs.Beside.{keeps_beside}
use Rattle.eac_net.proofs.Finding.{none_some}
use Rattle.eac_net.proofs.Going.{KeepsRows, keeps_same}
use Rattle.eac_net.proofs.IssuedRows.{same_cert}
use Rattle.eac_net.proofs.SettledRows as settling

-- ---- rows stay over two calls

twice_settled : (one two : Settled) (row : Row) → is_settled (with_settled one row).part ≡ false → with_settled two (with_settled one row) ≡ with_settled one row
twice_settled one two row e = λ i. record row { part = go row.part e i }
  where
    go : (p : Part) → is_settled (settled_part one p) ≡ false → settled_part two (settled_part one p) ≡ settled_part one p
    go (part.Own own) e = absurd (cc)
    go (part.Register request day) e = refl
    go (part.Issued p) e = refl
    go (part.Ca p) e = refl

stay_then : (a b c : List Row) → Stay a b → Stay b c → Stay a c
stay_then a b c p q row among = go (p row among)
  where
    later : (s : Settled) → is_settled row.part ≡ false → Contains c (with_settled s row) ⊎ ((t : Settled) × (is_settled (with_settled s row).part ≡ false) × Contains c (with_settled t (with_settled s row))) →
        Contains c row ⊎ ((t : Settled) × (is_settled row.part ≡ false) × Contains c (with_settled t row))
    later s e (inl h) = inr (s, e, h)
    later s e (inr h) = inr (s, e, subst (λ (y : Row). Contains c y) (twice_settled s h.0 row h.1) h.2)

    go : Contains b row ⊎ ((s : Settled) × (is_settled row.part ≡ false) × Contains b (with_settled s row)) → Contains c row ⊎ ((t : Settled) × (is_settled row.part ≡ false) × Contains c (with_settled t row))
    go (inl h) = q row h
    go (inr h) = later h.0 h.1 (q (with_settled h.0 row) h.2)

-- ---- a row that is to be settled waits

cond_no : {X Y : Type 0} (f : X → Option Y) (b : Bool) (x y : X) → f (cond b x y) ≡ None → (f x ≡ None → ⊥) → f y ≡ None
cond_no f true x y e never = absurd (never e)
cond_no f false x y e never = e

module _ (said : Says) (bytes : List ℕ) (c : Cert) where
  issued_waits : (o : Option Settled) (issuer : Option CaPart) → unwritten (issued_answer said c o issuer) ≡ None → o ≡ None
  issued_waits None issuer e = refl
  issued_waits (Some s) None e = absurd (none_some (taken.Refused rule.NoIssuer) (sym e))
  issued_waits (Some s) (Some i) e = absurd (go (cert_said said c i.key) e)
    where
      go : (b : Bool) → unwritten (cond b (waiting_answer c.body.holder (Some s)) (taken.Refused rule.Signature)) ≡ None → ⊥
      go true f = none_some (taken.Refused (rule.Differs s.certificate)) (sym f)
      go false f = none_some (taken.Refused rule.Signature) (sym f)

  own_waits : (own : OwnPart) (issuer : Option CaPart) → unwritten (take_seen said bytes c (Some own) issuer) ≡ None → own.settled ≡ None
  own_waits own issuer e = issued_waits own.settled issuer (cond_no unwritten (has_other_key c.body.key own.key) (taken.Refused rule.KeyDiffers) (issued_answer said c own.settled issuer)
      (cond_no unwritten (is_kept_as bytes own.settled) (taken.Already c.body.holder) (cond (has_other_key c.body.key own.key) (taken.Refused rule.KeyDiffers) (issued_answer said c own.settled issuer)) e
      (λ f. none_some (taken.Already c.body.holder) (sym f)))
      (λ f. none_some (taken.Refused rule.KeyDiffers) (sym f)))

  part_waits : (p : Part) (issuer : Option CaPart) → unwritten (take_seen said bytes c (own_part p) issuer) ≡ None → is_settled p ≡ false
  part_waits (part.Own own) issuer e = ap (λ (o : Option Settled). settled_test o) (own_waits own issuer e)
    where
      settled_test : Option Settled → Bool
      settled_test (Some s) = true
      settled_test None = false
  part_waits (part.Register request day) issuer e = absurd (none_some (taken.Refused rule.NotMine) (sym e))
  part_waits (part.Issued p) issuer e = absurd (none_some (taken.Refused rule.NotMine) (sym e))
  part_waits (part.Ca p) issuer e = absurd (none_some (taken.Refused rule.NotMine) (sym e))

  may_settle : (party : ℕ) (rows : List Row) (issuer : Option CaPart) (found : Option Row) → row_at table.Own party c.body.holder rows ≡ found → unwritten (take_seen said bytes c (own_in found) issuer) ≡ None → MaySettle rows party c.body.holder
  may_settle party rows issuer None is e = absurd (none_some (taken.Refused rule.NotMine) (sym e))
  may_settle party rows issuer (Some row) is e = record { row = row; there = is; waits = part_waits row.part issuer e }

-- ---- what one call leaves

module _ (setup : SetupValue) (says : Says) (holds : Holds) where
  abbrev Leaves : List Row → List Row → Type 0
  Leaves before after = UniqueKeys before → KeepsRows setup says says holds holds before after × UniqueKeys after

  leaves_same : (before after : List Row) → after ≡ before → Leaves before after
  leaves_same before after is u =
      (subst (KeepsRows setup says says holds holds before) (sym is) (keeps_same setup says says holds holds before (λ key message signature h. h) (λ key h. h)), subst UniqueKeys (sym is) u)

  leaves_then : (before mid after : List Row) → Leaves before mid → Leaves mid after → Leaves before after
  leaves_then before mid after p q u =
      let one = p u in
      let two = q one.1 in
      let k = one.0 in
      let l = two.0 in (
        record {
          lawful = λ h. l.lawful (k.lawful h);
          keys = λ h all. l.keys (k.lawful h) (k.keys h all);
          good = λ h all. l.good (k.lawful h) (k.good h all);
          stay = stay_then before mid after k.stay l.stay;
        },
        two.1,
      )

  settled_again : (bytes : List ℕ) (c : Cert) → cert_of bytes ≡ Ok c → IsSettled (settled_of bytes c.body)
  settled_again bytes c read = record { cert = c; read = sym (same_cert bytes) ∙ read; fields = refl }

  -- ---- an own row is settled

  module _ (party : ℕ) (bytes : List ℕ) (before after : List Row) (law : KeepsLaw before after) (c : Cert) (read : cert_of bytes ≡ Ok c) (may : MaySettle before party c.body.holder)
      (is : after ≡ settling.After party c.body.holder (settled_of bytes c.body) before) where
    abbrev settled : Settled
    settled = settled_of bytes c.body

    abbrev left : List Row
    left = settling.After party c.body.holder settled before

    leaves_settled : Leaves before after
    leaves_settled u =
        let waits = settling.waits party c.body.holder settled before u may in (
          record {
            lawful = λ l. record {
              readable = subst AreReadable (sym is) (settling.settled_readable party c.body.holder settled (settled_again bytes c read) before l.readable);
              numbered = λ desk q there. law.numbered desk q.holder (l.numbered desk q there);
              founded = λ desk q there a. law.founded desk (l.founded desk q there a);
            };
            keys = λ l h. subst (AllHeld holds) (sym is) (settling.settled_held party c.body.holder settled holds before h);
            good = λ l g. subst (AreGood says) (sym (ap (all_made setup) is ∙ settling.settled_made party c.body.holder settled setup before (settling.not_founded party c.body.holder settled setup before u may l))) g;
            stay = subst (Stay before) (sym is) (settling.settled_stay party c.body.holder settled before waits);
          },
          settles_unique party c.body.holder settled before after (the_ok tt) u (may, is),
        )
      where
        the_ok : Unit {0} → Result (Unit {0}) KeepRefusal
        the_ok x = Ok x

  taken_leaves : (said : Says) (party : ℕ) (bytes : List ℕ) (before after : List Row) → KeepsLaw before after → (c : Result Cert CvcRefusal) → cert_of bytes ≡ c → unwritten (take_in said party bytes before c) ≡ None →
      after ≡ taken_rows party bytes before c → Leaves before after
  taken_leaves said party bytes before after law (Ok c) read due is =
      leaves_settled party bytes before after law c read (may_settle said bytes c party before (ca_at party c.body.authority before) (row_at table.Own party c.body.holder before) refl due) is
  taken_leaves said party bytes before after law (Err e) read due is = leaves_same before after is

  own_leaves : (said : Says) (party : ℕ) (bytes : List ℕ) (before after : List Row) (result : Result Taken HolderFault) → Takes said party bytes before after result → Leaves before after
  own_leaves said party bytes before after result w =
      elim (same_or_written (unwritten (take_in said party bytes before (cert_of bytes))) None None (λ answer rows. (answer ≡ take_in said party bytes before (cert_of bytes)) × (rows ≡ taken_rows party bytes before (cert_of bytes))) before after result w) [
        | inl same ↦ leaves_same before after same
        | inr h ↦ taken_leaves said party bytes before after (take_keeps said party bytes before after result w) (cert_of bytes) refl h.1.due h.1.written.1
      ]

  -- ---- an authority's row is added

  room_there : (full : Bool) (reference : List ℕ) (o : Option CaPart) → trust.unwritten (authority.room_answer full reference o) ≡ None → o ≡ None
  room_there full reference None e = refl
  room_there full reference (Some ca) e = absurd (none_some (taken_ca.Refused (ca_rule.Differs ca.settled.certificate)) (sym e))

  module _ (said : Says) (bytes : List ℕ) (c : Cert) (full : Bool) where
    issued_there : (o issuer : Option CaPart) → trust.unwritten (authority.issued_answer said c full o issuer) ≡ None → o ≡ None
    issued_there o None e = absurd (none_some (taken_ca.Refused ca_rule.NoIssuer) (sym e))
    issued_there o (Some i) e = by_key (authority.has_wrong_key c.body i.key) (cert_said said c i.key) e
      where
        by_key : (a b : Bool) → trust.unwritten (cond a (taken_ca.Refused ca_rule.Parameters) (cond b (authority.room_answer full c.body.holder o) (taken_ca.Refused ca_rule.Signature))) ≡ None → o ≡ None
        by_key true b f = absurd (none_some (taken_ca.Refused ca_rule.Parameters) (sym f))
        by_key false true f = room_there full c.body.holder o f
        by_key false false f = absurd (none_some (taken_ca.Refused ca_rule.Signature) (sym f))

    none_held : (o issuer : Option CaPart) → trust.unwritten (authority.take_ca_seen said bytes c full o issuer) ≡ None → o ≡ None
    none_held o issuer e = by_held (authority.is_held_as bytes o) (authority.is_terminal c.body.template.role) e
      where
        by_held : (a b : Bool) → trust.unwritten (cond a (taken_ca.Held c.body.holder) (cond b (taken_ca.Refused ca_rule.Role) (authority.issued_answer said c full o (authority.country_only issuer)))) ≡ None → o ≡ None
        by_held true b f = absurd (none_some (taken_ca.Held c.body.holder) (sym f))
        by_held false true f = absurd (none_some (taken_ca.Refused ca_rule.Role) (sym f))
        by_held false false f = issued_there o (authority.country_only issuer) f

  -- a row of that table is an authority's
  no_ca : (party : ℕ) (reference : List ℕ) (rows : List Row) → ca_at party reference rows ≡ None → row_at table.Ca party reference rows ≡ None
  no_ca party reference [] e = refl
  no_ca party reference (row ∷ rows) e = go (has_key table.Ca party reference row) refl (no_ca party reference rows) e
    where
      part_no : (p : Part) → same_table (table_of p) table.Ca ≡ true → ca_part p ≡ None → ⊥
      part_no (part.Ca ca) t n = none_some ca (sym n)
      part_no (part.Own own) t n = absurd (cc)
      part_no (part.Register request day) t n = absurd (cc)
      part_no (part.Issued p) t n = absurd (cc)

      first : (a b d : Bool) → (a && b) && d ≡ true → a ≡ true
      first true b d f = refl
      first false b d f = absurd (cc)

      go : (b : Bool) → has_key table.Ca party reference row ≡ b → (ca_at party reference rows ≡ None → row_at table.Ca party reference rows ≡ None) → ca_in (cond b (Some row) (row_at table.Ca party reference rows)) ≡ None →
          cond b (Some row) (row_at table.Ca party reference rows) ≡ None
      go true is rest f = absurd (part_no row.part (first (same_table (table_of row.part) table.Ca) (nat_eq row.desk party) (bytes_eq row.reference reference) is) f)
      go false is rest f = rest f

  leaves_below : (party : ℕ) (bytes : List ℕ) (before after : List Row) (c : Cert) (i : CaPart) → cert_of bytes ≡ Ok c → row_at table.Ca party c.body.holder before ≡ None → after ≡ before ++ authority.ca_row party bytes c.body i ∷ [] → Leaves before after
  leaves_below party bytes before after c i read none is u = (
    subst (KeepsRows setup says says holds holds before) (sym is)
        (keeps_beside setup says says holds holds (λ key message signature h. h) (λ key h. h) before (authority.ca_row party bytes c.body i)
        (record { owns = λ desk. refl; part = refl; made = λ at named of. refl }) (λ l. settled_again bytes c read)),
    subst UniqueKeys (sym is) (unique_more before (authority.ca_row party bytes c.body i) u none),
  )

  added_leaves : (party : ℕ) (bytes : List ℕ) (before after : List Row) (c : Cert) (issuer : Option CaPart) → cert_of bytes ≡ Ok c → row_at table.Ca party c.body.holder before ≡ None → after ≡ authority.rows_below party bytes c.body before issuer → Leaves before after
  added_leaves party bytes before after c (Some i) read none is = leaves_below party bytes before after c i read none is
  added_leaves party bytes before after c None read none is = leaves_same before after is

  taken_ca_leaves : (said : Says) (party : ℕ) (bytes : List ℕ) (before after : List Row) (c : Result Cert CvcRefusal) → cert_of bytes ≡ c → trust.unwritten (authority.take_ca_in said party bytes before c) ≡ None →
      after ≡ authority.taken_rows party bytes before c → Leaves before after
  taken_ca_leaves said party bytes before after (Ok c) read due is =
      added_leaves party bytes before after c (authority.country_only (ca_at party c.body.authority before)) read
      (no_ca party c.body.holder before (none_held said bytes c (trust.is_full party before) (ca_at party c.body.holder before) (ca_at party c.body.authority before) due)) is
  taken_ca_leaves said party bytes before after (Err e) read due is = leaves_same before after is

  ca_leaves : (said : Says) (party : ℕ) (bytes : List ℕ) (before after : List Row) (result : Result TakenCa HolderFault) → authority.TakesCa said party bytes before after result → Leaves before after
  ca_leaves said party bytes before after result w =
      elim (same_or_written (trust.unwritten (authority.take_ca_in said party bytes before (cert_of bytes))) None None (λ answer rows. (answer ≡ authority.take_ca_in said party bytes before (cert_of bytes)) × (rows ≡ authority.taken_rows party bytes before (cert_of bytes))) before after result w) [
        | inl same ↦ leaves_same before after same
        | inr h ↦ taken_ca_leaves said party bytes before after (cert_of bytes) refl h.1.due h.1.written.1
      ]

  -- ---- certificates, one after another

  item_leaves : (said : Says) (party : ℕ) (bytes : List ℕ) (before after : List Row) (result : Result Item HolderFault) → TakesItem said party bytes before after result → Leaves before after
  item_leaves said party bytes before after (Ok (item.Own answer)) w = own_leaves said party bytes before after (Ok answer) w.1
  item_leaves said party bytes before after (Ok (item.Ca answer)) w = ca_leaves said party bytes before after (Ok answer) w.1
  item_leaves said party bytes before after (Err f) w = by_mine (is_mine party bytes before) w
    where
      by_mine : (b : Bool) → BreaksOff said party bytes before after f b → Leaves before after
      by_mine true x = own_leaves said party bytes before after (Err f) x
      by_mine false x = ca_leaves said party bytes before after (Err f) x

  all_leave : (said : Says) (party : ℕ) (certificates : List (List ℕ)) (before after : List Row) (items : List Item) (f : Option HolderFault) (asked : List Question) → Receives said party certificates before after items f asked → Leaves before after
  all_leave said party [] before after [] None asked w = leaves_same before after w.0
  all_leave said party (bytes ∷ more) before after (i ∷ items) f asked w =
      leaves_then before w.0 after (item_leaves said party bytes before w.0 (Ok i) w.2) (all_leave said party more w.0 after items f w.1 w.3)
  all_leave said party (bytes ∷ more) before after [] (Some x) asked w = item_leaves said party bytes before after (Err x) w.0
  all_leave said party [] before after [] (Some x) asked w = absurd w
  all_leave said party [] before after (i ∷ items) f asked w = absurd w
  all_leave said party (bytes ∷ more) before after [] None asked w = absurd w

  pub received_keeps : (said : Says) (party : ℕ) (certificates : List (List ℕ)) (before after : List Row) (items : List Item) (f : Option HolderFault) (asked : List Question) → UniqueKeys before →
      Receives said party certificates before after items f asked → KeepsRows setup says says holds holds before after
  received_keeps said party certificates before after items f asked u w = (all_leave said party certificates before after items f asked w u).0
