-- What a delivery to a desk adds is no own row, and its certificate's signature is good.
use Rattle.std.proofs.Common.{◌≡◌, ℕ, List, [], ◌++◌, Some, None, Ok, Err, true, refl, sym, ap, ◌∙◌, subst, append-nil}
use Rattle.std.specs.Prelude.{Bool, IfSome, option_map, option_and_then}
use Rattle.std.specs.declared.option.Option.{Option}
use Rattle.std.specs.declared.result.Result.{Result}
use Rattle.std.specs.List.{All}
use Rattle.std.proofs.lemmas.List.Elements.{All-nil, All-cons}
use Rattle.signature_provider.specs.Provider.{PublicKey, Says, Holds, SaysMore, HoldsMore, public_key}
use Rattle.cvc_grammar.specs.declared.request.Request.{Request}
use Rattle.cvc_grammar.specs.declared.certificate.Cert.{Cert}
use Rattle.cvc_grammar.specs.declared.certificate.CertBody.{CertBody}
use Rattle.cvc_grammar.specs.declared.refusal.CvcRefusal.{CvcRefusal}
use Rattle.policy_limits.specs.Setup.{SetupValue, is_authority}
use Rattle.policy_limits.specs.Validity.{validity, minimum_days}
use Rattle.policy_limits.specs.declared.registration.Registration.{Registration}
use Rattle.keeper.specs.declared.rows.Row.{Row}
use Rattle.keeper.specs.declared.rows.OwnPart.{OwnPart}
use Rattle.keeper.specs.declared.rows.Table.TheVariants as table
use Rattle.keeper.specs.Rows.{rows_of, UniqueKeys}
use Rattle.ledger.specs.Ledger.{Outcome}
use Rattle.ledger.specs.Story.{Adds}
use Rattle.issue_core.specs.declared.rule.Rule.{Rule}
use Rattle.issue_core.specs.declared.issuing.signer_row.Signer.{Signer}
use Rattle.issue_core.specs.Issuing.Calls.{Serves, delivery, is_held}
use Rattle.issue_core.specs.Issuing.Desk.{issuing, signed_as, signed_in, is_signed, Fault, IssueEntries}
use Rattle.issue_core.specs.Issuing.Due.{due, due_of, due_for, due_body}
use Rattle.issue_core.specs.Issuing.Readings.{request_of, cert_of as issued_cert_of, cert_message as issued_message, body_of, body_in}
use Rattle.issue_core.specs.Issuing.Rows.{row_for, left_row, entries_at}
use Rattle.issue_core.specs.Issuing.Rules.{Case, signer, registered}
use Rattle.holder_core.specs.Lawful.{NumberedFrom, IsFounded}
use Rattle.holder_core.specs.OwnRows.{own_rows, own_part}
use Rattle.holder_core.specs.Readings.{cert_of, cert_message}
use Rattle.eac_net.specs.Made.{key_at, key_named, made_cert, made_in, all_made, IsGood, AreGood}
use Rattle.eac_net.specs.Moment.{AllHeld}
use Rattle.eac_net.specs.Parties.{is_party_of}
use Rattle.eac_net.specs.Tracing.{Stay}
use Rattle.eac_net.proofs.Finding.{some_same, none_some}
use Rattle.eac_net.proofs.Going.{KeepsRows, held_more, good_more}
use Rattle.eac_net.proofs.Grows.{own_append, held_append, good_append, key_at_more, AddsGood}
use Rattle.eac_net.proofs.SigningRows.{own_key, own_looked_up}
use Rattle.eac_net.proofs.Stays.{more_stay}

-- ---- one reading

pub same_cert : (bytes : List ℕ) → cert_of bytes ≡ issued_cert_of bytes
unfolding cert_of issued_cert_of
same_cert bytes = refl

pub same_message : (b : CertBody) → cert_message b ≡ issued_message b
unfolding cert_message issued_message
same_message b = refl

-- ---- no own row

row_no_own : (desk other : ℕ) (bytes certificate : List ℕ) (read : Result Request CvcRefusal) (cert : Result Cert CvcRefusal) → own_rows other (row_for desk bytes certificate read cert) ≡ []
row_no_own desk other bytes certificate (Ok r) (Ok c) = refl
row_no_own desk other bytes certificate (Ok r) (Err e) = refl
row_no_own desk other bytes certificate (Err e) cert = refl

left_no_own : (desk other : ℕ) (bytes : List ℕ) (left : Option (List ℕ)) → own_rows other (left_row desk bytes left) ≡ []
left_no_own desk other bytes None = refl
left_no_own desk other bytes (Some p) = row_no_own desk other bytes p (request_of bytes) (issued_cert_of p)

same_own : (desk other : ℕ) (bytes : List ℕ) (left : Option (List ℕ)) (before : List Row) → own_rows other (before ++ left_row desk bytes left) ≡ own_rows other before
same_own desk other bytes left before = own_append other before (left_row desk bytes left) ∙ ap (λ (l : List Row). own_rows other before ++ l) (left_no_own desk other bytes left) ∙ append-nil (own_rows other before)

row_held : (holds : Holds) (desk : ℕ) (bytes certificate : List ℕ) (read : Result Request CvcRefusal) (cert : Result Cert CvcRefusal) → AllHeld holds (row_for desk bytes certificate read cert)
row_held holds desk bytes certificate (Ok r) (Ok c) =
    All-cons (λ (row : Row). IfSome (own_part row.part) (λ (own : OwnPart). holds (public_key own.key) ≡ true)) _ [] tt
    (All-nil (λ (row : Row). IfSome (own_part row.part) (λ (own : OwnPart). holds (public_key own.key) ≡ true)))
row_held holds desk bytes certificate (Ok r) (Err e) = All-nil (λ (row : Row). IfSome (own_part row.part) (λ (own : OwnPart). holds (public_key own.key) ≡ true))
row_held holds desk bytes certificate (Err e) cert = All-nil (λ (row : Row). IfSome (own_part row.part) (λ (own : OwnPart). holds (public_key own.key) ≡ true))

left_held : (holds : Holds) (desk : ℕ) (bytes : List ℕ) (left : Option (List ℕ)) → AllHeld holds (left_row desk bytes left)
left_held holds desk bytes None = All-nil (λ (row : Row). IfSome (own_part row.part) (λ (own : OwnPart). holds (public_key own.key) ≡ true))
left_held holds desk bytes (Some p) = row_held holds desk bytes p (request_of bytes) (issued_cert_of p)

-- ---- the new certificate

map_some : (o : Option CertBody) (b : CertBody) → option_map Some o ≡ Some (Some b) → o ≡ Some b
map_some (Some x) b e = some_same (Some x) (Some b) e
map_some None b e = absurd (none_some (Some b) e)

days_named : (r : Request) (g : Registration) (s : Signer) (d : Option (ℕ × ℕ)) (b : CertBody) → option_and_then (λ days. Some (due_body r g s days)) d ≡ Some b → b.authority ≡ s.reference
days_named r g s (Some days) b e = ap (λ (x : CertBody). x.authority) (sym (some_same (due_body r g s days) b e))
days_named r g s None b e = absurd (none_some b e)

due_named : (r : Request) (day : ℕ) (g : Option Registration) (s : Signer) (b : CertBody) → option_and_then (λ (g : Registration). option_and_then (λ s. due_for r day g s) (Some s)) g ≡ Some b → b.authority ≡ s.reference
due_named r day (Some g) s b e = days_named r g s (validity day g.days s.settled.until (minimum_days g.role)) b e
due_named r day None s b e = absurd (none_some b e)

none_due : (r : Request) (day : ℕ) (g : Option Registration) (b : CertBody) → option_and_then (λ (g : Registration). option_and_then (λ s. due_for r day g s) None) g ≡ Some b → ⊥
none_due r day (Some g) b e = none_some b e
none_due r day None b e = none_some b e

module _ (at : ℕ → List ℕ → Option PublicKey) (named : List ℕ → Option PublicKey) (of : ℕ → Bool) (says : Says) where
  cert_good : (desk : ℕ) (k : Cert) (s : Signer) → k.body.authority ≡ s.reference → at desk s.reference ≡ Some (public_key s.key) → says (public_key s.key) (issued_message k.body) k.signature ≡ true → AreGood says (made_cert at named of desk (Ok k) ++ [])
  cert_good desk k s is looked good = All-cons (IsGood says) (record { key = at desk k.body.authority; message = cert_message k.body; signature = k.signature }) []
      (record { key = public_key s.key; there = ap (at desk) is ∙ looked; good = ap (λ (m : List ℕ). says (public_key s.key) m k.signature) (same_message k.body) ∙ good }) (All-nil (IsGood says))

  signed_good : (c : Case) (r : Request) (k : Cert) (o : Option Signer) → IfSome o (λ s. at c.desk s.reference ≡ Some (public_key s.key)) → signed_as says o (Ok k) ≡ true →
      option_and_then (λ g. option_and_then (λ s. due_for r c.day g s) o) (registered c r) ≡ Some k.body → AreGood says (made_cert at named of c.desk (Ok k) ++ [])
  signed_good c r k (Some s) looked signed body = cert_good c.desk k s (due_named r c.day (registered c r) s k.body body) looked signed
  signed_good c r k None looked signed body = absurd (none_due r c.day (registered c r) k.body body)

  new_good : (c : Case) (p : List ℕ) (read : Result Request CvcRefusal) (cert : Result Cert CvcRefusal) → request_of c.bytes ≡ read → issued_cert_of p ≡ cert → ((r : Request) → IfSome (signer c r) (λ s. at c.desk s.reference ≡ Some (public_key s.key))) →
      signed_in says c read p ≡ true → option_map Some (due c) ≡ Some (body_of p) → AreGood says (made_in at named of (row_for c.desk c.bytes p read cert))
  new_good c p (Ok r) (Ok k) is_read is_cert keyed signed body =
      let whole : due_of (Ok r) c ≡ Some k.body = ap (λ (x : Result Request CvcRefusal). due_of x c) (sym is_read) ∙ map_some (due c) k.body (body ∙ ap (λ (x : Result Cert CvcRefusal). Some (body_in x)) is_cert) in
      subst (λ (x : Result Cert CvcRefusal). AreGood says (made_cert at named of c.desk x ++ [])) (sym (same_cert p ∙ is_cert))
      (signed_good c r k (signer c r) (keyed r) (subst (λ (x : Result Cert CvcRefusal). signed_as says (signer c r) x ≡ true) is_cert signed) whole)
  new_good c p (Ok r) (Err e) is_read is_cert keyed signed body = All-nil (IsGood says)
  new_good c p (Err e) cert is_read is_cert keyed signed body = All-nil (IsGood says)

  left_good : (c : Case) (left : Option (List ℕ)) → ((r : Request) → IfSome (signer c r) (λ s. at c.desk s.reference ≡ Some (public_key s.key))) →
      IfSome left (λ p. (is_signed says c p ≡ true) × (option_map Some (due c) ≡ Some (body_of p))) → AreGood says (made_in at named of (left_row c.desk c.bytes left))
  left_good c None keyed h = All-nil (IsGood says)
  left_good c (Some p) keyed h = new_good c p (request_of c.bytes) (issued_cert_of p) refl refl keyed h.0 h.1

added_is : (says : Says) (c : Case) (o : Outcome (List ℕ) Rule Fault) (full left : Option (List ℕ)) (k p : ℕ × ℕ) (held : Bool) (es : IssueEntries) → IfSome left (Adds issuing (is_signed says) es (delivery c o full k p held)) →
    IfSome left (λ p. (is_signed says c p ≡ true) × (option_map Some (due c) ≡ Some (body_of p)))
added_is says c o full None k p held es h = tt
added_is says c o full (Some q) k p held es h = (h.signed, h.body)

-- ---- one delivery

signer_keyed : (c : Case) (rows more : List Row) → UniqueKeys rows → c.own ≡ rows_of table.Own c.desk rows → (r : Request) (o : Option Signer) → signer c r ≡ o → IfSome o (λ s. key_at (rows ++ more) c.desk s.reference ≡ Some (public_key s.key))
signer_keyed c rows more u own r None is = tt
signer_keyed c rows more u own r (Some s) is =
    key_at_more rows more c.desk s.reference (public_key s.key) (own_looked_up c.desk rows s.reference (public_key s.key) u (own_key c rows (Ok r) s own is))

module _ (setup : SetupValue) (said says : Says) (held holds : Holds) (says_more : SaysMore said says) (holds_more : HoldsMore held holds)
    (c : Case) (o : Outcome (List ℕ) Rule Fault) (k p : ℕ × ℕ) (before after : List Row) (unique : UniqueKeys before) (own : c.own ≡ rows_of table.Own c.desk before) where
  issued_good : (served : Serves says held c o k p before after) → AreGood said (all_made setup before) → AreGood says (all_made setup (before ++ left_row c.desk c.bytes served.left))
  issued_good served good =
      let more : List Row = left_row c.desk c.bytes served.left in
      let new : AddsGood setup says before more = left_good (key_at (before ++ more)) (key_named setup (before ++ more)) (is_party_of is_authority setup) says c served.left
      (λ r. signer_keyed c before more unique own r (signer c r) refl)
      (added_is says c o served.left served.left k p (is_held held c) (entries_at c.desk before) served.decides.left) in
      good_append setup says before more (good_more said says (all_made setup before) says_more good) new

  pub issued_keeps : Serves says held c o k p before after → KeepsRows setup said says held holds before after
  issued_keeps served =
      let more : List Row = left_row c.desk c.bytes served.left in
      record {
        lawful = λ l. record {
          readable = served.readable l.readable;
          numbered = λ desk q is. subst (λ (rows : List Row). NumberedFrom q.holder 1 (own_rows desk rows)) (sym served.rows)
              (subst (λ (rows : List Row). NumberedFrom q.holder 1 rows) (sym (same_own c.desk desk c.bytes served.left before)) (l.numbered desk q is));
          founded = λ desk q is a. subst (λ (rows : List Row). All IsFounded (own_rows desk rows)) (sym served.rows)
              (subst (λ (rows : List Row). All IsFounded rows) (sym (same_own c.desk desk c.bytes served.left before)) (l.founded desk q is a));
        };
        keys = λ l h. subst (AllHeld holds) (sym served.rows) (held_append holds before more (held_more held holds before holds_more h) (left_held holds c.desk c.bytes served.left));
        good = λ l g. subst (λ (rows : List Row). AreGood says (all_made setup rows)) (sym served.rows) (issued_good served g);
        stay = subst (λ (rows : List Row). Stay before rows) (sym served.rows) (more_stay before more);
      }
