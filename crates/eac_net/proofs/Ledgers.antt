-- Which rows the ledgers are made of: those of other tables and of other desks leave them alone.
use Rattle.std.proofs.Common.{◌≡◌, ℕ, List, [], ◌∷◌, ◌++◌, Option, Some, None, Bool, true, false, cond, refl, ap, ◌∙◌, append-nil, nat_eq}
use Rattle.std.specs.Prelude.{◌&&◌, Result, Ok, Err, IfSome, option_map}
use Rattle.std.specs.Str.{bytes_eq}
use Rattle.std.proofs.lemmas.Bool.{eq-eqb}
use Rattle.cvc_grammar.specs.declared.request.Request.{Request}
use Rattle.cvc_grammar.specs.declared.certificate.Cert.{Cert}
use Rattle.cvc_grammar.specs.declared.certificate.CertBody.{CertBody}
use Rattle.cvc_grammar.specs.declared.refusal.CvcRefusal.{CvcRefusal}
use Rattle.signature_provider.specs.Provider.{Says, SaysMore, public_key}
use Rattle.keeper.specs.declared.rows.Row.{Row}
use Rattle.keeper.specs.declared.rows.Settled.{Settled}
use Rattle.keeper.specs.declared.rows.OwnPart.{OwnPart}
use Rattle.keeper.specs.declared.rows.CaPart.{CaPart}
use Rattle.keeper.specs.declared.rows.Part.{Part}
use Rattle.keeper.specs.declared.rows.Part.TheVariants as part
use Rattle.keeper.specs.declared.rows.Table.TheVariants as table
use Rattle.keeper.specs.Rows.{rows_of, with_settled, settled_rows}
use Rattle.ledger.specs.Ledger.{Outcome, left_entry}
use Rattle.ledger.specs.Story.{Adds}
use Rattle.issue_core.specs.declared.rule.Rule.{Rule}
use Rattle.issue_core.specs.declared.issuing.signer_row.Signer.{Signer}
use Rattle.issue_core.specs.Registering.Desk.{Asked, Entries, register, entries_of, entry_of_row, rows_left}
use Rattle.issue_core.specs.Issuing.Readings.{request_of, cert_of, body_in, body_of, cert_message}
use Rattle.issue_core.specs.Issuing.Rules.{Case, signer}
use Rattle.issue_core.specs.Issuing.Due.{due, due_of}
use Rattle.issue_core.specs.Issuing.Desk.{issuing, is_signed, signed_in, signed_as, Fault, IssueEntries}
use Rattle.issue_core.specs.Issuing.Rows.{entry_in, entries_in, entries_at, row_for, left_row, settled_of}
use Rattle.issue_core.specs.Issuing.Calls.{delivery}
use Rattle.issue_core.proofs.IssuingDesk.Stories.{at_append}
use Rattle.issue_core.proofs.RegisterDesk.RowLaws.{entries_append}

-- ---- every ledger is as it was

pub record SameLedgers (before after : List Row) : Type 0 where
  pub desks : (desk : ℕ) → entries_at desk after ≡ entries_at desk before
  pub register : entries_of after ≡ entries_of before

pub same_ledgers : (before after : List Row) → after ≡ before → SameLedgers before after
same_ledgers before after is = record { desks = λ desk. ap (entries_at desk) is; register = ap entries_of is }

pub then_ledgers : (a b c : List Row) → SameLedgers a b → SameLedgers b c → SameLedgers a c
then_ledgers a b c f g = record { desks = λ desk. g.desks desk ∙ f.desks desk; register = g.register ∙ f.register }

-- ---- rows that are added

desks_append : (before more : List Row) (desk : ℕ) → entries_at desk more ≡ [] → entries_at desk (before ++ more) ≡ entries_at desk before
desks_append before more desk none =
    at_append desk before more ∙ ap (λ (l : IssueEntries). entries_at desk before ++ l) none ∙ append-nil (entries_at desk before)

register_append : (before more : List Row) → entries_of more ≡ [] → entries_of (before ++ more) ≡ entries_of before
register_append before more none =
    entries_append before more ∙ ap (λ (l : Entries). entries_of before ++ l) none ∙ append-nil (entries_of before)

pub own_ledgers : (before after : List Row) (desk : ℕ) (reference : List ℕ) (own : OwnPart) →
    after ≡ before ++ record { desk = desk; reference = reference; part = part.Own own } ∷ [] → SameLedgers before after
own_ledgers before after desk reference own is = record {
  desks = λ other. ap (entries_at other) is ∙ desks_append before (record { desk = desk; reference = reference; part = part.Own own } ∷ []) other refl;
  register = ap entries_of is ∙ register_append before (record { desk = desk; reference = reference; part = part.Own own } ∷ []) refl;
}

pub ca_ledgers : (before after : List Row) (desk : ℕ) (reference : List ℕ) (ca : CaPart) →
    after ≡ before ++ record { desk = desk; reference = reference; part = part.Ca ca } ∷ [] → SameLedgers before after
ca_ledgers before after desk reference ca is = record {
  desks = λ other. ap (entries_at other) is ∙ desks_append before (record { desk = desk; reference = reference; part = part.Ca ca } ∷ []) other refl;
  register = ap entries_of is ∙ register_append before (record { desk = desk; reference = reference; part = part.Ca ca } ∷ []) refl;
}

-- ---- an own row that is settled

keep_issued : (b : Bool) (row : Row) (xs ys : List Row) → entries_in xs ≡ entries_in ys → entries_in (cond b (row ∷ xs) xs) ≡ entries_in (cond b (row ∷ ys) ys)
keep_issued true row xs ys e = ap (λ (l : IssueEntries). entry_in row.part ++ l) e
keep_issued false row xs ys e = e

keep_registered : (b : Bool) (row : Row) (xs ys : Entries) → xs ≡ ys → cond b (entry_of_row row ∷ xs) xs ≡ cond b (entry_of_row row ∷ ys) ys
keep_registered true row xs ys e = ap (λ (l : Entries). entry_of_row row ∷ l) e
keep_registered false row xs ys e = e

-- whether it is the one or not, an own row is in no ledger
own_either : (other desk : ℕ) (reference : List ℕ) (own : OwnPart) (s : Settled) (b : Bool) (xs : List Row) →
    entries_at other (cond b (with_settled s (record { desk = desk; reference = reference; part = part.Own own })) (record { desk = desk; reference = reference; part = part.Own own }) ∷ xs) ≡ entries_at other xs
own_either other desk reference own s true xs = refl
own_either other desk reference own s false xs = refl

own_unregistered : (desk : ℕ) (reference : List ℕ) (own : OwnPart) (s : Settled) (b : Bool) (xs : List Row) →
    entries_of (cond b (with_settled s (record { desk = desk; reference = reference; part = part.Own own })) (record { desk = desk; reference = reference; part = part.Own own }) ∷ xs) ≡ entries_of xs
own_unregistered desk reference own s true xs = refl
own_unregistered desk reference own s false xs = refl

module _ (party : ℕ) (reference : List ℕ) (s : Settled) where
  abbrev settled : List Row → List Row
  settled rows = settled_rows party reference s rows

  settle_issued : (other desk : ℕ) (r : List ℕ) (q : Part) (xs : List Row) → entries_at other (settled xs) ≡ entries_at other xs →
      entries_at other (settled (record { desk = desk; reference = r; part = q } ∷ xs)) ≡ entries_at other (record { desk = desk; reference = r; part = q } ∷ xs)
  settle_issued other desk r (part.Issued p) xs e =
      keep_issued (nat_eq desk other) (record { desk = desk; reference = r; part = part.Issued p }) (rows_of table.Issued other (settled xs)) (rows_of table.Issued other xs) e
  settle_issued other desk r (part.Own own) xs e = own_either other desk r own s (nat_eq desk party && bytes_eq r reference) (settled xs) ∙ e
  settle_issued other desk r (part.Ca ca) xs e = e
  settle_issued other desk r (part.Register request day) xs e = e

  settle_registered : (desk : ℕ) (r : List ℕ) (q : Part) (xs : List Row) → entries_of (settled xs) ≡ entries_of xs →
      entries_of (settled (record { desk = desk; reference = r; part = q } ∷ xs)) ≡ entries_of (record { desk = desk; reference = r; part = q } ∷ xs)
  settle_registered desk r (part.Register request day) xs e =
      keep_registered (nat_eq desk 0) (record { desk = desk; reference = r; part = part.Register request day }) (entries_of (settled xs)) (entries_of xs) e
  settle_registered desk r (part.Own own) xs e = own_unregistered desk r own s (nat_eq desk party && bytes_eq r reference) (settled xs) ∙ e
  settle_registered desk r (part.Ca ca) xs e = e
  settle_registered desk r (part.Issued p) xs e = e

  settled_desks : (rows : List Row) (other : ℕ) → entries_at other (settled rows) ≡ entries_at other rows
  settled_desks [] other = refl
  settled_desks (row ∷ rows) other = settle_issued other row.desk row.reference row.part rows (settled_desks rows other)

  settled_register : (rows : List Row) → entries_of (settled rows) ≡ entries_of rows
  settled_register [] = refl
  settled_register (row ∷ rows) = settle_registered row.desk row.reference row.part rows (settled_register rows)

  pub settled_ledgers : (rows : List Row) → SameLedgers rows (settled rows)
  settled_ledgers rows = record { desks = settled_desks rows; register = settled_register rows }

-- ---- the row that a delivery to the register left

registered_left : (asked : Asked) (left : Option (List ℕ)) → entries_of (rows_left asked left) ≡ left_entry register (asked.reference, asked.bytes) left
registered_left asked None = refl
registered_left asked (Some day) = refl

registered_apart : (asked : Asked) (left : Option (List ℕ)) (desk : ℕ) → entries_at desk (rows_left asked left) ≡ []
registered_apart asked None desk = refl
registered_apart asked (Some day) desk = refl

pub register_grows : (before : List Row) (asked : Asked) (left : Option (List ℕ)) →
    entries_of (before ++ rows_left asked left) ≡ entries_of before ++ left_entry register (asked.reference, asked.bytes) left
register_grows before asked left =
    entries_append before (rows_left asked left) ∙ ap (λ (l : Entries). entries_of before ++ l) (registered_left asked left)

pub register_apart : (before : List Row) (asked : Asked) (left : Option (List ℕ)) (desk : ℕ) → entries_at desk (before ++ rows_left asked left) ≡ entries_at desk before
register_apart before asked left desk = desks_append before (rows_left asked left) desk (registered_apart asked left desk)

-- ---- the row that a delivery to an issuing desk left

due_read : (c : Case) (p : List ℕ) (e : CvcRefusal) → request_of c.bytes ≡ Err e → option_map Some (due c) ≡ Some (body_of p) → ⊥
due_read c p e unread body = let none : option_map Some (due c) ≡ None = λ i. option_map Some (due_of (unread i) c) in absurd (cc (none, body))

not_none : (o : Option CertBody) → option_map Some o ≡ Some None → ⊥
not_none (Some b) e = absurd (cc)
not_none None e = absurd (cc)

row_entry : (c : Case) (p : List ℕ) (read : Result Request CvcRefusal) (cert : Result Cert CvcRefusal) → request_of c.bytes ≡ read → cert_of p ≡ cert → option_map Some (due c) ≡ Some (body_of p) →
    entries_at c.desk (row_for c.desk c.bytes p read cert) ≡ record { query = c.bytes; product = p } ∷ []
row_entry c p (Ok r) (Ok cert) is_read is_cert body =
    let row : Row = record { desk = c.desk; reference = r.body.holder; part = part.Issued (record { request = c.bytes; key = r.body.key; settled = settled_of p cert.body }) } in
    let same : nat_eq c.desk c.desk ≡ true = eq-eqb c.desk c.desk refl in
    λ i. entries_in (cond (same i) (row ∷ []) [])
row_entry c p (Ok r) (Err e) is_read is_cert body = absurd (not_none (due c) (body ∙ (λ i. Some (body_in (is_cert i)))))
row_entry c p (Err e) cert is_read is_cert body = absurd (due_read c p e is_read body)

issued_left : (says : Says) (c : Case) (o : Outcome (List ℕ) Rule Fault) (full left : Option (List ℕ)) (k p : ℕ × ℕ) (held : Bool) (es : IssueEntries) →
    IfSome left (Adds issuing (is_signed says) es (delivery c o full k p held)) → entries_at c.desk (left_row c.desk c.bytes left) ≡ left_entry issuing c.bytes left
issued_left says c o full None k p held es may = refl
issued_left says c o full (Some q) k p held es may = row_entry c q (request_of c.bytes) (cert_of q) refl refl may.body

-- its desk's ledger has that entry
pub desk_grows : (says : Says) (c : Case) (o : Outcome (List ℕ) Rule Fault) (left : Option (List ℕ)) (k p : ℕ × ℕ) (held : Bool) (before : List Row) →
    IfSome left (Adds issuing (is_signed says) (entries_at c.desk before) (delivery c o left k p held)) →
    entries_at c.desk (before ++ left_row c.desk c.bytes left) ≡ entries_at c.desk before ++ left_entry issuing c.bytes left
desk_grows says c o left k p held before may =
    at_append c.desk before (left_row c.desk c.bytes left)
    ∙ ap (λ (l : IssueEntries). entries_at c.desk before ++ l) (issued_left says c o left left k p held (entries_at c.desk before) may)

row_apart : (desk other : ℕ) (bytes certificate : List ℕ) (read : Result Request CvcRefusal) (cert : Result Cert CvcRefusal) → nat_eq desk other ≡ false → entries_at other (row_for desk bytes certificate read cert) ≡ []
row_apart desk other bytes certificate (Ok r) (Ok c) apart = λ i. entries_in (cond (apart i) (row_for desk bytes certificate (Ok r) (Ok c)) [])
row_apart desk other bytes certificate (Ok r) (Err e) apart = refl
row_apart desk other bytes certificate (Err e) cert apart = refl

left_apart : (desk other : ℕ) (bytes : List ℕ) (left : Option (List ℕ)) → nat_eq desk other ≡ false → entries_at other (left_row desk bytes left) ≡ []
left_apart desk other bytes None apart = refl
left_apart desk other bytes (Some p) apart = row_apart desk other bytes p (request_of bytes) (cert_of p) apart

-- another desk's is as it was
pub desk_apart : (desk other : ℕ) (bytes : List ℕ) (left : Option (List ℕ)) (before : List Row) → nat_eq desk other ≡ false → entries_at other (before ++ left_row desk bytes left) ≡ entries_at other before
desk_apart desk other bytes left before apart = desks_append before (left_row desk bytes left) other (left_apart desk other bytes left apart)

row_unregistered : (desk : ℕ) (bytes certificate : List ℕ) (read : Result Request CvcRefusal) (cert : Result Cert CvcRefusal) → entries_of (row_for desk bytes certificate read cert) ≡ []
row_unregistered desk bytes certificate (Ok r) (Ok c) = refl
row_unregistered desk bytes certificate (Ok r) (Err e) = refl
row_unregistered desk bytes certificate (Err e) cert = refl

left_unregistered : (desk : ℕ) (bytes : List ℕ) (left : Option (List ℕ)) → entries_of (left_row desk bytes left) ≡ []
left_unregistered desk bytes None = refl
left_unregistered desk bytes (Some p) = row_unregistered desk bytes p (request_of bytes) (cert_of p)

-- and so is the register's
pub desk_unregistered : (desk : ℕ) (bytes : List ℕ) (left : Option (List ℕ)) (before : List Row) → entries_of (before ++ left_row desk bytes left) ≡ entries_of before
desk_unregistered desk bytes left before = register_append before (left_row desk bytes left) (left_unregistered desk bytes left)

-- ---- as the provider comes to say more

signed_as_more : (said says : Says) → SaysMore said says → (s : Option Signer) (cert : Result Cert CvcRefusal) → signed_as said s cert ≡ true → signed_as says s cert ≡ true
signed_as_more said says more (Some s) (Ok c) h = more (public_key s.key) (cert_message c.body) c.signature h
signed_as_more said says more (Some s) (Err e) h = h
signed_as_more said says more None cert h = h

signed_in_more : (said says : Says) → SaysMore said says → (c : Case) (p : List ℕ) (read : Result Request CvcRefusal) → signed_in said c read p ≡ true → signed_in says c read p ≡ true
signed_in_more said says more c p (Ok r) h = signed_as_more said says more (signer c r) (cert_of p) h
signed_in_more said says more c p (Err e) h = h

pub is_signed_more : (said says : Says) → SaysMore said says → (c : Case) (p : List ℕ) → is_signed said c p ≡ true → is_signed says c p ≡ true
is_signed_more said says more c p h = signed_in_more said says more c p (request_of c.bytes) h
