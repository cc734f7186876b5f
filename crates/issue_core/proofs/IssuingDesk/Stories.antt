-- Stories of an issuing desk over calls.
use Rattle.std.proofs.Common.{◌≡◌, ℕ, List, [], ◌∷◌, ◌++◌, Option, Some, None, Bool, true, false, cond, refl, sym, ◌∙◌, ap, subst, append_assoc, nat_eq}
use Rattle.std.proofs.lemmas.Bool.{eq-eqb}
use Rattle.std.specs.Prelude.{Result, Ok, Err, IfSome, option_map}
use Rattle.signature_provider.specs.Provider.{Says, SaysMore, public_key}
use Rattle.cvc_grammar.specs.declared.request.Request.{Request}
use Rattle.cvc_grammar.specs.declared.certificate.Cert.{Cert}
use Rattle.cvc_grammar.specs.declared.certificate.CertBody.{CertBody}
use Rattle.cvc_grammar.specs.declared.refusal.CvcRefusal.{CvcRefusal}
use Rattle.keeper.specs.declared.rows.Row.{Row}
use Rattle.keeper.specs.declared.rows.Part.TheVariants as part
use Rattle.keeper.specs.declared.rows.Table.TheVariants as table
use Rattle.keeper.specs.Rows.{is_of, rows_of}
use Rattle.issue_core.specs.declared.rule.Rule.{Rule}
use Rattle.ledger.specs.Ledger.{Outcome, Issued, Kept, Refused, Faulted, NoMemory, entries, entry_of, left_entry, is_open}
use Rattle.ledger.specs.Story.{Adds, Tells, Decides}
use Rattle.issue_core.specs.Issuing.Readings.{request_of, cert_of, body_in, body_of, cert_message}
use Rattle.issue_core.specs.declared.issuing.signer_row.Signer.{Signer}
use Rattle.issue_core.specs.Issuing.Rules.{Case, signer}
use Rattle.issue_core.specs.Issuing.Due.{due, due_of}
use Rattle.issue_core.specs.Issuing.Desk.{issuing, is_signed, signed_in, signed_as, Fault, IssueEntries}
use Rattle.issue_core.specs.Issuing.Rows.{entry_in, entries_in, entries_at, row_for, left_row, settled_of}
use Rattle.issue_core.specs.Issuing.Calls.{delivery, is_held}
use Rattle.issue_core.specs.Issuing.Laws.{CallsGoOn, KeysAreNeeded}
use Rattle.ledger.proofs.StoryLaws.{story_more, story_later, entries_more}

-- ---- the entries of more rows

push_in : (b : Bool) (e : IssueEntries) (xs ys : IssueEntries) → cond b (e ++ (xs ++ ys)) (xs ++ ys) ≡ cond b (e ++ xs) xs ++ ys
push_in true e xs ys = sym (append_assoc e xs ys)
push_in false e xs ys = refl

in_cond : (b : Bool) (row : Row) (rows : List Row) → entries_in (cond b (row ∷ rows) rows) ≡ cond b (entry_in row.part ++ entries_in rows) (entries_in rows)
in_cond true row rows = refl
in_cond false row rows = refl

pub at_append : (desk : ℕ) (xs ys : List Row) → entries_at desk (xs ++ ys) ≡ entries_at desk xs ++ entries_at desk ys
at_append desk [] ys = refl
at_append desk (x ∷ xs) ys =
    let b = is_of table.Issued desk x in
    in_cond b x (rows_of table.Issued desk (xs ++ ys))
    ∙ ap (λ (l : IssueEntries). cond b (entry_in x.part ++ l) l) (at_append desk xs ys)
    ∙ push_in b (entry_in x.part) (entries_at desk xs) (entries_at desk ys)
    ∙ ap (λ (l : IssueEntries). l ++ entries_at desk ys) (sym (in_cond b x (rows_of table.Issued desk xs)))

-- ---- the entry of the row that a delivery adds

due_read : (c : Case) (p : List ℕ) (e : CvcRefusal) → request_of c.bytes ≡ Err e → option_map Some (due c) ≡ Some (body_of p) → ⊥
due_read c p e unread body = let none : option_map Some (due c) ≡ None = λ i. option_map Some (due_of (unread i) c) in absurd (cc (none, body))

not_none : (o : Option CertBody) → option_map Some o ≡ Some None → ⊥
not_none (Some b) e = absurd (cc)
not_none None e = absurd (cc)

row_entry : (c : Case) (p : List ℕ) (read : Result Request CvcRefusal) (cert : Result Cert CvcRefusal) → request_of c.bytes ≡ read → cert_of p ≡ cert → option_map Some (due c) ≡ Some (body_of p) → entries_at c.desk (row_for c.desk c.bytes p read cert) ≡ record { query = c.bytes; product = p } ∷ []
row_entry c p (Ok r) (Ok cert) is_read is_cert body =
    let row : Row = record { desk = c.desk; reference = r.body.holder; part = part.Issued (record { request = c.bytes; key = r.body.key; settled = settled_of p cert.body }) } in
    let same : nat_eq c.desk c.desk ≡ true = eq-eqb c.desk c.desk refl in
    λ i. entries_in (cond (same i) (row ∷ []) [])
row_entry c p (Ok r) (Err e) is_read is_cert body = absurd (not_none (due c) (body ∙ (λ i. Some (body_in (is_cert i)))))
row_entry c p (Err e) cert is_read is_cert body = absurd (due_read c p e is_read body)

left_entries : (says : Says) (c : Case) (o : Outcome (List ℕ) Rule Fault) (full left : Option (List ℕ)) (k p : ℕ × ℕ) (held : Bool) (es : IssueEntries) → IfSome left (Adds issuing (is_signed says) es (delivery c o full k p held)) → entries_at c.desk (left_row c.desk c.bytes left) ≡ left_entry issuing c.bytes left
left_entries says c o full None k p held es may = refl
left_entries says c o full (Some q) k p held es may = row_entry c q (request_of c.bytes) (cert_of q) refl refl may.body

-- ---- as the provider comes to say more

signed_more : (said says : Says) → SaysMore said says → (s : Option Signer) (cert : Result Cert CvcRefusal) → signed_as said s cert ≡ true → signed_as says s cert ≡ true
signed_more said says more (Some s) (Ok c) h = more (public_key s.key) (cert_message c.body) c.signature h
signed_more said says more (Some s) (Err e) h = h
signed_more said says more None cert h = h

in_more : (said says : Says) → SaysMore said says → (c : Case) (p : List ℕ) (read : Result Request CvcRefusal) → signed_in said c read p ≡ true → signed_in says c read p ≡ true
in_more said says more c p (Ok r) h = signed_more said says more (signer c r) (cert_of p) h
in_more said says more c p (Err e) h = h

pub calls_go_on : CallsGoOn
calls_go_on said says holds c o k p before after ds more s is served =
    let d = delivery c o served.left k p (is_held holds c) in
    let later = story_later issuing (is_signed said) (is_signed says) (λ x q h. in_more said says more x q (request_of x.bytes) h) [] ds s in
    let now : Decides issuing (is_signed says) (entries issuing ds) d = subst (λ (es : IssueEntries). Decides issuing (is_signed says) es d) (sym is) served.decides in (
      story_more issuing (is_signed says) [] ds d later now,
      entries_more issuing (is_signed says) ds d
          ∙ ap (λ (l : IssueEntries). l ++ entry_of issuing d) is
          ∙ ap (λ (l : IssueEntries). entries_at c.desk before ++ l) (sym (left_entries says c o served.left served.left k p (is_held holds c) (entries_at c.desk before) served.decides.left))
          ∙ sym (at_append c.desk before (left_row c.desk c.bytes served.left))
          ∙ ap (entries_at c.desk) (sym served.rows),
    )

-- ---- where the key isn't held

pub keys_are_needed : KeysAreNeeded
keys_are_needed says holds c o k p before after served new allowed missing = go o served.decides.told
  where
    unsigned : (left : Option (List ℕ)) (q : List ℕ) → left ≡ Some q → IfSome left (λ x. is_held holds c ≡ true) → ⊥
    unsigned (Some x) q is signs = absurd (cc (signs, missing))
    unsigned None q is signs = absurd (cc)

    go : (x : Outcome (List ℕ) Rule Fault) → Tells issuing (entries_at c.desk before) (delivery c o served.left k p (is_held holds c)) x → is_open x ≡ true
    go (Issued q) told = absurd (unsigned served.left q told served.signs)
    go (Kept q) told = absurd (cc (new, told))
    go (Refused q) told = absurd (cc (allowed, told.1))
    go (Faulted f) told = refl
    go NoMemory told = refl
