-- The laws of an authority's own rows, over its calls.
use Rattle.std.proofs.Common.{◌≡◌, inl, inr, ℕ, ◌+◌, List, [], ◌∷◌, ◌++◌, length, Option, Some, None, Bool, true, false, cond, refl, sym, ap, ◌∙◌, subst, arith}
use Rattle.std.specs.Prelude.{Result, Ok, Err, IsTrue, ◌&&◌, ◌||◌, not, nat_lt, nat_le, is_some, option_map, option_and_then, filter_map}
use Rattle.std.specs.List.{All, cons_option}
use Rattle.eac_base.specs.Bytes.{is_empty}
use Rattle.std.proofs.lemmas.List.{append-nil}
use Rattle.std.proofs.lemmas.List.Elements.{All-append, All-cons, All-nil, filter-append}
use Rattle.signature_provider.specs.Key.{is_algorithm, is_domain, is_cofactor, is_elliptic, is_form, has_domain}
use Rattle.signature_provider.specs.Instruments.{form_named}
use Rattle.signature_provider.specs.Provider.{Says, Holds}
use Rattle.signature_provider.specs.declared.key.FormName.{FormName}
use Rattle.signature_provider.specs.declared.key.FormName.TheVariants as name
use Rattle.signature_provider.specs.declared.key.Key.{Key}
use Rattle.signature_provider.specs.declared.key.KeyForm.{KeyForm}
use Rattle.cvc_grammar.specs.declared.certificate.CertBody.{CertBody}
use Rattle.keeper.specs.declared.rows.Row.{Row}
use Rattle.keeper.specs.declared.rows.Table.TheVariants as table
use Rattle.keeper.specs.Rows.{row_at, is_of}
use Rattle.holder_core.specs.Numbers.{numbered, reference_after}
use Rattle.holder_core.specs.OwnRows.{own_rows}
use Rattle.holder_core.specs.Signers.{Signer, form_of, has_legal_form, own_signer, where_so, wanted_in, newer, newest, missing_of}
use Rattle.holder_core.specs.declared.newest.Wanted.TheVariants as wanted
use Rattle.holder_core.specs.declared.fault.HolderFault.{HolderFault}
use Rattle.holder_core.specs.Lawful.{NumberedFrom, AreNumbered, IsFounded, AreFounded}
use Rattle.holder_core.specs.LawfulCalls.{KeepsNumbers}
use Rattle.holder_core.proofs.Lawfuls.{same_or_written, numbered_more, same_desk, other_desks}
use Rattle.cvca_desk.specs.declared.due.Due.{Due}
use Rattle.cvca_desk.specs.declared.terms.Terms.{Terms}
use Rattle.cvca_desk.specs.declared.founding.Founded.TheVariants as founded
use Rattle.cvca_desk.specs.declared.linking.Linked.TheVariants as linked
use Rattle.cvca_desk.specs.Terms.{dates}
use Rattle.cvca_desk.specs.OwnCertificate.{own_body, own_row, IsOwnCertificate, WritesOwn}
use Rattle.cvca_desk.specs.Founding.{found_refused, founding_of, founding_due}
use Rattle.cvca_desk.specs.Linking.{link_signer, link_after, link_due, refused_by, late_in}
use Rattle.cvca_desk.specs.Lawful.{KeepsOwn, FoundingKeeps, LinkKeeps}
use Rattle.cvca_desk.proofs.Foundings.{no_count}

-- ---- the form of a key

plain_legal : (n : FormName) → IsTrue (is_form (form_named n))
plain_legal name.Ec = refl
plain_legal name.Rsa = refl

domain_there : (a b elliptic : Bool) (domain cofactor : List ℕ) → IsTrue (a && b && cond elliptic (is_domain domain && is_cofactor cofactor) (is_empty domain && is_empty cofactor)) → IsTrue (not elliptic || not (is_empty domain))
domain_there a b false domain cofactor is = refl
domain_there true true true [] cofactor is = absurd (cc)
domain_there true false true [] cofactor is = absurd (cc)
domain_there false b true [] cofactor is = absurd (cc)
domain_there a b true (x ∷ domain) cofactor is = refl

form_domain : (f : KeyForm) → IsTrue (is_form f) → IsTrue (not (is_elliptic f.algorithm) || not (is_empty f.domain))
form_domain f is = domain_there (is_algorithm f.algorithm) (nat_le (length f.domain + length f.cofactor) 640) (is_elliptic f.algorithm) f.domain f.cofactor is

abbrev Fit : Signer → Type 0
Fit s = IsTrue (has_legal_form s.key)

fit_as : (b : Bool) (x s : Signer) → has_legal_form x.key ≡ b → cond b (Some x) None ≡ Some s → Fit s
fit_as true x s is e = let same : x ≡ s = cc in subst Fit same is
fit_as false x s is e = absurd (cc)

fit_where : (found : Option Signer) (s : Signer) → where_so (λ (x : Signer). has_legal_form x.key) found ≡ Some s → Fit s
fit_where None s e = absurd (cc)
fit_where (Some x) s e = fit_as (has_legal_form x.key) x s refl e

newer_fit : (x : Signer) (other : Option Signer) → Fit x → ((y : Signer) → other ≡ Some y → Fit y) → Fit (newer x other)
newer_fit x None here there = here
newer_fit x (Some t) here there = by_test (nat_lt t.settled.from x.settled.from)
  where
    by_test : (b : Bool) → Fit (cond b x t)
    by_test true = here
    by_test false = there t refl

newest_fit : (found : Option Signer) (rest : List Signer) (s : Signer) → ((x : Signer) → found ≡ Some x → Fit x) → ((x : Signer) → newest rest ≡ Some x → Fit x) → newest (cons_option found rest) ≡ Some s → Fit s
newest_fit None rest s here there e = there s e
newest_fit (Some x) rest s here there e = let same : newer x (newest rest) ≡ s = cc in subst Fit same (newer_fit x (newest rest) (here x refl) there)

signer_fit : (rows : List Row) (s : Signer) → link_signer rows ≡ Some s → Fit s
signer_fit [] s e = absurd (cc)
signer_fit (row ∷ rows) s e = newest_fit (wanted_in wanted.LikeNew row) (filter_map (wanted_in wanted.LikeNew) rows) s (fit_where (own_signer row)) (signer_fit rows) e

-- ---- the new row

module _ (says : Says) (held holds : Holds) (desk : ℕ) (d : Due) (key : Key) (bytes : List ℕ) (is : IsOwnCertificate says held holds d key bytes) (form : IsTrue (is_form d.form)) where
  key_domain : IsTrue (not (is_elliptic key.algorithm) || has_domain key)
  key_domain = (λ i. not (is_elliptic (is.made.algorithm i)) || not (is_empty (is.made.domain i))) ∙ form_domain d.form form

  row_founded : IsFounded (own_row desk d bytes key)
  row_founded = record {
    own = _;
    settled = _;
    part_is = refl;
    settled_is = refl;
    founding = record {
      cert = is.cert;
      read = is.read;
      role = ap (λ (b : CertBody). b.template.role) is.body;
      key = subst (λ (b : CertBody). IsTrue (not (is_elliptic b.key.algorithm) || has_domain b.key)) (sym is.body) key_domain;
    };
  }

  module _ (holder : List ℕ) (before after : List Row) (named : d.reference ≡ numbered holder (length (own_rows desk before) + 1)) (rows : after ≡ before ++ own_row desk d bytes key ∷ []) where
    own_here : (other : ℕ) (b : Bool) → is_of table.Own other (own_row desk d bytes key) ≡ b → own_rows other after ≡ own_rows other before ++ cond b (own_row desk d bytes key ∷ []) []
    own_here other b e = ap (λ (x : List Row). own_rows other x) rows ∙ filter-append (is_of table.Own other) before (own_row desk d bytes key ∷ [])
        ∙ (λ i. own_rows other before ++ cond (e i) (own_row desk d bytes key ∷ []) [])

    row_keeps : KeepsOwn desk holder before after
    row_keeps = record {
      numbers = record {
        numbered = λ n. subst (λ (x : List Row). NumberedFrom holder 1 x) (sym (own_here desk true (same_desk desk)))
            (numbered_more holder (own_rows desk before) (own_row desk d bytes key) 1 n (named ∙ ap (λ (k : ℕ). numbered holder k) (omega arith)));
        others = λ other differs. own_here other false (other_desks desk other differs) ∙ append-nil (own_rows other before);
      };
      founded = λ all. subst (λ (x : List Row). All IsFounded x) (sym (own_here desk true (same_desk desk)))
          (All-append IsFounded (own_rows desk before) (own_row desk d bytes key ∷ []) all (All-cons IsFounded (own_row desk d bytes key) [] row_founded (All-nil IsFounded)));
    }

same_keeps : (desk : ℕ) (holder : List ℕ) (before after : List Row) → after ≡ before → KeepsOwn desk holder before after
same_keeps desk holder before after e = record {
  numbers = record {
    numbered = λ n. subst (λ (rows : List Row). AreNumbered desk holder rows) (sym e) n;
    others = λ other differs. ap (λ (rows : List Row). own_rows other rows) e;
  };
  founded = λ all. subst (λ (rows : List Row). AreFounded desk rows) (sym e) all;
}

-- ---- what is due

record IsDueFirst (t : Terms) (d : Due) : Type 0 where
  named : d.reference ≡ numbered t.holder 1
  form : IsTrue (is_form d.form)

first_is : (t : Terms) (days : Option (ℕ × ℕ)) (d : Due) → option_map (founding_of t) days ≡ Some d → IsDueFirst t d
first_is t None d e = absurd (cc)
first_is t (Some days) d e = let same : founding_of t days ≡ d = cc in subst (λ (x : Due). IsDueFirst t x) same (record { named = refl; form = plain_legal t.form })

record IsDueNext (t : Terms) (count : ℕ) (d : Due) : Type 0 where
  named : d.reference ≡ numbered t.holder (count + 1)
  form : IsTrue (is_form d.form)

next_at : (t : Terms) (count : ℕ) (by : Signer) (days : Option (ℕ × ℕ)) (d : Due) → Fit by → option_map (link_after t count by) days ≡ Some d → IsDueNext t count d
next_at t count by None d fit e = absurd (cc)
next_at t count by (Some days) d fit e = let same : link_after t count by days ≡ d = cc in subst (λ (x : Due). IsDueNext t count x) same (record { named = refl; form = fit })

next_is : (t : Terms) (count : ℕ) (days : Option (ℕ × ℕ)) (signer : Option Signer) (d : Due) → ((s : Signer) → signer ≡ Some s → Fit s) → option_and_then (λ by. option_map (link_after t count by) days) signer ≡ Some d → IsDueNext t count d
next_is t count days None d fit e = absurd (cc)
next_is t count days (Some by) d fit e = next_at t count by days d (fit by refl) e

-- ---- the calls

pub founding_keeps : FoundingKeeps
founding_keeps says held holds desk day t before after result w =
    elim (same_or_written (found_refused (length (own_rows desk before)) (dates t day)) None None (WritesOwn founded.New says held holds desk (founding_due t day) before) before after result w) [
      | inl same ↦ same_keeps desk t.holder before after same
      | inr h ↦
          let made = h.1.written.made in
          let first = first_is t (dates t day) made.d made.due_is in
          let none : length (own_rows desk before) ≡ 0 = no_count (length (own_rows desk before)) (dates t day) h.1.due in
          row_keeps says held holds desk made.d made.key made.bytes made.certificate first.form t.holder before after (first.named ∙ ap (λ (n : ℕ). numbered t.holder (n + 1)) (sym none)) h.1.written.rows
    ]

pub link_keeps : LinkKeeps
link_keeps says held holds desk day t before after result w =
    elim (same_or_written (refused_by day t (own_rows desk before)) (missing_of held (link_signer (own_rows desk before))) (late_in held holds desk day t before) (WritesOwn linked.New says held holds desk (link_due day t (own_rows desk before)) before) before after result w) [
      | inl same ↦ same_keeps desk t.holder before after same
      | inr h ↦
          let made = h.1.written.made in
          let next = next_is t (length (own_rows desk before)) (dates t day) (link_signer (own_rows desk before)) made.d (signer_fit (own_rows desk before)) made.due_is in
          row_keeps says held holds desk made.d made.key made.bytes made.certificate next.form t.holder before after next.named h.1.written.rows
    ]
