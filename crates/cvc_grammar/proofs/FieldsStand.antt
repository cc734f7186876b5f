-- References, dates and templates that were read stand there.
use Rattle.std.proofs.Common.{◌≡◌, ℕ, ◌-◌, ◌≤◌, Bool, true, false, leb, List, ◌++◌, length, Result, Ok, refl, ap, ◌∙◌, arith}
use Rattle.std.specs.Prelude.{IsTrue}
use Rattle.std.proofs.lemmas.List.{length-take}
use Rattle.std.proofs.lemmas.Bool.{leb-true}
use Rattle.eac_base.specs.Bytes.{AreBytes, is_within}
use Rattle.eac_base.specs.Answers.{◌>>◌, unless, refused_as}
use Rattle.tlv_core.specs.Object.{object}
use Rattle.holder_reference.specs.Reference.{is_reference, read_reference, has_country, has_mnemonic, is_sequence, holder_part, sequence_part}
use Rattle.holder_reference.specs.declared.refusal.RefRefusal.{RefRefusal}
use Rattle.holder_reference.specs.declared.refusal.RefRefusal.TheVariants.{Length, Country, Mnemonic, Sequence}
use Rattle.chat_rights.specs.declared.Template.{Template}
use Rattle.chat_rights.specs.Kinds.{rights_fit}
use Rattle.chat_rights.specs.Template.{read_template, template_text}
use Rattle.chat_rights.proofs.Templates.{template_stands}
use Rattle.cv_dates.specs.Calendar.{date_of, read_date, last_day}
use Rattle.cv_dates.proofs.DateLaws.{read_is_the_text}
use Rattle.cvc_grammar.specs.ReadingOrder.{Part, Found, expected, reference_in, date_in, template_in}
use Rattle.cvc_grammar.proofs.KeyAgain.{and_both}
use Rattle.eac_base.proofs.Steps.{bind_ok, as_ok, ok_is}
use Rattle.cvc_grammar.proofs.Stood.{Stood, stood}

legal_along : (c r : List ℕ) → c ≡ r → IsTrue (is_reference c) → IsTrue (is_reference r)
legal_along c r e h = rw (← e) h

within : (bytes : List ℕ) → 8 ≤ length bytes → length bytes ≤ 16 → (3 ≤ length (holder_part bytes)) × (length (holder_part bytes) ≤ 11)
within bytes low high = let n = length-take (length bytes - 5) bytes in (omega arith, omega arith)

-- The four tests of a reference that was read.
record Passed (size country mnemonic sequence : Bool) (bytes r : List ℕ) : Type 0 where
  size_passed : size ≡ true
  country_passed : country ≡ true
  mnemonic_passed : mnemonic ≡ true
  sequence_passed : sequence ≡ true
  same : bytes ≡ r

passed : (s c m q : Bool) (bytes r : List ℕ) → (let read : Result (List ℕ) RefRefusal = unless s Length >> unless c Country >> unless m Mnemonic >> unless q Sequence >> Ok bytes in read) ≡ Ok r → Passed s c m q bytes r
passed true true true true bytes r e = record { size_passed = refl; country_passed = refl; mnemonic_passed = refl; sequence_passed = refl; same = ok_is bytes r e }
passed true true true false bytes r e = absurd cc
passed true true false q bytes r e = absurd cc
passed true false m q bytes r e = absurd cc
passed false c m q bytes r e = absurd cc

tested : (bytes : List ℕ) → IsTrue (is_within 8 16 (length bytes)) → IsTrue (has_country (holder_part bytes)) → IsTrue (has_mnemonic (holder_part bytes))
    → IsTrue (is_sequence (sequence_part bytes)) → IsTrue (is_reference bytes)
tested bytes size country mnemonic sequence =
    let ls = and_both (leb 8 (length bytes)) (leb (length bytes) 16) size in
    let w = within bytes (leb-true 8 (length bytes) ls.0) (leb-true (length bytes) 16 ls.1) in grind arith

pub reference_legal : (c r : List ℕ) → read_reference c ≡ Ok r → (c ≡ r) × IsTrue (is_reference r)
reference_legal c r e =
    let p = passed (is_within 8 16 (length c)) (has_country (holder_part c)) (has_mnemonic (holder_part c)) (is_sequence (sequence_part c)) c r e in
    (p.same, legal_along c r p.same (tested c p.size_passed p.country_passed p.mnemonic_passed p.sequence_passed))

-- A value that was read, and what stands there.
pub record ReadThere (tag : ℕ) (part : Part) (text : List ℕ) (rest : Part) : Type 0 where
  pub there : part.bytes ≡ object tag text ++ rest.bytes
  pub bytes : AreBytes rest.bytes

pub there_of : (tag : ℕ) (part : Part) (f : Found) (text : List ℕ) (rest : Part) → Stood tag part f → f.content.bytes ≡ text → f.rest ≡ rest → ReadThere tag part text rest
there_of tag part f text rest s c r = record { there = rw (← c, ← r) s.text; bytes = rw (← r) s.rest_bytes }

pub reference_stands : (tag : ℕ) (part : Part) (r : List ℕ) (rest : Part) → AreBytes part.bytes → reference_in tag part ≡ Ok (r, rest) → IsTrue (is_reference r) × ReadThere tag part r rest
reference_stands tag part r rest b e =
    let o = bind_ok (expected tag part) _ (r, rest) e in
    let v = bind_ok (refused_as _ (read_reference o.0.content.bytes)) _ (r, rest) o.2 in
    let pair = ok_is (v.0, o.0.rest) (r, rest) v.2 in
    let read = as_ok _ (read_reference o.0.content.bytes) v.0 v.1 in
    let legal = reference_legal o.0.content.bytes v.0 read in
    let value : v.0 ≡ r = ap (λ (p : List ℕ × Part). p.0) pair in
    (legal_along v.0 r value legal.1, there_of tag part o.0 r rest (stood tag part o.0 b o.1) (legal.0 ∙ value) (ap (λ (p : List ℕ × Part). p.1) pair))

pub date_stands : (tag : ℕ) (part : Part) (d : ℕ) (rest : Part) → AreBytes part.bytes → date_in tag part ≡ Ok (d, rest) → (d ≤ last_day) × ReadThere tag part (date_of d) rest
date_stands tag part d rest b e =
    let o = bind_ok (expected tag part) _ (d, rest) e in
    let v = bind_ok (refused_as _ (read_date o.0.content.bytes)) _ (d, rest) o.2 in
    let pair = ok_is (v.0, o.0.rest) (d, rest) v.2 in
    let read = as_ok _ (read_date o.0.content.bytes) v.0 v.1 in
    let text = read_is_the_text o.0.content.bytes v.0 read in
    let value : v.0 ≡ d = ap (λ (p : ℕ × Part). p.0) pair in
    (le_along v.0 d value text.0, there_of tag part o.0 (date_of d) rest (stood tag part o.0 b o.1) (text.1 ∙ ap date_of value) (ap (λ (p : ℕ × Part). p.1) pair))
  where
    le_along : (x y : ℕ) → x ≡ y → x ≤ last_day → y ≤ last_day
    le_along x y q h = rw (← q) h

pub template_there : (part : Part) (t : Template) (rest : Part) → AreBytes part.bytes → template_in part ≡ Ok (t, rest) → IsTrue (rights_fit t.kind t.rights) × ReadThere 0x7f4c part (template_text t) rest
template_there part t rest b e =
    let o = bind_ok (expected 0x7f4c part) _ (t, rest) e in
    let v = bind_ok (refused_as _ (read_template o.0.content.bytes)) _ (t, rest) o.2 in
    let pair = ok_is (v.0, o.0.rest) (t, rest) v.2 in
    let read = as_ok _ (read_template o.0.content.bytes) v.0 v.1 in
    let s = stood 0x7f4c part o.0 b o.1 in
    let is = template_stands v.0 o.0.content.bytes s.content_bytes read in
    let value : v.0 ≡ t = ap (λ (p : Template × Part). p.0) pair in
    (fits_along v.0 t value is.fit, there_of 0x7f4c part o.0 (template_text t) rest s (is.spelling ∙ ap template_text value) (ap (λ (p : Template × Part). p.1) pair))
  where
    fits_along : (u w : Template) → u ≡ w → IsTrue (rights_fit u.kind u.rights) → IsTrue (rights_fit w.kind w.rights)
    fits_along u w q h = rw (← q) h
