-- What is read of a template is what was written, and the other way round.
use Rattle.std.proofs.Common.{◌≡◌, ℕ, ◌+◌, ◌*◌, ◌<◌, true, eqb, List, [], ◌∷◌, ◌++◌, length, get_or, Result, Ok, Err, Some, refl, sym, ap, ◌∙◌, arith}
use Rattle.std.specs.Prelude.{IfOk, IsOkAnd}
use Rattle.std.specs.Str.{bytes_eq}
use Rattle.std.proofs.lemmas.Bool.{eqb-true}
use Rattle.std.proofs.lemmas.Bool.Decides.{nat_tests}
use Rattle.eac_base.specs.Bytes.{AreBytes, is_empty}
use Rattle.eac_base.specs.Answers.{Answers, refused_as}
use Rattle.eac_base.proofs.EqualBytes.{bytes_eq-true}
use Rattle.tlv_core.specs.Object.{object, tag_bytes, length_bytes, First, first_object}
use Rattle.tlv_core.proofs.Objects.{reads_what_stands}
use Rattle.eac_base.proofs.Steps.{bind_ok, unless_ok, as_ok, ok_is, empty_is, AreBytes-front, AreBytes-back}
use Rattle.chat_rights.specs.declared.Kind.{Kind}
use Rattle.chat_rights.specs.declared.Kind.TheVariants.{Inspection}
use Rattle.chat_rights.specs.declared.Role.{Role}
use Rattle.chat_rights.specs.declared.Role.TheVariants.{Cvca, Domestic, Foreign, Terminal}
use Rattle.chat_rights.specs.declared.Template.{Template}
use Rattle.chat_rights.specs.declared.TemplateRefusal.{TemplateRefusal}
use Rattle.chat_rights.specs.Kinds.{identifier_of, rights_fit}
use Rattle.chat_rights.specs.Template.{read_template, template_text, part_with, template_byte, template_of_byte, role_number, IsTemplate}
use Rattle.chat_rights.specs.Laws.{ReadAfterWrite, WriteAfterRead}

-- ---- written is read

template_for : Kind → Role → ℕ → Template
template_for kind role rights = record { kind = kind; role = role; rights = rights }

byte_again : (kind : Kind) (role : Role) (rights : ℕ) → rights < 64 → template_of_byte (64 * role_number role + rights) ≡ template_for kind role rights
unfolding template_for
byte_again Inspection Terminal rights h = grind arith
byte_again Inspection Foreign rights h = grind arith
byte_again Inspection Domestic rights h = grind arith
byte_again Inspection Cvca rights h = grind arith

again : (kind : Kind) (role : Role) (rights : ℕ) → rights_fit kind rights ≡ true → read_template (template_text (template_for kind role rights)) ≡ Ok (template_for kind role rights)
unfolding template_for
again Inspection role rights h = ap (λ (u : Template). Ok u) (byte_again Inspection role rights (grind (arith, nat_tests)))

pub template_again : ReadAfterWrite
unfolding template_for
template_again t h = again t.kind t.role t.rights h

-- ---- read is written

-- What stands where an object of this tag was read.
record PartStands (tag : ℕ) (b : List ℕ) (o : First) : Type 0 where
  text : b ≡ object tag o.content ++ o.rest
  content_bytes : AreBytes o.content
  rest_bytes : AreBytes o.rest

part_same : (tag : ℕ) (b : List ℕ) (o p : First) → o ≡ p → PartStands tag b o → PartStands tag b p
part_same tag b o p e s = rw (← e) s

along : (xs ys : List ℕ) → xs ≡ ys → AreBytes xs → AreBytes ys
along xs ys e b = rw (← e) b

part_of : (tag : ℕ) (b : List ℕ) (o : First) → AreBytes b → first_object b ≡ Ok o → o.tag ≡ tag → PartStands tag b o
part_of tag b o bytes e t =
    let s = reads_what_stands b o bytes e in
    let text : b ≡ object tag o.content ++ o.rest = rw (← t) s.2 in
    let whole = along b (object tag o.content ++ o.rest) text bytes in
    record {
      text = text;
      content_bytes = AreBytes-back (tag_bytes tag ++ length_bytes (length o.content)) o.content (AreBytes-front (object tag o.content) o.rest whole);
      rest_bytes = AreBytes-back (object tag o.content) o.rest whole;
    }

part_stands : (tag : ℕ) (b : List ℕ) (o : First) → AreBytes b → part_with tag b ≡ Ok o → PartStands tag b o
part_stands tag b o bytes e =
    let f = bind_ok (refused_as _ (first_object b)) _ o e in
    let read = as_ok _ (first_object b) f.0 f.1 in
    let t = unless_ok (eqb f.0.tag tag) _ _ o f.2 in
    part_same tag b f.0 o (ok_is f.0 o t.1) (part_of tag b f.0 bytes read (eqb-true f.0.tag tag t.0))

byte_back : (b : ℕ) → b < 256 → template_byte (template_of_byte b) ≡ b
byte_back b h = grind arith

one_byte : (c : List ℕ) → AreBytes c → eqb (length c) 1 ≡ true → (c ≡ get_or c 0 0 ∷ []) × (get_or c 0 0 < 256)
one_byte [] b e = absurd cc
one_byte (x ∷ []) b e = (refl, b.0)
one_byte (x ∷ y ∷ more) b e = absurd (let n = eqb-true _ _ e in omega arith)

text_is : (i d content rest : List ℕ) (b : ℕ) → content ≡ object 0x06 i ++ rest → rest ≡ object 0x53 d ++ [] → i ≡ identifier_of Inspection → d ≡ b ∷ [] → b < 256 → content ≡ template_text (template_of_byte b)
text_is i d content rest b c r id dd h = rw (c, r, id, dd, byte_back b h) refl

byte_fits : (b : ℕ) → rights_fit Inspection (template_of_byte b).rights ≡ true
byte_fits b = grind (arith, nat_tests)

is_of : (u v : Template) (content : List ℕ) → u ≡ v → rights_fit u.kind u.rights ≡ true → content ≡ template_text u → IsTemplate v content
is_of u v content e h t = record { fit = rw (← e) h; spelling = t ∙ ap template_text e }

pub template_stands : WriteAfterRead
template_stands t content b e =
    let i = bind_ok (part_with 0x06 content) _ t e in
    let a = bind_ok (part_with 0x53 i.0.rest) _ t i.2 in
    let empty = unless_ok (is_empty a.0.rest) _ _ t a.2 in
    let known = unless_ok (bytes_eq i.0.content (identifier_of Inspection)) _ _ t empty.1 in
    let wide = unless_ok (eqb (length a.0.content) 1) _ _ t known.1 in
    let is = part_stands 0x06 content i.0 b i.1 in
    let access = part_stands 0x53 i.0.rest a.0 is.rest_bytes a.1 in
    let one = one_byte a.0.content access.content_bytes wide.0 in
    let read = template_of_byte (get_or a.0.content 0 0) in
    let rest : i.0.rest ≡ object 0x53 a.0.content ++ [] = access.text ∙ ap (λ (r : List ℕ). object 0x53 a.0.content ++ r) (empty_is a.0.rest empty.0) in
    is_of read t content (ok_is read t wide.1) (byte_fits (get_or a.0.content 0 0))
    (text_is i.0.content a.0.content content i.0.rest (get_or a.0.content 0 0) is.text rest (bytes_eq-true i.0.content (identifier_of Inspection) known.0) one.0 one.1)

-- ---- the reader's answer

pub stands : (content : List ℕ) (r : Result Template TemplateRefusal) → AreBytes content → Answers (λ t. t) (λ e. Some e) r (read_template content) → IfOk r (λ t. IsTemplate t content)
stands content (Ok t) b e = template_stands t content b e
stands content (Err d) b e = tt

pub is_found : (r : Result Template TemplateRefusal) (t : Template) (content : List ℕ) → IsTemplate t content → Answers (λ t. t) (λ e. Some e) r (read_template content) → IsOkAnd r (λ found. found ≡ t)
is_found (Ok u) t content is e = ok_is u t (sym e ∙ ap read_template is.spelling ∙ template_again t is.fit)
is_found (Err d) t content is e = absurd (let no = sym e ∙ ap read_template is.spelling ∙ template_again t is.fit in cc)
