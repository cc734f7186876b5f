-- An object that was read stands at the front of its part.
use Rattle.std.proofs.Common.{◌≡◌, ℕ, ◌-◌, eqb, List, ◌++◌, length, Ok, ap, ◌∙◌, arith}
use Rattle.std.proofs.lemmas.List.{length-append}
use Rattle.std.proofs.lemmas.Bool.{eqb-true}
use Rattle.eac_base.specs.Bytes.{AreBytes}
use Rattle.eac_base.specs.Answers.{refused_as}
use Rattle.tlv_core.specs.Object.{object, tag_bytes, length_bytes, First, first_object}
use Rattle.tlv_core.proofs.Objects.{reads_what_stands}
use Rattle.eac_base.proofs.Steps.{bind_ok, unless_ok, as_ok, ok_is, AreBytes-front, AreBytes-back}
use Rattle.cvc_grammar.specs.ReadingOrder.{Part, Found, found_in, object_in, expected}

-- What a part is, where an object of this tag was read at its front.
pub record Stood (tag : ℕ) (part : Part) (f : Found) : Type 0 where
  pub text : part.bytes ≡ object tag f.content.bytes ++ f.rest.bytes
  pub size : f.rest.place - part.place ≡ length (object tag f.content.bytes)
  pub content_bytes : AreBytes f.content.bytes
  pub rest_bytes : AreBytes f.rest.bytes

pub along : (xs ys : List ℕ) → xs ≡ ys → AreBytes xs → AreBytes ys
along xs ys e b = rw (← e) b

pub stood_of : (tag : ℕ) (part : Part) (o : First) → AreBytes part.bytes → first_object part.bytes ≡ Ok o → o.tag ≡ tag → Stood tag part (found_in part o)
stood_of tag part o b e t =
    let s = reads_what_stands part.bytes o b e in
    let text : part.bytes ≡ object tag o.content ++ o.rest = rw (← t) s.2 in
    let whole = along part.bytes (object tag o.content ++ o.rest) text b in
    record {
      text = text;
      size = rw text (omega (arith, length-append (object tag o.content) o.rest));
      content_bytes = AreBytes-back (header tag o.content) o.content (AreBytes-front (header tag o.content ++ o.content) o.rest whole);
      rest_bytes = AreBytes-back (object tag o.content) o.rest whole;
    }
  where
    header : ℕ → List ℕ → List ℕ
    header t c = tag_bytes t ++ length_bytes (length c)

pub stood_same : (tag : ℕ) (part : Part) (f g : Found) → f ≡ g → Stood tag part f → Stood tag part g
stood_same tag part f g e s = rw (← e) s

pub stood : (tag : ℕ) (part : Part) (f : Found) → AreBytes part.bytes → expected tag part ≡ Ok f → Stood tag part f
stood tag part f b e =
    let outer = bind_ok (object_in part) _ f e in
    let inner = bind_ok (refused_as _ (first_object part.bytes)) _ outer.0 outer.1 in
    let read = as_ok _ (first_object part.bytes) inner.0 inner.1 in
    let found : found_in part inner.0 ≡ outer.0 = ok_is _ _ inner.2 in
    let judged = unless_ok (eqb outer.0.tag tag) _ _ f outer.2 in
    let same : outer.0 ≡ f = ok_is _ _ judged.1 in
    let t : inner.0.tag ≡ tag = ap (λ (g : Found). g.tag) found ∙ eqb-true outer.0.tag tag judged.0 in
    stood_same tag part _ f (found ∙ same) (stood_of tag part inner.0 b read t)
