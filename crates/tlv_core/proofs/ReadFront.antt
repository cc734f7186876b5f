-- The reader's answer against the object at the front of its input.
use Rattle.std.proofs.Common.{◌≡◌, ℕ, List, Result, Ok, Err, Some, sym, ap, ◌∙◌}
use Rattle.std.specs.Prelude.{IfOk, IsOkAnd}
use Rattle.eac_base.specs.Bytes.{AreBytes}
use Rattle.eac_base.specs.Answers.{Answers}
use Rattle.tlv_core.specs.declared.TlvRefusal.{TlvRefusal}
use Rattle.tlv_core.specs.Object.{first_object, First, BeginsWith}
use Rattle.tlv_core.proofs.Objects.{object_again, write_after_read}
use Rattle.eac_base.proofs.Steps.{ok_is}

pub stands : {X : Type 0} (seen : X → First) (bytes : List ℕ) (r : Result X TlvRefusal) → AreBytes bytes → Answers seen (λ e. Some e) r (first_object bytes)
    → IfOk r (λ x. BeginsWith (seen x).tag (seen x).content (seen x).rest bytes)
stands seen bytes (Ok x) b e = write_after_read bytes (seen x) b e
stands seen bytes (Err d) b e = tt

abbrev Is : First → First → Type 0
Is o p = (o.tag ≡ p.tag) × (o.content ≡ p.content) × (o.rest ≡ p.rest)

is_of : (o p : First) → o ≡ p → Is o p
is_of o p e = (ap (λ (x : First). x.tag) e, ap (λ (x : First). x.content) e, ap (λ (x : First). x.rest) e)

pub is_found : {X : Type 0} (seen : X → First) (r : Result X TlvRefusal) (tag : ℕ) (content rest bytes : List ℕ) → BeginsWith tag content rest bytes
    → Answers seen (λ e. Some e) r (first_object bytes) → IsOkAnd r (λ x. Is (seen x) (record { tag = tag; content = content; rest = rest }))
is_found seen (Ok x) tag content rest bytes is e =
    is_of (seen x) _ (ok_is _ _ (sym e ∙ ap first_object is.spelling ∙ object_again tag content rest is.tag_known is.content_fits))
is_found seen (Err d) tag content rest bytes is e = absurd (let no = sym e ∙ ap first_object is.spelling ∙ object_again tag content rest is.tag_known is.content_fits in cc)
