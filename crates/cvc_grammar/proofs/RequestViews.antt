-- Requests that lie in an input, and their keys.
use Rattle.std.proofs.Common.{◌≡◌, ℕ, Bool, true, false, List, ◌++◌, Result, Ok, Err, Option, Some, None, refl, sym, ◌∙◌}
use Rattle.std.specs.Prelude.{IfOk, IfSome, IsOkAnd, IsTrue, ◌&&◌, option_map}
use Rattle.eac_base.proofs.Steps.{ok_is}
use Rattle.eac_base.specs.Bytes.{AreBytes}
use Rattle.eac_base.specs.Answers.{Answers}
use Rattle.signature_provider.specs.Key.{is_key, key_fits}
use Rattle.cvc_grammar.specs.declared.refusal.CvcRefusal.{CvcRefusal}
use Rattle.cvc_grammar.specs.declared.refusal.ReadCvc.{ReadCvc}
use Rattle.cvc_grammar.specs.declared.key.KeyParts.{KeyParts}
use Rattle.cvc_grammar.specs.declared.parts.Part as code
use Rattle.cvc_grammar.specs.declared.request.Request.{Request}
use Rattle.cvc_grammar.specs.ReadingOrder.{Part, key_in}
use Rattle.cvc_grammar.specs.RequestOrder.{read_request}
use Rattle.cvc_grammar.specs.Request.{IsRequest, request_body_text, bare_text, outer_signed, with_outer}
use Rattle.cvc_grammar.specs.RequestViews.{seen_outer, seen_request, LiesIn, IsRequestView}
use Rattle.cvc_grammar.specs.declared.request.OuterView.{OuterView}
use Rattle.cvc_grammar.specs.declared.request.RequestView.{RequestView}
use Rattle.cvc_grammar.specs.Views.{seen_key, part_of, refused_cvc}
use Rattle.cvc_grammar.proofs.CertStands.{key_there}
use Rattle.cvc_grammar.proofs.RequestAgain.{read_after_write}
use Rattle.cvc_grammar.proofs.RequestStands.{write_after_read}

pub key_legal : (part : Part) (r : Result (KeyParts × code.Part) CvcRefusal) → AreBytes part.bytes → Answers (λ o. (seen_key o.0, part_of o.1)) (λ e. Some e) r (key_in part)
    → IfOk r (λ o. IsTrue (is_key (seen_key o.0) && key_fits (seen_key o.0)))
key_legal part (Ok o) b e = let h = key_there part (seen_key o.0) (part_of o.1) b e in h.0
key_legal part (Err x) b e = tt

pub true_and : (b c : Bool) → b ≡ true → (b && c) ≡ c
true_and true c e = refl
true_and false c e = absurd cc

pub request_of : (bytes : List ℕ) (r : Result Request ReadCvc) → AreBytes bytes → Answers (λ c. c) refused_cvc r (read_request bytes) → IfOk r (λ c. IsRequest c bytes)
request_of bytes (Ok c) b e = write_after_read c bytes b e
request_of bytes (Err x) b e = tt

-- ---- where the parts of a view lie

lies_bare : (bytes bare : List ℕ) (r : Request) (outer : Option OuterView) → bytes ≡ with_outer r (option_map seen_outer outer) → LiesIn bytes bare r outer → bare ≡ bare_text r
lies_bare bytes bare r None text lies = lies ∙ text
lies_bare bytes bare r (Some o) text lies = lies.0

lies_outer : (bytes bare : List ℕ) (r : Request) (outer : Option OuterView) → LiesIn bytes bare r outer → IfSome outer (λ o. bare ++ o.named.now ≡ outer_signed r o.reference)
lies_outer bytes bare r None lies = tt
lies_outer bytes bare r (Some o) lies = λ i. lies.0 i ++ lies.1 i

pub view_of : (bytes : List ℕ) (r : Result RequestView CvcRefusal) → AreBytes bytes → Answers seen_request (λ e. Some e) r (read_request bytes)
    → IfOk r (λ v. v.whole.now ≡ bytes) → IfOk r (λ v. v.body.now ≡ request_body_text (seen_request v).body)
    → IfOk r (λ v. LiesIn bytes v.bare.now (seen_request v) v.outer) → IfOk r (λ v. IsRequestView bytes v)
view_of bytes (Ok v) b e w t l =
    let is = write_after_read (seen_request v) bytes b e in
    record {
      request = is;
      whole = w;
      body = t;
      bare = lies_bare bytes v.bare.now (seen_request v) v.outer is.spelling l;
      outer = lies_outer bytes v.bare.now (seen_request v) v.outer l;
    }
view_of bytes (Err x) b e w t l = tt

-- A reader that answers as the definition says finds the request of the input.
pub found_request : (bytes : List ℕ) (r : Result RequestView CvcRefusal) (c : Request) → IsRequest c bytes → Answers seen_request (λ e. Some e) r (read_request bytes) → IsOkAnd r (λ v. seen_request v ≡ c)
found_request bytes (Ok v) c is e = ok_is (seen_request v) c (sym e ∙ read_after_write c bytes is)
found_request bytes (Err x) c is e = absurd (let no = sym e ∙ read_after_write c bytes is in cc)
