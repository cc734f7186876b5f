-- Parts of the input that lie there.
use Rattle.std.proofs.Common.{◌≡◌, ℕ, ◌-◌, List, ◌++◌, length, take, Result, Ok, Err, Some, sym, ap, ◌∙◌, arith}
use Rattle.std.specs.Prelude.{IfOk, IsOkAnd}
use Rattle.std.proofs.lemmas.List.{length-append, take_at}
use Rattle.eac_base.specs.Bytes.{AreBytes}
use Rattle.eac_base.specs.Answers.{Answers}
use Rattle.tlv_core.specs.Object.{object}
use Rattle.cvc_grammar.specs.declared.refusal.CvcRefusal.{CvcRefusal}
use Rattle.cvc_grammar.specs.declared.certificate.CertView.{CertView}
use Rattle.cvc_grammar.specs.ReadingOrder.{Part, Found, expected, read_cert}
use Rattle.cvc_grammar.specs.Certificate.{body_text, IsCert}
use Rattle.cvc_grammar.specs.Views.{seen_cert, refused_cvc, IsViewOf}
use Rattle.cvc_grammar.specs.declared.certificate.Cert.{Cert}
use Rattle.cvc_grammar.specs.declared.refusal.ReadCvc.{ReadCvc}
use Rattle.eac_base.proofs.Steps.{ok_is}
use Rattle.cvc_grammar.proofs.CertAgain.{read_after_write}
use Rattle.cvc_grammar.proofs.Stood.{stood}
use Rattle.cvc_grammar.proofs.CertStands.{write_after_read}

front_of : (bytes xs rest : List ℕ) → bytes ≡ xs ++ rest → take (length bytes - length rest) bytes ≡ xs
front_of bytes xs rest e =
    ap (λ (v : List ℕ). take (length v - length rest) v) e ∙ take_at xs rest (length (xs ++ rest) - length rest) (omega (arith, length-append xs rest))

-- What is left of an object's part before the rest is the whole object.
pub whole_object : (tag : ℕ) (part content rest : Part) (front : List ℕ) → AreBytes part.bytes
    → (let f : Result Found CvcRefusal = Ok (record { tag = tag; content = content; rest = rest }) in expected tag part ≡ f)
    → front ≡ take (length part.bytes - length rest.bytes) part.bytes → front ≡ object tag content.bytes
whole_object tag part content rest front b e f =
    let s = stood tag part (record { tag = tag; content = content; rest = rest }) b e in
    f ∙ front_of part.bytes (object tag content.bytes) rest.bytes s.text

pub view_of : (bytes : List ℕ) (r : Result CertView CvcRefusal) → AreBytes bytes → Answers seen_cert (λ e. Some e) r (read_cert bytes)
    → IfOk r (λ v. v.whole.now ≡ bytes) → IfOk r (λ v. v.body.now ≡ body_text (seen_cert v).body) → IfOk r (λ v. IsViewOf bytes v)
view_of bytes (Ok v) b e w t = record { cert = write_after_read (seen_cert v) bytes b e; whole = w; body = t }
view_of bytes (Err x) b e w t = tt

pub cert_of : (bytes : List ℕ) (r : Result Cert ReadCvc) → AreBytes bytes → Answers (λ c. c) refused_cvc r (read_cert bytes) → IfOk r (λ c. IsCert c bytes)
cert_of bytes (Ok c) b e = write_after_read c bytes b e
cert_of bytes (Err x) b e = tt

-- A reader that answers as the definition says finds the certificate of the input.
pub found_cert : (bytes : List ℕ) (r : Result CertView CvcRefusal) (c : Cert) → IsCert c bytes → Answers seen_cert (λ e. Some e) r (read_cert bytes) → IsOkAnd r (λ v. seen_cert v ≡ c)
found_cert bytes (Ok v) c is e = ok_is (seen_cert v) c (sym e ∙ read_after_write c bytes is)
found_cert bytes (Err x) c is e = absurd (let no = sym e ∙ read_after_write c bytes is in cc)
