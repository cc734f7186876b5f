-- What the code has in its hands, as the definitions speak of it: parts of the input, keys and certificates that lie in
-- it, answers that may want memory.
use Rattle.std.specs.Prelude.{◌≡◌, ℕ, ◌+◌, List, length, Option, Some, None, Result, Err, option_map}
use Rattle.eac_base.specs.Answers.{Answers}
use Rattle.signature_provider.specs.declared.key.Key.{Key}
use Rattle.cvc_grammar.specs.declared.parts.Part as code
use Rattle.cvc_grammar.specs.declared.key.KeyParts.{KeyParts}
use Rattle.cvc_grammar.specs.declared.certificate.view.BodyView.{BodyView}
use Rattle.cvc_grammar.specs.declared.certificate.CertBody.{CertBody}
use Rattle.cvc_grammar.specs.declared.certificate.Cert.{Cert}
use Rattle.cvc_grammar.specs.declared.certificate.CertView.{CertView}
use Rattle.cvc_grammar.specs.declared.refusal.CvcRefusal.{CvcRefusal}
use Rattle.cvc_grammar.specs.declared.refusal.ReadCvc.{ReadCvc}
use Rattle.cvc_grammar.specs.declared.refusal.ReadCvc.TheVariants as reads
use Rattle.cvc_grammar.specs.Certificate.{IsCert, body_text}
use Rattle.cvc_grammar.specs.ReadingOrder.{Part, Step}

abbrev pub part_of : code.Part → Part
part_of p = record { place = p.place; bytes = p.bytes.now }

-- The place behind a part.
abbrev pub end_of : code.Part → ℕ
end_of p = p.place + length p.bytes.now

-- The answer, seen by its value, is what the reading order says.
abbrev pub Reads : {X Y : Type 0} → (X → Y) → Result X CvcRefusal → Step Y → Type 0
Reads value result said = Answers value (λ e. Some e) result said

abbrev pub seen_key : KeyParts → Key
seen_key k = record {
  algorithm = k.key.algorithm;
  domain = k.key.domain.now;
  point = k.key.point.now;
  cofactor = k.cofactor.now;
}

abbrev pub seen_body : BodyView → CertBody
seen_body b = record {
  authority = b.authority;
  key = seen_key b.key;
  holder = b.holder;
  template = b.template;
  from = b.from;
  until = b.until;
  extensions = option_map (λ e. e.now) b.extensions;
}

-- The certificate that a view is of.
abbrev pub seen_cert : CertView → Cert
seen_cert v = record {
  body = record {
    authority = v.authority;
    key = seen_key (record { key = v.key; cofactor = v.cofactor });
    holder = v.holder;
    template = v.template;
    from = v.from;
    until = v.until;
    extensions = option_map (λ e. e.now) v.extensions;
  };
  signature = v.signature.now;
}

-- A view of this input: the certificate whose text it is, the whole of it, and the whole body object in it.
pub record IsViewOf (bytes : List ℕ) (v : CertView) : Type 0 where
  pub cert : IsCert (seen_cert v) bytes
  pub whole : v.whole.now ≡ bytes
  pub body : v.body.now ≡ body_text (seen_cert v).body

-- A refusal of the bytes is answered as that refusal, whatever memory there is.
abbrev pub RefusedFirst : {X Y : Type 0} → Step X → Result Y ReadCvc → Type 0
RefusedFirst said result = (e : CvcRefusal) → said ≡ Err e → result ≡ Err (reads.Refused e)

-- A refusal other than for want of memory.
abbrev pub refused_cvc : ReadCvc → Option CvcRefusal
refused_cvc (reads.Refused e) = Some e
refused_cvc reads.NoMemory = None
