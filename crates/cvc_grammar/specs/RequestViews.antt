-- Requests that lie in an input, as the definitions speak of them.
use Rattle.std.specs.Prelude.{◌≡◌, List, ℕ, ◌++◌, Option, Some, None, option_map, IfSome}
use Rattle.tlv_core.specs.Object.{object}
use Rattle.cvc_grammar.specs.declared.request.view.RequestBodyView.{RequestBodyView}
use Rattle.cvc_grammar.specs.declared.request.OuterView.{OuterView}
use Rattle.cvc_grammar.specs.declared.request.RequestView.{RequestView}
use Rattle.cvc_grammar.specs.declared.request.RequestBody.{RequestBody}
use Rattle.cvc_grammar.specs.declared.request.Outer.{Outer}
use Rattle.cvc_grammar.specs.declared.request.Request.{Request}
use Rattle.cvc_grammar.specs.Request.{request_body_text, bare_text, outer_signed, IsRequest}
use Rattle.cvc_grammar.specs.Views.{seen_key}

abbrev pub seen_request_body : RequestBodyView → RequestBody
seen_request_body b = record {
  authority = b.authority;
  key = seen_key b.key;
  holder = b.holder;
  extensions = option_map (λ e. e.now) b.extensions;
}

abbrev pub seen_outer : OuterView → Outer
seen_outer o = record { reference = o.reference; signature = o.signature.now }

-- The request that a view is of.
abbrev pub seen_request : RequestView → Request
seen_request v = record {
  body = record {
    authority = v.authority;
    key = seen_key (record { key = v.key; cofactor = v.cofactor });
    holder = v.holder;
    extensions = option_map (λ e. e.now) v.extensions;
  };
  inner = v.inner.now;
  outer = option_map seen_outer v.outer;
}

-- A view of this input: the request whose text it is, the whole of it, and in it what the inner signature is over, the
-- bare request, and, one behind the other, what the outer signature is over.
pub record IsRequestView (bytes : List ℕ) (v : RequestView) : Type 0 where
  pub request : IsRequest (seen_request v) bytes
  pub whole : v.whole.now ≡ bytes
  pub body : v.body.now ≡ request_body_text (seen_request v).body
  pub bare : v.bare.now ≡ bare_text (seen_request v)
  pub outer : IfSome v.outer (λ o. v.bare.now ++ o.named.now ≡ outer_signed (seen_request v) o.reference)

-- Where the bare request lies: it is the whole input, or stands in it before the object of the reference.
abbrev pub LiesIn : List ℕ → List ℕ → Request → Option OuterView → Type 0
LiesIn bytes bare r None = bare ≡ bytes
LiesIn bytes bare r (Some o) = (bare ≡ bare_text r) × (o.named.now ≡ object 0x42 o.reference)
