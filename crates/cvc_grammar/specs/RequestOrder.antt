-- The order in which a request is read: the value, or the first step that fails. Which step comes before which is this
-- project's own; the objects are those of BSI TR-03110-3, certificate requests and authenticated requests.
use Rattle.std.specs.Prelude.{ℕ, List, length, ◌||◌, nat_le, ◌==◌, if◌then◌else◌, Option, Some, None, Ok}
use Rattle.eac_base.specs.Answers.{◌>>=◌, ◌>>◌, unless}
use Rattle.signature_provider.specs.declared.key.Key.{Key}
use Rattle.cvc_grammar.specs.declared.refusal.ObjectFault.TheVariants as faults
use Rattle.cvc_grammar.specs.declared.refusal.CvcRefusal.TheVariants as refusals
use Rattle.cvc_grammar.specs.declared.request.RequestBody.{RequestBody}
use Rattle.cvc_grammar.specs.declared.request.Outer.{Outer}
use Rattle.cvc_grammar.specs.declared.request.Request.{Request}
use Rattle.cvc_grammar.specs.ReadingOrder.{Part, Step, Read, whole, object_in, expected, nothing_in}
use Rattle.cvc_grammar.specs.ReadingOrder.{profile_in, reference_in, key_in, extensions_in, signature_in, signed_in}
use Rattle.cvc_grammar.specs.Request.{longest_request, is_request_key}

-- ---- the objects of a body

-- The authority's reference, where the object that follows has its tag.
abbrev pub authority_in : Part → Read (Option (List ℕ))
authority_in part = do
  o ← object_in part
  if o.tag == 0x42 then (do
    authority ← reference_in 0x42 part
    Ok (Some authority.0, authority.1)) else Ok (None, part)

abbrev pub request_key_in : Part → Read Key
request_key_in part = do
  key ← key_in part
  unless (is_request_key key.0) refusals.Key
  Ok key

abbrev pub request_body_in : Part → Step RequestBody
request_body_in part = do
  start ← profile_in part
  authority ← authority_in start
  key ← request_key_in authority.1
  holder ← reference_in 0x5f20 key.1
  extensions ← extensions_in holder.1
  Ok (record { authority = authority.0; key = key.0; holder = holder.0; extensions = extensions })

-- ---- the bare request, and what stands around it

abbrev pub request_in : Part → Option Outer → Step Request
request_in part outer = do
  signed ← signed_in part
  body ← request_body_in signed.0
  Ok (record { body = body; inner = signed.1; outer = outer })

-- Each outer object is judged before the next, and the bare request is opened last.
abbrev pub authenticated_in : Part → Step Request
authenticated_in part = do
  bare ← expected 0x7f21 part
  reference ← reference_in 0x42 bare.rest
  signature ← signature_in reference.1
  nothing_in signature.1
  request_in bare.content (Some (record { reference = reference.0; signature = signature.0 }))

abbrev pub read_request : List ℕ → Step Request
read_request bytes = do
  unless (nat_le (length bytes) longest_request) refusals.TooLong
  o ← object_in (whole bytes)
  unless ((o.tag == 0x7f21) || (o.tag == 0x67)) (refusals.Object 0 faults.OtherTag)
  nothing_in o.rest
  if o.tag == 0x7f21 then request_in o.content None else authenticated_in o.content
