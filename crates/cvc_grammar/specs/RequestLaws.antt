-- What requests, reading and writing have to do with each other.
use Rattle.std.specs.Prelude.{◌≡◌, List, ℕ, Ok}
use Rattle.eac_base.specs.Bytes.{AreBytes}
use Rattle.cvc_grammar.specs.declared.request.Request.{Request}
use Rattle.cvc_grammar.specs.Request.{IsRequest}
use Rattle.cvc_grammar.specs.RequestOrder.{read_request}

-- A legal request has one text.
abbrev pub OneText : Type 0
OneText = (r : Request) (one other : List ℕ) → IsRequest r one → IsRequest r other → one ≡ other

-- A text is of one request.
abbrev pub OneRequest : Type 0
OneRequest = (r s : Request) (bytes : List ℕ) → IsRequest r bytes → IsRequest s bytes → r ≡ s

-- What was written is read.
abbrev pub ReadAfterWrite : Type 0
ReadAfterWrite = (r : Request) (bytes : List ℕ) → IsRequest r bytes → read_request bytes ≡ Ok r

-- What was read is the request's one text.
abbrev pub WriteAfterRead : Type 0
WriteAfterRead = (r : Request) (bytes : List ℕ) → AreBytes bytes → read_request bytes ≡ Ok r → IsRequest r bytes
