-- The number of a request that was answered with a certificate.
use Rattle.std.proofs.Common.{◌≡◌, ℕ, List, Ok, Err, ap, sym}
use Rattle.std.specs.Prelude.{Result}
use Rattle.signature_provider.specs.Provider.{Says, Holds}
use Rattle.cvc_grammar.specs.declared.request.Request.{Request}
use Rattle.cvc_grammar.specs.declared.refusal.CvcRefusal.{CvcRefusal}
use Rattle.cvc_grammar.specs.RequestOrder.{read_request}
use Rattle.issue_core.specs.Issuing.Readings.{request_of, number_in, number_of}
use Rattle.issue_core.specs.Issuing.Rules.{Case}
use Rattle.issue_core.specs.Issuing.AnswerCauses.{Answered}
use Rattle.issue_core.specs.declared.fault.IssueFault.{IssueFault}
use Rattle.issue_core.specs.declared.issuing.serving.Answer.{Answer}
use Rattle.issue_core.specs.declared.issuing.serving.Answer.TheVariants as answer
use Rattle.desk_core.specs.Replies.{IsRead, IsNumbered}

pub number_is : (bytes : List ℕ) (r : Request) → read_request bytes ≡ Ok r → r.body.holder ≡ number_of bytes
unfolding request_of
number_is bytes r e = ap number_in (sym e)

err_not_ok : {T E : Type 0} (x : T) (e : E) (r : Result T E) → r ≡ Ok x → r ≡ Err e → ⊥
err_not_ok x e r ok err = absurd (cc)

-- a request that is read isn't refused by its reader
pub not_refused : (bytes : List ℕ) (e : CvcRefusal) → IsRead bytes → read_request bytes ≡ Err e → ⊥
unfolding request_of
not_refused bytes e read refused = err_not_ok read.0 e (read_request bytes) read.1 refused

-- what is answered with a certificate was read
pub numbered : (said says : Says) (holds : Holds) (c : Case) (r : Result Answer IssueFault) → Answered said says holds c r → IsNumbered c.bytes r
numbered said says holds c (Ok (answer.Issued p)) made = (made.request, made.may.cleared.saw.admitted.read)
numbered said says holds c (Ok (answer.Kept p)) kept = (kept.request, kept.read)
numbered said says holds c (Ok (answer.Refused k)) cause = tt
numbered said says holds c (Err e) cause = tt
