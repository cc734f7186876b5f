-- Which imports had to be asked for (this project's own).
use Rattle.std.specs.Prelude.{◌≡◌, ◌⊎◌, ◌++◌, ℕ, List, [], ◌∷◌, Ok, Err, true}
use Rattle.std.specs.declared.result.Result.{Result}
use Rattle.cvc_grammar.specs.Certificate.{body_text}
use Rattle.cvc_grammar.specs.ReadingOrder.{read_cert}
use Rattle.cvc_grammar.specs.declared.certificate.Cert.{Cert}
use Rattle.chip_verify.specs.declared.answers.Imported.{Imported}
use Rattle.chip_verify.specs.declared.answers.Imported.TheVariants as imported
use Rattle.chip_slots.specs.declared.answers.ChipRefusal.{ChipRefusal}
use Rattle.chip_slots.specs.Acts.{Answered}
use Rattle.chip_events.specs.Acts.{ChipAct, ChipCall, MakeCall, OpenCall, GiveCall, IsIn}
use Rattle.chip_events.specs.Verdicts.{Verdict}

-- The question is about this certificate's signature over its body, and got a yes.
pub record IsYesTo (v : Verdict) (cert : Cert) : Type 0 where
  pub message : v.question.message ≡ body_text cert.body
  pub signature : v.question.signature ≡ cert.signature
  pub yes : v.yes ≡ true

abbrev pub GotYes : List Verdict → Cert → Type 0
GotYes [] cert = ⊥
GotYes (v ∷ verdicts) cert = IsYesTo v cert ⊎ GotYes verdicts cert

-- What the chip newly took: not its newest point shown again.
abbrev pub IsNew : Imported → Type 0
IsNew imported.Held = ⊥
IsNew imported.Link = Unit {0}
IsNew imported.Verifier = Unit {0}
IsNew imported.Terminal = Unit {0}

abbrev pub IsOkNew : Result Imported ChipRefusal → Type 0
IsOkNew (Ok what) = IsNew what
IsOkNew (Err e) = ⊥

abbrev pub Took : ChipCall → List ℕ → Type 0
Took (GiveCall bytes verdict number result) b = (bytes ≡ b) × IsOkNew result
Took (MakeCall t result) b = ⊥
Took (OpenCall t) b = ⊥

-- The bytes are a certificate's, to whose signature there was a yes.
pub record WasAsked (bytes : List ℕ) (verdicts : List Verdict) : Type 0 where
  pub cert : Cert
  pub reads : read_cert bytes ≡ Ok cert
  pub got : GotYes verdicts cert

-- An import that was answered, and newly took its bytes, is one of the acts before, or was asked for among the verdicts that
-- were added, and got a yes.
pub record TakesAsked (acts acts' : List ChipAct) (verdicts verdicts' : List Verdict) : Type 0 where
  pub new : List Verdict
  pub added : verdicts' ≡ verdicts ++ new
  pub asked : (a : ChipAct) (bytes : List ℕ) → IsIn a acts' → a.settling ≡ Answered → Took a.call bytes →
      IsIn a acts ⊎ WasAsked bytes new
