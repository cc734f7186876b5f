-- What the provider was asked about signatures in an event of a chip, and what it said (this project's own).
use Rattle.std.specs.Prelude.{◌≡◌, ℕ, List, [], ◌∷◌, Option, Some, None, Result, Ok, Err, Bool}
use Rattle.cvc_grammar.specs.Certificate.{body_text}
use Rattle.cvc_grammar.specs.declared.certificate.Cert.{Cert}
use Rattle.cvc_grammar.specs.declared.refusal.CvcRefusal.{CvcRefusal}
use Rattle.signature_provider.specs.Provider.{PublicKey, Says}
use Rattle.chip_verify.specs.declared.answers.Checked.{Checked}
use Rattle.chip_verify.specs.declared.answers.Checked.TheVariants as checks
use Rattle.chip_verify.specs.Refusals.{Issuer, key_of, issuer_of, checked}
use Rattle.chip_slots.specs.Chips.{ChipValue}

-- Is this a signature by this key over this message?
pub record Question : Type 0 where
  pub key : PublicKey
  pub message : List ℕ
  pub signature : List ℕ

-- A question with the provider's yes or no.
pub record Verdict : Type 0 where
  pub question : Question
  pub yes : Bool

abbrev pub said_of : Says → Question → Bool
said_of says q = says q.key q.message q.signature

-- Each is what the provider says.
abbrev pub AreSaid : Says → List Verdict → Type 0
AreSaid says [] = Unit {0}
AreSaid says (v ∷ verdicts) = (v.yes ≡ said_of says v.question) × AreSaid says verdicts

-- ---- what is asked about a certificate

abbrev pub verdict_under : Option Issuer → Cert → Bool → List Verdict
verdict_under (Some i) c good =
    record { question = record { key = key_of i; message = body_text c.body; signature = c.signature }; yes = good } ∷ []
verdict_under None c good = []

abbrev pub verdict_where : Checked → Option Issuer → Cert → Bool → List Verdict
verdict_where checks.Held i c good = []
verdict_where (checks.Refused k) i c good = []
verdict_where checks.Ask i c good = verdict_under i c good

-- The verdict with its question, where the chip's table asks for one.
abbrev pub asked : ChipValue → Result Cert CvcRefusal → Bool → List Verdict
asked o (Ok c) good = verdict_where (checked o.state o.session c.body) (issuer_of o.state o.session c.body) c good
asked o (Err e) good = []
