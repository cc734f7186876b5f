-- What a provider was asked about signatures, and what it said (this project's own).
use Rattle.std.specs.Prelude.{◌≡◌, List, map, Bool}
use Rattle.std.specs.List.{All}
use Rattle.signature_provider.specs.Provider.{Says}
use Rattle.holder_core.specs.Receiving.{Question}

-- a question with the provider's yes or no
pub record Verdict : Type 0 where
  pub question : Question
  pub yes : Bool

abbrev pub said_of : Says → Question → Bool
said_of said q = said q.key q.message q.signature

abbrev pub verdicts_on : Says → List Question → List Verdict
verdicts_on said questions = map (λ q. record { question = q; yes = said_of said q }) questions

-- each is what the provider says
abbrev pub AreSaid : Says → List Verdict → Type 0
AreSaid said verdicts = All (λ v. v.yes ≡ said_of said v.question) verdicts
