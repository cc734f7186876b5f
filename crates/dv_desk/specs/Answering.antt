-- What a document verifier answers to a call: one delivery, one list or one reception, with its reply (after BSI TR-03129).
use Rattle.std.specs.Prelude.{◌≡◌, ℕ, Result}
use Rattle.eac_base.specs.declared.failures.NoMemory.{NoMemory}
use Rattle.eac_messages.specs.declared.message.Message.{Message}
use Rattle.eac_messages.specs.declared.message.Message.TheVariants as call
use Rattle.policy_limits.specs.Setup.{SetupValue}
use Rattle.desk_core.specs.Lists.{verifier_list, VerifierAsked}
use Rattle.desk_core.specs.Serving.{Moment, RequestServed, ListServed, ReceiptServed}
use Rattle.desk_core.specs.declared.served.Served.{Served}

abbrev pub IsAnswered : SetupValue → (desk day : ℕ) → Message → (was now : Moment) → Result Served NoMemory → Type 0
IsAnswered setup desk day (call.RequestCertificate id request) was now result = RequestServed setup desk day id request was now result
IsAnswered setup desk day (call.GetCaCertificates id) was now result =
    ListServed id (verifier_list desk) (VerifierAsked desk) was.keeper now.keeper result × (now.provider ≡ was.provider)
IsAnswered setup desk day (call.SendCertificates id certificates) was now result = ReceiptServed desk id certificates was now result
