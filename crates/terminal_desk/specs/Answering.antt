-- What an inspection system answers to a call: it takes certificates, and serves nothing else (after BSI TR-03129).
use Rattle.std.specs.Prelude.{ℕ, Result}
use Rattle.eac_base.specs.declared.failures.NoMemory.{NoMemory}
use Rattle.eac_messages.specs.declared.message.Message.{Message}
use Rattle.eac_messages.specs.declared.message.Message.TheVariants as call
use Rattle.desk_core.specs.Serving.{Moment, ReceiptServed, CallDeclined}
use Rattle.desk_core.specs.declared.served.Served.{Served}

abbrev pub IsAnswered : (desk : ℕ) → Message → (was now : Moment) → Result Served NoMemory → Type 0
IsAnswered desk (call.SendCertificates id certificates) was now result = ReceiptServed desk id certificates was now result
IsAnswered desk (call.RequestCertificate id request) was now result = CallDeclined id was now result
IsAnswered desk (call.GetCaCertificates id) was now result = CallDeclined id was now result
