use Rattle.eac_messages.specs.declared.code.Code.TheVariants as code
use Rattle.desk_core.proofs.Writable.{coded_written, request_written, list_written, receipt_written}
use Rattle.desk_core.proofs.laws.replies_can_be_written.Goals as goal

pub returns : goal.returns
returns c id text size = record {
  requests = request_written id text size;
  lists = list_written id text size;
  receipts = λ received. receipt_written id text size received received.fault;
  others = coded_written id text size code.NotAccepted;
}
