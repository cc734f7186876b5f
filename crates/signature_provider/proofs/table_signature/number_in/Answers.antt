use Rattle.std.proofs.Common.{◌≡◌, length, ap, ◌∙◌, sym}
use Rattle.signature_provider.specs.Instruments.{table_signature}
use Rattle.signature_provider.proofs.Tables.{signature_size, digits_told, differ_told}
use Rattle.signature_provider.proofs.table_signature.number_in.Goals as goal

pub returns-then-signature-ne64-clause-none : goal.returns-then-signature-ne64-clause-none
returns-then-signature-ne64-clause-none c = λ number fits same. c.if-signature-ne64.true (ap length same ∙ signature_size number)

pub returns-else-is_same-clause-none : goal.returns-else-is_same-clause-none
returns-else-is_same-clause-none c = λ number fits same.
    let read : c.number_of-number.result ≡ number = c.number_of-number.ensures number fits (c.split_at.ensures.back ∙ digits_told c.args.signature.now number same) in
    differ_told c.args.signature.now c.signature_of.result c.is_same.result c.is_same.ensures c.if-is_same.false (same ∙ ap table_signature (sym read) ∙ sym c.signature_of.ensures)
