use Rattle.std.proofs.Common.{ℕ, List, ◌++◌, ap, ◌∙◌}
use Rattle.std.specs.Prelude.{replicate}
use Rattle.std.proofs.lemmas.List.{append-nil}
use Rattle.signature_provider.specs.Instruments.{table_signature}
use Rattle.signature_provider.proofs.table_signature.signature_of.Goals as goal

pub returns : goal.returns
unfolding table_signature
returns c = ap (λ (digits : List ℕ). replicate 56 0 ++ digits) (append-nil c.copy_from_slice.new.self ∙ c.copy_from_slice.ensures.after ∙ c.to_be_bytes.ensures)
