use Rattle.std.proofs.Common.{sym, ◌∙◌}
use Rattle.std.proofs.lemmas.Bool.{false≢true}
use Rattle.eac_messages.proofs.Bodies.{object_read, nothing_read}
use Rattle.eac_messages.proofs.body.object_in.Goals as goal

pub returns-then-is_object : goal.returns-then-is_object
returns-then-is_object c = object_read _ _ c.in-Ok.ensures.ok.0 c.in-Ok.ensures.ok.1 (sym c.is_object.ensures ∙ c.if-is_object.true)

pub returns-else-is_memory : goal.returns-else-is_memory
returns-else-is_memory c = nothing_read _ (c.in-Err.ensures.err (λ memory. false≢true (sym c.if-is_memory.false ∙ c.is_memory.ensures.1 memory)))
