use Rattle.std.proofs.Common.{◌<◌, ◌++◌, ◌∷◌, [], sym, ap, ◌∙◌, subst}
use Rattle.chip_slots.specs.Recorded.{DiskValue, Idle}
use Rattle.chip_slots.specs.declared.disk.memory.Step.TheVariants as step
use Rattle.chip_slots.proofs.Recordings.{seen_plain, idle_whole}
use Rattle.chip_slots.proofs.disk.memory.MemoryDisk.idle.Goals as goal

pub invariant_of-self : goal.invariant_of-self
invariant_of-self c = idle_whole c.self.inside.first c.self.inside.steps.items c.note.new.steps.items c.self.inside.texts.items _ _ _ c.self.invariant c.note.ensures.items (subst (λ (v : DiskValue). 0 < v.spare) (sym c.self.view_is) c.requires)

pub returns-clause-done : goal.returns-clause-done
returns-clause-done c = seen_plain c.self.inside.steps.items c.note.new.steps.items step.Idle c.self.inside.texts.items c.self.invariant.1 c.note.ensures.items ∙ ap (λ (v : DiskValue). v.done ++ Idle ∷ []) c.self.view_is
