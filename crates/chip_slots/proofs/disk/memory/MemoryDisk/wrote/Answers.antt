use Rattle.std.proofs.Common.{Vec, Global, ◌<◌, ◌≤◌, ◌+◌, ◌++◌, ◌∷◌, [], ℕ, length, sym, ap, ◌∙◌, subst}
use Rattle.chip_slots.specs.Recorded.{DiskValue, put, Wrote}
use Rattle.chip_slots.proofs.Recordings.{seen_wrote, wrote_whole, fits_in, maps_twice}
use Rattle.chip_slots.proofs.disk.memory.MemoryDisk.wrote.Goals as goal

pub put_in-requires : goal.put_in-requires
put_in-requires c = fits_in (λ (v : Vec ℕ Global). v.items) _ _ c.self.inside.bytes _ _ c.self.invariant.0 (subst (λ (v : DiskValue). c.args.at + length c.args.from.now ≤ length v.first) (sym c.self.view_is) c.requires.range)

pub invariant_of-self : goal.invariant_of-self
invariant_of-self c = wrote_whole c.self.inside.first c.self.inside.steps.items c.note.new.steps.items c.args.at c.self.inside.texts.items c.append.new.texts.items c.args.from.now _ _ _ _ c.self.invariant c.note.ensures.items c.append.ensures.items (c.put_in.ensures ∙ maps_twice (λ (v : Vec ℕ Global). v.items) (put c.args.at c.args.from.now) c.self.inside.bytes) (subst (λ (v : DiskValue). 0 < v.spare) (sym c.self.view_is) c.requires.spare) (subst (λ (v : DiskValue). c.args.at + length c.args.from.now ≤ length v.first) (sym c.self.view_is) c.requires.range)

pub returns-clause-done : goal.returns-clause-done
returns-clause-done c = seen_wrote c.self.inside.steps.items c.note.new.steps.items c.args.at c.self.inside.texts.items c.append.new.texts.items c.args.from.now c.self.invariant.1 c.note.ensures.items c.append.ensures.items ∙ ap (λ (v : DiskValue). v.done ++ Wrote c.args.at c.args.from.now ∷ []) c.self.view_is
