use Rattle.std.proofs.Common.{◌≡◌, ◌↔◌, ◌⊎◌, ℕ, length, IsTrue, sym, ap, ◌∙◌, subst}
use Rattle.eac_base.specs.Planned.{IsPlanned}
use Rattle.chip_slots.specs.Recorded.{DiskValue, IsStopped, FailsNext}
use Rattle.chip_slots.specs.Steps.{seen}
use Rattle.chip_slots.proofs.Recordings.{seen_count}
use Rattle.chip_slots.proofs.disk.memory.MemoryDisk.fails.Goals as goal

pub returns : goal.returns
returns c =
    let count : length c.as_slice.result.now ≡ length (seen c.self.inside.steps.items c.self.inside.texts.items) = ap length c.as_slice.ensures.value ∙ sym (seen_count c.self.inside.steps.items c.self.inside.texts.items) in
    subst (λ (v : DiskValue). IsTrue c.is_to_fail.result ↔ FailsNext v) c.self.view_is
    (subst (λ (n : ℕ). IsTrue c.is_to_fail.result ↔ (IsPlanned c.self.inside.plan n ⊎ IsStopped c.self.inside.stop_after n)) count c.is_to_fail.ensures)
