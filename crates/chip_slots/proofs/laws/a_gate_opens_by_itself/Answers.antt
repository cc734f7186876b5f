use Rattle.chip_slots.proofs.SlotWrites.{opening}
use Rattle.chip_slots.proofs.laws.a_gate_opens_by_itself.Goals as goal

pub returns : goal.returns
returns c = λ slot old y before s image ok ready more wrote crash. opening slot old before s image ready.spare ok crash 165 wrote y ready.filled more
