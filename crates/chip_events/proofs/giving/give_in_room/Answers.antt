use Rattle.std.proofs.Common.{◌≡◌, ℕ, ap, ◌∙◌, ◌++◌, List, Result}
use Rattle.eac_base.specs.declared.acks.Ack.{Ack}
use Rattle.chip_verify.specs.declared.answers.Imported.{Imported}
use Rattle.chip_slots.specs.declared.answers.ChipRefusal.{ChipRefusal}
use Rattle.chip_events.specs.declared.count.ImportCount.{ImportCount}
use Rattle.chip_events.specs.Told.{one_more}
use Rattle.chip_events.specs.Imports.{ack_of}
use Rattle.chip_events.proofs.HandTurns.{given_turn, readable}
use Rattle.chip_events.proofs.giving.give_in_room.Goals as goal

noted_by : (acks acks' : List Ack) (k k' : ImportCount) (calls : ℕ) (r : Result Imported ChipRefusal) → acks' ≡ acks ++ ack_of k.chip k.count calls r → k ≡ k' → acks' ≡ acks ++ ack_of k'.chip k'.count calls r
noted_by acks acks' k k' calls r noted is = noted ∙ ap (λ (x : ImportCount). acks ++ ack_of x.chip x.count calls r) is

pub taken_of-requires : goal.taken_of-requires
taken_of-requires g c = readable _ _ _ _ _ _ _ c.args.bytes.now c.import-result.result _ c.import-result.ensures.answer

pub returns-clause-turn : goal.returns-clause-turn
returns-clause-turn g c =
    let e = c.import-result.ensures in
    given_turn g.D.ChipDisk g.P.SignatureProvider c.args.disk.now c.import-result.new.disk c.args.provider.now c.import-result.new.provider c.args.imports.now c.next.result c.args.acks.now.acks c.acknowledge.new.acks.acks c.args.chip.now c.import-result.new.self c.args.bytes.now
    c.import-result.result c.taken_of.result c.taken_of.ensures (record {
      answer = e.answer;
      untouched = e.untouched;
      cause = e.cause;
      quiet = e.quiet;
      unheard = e.unheard;
      heard = e.heard;
      grown = e.provider.faults;
      tells = e.calls.tells;
      size = e.calls.size;
      later = e.calls.later;
      faults = e.calls.faults;
      counted = c.next.ensures;
      noted = noted_by c.args.acks.now.acks c.acknowledge.new.acks.acks c.next.result (record { chip = c.args.imports.now.chip; count = one_more c.args.imports.now.count }) (g.D.ChipDisk.moment c.import-result.new.disk) c.import-result.result c.acknowledge.ensures c.next.ensures;
    })
