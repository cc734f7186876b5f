use Rattle.std.proofs.Common.{◌≡◌, take}
use Rattle.chip_events.specs.Givings.{GivesAll, AllTaken}
use Rattle.chip_events.specs.DiskTurns.{HandTurn}
use Rattle.chip_events.proofs.presenting.show_all.Given as goal

abbrev pub invariant-loop-at : goal.invariant-loop-at
invariant-loop-at g l = record {
  front : HandTurn g.D.ChipDisk g.P.SignatureProvider l.fn.disk l.disk l.fn.provider l.provider l.fn.imports l.imports l.fn.acks.acks l.acks.acks l.fn.chip l.chip (Unit {0}) (λ w left. GivesAll l.fn.imports.chip w (take l.at l.certs) l.list.items AllTaken left);
  quiet : g.D.ChipDisk.faults l.disk ≡ g.D.ChipDisk.faults l.fn.disk;
  size : g.D.ChipDisk.size l.disk ≡ g.D.ChipDisk.size l.fn.disk;
  heard : g.P.SignatureProvider.faults l.provider ≡ g.P.SignatureProvider.faults l.fn.provider;
  says : g.P.SignatureProvider.says l.provider ≡ g.P.SignatureProvider.says l.fn.provider;
  holds : g.P.SignatureProvider.holds l.provider ≡ g.P.SignatureProvider.holds l.fn.provider;
  signed : g.P.SignatureProvider.signed l.provider ≡ g.P.SignatureProvider.signed l.fn.provider;
}
