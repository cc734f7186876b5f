use Rattle.std.proofs.Common.{◌≡◌, ◌≤◌, ◌-◌, length, take, None}
use Rattle.eac_base.specs.Telling.{Told}
use Rattle.holder_core.specs.Receiving.{ReceivedAsked}
use Rattle.holder_core.proofs.Receivings.{SoFar}
use Rattle.holder_core.proofs.receiving.receive.Given as goal

abbrev pub invariant-loop-bytes : goal.invariant-loop-bytes
invariant-loop-bytes g l = record {
  within : l.at ≤ length l.certificates;
  count : length l.items.items ≡ l.at;
  told : Told (g.B.Keeper.rows l.fn.keeper) (g.B.Keeper.rows l.keeper) (SoFar (g.P.SignatureProvider.says l.fn.provider) l.party (take l.at l.certificates) l.items.items);
  answered : ReceivedAsked (g.P.SignatureProvider.says l.fn.provider) l.party (take l.at l.certificates) l.items.items None;
  kept : g.B.Keeper.faults l.keeper ≡ g.B.Keeper.faults l.fn.keeper;
  quiet : g.P.SignatureProvider.faults l.provider ≡ g.P.SignatureProvider.faults l.fn.provider;
  says : g.P.SignatureProvider.says l.provider ≡ g.P.SignatureProvider.says l.fn.provider;
  holds : g.P.SignatureProvider.holds l.provider ≡ g.P.SignatureProvider.holds l.fn.provider;
  signed : g.P.SignatureProvider.signed l.provider ≡ g.P.SignatureProvider.signed l.fn.provider;
}

abbrev pub decreases-loop-bytes : goal.decreases-loop-bytes
decreases-loop-bytes g l = length l.certificates - l.at
