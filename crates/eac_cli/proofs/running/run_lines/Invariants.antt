use Rattle.std.proofs.Common.{◌≡◌, length, take, drop}
use Rattle.eac_cli.specs.Objects.{run_objects}
use Rattle.eac_cli.specs.Steps.{MayRunAll}
use Rattle.eac_cli.proofs.Runs.{Going}
use Rattle.eac_cli.proofs.running.run_lines.Given as goal

abbrev pub invariant-loop-line : goal.invariant-loop-line
invariant-loop-line g l = record {
  count : l.done ≡ l.line-index;
  chips : length l.chips ≡ length l.fn.chips;
  rest : MayRunAll l.setup (length l.fn.chips) l.world.day (drop l.line-index l.lines);
  going : Going g.D.ChipDisk l.setup (run_objects g.K.Stream g.D.ChipDisk g.B.Keeper g.P.SignatureProvider l.fn.sink l.fn.chips l.fn.keeper l.fn.provider) (run_objects g.K.Stream g.D.ChipDisk g.B.Keeper g.P.SignatureProvider l.sink l.chips l.keeper l.provider) l.world (take l.line-index l.lines);
}
