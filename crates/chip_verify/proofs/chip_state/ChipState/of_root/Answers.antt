use Rattle.std.proofs.Common.{sym, ◌∙◌}
use Rattle.chip_verify.proofs.TakenKeys.{key_has_room, first_legal}
use Rattle.chip_verify.proofs.chip_state.ChipState.of_root.Goals as goal

pub root_point-requires : goal.root_point-requires
root_point-requires c = key_has_room c.args.root.now c.requires

pub invariant_of-result : goal.invariant_of-result
invariant_of-result c = first_legal c.args.root.now c.args.day c.root_point.result c.requires (sym c.is_root.ensures ∙ c.if-is_root.true) c.root_point.ensures
