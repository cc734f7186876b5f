use Rattle.std.proofs.Common.{◌∙◌, ◌+◌, ◌++◌, ◌∷◌, [], length, take, drop, arith, subst, refl, sym, ap}
use Rattle.std.proofs.lemmas.List.{take_more, take_all}
use Rattle.eac_cli.specs.Steps.{MayRunAll}
use Rattle.eac_cli.proofs.Runs.{begun, one_more, promised, may_run_next, may_run_here, whole_run, stopped_run}
use Rattle.eac_cli.proofs.running.run_lines.Goals as goal

pub run_line-requires : goal.run_line-requires
run_line-requires g c =
    let v = c.loop-line.invariant in
    may_run_here g.D.ChipDisk _ _ _ _ _ _ _ c.args.lines.now c.loop-line.line-index c.line-item.result v.chips (omega arith) c.line-item.is v.rest v.going

pub returns-in-Err-clause-chips : goal.returns-in-Err-clause-chips
returns-in-Err-clause-chips g c = c.in-Err.ensures.chips ∙ c.loop-line.invariant.chips

pub returns-in-Err-clause-stopped : goal.returns-in-Err-clause-stopped
returns-in-Err-clause-stopped g c =
    let v = c.loop-line.invariant in
    stopped_run g.D.ChipDisk (promised g.D.ChipDisk c.run_of.ensures c.runs_keep_their_word.ensures) _ _ _ _ _ _ c.into_acks.result c.args.lines.now c.loop-line.line-index c.loop-line.done c.line-item.result c.in-Err.stop c.into_acks.ensures v.count (omega arith) c.line-item.is v.going c.in-Err.ensures.ran

pub loop-line-init : goal.loop-line-init
loop-line-init g c = record {
  count = refl;
  chips = refl;
  rest = subst (λ day. MayRunAll c.args.setup.now (length c.args.chips.now) day c.args.lines.now) (sym c.new-world.ensures.day) c.requires;
  going = begun g.D.ChipDisk _ _ _ (record { day = c.new-world.ensures.day; packets = c.new-world.ensures.packets; imports = c.new-world.ensures.imports; acks = c.new-world.ensures.acks }) (λ chip. refl);
}

pub loop-line-preserved : goal.loop-line-preserved
loop-line-preserved g c =
    let v = c.loop-line.invariant in
    let lines = c.args.lines.now in
    let i = c.loop-line.line-index in
    let line = c.line-item.result in
    record {
      count = omega arith;
      chips = c.in-Ok.ensures.chips ∙ v.chips;
      rest = subst (λ day. MayRunAll c.args.setup.now (length c.args.chips.now) day (drop (i + 1) lines)) (sym c.in-Ok.ensures.day) (may_run_next _ _ _ lines i line (omega arith) c.line-item.is v.rest).rest;
      going = one_more g.D.ChipDisk _ _ _ _ _ _ (take i lines) (take (i + 1) lines) line _ (take_more lines i line (omega arith) ∙ ap (λ x. take i lines ++ x ∷ []) (sym c.line-item.is)) v.going c.in-Ok.ensures.ran;
    }

pub returns-clause-whole : goal.returns-clause-whole
returns-clause-whole g c = λ none.
    let v = c.loop-line.invariant in
    whole_run g.D.ChipDisk (promised g.D.ChipDisk c.run_of.ensures c.runs_keep_their_word.ensures) _ _ _ _ c.into_acks-2.result (take c.loop-line.line-index c.args.lines.now) c.args.lines.now c.loop-line.done c.into_acks-2.ensures (take_all c.loop-line.line-index c.args.lines.now (omega arith)) (omega arith) v.going
