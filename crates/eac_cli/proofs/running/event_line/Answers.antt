use Rattle.std.proofs.Common.{ℕ, List, ◌++◌, Ok, refl, ap, ◌∙◌}
use Rattle.std.specs.declared.result.Result.{Result}
use Rattle.eac_net.specs.Chips.{known_of}
use Rattle.eac_net.specs.Objects.{outside}
use Rattle.eac_cli.specs.Steps.{head_of}
use Rattle.eac_cli.proofs.LineTexts.{spoke, broke}
use Rattle.eac_cli.proofs.running.event_line.Goals as goal

pub returns-in_err-step-clause-ran : goal.returns-in_err-step-clause-ran
returns-in_err-step-clause-ran g c =
    let G = g.D.ChipDisk in
    let o = outside g.B.Keeper g.P.SignatureProvider (known_of G c.args.chips.now) c.args.keeper.now c.args.provider.now in
    let o' = outside g.B.Keeper g.P.SignatureProvider (known_of G c.step.new.chips) c.step.new.keeper c.step.new.provider in
    broke G c.args.setup.now c.args.line.now c.args.world.now c.step.new.world o o' c.args.chips.now c.step.new.chips c.begin_line.new.text c.step.new.line
    (c.in_ok-begin_line.ensures ∙ ap (λ l. l ++ head_of c.args.line.now) c.new-text.ensures) c.step.result c.in_err-step.field-0.0
    c.from_residual-in_err-step.result c.in_err-step.was c.from_residual-in_err-step.ensures.0 c.step.ensures.steps

pub returns-clause-ran : goal.returns-clause-ran
returns-clause-ran g c =
    let G = g.D.ChipDisk in
    let o = outside g.B.Keeper g.P.SignatureProvider (known_of G c.args.chips.now) c.args.keeper.now c.args.provider.now in
    let o' = outside g.B.Keeper g.P.SignatureProvider (known_of G c.step.new.chips) c.step.new.keeper c.step.new.provider in
    let text : Result (List ℕ) (Unit {0}) = Ok c.step.new.line in
    spoke G c.args.setup.now c.args.line.now c.args.world.now c.step.new.world o o' c.args.chips.now c.step.new.chips c.begin_line.new.text c.step.new.line
    (c.in_ok-begin_line.ensures ∙ ap (λ l. l ++ head_of c.args.line.now) c.new-text.ensures) c.step.result c.in_ok-step.field-0
    text c.in_ok-step.was refl c.step.ensures.steps
