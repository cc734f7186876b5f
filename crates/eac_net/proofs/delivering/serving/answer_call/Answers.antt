use Rattle.desk_core.specs.Serving.{moment}
use Rattle.eac_net.proofs.Servings.{authority_writable, verifier_writable, terminal_writable}
use Rattle.eac_net.proofs.delivering.serving.answer_call.Goals as goal

pub returns-in-Cvca-clause-writable : goal.returns-in-Cvca-clause-writable
returns-in-Cvca-clause-writable g c = authority_writable c.args.setup.now c.args.party c.args.day
    (moment g.B.Keeper g.P.SignatureProvider c.args.keeper.now c.args.provider.now) (moment g.B.Keeper g.P.SignatureProvider c.answer.new.keeper c.answer.new.provider)
    c.answer.result c.args.message.now c.requires c.answer.ensures

pub returns-in-Dv-clause-writable : goal.returns-in-Dv-clause-writable
returns-in-Dv-clause-writable g c = verifier_writable c.args.setup.now c.args.party c.args.day
    (moment g.B.Keeper g.P.SignatureProvider c.args.keeper.now c.args.provider.now) (moment g.B.Keeper g.P.SignatureProvider c.answer-in-Dv.new.keeper c.answer-in-Dv.new.provider)
    c.answer-in-Dv.result c.args.message.now c.requires c.answer-in-Dv.ensures

pub returns-in-Terminal-clause-writable : goal.returns-in-Terminal-clause-writable
returns-in-Terminal-clause-writable g c = terminal_writable c.args.setup.now c.args.party c.args.day
    (moment g.B.Keeper g.P.SignatureProvider c.args.keeper.now c.args.provider.now) (moment g.B.Keeper g.P.SignatureProvider c.answer-in-Terminal.new.keeper c.answer-in-Terminal.new.provider)
    c.answer-in-Terminal.result c.args.message.now c.requires c.answer-in-Terminal.ensures
