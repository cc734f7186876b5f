use Rattle.terminal_desk.proofs.Searching.{refused_asked}
use Rattle.terminal_desk.proofs.search.find_chain.Goals as goal

pub returns-in_err-own-clause-asked : goal.returns-in_err-own-clause-asked
returns-in_err-own-clause-asked g c = refused_asked c.args.desk c.args.cars.now c.in_err-own.field-0.0 c.from_residual.result c.in_err-own.ensures.refused c.from_residual.ensures.1
