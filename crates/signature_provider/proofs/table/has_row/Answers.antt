use Rattle.std.proofs.Common.{◌++◌, arith}
use Rattle.signature_provider.specs.Provider.{viewed_key}
use Rattle.signature_provider.proofs.Tables.{no_number, no_row, row_answers}
use Rattle.signature_provider.proofs.table.has_row.Goals as goal

pub returns-in_default : goal.returns-in_default
returns-in_default c = no_number c.args.rows.now (viewed_key c.args.key) (c.args.first.now ++ c.args.second.now) c.args.signature.now (omega arith) c.in_default.ensures.none

pub returns-then-number-eq0 : goal.returns-then-number-eq0
returns-then-number-eq0 c =
    no_row c.args.rows.now (viewed_key c.args.key) (c.args.first.now ++ c.args.second.now) c.args.signature.now c.in-Some.number (omega arith) c.in-Some.ensures.fits c.in-Some.ensures.found c.then-number-eq0.either

pub returns : goal.returns
returns c =
    row_answers c.args.rows.now (viewed_key c.args.key) (c.args.first.now ++ c.args.second.now) c.args.signature.now c.in-Some.number c.index-rows-number.result c.is_of.result
    (omega arith) c.if-number-eq0.false (omega arith) c.in-Some.ensures.found c.index-rows-number.is c.is_of.ensures
