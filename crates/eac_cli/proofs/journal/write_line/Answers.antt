use Rattle.eac_cli.proofs.Written.{second_err}
use Rattle.eac_cli.proofs.journal.write_line.Goals as goal

pub returns-clause-err : goal.returns-clause-err
returns-clause-err g c = second_err c.write_all-2.result _ _ _ c.args.text.now _ _ c.feed_of.ensures c.in_ok-write_all.ensures.ok c.write_all-2.ensures.err
