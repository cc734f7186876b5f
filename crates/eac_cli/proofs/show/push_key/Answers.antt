use Rattle.eac_cli.proofs.Fields.{five_pushed}
use Rattle.eac_cli.proofs.show.push_key.Goals as goal

pub returns : goal.returns
returns c = five_pushed c.push_size-3.result _ _ _ _ _ _ _ _ _ _ _ (c.in_ok-push_algorithm.ensures) (c.in_ok-push_size.ensures) (c.in_ok-push_size-2.ensures) (c.in_ok-push_extensions.ensures) c.push_size-3.ensures
