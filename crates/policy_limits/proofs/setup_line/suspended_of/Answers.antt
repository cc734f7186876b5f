use Rattle.std.proofs.Common.{ap, ◌∙◌}
use Rattle.std.specs.Option.{option_copied}
use Rattle.policy_limits.proofs.LineWords.{no_suspended}
use Rattle.policy_limits.proofs.setup_line.suspended_of.Goals as goal

pub returns-in_err-one_word-in-Some : goal.returns-in_err-one_word-in-Some
returns-in_err-one_word-in-Some c =
    c.from_residual.ensures
    ∙ no_suspended (option_copied c.args.rest) c.in-Some.field-0.now (ap option_copied c.in-Some.is) c.in_err-one_word-in-Some.ensures
