-- The rules that a line of a script may break (this project's own).
use Rattle.std.specs.Prelude.{ℕ, Option, Some, None}
use Rattle.eac_cli.specs.declared.line_rule.LineRule.{LineRule}
use Rattle.eac_cli.specs.declared.line_rule.LineRule.TheVariants.{Grammar, Limit, Twice, TooLate, TooEarly}
use Rattle.eac_cli.specs.declared.line_rule.LineRule.TheVariants.{DayFalls, Party, TooMany}
use Rattle.eac_cli.specs.declared.line_rule.LineRefusal.{LineRefusal}
use Rattle.eac_cli.specs.declared.line_rule.LineRefusal.TheVariants.{Rule, NoMemory}

abbrev pub rule_number : LineRule → ℕ
rule_number Grammar = 1
rule_number Limit = 2
rule_number Twice = 3
rule_number TooLate = 4
rule_number TooEarly = 4
rule_number DayFalls = 5
rule_number Party = 6
rule_number TooMany = 7

-- The rule for which a line is refused. Want of memory is no rule.
abbrev pub rule_of : LineRefusal → Option LineRule
rule_of (Rule rule) = Some rule
rule_of NoMemory = None
