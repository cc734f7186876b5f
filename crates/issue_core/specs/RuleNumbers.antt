-- The rules by number (this project's own).
use Rattle.std.specs.Prelude.{ℕ}
use Rattle.issue_core.specs.declared.rule.Rule.{Rule}
use Rattle.issue_core.specs.declared.rule.Rule.TheVariants as rule

-- the number by which a journal tells a rule
abbrev pub number_of : Rule → ℕ
number_of (rule.Syntax e) = 1
number_of rule.Used = 2
number_of rule.Holder = 3
number_of rule.Authority = 4
number_of rule.AuthorityExpired = 5
number_of rule.Domain = 6
number_of rule.OuterMissing = 7
number_of rule.OuterUnknown = 8
number_of rule.OuterExpired = 9
number_of rule.LiveLimit = 10
number_of rule.Short = 11
number_of rule.Full = 12
number_of rule.Inner = 13
number_of rule.Outer = 14
