-- The return code that stands for a rule of issuing (after BSI TR-03129; which code stands for which rule is this project's
-- own).
use Rattle.eac_messages.specs.declared.code.Code.{Code}
use Rattle.eac_messages.specs.declared.code.Code.TheVariants as code
use Rattle.issue_core.specs.declared.rule.Rule.{Rule}
use Rattle.issue_core.specs.declared.rule.Rule.TheVariants as rule

abbrev pub code_of : Rule → Code
code_of (rule.Syntax e) = code.Syntax
code_of rule.Used = code.NotAccepted
code_of rule.Holder = code.NotAccepted
code_of rule.Authority = code.NotAccepted
code_of rule.AuthorityExpired = code.Expired
code_of rule.Domain = code.Domain
code_of rule.OuterMissing = code.NotAccepted
code_of rule.OuterUnknown = code.NotAccepted
code_of rule.OuterExpired = code.Expired
code_of rule.LiveLimit = code.NotAccepted
code_of rule.Short = code.NotAccepted
code_of rule.Full = code.NotAccepted
code_of rule.Inner = code.Inner
code_of rule.Outer = code.Outer
