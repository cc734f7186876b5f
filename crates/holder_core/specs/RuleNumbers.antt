-- The refusals of certificates by number (this project's own).
use Rattle.std.specs.Prelude.{ℕ}
use Rattle.holder_core.specs.declared.take_rule.TakeRule.{TakeRule}
use Rattle.holder_core.specs.declared.take_rule.TakeRule.TheVariants as take
use Rattle.holder_core.specs.declared.ca_rule.CaRule.{CaRule}
use Rattle.holder_core.specs.declared.ca_rule.CaRule.TheVariants as ca

abbrev pub take_number : TakeRule → ℕ
take_number (take.Syntax e) = 1
take_number take.NotMine = 2
take_number take.KeyDiffers = 3
take_number take.NoIssuer = 4
take_number take.Signature = 5
take_number (take.Differs kept) = 6

abbrev pub ca_number : CaRule → ℕ
ca_number (ca.Syntax e) = 1
ca_number ca.Role = 2
ca_number ca.NoIssuer = 3
ca_number ca.Parameters = 4
ca_number ca.Signature = 5
ca_number (ca.Differs kept) = 6
ca_number ca.Full = 7
