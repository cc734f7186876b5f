-- Tests for the same trust.
use Rattle.std.specs.Prelude.{◌==◌, ◌&&◌, Option, Some, None, Bool, true, false}
use Rattle.std.specs.Str.{bytes_eq}
use Rattle.signature_provider.specs.Provider.{same_key}
use Rattle.chip_verify.specs.declared.trust_point.TrustPoint.{TrustPoint}
use Rattle.chip_verify.specs.Trust.{Trust}
use Rattle.chip_verify.specs.Refusals.{same_template}

abbrev pub same_point : TrustPoint → TrustPoint → Bool
same_point a b = bytes_eq a.reference b.reference && same_template a.template b.template && (a.from == b.from) && (a.until == b.until) && same_key a.key b.key

abbrev pub same_older : Option TrustPoint → Option TrustPoint → Bool
same_older (Some a) (Some b) = same_point a b
same_older (Some a) None = false
same_older None (Some b) = false
same_older None None = true

abbrev pub same_trust : Trust → Trust → Bool
same_trust a b = (a.day == b.day) && same_older a.older b.older && same_point a.newest b.newest
