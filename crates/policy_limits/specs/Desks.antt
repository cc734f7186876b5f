-- Registrations by their desk (this project's own).
use Rattle.std.specs.Prelude.{◌≡◌, ℕ, List, [], ◌==◌, filter}
use Rattle.std.specs.Option.{unwrap_or}
use Rattle.std.specs.BTreeMap.{BTreeMap, get}
use Rattle.std.specs.Ordering.{nat_cmp}
use Rattle.policy_limits.specs.declared.registration.Registration.{Registration}

-- At each desk the map has those of the registrations that are at this desk, in their order.
abbrev pub AreAt : BTreeMap ℕ (List Registration) → List Registration → Type 0
AreAt lists gs = (desk : ℕ) → unwrap_or (get nat_cmp lists desk) [] ≡ filter (λ g. g.desk == desk) gs
