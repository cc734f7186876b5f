-- What a setup says of an authority's own certificates (this project's own).
use Rattle.std.specs.Prelude.{ℕ, List, Option, Some, None, option_and_then}
use Rattle.chat_rights.specs.declared.Role.TheVariants.{Cvca}
use Rattle.cv_dates.specs.Calendar.{last_day}
use Rattle.policy_limits.specs.Setup.{SetupValue, party}
use Rattle.policy_limits.specs.Validity.{validity, minimum_days}
use Rattle.policy_limits.specs.declared.party.PartyKind.{PartyKind}
use Rattle.policy_limits.specs.declared.party.PartyKind.TheVariants as kinds
use Rattle.cvca_desk.specs.declared.terms.Terms.{Terms}

abbrev pub terms_of : List ℕ → PartyKind → Option Terms
terms_of holder (kinds.Cvca form rights days) = Some (record { holder = holder; form = form; rights = rights; days = days })
terms_of holder kinds.Dv = None
terms_of holder kinds.Terminal = None

-- those of the party of this number, where it is an authority
abbrev pub terms : SetupValue → ℕ → Option Terms
terms setup desk = option_and_then (λ p. terms_of p.holder p.kind) (party setup desk)

-- from this day on, and not beyond the last day that there is
abbrev pub dates : Terms → ℕ → Option (ℕ × ℕ)
dates t day = validity day t.days last_day (minimum_days Cvca)
