-- The parties of a run and their registrations at issuing desks (this project's own).
use Rattle.std.specs.Prelude.{◌≤◌, ℕ, List, [], ◌∷◌, length, Bool, true, false, ◌&&◌, not, ◌==◌, Option, slice_get, position, find, IsTrue}
use Rattle.std.specs.List.{list_all, list_any}
use Rattle.std.specs.Str.{bytes_eq}
use Rattle.eac_base.specs.Bytes.{is_within}
use Rattle.chat_rights.specs.declared.Role.{Role}
use Rattle.chat_rights.specs.declared.Role.TheVariants.{Cvca, Domestic, Foreign, Terminal}
use Rattle.policy_limits.specs.Validity.{fits_role}
use Rattle.policy_limits.specs.declared.party.Party.{Party}
use Rattle.policy_limits.specs.declared.party.PartyKind.{PartyKind}
use Rattle.policy_limits.specs.declared.party.PartyKind.TheVariants as kinds
use Rattle.policy_limits.specs.declared.registration.Registration.{Registration}

pub record SetupValue : Type 0 where
  pub parties : List Party
  pub registrations : List Registration

-- The most parties of a setup.
abbrev pub most_parties : ℕ
most_parties = 1000

abbrev pub setup_value : List Party → List Registration → SetupValue
setup_value parties registrations = record { parties = parties; registrations = registrations }

-- ---- what a party may be

abbrev pub is_authority : PartyKind → Bool
is_authority (kinds.Cvca form rights days) = true
is_authority kinds.Dv = false
is_authority kinds.Terminal = false

abbrev pub is_verifier : PartyKind → Bool
is_verifier (kinds.Cvca form rights days) = false
is_verifier kinds.Dv = true
is_verifier kinds.Terminal = false

abbrev pub is_inspection_system : PartyKind → Bool
is_inspection_system (kinds.Cvca form rights days) = false
is_inspection_system kinds.Dv = false
is_inspection_system kinds.Terminal = true

-- A party of this kind can have certificates of this role.
abbrev pub can_be : Role → PartyKind → Bool
can_be Cvca kind = is_authority kind
can_be Domestic kind = is_verifier kind
can_be Foreign kind = is_verifier kind
can_be Terminal kind = is_inspection_system kind

-- ---- looking up: a party's number is its place

abbrev pub party : SetupValue → ℕ → Option Party
party r number = slice_get r.parties number

abbrev pub number_of : SetupValue → List ℕ → Option ℕ
number_of r holder = position (λ p. bytes_eq p.holder holder) r.parties

abbrev pub registration : SetupValue → ℕ → List ℕ → Option Registration
registration r desk holder = find (λ g. (g.desk == desk) && bytes_eq g.holder holder) r.registrations

-- ---- limits

abbrev pub party_fits : PartyKind → Bool
party_fits (kinds.Cvca form rights days) = fits_role Cvca days
party_fits kinds.Dv = true
party_fits kinds.Terminal = true

abbrev pub registration_fits : Registration → Bool
registration_fits g = fits_role g.role g.days && is_within 1 100 g.live_limit

-- ---- what each setup keeps

-- No two are alike.
abbrev pub are_distinct : {A : Type 0} → (A → A → Bool) → List A → Bool
are_distinct alike [] = true
are_distinct alike (x ∷ xs) = not (list_any (alike x) xs) && are_distinct alike xs

abbrev pub have_one_holder : Party → Party → Bool
have_one_holder p q = bytes_eq p.holder q.holder

abbrev pub have_one_place : Registration → Registration → Bool
have_one_place g h = (g.desk == h.desk) && bytes_eq g.holder h.holder

pub record IsSetup (r : SetupValue) : Type 0 where
  pub few : length r.parties ≤ most_parties
  pub holders : IsTrue (are_distinct have_one_holder r.parties)
  pub places : IsTrue (are_distinct have_one_place r.registrations)
  pub parties_fit : IsTrue (list_all (λ p. party_fits p.kind) r.parties)
  pub registrations_fit : IsTrue (list_all registration_fits r.registrations)
