-- The record of a slot, form 1 (this project's own): what a chip trusts, with the number of its generation. It lies behind
-- the gate, which is the slot's first byte.
use Rattle.std.specs.Prelude.{◌≡◌, ℕ, ◌/◌, ◌%◌, ◌^◌, List, ◌∷◌, ◌++◌, length, take, drop, Option, Some, None, Bool, true, false, ◌&&◌, not, nat_lt, nat_le, ◌==◌, if◌then◌else◌, IsTrue}
use Rattle.std.specs.Str.{bytes_eq}
use Rattle.eac_base.specs.Bytes.{big_endian, number_of, is_within, is_empty}
use Rattle.eac_base.specs.Answers.{◌gives◌}
use Rattle.holder_reference.specs.Reference.{is_reference}
use Rattle.cv_dates.specs.Calendar.{last_day}
use Rattle.chat_rights.specs.declared.Kind.TheVariants.{Inspection}
use Rattle.chat_rights.specs.declared.Role.{Role}
use Rattle.chat_rights.specs.declared.Role.TheVariants.{Cvca, Domestic, Foreign, Terminal}
use Rattle.chat_rights.specs.declared.Template.{Template}
use Rattle.chat_rights.specs.Kinds.{rights_fit}
use Rattle.chat_rights.specs.Template.{template_byte}
use Rattle.signature_provider.specs.declared.key.Algorithm.{Algorithm}
use Rattle.signature_provider.specs.Key.{is_algorithm}
use Rattle.signature_provider.specs.Provider.{PublicKey}
use Rattle.chip_verify.specs.declared.trust_point.TrustPoint.{TrustPoint}
use Rattle.chip_verify.specs.Trust.{Trust}

-- ---- what may be kept

abbrev pub is_cvca : Role → Bool
is_cvca Cvca = true
is_cvca Domestic = false
is_cvca Foreign = false
is_cvca Terminal = false

abbrev pub is_day : ℕ → Bool
is_day n = nat_le n last_day

abbrev pub is_kept_key : PublicKey → Bool
is_kept_key k = is_algorithm k.algorithm && nat_le (length k.domain) 1024 && not (is_empty k.point) && nat_le (length k.point) 1024

-- An authority's point, whose parts have room.
abbrev pub is_kept_point : TrustPoint → Bool
is_kept_point p = is_reference p.reference && is_cvca p.template.role && rights_fit p.template.kind p.template.rights && is_day p.from && is_day p.until && is_kept_key p.key

-- The references differ, and the older one takes effect earlier.
abbrev pub comes_before : TrustPoint → TrustPoint → Bool
comes_before older newest = not (bytes_eq older.reference newest.reference) && nat_lt older.from newest.from

abbrev pub are_kept_points : Option TrustPoint → TrustPoint → Bool
are_kept_points None newest = is_kept_point newest
are_kept_points (Some older) newest = is_kept_point older && is_kept_point newest && comes_before older newest

abbrev pub is_kept_trust : Trust → Bool
is_kept_trust t = is_day t.day && are_kept_points t.older t.newest

-- ---- writing: the bytes of a record

-- The length in so many bytes, and the bytes.
abbrev pub counted : ℕ → List ℕ → List ℕ
counted places bytes = big_endian places (length bytes) ++ bytes

abbrev pub key_text : PublicKey → List ℕ
key_text k = k.algorithm.arc ∷ k.algorithm.last ∷ (counted 2 k.domain ++ counted 2 k.point)

abbrev pub point_text : TrustPoint → List ℕ
point_text p = counted 1 p.reference ++ (template_byte p.template ∷ (big_endian 2 p.from ++ (big_endian 2 p.until ++ key_text p.key)))

-- The number of points, and the points, the older first.
abbrev pub points_text : Option TrustPoint → TrustPoint → List ℕ
points_text None newest = 1 ∷ point_text newest
points_text (Some older) newest = 2 ∷ (point_text older ++ point_text newest)

-- The form, the generation, the day and the points.
abbrev pub record_text : Trust → ℕ → List ℕ
record_text t generation = 1 ∷ (big_endian 8 generation ++ (big_endian 2 t.day ++ points_text t.older t.newest))

-- ---- what a record is

-- The bytes begin with the record of this trust and generation, which belongs into the slot of this number, of so many.
-- What stands behind it isn't looked at.
pub record IsRecord (slots slot : ℕ) (bytes : List ℕ) (t : Trust) (generation : ℕ) : Type 0 where
  pub rest : List ℕ
  pub text : bytes ≡ record_text t generation ++ rest
  pub trust : IsTrue (is_kept_trust t)
  pub number : IsTrue (nat_lt generation (2 ^ 64))
  pub place : IsTrue (generation % slots == slot)

-- ---- reading: what is read and the bytes left, or none at the first test that fails

abbrev pub only : {A : Type 0} → Bool → A → Option A
only true x = Some x
only false x = None

abbrev pub bytes_in : ℕ → List ℕ → Option (List ℕ × List ℕ)
bytes_in size bytes = only (nat_le size (length bytes)) (take size bytes, drop size bytes)

-- The number that so many bytes say.
abbrev pub number_in : ℕ → List ℕ → Option (ℕ × List ℕ)
number_in places bytes = bytes_in places bytes gives λ b. Some (number_of b.0, b.1)

abbrev pub counted_in : ℕ → List ℕ → Option (List ℕ × List ℕ)
counted_in places bytes = number_in places bytes gives λ n. bytes_in n.0 n.1

abbrev pub reference_in : List ℕ → Option (List ℕ × List ℕ)
reference_in bytes = counted_in 1 bytes gives λ r. only (is_reference r.0) r

-- The role of an authority, and its rights.
abbrev pub authority_in : List ℕ → Option (Template × List ℕ)
authority_in bytes = number_in 1 bytes gives λ n. only (n.0 / 64 == 3) (record { kind = Inspection; role = Cvca; rights = n.0 % 64 }, n.1)

abbrev pub day_in : List ℕ → Option (ℕ × List ℕ)
day_in bytes = number_in 2 bytes gives λ n. only (is_day n.0) n

abbrev pub algorithm_in : List ℕ → Option (Algorithm × List ℕ)
algorithm_in bytes = number_in 1 bytes gives λ arc. number_in 1 arc.1 gives λ last.
    only (is_within 1 2 arc.0 && nat_lt last.0 128) (record { arc = arc.0; last = last.0 }, last.1)

-- A domain or a point.
abbrev pub part_in : List ℕ → Option (List ℕ × List ℕ)
part_in bytes = counted_in 2 bytes gives λ part. only (nat_le (length part.0) 1024) part

abbrev pub key_in : List ℕ → Option (PublicKey × List ℕ)
key_in bytes = algorithm_in bytes gives λ algorithm. part_in algorithm.1 gives λ domain. part_in domain.1 gives λ point.
    only (not (is_empty point.0)) (record { algorithm = algorithm.0; domain = domain.0; point = point.0 }, point.1)

abbrev pub point_in : List ℕ → Option (TrustPoint × List ℕ)
point_in bytes = reference_in bytes gives λ reference. authority_in reference.1 gives λ template. day_in template.1 gives λ from.
    day_in from.1 gives λ until. key_in until.1 gives λ key.
    Some (record { reference = reference.0; template = template.0; from = from.0; until = until.0; key = key.0 }, key.1)

abbrev pub two_points_in : List ℕ → Option (Option TrustPoint × TrustPoint)
two_points_in bytes = point_in bytes gives λ older. point_in older.1 gives λ newest. only (comes_before older.0 newest.0) (Some older.0, newest.0)

abbrev pub one_point_in : List ℕ → Option (Option TrustPoint × TrustPoint)
one_point_in bytes = point_in bytes gives λ newest. Some (None, newest.0)

abbrev pub points_in : List ℕ → Option (Option TrustPoint × TrustPoint)
points_in bytes = number_in 1 bytes gives λ count.
    if count.0 == 1 then one_point_in count.1 else (if count.0 == 2 then two_points_in count.1 else None)

abbrev pub trust_in : List ℕ → Option Trust
trust_in bytes = day_in bytes gives λ day. points_in day.1 gives λ points.
    Some (record { day = day.0; older = points.0; newest = points.1 })

-- What the bytes behind the gate of this slot, of so many, say: a trust and its generation.
abbrev pub record_of : (slots slot : ℕ) → List ℕ → Option (Trust × ℕ)
record_of slots slot bytes = number_in 1 bytes gives λ form. only (form.0 == 1) form.1 gives λ rest.
    number_in 8 rest gives λ generation. only (generation.0 % slots == slot) generation.1 gives λ behind.
    trust_in behind gives λ t. Some (t, generation.0)
