-- Rows that have a key and its certificate, and the newest of those that are wanted (this project's own).
use Rattle.std.specs.Prelude.{◌&&◌, ℕ, List, [], ◌∷◌, Option, Some, None, Bool, false, true, nat_lt, filter_map, option_and_then, if◌then◌else◌}
use Rattle.std.specs.Str.{bytes_eq}
use Rattle.holder_reference.specs.Reference.{holder_part}
use Rattle.signature_provider.specs.Key.{is_form}
use Rattle.signature_provider.specs.Provider.{Holds, public_key}
use Rattle.signature_provider.specs.declared.key.Key.{Key}
use Rattle.signature_provider.specs.declared.key.KeyForm.{KeyForm}
use Rattle.keeper.specs.declared.rows.Row.{Row}
use Rattle.keeper.specs.declared.rows.OwnPart.{OwnPart}
use Rattle.keeper.specs.declared.rows.CaPart.{CaPart}
use Rattle.keeper.specs.declared.rows.Settled.{Settled}
use Rattle.holder_core.specs.OwnRows.{own_part, ca_part}
use Rattle.holder_core.specs.declared.newest.Wanted.{Wanted}
use Rattle.holder_core.specs.declared.newest.Wanted.TheVariants as wanted

-- a reference with its key and its certificate
pub record Signer : Type 0 where
  pub reference : List ℕ
  pub key : Key
  pub settled : Settled

abbrev pub settled_as : List ℕ → Key → Option Settled → Option Signer
settled_as reference key (Some s) = Some (record { reference = reference; key = key; settled = s })
settled_as reference key None = None

abbrev pub own_as : List ℕ → Option OwnPart → Option Signer
own_as reference (Some own) = settled_as reference own.key own.settled
own_as reference None = None

-- an own row that has its certificate
abbrev pub own_signer : Row → Option Signer
own_signer row = own_as row.reference (own_part row.part)

abbrev pub ca_as : List ℕ → Option CaPart → Option Signer
ca_as reference (Some ca) = settled_as reference ca.key (Some ca.settled)
ca_as reference None = None

abbrev pub ca_signer : Row → Option Signer
ca_signer row = ca_as row.reference (ca_part row.part)

-- ---- keys

abbrev pub form_of : Key → KeyForm
form_of key = record { algorithm = key.algorithm; domain = key.domain; cofactor = key.cofactor }

-- a new key can be made like this one
abbrev pub has_legal_form : Key → Bool
has_legal_form key = is_form (form_of key)

-- the row of a key that is to sign and isn't held
abbrev pub missing_of : Holds → Option Signer → Option (List ℕ)
missing_of held (Some s) = if held (public_key s.key) then None else Some s.reference
missing_of held None = None

-- ---- what is wanted

abbrev pub where_so : (Signer → Bool) → Option Signer → Option Signer
where_so test found = option_and_then (λ s. if test s then Some s else None) found

abbrev pub is_asked_from : List ℕ → Option OwnPart → Bool
is_asked_from authority (Some own) = bytes_eq own.authority authority
is_asked_from authority None = false

-- a certificate of this authority, issued by this root, with a key that a new one can be made like
abbrev pub is_fit : (authority root : List ℕ) → Signer → Bool
is_fit authority root s =
    has_legal_form s.key && bytes_eq (holder_part s.reference) authority && bytes_eq (holder_part s.settled.issuer) root

abbrev pub wanted_in : Wanted → Row → Option Signer
wanted_in (wanted.AskedFrom authority) row = where_so (λ s. is_asked_from authority (own_part row.part)) (own_signer row)
wanted_in wanted.LikeNew row = where_so (λ s. has_legal_form s.key) (own_signer row)
wanted_in (wanted.Authority holder root) row = where_so (is_fit holder root) (ca_signer row)

-- ---- the newest: the one with the greatest effective date, among equals the last

abbrev pub newer : Signer → Option Signer → Signer
newer s (Some t) = if nat_lt t.settled.from s.settled.from then s else t
newer s None = s

abbrev pub newest : List Signer → Option Signer
newest [] = None
newest (s ∷ ss) = Some (newer s (newest ss))

abbrev pub newest_wanted : Wanted → List Row → Option Signer
newest_wanted w rows = newest (filter_map (wanted_in w) rows)

-- ---- its steps

abbrev pub wanted_at : Wanted → Option Row → Option Signer
wanted_at w found = option_and_then (wanted_in w) found

-- one more in front of the newest of others
abbrev pub newest_with : Option Signer → Option Signer → Option Signer
newest_with None other = other
newest_with (Some s) other = Some (newer s other)

-- from when its certificate is effective
abbrev pub effective_of : Option Signer → Option ℕ
effective_of (Some s) = Some s.settled.from
effective_of None = None

abbrev pub is_later : Option ℕ → Option ℕ → Bool
is_later None other = false
is_later (Some from) None = true
is_later (Some from) (Some other) = nat_lt other from

abbrev pub own_effective : OwnPart → Option ℕ
own_effective own = effective_of (settled_as [] own.key own.settled)

abbrev pub ca_fits : (holder root reference : List ℕ) → CaPart → Bool
ca_fits holder root reference ca =
    has_legal_form ca.key && bytes_eq (holder_part reference) holder && bytes_eq (holder_part ca.settled.issuer) root
