-- The order in which a stored form is read (this project's own).
use Rattle.std.specs.Prelude.{ℕ, List, [], ◌∷◌, length, ◌==◌, Option, Some, None, option_map, Result, Ok, Err, if◌then◌else◌}
use Rattle.std.specs.Result.{result_ok}
use Rattle.eac_base.specs.Bytes.{is_empty}
use Rattle.eac_base.specs.Answers.{◌gives◌}
use Rattle.tlv_core.specs.Object.{first_object, First}
use Rattle.tlv_core.specs.declared.TlvRefusal.{TlvRefusal}
use Rattle.holder_reference.specs.Reference.{is_reference, is_holder}
use Rattle.cv_dates.specs.Calendar.{read_date}
use Rattle.chat_rights.specs.Template.{read_template}
use Rattle.signature_provider.specs.declared.key.Algorithm.{Algorithm}
use Rattle.signature_provider.specs.declared.key.Key.{Key}
use Rattle.signature_provider.specs.Key.{is_algorithm}
use Rattle.keeper.specs.declared.rows.Table.{Table}
use Rattle.keeper.specs.declared.rows.Table.TheVariants as tables
use Rattle.keeper.specs.declared.rows.Part.{Part}
use Rattle.keeper.specs.declared.rows.Part.TheVariants as parts
use Rattle.keeper.specs.declared.rows.Settled.{Settled}

abbrev pub tagged : ℕ → Result First TlvRefusal → Option (List ℕ × List ℕ)
tagged tag (Ok o) = if o.tag == tag then Some (o.content, o.rest) else None
tagged tag (Err e) = None

-- the content of the object at the front, which has to have this tag, and the rest
abbrev pub content_at : ℕ → List ℕ → Option (List ℕ × List ℕ)
content_at tag bytes = tagged tag (first_object bytes)

-- the content of the one object with this tag
abbrev pub last_content : ℕ → List ℕ → Option (List ℕ)
last_content tag bytes = content_at tag bytes gives λ o. if is_empty o.1 then Some o.0 else None

abbrev pub algorithm_in : List ℕ → Option Algorithm
algorithm_in (arc ∷ last ∷ []) =
    let a : Algorithm = record { arc = arc; last = last } in if is_algorithm a then Some a else None
algorithm_in [] = None
algorithm_in (arc ∷ []) = None
algorithm_in (arc ∷ last ∷ other ∷ more) = None

abbrev pub key_in : List ℕ → Option (Key × List ℕ)
key_in bytes = content_at 0x81 bytes gives λ a. content_at 0x82 a.1 gives λ d. content_at 0x83 d.1 gives λ p.
    content_at 0x84 p.1 gives λ c. algorithm_in a.0 gives λ algorithm.
    Some (record { algorithm = algorithm; domain = d.0; point = p.0; cofactor = c.0 }, c.1)

abbrev pub reference_in : List ℕ → Option (List ℕ)
reference_in bytes = if is_reference bytes then Some bytes else None

abbrev pub holder_in : List ℕ → Option (List ℕ)
holder_in bytes = if is_holder bytes then Some bytes else None

abbrev pub settled_in : List ℕ → Option Settled
settled_in bytes = content_at 0x86 bytes gives λ c. content_at 0x87 c.1 gives λ i. content_at 0x88 i.1 gives λ t.
    content_at 0x89 t.1 gives λ f. last_content 0x8a f.1 gives λ u. reference_in i.0 gives λ issuer.
    result_ok (read_template t.0) gives λ template. result_ok (read_date f.0) gives λ from.
    result_ok (read_date u) gives λ until.
    Some (record { certificate = c.0; issuer = issuer; template = template; from = from; until = until })

-- a certificate stands there, or nothing at all
abbrev pub settled_or_none : List ℕ → Option (Option Settled)
settled_or_none bytes = if is_empty bytes then Some None else option_map (λ s. Some s) (settled_in bytes)

abbrev pub register_in : List ℕ → Option Part
register_in body = content_at 0x80 body gives λ r. last_content 0x8b r.1 gives λ day.
    if length day == 6 then Some (parts.Register r.0 day) else None

abbrev pub issued_in : List ℕ → Option Part
issued_in body = content_at 0x80 body gives λ r. key_in r.1 gives λ k. settled_in k.1 gives λ s.
    Some (parts.Issued (record { request = r.0; key = k.0; settled = s }))

abbrev pub own_in : List ℕ → Option Part
own_in body = content_at 0x80 body gives λ r. key_in r.1 gives λ k. content_at 0x85 k.1 gives λ h.
    holder_in h.0 gives λ authority. settled_or_none h.1 gives λ s.
    Some (parts.Own (record { authority = authority; request = r.0; key = k.0; settled = s }))

abbrev pub ca_in : List ℕ → Option Part
ca_in body = key_in body gives λ k. settled_in k.1 gives λ s. Some (parts.Ca (record { key = k.0; settled = s }))

-- the part of this table that the bytes store
abbrev pub read_stored : Table → List ℕ → Option Part
read_stored tables.Register body = register_in body
read_stored tables.Issued body = issued_in body
read_stored tables.Own body = own_in body
read_stored tables.Ca body = ca_in body
