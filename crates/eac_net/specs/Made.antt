-- The signatures that events made and that stand in rows (this project's own).
use Rattle.std.specs.Prelude.{◌≡◌, ℕ, List, [], ◌∷◌, ◌++◌, Option, Some, None, Result, Ok, Err, Bool, true, false, option_map}
use Rattle.std.specs.List.{All}
use Rattle.signature_provider.specs.Provider.{PublicKey, Says, public_key}
use Rattle.cvc_grammar.specs.declared.certificate.Cert.{Cert}
use Rattle.cvc_grammar.specs.declared.request.Request.{Request}
use Rattle.cvc_grammar.specs.declared.request.Outer.{Outer}
use Rattle.cvc_grammar.specs.declared.refusal.CvcRefusal.{CvcRefusal}
use Rattle.policy_limits.specs.Setup.{SetupValue, is_authority}
use Rattle.keeper.specs.declared.rows.Row.{Row}
use Rattle.keeper.specs.declared.rows.OwnPart.{OwnPart}
use Rattle.keeper.specs.declared.rows.Settled.{Settled}
use Rattle.keeper.specs.declared.rows.Part.{Part}
use Rattle.keeper.specs.declared.rows.Part.TheVariants as part
use Rattle.keeper.specs.declared.rows.Table.TheVariants as table
use Rattle.keeper.specs.Rows.{row_at}
use Rattle.holder_core.specs.OwnRows.{own_in}
use Rattle.holder_core.specs.Readings.{request_of, cert_of, cert_message, inner_message, outer_message}
use Rattle.holder_core.specs.Receiving.{Question}
use Rattle.eac_net.specs.Parties.{is_party_of, own_named}
use Rattle.eac_net.specs.Verdicts.{Verdict}

-- A signature, and the key that made it: that of the own row which its text names, where the row is there.
pub record Made : Type 0 where
  pub key : Option PublicKey
  pub message : List ℕ
  pub signature : List ℕ

-- ---- the own rows that texts name

abbrev pub key_in : Option Row → Option PublicKey
key_in found = option_map (λ (own : OwnPart). public_key own.key) (own_in found)

-- a certificate names an own row of the desk that signed it
abbrev pub key_at : List Row → ℕ → List ℕ → Option PublicKey
key_at rows desk reference = key_in (row_at table.Own desk reference rows)

-- an outer signature names one of the party whose holder the reference has: the holder's own, or its home authority's
abbrev pub key_named : SetupValue → List Row → List ℕ → Option PublicKey
key_named setup rows reference = key_in (own_named setup rows reference)

-- ---- by row, with the keys that certificates and outer signatures name, and the desks that are authorities

module _ (at : ℕ → List ℕ → Option PublicKey) (named : List ℕ → Option PublicKey) (is_authority_at : ℕ → Bool) where
  abbrev pub made_cert : ℕ → Result Cert CvcRefusal → List Made
  made_cert desk (Ok c) = record { key = at desk c.body.authority; message = cert_message c.body; signature = c.signature } ∷ []
  made_cert desk (Err e) = []

  abbrev pub made_outer : Request → Option Outer → List Made
  made_outer r (Some o) = record { key = named o.reference; message = outer_message r o.reference; signature = o.signature } ∷ []
  made_outer r None = []

  abbrev pub made_request : Result Request CvcRefusal → List Made
  made_request (Ok r) = record { key = Some (public_key r.body.key); message = inner_message r; signature = r.inner } ∷ made_outer r r.outer
  made_request (Err e) = []

  abbrev pub made_settled : ℕ → Option Settled → List Made
  made_settled desk (Some s) = made_cert desk (cert_of s.certificate)
  made_settled desk None = []

  -- an authority signed the certificate of an own row, any other party its request
  abbrev pub made_own : ℕ → Bool → OwnPart → List Made
  made_own desk true own = made_settled desk own.settled
  made_own desk false own = made_request (request_of own.request)

  abbrev pub made_part : ℕ → Part → List Made
  made_part desk (part.Issued p) = made_cert desk (cert_of p.settled.certificate)
  made_part desk (part.Own own) = made_own desk (is_authority_at desk) own
  made_part desk (part.Ca p) = []
  made_part desk (part.Register request day) = []

  abbrev pub made_in : List Row → List Made
  made_in [] = []
  made_in (row ∷ rows) = made_part row.desk row.part ++ made_in rows

-- all that stand in rows
abbrev pub all_made : SetupValue → List Row → List Made
all_made setup rows = made_in (key_at rows) (key_named setup rows) (is_party_of is_authority setup) rows

-- its row is there, and the provider says it
pub record IsGood (says : Says) (m : Made) : Type 0 where
  pub key : PublicKey
  pub there : m.key ≡ Some key
  pub good : says key m.message m.signature ≡ true

abbrev pub AreGood : Says → List Made → Type 0
AreGood says made = All (IsGood says) made

-- ---- no made signature got a no

abbrev pub IsNot : Question → Made → Type 0
IsNot q m = m.key ≡ Some q.key → m.message ≡ q.message → m.signature ≡ q.signature → ⊥

abbrev pub IfRefused : List Made → Question → Bool → Type 0
IfRefused made q true = Unit {0}
IfRefused made q false = All (IsNot q) made

abbrev pub NoneRefused : List Made → List Verdict → Type 0
NoneRefused made verdicts = All (λ v. IfRefused made v.question v.yes) verdicts
