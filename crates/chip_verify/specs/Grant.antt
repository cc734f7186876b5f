-- What a session grants, by the certificates that were accepted (BSI TR-03110-3, effective authorization).
use Rattle.std.specs.Prelude.{◌≡◌, ◌⊎◌, ◌↔◌, ℕ, List, [], ◌∷◌, Bool, bit_and, Some, None}
use Rattle.std.specs.declared.option.Option.{Option}
use Rattle.chat_rights.specs.Rights.{Grants}
use Rattle.cvc_grammar.specs.declared.certificate.CertBody.{CertBody}
use Rattle.chip_verify.specs.declared.trust_point.TrustPoint.{TrustPoint}
use Rattle.chip_verify.specs.declared.session.Verified.{Verified}
use Rattle.chip_verify.specs.Trust.{Trust}
use Rattle.chip_verify.specs.Session.{SessionValue}
use Rattle.chip_verify.specs.Refusals.{Sort, Link, OfVerifier, OfTerminal, sort_of, Issuer, Point}
use Rattle.chip_verify.specs.Step.{Step, NoStep}

-- ---- a set of rights

-- The rights of three sets that stand in all of them.
abbrev pub StandInAll : ℕ → ℕ → ℕ → ℕ → Type 0
StandInAll rights first second third = (bit : ℕ) → Grants rights bit ↔ (Grants first bit × Grants second bit × Grants third bit)

-- The rights that stand in the templates of the point, of the verifier's certificate and of the terminal's.
abbrev pub IsGrant : TrustPoint → CertBody → CertBody → ℕ → Type 0
IsGrant p v w rights = StandInAll rights p.template.rights v.template.rights w.template.rights

-- The same as a number.
abbrev pub grant : TrustPoint → CertBody → CertBody → ℕ
grant p v w = bit_and w.template.rights (bit_and v.template.rights p.template.rights)

-- The rights are those of the session's terminal, its verifier and that verifier's root.
abbrev pub GrantsOf : Option Verified → Option ℕ → ℕ → Type 0
GrantsOf (Some v) (Some terminal) rights = StandInAll rights v.root v.template.rights terminal
GrantsOf (Some v) None rights = ⊥
GrantsOf None terminal rights = ⊥

-- ---- any certificates

-- An accepted certificate, with its issuer.
pub record Accepted : Type 0 where
  pub body : CertBody
  pub issuer : Issuer

-- Certificates, each with the provider's verdict: those that are accepted move the chip and are told, the newest first;
-- any other changes nothing.
abbrev pub Leads : Trust → SessionValue → List (CertBody × Bool) → List Accepted → Trust → SessionValue → List Accepted → Type 0
Leads t s [] told t' s' told' = (t' ≡ t) × (s' ≡ s) × (told' ≡ told)
Leads t s (c ∷ cs) told t' s' told' =
    ((mid : Trust) × (next : SessionValue) × (st : Step t s c.0 c.1 mid next) × Leads mid next cs (record { body = c.0; issuer = st.issuer } ∷ told) t' s' told')
    ⊎ (NoStep t s c.0 c.1 × Leads t s cs told t' s' told')

abbrev pub verifier_at : Sort → Accepted → Type 0 → TrustPoint → CertBody → Type 0
verifier_at OfVerifier a below p v = (a.body ≡ v) × (a.issuer ≡ Point p)
verifier_at OfTerminal a below p v = below
verifier_at Link a below p v = ⊥

-- The accepted ones end with this verifier under this point, and terminals after it.
abbrev pub HasVerifier : List Accepted → TrustPoint → CertBody → Type 0
HasVerifier [] p v = ⊥
HasVerifier (a ∷ told) p v = verifier_at (sort_of a.body.template.role) a (HasVerifier told p v) p v

-- They end with this verifier, and one or more terminals, of which this is the last.
abbrev pub EndsWith : List Accepted → TrustPoint → CertBody → CertBody → Type 0
EndsWith [] p v w = ⊥
EndsWith (a ∷ told) p v w = (sort_of a.body.template.role ≡ OfTerminal) × (a.body ≡ w) × HasVerifier told p v

-- The chain that a session stands for grants these rights.
pub record Granting (told : List Accepted) (rights : ℕ) : Type 0 where
  pub point : TrustPoint
  pub verifier : CertBody
  pub terminal : CertBody
  pub ends : EndsWith told point verifier terminal
  pub number : rights ≡ grant point verifier terminal
  pub bits : IsGrant point verifier terminal rights
