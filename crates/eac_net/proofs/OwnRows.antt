-- An authority's own certificate is added: it can be read again, its key is held and its signature good.
use Rattle.std.proofs.Common.{◌≡◌, ℕ, List, [], ◌∷◌, ◌++◌, Bool, true, Some, Ok, sym, ap, ◌∙◌, subst, append-nil}
use Rattle.std.specs.Prelude.{IfSome, Result}
use Rattle.std.specs.declared.option.Option.{Option}
use Rattle.std.specs.List.{All}
use Rattle.std.proofs.lemmas.List.Elements.{All-nil, All-cons}
use Rattle.signature_provider.specs.Provider.{PublicKey, Says, Holds, SaysMore, HoldsMore, public_key}
use Rattle.signature_provider.specs.declared.key.Key.{Key}
use Rattle.cvc_grammar.specs.declared.certificate.Cert.{Cert}
use Rattle.cvc_grammar.specs.declared.certificate.CertBody.{CertBody}
use Rattle.cvc_grammar.specs.declared.refusal.CvcRefusal.{CvcRefusal}
use Rattle.policy_limits.specs.Setup.{SetupValue, is_authority}
use Rattle.keeper.specs.declared.rows.Row.{Row}
use Rattle.keeper.specs.declared.rows.OwnPart.{OwnPart}
use Rattle.issue_core.specs.Issuing.Rows.{IsSettled, AreReadable, settled_of as settled_by}
use Rattle.issue_core.specs.Issuing.Readings.{cert_of as issued_cert_of}
use Rattle.holder_core.specs.Readings.{cert_of, cert_message, settled_of}
use Rattle.holder_core.specs.OwnRows.{own_part}
use Rattle.cvca_desk.specs.OwnCertificate.{issuer_of, signing_key, own_body, own_row, IsOwnCertificate}
use Rattle.cvca_desk.specs.declared.due.Due.{Due}
use Rattle.eac_net.specs.Lawful.{AreLawful}
use Rattle.eac_net.specs.Made.{key_at, key_named, made_cert, made_own, all_made, IsGood, AreGood}
use Rattle.eac_net.specs.Parties.{is_party_of}
use Rattle.eac_net.proofs.Going.{KeepsRows, held_more, good_more}
use Rattle.eac_net.proofs.Grows.{readable_append, held_append, good_append, AddsGood}
use Rattle.eac_net.proofs.Stays.{more_stay}

-- ---- reading

issued_read : (bytes : List ℕ) (r : Result Cert CvcRefusal) → cert_of bytes ≡ r → issued_cert_of bytes ≡ r
unfolding issued_cert_of cert_of
issued_read bytes r e = e

-- what is settled by it can be read again
pub settled_again : (bytes : List ℕ) (b : CertBody) (cert : Cert) → cert_of bytes ≡ Ok cert → cert.body ≡ b → IsSettled (settled_of bytes b)
settled_again bytes b cert read is = record {
  cert = cert;
  read = issued_read bytes (Ok cert) read;
  fields = λ j. settled_by bytes (sym is j);
}

-- ---- one certificate

module _ (setup : SetupValue) (said says : Says) (held holds : Holds) (says_more : SaysMore said says) (holds_more : HoldsMore held holds) (desk : ℕ)
    (authority : is_party_of is_authority setup desk ≡ true) (before : List Row) (d : Due) (key : Key) (bytes : List ℕ) (c : IsOwnCertificate says held holds d key bytes) where
  abbrev row : Row
  row = own_row desk d bytes key

  abbrev own : OwnPart
  own = record { authority = d.terms.holder; request = []; key = key; settled = Some (settled_of bytes (own_body d key)) }

  pub own_readable : AreReadable before → AreReadable (before ++ row ∷ [])
  own_readable r = readable_append before (row ∷ []) r (settled_again bytes (own_body d key) c.cert c.read c.body, tt)

  abbrev IsHeld : Holds → Row → Type 0
  IsHeld holding r = IfSome (own_part r.part) (λ (o : OwnPart). holding (public_key o.key) ≡ true)

  own_held : All (IsHeld held) before → All (IsHeld holds) (before ++ row ∷ [])
  own_held h = held_append holds before (row ∷ []) (held_more held holds before holds_more h) (All-cons (IsHeld holds) row [] c.made.now_held (All-nil (IsHeld holds)))

  -- the key that signed is that of the row which the certificate names
  module _ (lawful : AreLawful setup before → AreLawful setup (before ++ row ∷ [])) (there : key_at (before ++ row ∷ []) desk (issuer_of d.reference d.by) ≡ Some (signing_key key d.by)) where
    abbrev at : ℕ → List ℕ → Option PublicKey
    at = key_at (before ++ row ∷ [])

    abbrev named : List ℕ → Option PublicKey
    named = key_named setup (before ++ row ∷ [])

    abbrev of : ℕ → Bool
    of = is_party_of is_authority setup

    one_good : IsGood says (record { key = at desk c.cert.body.authority; message = cert_message c.cert.body; signature = c.cert.signature })
    one_good = record {
      key = signing_key key d.by;
      there = ap (λ (b : CertBody). at desk b.authority) c.body ∙ there;
      good = ap (λ (b : CertBody). says (signing_key key d.by) (cert_message b) c.cert.signature) c.body ∙ c.good;
    }

    cert_good : AreGood says (made_cert at named of desk (Ok c.cert))
    cert_good = All-cons (IsGood says) (record { key = at desk c.cert.body.authority; message = cert_message c.cert.body; signature = c.cert.signature }) [] one_good (All-nil (IsGood says))

    adds_good : AddsGood setup says before (row ∷ [])
    adds_good =
        subst (λ (b : Bool). AreGood says (made_own at named of desk b own ++ [])) (sym authority)
        (subst (λ (r : Result Cert CvcRefusal). AreGood says (made_cert at named of desk r ++ [])) (sym c.read)
        (subst (AreGood says) (sym (append-nil (made_cert at named of desk (Ok c.cert)))) cert_good))

    pub own_keeps : KeepsRows setup said says held holds before (before ++ row ∷ [])
    own_keeps = record {
      lawful = lawful;
      keys = λ l h. own_held h;
      good = λ l g. good_append setup says before (row ∷ []) (good_more said says (all_made setup before) says_more g) adds_good;
      stay = more_stay before (row ∷ []);
    }
