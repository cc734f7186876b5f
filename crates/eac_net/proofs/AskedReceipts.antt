-- What is asked of certificates that come is about their signatures.
use Rattle.std.proofs.Common.{◌≡◌, ℕ, Bool, true, false, List, [], ◌∷◌, Some, None, Ok, Err, refl, sym, subst}
use Rattle.std.specs.declared.option.Option.{Option}
use Rattle.std.specs.declared.result.Result.{Result}
use Rattle.std.specs.List.{All}
use Rattle.std.proofs.lemmas.List.Elements.{All-nil, All-cons, All-append, All-weaker, All-map}
use Rattle.signature_provider.specs.Provider.{Says, public_key}
use Rattle.cvc_grammar.specs.declared.certificate.Cert.{Cert}
use Rattle.cvc_grammar.specs.declared.refusal.CvcRefusal.{CvcRefusal}
use Rattle.keeper.specs.declared.rows.Row.{Row}
use Rattle.keeper.specs.declared.rows.CaPart.{CaPart}
use Rattle.holder_core.specs.OwnRows.{ca_at}
use Rattle.holder_core.specs.Readings.{cert_of, cert_message}
use Rattle.holder_core.specs.Receiving.{Question, Receives, cert_questions, questions_for, questions_of, is_mine}
use Rattle.holder_core.specs.TakingCa.{country_only}
use Rattle.holder_core.specs.declared.fault.HolderFault.{HolderFault}
use Rattle.holder_core.specs.declared.received.Item.{Item}
use Rattle.eac_net.specs.Questions.{IsAbout}
use Rattle.eac_net.specs.Verdicts.{Verdict, said_of, verdicts_on}
use Rattle.eac_net.proofs.SigningRows.{there, here}

about_more : (bytes : List ℕ) (more : List (List ℕ)) (q : Question) → IsAbout more q → IsAbout (bytes ∷ more) q
about_more bytes more q h = record { bytes = h.bytes; cert = h.cert; among = there bytes more h.bytes h.among; read = h.read; message = h.message; signature = h.signature }

-- ---- one certificate

module _ (party : ℕ) (rows : List Row) (bytes : List ℕ) (more : List (List ℕ)) where
  cert_about : (c : Cert) → cert_of bytes ≡ Ok c → (issuer : Option CaPart) → All (IsAbout (bytes ∷ more)) (cert_questions c issuer)
  cert_about c read None = All-nil (IsAbout (bytes ∷ more))
  cert_about c read (Some issuer) = All-cons (IsAbout (bytes ∷ more)) (record { key = public_key issuer.key; message = cert_message c.body; signature = c.signature }) []
      (record { bytes = bytes; cert = c; among = here bytes more; read = read; message = refl; signature = refl }) (All-nil (IsAbout (bytes ∷ more)))

  read_about : (r : Result Cert CvcRefusal) → cert_of bytes ≡ r → (mine : Bool) → All (IsAbout (bytes ∷ more)) (questions_for party rows r mine)
  read_about (Ok c) read true = cert_about c read (ca_at party c.body.authority rows)
  read_about (Ok c) read false = cert_about c read (country_only (ca_at party c.body.authority rows))
  read_about (Err e) read mine = All-nil (IsAbout (bytes ∷ more))

  one_about : All (IsAbout (bytes ∷ more)) (questions_of party bytes rows)
  one_about = read_about (cert_of bytes) refl (is_mine party bytes rows)

-- ---- certificates, one after another

pub received_about : (said : Says) (party : ℕ) (certificates : List (List ℕ)) (before after : List Row) (items : List Item) (f : Option HolderFault) (asked : List Question) →
    Receives said party certificates before after items f asked → All (IsAbout certificates) asked
received_about said party [] before after [] None asked w = subst (All (IsAbout [])) (sym w.1) (All-nil (IsAbout []))
received_about said party (bytes ∷ more) before after (i ∷ items) f asked w =
    subst (All (IsAbout (bytes ∷ more))) (sym w.4)
    (All-append (IsAbout (bytes ∷ more)) (questions_of party bytes before) w.1 (one_about party before bytes more)
    (All-weaker (IsAbout more) (IsAbout (bytes ∷ more)) (about_more bytes more) w.1 (received_about said party more w.0 after items f w.1 w.3)))
received_about said party (bytes ∷ more) before after [] (Some x) asked w = subst (All (IsAbout (bytes ∷ more))) (sym w.1) (one_about party before bytes more)
received_about said party [] before after [] (Some x) asked w = absurd w
received_about said party [] before after (i ∷ items) f asked w = absurd w
received_about said party (bytes ∷ more) before after [] None asked w = absurd w

pub verdicts_about : (said : Says) (certificates : List (List ℕ)) (questions : List Question) → All (IsAbout certificates) questions → All (λ (v : Verdict). IsAbout certificates v.question) (verdicts_on said questions)
verdicts_about said certificates questions all =
    All-map (λ (v : Verdict). IsAbout certificates v.question) (λ (q : Question). record { question = q; yes = said_of said q }) questions all
