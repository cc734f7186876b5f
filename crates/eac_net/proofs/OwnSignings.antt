-- What an authority signed for a certificate of its own is in its row, or is lost or dropped.
use Rattle.std.proofs.Common.{◌≡◌, ℕ, List, [], ◌∷◌, ◌++◌, Some, None, Ok, Err, inl, inr, refl, sym, ap, ◌∙◌, subst, append-nil, ⊎_elim}
use Rattle.std.specs.Prelude.{Contains, IfSome, option_map}
use Rattle.std.specs.declared.option.Option.{Option}
use Rattle.std.specs.declared.result.Result.{Result}
use Rattle.std.proofs.lemmas.List.Elements.{All-append, All-cons, All-nil, Contains-append_left, Contains-append_right, Contains-append_cases, Contains-push}
use Rattle.signature_provider.specs.Provider.{Holds, Signed}
use Rattle.signature_provider.specs.declared.key.Key.{Key}
use Rattle.cvc_grammar.specs.declared.certificate.CertBody.{CertBody}
use Rattle.cvc_grammar.specs.Certificate.{body_text}
use Rattle.keeper.specs.declared.rows.Row.{Row}
use Rattle.issue_core.specs.Issuing.Signed.{Pair}
use Rattle.holder_core.specs.Readings.{cert_message, settled_of}
use Rattle.holder_core.specs.Signing.{SignsMore}
use Rattle.holder_core.specs.declared.fault.HolderFault.{HolderFault}
use Rattle.holder_core.specs.declared.fault.HolderFault.TheVariants as fault
use Rattle.holder_core.proofs.Bodies.{one_body}
use Rattle.cvca_desk.specs.OwnCertificate.{issuer_of, signing_key, own_body, own_row}
use Rattle.cvca_desk.specs.Signing.{own_pair, SignsNothing, SignsKept, MayLose, SignsLost, SignsOwn}
use Rattle.cvca_desk.specs.declared.due.Due.{Due}
use Rattle.eac_net.specs.Losing.{Losing, nothing_lost, Fate, IsKept as HasItsRow, IsLost, IsDropped, fate_of, Loses, IsOwnDue}
use Rattle.eac_net.specs.Tracing.{IsOwnKey, Stay, Traced, AllTraced}
use Rattle.eac_net.proofs.Stays.{all_traced_stay, unsigned_traced}

-- ---- a certificate in its row

message_is : (b : CertBody) → cert_message b ≡ body_text b
unfolding cert_message
message_is b = refl

here : (before : List Row) (row : Row) → Contains (before ++ row ∷ []) row
here before row = Contains-push before row

-- ---- pairs without a row

pub loses_none : (IsDue : Pair → Type 0) (fate : Fate) → Loses IsDue fate nothing_lost
loses_none IsDue HasItsRow = refl
loses_none IsDue IsLost = inl refl
loses_none IsDue IsDropped = inl refl

abbrev pub all_of : (lost dropped : List Pair) → Losing → List Pair
all_of lost dropped l = (lost ++ l.lost) ++ (dropped ++ l.dropped)

pub grows_old : (lost dropped : List Pair) (l : Losing) (x : Pair) → Contains (lost ++ dropped) x → Contains (all_of lost dropped l) x
grows_old lost dropped l x c = ⊎_elim
    (λ (h : Contains lost x). Contains-append_left (lost ++ l.lost) (dropped ++ l.dropped) x (Contains-append_left lost l.lost x h))
    (λ (h : Contains dropped x). Contains-append_right (lost ++ l.lost) (dropped ++ l.dropped) x (Contains-append_left dropped l.dropped x h))
    (Contains-append_cases lost dropped x c)

-- one pair more was signed
pub signed_more : (before after : List Row) (old now : List Pair) (pair : Pair) (signed : Signed × Signed) → SignsMore signed (pair ∷ []) → Stay before after → ((x : Pair) → Contains old x → Contains now x) → Traced after now pair →
    IfSome signed.0 (λ ps. AllTraced before old ps) → IfSome signed.1 (λ ps. AllTraced after now ps)
signed_more before after old now pair signed more stay grows new all =
    subst (λ (x : Signed). IfSome x (λ ps. AllTraced after now ps)) (sym more) (go signed.0 all)
  where
    go : (x : Signed) → IfSome x (λ ps. AllTraced before old ps) → IfSome (option_map (λ (was : List Pair). was ++ pair ∷ []) x) (λ ps. AllTraced after now ps)
    go None h = tt
    go (Some was) h = All-append (Traced after now) was (pair ∷ []) (all_traced_stay before after old now was stay grows h) (All-cons (Traced after now) pair [] new (All-nil (Traced after now)))

-- ---- one call

-- which pairs have no row, and that what was signed stays traced
pub record OwnLoss {A : Type 0} (refused : Option A) (due : Option Due) (held holds : Holds) (signed : Signed × Signed) (before after : List Row) (result : Result A HolderFault) : Type 0 where
  pub losing : Losing
  pub loses : Loses (IsOwnDue refused due held holds) (fate_of result) losing
  pub traced : (lost dropped : List Pair) → IfSome signed.0 (λ ps. AllTraced before (lost ++ dropped) ps) → IfSome signed.1 (λ ps. AllTraced after (all_of lost dropped losing) ps)

module _ {A : Type 0} (refused : Option A) (due : Option Due) (held holds : Holds) (signed : Signed × Signed) (desk : ℕ) (before after : List Row) (result : Result A HolderFault) (stay : Stay before after)
    -- the key that signs is that of an own row
    (signer : (d : Due) (key : Key) (bytes : List ℕ) → due ≡ Some d → after ≡ before ++ own_row desk d bytes key ∷ [] → IsOwnKey after desk (issuer_of d.reference d.by) (signing_key key d.by)) where
  kept_traced : (lost : List Pair) (k : SignsKept held holds signed desk due before after) → Traced after lost (own_pair k.d k.pair.key)
  kept_traced lost k cert bytes is text =
      let same : k.cert.body ≡ cert.body = one_body k.cert cert k.bytes bytes (cert_message (own_body k.d k.pair.key)) k.text is (message_is (own_body k.d k.pair.key) ∙ ap body_text (sym k.body)) text in
      let named : cert.body.authority ≡ issuer_of k.d.reference k.d.by = ap (λ (b : CertBody). b.authority) (sym same ∙ k.body) in
      inl (record {
        row = own_row desk k.d k.bytes k.pair.key;
        bytes = k.bytes;
        cert = k.cert;
        among = subst (λ (l : List Row). Contains l (own_row desk k.d k.bytes k.pair.key)) (sym k.rows) (here before (own_row desk k.d k.bytes k.pair.key));
        kept = record { settled = settled_of k.bytes (own_body k.d k.pair.key); bare = refl; settled_is = refl; bytes_are = refl };
        text = k.text;
        body_is = same;
        signer = subst (λ (r : List ℕ). IsOwnKey after desk r (signing_key k.pair.key k.d.by)) (sym named) (signer k.d k.pair.key k.bytes k.due_is k.rows);
      })

  quiet : signed.1 ≡ signed.0 → OwnLoss refused due held holds signed before after result
  quiet same = record {
    losing = nothing_lost;
    loses = loses_none (IsOwnDue refused due held holds) (fate_of result);
    traced = λ lost dropped h. subst (λ (l : List Pair). IfSome signed.1 (λ ps. AllTraced after l ps)) (λ j. (sym (append-nil lost) j) ++ (sym (append-nil dropped) j))
        (unsigned_traced before after (lost ++ dropped) signed.0 signed.1 stay same h);
  }

  nothing_signed : (r : Result A HolderFault) → SignsNothing held holds signed r → signed.1 ≡ signed.0
  nothing_signed (Ok a) h = h.1
  nothing_signed (Err f) h = h

  -- the pair has no row
  module _ (l : SignsLost refused None held holds signed due result) where
    abbrev pair : Pair
    pair = own_pair l.d l.pair.key

    is_due : IsOwnDue refused due held holds pair
    is_due = record { allowed = l.allowed; d = l.d; due_is = l.due_is; key = l.pair.key; made = l.pair.made; pair_is = refl }

    without : (losing : Losing) → Loses (IsOwnDue refused due held holds) (fate_of result) losing → ((lost dropped : List Pair) → Contains (all_of lost dropped losing) pair) → OwnLoss refused due held holds signed before after result
    without losing loses there = record {
      losing = losing;
      loses = loses;
      traced = λ lost dropped h. signed_more before after (lost ++ dropped) (all_of lost dropped losing) pair signed l.pair.more stay (grows_old lost dropped losing) (λ cert bytes is text. inr (there lost dropped)) h;
    }

    one : Contains (pair ∷ []) pair
    one = Contains-push [] pair

    by_result : (r : Result A HolderFault) → r ≡ result → MayLose None r → OwnLoss refused due held holds signed before after result
    by_result (Ok a) is may = absurd (cc)
    by_result (Err fault.KeeperFault) is may = without (record { lost = pair ∷ []; dropped = [] })
        (subst (λ (x : Result A HolderFault). Loses (IsOwnDue refused due held holds) (fate_of x) (record { lost = pair ∷ []; dropped = [] })) is (inr (pair, is_due, refl)))
        (λ lost dropped. Contains-append_left (lost ++ pair ∷ []) (dropped ++ []) pair (Contains-append_right lost (pair ∷ []) pair one))
    by_result (Err fault.NoMemory) is may = without (record { lost = []; dropped = pair ∷ [] })
        (subst (λ (x : Result A HolderFault). Loses (IsOwnDue refused due held holds) (fate_of x) (record { lost = []; dropped = pair ∷ [] })) is (inr (pair, is_due, refl)))
        (λ lost dropped. Contains-append_right (lost ++ []) (dropped ++ pair ∷ []) pair (Contains-append_right dropped (pair ∷ []) pair one))
    by_result (Err fault.ProviderFault) is may = absurd may
    by_result (Err (fault.NoKey reference)) is may = absurd may

    lost_loss : OwnLoss refused due held holds signed before after result
    lost_loss = by_result result refl l.may

  pub own_loss : SignsOwn refused None held holds signed desk due before after result → OwnLoss refused due held holds signed before after result
  own_loss (inl k) = record {
    losing = nothing_lost;
    loses = loses_none (IsOwnDue refused due held holds) (fate_of result);
    traced = λ lost dropped h. signed_more before after (lost ++ dropped) (all_of lost dropped nothing_lost) (own_pair k.d k.pair.key) signed k.pair.more stay (grows_old lost dropped nothing_lost) (kept_traced (all_of lost dropped nothing_lost) k) h;
  }
  own_loss (inr (same, inl nothing)) = quiet (nothing_signed result nothing)
  own_loss (inr (same, inr lost)) = lost_loss lost
