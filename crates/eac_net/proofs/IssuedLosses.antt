-- What a delivery to a desk signed is in the row that it added, or is lost or dropped.
use Rattle.std.proofs.Common.{◌≡◌, ℕ, List, [], ◌∷◌, ◌++◌, Some, None, Ok, Err, inl, inr, refl, sym, ap, ◌∙◌, subst, append-nil, ◌⊎◌}
use Rattle.std.specs.Prelude.{Contains, IfSome}
use Rattle.std.specs.declared.option.Option.{Option}
use Rattle.std.specs.declared.result.Result.{Result}
use Rattle.std.proofs.lemmas.List.Elements.{Contains-append_left, Contains-append_right, Contains-push}
use Rattle.signature_provider.specs.Provider.{PublicKey, Signed, public_key}
use Rattle.cvc_grammar.specs.declared.request.Request.{Request}
use Rattle.cvc_grammar.specs.declared.certificate.Cert.{Cert}
use Rattle.cvc_grammar.specs.declared.certificate.CertBody.{CertBody}
use Rattle.cvc_grammar.specs.declared.refusal.CvcRefusal.{CvcRefusal}
use Rattle.cvc_grammar.specs.Certificate.{body_text}
use Rattle.keeper.specs.declared.rows.Row.{Row}
use Rattle.keeper.specs.declared.rows.Part.TheVariants as part
use Rattle.keeper.specs.declared.rows.Table.TheVariants as table
use Rattle.keeper.specs.Rows.{rows_of}
use Rattle.ledger.specs.Ledger.{Outcome, Issued, Kept, Refused, Faulted, NoMemory}
use Rattle.issue_core.specs.declared.rule.Rule.{Rule}
use Rattle.issue_core.specs.declared.issuing.signer_row.Signer.{Signer}
use Rattle.issue_core.specs.Issuing.Calls.{signer_in}
use Rattle.issue_core.specs.Issuing.Desk.{Fault, KeeperFailed, ProviderFailed, KeyMissing}
use Rattle.issue_core.specs.Issuing.Readings.{request_of, cert_message}
use Rattle.issue_core.specs.Issuing.Rows.{left_row, row_for, settled_of}
use Rattle.issue_core.specs.Issuing.Rules.{Case}
use Rattle.issue_core.specs.Issuing.Signed.{Pair, IsDuePair, SignsLeft, SignsLost, SignsDue, SignsServed, MayLose}
use Rattle.issue_core.proofs.IssuingDesk.Messages.{read_again}
use Rattle.holder_core.proofs.Bodies.{one_body}
use Rattle.eac_net.specs.Delivering.{fate_by}
use Rattle.eac_net.specs.Losing.{Losing, Loses, nothing_lost}
use Rattle.eac_net.specs.Tracing.{IsOwnKey, Stay, Traced, AllTraced}
use Rattle.eac_net.proofs.Finding.{none_some}
use Rattle.eac_net.proofs.OwnSignings.{all_of, loses_none, grows_old, signed_more}
use Rattle.eac_net.proofs.SigningRows.{own_key}
use Rattle.eac_net.proofs.Stays.{own_stays, more_stay, unsigned_traced}

message_is : (b : CertBody) → cert_message b ≡ body_text b
unfolding cert_message
message_is b = refl

-- which pairs have no row, and that what was signed stays traced
pub record IssueLoss (c : Case) (o : Outcome (List ℕ) Rule Fault) (signed : Signed × Signed) (before after : List Row) : Type 0 where
  pub losing : Losing
  pub loses : Loses (IsDuePair c before) (fate_by o) losing
  pub traced : (lost dropped : List Pair) → IfSome signed.0 (λ ps. AllTraced before (lost ++ dropped) ps) → IfSome signed.1 (λ ps. AllTraced after (all_of lost dropped losing) ps)

abbrev added_row : (desk : ℕ) (bytes certificate : List ℕ) → Request → Cert → Row
added_row desk bytes certificate r cert = record { desk = desk; reference = r.body.holder; part = part.Issued (record { request = bytes; key = r.body.key; settled = settled_of certificate cert.body }) }

-- a row that signs is there only for a request that can be read
read_of : (c : Case) (read : Result Request CvcRefusal) (s : Signer) → signer_in c read ≡ Some s → (r : Request) × (read ≡ Ok r)
read_of c (Ok r) s e = (r, refl)
read_of c (Err e) s is = absurd (none_some s is)

module _ (c : Case) (o : Outcome (List ℕ) Rule Fault) (signed : Signed × Signed) (before : List Row) (own : c.own ≡ rows_of table.Own c.desk before) where
  -- ---- a certificate was left

  module _ (p : List ℕ) (h : SignsLeft c before p signed) where
    abbrev after : List Row
    after = before ++ left_row c.desk c.bytes (Some p)

    left_traced : (lost : List Pair) → Traced after lost h.pair
    left_traced lost cert bytes is text =
        let read = read_of c (request_of c.bytes) h.is_due.signer h.is_due.signer_is in
        let row : Row = added_row c.desk c.bytes p read.0 h.cert in
        let added : left_row c.desk c.bytes (Some p) ≡ row ∷ [] = λ i. row_for c.desk c.bytes p (read.1 i) (read_again h.cert p h.text i) in
        let spelled : h.pair.1 ≡ body_text h.cert.body = h.is_due.message ∙ message_is h.is_due.body ∙ ap body_text (sym h.body_is) in
        let same : h.cert.body ≡ cert.body = one_body h.cert cert p bytes h.pair.1 h.text is spelled text in
        let key : IsOwnKey before c.desk h.is_due.signer.reference (public_key h.is_due.signer.key) = own_key c before (request_of c.bytes) h.is_due.signer own h.is_due.signer_is in
        let named : h.is_due.signer.reference ≡ cert.body.authority = sym h.is_due.named ∙ ap (λ (b : CertBody). b.authority) (sym h.body_is ∙ same) in
        let signer : IsOwnKey before c.desk cert.body.authority h.pair.0 =
        subst (λ (x : List ℕ × PublicKey). IsOwnKey before c.desk x.0 x.1) (λ i. (named i, sym h.is_due.key i)) key in
        inl (record {
          row = row;
          bytes = p;
          cert = h.cert;
          among = subst (λ (l : List Row). Contains (before ++ l) row) (sym added) (Contains-push before row);
          kept = refl;
          text = h.text;
          body_is = same;
          signer = own_stays before after c.desk cert.body.authority h.pair.0 (more_stay before (left_row c.desk c.bytes (Some p))) signer;
        })

    left_loss : IssueLoss c o signed before after
    left_loss = record {
      losing = nothing_lost;
      loses = loses_none (IsDuePair c before) (fate_by o);
      traced = λ lost dropped all. signed_more before after (lost ++ dropped) (all_of lost dropped nothing_lost) h.pair signed h.more (more_stay before (left_row c.desk c.bytes (Some p))) (grows_old lost dropped nothing_lost)
          (left_traced (all_of lost dropped nothing_lost)) all;
    }

  -- ---- none was left

  abbrev still : List Row
  still = before ++ left_row c.desk c.bytes None

  stays : Stay before still
  stays = more_stay before []

  quiet : signed.1 ≡ signed.0 → IssueLoss c o signed before still
  quiet same = record {
    losing = nothing_lost;
    loses = loses_none (IsDuePair c before) (fate_by o);
    traced = λ lost dropped all. subst (λ (l : List Pair). IfSome signed.1 (λ ps. AllTraced still l ps)) (λ j. (sym (append-nil lost) j) ++ (sym (append-nil dropped) j))
        (unsigned_traced before still (lost ++ dropped) signed.0 signed.1 stays same all);
  }

  module _ (l : SignsLost c before o signed) where
    without : (losing : Losing) → Loses (IsDuePair c before) (fate_by o) losing → ((lost dropped : List Pair) → Contains (all_of lost dropped losing) l.pair) → IssueLoss c o signed before still
    without losing loses there = record {
      losing = losing;
      loses = loses;
      traced = λ lost dropped all. signed_more before still (lost ++ dropped) (all_of lost dropped losing) l.pair signed l.more stays (grows_old lost dropped losing) (λ cert bytes is text. inr (there lost dropped)) all;
    }

    one : Contains (l.pair ∷ []) l.pair
    one = Contains-push [] l.pair

    by_outcome : (out : Outcome (List ℕ) Rule Fault) → out ≡ o → MayLose out → IssueLoss c o signed before still
    by_outcome (Issued p) is may = absurd may
    by_outcome (Kept p) is may = absurd may
    by_outcome (Refused k) is may = absurd may
    by_outcome (Faulted KeeperFailed) is may = without (record { lost = l.pair ∷ []; dropped = [] })
        (subst (λ (x : Outcome (List ℕ) Rule Fault). Loses (IsDuePair c before) (fate_by x) (record { lost = l.pair ∷ []; dropped = [] })) is (inr (l.pair, l.is_due, refl)))
        (λ lost dropped. Contains-append_left (lost ++ l.pair ∷ []) (dropped ++ []) l.pair (Contains-append_right lost (l.pair ∷ []) l.pair one))
    by_outcome (Faulted ProviderFailed) is may = absurd may
    by_outcome (Faulted (KeyMissing reference)) is may = absurd may
    by_outcome NoMemory is may = without (record { lost = []; dropped = l.pair ∷ [] })
        (subst (λ (x : Outcome (List ℕ) Rule Fault). Loses (IsDuePair c before) (fate_by x) (record { lost = []; dropped = l.pair ∷ [] })) is (inr (l.pair, l.is_due, refl)))
        (λ lost dropped. Contains-append_right (lost ++ []) (dropped ++ l.pair ∷ []) l.pair (Contains-append_right dropped (l.pair ∷ []) l.pair one))

    lost_loss : IssueLoss c o signed before still
    lost_loss = by_outcome o refl l.may

  none_loss : (signed.1 ≡ signed.0) ⊎ SignsLost c before o signed → IssueLoss c o signed before still
  none_loss (inl same) = quiet same
  none_loss (inr l) = lost_loss l

  by_left : (left : Option (List ℕ)) → SignsDue c before left o signed → IssueLoss c o signed before (before ++ left_row c.desk c.bytes left)
  by_left (Some p) h = left_loss p h
  by_left None h = none_loss h

  pub issue_loss : (rows : List Row) → SignsServed c o signed before rows → IssueLoss c o signed before rows
  issue_loss rows s = subst (IssueLoss c o signed before) (sym s.rows) (by_left s.left s.pairs)
