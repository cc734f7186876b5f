-- The newest own certificate that has a chain, one certificate more.
use Rattle.std.proofs.Common.{◌≡◌, ℕ, ◌+◌, ◌<◌, ◌≤◌, true, false, List, [], ◌∷◌, length, drop, slice_index_or, Option, Some, None, refl, sym, ap, ◌∙◌, subst, arith}
use Rattle.std.specs.List.{All, cons_option}
use Rattle.std.proofs.lemmas.Bool.{leb-true, leb-false}
use Rattle.std.proofs.lemmas.List.Elements.{All-nil, All-cons, All-append, All-weaker}
use Rattle.keeper.specs.declared.rows.Row.{Row}
use Rattle.keeper.specs.declared.rows.Settled.{Settled}
use Rattle.terminal_desk.specs.Chain.{own_certificate, own_certificates, Above, HasNone, IsDue, HasDue, chain_of}
use Rattle.terminal_desk.specs.Walks.{IsNewest, StandsUnder, is_as_new, risen}
use Rattle.terminal_desk.specs.declared.newest.Newest.{Newest}
use Rattle.terminal_desk.proofs.FirstRows.{drop_next}
use Rattle.terminal_desk.proofs.Rising.{above_is_risen}

module _ (cars : List (List ℕ)) (cas : List Row) where
  -- one in front that isn't newer, or has no chain
  pub one_before : (o : Settled) (own : List Settled) (row : Settled) (above : List Settled) → (row.from < o.from → HasNone cars cas o) → IsDue cars cas own row above → IsDue cars cas (o ∷ own) row above
  one_before o own row above none is = record {
    front = o ∷ is.front;
    back = is.back;
    split = ap (λ l. o ∷ l) is.split;
    climbs = is.climbs;
    earlier = All-cons (λ s. row.from < s.from → HasNone cars cas s) o is.front none is.earlier;
    later = is.later;
  }

  -- one in front that is newer than all that have a chain
  pub first_of_none : (o : Settled) (own above : List Settled) → Above cars cas o above → All (λ s. o.from ≤ s.from → HasNone cars cas s) own → IsDue cars cas (o ∷ own) o above
  first_of_none o own above climbs none = record {
    front = [];
    back = own;
    split = refl;
    climbs = climbs;
    earlier = All-nil (λ s. o.from < s.from → HasNone cars cas s);
    later = none;
  }

  pub none_later : (o : Settled) (own : List Settled) (row : Settled) (above : List Settled) → row.from < o.from → IsDue cars cas own row above → All (λ s. o.from ≤ s.from → HasNone cars cas s) own
  none_later o own row above less is =
      let P : Settled → Type 0 = λ s. o.from ≤ s.from → HasNone cars cas s in
      let front : All P is.front = All-weaker (λ s. row.from < s.from → HasNone cars cas s) P (λ s h late. h (omega arith)) is.front is.earlier in
      let here : P row = λ late. absurd (omega arith) in
      let back : All P is.back = All-weaker (λ s. row.from ≤ s.from → HasNone cars cas s) P (λ s h late. h (omega arith)) is.back is.later in
      subst (λ (l : List Settled). All P l) (sym is.split) (All-append P is.front (row ∷ is.back) front (All-cons P row is.back here back))

  pub not_newer : (o : Settled) (own : List Settled) (best : Option Newest) → is_as_new best o ≡ true → IsNewest cars cas own best → IsNewest cars cas (o ∷ own) best
  not_newer o own None old is = absurd (cc)
  not_newer o own (Some n) old is = (is.0, one_before o own n.own.now is.0 (λ less. absurd (let more = leb-true o.from n.own.now.from old in omega arith)) is.1, is.2)

  pub no_chain : (o : Settled) (own : List Settled) (best : Option Newest) → StandsUnder cars cas o None → IsNewest cars cas own best → IsNewest cars cas (o ∷ own) best
  no_chain o own None none is = All-cons (HasNone cars cas) o own none is
  no_chain o own (Some n) none is = (is.0, one_before o own n.own.now is.0 (λ less. none) is.1, is.2)

  newer_than : (o : Settled) (own : List Settled) (best : Option Newest) → is_as_new best o ≡ false → IsNewest cars cas own best → All (λ s. o.from ≤ s.from → HasNone cars cas s) own
  newer_than o own None new is = All-weaker (HasNone cars cas) (λ s. o.from ≤ s.from → HasNone cars cas s) (λ s h late. h) own is
  newer_than o own (Some n) new is = none_later o own n.own.now is.0 (let less = leb-false o.from n.own.now.from new in omega arith) is.1

  pub newer_one : (o : Settled) (steps : ℕ) (own : List Settled) (best : Option Newest) → is_as_new best o ≡ false → StandsUnder cars cas o (Some steps) → IsNewest cars cas own best → (above : List Settled) × IsDue cars cas (o ∷ own) o above × (length above ≡ steps)
  newer_one o steps own best new stands is = (stands.0, first_of_none o own stands.0 stands.1 (newer_than o own best new is), stands.2)

-- ---- along the rows

pub newest_more : (cars : List (List ℕ)) (cas own : List Row) (at : ℕ) (row : Row) (best : Option Newest) → at < length own → row ≡ slice_index_or own at row → IsNewest cars cas (cons_option (own_certificate row.part) (own_certificates (drop (at + 1) own))) best → IsNewest cars cas (own_certificates (drop at own)) best
newest_more cars cas own at row best within is newest = subst (λ (l : List Row). IsNewest cars cas (own_certificates l) best) (sym (drop_next own at row within is)) newest

-- ---- the chain of what is found

pub is_due : (cars : List (List ℕ)) (own cas : List Row) (n : Newest) (chain : List (List ℕ)) → IsNewest cars cas (own_certificates own) (Some n) → chain ≡ chain_of (risen cas n.steps n.own.now) n.own.now → HasDue cars own cas (Some chain)
is_due cars own cas n chain is e =
    let steps : risen cas n.steps n.own.now ≡ is.0 = ap (λ k. risen cas k n.own.now) (sym is.2) ∙ above_is_risen cars cas n.own.now is.0 is.1.climbs in
    record { row = n.own.now; above = is.0; due = is.1; chain_is = e ∙ ap (λ l. chain_of l n.own.now) steps }
