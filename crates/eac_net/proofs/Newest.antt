-- The newest of some certificates, one certificate more.
use Rattle.std.proofs.Common.{◌≡◌, ◌≤◌, ◌<◌, ◌+◌, Bool, true, false, ℕ, List, [], ◌∷◌, ◌++◌, take, get_or, length, Some, None, refl, sym, ap, ◌∙◌, subst, append_assoc, arith}
use Rattle.std.specs.Prelude.{nat_lt, if◌then◌else◌, option_to_list}
use Rattle.std.specs.declared.option.Option.{Option}
use Rattle.std.specs.List.{All, cons_option}
use Rattle.std.proofs.lemmas.Bool.{ltb-true, ltb-false}
use Rattle.std.proofs.lemmas.List.{take_more}
use Rattle.std.proofs.lemmas.List.Elements.{All-nil, All-cons, All-append, All-weaker, filter_map-append}
use Rattle.eac_base.specs.Telling.{Told}
use Rattle.eac_base.proofs.Tellings.{told_more}
use Rattle.keeper.specs.Keeping.{IsDeskRow}
use Rattle.keeper.specs.Rows.{rows_of}
use Rattle.keeper.specs.declared.keeping.Keeper.{Ghosts as KeeperOf}
use Rattle.keeper.specs.declared.rows.Row.{Row}
use Rattle.keeper.specs.declared.rows.Settled.{Settled}
use Rattle.keeper.specs.declared.rows.Table.TheVariants as table
use Rattle.terminal_desk.specs.Chain.{own_certificates}
use Rattle.eac_net.specs.ChipCalls.{HandsOver}
use Rattle.eac_net.specs.Handed.{Handed, RootOf, Certs, IsNewest, NewestIn, IsRoot, RootIn, certificate_of, newer, AreAsked, IsHandedBy}

first_one : (next : Settled) → IsNewest (next ∷ []) next
first_one next = record {
  front = [];
  back = [];
  split = refl;
  earlier = All-nil (λ (o : Settled). o.from ≤ next.from);
  later = All-nil (λ (o : Settled). o.from < next.from);
}

module _ (front : List Settled) (s next : Settled) (is : IsNewest front s) where
  still_newest : next.from < s.from → IsNewest (front ++ next ∷ []) s
  still_newest less = record {
    front = is.front;
    back = is.back ++ next ∷ [];
    split = ap (λ (l : List Settled). l ++ next ∷ []) is.split ∙ append_assoc is.front (s ∷ is.back) (next ∷ []);
    earlier = is.earlier;
    later = All-append (λ (o : Settled). o.from < s.from) is.back (next ∷ []) is.later (All-cons (λ (o : Settled). o.from < s.from) next [] less (All-nil (λ (o : Settled). o.from < s.from)));
  }

  now_newest : s.from ≤ next.from → IsNewest (front ++ next ∷ []) next
  now_newest most =
      let P : Settled → Type 0 = λ o. o.from ≤ next.from in
      let before : All P is.front = All-weaker (λ (o : Settled). o.from ≤ s.from) P (λ o h. omega (arith, h, most)) is.front is.earlier in
      let after : All P is.back = All-weaker (λ (o : Settled). o.from < s.from) P (λ o h. omega (arith, h, most)) is.back is.later in
      record {
        front = front;
        back = [];
        split = refl;
        earlier = subst (λ (l : List Settled). All P l) (sym is.split) (All-append P is.front (s ∷ is.back) before (All-cons P s is.back most after));
        later = All-nil (λ (o : Settled). o.from < next.from);
      }

  by_dates : (b : Bool) → nat_lt next.from s.from ≡ b → IsNewest (front ++ next ∷ []) (if b then s else next)
  by_dates true is_less = still_newest (ltb-true next.from s.from is_less)
  by_dates false is_less = now_newest (ltb-false next.from s.from is_less)

pub newest_more : (front : List Settled) (best : Option Settled) (next : Settled) → NewestIn front best → NewestIn (front ++ next ∷ []) (Some (newer best next))
newest_more front None next none = subst (λ (l : List Settled). IsNewest (l ++ next ∷ []) next) (sym none) (first_one next)
newest_more front (Some s) next is = by_dates front s next is (nat_lt next.from s.from) refl

-- ---- along the rows

one_of : (o : Option Settled) → cons_option o [] ≡ option_to_list o
one_of None = refl
one_of (Some s) = refl

pub certificates_more : (own : List Row) (at : ℕ) (row : Row) → at < length own → row ≡ get_or own at row → own_certificates (take (at + 1) own) ≡ own_certificates (take at own) ++ option_to_list (certificate_of row)
certificates_more own at row within is =
    ap own_certificates (take_more own at row within ∙ ap (λ (r : Row). take at own ++ r ∷ []) (sym is)) ∙ filter_map-append certificate_of (take at own) (row ∷ []) ∙ ap (λ (l : List Settled). own_certificates (take at own) ++ l) (one_of (certificate_of row))

-- ---- what is handed with it

module _ {B : Type 0} (K : KeeperOf B) (k k' : B) (authority : ℕ) (rows : List Row) (told : Told (K.rows k) (K.rows k') (λ before after. (after ≡ before) × (rows ≡ rows_of table.Own authority before)))
    (asked : All (IsDeskRow table.Own authority) rows) (same : K.faults k' ≡ K.faults k) where
  told_so : (handed : Handed) → ((before : List Row) → rows ≡ rows_of table.Own authority before → IsHandedBy before handed) → Told (K.rows k) (K.rows k') (λ before after. (after ≡ before) × IsHandedBy before handed)
  told_so handed by = told_more (λ (before after : List Row). (after ≡ before) × (rows ≡ rows_of table.Own authority before)) (λ (before after : List Row). (after ≡ before) × IsHandedBy before handed) (K.rows k) (K.rows k') told (λ before after both. (both.0, by before both.1))

  as_asked : (certs : Option (List (List ℕ))) → RootIn rows certs → AreAsked (RootOf authority) certs
  as_asked certs is = record { own = rows; cas = []; own_asked = asked; cas_asked = All-nil (IsDeskRow table.Ca authority); by = is }

  pub founded : (newest : Settled) (root : List ℕ) → IsNewest (own_certificates rows) newest → root ≡ newest.certificate → HandsOver K k k' (Certs (RootOf authority) (root ∷ []))
  founded newest root is e =
      let found : IsRoot rows (root ∷ []) = record { newest = newest; is_newest = is; alone = ap (λ (c : List ℕ). c ∷ []) e } in
      record {
        told = told_so (Certs (RootOf authority) (root ∷ [])) (λ before own. subst (λ (l : List Row). IsRoot l (root ∷ [])) own found);
        from = (same, as_asked (Some (root ∷ [])) found);
      }
