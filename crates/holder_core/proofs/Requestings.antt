-- A request over rows that may be told or not.
use Rattle.std.proofs.Common.{◌≡◌, ◌⊎◌, inl, inr, ℕ, ◌+◌, ◌<◌, ◌≤◌, List, [], ◌∷◌, ◌++◌, length, Option, Some, None, Bool, true, false, cond, refl, sym, ap, ◌∙◌, subst, arith}
use Rattle.std.specs.Prelude.{Result, Ok, Err, is_some, is_none, nat_le}
use Rattle.std.specs.List.{All}
use Rattle.std.proofs.lemmas.Bool.Decides.{nat_tests}
use Rattle.eac_base.specs.Telling.{Told}
use Rattle.eac_base.proofs.Tellings.{told_then, told_more}
use Rattle.signature_provider.specs.Provider.{Says, Holds, Signed}
use Rattle.signature_provider.specs.declared.key.Key.{Key}
use Rattle.keeper.specs.declared.rows.Row.{Row}
use Rattle.keeper.specs.declared.rows.Table.TheVariants as table
use Rattle.keeper.specs.Rows.{rows_of, row_at}
use Rattle.keeper.specs.Keeping.{IsDeskRow}
use Rattle.holder_core.specs.declared.fault.HolderFault.{HolderFault}
use Rattle.holder_core.specs.declared.fault.HolderFault.TheVariants as fault
use Rattle.holder_core.specs.declared.adding.Added.{Added}
use Rattle.holder_core.specs.declared.adding.Added.TheVariants as added
use Rattle.holder_core.specs.declared.composing.Composed.{Composed}
use Rattle.holder_core.specs.declared.made.Made.{Made}
use Rattle.holder_core.specs.declared.made.Made.TheVariants as answers
use Rattle.holder_core.specs.OwnRows.{own_rows, ca_rows}
use Rattle.holder_core.specs.Numbers.{most_keys, reference_after}
use Rattle.holder_core.specs.Signers.{Signer, missing_of}
use Rattle.holder_core.specs.Signing.{ProviderCause}
use Rattle.holder_core.specs.Adding.{AddsRow}
use Rattle.holder_core.specs.Requesting.{authority_in, outer_signer, request_refused, request_late, pending_row, IsRequestFor, IsRequested, WritesRequest, Requests, RequestSays, RequestAsked, SignsWhere, SignsBy, SignsAsked, MayBegin, IsBegun, IsUntouched, IsChosen, IsBroken, MissesChosen, added_answer, EnteredAs, Enters}

-- ---- the adding

entered_in : (row : Row) (reference bytes : List ℕ) (b a : List Row) (x : Added) → reference ≡ row.reference → AddsRow row b a (Ok x) → Enters row bytes b a (Ok (added_answer reference bytes x))
entered_in row reference bytes b a added.New e w = (e, refl, w.0.new, w.1)
entered_in row reference bytes b a (added.There kept) e w = (inl (ap is_some w.0), w.1)
entered_in row reference bytes b a added.Full e w = (inr (w.0, w.1), w.2)

pub told_entered : (o o' : Option (List Row)) (party : ℕ) (reference authority kept bytes : List ℕ) (key : Key) (row : Row) (x : Added) (answer : Made) → row ≡ pending_row party reference authority kept key → kept ≡ bytes → answer ≡ added_answer reference bytes x → Told o o' (λ b a. AddsRow row b a (Ok x)) → Told o o' (λ b a. Enters (pending_row party reference authority bytes key) bytes b a (Ok answer))
told_entered o o' party reference authority kept bytes key row x answer is same says w =
    told_more (λ b a. AddsRow row b a (Ok x)) (λ b a. Enters (pending_row party reference authority bytes key) bytes b a (Ok answer)) o o' w
    (λ b a y. subst (λ (t : Made). Enters (pending_row party reference authority bytes key) bytes b a (Ok t)) (sym says) (entered_in (pending_row party reference authority bytes key) reference bytes b a x refl (subst (λ (r : Row). AddsRow r b a (Ok x)) (is ∙ (λ i. pending_row party reference authority (same i) key)) y)))

says_in : (reference bytes : List ℕ) (x : Added) → EnteredAs reference bytes (added_answer reference bytes x)
says_in reference bytes added.New = inl refl
says_in reference bytes (added.There kept) = inr refl
says_in reference bytes added.Full = inr refl

pub entered_says : (reference bytes : List ℕ) (x : Added) (answer : Made) → answer ≡ added_answer reference bytes x → EnteredAs reference bytes answer
entered_says reference bytes x answer is = subst (λ (t : Made). EnteredAs reference bytes t) (sym is) (says_in reference bytes x)

-- ---- the lists

pub told_lists : (o o' o'' : Option (List Row)) (party : ℕ) (own cas : List Row) → Told o o' (λ b a. (a ≡ b) × (own ≡ rows_of table.Own party b)) → Told o' o'' (λ b a. (a ≡ b) × (cas ≡ rows_of table.Ca party b)) → Told o o'' (λ b a. (a ≡ b) × (own ≡ own_rows party b) × (cas ≡ ca_rows party b))
told_lists o o' o'' party own cas t w =
    told_then (λ b a. (a ≡ b) × (own ≡ rows_of table.Own party b)) (λ b a. (a ≡ b) × (cas ≡ rows_of table.Ca party b)) (λ b a. (a ≡ b) × (own ≡ own_rows party b) × (cas ≡ ca_rows party b)) o o' o'' t w
    (λ b m a p q. (q.0 ∙ p.0, p.1, q.1 ∙ ap (λ (x : List Row). ca_rows party x) p.0))

-- ---- what the lists decide

first_test : (b : Bool) (y : Option Made) → cond b (Some answers.Exhausted) y ≡ None → b ≡ false
first_test true y e = absurd (cc)
first_test false y e = refl

below : (n : ℕ) → nat_le most_keys n ≡ false → n < most_keys
below n e = grind (arith, nat_tests)

pub few_own : (own : List Row) (above : Option Signer) → request_refused own above ≡ None → length own < most_keys
few_own own above e = below (length own) (first_test (nat_le most_keys (length own)) (cond (is_none above) (Some answers.NoAuthority) None) e)

-- a refusal is no request
refused_by : (own cas : List Row) (holds : Holds) (b c : Bool) (answer : Made) → cond b (Some answers.Exhausted) (cond c (Some answers.NoAuthority) None) ≡ Some answer → (answer ≡ answers.Exhausted) ⊎ (answer ≡ answers.NoAuthority)
refused_by own cas holds true c answer e = inl (let same : answers.Exhausted ≡ answer = cc in sym same)
refused_by own cas holds false true answer e = inr (let same : answers.NoAuthority ≡ answer = cc in sym same)
refused_by own cas holds false false answer e = absurd (cc)

module _ (says : Says) (held holds : Holds) (signed : Signed × Signed) (party : ℕ) (holder authority root : List ℕ) (home : Option Signer) where
  -- ---- over rows

  abbrev Call : Result Made HolderFault → List Row → List Row → Type 0
  Call result b a = Requests says held holds signed party holder authority root home b a result

  abbrev Listed : List Row → List Row → List Row → List Row → Type 0
  Listed own cas b a = (a ≡ b) × (own ≡ own_rows party b) × (cas ≡ ca_rows party b)

  refused_in : (own cas : List Row) (answer : Made) (b a : List Row) → request_refused own (authority_in authority root cas) ≡ Some answer → Listed own cas b a → Call (Ok answer) b a
  refused_in own cas answer b a e l = inl (inl ((λ i. request_refused (sym l.1 i) (authority_in authority root (sym l.2 i))) ∙ e), l.0)

  pub told_refused : (o o' : Option (List Row)) (own cas : List Row) (answer : Made) → request_refused own (authority_in authority root cas) ≡ Some answer → Told o o' (Listed own cas) → Told o o' (Call (Ok answer))
  told_refused o o' own cas answer e t = told_more (Listed own cas) (Call (Ok answer)) o o' t (λ b a l. refused_in own cas answer b a e l)

  failed_in : (own cas : List Row) (f : HolderFault) (p : ℕ × ℕ) (b a : List Row) → ProviderCause (MissesChosen held authority root home own cas) f p.0 p.1 → Listed own cas b a → Call (Err f) b a
  failed_in own cas fault.ProviderFault p b a e l = l.0
  failed_in own cas fault.NoMemory p b a e l = l.0
  failed_in own cas fault.KeeperFault p b a e l = absurd e
  failed_in own cas (fault.NoKey r) p b a e l = ((λ i. request_refused (sym l.1 i) (authority_in authority root (sym l.2 i))) ∙ e.0, (λ i. missing_of held (outer_signer authority home (sym l.1 i))) ∙ e.1, l.0)

  pub told_failed : (o o' : Option (List Row)) (own cas : List Row) (f : HolderFault) (p : ℕ × ℕ) → ProviderCause (MissesChosen held authority root home own cas) f p.0 p.1 → Told o o' (Listed own cas) → Told o o' (Call (Err f))
  told_failed o o' own cas f p e t = told_more (Listed own cas) (Call (Err f)) o o' t (λ b a l. failed_in own cas f p b a e l)

  module _ (b : List Row) (reference : List ℕ) (composed : Composed) (chosen : IsChosen says held holds signed holder authority root home (own_rows party b) (ca_rows party b) reference composed) where
    abbrev pub next : List ℕ
    next = reference_after holder (own_rows party b)

    requested : IsRequested says held holds signed party holder authority root home (own_rows party b) (ca_rows party b) composed.bytes composed.key
    requested = record {
      above = chosen.above;
      above_is = chosen.above_is;
      request = subst (λ (x : List ℕ). IsRequestFor says held holds signed x chosen.above.reference chosen.above.key (outer_signer authority home (own_rows party b)) composed.bytes composed.key) chosen.reference_is chosen.composed_is.request;
    }

    none_late : row_at table.Own party next b ≡ None → request_late (is_some (row_at table.Own party next b)) ≡ None
    none_late e = ap (λ (x : Option Row). request_late (is_some x)) e

    some_late : is_some (row_at table.Own party next b) ≡ true → request_late (is_some (row_at table.Own party next b)) ≡ Some answers.Exhausted
    some_late e = ap request_late e

    entered : (a : List Row) (result : Result Made HolderFault) → Enters (pending_row party next authority composed.bytes composed.key) composed.bytes b a result → Call result b a
    entered a (Ok (answers.Request r bs)) w = inr (record { due = chosen.due; new = none_late w.2; written = record { bytes = composed.bytes; key = composed.key; made = requested; answer_is = λ i. answers.Request (w.0 i) (w.1 i); rows = w.3 } })
    entered a (Ok answers.Exhausted) (inl w, same) = inl (inr (record { due = chosen.due; there = some_late w }), same)
    entered a (Ok answers.Exhausted) (inr w, same) = absurd (omega (arith, few_own (own_rows party b) (authority_in authority root (ca_rows party b)) chosen.due, w.1))
    entered a (Ok answers.NoAuthority) w = absurd w
    entered a (Err fault.KeeperFault) (inl w) = inl w
    entered a (Err fault.KeeperFault) (inr w) = inr (answers.Request next composed.bytes, record { due = chosen.due; new = none_late w.0; written = record { bytes = composed.bytes; key = composed.key; made = requested; answer_is = refl; rows = w.1 } })
    entered a (Err fault.NoMemory) w = w
    entered a (Err fault.ProviderFault) w = absurd w
    entered a (Err (fault.NoKey r)) w = absurd w

    pub requested_in : (a : List Row) (result : Result Made HolderFault) → Enters (pending_row party reference authority composed.bytes composed.key) composed.bytes b a result → Call result b a
    requested_in a result w = entered a result (subst (λ (x : List ℕ). Enters (pending_row party x authority composed.bytes composed.key) composed.bytes b a result) chosen.reference_is w)

  pub told_requested : (o o' o'' : Option (List Row)) (own cas : List Row) (reference : List ℕ) (composed : Composed) (result : Result Made HolderFault) → IsChosen says held holds signed holder authority root home own cas reference composed → Told o o' (Listed own cas) → Told o' o'' (λ b a. Enters (pending_row party reference authority composed.bytes composed.key) composed.bytes b a result) → Told o o'' (Call result)
  told_requested o o' o'' own cas reference composed result chosen t w =
      told_then (Listed own cas) (λ b a. Enters (pending_row party reference authority composed.bytes composed.key) composed.bytes b a result) (Call result) o o' o'' t w
      (λ b m a l q. requested_in b reference composed (subst (λ (x : List Row). IsChosen says held holds signed holder authority root home (own_rows party b) x reference composed) l.2 (subst (λ (x : List Row). IsChosen says held holds signed holder authority root home x cas reference composed) l.1 chosen)) a result
      (subst (λ (x : List Row). Enters (pending_row party reference authority composed.bytes composed.key) composed.bytes x a result) l.0 q))

  -- ---- for every keeper

  module _ (own cas : List Row) (own_asked : All (IsDeskRow table.Own party) own) (cas_asked : All (IsDeskRow table.Ca party) cas) where
    abbrev Asked : Made → Type 0
    Asked answer = RequestAsked says held holds signed party holder authority root home answer

    by_answer : (answer : Made) → RequestSays says held holds signed party holder authority root home own cas answer → Asked answer
    by_answer answer h = record { own = own; own_asked = own_asked; cas = cas; cas_asked = cas_asked; says_so = h }

    pub refused_asked : (answer : Made) → request_refused own (authority_in authority root cas) ≡ Some answer → IsUntouched held holds signed → Asked answer
    refused_asked answer e still =
        elim (refused_by own cas holds (nat_le most_keys (length own)) (is_none (authority_in authority root cas)) answer e) [
          | inl x ↦ subst (λ (t : Made). Asked t) (sym x) (by_answer answers.Exhausted (inl (e ∙ ap Some x, still)))
          | inr x ↦ subst (λ (t : Made). Asked t) (sym x) (by_answer answers.NoAuthority (e ∙ ap Some x, still))
        ]

    was_requested : (reference : List ℕ) (composed : Composed) → IsChosen says held holds signed holder authority root home own cas reference composed → IsRequested says held holds signed party holder authority root home own cas composed.bytes composed.key
    was_requested reference composed chosen = record {
      above = chosen.above;
      above_is = chosen.above_is;
      request = subst (λ (x : List ℕ). IsRequestFor says held holds signed x chosen.above.reference chosen.above.key (outer_signer authority home own) composed.bytes composed.key) chosen.reference_is chosen.composed_is.request;
    }

    pub requested_asked : (reference : List ℕ) (composed : Composed) (answer : Made) → IsChosen says held holds signed holder authority root home own cas reference composed → EnteredAs reference composed.bytes answer → Asked answer
    requested_asked reference composed answer chosen (inl e) =
        subst (λ (t : Made). Asked t) (sym e) (by_answer (answers.Request reference composed.bytes) (chosen.due, chosen.reference_is, composed.key, was_requested reference composed chosen))
    requested_asked reference composed answer chosen (inr e) =
        subst (λ (t : Made). Asked t) (sym e) (by_answer answers.Exhausted (inr (chosen.due, composed.bytes, composed.key, was_requested reference composed chosen)))

    -- ---- what was signed

    abbrev Signs : Type 0
    Signs = SignsBy says held holds signed party holder authority root home own cas

    by_refusal : (answer : Made) (r : Option Made) (above : Option Signer) → r ≡ Some answer → IsUntouched held holds signed → SignsWhere says held holds signed party holder authority root home r above own
    by_refusal answer (Some x) above e still = still
    by_refusal answer None above e still = absurd (cc)

    pub refused_signs : (answer : Made) → request_refused own (authority_in authority root cas) ≡ Some answer → IsUntouched held holds signed → Signs
    refused_signs answer e still = by_refusal answer (request_refused own (authority_in authority root cas)) (authority_in authority root cas) e still

    by_above : (s : Signer) (r : Option Made) (above : Option Signer) → r ≡ None → above ≡ Some s → MayBegin says held holds signed (reference_after holder own) s.reference s.key (outer_signer authority home own) → SignsWhere says held holds signed party holder authority root home r above own
    by_above s (Some x) above e f begun = absurd (cc)
    by_above s None None e f begun = absurd (cc)
    by_above s None (Some t) e f begun = let same : s ≡ t = cc in subst (λ (u : Signer). MayBegin says held holds signed (reference_after holder own) u.reference u.key (outer_signer authority home own)) same begun

    pub broken_signs : IsBroken says held holds signed holder authority root home own cas → Signs
    broken_signs b = by_above b.above (request_refused own (authority_in authority root cas)) (authority_in authority root cas) b.due b.above_is b.begun

    pub chosen_signs : (reference : List ℕ) (composed : Composed) → IsChosen says held holds signed holder authority root home own cas reference composed → Signs
    unfolding was_requested
    chosen_signs reference composed chosen =
        let r = (was_requested reference composed chosen).request in
        by_above chosen.above (request_refused own (authority_in authority root cas)) (authority_in authority root cas) chosen.due chosen.above_is (inr (record {
          request = r.request;
          key = composed.key;
          made = r.made;
          body = r.body;
          inner = r.inner;
          pairs = inr (r.signs, r.pairs);
        }))

    pub signs_asked : Signs → SignsAsked says held holds signed party holder authority root home
    signs_asked h = record { own = own; own_asked = own_asked; cas = cas; cas_asked = cas_asked; signs = h }

  -- what was signed by the lists was signed by the rows that they are of
  signs_in : (own cas : List Row) (b a : List Row) → SignsBy says held holds signed party holder authority root home own cas → Listed own cas b a → SignsBy says held holds signed party holder authority root home (own_rows party b) (ca_rows party b)
  signs_in own cas b a h l =
      subst (λ (x : List Row). SignsBy says held holds signed party holder authority root home (own_rows party b) x) l.2
      (subst (λ (x : List Row). SignsBy says held holds signed party holder authority root home x cas) l.1 h)

  abbrev SignsRows : List Row → List Row → Type 0
  SignsRows b a = SignsBy says held holds signed party holder authority root home (own_rows party b) (ca_rows party b)

  pub told_signs : (o o' : Option (List Row)) (own cas : List Row) → SignsBy says held holds signed party holder authority root home own cas → Told o o' (Listed own cas) → Told o o' SignsRows
  told_signs o o' own cas h t = told_more (Listed own cas) SignsRows o o' t (λ b a l. signs_in own cas b a h l)

  -- and so after the adding
  pub told_signs_then : (o o' o'' : Option (List Row)) (own cas : List Row) (E : List Row → List Row → Type 0) → SignsBy says held holds signed party holder authority root home own cas → Told o o' (Listed own cas) → Told o' o'' E → Told o o'' SignsRows
  told_signs_then o o' o'' own cas E h t e = told_then (Listed own cas) E SignsRows o o' o'' t e (λ b m a l w. signs_in own cas b m h l)

  -- the provider wasn't asked
  by_seen : (own : List Row) (b c : Bool) (above : Option Signer) → c ≡ is_none above → IsUntouched held holds signed → SignsWhere says held holds signed party holder authority root home (cond b (Some answers.Exhausted) (cond c (Some answers.NoAuthority) None)) above own
  by_seen own true c above e still = still
  by_seen own false true above e still = still
  by_seen own false false None e still = absurd (cc)
  by_seen own false false (Some s) e still = inl still.signed_is

  pub untouched_signs : (own cas : List Row) → IsUntouched held holds signed → SignsBy says held holds signed party holder authority root home own cas
  untouched_signs own cas still = by_seen own (nat_le most_keys (length own)) (is_none (authority_in authority root cas)) (authority_in authority root cas) refl still

  pub told_untouched : (o o' : Option (List Row)) (T : List Row → List Row → Type 0) → IsUntouched held holds signed → Told o o' T → Told o o' SignsRows
  told_untouched o o' T still t = told_more T SignsRows o o' t (λ b a w. untouched_signs (own_rows party b) (ca_rows party b) still)
