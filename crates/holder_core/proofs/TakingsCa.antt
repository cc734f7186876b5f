-- A certificate of an authority: the answer by what was seen, over rows that may be told or not.
use Rattle.std.proofs.Common.{◌≡◌, inl, inr, ℕ, List, [], ◌∷◌, ◌++◌, length, Option, Some, None, Bool, true, false, cond, refl, sym, ap, ◌∙◌, subst}
use Rattle.std.specs.Prelude.{Result, Ok, Err, IfOk, IfSome, nat_eq, not, ◌&&◌, find}
use Rattle.std.specs.Str.{bytes_eq}
use Rattle.eac_base.specs.Telling.{Told}
use Rattle.eac_base.proofs.Tellings.{told_then, told_more, told_same}
use Rattle.signature_provider.specs.Provider.{Says}
use Rattle.signature_provider.specs.Key.{is_elliptic, has_domain}
use Rattle.signature_provider.specs.declared.key.Key.{Key}
use Rattle.cvc_grammar.specs.declared.certificate.Cert.{Cert}
use Rattle.cvc_grammar.specs.declared.certificate.CertBody.{CertBody}
use Rattle.cvc_grammar.specs.declared.certificate.CertView.{CertView}
use Rattle.cvc_grammar.specs.declared.refusal.CvcRefusal.{CvcRefusal}
use Rattle.cvc_grammar.specs.Views.{seen_cert}
use Rattle.keeper.specs.declared.rows.Row.{Row}
use Rattle.keeper.specs.declared.rows.CaPart.{CaPart}
use Rattle.keeper.specs.declared.rows.Table.TheVariants as table
use Rattle.keeper.specs.declared.rows.Part.{Part}
use Rattle.keeper.specs.declared.rows.Part.TheVariants as part
use Rattle.keeper.specs.Rows.{table_of, same_table, has_key, row_at, IsStorableKey}
use Rattle.keeper.specs.Keeping.{MayAdd}
use Rattle.holder_core.specs.Readings.{cert_of}
use Rattle.holder_core.specs.declared.fault.HolderFault.{HolderFault}
use Rattle.holder_core.specs.declared.fault.HolderFault.TheVariants as fault
use Rattle.holder_core.specs.declared.adding.Added.{Added}
use Rattle.holder_core.specs.declared.adding.Added.TheVariants as added
use Rattle.holder_core.specs.declared.ca_rule.TakenCa.{TakenCa}
use Rattle.holder_core.specs.declared.ca_rule.TakenCa.TheVariants as taken
use Rattle.holder_core.specs.declared.ca_rule.CaRule.TheVariants as rule
use Rattle.holder_core.specs.declared.taking_ca.SeenCa.{SeenCa}
use Rattle.holder_core.specs.declared.taking_ca.JudgedCa.{JudgedCa}
use Rattle.holder_core.specs.declared.taking_ca.JudgedCa.TheVariants as judged
use Rattle.holder_core.specs.OwnRows.{ca_rows, ca_part, ca_in, ca_at}
use Rattle.holder_core.specs.Adding.{AddsRow, AddedAsked}
use Rattle.holder_core.specs.Taking.{IsRead, cert_said}
use Rattle.holder_core.specs.Trusting.{is_full, unwritten}
use Rattle.holder_core.specs.TakingCa.{has_wrong_key, whole_key, is_held_as, is_country, is_terminal, country_only, room_answer, issued_answer, take_ca_seen, take_ca_in, ca_row, rows_below, taken_rows, TakesCaRead, TakesCa, TakeCaCause, TookCaAsked, again_answer, added_answer, IsAddedAs, TookCaBy, IsSeen, IsSeenAsked, Judges, AddsBelow}
use Rattle.holder_core.proofs.Sizes.{key_storable}
use Rattle.holder_core.proofs.Trustings.{has_room, no_room}

-- ---- what is kept of a key

whole_by : (b : Bool) (key issuer : Key) → IsStorableKey key → IsStorableKey issuer → IsStorableKey (cond b (record { algorithm = key.algorithm; domain = issuer.domain; point = key.point; cofactor = issuer.cofactor }) key)
whole_by true key issuer k i = record { algorithm = k.algorithm; domain = i.domain; point = k.point; cofactor = i.cofactor }
whole_by false key issuer k i = k

pub whole_storable : (v : CertView) (issuer key : Key) → IsRead v → IsStorableKey issuer → key ≡ whole_key (seen_cert v).body.key issuer → IsStorableKey key
whole_storable v issuer key is stored same =
    let own = (seen_cert v).body.key in
    subst (λ (k : Key). IsStorableKey k) (sym same) (whole_by (is_elliptic own.algorithm && not (has_domain own)) own issuer (key_storable own is.cert.limits.key) stored)

-- an authority that may be an issuer is the one that was seen
country_is : (ca : CaPart) (b : Bool) (found : CaPart) → cond b (Some ca) None ≡ Some found → ca ≡ found
country_is ca true found e = cc
country_is ca false found e = absurd (cc)

pub issuer_storable : (seen : Option CaPart) (found : CaPart) → IfSome seen (λ ca. IsStorableKey ca.key) → country_only seen ≡ Some found → IsStorableKey found.key
issuer_storable None found stored e = absurd (cc)
issuer_storable (Some ca) found stored e = subst (λ (x : CaPart). IsStorableKey x.key) (country_is ca (is_country ca.settled.template.role) found e) stored

-- ---- a row under the reference

find_next : {A : Type 0} (p : A → Bool) (x : A) (rest : Option A) (b : Bool) → p x ≡ b → IfSome rest (λ y. p y ≡ true) → IfSome (cond b (Some x) rest) (λ y. p y ≡ true)
find_next p x rest true e h = e
find_next p x rest false e h = h

find_passes : {A : Type 0} (p : A → Bool) (xs : List A) → IfSome (find p xs) (λ y. p y ≡ true)
find_passes p [] = tt
find_passes p (x ∷ xs) = find_next p x (find p xs) (p x) refl (find_passes p xs)

no_other_part : (p : Part) (x y : Bool) → ca_part p ≡ None → (same_table (table_of p) table.Ca && x) && y ≡ true → ⊥
no_other_part (part.Ca q) x y e h = absurd (cc)
no_other_part (part.Register r d) x y e h = absurd (cc)
no_other_part (part.Issued q) x y e h = absurd (cc)
no_other_part (part.Own q) x y e h = absurd (cc)

none_there : (party : ℕ) (reference : List ℕ) (found : Option Row) → IfSome found (λ row. has_key table.Ca party reference row ≡ true) → ca_in found ≡ None → found ≡ None
none_there party reference None h e = refl
none_there party reference (Some row) h e = absurd (no_other_part row.part (nat_eq row.desk party) (bytes_eq row.reference reference) e h)

no_row : (party : ℕ) (reference : List ℕ) (rows : List Row) → ca_at party reference rows ≡ None → row_at table.Ca party reference rows ≡ None
no_row party reference rows e = none_there party reference (row_at table.Ca party reference rows) (find_passes (has_key table.Ca party reference) rows) e

-- ---- where it is due to store, but for room

abbrev answer_by : Bool → Bool → Bool → Bool → TakenCa → (reference : List ℕ) → TakenCa
answer_by h t w s room reference = cond h (taken.Held reference) (cond t (taken.Refused rule.Role) (cond w (taken.Refused rule.Parameters) (cond s room (taken.Refused rule.Signature))))

record Passes (h t w s : Bool) (there : Option CaPart) (reference : List ℕ) : Type 0 where
  none : there ≡ None
  room : (full : Bool) → answer_by h t w s (room_answer full reference there) reference ≡ cond full (taken.Refused rule.Full) (taken.Stored reference)

passes : (h t w s : Bool) (there : Option CaPart) (reference : List ℕ) → answer_by h t w s (room_answer false reference there) reference ≡ taken.Stored reference → Passes h t w s there reference
passes true t w s there reference e = absurd (cc)
passes false true w s there reference e = absurd (cc)
passes false false true s there reference e = absurd (cc)
passes false false false false there reference e = absurd (cc)
passes false false false true (Some ca) reference e = absurd (cc)
passes false false false true None reference e = record { none = refl; room = λ full. refl }

-- ---- the answer without a write: it doesn't ask for room

same_room : (h t w s : Bool) (there : Option CaPart) (reference : List ℕ) (answer : TakenCa) (full : Bool) → unwritten (answer_by h t w s (room_answer false reference there) reference) ≡ Some answer → answer_by h t w s (room_answer full reference there) reference ≡ answer_by h t w s (room_answer false reference there) reference
same_room true t w s there reference answer full e = refl
same_room false true w s there reference answer full e = refl
same_room false false true s there reference answer full e = refl
same_room false false false false there reference answer full e = refl
same_room false false false true (Some ca) reference answer full e = refl
same_room false false false true None reference answer full e = absurd (cc)

abbrev tested : Bool → Bool → TakenCa → (reference : List ℕ) → TakenCa
tested h t issued reference = cond h (taken.Held reference) (cond t (taken.Refused rule.Role) issued)

any_room : (said : Says) (c : Cert) (there issuer : Option CaPart) (h t : Bool) (answer : TakenCa) (full : Bool) → unwritten (tested h t (issued_answer said c false there issuer) c.body.holder) ≡ Some answer → tested h t (issued_answer said c full there issuer) c.body.holder ≡ tested h t (issued_answer said c false there issuer) c.body.holder
any_room said c there None h t answer full e = refl
any_room said c there (Some ca) h t answer full e = same_room h t (has_wrong_key c.body ca.key) (cert_said said c ca.key) there c.body.holder answer full e

module _ (said : Says) (party : ℕ) (bytes : List ℕ) (c : Cert) where
  answered_in : (rows : List Row) (seen : SeenCa) (answer : TakenCa) → IsSeen party c rows seen → unwritten (take_ca_seen said bytes c false seen.there seen.issuer) ≡ Some answer → TakesCaRead said party bytes (Ok c) rows rows (Ok answer)
  answered_in rows seen answer s e =
      let seen_is : take_ca_in said party bytes rows (Ok c) ≡ take_ca_seen said bytes c (is_full party rows) seen.there seen.issuer = λ i. take_ca_seen said bytes c (is_full party rows) (sym s.there i) (sym s.issuer i) in
      let room : take_ca_seen said bytes c (is_full party rows) seen.there seen.issuer ≡ take_ca_seen said bytes c false seen.there seen.issuer = any_room said c seen.there (country_only seen.issuer) (is_held_as bytes seen.there) (is_terminal c.body.template.role) answer (is_full party rows) e in
      inl (inl (ap unwritten (seen_is ∙ room) ∙ e), refl)

  pub told_answered : (o o' : Option (List Row)) (seen : SeenCa) (answer : TakenCa) → Told o o' (λ b a. (a ≡ b) × IsSeen party c b seen) → unwritten (take_ca_seen said bytes c false seen.there seen.issuer) ≡ Some answer → Told o o' (λ b a. TakesCaRead said party bytes (Ok c) b a (Ok answer))
  told_answered o o' seen answer t e =
      told_more (λ b a. (a ≡ b) × IsSeen party c b seen) (λ b a. TakesCaRead said party bytes (Ok c) b a (Ok answer)) o o' t
      (λ b a s. subst (λ (x : List Row). TakesCaRead said party bytes (Ok c) b x (Ok answer)) (sym s.0) (answered_in b seen answer s.1 e))

  -- what it is due to store is answered as the keeper says
  pub below_asked : (seen : SeenCa) (result : Result TakenCa HolderFault) → IsSeenAsked party c seen → take_ca_seen said bytes c false seen.there seen.issuer ≡ taken.Stored c.body.holder → IfOk result (IsAddedAs party bytes c.body.holder) → IfOk result (TookCaBy said party bytes c)
  below_asked seen (Ok answer) s e w = record { there = seen.there; there_asked = s.there; issuer = seen.issuer; issuer_asked = s.issuer; says = inr (e, w) }
  below_asked seen (Err f) s e w = tt

module _ (said : Says) (party : ℕ) (bytes : List ℕ) (c : Cert) (ca : CaPart) where
  by_issuer : (full : Bool) (there issuer : Option CaPart) → country_only issuer ≡ Some ca → take_ca_seen said bytes c full there issuer ≡ answer_by (is_held_as bytes there) (is_terminal c.body.template.role) (has_wrong_key c.body ca.key) (cert_said said c ca.key) (room_answer full c.body.holder there) c.body.holder
  by_issuer full there issuer e = λ i. cond (is_held_as bytes there) (taken.Held c.body.holder) (cond (is_terminal c.body.template.role) (taken.Refused rule.Role) (issued_answer said c full there (e i)))

  passed : (seen : SeenCa) → country_only seen.issuer ≡ Some ca → take_ca_seen said bytes c false seen.there seen.issuer ≡ taken.Stored c.body.holder → Passes (is_held_as bytes seen.there) (is_terminal c.body.template.role) (has_wrong_key c.body ca.key) (cert_said said c ca.key) seen.there c.body.holder
  passed seen f e = passes (is_held_as bytes seen.there) (is_terminal c.body.template.role) (has_wrong_key c.body ca.key) (cert_said said c ca.key) seen.there c.body.holder (sym (by_issuer false seen.there seen.issuer f) ∙ e)

  module _ (rows : List Row) (seen : SeenCa) (s : IsSeen party c rows seen) (f : country_only seen.issuer ≡ Some ca) (e : take_ca_seen said bytes c false seen.there seen.issuer ≡ taken.Stored c.body.holder) where
    due_is : take_ca_in said party bytes rows (Ok c) ≡ cond (is_full party rows) (taken.Refused rule.Full) (taken.Stored c.body.holder)
    due_is = (λ i. take_ca_seen said bytes c (is_full party rows) (sym s.there i) (sym s.issuer i)) ∙ by_issuer (is_full party rows) seen.there seen.issuer f ∙ (passed seen f e).room (is_full party rows)

    due_with : (b : Bool) → is_full party rows ≡ b → take_ca_in said party bytes rows (Ok c) ≡ cond b (taken.Refused rule.Full) (taken.Stored c.body.holder)
    due_with b q = due_is ∙ (λ i. cond (q i) (taken.Refused rule.Full) (taken.Stored c.body.holder))

    nothing_there : row_at table.Ca party c.body.holder rows ≡ None
    nothing_there = no_row party c.body.holder rows (sym s.there ∙ (passed seen f e).none)

    rows_are : rows ++ ca_row party bytes c.body ca ∷ [] ≡ taken_rows party bytes rows (Ok c)
    rows_are = λ i. rows_below party bytes c.body rows (((sym f) ∙ (λ j. country_only (s.issuer j))) i)

    stored_due : MayAdd rows (ca_row party bytes c.body ca) → take_ca_in said party bytes rows (Ok c) ≡ taken.Stored c.body.holder
    stored_due may = due_with false (has_room (length (ca_rows party rows)) may.room)

    below_in : (after : List Row) (result : Result TakenCa HolderFault) → AddsBelow party bytes c.body ca rows after result → TakesCaRead said party bytes (Ok c) rows after result
    below_in after (Ok (taken.Stored r)) w = inr (record { due = ap unwritten (stored_due w.1); new = refl; written = (ap taken.Stored w.0 ∙ sym (stored_due w.1), w.2 ∙ rows_are) })
    below_in after (Ok (taken.Held r)) w = absurd (w nothing_there)
    below_in after (Ok (taken.Refused k)) w = let x = w nothing_there in inl (inl (ap unwritten (due_with true x.1) ∙ (λ i. Some (taken.Refused (sym x.0 i)))), x.2)
    below_in after (Err fault.KeeperFault) (inl w) = inl w
    below_in after (Err fault.KeeperFault) (inr w) = inr (taken.Stored c.body.holder, record { due = ap unwritten (stored_due w.0); new = refl; written = (sym (stored_due w.0), w.1 ∙ rows_are) })
    below_in after (Err fault.NoMemory) w = w
    below_in after (Err fault.ProviderFault) w = absurd w
    below_in after (Err (fault.NoKey r)) w = absurd w

  pub told_below : (o o' o'' : Option (List Row)) (seen : SeenCa) (result : Result TakenCa HolderFault) → Told o o' (λ b a. (a ≡ b) × IsSeen party c b seen) → (take_ca_seen said bytes c false seen.there seen.issuer ≡ taken.Stored c.body.holder) × (country_only seen.issuer ≡ Some ca) → Told o' o'' (λ b a. AddsBelow party bytes c.body ca b a result) → Told o o'' (λ b a. TakesCaRead said party bytes (Ok c) b a result)
  told_below o o' o'' seen result t e w =
      told_then (λ b a. (a ≡ b) × IsSeen party c b seen) (λ b a. AddsBelow party bytes c.body ca b a result) (λ b a. TakesCaRead said party bytes (Ok c) b a result) o o' o'' t w
      (λ b m a s q. below_in b seen s.1 e.1 e.0 a result (subst (λ (x : List Row). AddsBelow party bytes c.body ca x a result) s.0 q))

-- ---- what the keeper says to the adding

module _ (party : ℕ) (bytes : List ℕ) (b : CertBody) (issuer : CaPart) where
  again_by : (before after : List Row) (same : Bool) (kept : List ℕ) → (row_at table.Ca party b.holder before ≡ None → ⊥) → AddsBelow party bytes b issuer before after (Ok (cond same (taken.Held b.holder) (taken.Refused (rule.Differs kept))))
  again_by before after true kept not = not
  again_by before after false kept not = λ none. absurd (not none)

  again_in : (before after : List Row) (kept : Option CaPart) → (row_at table.Ca party b.holder before ≡ None → ⊥) → AddsBelow party bytes b issuer before after (Ok (again_answer bytes b.holder kept))
  again_in before after None not = not
  again_in before after (Some ca) not = again_by before after (bytes_eq ca.settled.certificate bytes) ca.settled.certificate not

  is_there : {A : Type 0} (found : Option A) (kept : A) → found ≡ Some kept → found ≡ None → ⊥
  is_there found kept e n = absurd (cc)

  added_in : (before after : List Row) (x : Added) → AddsRow (ca_row party bytes b issuer) before after (Ok x) → AddsBelow party bytes b issuer before after (Ok (added_answer bytes b.holder x))
  added_in before after added.New w = (refl, w.0, w.1)
  added_in before after (added.There kept) w = again_in before after (ca_in (Some kept)) (is_there (row_at table.Ca party b.holder before) kept w.0)
  added_in before after added.Full w = λ none. (refl, no_room (length (ca_rows party before)) w.1, w.2)

  pub told_added : (o o' : Option (List Row)) (row : Row) (x : Added) (answer : TakenCa) → row ≡ ca_row party bytes b issuer → answer ≡ added_answer bytes b.holder x → Told o o' (λ before after. AddsRow row before after (Ok x)) → Told o o' (λ before after. AddsBelow party bytes b issuer before after (Ok answer))
  told_added o o' row x answer is says w =
      told_more (λ before after. AddsRow row before after (Ok x)) (λ before after. AddsBelow party bytes b issuer before after (Ok answer)) o o' w
      (λ before after y. subst (λ (t : TakenCa). AddsBelow party bytes b issuer before after (Ok t)) (sym says) (added_in before after x (subst (λ (r : Row). AddsRow r before after (Ok x)) is y)))

  says_in : (x : Added) → AddedAsked (ca_row party bytes b issuer) x → IsAddedAs party bytes b.holder (added_answer bytes b.holder x)
  says_in added.New w = inl refl
  says_in (added.There kept) w = inr (inr (record { kept = kept; asked = w; says = refl }))
  says_in added.Full w = inr (inl refl)

  pub added_says : (row : Row) (x : Added) (answer : TakenCa) → row ≡ ca_row party bytes b issuer → answer ≡ added_answer bytes b.holder x → AddedAsked row x → IsAddedAs party bytes b.holder answer
  added_says row x answer is says w = subst (λ (t : TakenCa). IsAddedAs party bytes b.holder t) (sym says) (says_in x (subst (λ (r : Row). AddedAsked r x) is w))

-- ---- what was read of the bytes

pub told_as_read : (said : Says) (party : ℕ) (bytes whole : List ℕ) (c : Result Cert CvcRefusal) (o o' : Option (List Row)) (result : Result TakenCa HolderFault) → cert_of bytes ≡ c → whole ≡ bytes → Told o o' (λ b a. TakesCaRead said party whole c b a result) → Told o o' (λ b a. TakesCa said party bytes b a result)
told_as_read said party bytes whole c o o' result read same t =
    told_more (λ b a. TakesCaRead said party whole c b a result) (λ b a. TakesCa said party bytes b a result) o o' t
    (λ b a w. subst (λ (x : Result Cert CvcRefusal). TakesCaRead said party bytes x b a result) (sym read) (subst (λ (x : List ℕ). TakesCaRead said party x c b a result) same w))

pub told_unread : (said : Says) (party : ℕ) (bytes : List ℕ) (e : CvcRefusal) (o : Option (List Row)) → Told o o (λ b a. TakesCaRead said party bytes (Err e) b a (Ok (taken.Refused (rule.Syntax e))))
told_unread said party bytes e o = told_same (λ b a. TakesCaRead said party bytes (Err e) b a (Ok (taken.Refused (rule.Syntax e)))) o (λ b. inl (inl refl, refl))

abbrev pub AskedAs : Says → ℕ → List ℕ → Result Cert CvcRefusal → Result TakenCa HolderFault → Type 0
AskedAs said party bytes c result = IfOk result (TakeCaCause said party bytes c)

pub asked_as_read : (said : Says) (party : ℕ) (bytes whole : List ℕ) (c : Result Cert CvcRefusal) (result : Result TakenCa HolderFault) → cert_of bytes ≡ c → whole ≡ bytes → AskedAs said party whole c result → IfOk result (TookCaAsked said party bytes)
asked_as_read said party bytes whole c result read same h =
    subst (λ (x : Result Cert CvcRefusal). AskedAs said party bytes x result) (sym read) (subst (λ (x : List ℕ). AskedAs said party x c result) same h)

pub asked_unread : (said : Says) (party : ℕ) (bytes : List ℕ) (e : CvcRefusal) → cert_of bytes ≡ Err e → TookCaAsked said party bytes (taken.Refused (rule.Syntax e))
asked_unread said party bytes e read = subst (λ (x : Result Cert CvcRefusal). TakeCaCause said party bytes x (taken.Refused (rule.Syntax e))) (sym read) refl

-- ---- what was judged

pub judged_answered : (said : Says) (bytes : List ℕ) (c : Cert) (there issuer : Option CaPart) (j : JudgedCa) (answer : TakenCa) → j ≡ judged.Answered answer → Judges said bytes c there issuer j → unwritten (take_ca_seen said bytes c false there issuer) ≡ Some answer
judged_answered said bytes c there issuer j answer e h = subst (λ (x : JudgedCa). Judges said bytes c there issuer x) e h

pub judged_below : (said : Says) (bytes : List ℕ) (c : Cert) (there issuer : Option CaPart) (j : JudgedCa) (ca : CaPart) → j ≡ judged.Below ca → Judges said bytes c there issuer j → (take_ca_seen said bytes c false there issuer ≡ taken.Stored c.body.holder) × (country_only issuer ≡ Some ca)
judged_below said bytes c there issuer j ca e h = subst (λ (x : JudgedCa). Judges said bytes c there issuer x) e h
