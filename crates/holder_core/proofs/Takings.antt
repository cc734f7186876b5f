-- A certificate for an own key: the answer by what was seen, over rows that may be told or not.
use Rattle.std.proofs.Common.{◌≡◌, inl, inr, ℕ, List, Option, Some, None, Bool, true, false, cond, refl, sym, ap, ◌∙◌, subst}
use Rattle.std.specs.Prelude.{Result, Ok, Err, IfOk, is_some, option_and_then}
use Rattle.std.specs.Str.{bytes_eq}
use Rattle.std.proofs.lemmas.Bool.{false≢true}
use Rattle.eac_base.specs.Telling.{Told}
use Rattle.eac_base.proofs.Tellings.{told_then, told_more, told_same}
use Rattle.signature_provider.specs.Provider.{Says}
use Rattle.cvc_grammar.specs.declared.certificate.Cert.{Cert}
use Rattle.cvc_grammar.specs.declared.refusal.CvcRefusal.{CvcRefusal}
use Rattle.keeper.specs.declared.rows.Row.{Row}
use Rattle.keeper.specs.declared.rows.OwnPart.{OwnPart}
use Rattle.keeper.specs.declared.rows.CaPart.{CaPart}
use Rattle.keeper.specs.declared.rows.Part.{Part}
use Rattle.keeper.specs.declared.rows.Part.TheVariants as part
use Rattle.keeper.specs.declared.rows.Settled.{Settled}
use Rattle.keeper.specs.declared.rows.Table.TheVariants as table
use Rattle.keeper.specs.Rows.{row_at, is_settled}
use Rattle.keeper.specs.declared.keeping.KeepRefusal.{KeepRefusal}
use Rattle.keeper.specs.declared.keeping.KeepRefusal.TheVariants as refusal
use Rattle.keeper.specs.Keeping.{MaySettle, Settles, SettleAsked}
use Rattle.holder_core.specs.Readings.{cert_of, settled_of}
use Rattle.holder_core.specs.declared.fault.HolderFault.{HolderFault}
use Rattle.holder_core.specs.declared.fault.HolderFault.TheVariants as fault
use Rattle.holder_core.specs.declared.take_rule.Taken.{Taken}
use Rattle.holder_core.specs.declared.take_rule.Taken.TheVariants as taken
use Rattle.holder_core.specs.declared.take_rule.TakeRule.TheVariants as rule
use Rattle.holder_core.specs.declared.taking.Seen.{Seen}
use Rattle.holder_core.specs.declared.taking.JudgedOwn.{JudgedOwn}
use Rattle.holder_core.specs.declared.taking.JudgedOwn.TheVariants as judged
use Rattle.holder_core.specs.Faults.{KeeperCause}
use Rattle.holder_core.specs.OwnRows.{own_part, own_in}
use Rattle.holder_core.specs.Taking.{cert_said, is_kept_as, has_other_key, issued_answer, take_seen, take_in, unwritten, TakesRead, Takes, TakeCause, TookAsked, IsSeen, Settling, IsSettledAs, again_answer, settled_answer, Judges}

-- ---- a row that waits

found_own : (found : Option Row) (o : OwnPart) → own_in found ≡ Some o → (row : Row) × (found ≡ Some row) × (own_part row.part ≡ Some o)
found_own (Some row) o e = (row, refl, e)
found_own None o e = absurd (cc)

own_waits : (p : Part) (o : OwnPart) → own_part p ≡ Some o → o.settled ≡ None → is_settled p ≡ false
own_waits (part.Own q) o e w = let same : q ≡ o = cc in ap (λ (x : OwnPart). is_some x.settled) same ∙ ap (λ (x : Option Settled). is_some x) w
own_waits (part.Register r d) o e w = absurd (cc)
own_waits (part.Issued q) o e w = absurd (cc)
own_waits (part.Ca q) o e w = absurd (cc)

-- a row that has a certificate is never stored to
kept_said : (b : Bool) (s : Settled) (h : List ℕ) → cond b (taken.Refused (rule.Differs s.certificate)) (taken.Refused rule.Signature) ≡ taken.Stored h → ⊥
kept_said true s h e = absurd (cc)
kept_said false s h e = absurd (cc)

kept_issued : (said : Says) (c : Cert) (s : Settled) (issuer : Option CaPart) (h : List ℕ) → issued_answer said c (Some s) issuer ≡ taken.Stored h → ⊥
kept_issued said c s None h e = absurd (cc)
kept_issued said c s (Some i) h e = kept_said (cert_said said c i.key) s h e

past_tests : (a b : Bool) (h : List ℕ) (x : Taken) → cond a (taken.Already h) (cond b (taken.Refused rule.KeyDiffers) x) ≡ taken.Stored h → x ≡ taken.Stored h
past_tests true b h x e = absurd (cc)
past_tests false true h x e = absurd (cc)
past_tests false false h x e = e

waits_settled : (said : Says) (c : Cert) (kept : Option Settled) (issuer : Option CaPart) (h : List ℕ) → issued_answer said c kept issuer ≡ taken.Stored h → kept ≡ None
waits_settled said c None issuer h e = refl
waits_settled said c (Some s) issuer h e = absurd (kept_issued said c s issuer h e)

waits : (said : Says) (bytes : List ℕ) (c : Cert) (own : Option OwnPart) (issuer : Option CaPart) → take_seen said bytes c own issuer ≡ taken.Stored c.body.holder → (o : OwnPart) × (own ≡ Some o) × (o.settled ≡ None)
waits said bytes c None issuer e = absurd (cc)
waits said bytes c (Some o) issuer e = (o, refl, waits_settled said c o.settled issuer c.body.holder (past_tests (is_kept_as bytes o.settled) (has_other_key c.body.key o.key) c.body.holder (issued_answer said c o.settled issuer) e))

module _ (said : Says) (party : ℕ) (bytes : List ℕ) (c : Cert) where
  seen_is : (rows : List Row) (seen : Seen) → IsSeen party c rows seen → take_in said party bytes rows (Ok c) ≡ take_seen said bytes c seen.own seen.issuer
  seen_is rows seen s = λ i. take_seen said bytes c (sym s.own i) (sym s.issuer i)

  may_settle : (rows : List Row) (seen : Seen) → IsSeen party c rows seen → take_seen said bytes c seen.own seen.issuer ≡ taken.Stored c.body.holder → MaySettle rows party c.body.holder
  may_settle rows seen s e =
      let w = waits said bytes c seen.own seen.issuer e in
      let f = found_own (row_at table.Own party c.body.holder rows) w.0 (sym s.own ∙ w.1) in
      record { row = f.0; there = f.1; waits = own_waits f.0.part w.0 f.2 w.2 }

  -- ---- the answer without a write

  answered_in : (rows : List Row) (seen : Seen) (answer : Taken) → IsSeen party c rows seen → unwritten (take_seen said bytes c seen.own seen.issuer) ≡ Some answer → TakesRead said party bytes (Ok c) rows rows (Ok answer)
  answered_in rows seen answer s e = inl (inl (ap unwritten (seen_is rows seen s) ∙ e), refl)

  pub told_answered : (o o' : Option (List Row)) (seen : Seen) (answer : Taken) → Told o o' (λ b a. (a ≡ b) × IsSeen party c b seen) → unwritten (take_seen said bytes c seen.own seen.issuer) ≡ Some answer → Told o o' (λ b a. TakesRead said party bytes (Ok c) b a (Ok answer))
  told_answered o o' seen answer t e =
      told_more (λ b a. (a ≡ b) × IsSeen party c b seen) (λ b a. TakesRead said party bytes (Ok c) b a (Ok answer)) o o' t
      (λ b a s. subst (λ (x : List Row). TakesRead said party bytes (Ok c) b x (Ok answer)) (sym s.0) (answered_in b seen answer s.1 e))

  -- ---- a fault before the write

  unseen_in : (rows : List Row) (f : HolderFault) (k : ℕ × ℕ) → KeeperCause f k.0 k.1 → TakesRead said party bytes (Ok c) rows rows (Err f)
  unseen_in rows fault.KeeperFault k e = inl refl
  unseen_in rows fault.NoMemory k e = refl
  unseen_in rows fault.ProviderFault k e = absurd e
  unseen_in rows (fault.NoKey r) k e = absurd e

  pub told_unseen : (o o' : Option (List Row)) (f : HolderFault) (k : ℕ × ℕ) → Told o o' (λ b a. (a ≡ b) × Unit {0}) → KeeperCause f k.0 k.1 → Told o o' (λ b a. TakesRead said party bytes (Ok c) b a (Err f))
  told_unseen o o' f k t e =
      told_more (λ b a. (a ≡ b) × Unit {0}) (λ b a. TakesRead said party bytes (Ok c) b a (Err f)) o o' t
      (λ b a s. subst (λ (x : List Row). TakesRead said party bytes (Ok c) b x (Err f)) (sym s.0) (unseen_in b f k e))

  -- ---- the settling

  settled_in : (rows after : List Row) (seen : Seen) (result : Result Taken HolderFault) → IsSeen party c rows seen → take_seen said bytes c seen.own seen.issuer ≡ taken.Stored c.body.holder → Settling party c.body.holder (settled_of bytes c.body) rows after result → TakesRead said party bytes (Ok c) rows after result
  settled_in rows after seen (Ok (taken.Stored r)) s e w = inr (record { due = ap unwritten (seen_is rows seen s ∙ e); new = refl; written = (ap taken.Stored w.0 ∙ sym (seen_is rows seen s ∙ e), w.1) })
  settled_in rows after seen (Ok (taken.Already r)) s e w = absurd (w (may_settle rows seen s e))
  settled_in rows after seen (Ok (taken.Refused k)) s e w = absurd (w (may_settle rows seen s e))
  settled_in rows after seen (Err fault.KeeperFault) s e (inl w) = inl w
  settled_in rows after seen (Err fault.KeeperFault) s e (inr w) = inr (taken.Stored c.body.holder, record { due = ap unwritten (seen_is rows seen s ∙ e); new = refl; written = (sym (seen_is rows seen s ∙ e), w) })
  settled_in rows after seen (Err fault.NoMemory) s e w = w
  settled_in rows after seen (Err fault.ProviderFault) s e w = absurd w
  settled_in rows after seen (Err (fault.NoKey r)) s e w = absurd w

  pub told_settled : (o o' o'' : Option (List Row)) (seen : Seen) (result : Result Taken HolderFault) → Told o o' (λ b a. (a ≡ b) × IsSeen party c b seen) → take_seen said bytes c seen.own seen.issuer ≡ taken.Stored c.body.holder → Told o' o'' (λ b a. Settling party c.body.holder (settled_of bytes c.body) b a result) → Told o o'' (λ b a. TakesRead said party bytes (Ok c) b a result)
  told_settled o o' o'' seen result t e w =
      told_then (λ b a. (a ≡ b) × IsSeen party c b seen) (λ b a. Settling party c.body.holder (settled_of bytes c.body) b a result) (λ b a. TakesRead said party bytes (Ok c) b a result) o o' o'' t w
      (λ b m a s q. settled_in b a seen result s.1 e (subst (λ (x : List Row). Settling party c.body.holder (settled_of bytes c.body) x a result) s.0 q))

-- ---- what was read of the bytes

pub told_as_read : (said : Says) (party : ℕ) (bytes whole : List ℕ) (c : Result Cert CvcRefusal) (o o' : Option (List Row)) (result : Result Taken HolderFault) → cert_of bytes ≡ c → whole ≡ bytes → Told o o' (λ b a. TakesRead said party whole c b a result) → Told o o' (λ b a. Takes said party bytes b a result)
told_as_read said party bytes whole c o o' result read same t =
    told_more (λ b a. TakesRead said party whole c b a result) (λ b a. Takes said party bytes b a result) o o' t
    (λ b a w. subst (λ (x : Result Cert CvcRefusal). TakesRead said party bytes x b a result) (sym read) (subst (λ (x : List ℕ). TakesRead said party x c b a result) same w))

pub told_unread : (said : Says) (party : ℕ) (bytes : List ℕ) (e : CvcRefusal) (o : Option (List Row)) → Told o o (λ b a. TakesRead said party bytes (Err e) b a (Ok (taken.Refused (rule.Syntax e))))
told_unread said party bytes e o = told_same (λ b a. TakesRead said party bytes (Err e) b a (Ok (taken.Refused (rule.Syntax e)))) o (λ b. inl (inl refl, refl))

abbrev pub AskedAs : Says → ℕ → List ℕ → Result Cert CvcRefusal → Result Taken HolderFault → Type 0
AskedAs said party bytes c result = IfOk result (TakeCause said party bytes c)

pub asked_as_read : (said : Says) (party : ℕ) (bytes whole : List ℕ) (c : Result Cert CvcRefusal) (result : Result Taken HolderFault) → cert_of bytes ≡ c → whole ≡ bytes → AskedAs said party whole c result → IfOk result (TookAsked said party bytes)
asked_as_read said party bytes whole c result read same h =
    subst (λ (x : Result Cert CvcRefusal). AskedAs said party bytes x result) (sym read) (subst (λ (x : List ℕ). AskedAs said party x c result) same h)

pub asked_unread : (said : Says) (party : ℕ) (bytes : List ℕ) (e : CvcRefusal) → cert_of bytes ≡ Err e → TookAsked said party bytes (taken.Refused (rule.Syntax e))
asked_unread said party bytes e read = subst (λ (x : Result Cert CvcRefusal). TakeCause said party bytes x (taken.Refused (rule.Syntax e))) (sym read) refl

-- ---- what the keeper says to the settling

kept_again : (party : ℕ) (reference : List ℕ) (s : Settled) (b a : List Row) (same : Bool) (kept : List ℕ) → (MaySettle b party reference → ⊥) → Settling party reference s b a (Ok (cond same (taken.Already reference) (taken.Refused (rule.Differs kept))))
kept_again party reference s b a true kept not = not
kept_again party reference s b a false kept not = not

again_in : (party : ℕ) (bytes reference : List ℕ) (s : Settled) (b a : List Row) (kept : Option Settled) → (MaySettle b party reference → ⊥) → Settling party reference s b a (Ok (again_answer bytes reference kept))
again_in party bytes reference s b a None not = not
again_in party bytes reference s b a (Some k) not = kept_again party reference s b a (bytes_eq k.certificate bytes) k.certificate not

not_settled : (party : ℕ) (reference : List ℕ) (b : List Row) (kept : Row) → row_at table.Own party reference b ≡ Some kept → is_settled kept.part ≡ true → MaySettle b party reference → ⊥
not_settled party reference b kept at settled may =
    let same : Some may.row ≡ Some kept = sym may.there ∙ at in
    let one : may.row ≡ kept = cc in
    absurd (false≢true (sym may.waits ∙ ap (λ (r : Row). is_settled r.part) one ∙ settled))

not_there : (party : ℕ) (reference : List ℕ) (b : List Row) → row_at table.Own party reference b ≡ None → MaySettle b party reference → ⊥
not_there party reference b at may = let same : Some may.row ≡ None = sym may.there ∙ at in absurd (cc)

settling_in : {U : Type 0} (party : ℕ) (bytes reference : List ℕ) (s : Settled) (b a : List Row) (done : Result U KeepRefusal) → Settles b a party reference s done → Settling party reference s b a (settled_answer bytes reference done)
settling_in party bytes reference s b a (Ok u) w = (refl, w.1)
settling_in party bytes reference s b a (Err refusal.Failed) (inl w) = inl w
settling_in party bytes reference s b a (Err refusal.Failed) (inr w) = inr w.1
settling_in party bytes reference s b a (Err refusal.Full) w = absurd w
settling_in party bytes reference s b a (Err (refusal.Twice kept)) w = again_in party bytes reference s b a (option_and_then (λ own. own.settled) (own_part kept.part)) (not_settled party reference b kept w.1 w.2)
settling_in party bytes reference s b a (Err refusal.Absent) w = not_there party reference b w.1
settling_in party bytes reference s b a (Err refusal.NoMemory) w = w

pub told_settling : {U : Type 0} (party : ℕ) (bytes reference : List ℕ) (s t : Settled) (o o' : Option (List Row)) (done : Result U KeepRefusal) (result : Result Taken HolderFault) → s ≡ t → result ≡ settled_answer bytes reference done → Told o o' (λ b a. Settles b a party reference s done) → Told o o' (λ b a. Settling party reference t b a result)
told_settling party bytes reference s t o o' done result same is w =
    told_more (λ b a. Settles b a party reference s done) (λ b a. Settling party reference t b a result) o o' w
    (λ b a x. subst (λ (r : Result Taken HolderFault). Settling party reference t b a r) (sym is) (subst (λ (y : Settled). Settling party reference y b a (settled_answer bytes reference done)) same (settling_in party bytes reference s b a done x)))

says_in : {U : Type 0} (party : ℕ) (bytes reference : List ℕ) (done : Result U KeepRefusal) → SettleAsked party reference done → IfOk (settled_answer bytes reference done) (IsSettledAs party bytes reference)
says_in party bytes reference (Ok u) w = inl refl
says_in party bytes reference (Err refusal.Failed) w = tt
says_in party bytes reference (Err refusal.Full) w = tt
says_in party bytes reference (Err (refusal.Twice kept)) w = inr (inr (record { kept = kept; asked = w; says = refl }))
says_in party bytes reference (Err refusal.Absent) w = inr (inl refl)
says_in party bytes reference (Err refusal.NoMemory) w = tt

pub settling_says : {U : Type 0} (party : ℕ) (bytes reference : List ℕ) (done : Result U KeepRefusal) (result : Result Taken HolderFault) → result ≡ settled_answer bytes reference done → SettleAsked party reference done → IfOk result (IsSettledAs party bytes reference)
settling_says party bytes reference done result is w = subst (λ (r : Result Taken HolderFault). IfOk r (IsSettledAs party bytes reference)) (sym is) (says_in party bytes reference done w)

-- ---- what was judged

pub judged_waits : (said : Says) (bytes : List ℕ) (c : Cert) (own : Option OwnPart) (issuer : Option CaPart) (j : JudgedOwn) → j ≡ judged.Waits → Judges said bytes c own issuer j → take_seen said bytes c own issuer ≡ taken.Stored c.body.holder
judged_waits said bytes c own issuer (judged.Answered t) e h = absurd (cc)
judged_waits said bytes c own issuer judged.Waits e h = h
