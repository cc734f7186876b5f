-- The levels of a call, where the rows may be told or not.
use Rattle.std.proofs.Common.{◌≡◌, ℕ, List, [], ◌∷◌, Option, Some, None, true, false, ◌≤◌, arith, refl, sym, ◌∙◌, ap, subst}
use Rattle.std.specs.Prelude.{Result, Ok, Err}
use Rattle.eac_base.specs.Causes.{Rose}
use Rattle.eac_base.specs.Telling.{Told}
use Rattle.eac_base.proofs.Tellings.{told_then, told_more, told_same}
use Rattle.holder_reference.specs.Reference.{holder_part}
use Rattle.signature_provider.specs.Provider.{Says, Holds, Signed, public_key}
use Rattle.cvc_grammar.specs.declared.request.Request.{Request}
use Rattle.cvc_grammar.specs.declared.refusal.CvcRefusal.{CvcRefusal}
use Rattle.cvc_grammar.specs.RequestOrder.{read_request}
use Rattle.policy_limits.specs.Setup.{registration}
use Rattle.policy_limits.specs.declared.registration.Registration.{Registration}
use Rattle.keeper.specs.declared.rows.Row.{Row}
use Rattle.keeper.specs.declared.rows.Part.TheVariants as part
use Rattle.keeper.specs.declared.rows.Table.TheVariants as table
use Rattle.keeper.specs.Rows.{row_at}
use Rattle.issue_core.specs.declared.rule.Rule.{Rule}
use Rattle.issue_core.specs.declared.rule.Rule.TheVariants as rule
use Rattle.issue_core.specs.declared.fault.IssueFault.{IssueFault}
use Rattle.issue_core.specs.declared.fault.IssueFault.TheVariants as fault
use Rattle.issue_core.specs.declared.issuing.making.Made.{Made}
use Rattle.issue_core.specs.declared.issuing.seen.Seen.{Seen}
use Rattle.issue_core.specs.declared.issuing.serving.Answer.{Answer}
use Rattle.issue_core.specs.declared.issuing.serving.Answer.TheVariants as answer
use Rattle.issue_core.specs.declared.issuing.serving.Call.{Call}
use Rattle.ledger.specs.Ledger.{Refused}
use Rattle.issue_core.specs.declared.issuing.signer_row.Signer.{Signer}
use Rattle.issue_core.specs.Issuing.Rules.{Case, registered}
use Rattle.issue_core.specs.Issuing.Causes.{KeeperCause}
use Rattle.issue_core.specs.Issuing.Looks.{IsSeen}
use Rattle.issue_core.specs.Issuing.SeenRules.{first_seen, verdict_rule, IsGranted}
use Rattle.issue_core.specs.Issuing.Signed.{Delivers, SignsMore, Unmade}
use Rattle.issue_core.specs.Issuing.Causes.{MakeCause, VerdictCause}
use Rattle.issue_core.specs.Issuing.Calls.{IsCaseOf, IsMade, Enters, outcome_of, case_of, kept_answer}
use Rattle.issue_core.specs.Issuing.Readings.{cert_message}
use Rattle.issue_core.specs.Issuing.Due.{due_body}
use Rattle.issue_core.specs.Issuing.Steps.{Ready, Passed, Looked, Fresh, WasRead, Again, ByLists}
use Rattle.issue_core.proofs.IssuingDesk.Served.{Out, row_made, serves_none, serves_refused, serves_fault, serves_unasked, serves_entered, serves_unmade, serves_earlier}
use Rattle.issue_core.proofs.IssuingDesk.Messages.{reads}

-- ---- the making and the adding

module _ (says : Says) (holds : Holds) (signed : Signed × Signed) (call : Call) (r : Request) (g : Registration) (s : Signer) (days : ℕ × ℕ) where
  abbrev pub WhereMade : Out → ℕ × ℕ → ℕ × ℕ → List Row → List Row → Type 0
  WhereMade o k p b a = (c : Case) → IsCaseOf c call → Ready c r g s days b → Delivers says holds signed c o k p b a

  pub told_entered : (o o' : Option (List Row)) (kept : List ℕ) (k p : ℕ × ℕ) (made : Made) (row : Row) (result : Result Answer IssueFault) →
      kept ≡ call.bytes.now → IsMade says (holds (public_key s.key)) r g s days made → SignsMore signed ((public_key s.key, cert_message (due_body r g s days)) ∷ []) → row ≡ record { desk = call.desk; reference = r.body.holder; part = part.Issued (record { request = kept; key = r.body.key; settled = made.settled }) } →
      (result ≡ Err fault.KeeperFault → Rose k.0 k.1) → Told o o' (λ b a. Enters b a row made.text result) → Told o o' (WhereMade (outcome_of result) k p)
  told_entered o o' kept k p made row result kept_is m more row_is rose e =
      told_more (λ b a. Enters b a row made.text result) (WhereMade (outcome_of result) k p) o o' e
      (λ b a e' c its ready.
      let is : row ≡ row_made c r made = row_is ∙ (λ i. record { desk = sym its.desk i; reference = r.body.holder; part = part.Issued (record { request = (kept_is ∙ sym its.bytes) i; key = r.body.key; settled = made.settled }) }) in
      serves_entered says holds signed c k p b r g s days ready made a result m more rose (subst (λ (x : Row). Enters b a x made.text result) is e'))

  pub told_unmade : (o : Option (List Row)) (k p : ℕ × ℕ) (f : IssueFault) → Unmade f signed (public_key s.key, cert_message (due_body r g s days)) → MakeCause f p.0 p.1 (holds (public_key s.key)) s.reference → Told o o (WhereMade (outcome_of (Err f)) k p)
  told_unmade o k p f u e = told_same (WhereMade (outcome_of (Err f)) k p) o (λ b c its ready. serves_unmade says holds signed c k p b r g s days ready f u e)

-- ---- the verdicts

module _ (said says : Says) (holds : Holds) (signed : Signed × Signed) (call : Call) (r : Request) (g : Registration) (seen : Seen) (s : Signer) (days : ℕ × ℕ) where
  abbrev pub WherePassed : Out → ℕ × ℕ → ℕ × ℕ → List Row → List Row → Type 0
  WherePassed o k p b a = (c : Case) → IsCaseOf c call → Passed said c r g seen s days b → Delivers says holds signed c o k p b a

  pub passed_unasked : (o : Option (List Row)) (k p : ℕ × ℕ) (f : IssueFault) → signed.1 ≡ signed.0 → VerdictCause f p.0 p.1 → Told o o (WherePassed (outcome_of (Err f)) k p)
  passed_unasked o k p f same e = told_same (WherePassed (outcome_of (Err f)) k p) o (λ b c its h. serves_unasked says holds signed c k p b f same e)

  pub passed_refused : (o : Option (List Row)) (k p : ℕ × ℕ) (rule : Rule) → signed.1 ≡ signed.0 → Some rule ≡ verdict_rule said r seen.voucher → Told o o (WherePassed (Refused rule) k p)
  passed_refused o k p rule same is = told_same (WherePassed (Refused rule) k p) o (λ b c its h. serves_refused says holds signed c k p b rule same (h.refused rule (sym is)))

  pub passed_ready : (later : Holds) (now : Signed) (o o' : Option (List Row)) (out : Out) (k : ℕ × ℕ) (p0 p1 p2 : ℕ) → later ≡ holds → now ≡ signed.0 → p0 ≤ p1 → None ≡ verdict_rule said r seen.voucher → Told o o' (WhereMade says later (now, signed.1) call r g s days out k (p1, p2)) → Told o o' (WherePassed out k (p0, p2))
  passed_ready later now o o' out k p0 p1 p2 same quiet le is told = told_more (WhereMade says later (now, signed.1) call r g s days out k (p1, p2)) (WherePassed out k (p0, p2)) o o' told
      (λ b a f c its h. serves_earlier says holds signed c out k.0 k.0 k.1 p0 p1 p2 b a (omega arith) le (subst (λ (x : Holds × Signed). Delivers says x.0 (x.1, signed.1) c out k (p1, p2) b a) (λ i. (same i, quiet i)) (f c its (h.ready (sym is)))))

-- ---- the looks

module _ (said says : Says) (holds : Holds) (signed : Signed × Signed) (call : Call) (r : Request) (g : Registration) where
  abbrev pub WhereLooked : Out → ℕ × ℕ → ℕ × ℕ → List Row → List Row → Type 0
  WhereLooked o k p b a = (c : Case) → IsCaseOf c call → Looked said c r g b → Delivers says holds signed c o k p b a

  abbrev pub SeenOnly : Seen → List Row → List Row → Type 0
  SeenOnly seen b a = (a ≡ b) × IsSeen call.desk call.day r g b seen

  seen_of : (c : Case) (b : List Row) (seen : Seen) → IsCaseOf c call → IsSeen call.desk call.day r g b seen → IsSeen c.desk c.day r g b seen
  seen_of c b seen its h = subst (λ (x : ℕ × ℕ). IsSeen x.0 x.1 r g b seen) (λ i. (sym its.desk i, sym its.day i)) h

  pub looked_fault : (o o' : Option (List Row)) (f : IssueFault) (k p : ℕ × ℕ) → signed.1 ≡ signed.0 → KeeperCause f k.0 k.1 → Told o o' (λ b a. (a ≡ b) × Unit {0}) → Told o o' (WhereLooked (outcome_of (Err f)) k p)
  looked_fault o o' f k p same e told = told_more (λ b a. (a ≡ b) × Unit {0}) (WhereLooked (outcome_of (Err f)) k p) o o' told
      (λ b a s c its h. subst (λ (x : List Row). Delivers says holds signed c (outcome_of (Err f)) k p b x) (sym s.0) (serves_fault says holds signed c k p b f same e))

  pub looked_refused : (o o' : Option (List Row)) (seen : Seen) (rule : Rule) (k p : ℕ × ℕ) → signed.1 ≡ signed.0 → first_seen call.day r g seen ≡ Some rule → Told o o' (SeenOnly seen) → Told o o' (WhereLooked (Refused rule) k p)
  looked_refused o o' seen rule k p same first told = told_more (SeenOnly seen) (WhereLooked (Refused rule) k p) o o' told
      (λ b a s c its h.
      let breaks = h.refused seen rule (seen_of c b seen its s.1) ((λ i. first_seen (its.day i) r g seen) ∙ first) in
      subst (λ (x : List Row). Delivers says holds signed c (Refused rule) k p b x) (sym s.0) (serves_refused says holds signed c k p b rule same breaks))

  pub looked_passed : (o o' o'' : Option (List Row)) (seen : Seen) (signer : Signer) (days : ℕ × ℕ) (out : Out) (k0 k1 k2 : ℕ) (p : ℕ × ℕ) → k0 ≤ k1 → IsGranted call.day r g seen signer days → Told o o' (SeenOnly seen) → Told o' o'' (WherePassed said says holds signed call r g seen signer days out (k1, k2) p) → Told o o'' (WhereLooked out (k0, k2) p)
  looked_passed o o' o'' seen signer days out k0 k1 k2 p le granted told next = told_then (SeenOnly seen) (WherePassed said says holds signed call r g seen signer days out (k1, k2) p) (WhereLooked out (k0, k2) p) o o' o'' told next
      (λ b m a s f c its h.
      let passed = h.passed seen signer days (seen_of c b seen its s.1) (subst (λ (d : ℕ). IsGranted d r g seen signer days) (sym its.day) granted) in
      let served = f c its (subst (λ (x : List Row). Passed said c r g seen signer days x) (sym s.0) passed) in
      serves_earlier says holds signed c out k0 k1 k2 p.0 p.0 p.1 b a le (omega arith) (subst (λ (x : List Row). Delivers says holds signed c out (k1, k2) p x a) s.0 served))

-- ---- the registration, and the row of the number

module _ (said says : Says) (holds : Holds) (signed : Signed × Signed) (call : Call) (r : Request) where
  abbrev pub WhereFresh : Out → ℕ × ℕ → ℕ × ℕ → List Row → List Row → Type 0
  WhereFresh o k p b a = (c : Case) → IsCaseOf c call → Fresh said c r b → Delivers says holds signed c o k p b a

  abbrev pub WhereRead : Out → ℕ × ℕ → ℕ × ℕ → List Row → List Row → Type 0
  WhereRead o k p b a = (c : Case) → IsCaseOf c call → WasRead said c r b → Delivers says holds signed c o k p b a

  -- what was found of the holder's registration
  registered_is : (c : Case) (holder : List ℕ) (found : Option Registration) → IsCaseOf c call → holder ≡ holder_part r.body.holder → found ≡ registration call.setup.now call.desk holder → registered c r ≡ found
  registered_is c holder found its h is = (λ i. registration (its.setup i) (its.desk i) (sym h i)) ∙ sym is

  pub fresh_unknown : (o : Option (List Row)) (holder : List ℕ) (found : Option Registration) (k p : ℕ × ℕ) → signed.1 ≡ signed.0 → holder ≡ holder_part r.body.holder → found ≡ registration call.setup.now call.desk holder → found ≡ None → Told o o (WhereFresh (Refused rule.Holder) k p)
  fresh_unknown o holder found k p same h is none = told_same (WhereFresh (Refused rule.Holder) k p) o
      (λ b c its f. serves_refused says holds signed c k p b rule.Holder same (f.unknown (registered_is c holder found its h is ∙ none)))

  pub fresh_suspended : (o : Option (List Row)) (g : Registration) (holder : List ℕ) (k p : ℕ × ℕ) → signed.1 ≡ signed.0 → holder ≡ holder_part r.body.holder → Some g ≡ registration call.setup.now call.desk holder → g.suspended ≡ true → Told o o (WhereFresh (Refused rule.Holder) k p)
  fresh_suspended o g holder k p same h is out = told_same (WhereFresh (Refused rule.Holder) k p) o
      (λ b c its f. serves_refused says holds signed c k p b rule.Holder same (f.suspended g (registered_is c holder (Some g) its h is) out))

  pub fresh_looked : (o o' : Option (List Row)) (g : Registration) (holder : List ℕ) (out : Out) (k p : ℕ × ℕ) → holder ≡ holder_part r.body.holder → Some g ≡ registration call.setup.now call.desk holder → g.suspended ≡ false → Told o o' (WhereLooked said says holds signed call r g out k p) → Told o o' (WhereFresh out k p)
  fresh_looked o o' g holder out k p h is ok told = told_more (WhereLooked said says holds signed call r g out k p) (WhereFresh out k p) o o' told
      (λ b a f c its w. f c its (w.looked g (registered_is c holder (Some g) its h is) ok))

  abbrev pub Found : Option Row → List Row → List Row → Type 0
  Found found b a = (a ≡ b) × (found ≡ row_at table.Issued call.desk r.body.holder b)

  pub read_fault : (o o' : Option (List Row)) (f : IssueFault) (k p : ℕ × ℕ) → signed.1 ≡ signed.0 → KeeperCause f k.0 k.1 → Told o o' (λ b a. (a ≡ b) × Unit {0}) → Told o o' (WhereRead (outcome_of (Err f)) k p)
  read_fault o o' f k p same e told = told_more (λ b a. (a ≡ b) × Unit {0}) (WhereRead (outcome_of (Err f)) k p) o o' told
      (λ b a s c its h. subst (λ (x : List Row). Delivers says holds signed c (outcome_of (Err f)) k p b x) (sym s.0) (serves_fault says holds signed c k p b f same e))

  again_serves : (c : Case) (k p : ℕ × ℕ) (b : List Row) (a : Answer) → signed.1 ≡ signed.0 → Again c b a → Delivers says holds signed c (outcome_of (Ok a)) k p b b
  again_serves c k p b (answer.Kept q) same h = serves_none says holds signed c k p b _ same tt h
  again_serves c k p b (answer.Refused q) same h = serves_refused says holds signed c k p b q same h
  again_serves c k p b (answer.Issued q) same h = absurd h

  pub read_again : (o o' : Option (List Row)) (found : Option Row) (row : Row) (a : Answer) (k p : ℕ × ℕ) → signed.1 ≡ signed.0 → found ≡ Some row → a ≡ kept_answer row.part call.bytes.now → Told o o' (Found found) → Told o o' (WhereRead (outcome_of (Ok a)) k p)
  read_again o o' found row a k p same some is told = told_more (Found found) (WhereRead (outcome_of (Ok a)) k p) o o' told
      (λ b m s c its h.
      let again = h.again row ((λ i. row_at table.Issued (its.desk i) r.body.holder b) ∙ sym s.1 ∙ some) in
      let said_so : a ≡ kept_answer row.part c.bytes = is ∙ ap (kept_answer row.part) (sym its.bytes) in
      subst (λ (x : List Row). Delivers says holds signed c (outcome_of (Ok a)) k p b x) (sym s.0) (again_serves c k p b a same (subst (λ (x : Answer). Again c b x) (sym said_so) again)))

  pub read_fresh : (o o' o'' : Option (List Row)) (found : Option Row) (out : Out) (k0 k1 k2 : ℕ) (p : ℕ × ℕ) → k0 ≤ k1 → found ≡ None → Told o o' (Found found) → Told o' o'' (WhereFresh out (k1, k2) p) → Told o o'' (WhereRead out (k0, k2) p)
  read_fresh o o' o'' found out k0 k1 k2 p le none told next = told_then (Found found) (WhereFresh out (k1, k2) p) (WhereRead out (k0, k2) p) o o' o'' told next
      (λ b m a s f c its h.
      let fresh = h.fresh ((λ i. row_at table.Issued (its.desk i) r.body.holder b) ∙ sym s.1 ∙ none) in
      let served = f c its (subst (λ (x : List Row). Fresh said c r x) (sym s.0) fresh) in
      serves_earlier says holds signed c out k0 k1 k2 p.0 p.0 p.1 b a le (omega arith) (subst (λ (x : List Row). Delivers says holds signed c out (k1, k2) p x a) s.0 served))

-- ---- the whole call

module _ (said says : Says) (holds : Holds) (signed : Signed × Signed) (call : Call) where
  abbrev pub Whole : Out → ℕ × ℕ → ℕ × ℕ → List Row → List Row → Type 0
  Whole o k p b a = ByLists said (case_of said call.setup.now call.desk call.day call.bytes.now b) b → Delivers says holds signed (case_of said call.setup.now call.desk call.day call.bytes.now b) o k p b a

  -- a request that can't be read
  pub whole_unread : (o : Option (List Row)) (k p : ℕ × ℕ) (e : CvcRefusal) → signed.1 ≡ signed.0 → read_request call.bytes.now ≡ Err e → Told o o (Whole (Refused (rule.Syntax e)) k p)
  whole_unread o k p e same is = told_same (Whole (Refused (rule.Syntax e)) k p) o
      (λ b h. serves_refused says holds signed (case_of said call.setup.now call.desk call.day call.bytes.now b) k p b (rule.Syntax e) same (h.unread e (sym (reads call.bytes.now) ∙ is)))

  pub whole_read : (o o' : Option (List Row)) (r : Request) (out : Out) (k p : ℕ × ℕ) → read_request call.bytes.now ≡ Ok r → Told o o' (WhereRead said says holds signed call r out k p) → Told o o' (Whole out k p)
  whole_read o o' r out k p is told = told_more (WhereRead said says holds signed call r out k p) (Whole out k p) o o' told
      (λ b a f h. f (case_of said call.setup.now call.desk call.day call.bytes.now b) (record { setup = refl; desk = refl; day = refl; bytes = refl }) (h.asked r (sym (reads call.bytes.now) ∙ is)))
