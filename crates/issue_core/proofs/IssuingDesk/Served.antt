-- One call as one delivery, on plain lists.
use Rattle.std.proofs.Common.{◌≡◌, ◌⊎◌, inl, inr, ℕ, List, [], ◌∷◌, ◌++◌, Option, Some, None, Bool, ◌≤◌, arith, refl, sym, ◌∙◌, ap, subst}
use Rattle.std.proofs.lemmas.List.{append-nil}
use Rattle.std.specs.Prelude.{Result, Ok, Err, IfSome, IfErr, option_map}
use Rattle.eac_base.specs.Causes.{Rose}
use Rattle.signature_provider.specs.Provider.{Says, Holds, Signed, public_key}
use Rattle.cvc_grammar.specs.declared.request.Request.{Request}
use Rattle.policy_limits.specs.declared.registration.Registration.{Registration}
use Rattle.keeper.specs.declared.rows.Row.{Row}
use Rattle.keeper.specs.declared.rows.IssuedPart.{IssuedPart}
use Rattle.keeper.specs.declared.rows.Part.TheVariants as part
use Rattle.keeper.specs.declared.rows.Settled.{Settled}
use Rattle.keeper.specs.Keeping.{MayAdd}
use Rattle.issue_core.specs.declared.rule.Rule.{Rule}
use Rattle.issue_core.specs.declared.fault.IssueFault.{IssueFault}
use Rattle.issue_core.specs.declared.fault.IssueFault.TheVariants as fault
use Rattle.issue_core.specs.declared.issuing.making.Made.{Made}
use Rattle.issue_core.specs.declared.issuing.serving.Answer.{Answer}
use Rattle.issue_core.specs.declared.issuing.serving.Answer.TheVariants as answer
use Rattle.ledger.specs.Ledger.{Outcome, Issued, Kept, Refused, Faulted, NoMemory, MayLeave, IsUnused}
use Rattle.ledger.specs.Story.{Adds, Tells}
use Rattle.issue_core.specs.Issuing.Due.{due_body}
use Rattle.issue_core.specs.Issuing.Readings.{cert_of, cert_message, number_in, body_in}
use Rattle.issue_core.specs.declared.issuing.signer_row.Signer.{Signer}
use Rattle.issue_core.specs.Issuing.Rules.{Case}
use Rattle.issue_core.specs.Issuing.Desk.{issuing, is_signed, signed_in, signed_as, Fault, KeeperFailed, ProviderFailed, KeyMissing, IssueEntries}
use Rattle.issue_core.specs.Issuing.Rows.{entries_at, row_for, left_row, settled_of, AreReadable, ReadablePart, IsReadable, IsSettled}
use Rattle.issue_core.specs.Issuing.Causes.{KeeperCause, KeeperCaused}
use Rattle.issue_core.specs.Issuing.Signed.{Pair, SignsMore, IsDuePair, SignsLeft, SignsLost, SignsServed, Delivers, MayLose, Unmade}
use Rattle.issue_core.specs.Issuing.Causes.{MakeCause, VerdictCause}
use Rattle.issue_core.specs.Issuing.Calls.{Serves, IsMade, Enters, delivery, outcome_of, is_held, held_in, signer_held, signer_in, NamesKey}
use Rattle.issue_core.specs.Issuing.Steps.{Ready, Breaks}

abbrev pub Out : Type 0
Out = Outcome (List ℕ) Rule Fault

abbrev pub row_made : Case → Request → Made → Row
row_made c r made = record { desk = c.desk; reference = r.body.holder; part = part.Issued (record { request = c.bytes; key = r.body.key; settled = made.settled }) }

-- ---- rows stay readable

pub readable_more : (rows : List Row) (row : Row) (p : IssuedPart) → row.part ≡ part.Issued p → IsReadable row.reference p → AreReadable rows → AreReadable (rows ++ row ∷ [])
readable_more [] row p is new h = (subst (λ q. ReadablePart row.reference q) (sym is) new, tt)
readable_more (x ∷ rows) row p is new h = (h.0, readable_more rows row p is new h.1)

module _ (says : Says) (holds : Holds) (signed : Signed × Signed) (c : Case) (k p : ℕ × ℕ) (rows : List Row) where
  -- nothing is left
  left_none : (o : Out) → (signed.1 ≡ signed.0) ⊎ SignsLost c rows o signed → NamesKey c o → Tells issuing (entries_at c.desk rows) (delivery c o None k p (is_held holds c)) o → Delivers says holds signed c o k p rows rows
  left_none o pairs names told = record { left = None; decides = record { left = tt; told = told }; rows = sym (append-nil rows); signs = tt; pairs = pairs; names = names; readable = λ h. h }

  -- nothing was signed either
  pub serves_none : (o : Out) → signed.1 ≡ signed.0 → NamesKey c o → Tells issuing (entries_at c.desk rows) (delivery c o None k p (is_held holds c)) o → Delivers says holds signed c o k p rows rows
  serves_none o same names told = left_none o (inl same) names told

  pub serves_refused : (rule : Rule) → signed.1 ≡ signed.0 → Breaks c rows rule → Delivers says holds signed c (Refused rule) k p rows rows
  serves_refused rule same b = serves_none (Refused rule) same tt (b.new, b.first)

  -- one fault of a reading or of a verdict leaves nothing
  pub serves_fault : (f : IssueFault) → signed.1 ≡ signed.0 → KeeperCause f k.0 k.1 → Delivers says holds signed c (outcome_of (Err f)) k p rows rows
  serves_fault fault.KeeperFault same e = serves_none (Faulted KeeperFailed) same tt e
  serves_fault fault.NoMemory same e = serves_none NoMemory same tt tt
  serves_fault fault.ProviderFault same e = absurd e
  serves_fault (fault.NoKey q) same e = absurd e

  pub serves_unasked : (f : IssueFault) → signed.1 ≡ signed.0 → VerdictCause f p.0 p.1 → Delivers says holds signed c (outcome_of (Err f)) k p rows rows
  serves_unasked fault.ProviderFault same e = serves_none (Faulted ProviderFailed) same tt e
  serves_unasked fault.NoMemory same e = absurd e
  serves_unasked fault.KeeperFault same e = absurd e
  serves_unasked (fault.NoKey q) same e = absurd e

  moved : (o : Out) (after : List Row) → after ≡ rows → Delivers says holds signed c o k p rows rows → Delivers says holds signed c o k p rows after
  moved o after is h = subst (λ (x : List Row). Delivers says holds signed c o k p rows x) (sym is) h

  module _ (r : Request) (g : Registration) (s : Signer) (days : ℕ × ℕ) (ready : Ready c r g s days rows) where
    held_is : is_held holds c ≡ holds (public_key s.key)
    held_is = (λ i. held_in holds c (ready.read i)) ∙ (λ i. signer_held holds (ready.signer_is i))

    -- what is due is signed with the row's key
    abbrev pub pair_due : Pair
    pair_due = (public_key s.key, cert_message (due_body r g s days))

    abbrev is_due_pair : IsDuePair c rows pair_due
    is_due_pair = record { new = ready.new; allowed = ready.allowed; signer = s; body = due_body r g s days; signer_is = (λ i. signer_in c (ready.read i)) ∙ ready.signer_is; due_is = ready.due_is; named = refl; key = refl; message = refl }

    signs_left : (made : Made) → IsMade says (holds (public_key s.key)) r g s days made → SignsMore signed (pair_due ∷ []) → SignsLeft c rows made.text signed
    signs_left made m more = record { pair = pair_due; is_due = is_due_pair; cert = m.cert; body_is = m.body; text = m.text; more = more }

    signs_lost : (o : Out) → MayLose o → SignsMore signed (pair_due ∷ []) → SignsLost c rows o signed
    signs_lost o may more = record { pair = pair_due; is_due = is_due_pair; may = may; more = more }

    left_is : (made : Made) → IsMade says (holds (public_key s.key)) r g s days made → left_row c.desk c.bytes (Some made.text) ≡ row_made c r made ∷ []
    left_is made m = (λ i. row_for c.desk c.bytes made.text (ready.read i) (m.read i)) ∙ (λ i. record { desk = c.desk; reference = r.body.holder; part = part.Issued (record { request = c.bytes; key = r.body.key; settled = sym m.settled i }) } ∷ [])

    adds : (o : Out) (made : Made) → IsMade says (holds (public_key s.key)) r g s days made → MayLeave issuing o made.text → Adds issuing (is_signed says) (entries_at c.desk rows) (delivery c o (Some made.text) k p (is_held holds c)) made.text
    adds o made m may = record {
      new = ready.new;
      number = subst (λ (n : List ℕ). IsUnused issuing (entries_at c.desk rows) n) (sym (ap number_in ready.read)) ready.number;
      allowed = ready.allowed;
      body = (λ i. option_map Some (ready.due_is i)) ∙ (λ i. Some (Some (sym m.body i))) ∙ (λ i. Some (body_in (sym m.read i)));
      signed = (λ i. signed_in says c (ready.read i) made.text) ∙ (λ i. signed_as says (ready.signer_is i) (m.read i)) ∙ m.signed;
      told = may;
    }

    settled_again : (made : Made) → IsMade says (holds (public_key s.key)) r g s days made → IsSettled made.settled
    settled_again made m = record {
      cert = m.cert;
      read = (λ i. cert_of (certificate_in (m.settled i))) ∙ m.read;
      fields = m.settled ∙ (λ i. settled_of (certificate_in (sym m.settled i)) m.cert.body);
    }
      where
        certificate_in : Settled → List ℕ
        certificate_in t = t.certificate

    new_readable : (made : Made) → IsMade says (holds (public_key s.key)) r g s days made → IsReadable r.body.holder (record { request = c.bytes; key = r.body.key; settled = made.settled })
    new_readable made m = record { asked = r; read = ready.read; reference_is = refl; key_is = refl; settled = settled_again made m }

    serves_left : (o : Out) (made : Made) (after : List Row) → IsMade says (holds (public_key s.key)) r g s days made → SignsMore signed (pair_due ∷ []) → MayLeave issuing o made.text → NamesKey c o → Tells issuing (entries_at c.desk rows) (delivery c o (Some made.text) k p (is_held holds c)) o → after ≡ rows ++ row_made c r made ∷ [] → Delivers says holds signed c o k p rows after
    serves_left o made after m more may names told is = record {
      left = Some made.text;
      decides = record { left = adds o made m may; told = told };
      rows = is ∙ ap (λ (l : List Row). rows ++ l) (sym (left_is made m));
      signs = held_is ∙ m.is_held;
      pairs = signs_left made m more;
      names = names;
      readable = λ h. subst (λ (x : List Row). AreReadable x) (sym is) (readable_more rows (row_made c r made) (record { request = c.bytes; key = r.body.key; settled = made.settled }) refl (new_readable made m) h);
    }

    may_add : (made : Made) → MayAdd rows (row_made c r made)
    may_add made = record { new = ready.unused; room = ready.room }

    -- what the adding gave
    pub serves_entered : (made : Made) (after : List Row) (result : Result Answer IssueFault) → IsMade says (holds (public_key s.key)) r g s days made → SignsMore signed (pair_due ∷ []) → (result ≡ Err fault.KeeperFault → Rose k.0 k.1) → Enters rows after (row_made c r made) made.text result → Delivers says holds signed c (outcome_of result) k p rows after
    serves_entered made after (Ok (answer.Issued q)) m more rose e = serves_left (Issued q) made after m more e.0 tt (λ i. Some (sym e.0 i)) e.1
    serves_entered made after (Ok (answer.Kept q)) m more rose e = absurd (e (may_add made))
    serves_entered made after (Ok (answer.Refused q)) m more rose e = absurd (e (may_add made))
    serves_entered made after (Err fault.KeeperFault) m more rose (inl e) = moved (Faulted KeeperFailed) after e (left_none (Faulted KeeperFailed) (inr (signs_lost (Faulted KeeperFailed) tt more)) tt (rose refl))
    serves_entered made after (Err fault.KeeperFault) m more rose (inr e) = serves_left (Faulted KeeperFailed) made after m more tt tt (rose refl) e
    serves_entered made after (Err fault.NoMemory) m more rose e = moved NoMemory after e (left_none NoMemory (inr (signs_lost NoMemory tt more)) tt tt)
    serves_entered made after (Err fault.ProviderFault) m more rose e = absurd e
    serves_entered made after (Err (fault.NoKey q)) m more rose e = absurd e

    -- a fault that isn't want of memory
    unsigned : (f : IssueFault) → Unmade f signed pair_due → (f ≡ fault.NoMemory → ⊥) → signed.1 ≡ signed.0
    unsigned f (inl same) not = same
    unsigned f (inr more) not = absurd (not more.0)

    not_provider : fault.ProviderFault ≡ fault.NoMemory → ⊥
    not_provider e = absurd (cc)

    not_key : (q : _) → fault.NoKey q ≡ fault.NoMemory → ⊥
    not_key q e = absurd (cc)

    -- the making failed
    pub serves_unmade : (f : IssueFault) → Unmade f signed pair_due → MakeCause f p.0 p.1 (holds (public_key s.key)) s.reference → Delivers says holds signed c (outcome_of (Err f)) k p rows rows
    serves_unmade fault.ProviderFault u e = serves_none (Faulted ProviderFailed) (unsigned fault.ProviderFault u not_provider) tt e
    serves_unmade (fault.NoKey q) u e = serves_none (Faulted (KeyMissing q)) (unsigned (fault.NoKey q) u (not_key q)) (s, (λ i. signer_in c (ready.read i)) ∙ ready.signer_is, sym e.1) (ready.new, ready.allowed, held_is ∙ e.0)
    serves_unmade fault.NoMemory (inl same) e = serves_none NoMemory same tt tt
    serves_unmade fault.NoMemory (inr more) e = left_none NoMemory (inr (signs_lost NoMemory tt more.1)) tt tt
    serves_unmade fault.KeeperFault u e = absurd e

pub keeper_rose : {T : Type 0} (before now : ℕ) (result : Result T IssueFault) → KeeperCaused before now result → result ≡ Err fault.KeeperFault → Rose before now
keeper_rose {T} before now result h e = subst (λ (x : Result T IssueFault). IfErr x (λ f. KeeperCause f before now)) e h.failed

-- ---- counts may begin earlier

pub rose_earlier : (first before now : ℕ) → first ≤ before → Rose before now → Rose first now
rose_earlier first before now le r = omega (arith, le, r)

tells_earlier : (c : Case) (o : Out) (left : Option (List ℕ)) (earlier : IssueEntries) (held : Bool) (k0 k1 k2 p0 p1 p2 : ℕ) → k0 ≤ k1 → p0 ≤ p1 → Tells issuing earlier (delivery c o left (k1, k2) (p1, p2) held) o → Tells issuing earlier (delivery c o left (k0, k2) (p0, p2) held) o
tells_earlier c (Issued q) left earlier held k0 k1 k2 p0 p1 p2 kl pl t = t
tells_earlier c (Kept q) left earlier held k0 k1 k2 p0 p1 p2 kl pl t = t
tells_earlier c (Refused q) left earlier held k0 k1 k2 p0 p1 p2 kl pl t = t
tells_earlier c (Faulted KeeperFailed) left earlier held k0 k1 k2 p0 p1 p2 kl pl t = rose_earlier k0 k1 k2 kl t
tells_earlier c (Faulted ProviderFailed) left earlier held k0 k1 k2 p0 p1 p2 kl pl t = rose_earlier p0 p1 p2 pl t
tells_earlier c (Faulted (KeyMissing q)) left earlier held k0 k1 k2 p0 p1 p2 kl pl t = t
tells_earlier c NoMemory left earlier held k0 k1 k2 p0 p1 p2 kl pl t = tt

left_earlier : (says : Says) (c : Case) (o : Out) (full left : Option (List ℕ)) (earlier : IssueEntries) (held : Bool) (k k' p p' : ℕ × ℕ) → IfSome left (Adds issuing (is_signed says) earlier (delivery c o full k p held)) → IfSome left (Adds issuing (is_signed says) earlier (delivery c o full k' p' held))
left_earlier says c o full None earlier held k k' p p' h = tt
left_earlier says c o full (Some q) earlier held k k' p p' h = record { new = h.new; number = h.number; allowed = h.allowed; body = h.body; signed = h.signed; told = h.told }

pub serves_earlier : (says : Says) (holds : Holds) (signed : Signed × Signed) (c : Case) (o : Out) (k0 k1 k2 p0 p1 p2 : ℕ) (b a : List Row) → k0 ≤ k1 → p0 ≤ p1 → Delivers says holds signed c o (k1, k2) (p1, p2) b a → Delivers says holds signed c o (k0, k2) (p0, p2) b a
serves_earlier says holds signed c o k0 k1 k2 p0 p1 p2 b a kl pl h = record {
  left = h.left;
  decides = record {
    left = left_earlier says c o h.left h.left (entries_at c.desk b) (is_held holds c) (k1, k2) (k0, k2) (p1, p2) (p0, p2) h.decides.left;
    told = tells_earlier c o h.left (entries_at c.desk b) (is_held holds c) k0 k1 k2 p0 p1 p2 kl pl h.decides.told;
  };
  rows = h.rows;
  signs = h.signs;
  pairs = h.pairs;
  names = h.names;
  readable = h.readable;
}

-- ---- a delivery with what it signed

pub serves_of : (says : Says) (holds : Holds) (signed : Signed × Signed) (c : Case) (o : Out) (k p : ℕ × ℕ) (b a : List Row) → Delivers says holds signed c o k p b a → Serves says holds c o k p b a
serves_of says holds signed c o k p b a h = record { left = h.left; decides = h.decides; rows = h.rows; signs = h.signs; names = h.names; readable = h.readable }

pub signs_of : (says : Says) (holds : Holds) (signed : Signed × Signed) (c : Case) (o : Out) (k p : ℕ × ℕ) (b a : List Row) → Delivers says holds signed c o k p b a → SignsServed c o signed b a
signs_of says holds signed c o k p b a h = record { left = h.left; rows = h.rows; pairs = h.pairs }
