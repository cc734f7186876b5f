-- What a call owes whatever keeper it has, over its steps.
use Rattle.std.proofs.Common.{◌≡◌, ℕ, List, [], ◌∷◌, Some, None, Bool, true, false, cond, refl, sym, ◌∙◌, subst, inl, inr}
use Rattle.std.specs.Prelude.{Result, Ok, Err, IfOk, IfErr}
use Rattle.std.specs.Str.{bytes_eq}
use Rattle.signature_provider.specs.Provider.{Says, Holds, Signed, public_key}
use Rattle.cvc_grammar.specs.declared.request.Request.{Request}
use Rattle.cvc_grammar.specs.declared.refusal.CvcRefusal.{CvcRefusal}
use Rattle.cvc_grammar.specs.RequestOrder.{read_request}
use Rattle.policy_limits.specs.declared.registration.Registration.{Registration}
use Rattle.keeper.specs.declared.rows.Row.{Row}
use Rattle.keeper.specs.declared.rows.Part.{Part}
use Rattle.keeper.specs.declared.rows.Part.TheVariants as part
use Rattle.issue_core.specs.declared.rule.Rule.{Rule}
use Rattle.issue_core.specs.declared.rule.Rule.TheVariants as rule
use Rattle.issue_core.specs.declared.fault.IssueFault.{IssueFault}
use Rattle.issue_core.specs.declared.fault.IssueFault.TheVariants as fault
use Rattle.issue_core.specs.declared.issuing.seen.Seen.{Seen}
use Rattle.issue_core.specs.declared.issuing.serving.Answer.{Answer}
use Rattle.issue_core.specs.declared.issuing.serving.Answer.TheVariants as answer
use Rattle.issue_core.specs.declared.issuing.serving.Call.{Call}
use Rattle.issue_core.specs.declared.issuing.signer_row.Signer.{Signer}
use Rattle.issue_core.specs.Issuing.Rules.{Case}
use Rattle.issue_core.specs.Issuing.Causes.{KeeperCause, KeeperCaused}
use Rattle.issue_core.specs.Issuing.SeenRules.{first_seen, verdict_rule}
use Rattle.issue_core.specs.Issuing.Causes.{IssueCause, MakeCause, MakeCaused, VerdictCause, VerdictCaused, StaysTrue}
use Rattle.issue_core.specs.Issuing.Calls.{IsCaseOf, kept_answer}
use Rattle.issue_core.specs.Issuing.AnswerCauses.{HasSeen, MayMake, Answered, AddingSays}
use Rattle.issue_core.specs.Issuing.Signed.{SignsMore, Unmade}
use Rattle.issue_core.specs.Issuing.ProviderCalls.{Standing, standing, MayRefuseUnasked, EndsUnasked, EndsByVerdicts, EndsUnsigned, EndsSigned, AskedVerdicts, due_pair, SignsAtMost, AskedToSign, MissesKey, OwesAsking, OwesAll}
use Rattle.issue_core.proofs.IssuingDesk.Answering.{IsOfRows, IsOfVerdicts, given, first_is_of_rows, verdict_is_of_verdicts}
use Rattle.issue_core.proofs.IssuingDesk.Messages.{reads}
use Rattle.issue_core.proofs.IssuingDesk.Caused.{cause_unseen, cause_still, cause_unasked, cause_unmade, cause_made, stays_asked}

stays_same : (s : Standing) → StaysTrue s.says s.says s.holds s.holds s.signed s.signed
stays_same s = stays_asked s.says s.says s.holds s.holds s.signed s.signed refl refl refl

-- ---- before the provider is asked

pub owes_unasked : (said : Says) (c : Case) (k : ℕ × ℕ) (was : Standing) (result : Result Answer IssueFault) →
    Answered said was.says was.holds c result → IssueCause (MissesKey said was.holds c) k (was.faults, was.faults) result → EndsUnasked result → OwesAll said c k was was result
owes_unasked said c k was result answered cause ends = (
  record { answered = answered; cause = cause; provider = stays_same was },
  inl (record { ends = ends; says = refl; holds = refl; signed = refl; faults = refl }),
)

fault_unasked : (f : IssueFault) (k : ℕ × ℕ) → KeeperCause f k.0 k.1 → EndsUnasked (Err f)
fault_unasked fault.KeeperFault k e = tt
fault_unasked fault.NoMemory k e = tt
fault_unasked fault.ProviderFault k e = absurd e
fault_unasked (fault.NoKey r) k e = absurd e

-- a look failed
pub owes_unseen : {A : Type 0} (said : Says) (c : Case) (k : ℕ × ℕ) (was : Standing) (f : IssueFault) (r : Result A IssueFault) → r ≡ Err f → KeeperCause f k.0 k.1 → KeeperCaused k.0 k.1 r → OwesAll said c k was was (Err f)
owes_unseen said c k was f r is e h = owes_unasked said c k was (Err f) tt (cause_unseen (MissesKey said was.holds c) k was.faults f r (Err f) is refl e h) (fault_unasked f k e)

pub owes_unread : (said : Says) (c : Case) (k : ℕ) (was : Standing) (e : CvcRefusal) → read_request c.bytes ≡ Err e → OwesAll said c (k, k) was was (Ok (answer.Refused (rule.Syntax e)))
owes_unread said c k was e is = owes_unasked said c (k, k) was (Ok (answer.Refused (rule.Syntax e))) (sym (reads c.bytes) ∙ is) (cause_still (MissesKey said was.holds c) k was.faults (Ok (answer.Refused (rule.Syntax e))) tt) tt

kept_or_used : (b : Bool) (p : List ℕ) → EndsUnasked (Ok (cond b (answer.Kept p) (answer.Refused rule.Used)))
kept_or_used true p = tt
kept_or_used false p = tt

again_ends : (p : Part) (bytes : List ℕ) → EndsUnasked (Ok (kept_answer p bytes))
again_ends (part.Issued p) bytes = kept_or_used (bytes_eq p.request bytes) p.settled.certificate
again_ends (part.Register r d) bytes = tt
again_ends (part.Own p) bytes = tt
again_ends (part.Ca p) bytes = tt

pub kept_ends : (p : Part) (bytes : List ℕ) (a : Answer) → a ≡ kept_answer p bytes → EndsUnasked (Ok a)
kept_ends p bytes a is = subst (λ (x : Answer). EndsUnasked (Ok x)) (sym is) (again_ends p bytes)

of_rows_unasked : (k : Rule) → IsOfRows k → MayRefuseUnasked k
of_rows_unasked (rule.Syntax e) h = tt
of_rows_unasked rule.Used h = tt
of_rows_unasked rule.Holder h = tt
of_rows_unasked rule.Authority h = tt
of_rows_unasked rule.AuthorityExpired h = tt
of_rows_unasked rule.Domain h = tt
of_rows_unasked rule.OuterMissing h = tt
of_rows_unasked rule.OuterUnknown h = tt
of_rows_unasked rule.OuterExpired h = tt
of_rows_unasked rule.LiveLimit h = tt
of_rows_unasked rule.Short h = tt
of_rows_unasked rule.Full h = tt
of_rows_unasked rule.Inner h = absurd h
of_rows_unasked rule.Outer h = absurd h

pub seen_ends : (day : ℕ) (r : Request) (g : Registration) (seen : Seen) (k : Rule) → first_seen day r g seen ≡ Some k → EndsUnasked (Ok (answer.Refused k))
seen_ends day r g seen k first = of_rows_unasked k (given IsOfRows _ k first (first_is_of_rows day r g seen))

-- ---- the verdicts

verdict_ends : (k : Rule) → IsOfVerdicts k → EndsByVerdicts (Ok (answer.Refused k))
verdict_ends rule.Inner h = inl refl
verdict_ends rule.Outer h = inr refl
verdict_ends (rule.Syntax e) h = absurd h
verdict_ends rule.Used h = absurd h
verdict_ends rule.Holder h = absurd h
verdict_ends rule.Authority h = absurd h
verdict_ends rule.AuthorityExpired h = absurd h
verdict_ends rule.Domain h = absurd h
verdict_ends rule.OuterMissing h = absurd h
verdict_ends rule.OuterUnknown h = absurd h
verdict_ends rule.OuterExpired h = absurd h
verdict_ends rule.LiveLimit h = absurd h
verdict_ends rule.Short h = absurd h
verdict_ends rule.Full h = absurd h

fault_ends : (f : IssueFault) (p : ℕ × ℕ) → VerdictCause f p.0 p.1 → EndsByVerdicts (Err f)
fault_ends fault.ProviderFault p e = tt
fault_ends fault.NoMemory p e = absurd e
fault_ends fault.KeeperFault p e = absurd e
fault_ends (fault.NoKey r) p e = absurd e

-- the same provider, but for its count
pub record IsSameProvider (was now : Standing) : Type 0 where
  pub says : now.says ≡ was.says
  pub holds : now.holds ≡ was.holds
  pub signed : now.signed ≡ was.signed

module _ (said : Says) (c : Case) (r : Request) (g : Registration) (seen : Seen) (saw : HasSeen c r g seen) (clear : first_seen c.day r g seen ≡ None) (k : ℕ) (was now : Standing) (same : IsSameProvider was now) where
  asked_verdicts : (result : Result Answer IssueFault) → EndsByVerdicts result → AskedVerdicts c was now result
  asked_verdicts result ends = record { ends = ends; request = r; registration = g; seen = seen; saw = saw; unbroken = clear; says = same.says; holds = same.holds; signed = same.signed }

  pub owes_asked : (result : Result Answer IssueFault) → Answered said now.says was.holds c result → IssueCause (MissesKey said was.holds c) (k, k) (was.faults, now.faults) result → EndsByVerdicts result → OwesAsking said c (k, k) was now result
  owes_asked result answered cause ends = (
    record { answered = answered; cause = cause; provider = stays_asked was.says now.says was.holds now.holds was.signed now.signed same.says same.holds same.signed },
    inl (asked_verdicts result ends),
  )

  -- a verdict failed
  pub owes_no_verdict : {A : Type 0} (f : IssueFault) (q : Result A IssueFault) → q ≡ Err f → VerdictCause f was.faults now.faults → VerdictCaused was.faults now.faults q → OwesAsking said c (k, k) was now (Err f)
  owes_no_verdict f q is e h = owes_asked (Err f) tt (cause_unasked (MissesKey said was.holds c) k (was.faults, now.faults) f q (Err f) is refl e h) (fault_ends f (was.faults, now.faults) e)

pub refusal_ends : (said : Says) (r : Request) (seen : Seen) (k : Rule) → Some k ≡ verdict_rule said r seen.voucher → EndsByVerdicts (Ok (answer.Refused k))
refusal_ends said r seen k is = verdict_ends k (given IsOfVerdicts _ k (sym is) (verdict_is_of_verdicts said r seen.voucher))

-- ---- the making and the adding

module _ (said : Says) (c : Case) (r : Request) (g : Registration) (s : Signer) (days : ℕ × ℕ) (may : MayMake said c r g s days) where
  to_sign : (was now : Standing) (result : Result Answer IssueFault) → SignsAtMost (due_pair r g s days) (was.signed, now.signed) result → AskedToSign said c was now result
  to_sign was now result signs = record { request = r; registration = g; signer = s; days = days; may = may; signs = signs }

  -- memory is wanting before the making
  pub owes_wanting : (k : ℕ) (was : Standing) → OwesAsking said c (k, k) was was (Err fault.NoMemory)
  owes_wanting k was = (
    record { answered = tt; cause = cause_still (MissesKey said was.holds c) k was.faults (Err fault.NoMemory) tt; provider = stays_same was },
    inr (to_sign was was (Err fault.NoMemory) (inl (tt, refl))),
  )

  names_key : (holds : Holds) (p : ℕ × ℕ) (f : IssueFault) → MakeCause f p.0 p.1 (holds (public_key s.key)) s.reference → (q : List ℕ) → f ≡ fault.NoKey q → MissesKey said holds c q
  names_key holds p (fault.NoKey x) e q is = let same : x ≡ q = cc in record { request = r; registration = g; signer = s; days = days; may = may; named = sym e.1 ∙ same; missing = e.0 }
  names_key holds p fault.KeeperFault e q is = absurd (cc)
  names_key holds p fault.ProviderFault e q is = absurd (cc)
  names_key holds p fault.NoMemory e q is = absurd (cc)

  unsigned_ends : (held : Bool) (p : ℕ × ℕ) (f : IssueFault) → MakeCause f p.0 p.1 held s.reference → EndsUnsigned (Err f)
  unsigned_ends held p fault.ProviderFault e = tt
  unsigned_ends held p (fault.NoKey x) e = tt
  unsigned_ends held p fault.NoMemory e = tt
  unsigned_ends held p fault.KeeperFault e = absurd e

  unmade_signs : (held : Bool) (p : ℕ × ℕ) (signed : Signed × Signed) (f : IssueFault) → MakeCause f p.0 p.1 held s.reference → Unmade f signed (due_pair r g s days) → SignsAtMost (due_pair r g s days) signed (Err f)
  unmade_signs held p signed f e (inl same) = inl (unsigned_ends held p f e, same)
  unmade_signs held p signed f e (inr more) = inr (subst (λ (x : IssueFault). EndsSigned (Err x)) (sym more.0) tt, more.1)

  -- the making failed
  pub owes_unmade : {A : Type 0} (k : ℕ) (was now : Standing) (f : IssueFault) (q : Result A IssueFault) → q ≡ Err f → MakeCause f was.faults now.faults (was.holds (public_key s.key)) s.reference → MakeCaused was.faults now.faults (was.holds (public_key s.key)) s.reference q →
      StaysTrue was.says now.says was.holds now.holds was.signed now.signed → Unmade f (was.signed, now.signed) (due_pair r g s days) → OwesAsking said c (k, k) was now (Err f)
  owes_unmade k was now f q is e h stays signs = (
    record {
      answered = tt;
      cause = cause_unmade (MissesKey said was.holds c) (was.holds (public_key s.key)) s.reference k (was.faults, now.faults) f q (Err f) is refl e h (names_key was.holds (was.faults, now.faults) f e);
      provider = stays;
    },
    inr (to_sign was now (Err f) (unmade_signs (was.holds (public_key s.key)) (was.faults, now.faults) (was.signed, now.signed) f e signs)),
  )

-- ---- how the adding ends

used_of : (b : Bool) (p : List ℕ) (k : Rule) → answer.Refused k ≡ cond b (answer.Kept p) (answer.Refused rule.Used) → k ≡ rule.Used
used_of true p k e = absurd (cc)
used_of false p k e = cc

stands_used : (q : Part) (bytes : List ℕ) (k : Rule) → answer.Refused k ≡ kept_answer q bytes → k ≡ rule.Used
stands_used (part.Issued p) bytes k e = used_of (bytes_eq p.request bytes) p.settled.certificate k e
stands_used (part.Register r d) bytes k e = cc
stands_used (part.Own p) bytes k e = cc
stands_used (part.Ca p) bytes k e = cc

answer_ends : (row : Row) (certificate bytes : List ℕ) (a : Answer) → AddingSays row certificate bytes a → EndsSigned (Ok a)
answer_ends row certificate bytes (answer.Issued p) h = tt
answer_ends row certificate bytes (answer.Kept p) h = tt
answer_ends row certificate bytes (answer.Refused k) (inl h) = inl (stands_used h.kept.part bytes k h.says)
answer_ends row certificate bytes (answer.Refused k) (inr h) = inr h

adding_fault : (f : IssueFault) (k : ℕ × ℕ) → KeeperCause f k.0 k.1 → EndsSigned (Err f)
adding_fault fault.KeeperFault k e = tt
adding_fault fault.NoMemory k e = tt
adding_fault fault.ProviderFault k e = absurd e
adding_fault (fault.NoKey r) k e = absurd e

pub adding_ends : (row : Row) (certificate bytes : List ℕ) (k : ℕ × ℕ) (result : Result Answer IssueFault) → IfOk result (AddingSays row certificate bytes) → IfErr result (λ f. KeeperCause f k.0 k.1) → EndsSigned result
adding_ends row certificate bytes k (Ok a) says failed = answer_ends row certificate bytes a says
adding_ends row certificate bytes k (Err f) says failed = adding_fault f k failed

module _ (said : Says) (c : Case) (r : Request) (g : Registration) (s : Signer) (days : ℕ × ℕ) (may : MayMake said c r g s days) where
  pub owes_entered : {A : Type 0} (k : ℕ × ℕ) (was now : Standing) (made : A) (q : Result A IssueFault) (result : Result Answer IssueFault) → q ≡ Ok made → Answered said now.says was.holds c result →
      MakeCaused was.faults now.faults (was.holds (public_key s.key)) s.reference q → KeeperCaused k.0 k.1 result → StaysTrue was.says now.says was.holds now.holds was.signed now.signed →
      SignsMore (was.signed, now.signed) (due_pair r g s days ∷ []) → EndsSigned result → OwesAsking said c k was now result
  owes_entered k was now made q result is answered h e stays more ends = (
    record { answered = answered; cause = cause_made (MissesKey said was.holds c) (was.holds (public_key s.key)) s.reference k (was.faults, now.faults) made q result is h e; provider = stays },
    inr (record { request = r; registration = g; signer = s; days = days; may = may; signs = inr (ends, more) }),
  )

-- ---- a step before that changed nothing

pub same_standing : (a b : Says) (h j : Holds) (s t : Signed) (f g : ℕ) → a ≡ b → h ≡ j → s ≡ t → f ≡ g → standing a h s f ≡ standing b j t g
same_standing a b h j s t f g x y z w = λ i. standing (x i) (y i) (z i) (w i)

pub asking_from : (said : Says) (c : Case) (k : ℕ × ℕ) (was mid now : Standing) (result : Result Answer IssueFault) → mid ≡ was → OwesAsking said c k mid now result → OwesAsking said c k was now result
asking_from said c k was mid now result same h = subst (λ (x : Standing). OwesAsking said c k x now result) same h

-- the case of a call has its day
pub clear_on : (call : Call) (c : Case) (r : Request) (g : Registration) (seen : Seen) → IsCaseOf c call → first_seen call.day r g seen ≡ None → first_seen c.day r g seen ≡ None
clear_on call c r g seen its is = (λ i. first_seen (its.day i) r g seen) ∙ is

-- the verdicts changed nothing but the count
pub asking_agreed : (said : Says) (c : Case) (k : ℕ × ℕ) (was mid now : Standing) (result : Result Answer IssueFault) → mid.says ≡ was.says → mid.holds ≡ was.holds → mid.signed ≡ was.signed → mid.faults ≡ was.faults →
    OwesAsking said c k mid now result → OwesAsking said c k was now result
asking_agreed said c k was mid now result a h s f owed =
    asking_from said c k was mid now result (same_standing mid.says was.says mid.holds was.holds mid.signed was.signed mid.faults was.faults a h s f) owed

pub asking_all : (said : Says) (c : Case) (k0 k1 k2 : ℕ) (was now : Standing) (result : Result Answer IssueFault) → k1 ≡ k0 → OwesAsking said c (k1, k2) was now result → OwesAll said c (k0, k2) was now result
asking_all said c k0 k1 k2 was now result same h = subst (λ (x : ℕ). OwesAll said c (x, k2) was now result) same (h.0, inr h.1)

pub all_from : (said : Says) (c : Case) (k0 k1 k2 : ℕ) (was now : Standing) (result : Result Answer IssueFault) → k1 ≡ k0 → OwesAll said c (k1, k2) was now result → OwesAll said c (k0, k2) was now result
all_from said c k0 k1 k2 was now result same h = subst (λ (x : ℕ). OwesAll said c (x, k2) was now result) same h
