-- Causes of answers over the steps of a call, for every keeper.
use Rattle.std.proofs.Common.{◌≡◌, ℕ, List, Option, Some, None, Bool, true, false, cond, refl, sym, ◌∙◌, ap, subst, inl, inr}
use Rattle.std.specs.Prelude.{Result, Ok, Err, IfOk, IfSome, is_none, nat_le}
use Rattle.std.specs.Str.{bytes_eq}
use Rattle.holder_reference.specs.Reference.{holder_part}
use Rattle.signature_provider.specs.Provider.{Says, Holds, public_key}
use Rattle.cvc_grammar.specs.declared.request.Request.{Request}
use Rattle.cvc_grammar.specs.declared.request.Outer.{Outer}
use Rattle.policy_limits.specs.Setup.{registration}
use Rattle.policy_limits.specs.declared.registration.Registration.{Registration}
use Rattle.keeper.specs.declared.rows.Row.{Row}
use Rattle.keeper.specs.declared.rows.Part.{Part}
use Rattle.keeper.specs.declared.rows.Part.TheVariants as part
use Rattle.keeper.specs.declared.rows.Table.{Table}
use Rattle.keeper.specs.declared.rows.Table.TheVariants as table
use Rattle.keeper.specs.declared.keeping.KeepRefusal.{KeepRefusal}
use Rattle.keeper.specs.declared.keeping.KeepRefusal.TheVariants as refusal
use Rattle.keeper.specs.Rows.{table_of, most_rows}
use Rattle.keeper.specs.Keeping.{IsAsked, AddAsked}
use Rattle.issue_core.specs.declared.rule.Rule.{Rule}
use Rattle.issue_core.specs.declared.rule.Rule.TheVariants as rule
use Rattle.issue_core.specs.declared.fault.IssueFault.{IssueFault}
use Rattle.issue_core.specs.declared.issuing.making.Made.{Made}
use Rattle.issue_core.specs.declared.issuing.seen.Seen.{Seen}
use Rattle.issue_core.specs.declared.issuing.serving.Answer.{Answer}
use Rattle.issue_core.specs.declared.issuing.serving.Answer.TheVariants as answer
use Rattle.issue_core.specs.declared.issuing.serving.Call.{Call}
use Rattle.issue_core.specs.Issuing.Readings.{request_of, cert_of}
use Rattle.issue_core.specs.declared.issuing.signer_row.Signer.{Signer}
use Rattle.issue_core.specs.declared.issuing.voucher_row.Voucher.{Voucher}
use Rattle.issue_core.specs.Issuing.Rules.{Case, registered, not_registered}
use Rattle.issue_core.specs.Issuing.SeenRules.{first_seen, in_order, is_short, is_expired_at, has_other_domain, is_outer_missing, is_outer_unknown, is_outer_expired, inner_says, outer_says, outer_rule, verdict_rule, IsGranted}
use Rattle.issue_core.specs.Issuing.Calls.{IsCaseOf, IsMade, kept_answer, added_answer}
use Rattle.issue_core.specs.Issuing.AnswerCauses.{IsSeenAsked, IsAdmitted, HasSeen, MayMake, SeenBreaks, VerdictBreaks, RefusalCause, AnswerCause, Answered, AddingSays}

-- ---- which rules a step answers

-- one of the rules 4 to 12
abbrev pub IsOfRows : Rule → Type 0
IsOfRows (rule.Syntax e) = ⊥
IsOfRows rule.Used = ⊥
IsOfRows rule.Holder = ⊥
IsOfRows rule.Inner = ⊥
IsOfRows rule.Outer = ⊥
IsOfRows k = Unit {0}

-- one of the rules 13 and 14
abbrev pub IsOfVerdicts : Rule → Type 0
IsOfVerdicts rule.Inner = Unit {0}
IsOfVerdicts rule.Outer = Unit {0}
IsOfVerdicts k = ⊥

or_next : (P : Rule → Type 0) (b : Bool) (j : Rule) (o : Option Rule) → P j → IfSome o P → IfSome (cond b (Some j) o) P
or_next P true j o here next = here
or_next P false j o here next = next

in_order_among : (a e d m u x l s f : Bool) → IfSome (in_order a e d m u x l s f) IsOfRows
in_order_among a e d m u x l s f =
    or_next IsOfRows a rule.Authority _ tt (or_next IsOfRows e rule.AuthorityExpired _ tt (or_next IsOfRows d rule.Domain _ tt
    (or_next IsOfRows m rule.OuterMissing _ tt (or_next IsOfRows u rule.OuterUnknown _ tt (or_next IsOfRows x rule.OuterExpired _ tt
    (or_next IsOfRows l rule.LiveLimit _ tt (or_next IsOfRows s rule.Short _ tt (or_next IsOfRows f rule.Full None tt tt))))))))

pub first_is_of_rows : (day : ℕ) (r : Request) (g : Registration) (seen : Seen) → IfSome (first_seen day r g seen) IsOfRows
first_is_of_rows day r g seen = in_order_among (is_none seen.signer) (is_expired_at day seen.signer) (has_other_domain r seen.signer)
    (is_outer_missing g.first r.outer seen.held.all) (is_outer_unknown r.outer seen.voucher) (is_outer_expired day seen.voucher)
    (nat_le g.live_limit seen.held.live) (is_short day g seen.signer) (nat_le most_rows seen.count)

if_agreed : (b : Bool) → IfSome (cond b None (Some rule.Outer)) IsOfVerdicts
if_agreed true = tt
if_agreed false = tt

outer_is_of_verdicts : (said : Says) (r : Request) (o : Option Outer) (v : Option Voucher) → IfSome (outer_rule said r o v) IsOfVerdicts
outer_is_of_verdicts said r (Some o) (Some v) = if_agreed (outer_says said r o v)
outer_is_of_verdicts said r (Some o) None = tt
outer_is_of_verdicts said r None v = tt

if_inner : (b : Bool) (o : Option Rule) → IfSome o IsOfVerdicts → IfSome (cond b o (Some rule.Inner)) IsOfVerdicts
if_inner true o h = h
if_inner false o h = tt

pub verdict_is_of_verdicts : (said : Says) (r : Request) (v : Option Voucher) → IfSome (verdict_rule said r v) IsOfVerdicts
verdict_is_of_verdicts said r v = if_inner (inner_says said r) (outer_rule said r r.outer v) (outer_is_of_verdicts said r r.outer v)

pub given : (P : Rule → Type 0) (o : Option Rule) (k : Rule) → o ≡ Some k → IfSome o P → P k
given P o k is h = subst (λ (x : Option Rule). IfSome x P) is h

module _ (said says : Says) (holds : Holds) (c : Case) where
  rows_refuse : (k : Rule) → IsOfRows k → SeenBreaks c k → RefusalCause said c k
  rows_refuse (rule.Syntax e) among h = absurd among
  rows_refuse rule.Used among h = absurd among
  rows_refuse rule.Holder among h = absurd among
  rows_refuse rule.Authority among h = h
  rows_refuse rule.AuthorityExpired among h = h
  rows_refuse rule.Domain among h = h
  rows_refuse rule.OuterMissing among h = h
  rows_refuse rule.OuterUnknown among h = h
  rows_refuse rule.OuterExpired among h = h
  rows_refuse rule.LiveLimit among h = h
  rows_refuse rule.Short among h = h
  rows_refuse rule.Full among h = inl h
  rows_refuse rule.Inner among h = absurd among
  rows_refuse rule.Outer among h = absurd among

  verdicts_refuse : (k : Rule) → IsOfVerdicts k → VerdictBreaks said c k → RefusalCause said c k
  verdicts_refuse (rule.Syntax e) among h = absurd among
  verdicts_refuse rule.Used among h = absurd among
  verdicts_refuse rule.Holder among h = absurd among
  verdicts_refuse rule.Authority among h = absurd among
  verdicts_refuse rule.AuthorityExpired among h = absurd among
  verdicts_refuse rule.Domain among h = absurd among
  verdicts_refuse rule.OuterMissing among h = absurd among
  verdicts_refuse rule.OuterUnknown among h = absurd among
  verdicts_refuse rule.OuterExpired among h = absurd among
  verdicts_refuse rule.LiveLimit among h = absurd among
  verdicts_refuse rule.Short among h = absurd among
  verdicts_refuse rule.Full among h = absurd among
  verdicts_refuse rule.Inner among h = h
  verdicts_refuse rule.Outer among h = h

  -- ---- a row under the number

  row_decides : (r : Request) (row : Row) (b : Bool) (p : List ℕ) → request_of c.bytes ≡ Ok r → IsAsked table.Issued c.desk r.body.holder row → cond b (answer.Kept p) (answer.Refused rule.Used) ≡ kept_answer row.part c.bytes → AnswerCause said says holds c (cond b (answer.Kept p) (answer.Refused rule.Used))
  row_decides r row true p read asked is = record { request = r; read = read; row = row; asked = asked; says = is }
  row_decides r row false p read asked is = record { request = r; read = read; row = row; asked = asked; says = is }

  part_decides : (r : Request) (row : Row) (q : Part) → request_of c.bytes ≡ Ok r → IsAsked table.Issued c.desk r.body.holder row → kept_answer q c.bytes ≡ kept_answer row.part c.bytes → AnswerCause said says holds c (kept_answer q c.bytes)
  part_decides r row (part.Issued p) read asked is = row_decides r row (bytes_eq p.request c.bytes) p.settled.certificate read asked is
  part_decides r row (part.Register q d) read asked is = record { request = r; read = read; row = row; asked = asked; says = is }
  part_decides r row (part.Own p) read asked is = record { request = r; read = read; row = row; asked = asked; says = is }
  part_decides r row (part.Ca p) read asked is = record { request = r; read = read; row = row; asked = asked; says = is }

  pub says_again : (r : Request) (row : Row) (a : Answer) → request_of c.bytes ≡ Ok r → IsAsked table.Issued c.desk r.body.holder row → a ≡ kept_answer row.part c.bytes → AnswerCause said says holds c a
  says_again r row a read asked is = subst (λ (x : Answer). AnswerCause said says holds c x) (sym is) (part_decides r row row.part read asked refl)

  -- ---- what was seen, and the verdicts

  pub says_seen : (r : Request) (g : Registration) (seen : Seen) (k : Rule) → HasSeen c r g seen → first_seen c.day r g seen ≡ Some k → AnswerCause said says holds c (answer.Refused k)
  says_seen r g seen k saw is = rows_refuse k (given IsOfRows _ k is (first_is_of_rows c.day r g seen)) (record { request = r; registration = g; seen = seen; saw = saw; first = is })

  pub says_verdict : (r : Request) (g : Registration) (seen : Seen) (k : Rule) → HasSeen c r g seen → first_seen c.day r g seen ≡ None → verdict_rule said r seen.voucher ≡ Some k → AnswerCause said says holds c (answer.Refused k)
  says_verdict r g seen k saw clear is = verdicts_refuse k (given IsOfVerdicts _ k is (verdict_is_of_verdicts said r seen.voucher)) (record { request = r; registration = g; seen = seen; saw = saw; unbroken = clear; first = is })

  -- ---- the adding

  module _ (r : Request) (g : Registration) (s : Signer) (days : ℕ × ℕ) (may : MayMake said c r g s days) where
    asked_for : (row kept : Row) → row.desk ≡ c.desk → row.reference ≡ r.body.holder → table_of row.part ≡ table.Issued → IsAsked (table_of row.part) row.desk row.reference kept → IsAsked table.Issued c.desk r.body.holder kept
    asked_for row kept d n t h = subst (λ (x : ℕ × List ℕ). IsAsked table.Issued x.0 x.1 kept) (λ i. (d i, n i)) (subst (λ (x : Table). IsAsked x row.desk row.reference kept) t h)

    pub says_added : (made : Made) (row : Row) (a : Answer) → IsMade says (holds (public_key s.key)) r g s days made → row.desk ≡ c.desk → row.reference ≡ r.body.holder → table_of row.part ≡ table.Issued → AddingSays row made.text c.bytes a → AnswerCause said says holds c a
    says_added made row (answer.Issued p) m d n t h = record {
      request = r;
      registration = g;
      signer = s;
      days = days;
      may = may;
      cert = m.cert;
      read = ap cert_of h ∙ m.read;
      body = m.body;
      signed = m.signed;
      is_held = m.is_held;
    }
    says_added made row (answer.Kept p) m d n t h = says_again r h.kept (answer.Kept p) may.cleared.saw.admitted.read (asked_for row h.kept d n t h.asked) h.says
    says_added made row (answer.Refused k) m d n t (inl h) = says_again r h.kept (answer.Refused k) may.cleared.saw.admitted.read (asked_for row h.kept d n t h.asked) h.says
    says_added made row (answer.Refused k) m d n t (inr h) = subst (λ (x : Rule). RefusalCause said c x) (sym h) (inr (record { request = r; registration = g; signer = s; days = days; may = may }))

-- ---- the adding, by what the keeper answered

stands_refuses : (row : Row) (certificate bytes : List ℕ) (kept : Row) → IsAsked (table_of row.part) row.desk row.reference kept → (a : Answer) → (p : List ℕ) (b : Bool) → a ≡ kept_answer kept.part bytes → a ≡ cond b (answer.Kept p) (answer.Refused rule.Used) → AddingSays row certificate bytes a
stands_refuses row certificate bytes kept asked a p true says is = subst (λ (x : Answer). AddingSays row certificate bytes x) (sym is) (record { kept = kept; asked = asked; says = sym is ∙ says })
stands_refuses row certificate bytes kept asked a p false says is = subst (λ (x : Answer). AddingSays row certificate bytes x) (sym is) (inl (record { kept = kept; asked = asked; says = sym is ∙ says }))

stands_says : (row : Row) (certificate bytes : List ℕ) (kept : Row) → IsAsked (table_of row.part) row.desk row.reference kept → (q : Part) → kept_answer q bytes ≡ kept_answer kept.part bytes → AddingSays row certificate bytes (kept_answer q bytes)
stands_says row certificate bytes kept asked (part.Issued p) is = stands_refuses row certificate bytes kept asked _ p.settled.certificate (bytes_eq p.request bytes) is refl
stands_says row certificate bytes kept asked (part.Register r d) is = inl (record { kept = kept; asked = asked; says = is })
stands_says row certificate bytes kept asked (part.Own p) is = inl (record { kept = kept; asked = asked; says = is })
stands_says row certificate bytes kept asked (part.Ca p) is = inl (record { kept = kept; asked = asked; says = is })

adding_says : {U : Type 0} (row : Row) (certificate bytes : List ℕ) (added : Result U KeepRefusal) → AddAsked row added → IfOk (added_answer added certificate bytes) (AddingSays row certificate bytes)
adding_says row certificate bytes (Ok u) h = refl
adding_says row certificate bytes (Err (refusal.Twice kept)) h = stands_says row certificate bytes kept h kept.part refl
adding_says row certificate bytes (Err refusal.Full) h = inr refl
adding_says row certificate bytes (Err refusal.Failed) h = tt
adding_says row certificate bytes (Err refusal.Absent) h = tt
adding_says row certificate bytes (Err refusal.NoMemory) h = tt

pub entered_says : {U : Type 0} (row : Row) (certificate bytes : List ℕ) (added : Result U KeepRefusal) (result : Result Answer IssueFault) → AddAsked row added → result ≡ added_answer added certificate bytes → IfOk result (AddingSays row certificate bytes)
entered_says row certificate bytes added result h is = subst (λ (x : Result Answer IssueFault). IfOk x (AddingSays row certificate bytes)) (sym is) (adding_says row certificate bytes added h)

-- ---- the making and the adding

module _ (says : Says) (holds : Holds) (call : Call) (r : Request) (g : Registration) (s : Signer) (days : ℕ × ℕ) where
  abbrev WhereMade : Result Answer IssueFault → Type 0
  WhereMade result = (said : Says) → (c : Case) → IsCaseOf c call → MayMake said c r g s days → Answered said says holds c result

  pub answered_entered : (kept : List ℕ) (made : Made) (row : Row) (result : Result Answer IssueFault) → IsMade says (holds (public_key s.key)) r g s days made →
      row ≡ record { desk = call.desk; reference = r.body.holder; part = part.Issued (record { request = kept; key = r.body.key; settled = made.settled }) } → IfOk result (AddingSays row made.text call.bytes.now) → WhereMade result
  answered_entered kept made row (Ok a) m is h said c its may =
      says_added said says holds c r g s days may made row a m ((λ i. (is i).desk) ∙ sym its.desk) (λ i. (is i).reference) (λ i. table_of (is i).part) (subst (λ (x : List ℕ). AddingSays row made.text x a) (sym its.bytes) h)
  answered_entered kept made row (Err f) m is h said c its may = tt

-- ---- the verdicts are yes

pub may_make : (said : Says) (call : Call) (r : Request) (g : Registration) (seen : Seen) (s : Signer) (days : ℕ × ℕ) (c : Case) → IsCaseOf c call → HasSeen c r g seen → IsGranted call.day r g seen s days → None ≡ verdict_rule said r seen.voucher → MayMake said c r g s days
may_make said call r g seen s days c its saw granted is =
    let on : IsGranted c.day r g seen s days = subst (λ (d : ℕ). IsGranted d r g seen s days) (sym its.day) granted in
    record {
      seen = seen;
      cleared = record { saw = saw; unbroken = on.unbroken; agreed = sym is };
      signer_is = on.signer_is;
      dates = on.days_are;
    }

-- ---- the verdicts

module _ (said says : Says) (holds : Holds) (call : Call) (r : Request) (g : Registration) (seen : Seen) where
  abbrev WhereSeen : Result Answer IssueFault → Type 0
  WhereSeen result = (c : Case) → IsCaseOf c call → HasSeen c r g seen → first_seen call.day r g seen ≡ None → Answered said says holds c result

  pub answered_verdict : (k : Rule) → Some k ≡ verdict_rule said r seen.voucher → WhereSeen (Ok (answer.Refused k))
  answered_verdict k is c its saw clear = says_verdict said says holds c r g seen k saw ((λ i. first_seen (its.day i) r g seen) ∙ clear) (sym is)

-- ---- the looks

module _ (said says : Says) (holds : Holds) (call : Call) (r : Request) (g : Registration) where
  abbrev WhereAdmitted : Result Answer IssueFault → Type 0
  WhereAdmitted result = (c : Case) → IsCaseOf c call → IsAdmitted c r g → Answered said says holds c result

  pub has_seen : (c : Case) (seen : Seen) → IsCaseOf c call → IsAdmitted c r g → IsSeenAsked call.desk call.day r g seen → HasSeen c r g seen
  has_seen c seen its admitted asked = record { admitted = admitted; asked = subst (λ (x : ℕ × ℕ). IsSeenAsked x.0 x.1 r g seen) (λ i. (sym its.desk i, sym its.day i)) asked }

  pub answered_seen : (seen : Seen) (k : Rule) → IsSeenAsked call.desk call.day r g seen → first_seen call.day r g seen ≡ Some k → WhereAdmitted (Ok (answer.Refused k))
  answered_seen seen k asked first c its admitted = says_seen said says holds c r g seen k (has_seen c seen its admitted asked) ((λ i. first_seen (its.day i) r g seen) ∙ first)

-- ---- the registration, and the row of the number

module _ (said says : Says) (holds : Holds) (call : Call) (r : Request) where
  abbrev WhereAsked : Result Answer IssueFault → Type 0
  WhereAsked result = (c : Case) → IsCaseOf c call → request_of call.bytes.now ≡ Ok r → Answered said says holds c result

  found_is : (c : Case) (holder : List ℕ) (found : Option Registration) → IsCaseOf c call → holder ≡ holder_part r.body.holder → found ≡ registration call.setup.now call.desk holder → registered c r ≡ found
  found_is c holder found its h is = (λ i. registration (its.setup i) (its.desk i) (sym h i)) ∙ sym is

  read_on : (c : Case) → IsCaseOf c call → request_of call.bytes.now ≡ Ok r → request_of c.bytes ≡ Ok r
  read_on c its is = ap request_of its.bytes ∙ is

  pub answered_unknown : (holder : List ℕ) (found : Option Registration) → holder ≡ holder_part r.body.holder → found ≡ registration call.setup.now call.desk holder → found ≡ None → WhereAsked (Ok (answer.Refused rule.Holder))
  answered_unknown holder found h is none c its read = record { request = r; read = read_on c its read; unregistered = ap not_registered (found_is c holder found its h is ∙ none) }

  pub answered_suspended : (g : Registration) (holder : List ℕ) → holder ≡ holder_part r.body.holder → Some g ≡ registration call.setup.now call.desk holder → g.suspended ≡ true → WhereAsked (Ok (answer.Refused rule.Holder))
  answered_suspended g holder h is out c its read = record { request = r; read = read_on c its read; unregistered = ap not_registered (found_is c holder (Some g) its h is) ∙ out }

  pub admitted_by : (g : Registration) (holder : List ℕ) → holder ≡ holder_part r.body.holder → Some g ≡ registration call.setup.now call.desk holder → g.suspended ≡ false → (c : Case) → IsCaseOf c call → request_of call.bytes.now ≡ Ok r → IsAdmitted c r g
  admitted_by g holder h is active c its read = record { read = read_on c its read; found = found_is c holder (Some g) its h is; active = active }

  pub answered_again : (found : Option Row) (row : Row) (a : Answer) → found ≡ Some row → a ≡ kept_answer row.part call.bytes.now → IfSome found (IsAsked table.Issued call.desk r.body.holder) → WhereAsked (Ok a)
  answered_again found row a some is asked c its read =
      says_again said says holds c r row a (read_on c its read) (subst (λ (x : ℕ). IsAsked table.Issued x r.body.holder row) (sym its.desk) (subst (λ (x : Option Row). IfSome x (IsAsked table.Issued call.desk r.body.holder)) some asked)) (is ∙ ap (kept_answer row.part) (sym its.bytes))
