-- What a run asked obeys both rules of verdicts, whatever is told.
use Rattle.std.proofs.Common.{◌≡◌, List, [], ◌∷◌, Bool, true, false, Some, None, refl, sym, ap, ◌∙◌, subst}
use Rattle.std.specs.declared.option.Option.{Option}
use Rattle.std.proofs.lemmas.List.Elements.{All-nil, All-append, All-weaker}
use Rattle.signature_provider.specs.Provider.{Says, SaysMore, HoldsMore}
use Rattle.policy_limits.specs.Setup.{SetupValue}
use Rattle.holder_core.specs.Receiving.{Question}
use Rattle.eac_net.specs.Items.{Ran, asked_of}
use Rattle.eac_net.specs.Laws.{VerdictsAreTrue, ProvidersGrow, SaidArePassed}
use Rattle.eac_net.specs.Made.{Made, IsGood, AreGood, IsNot, IfRefused}
use Rattle.eac_net.specs.Moment.{Moment}
use Rattle.eac_net.specs.Run.{IsTrueVerdict}
use Rattle.eac_net.specs.Untold.{RanStep, AreRan}
use Rattle.eac_net.specs.Verdicts.{Verdict, said_of, AreSaid}

not_both : (b : Bool) → b ≡ true → b ≡ false → ⊥
not_both b e f = absurd (cc)

-- ---- growth

pub says_then : (a b c : Says) → SaysMore a b → SaysMore b c → SaysMore a c
says_then a b c f g = λ key message signature h. g key message signature (f key message signature h)

pub step_says : (setup : SetupValue) (k k' : Moment) (i : Ran) → RanStep setup k i k' → SaysMore k.says k'.says
step_says setup k k' i s = subst (λ (x : Moment × Moment). SaysMore x.0.says x.1.says) (λ j. (s.from j, s.to j)) s.answers.provider.says_more

step_holds : (setup : SetupValue) (k k' : Moment) (i : Ran) → RanStep setup k i k' → HoldsMore k.holds k'.holds
step_holds setup k k' i s = subst (λ (x : Moment × Moment). HoldsMore x.0.holds x.1.holds) (λ j. (s.from j, s.to j)) s.answers.provider.holds_more

pub says_grow : (setup : SetupValue) (k k' : Moment) (items : List Ran) → AreRan setup k items k' → SaysMore k.says k'.says
says_grow setup k k' [] r = subst (λ (x : Moment). SaysMore k.says x.says) (sym r) (λ key message signature h. h)
says_grow setup k k' (i ∷ items) r = says_then k.says r.0.says k'.says (step_says setup k r.0 i r.1) (says_grow setup r.0 k' items r.2)

holds_grow : (setup : SetupValue) (k k' : Moment) (items : List Ran) → AreRan setup k items k' → HoldsMore k.holds k'.holds
holds_grow setup k k' [] r = subst (λ (x : Moment). HoldsMore k.holds x.holds) (sym r) (λ key h. h)
holds_grow setup k k' (i ∷ items) r = λ key h. holds_grow setup r.0 k' items r.2 key (step_holds setup k r.0 i r.1 key h)

pub providers_grow : ProvidersGrow
providers_grow setup k k' items r = (says_grow setup k k' items r, holds_grow setup k k' items r)

-- ---- verdicts

denied_first : (first said : Says) → SaysMore first said → (q : Question) → said_of said q ≡ false → (b : Bool) → said_of first q ≡ b → said_of first q ≡ false
denied_first first said begun q denied true e = absurd (not_both (said_of said q) (begun q.key q.message q.signature e) denied)
denied_first first said begun q denied false e = e

one_true : (said last : Says) → SaysMore said last → (v : Verdict) → v.yes ≡ said_of said v.question → (b : Bool) → v.yes ≡ b → IsTrueVerdict said last v b
one_true said last ended v is true e = ended v.question.key v.question.message v.question.signature (sym is ∙ e)
one_true said last ended v is false e = sym is ∙ e

begun_by : (first said last : Says) → SaysMore first said → (v : Verdict) (b : Bool) → IsTrueVerdict said last v b → IsTrueVerdict first last v b
begun_by first said last begun v true h = h
begun_by first said last begun v false h = denied_first first said begun v.question h (said_of first v.question) refl

pub verdicts_are_true : VerdictsAreTrue
verdicts_are_true setup k k' [] r = All-nil (λ v. IsTrueVerdict k.says k'.says v v.yes)
verdicts_are_true setup k k' (i ∷ items) r =
    let s = r.1 in
    let said : AreSaid k.says i.asked = subst (λ (x : Moment). AreSaid x.says i.asked) s.from s.answers.asked in
    let now = All-weaker (λ (v : Verdict). v.yes ≡ said_of k.says v.question) (λ v. IsTrueVerdict k.says k'.says v v.yes)
    (λ v is. one_true k.says k'.says (says_grow setup k k' (i ∷ items) r) v is v.yes refl) i.asked said in
    let later = All-weaker (λ v. IsTrueVerdict r.0.says k'.says v v.yes) (λ v. IsTrueVerdict k.says k'.says v v.yes)
    (λ v. begun_by k.says r.0.says k'.says (step_says setup k r.0 i s) v v.yes) (asked_of items) (verdicts_are_true setup r.0 k' items r.2) in
    All-append (λ v. IsTrueVerdict k.says k'.says v v.yes) i.asked (asked_of items) now later

-- ---- made signatures pass

some_is : {A : Type 0} (x y : A) → Some x ≡ Some y → x ≡ y
some_is {A} x y e = ap (λ (o : Option A). value_or o x) e
  where
    value_or : Option A → A → A
    value_or (Some z) d = z
    value_or None d = d

not_refused : (said : Says) (q : Question) → said_of said q ≡ false → (m : Made) → IsGood said m → IsNot q m
not_refused said q denied m g key message signature =
    not_both (said_of said q) ((λ i. said (some_is q.key g.key (sym key ∙ g.there) i) (sym message i) (sym signature i)) ∙ g.good) denied

passed : (said : Says) (made : List Made) → AreGood said made → (q : Question) (b : Bool) → said_of said q ≡ b → IfRefused made q b
passed said made good q true e = tt
passed said made good q false e = All-weaker (IsGood said) (IsNot q) (not_refused said q e) made good

pub said_are_passed : SaidArePassed
said_are_passed said made verdicts good are =
    All-weaker (λ (v : Verdict). v.yes ≡ said_of said v.question) (λ v. IfRefused made v.question v.yes) (λ v is. passed said made good v.question v.yes (sym is)) verdicts are
