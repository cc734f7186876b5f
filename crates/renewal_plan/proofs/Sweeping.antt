-- What the search for a plan knows when it comes to a day.
use Rattle.std.proofs.Common.{◌≡◌, ◌⊎◌, inl, inr, ℕ, suc, ◌+◌, ◌<◌, ◌≤◌, max, List, [], ◌∷◌, length, map, Option, Some, None, Bool, true, false, cond, ◌&&◌, ◌||◌, refl, sym, ◌∙◌, ap, ap₂, subst, subst₂, arith, ◌++◌, reverse, nat_le, nat_lt, nat_eq, IsTrue}
use Rattle.std.specs.Prelude.{filter}
use Rattle.std.proofs.lemmas.Bool.Decides.{leb_tells, eqb_tells}
use Rattle.std.proofs.lemmas.List.{reverse-append}
use Rattle.policy_limits.specs.Validity.{validity, end_by}
use Rattle.renewal_plan.specs.declared.need.Need.{Need}
use Rattle.renewal_plan.specs.Renewals.{Renewal, authority_on, is_closed, renewed_under, renewed_on, last_days, live_on, AreBefore, IsRenewal}
use Rattle.renewal_plan.specs.Plans.{IsPlan, HasUntil, IsRenewed, IsCovered, CoversBefore, Covers, IsNoLater, IsLatest, AreLatest, IsBest, IsUncovered}
use Rattle.renewal_plan.specs.Searching.{bare_from, is_offered, later, later_if, best_by, reaching}

-- ---- lists of renewals

abbrev Each : (Renewal → Type 0) → List Renewal → Type 0
Each P [] = Unit {0}
Each P (r ∷ rs) = P r × Each P rs

each_map : (P Q : Renewal → Type 0) → ((r : Renewal) → P r → Q r) → (rs : List Renewal) → Each P rs → Each Q rs
each_map P Q f [] all = tt
each_map P Q f (r ∷ rs) all = (f r all.0, each_map P Q f rs all.1)

each_both : (P Q R : Renewal → Type 0) → ((r : Renewal) → P r → Q r → R r) → (rs : List Renewal) → Each P rs → Each Q rs → Each R rs
each_both P Q R f [] all more = tt
each_both P Q R f (r ∷ rs) all more = (f r all.0 more.0, each_both P Q R f rs all.1 more.1)

abbrev IsIn : Renewal → List Renewal → Type 0
IsIn r [] = ⊥
IsIn r (x ∷ xs) = (r ≡ x) ⊎ IsIn r xs

each_in : (P : Renewal → Type 0) (rs : List Renewal) → ((r : Renewal) → IsIn r rs → P r) → Each P rs
each_in P [] f = tt
each_in P (r ∷ rs) f = (f r (inl refl), each_in P rs (λ x in_rs. f x (inr in_rs)))

in_each : (P : Renewal → Type 0) (rs : List Renewal) → Each P rs → (r : Renewal) → IsIn r rs → P r
in_each P [] all r is = absurd is
in_each P (x ∷ xs) all r (inl is) = subst P (sym is) all.0
in_each P (x ∷ xs) all r (inr is) = in_each P xs all.1 r is

-- the renewal that covers a day
renewed_by : (rs : List Renewal) (day : ℕ) → IsRenewed rs day → (r : Renewal) × IsIn r rs × (r.0 ≤ day) × (day ≤ r.1)
renewed_by [] day is = absurd is
renewed_by (r ∷ rs) day (inl is) = (r, inl refl, is.0, is.1)
renewed_by (r ∷ rs) day (inr is) = let s = renewed_by rs day is in (s.0, inr s.1, s.2, s.3)

-- a day past all of them isn't covered by one
none_covers : (rs : List Renewal) (day : ℕ) → Each (λ (r : Renewal). r.1 < day) rs → IsRenewed rs day → ⊥
none_covers [] day all is = is
none_covers (r ∷ rs) day all (inl is) = omega (arith, all.0, is.1)
none_covers (r ∷ rs) day all (inr is) = none_covers rs day all.1 is

are_before : (day : ℕ) (rs : List Renewal) → Each (λ (r : Renewal). r.0 < day) rs → AreBefore day rs
are_before day [] all = tt
are_before day (r ∷ rs) all = (all.0, are_before day rs all.1)

each_before : (day : ℕ) (rs : List Renewal) → AreBefore day rs → Each (λ (r : Renewal). r.0 < day) rs
each_before day [] all = tt
each_before day (r ∷ rs) all = (all.0, each_before day rs all.1)

-- ---- how many are valid

none_live : (day : ℕ) (e : ℕ) (ends : List ℕ) → e < day → live_on day (e ∷ ends) ≡ live_on day ends
none_live day e ends less = go (leb_tells day e)
  where
    go : ((nat_le day e ≡ true) × (day ≤ e)) ⊎ ((nat_le day e ≡ false) × (e < day)) → live_on day (e ∷ ends) ≡ live_on day ends
    go (inl t) = absurd (omega (arith, t.1, less))
    go (inr f) = ap (λ (b : Bool). length (cond b (e ∷ filter (nat_le day) ends) (filter (nat_le day) ends))) f.0

one_live : (day : ℕ) (e : ℕ) (ends : List ℕ) → day ≤ e → live_on day (e ∷ ends) ≡ suc (live_on day ends)
one_live day e ends most = go (leb_tells day e)
  where
    go : ((nat_le day e ≡ true) × (day ≤ e)) ⊎ ((nat_le day e ≡ false) × (e < day)) → live_on day (e ∷ ends) ≡ suc (live_on day ends)
    go (inl t) = ap (λ (b : Bool). length (cond b (e ∷ filter (nat_le day) ends) (filter (nat_le day) ends))) t.0
    go (inr f) = absurd (omega (arith, f.1, most))

at_most_one : (day : ℕ) (e : ℕ) (ends : List ℕ) → live_on day (e ∷ ends) ≤ suc (live_on day ends)
at_most_one day e ends = go (leb_tells day e)
  where
    go : ((nat_le day e ≡ true) × (day ≤ e)) ⊎ ((nat_le day e ≡ false) × (e < day)) → live_on day (e ∷ ends) ≤ suc (live_on day ends)
    go (inl t) = let same = one_live day e ends t.1 in omega (arith, same)
    go (inr f) = let same = none_live day e ends f.1 in omega (arith, same)

abbrev ends_of : List Renewal → List ℕ
ends_of rs = map (λ (r : Renewal). r.1) rs

all_past : (day : ℕ) (rs : List Renewal) → Each (λ (r : Renewal). r.1 < day) rs → live_on day (ends_of rs) ≡ 0
all_past day [] all = refl
all_past day (r ∷ rs) all = none_live day r.1 (ends_of rs) all.0 ∙ all_past day rs all.1

past_all : (day : ℕ) (rs : List Renewal) → live_on day (ends_of rs) < 1 → Each (λ (r : Renewal). r.1 < day) rs
past_all day [] few = tt
past_all day (r ∷ rs) few = go (leb_tells day r.1) (past_all day rs)
  where
    go : ((nat_le day r.1 ≡ true) × (day ≤ r.1)) ⊎ ((nat_le day r.1 ≡ false) × (r.1 < day)) → (live_on day (ends_of rs) < 1 → Each (λ (x : Renewal). x.1 < day) rs) → (r.1 < day) × Each (λ (x : Renewal). x.1 < day) rs
    go (inl t) rest = let same = one_live day r.1 (ends_of rs) t.1 in absurd (omega (arith, same, few))
    go (inr f) rest = (f.1, rest (subst (λ (n : ℕ). n < 1) (none_live day r.1 (ends_of rs) f.1) few))

-- what the holder has isn't valid on the day
abbrev HasNone : Option ℕ → ℕ → Type 0
HasNone have day = HasUntil have day → ⊥

have_past : (have : Option ℕ) (day : ℕ) (rs : List Renewal) → HasNone have day → Each (λ (r : Renewal). r.1 < day) rs → live_on day (last_days have rs) ≡ 0
have_past None day rs out all = all_past day rs all
have_past (Some h) day rs out all = none_live day h (ends_of rs) (omega (arith, not_le day h out)) ∙ all_past day rs all
  where
    not_le : (a b : ℕ) → (a ≤ b → ⊥) → b < a
    not_le a b no_le = go (leb_tells a b)
      where
        go : ((nat_le a b ≡ true) × (a ≤ b)) ⊎ ((nat_le a b ≡ false) × (b < a)) → b < a
        go (inl t) = absurd (no_le t.1)
        go (inr f) = f.1

past_have : (have : Option ℕ) (day : ℕ) (rs : List Renewal) → live_on day (last_days have rs) < 1 → HasNone have day × Each (λ (r : Renewal). r.1 < day) rs
past_have None day rs few = ((λ is. is), past_all day rs few)
past_have (Some h) day rs few = go (leb_tells day h)
  where
    go : ((nat_le day h ≡ true) × (day ≤ h)) ⊎ ((nat_le day h ≡ false) × (h < day)) → HasNone (Some h) day × Each (λ (r : Renewal). r.1 < day) rs
    go (inl t) = let same = one_live day h (ends_of rs) t.1 in absurd (omega (arith, same, few))
    go (inr f) = ((λ is. omega (arith, is, f.1)), past_all day rs (subst (λ (n : ℕ). n < 1) (none_live day h (ends_of rs) f.1) few))

-- what the holder has, and one certificate more
have_and_one : (have : Option ℕ) (day : ℕ) (r : Renewal) (rs : List Renewal) → HasNone have day → Each (λ (x : Renewal). x.1 < day) rs → live_on day (last_days have (r ∷ rs)) ≤ 1
have_and_one None day r rs out all = let most = at_most_one day r.1 (ends_of rs) in let none = all_past day rs all in omega (arith, most, none)
have_and_one (Some h) day r rs out all =
    let most = at_most_one day r.1 (ends_of rs) in
    let none = all_past day rs all in
    let first = have_past (Some h) day [] out tt in
    let same = not_valid in
    omega (arith, most, none, same)
  where
    not_valid : live_on day (h ∷ ends_of (r ∷ rs)) ≡ live_on day (ends_of (r ∷ rs))
    not_valid = go (leb_tells day h)
      where
        go : ((nat_le day h ≡ true) × (day ≤ h)) ⊎ ((nat_le day h ≡ false) × (h < day)) → live_on day (h ∷ ends_of (r ∷ rs)) ≡ live_on day (ends_of (r ∷ rs))
        go (inl t) = absurd (out t.1)
        go (inr f) = none_live day h (ends_of (r ∷ rs)) f.1

have_alone : (have : Option ℕ) (day : ℕ) → live_on day (last_days have []) ≤ 1
have_alone None day = omega arith
have_alone (Some h) day = let most = at_most_one day h [] in omega (arith, most)

-- ---- a plan and its parts

in_plan : (need : Need) (plan : List Renewal) → IsPlan need plan → (r : Renewal) → IsIn r plan → (earlier : List Renewal) × IsRenewal need earlier r
in_plan need [] is r among = absurd among
in_plan need (x ∷ plan) is r (inl e) = (plan, subst (IsRenewal need plan) (sym e) is.0)
in_plan need (x ∷ plan) is r (inr among) = in_plan need plan is.1 r among

-- where one certificate alone may be valid, a later renewal is past the last day of each earlier one
apart : (need : Need) (plan : List Renewal) → IsPlan need plan → need.live ≤ 1 → (b r : Renewal) → IsIn b plan → IsIn r plan → b.0 < r.0 → b.1 < r.0
apart need [] is one b r in_b in_r less = absurd in_b
apart need (x ∷ plan) is one b r (inl eb) (inl er) less = absurd (omega (arith, less, same))
  where
    same : b.0 ≡ r.0
    same = ap (λ (y : Renewal). y.0) (eb ∙ sym er)
apart need (x ∷ plan) is one b r (inl eb) (inr in_r) less =
    let before = in_each (λ (y : Renewal). y.0 < x.0) plan (each_before x.0 plan is.0.rising) r in_r in
    let same = ap (λ (y : Renewal). y.0) eb in
    absurd (omega (arith, before, same, less))
apart need (x ∷ plan) is one b r (inr in_b) (inl er) less =
    let few : live_on x.0 (last_days need.have plan) < 1 = omega (arith, is.0.live, one) in
    let past = in_each (λ (y : Renewal). y.1 < x.0) plan (past_have need.have x.0 plan few).1 b in_b in
    let same = ap (λ (y : Renewal). y.0) er in
    omega (arith, past, same)
apart need (x ∷ plan) is one b r (inr in_b) (inr in_r) less = apart need plan is.1 one b r in_b in_r less

-- ---- what is known

abbrev IsSomeLater : Option Renewal → Renewal → Type 0
IsSomeLater None x = ⊥
IsSomeLater (Some b) x = IsNoLater x b

-- a renewal that the need allows, but for those before it
pub record IsReal (need : Need) (x : Renewal) : Type 0 where
  pub made : renewed_on need x.0 ≡ Some x
  pub since : need.first ≤ x.0
  pub until : x.0 ≤ need.last

-- Each day before `day` was looked at; from `next` on nothing is covered by the plan, whose newest renewal stands first.
pub record Swept (need : Need) (day next : ℕ) (best : Option Renewal) (plan : List Renewal) : Type 0 where
  pub is_plan : IsPlan need plan
  pub latest : AreLatest need plan
  pub since : need.first ≤ next
  pub bare : HasNone need.have next
  pub under : Each (λ (r : Renewal). (r.0 < next) × (r.1 < next)) plan
  pub tight : (x : ℕ) → need.first ≤ x → HasNone need.have x → Each (λ (r : Renewal). r.1 < x) plan → next ≤ x
  pub covered : CoversBefore need plan next
  pub short : (q : List Renewal) → IsPlan need q → length q ≤ length plan → Covers need q next → ⊥
  pub fewer : (q : List Renewal) → IsPlan need q → length q < length plan → Covers need q need.last → ⊥
  pub seen : (x : Renewal) → IsReal need x → x.0 < day → IsTrue (is_offered need.live next x.0) → IsSomeLater best x
  pub real : (b : Renewal) → best ≡ Some b → IsReal need b × (b.0 < day) × (0 < need.live)
  pub alive : (b : Renewal) → best ≡ Some b → need.live ≤ 1 → next ≤ b.1 → b.0 ≡ next
  pub fits : 1 < need.live → (x : Renewal) → IsReal need x → next ≤ x.1 → Each (λ (r : Renewal). r.0 < x.0) plan × (live_on x.0 (last_days need.have plan) ≤ 1)
  pub forced : need.live ≤ 1 → (q : List Renewal) → IsPlan need q → CoversBefore need q next → Each (λ (r : Renewal). r.0 < next → r.1 < next) q

-- ---- the start

past_first : (first h : ℕ) → (first ≤ max first (h + 1)) × (h < max first (h + 1)) × ((x : ℕ) → first ≤ x → h < x → max first (h + 1) ≤ x)
past_first first h = (omega arith, omega arith, λ x a b. omega (arith, a, b))

not_until : (h x : ℕ) → (x ≤ h → ⊥) → h < x
not_until h x out = go (leb_tells x h)
  where
    go : ((nat_le x h ≡ true) × (x ≤ h)) ⊎ ((nat_le x h ≡ false) × (h < x)) → h < x
    go (inl t) = absurd (out t.1)
    go (inr f) = f.1

pub bare_since : (first : ℕ) (have : Option ℕ) → first ≤ bare_from first have
bare_since first None = omega arith
bare_since first (Some h) = (past_first first h).0

bare_none : (first : ℕ) (have : Option ℕ) → HasNone have (bare_from first have)
bare_none first None = λ is. is
bare_none first (Some h) = λ is. let p = (past_first first h).1 in omega (arith, p, is)

bare_tight : (first : ℕ) (have : Option ℕ) (x : ℕ) → first ≤ x → HasNone have x → bare_from first have ≤ x
bare_tight first None x since out = since
bare_tight first (Some h) x since out = (past_first first h).2 x since (not_until h x out)

bare_had : (first : ℕ) (have : Option ℕ) (d : ℕ) → first ≤ d → d < bare_from first have → HasUntil have d
bare_had first None d since less = omega (arith, since, less)
bare_had first (Some h) d since less = go (leb_tells d h)
  where
    go : ((nat_le d h ≡ true) × (d ≤ h)) ⊎ ((nat_le d h ≡ false) × (h < d)) → d ≤ h
    go (inl t) = t.1
    go (inr f) = let most = (past_first first h).2 d since f.1 in omega (arith, most, less)

-- a plan's renewals, where one certificate alone may be valid, are past what the holder has
past_had : (need : Need) (q : List Renewal) → IsPlan need q → need.live ≤ 1 → (r : Renewal) → IsIn r q → HasNone need.have r.0
past_had need q is one r among =
    let e = in_plan need q is r among in
    let few : live_on r.0 (last_days need.have e.0) < 1 = omega (arith, e.1.live, one) in
    (past_have need.have r.0 e.0 few).0

pub begun : (need : Need) → Swept need need.first (bare_from need.first need.have) None []
begun need = record {
  is_plan = tt;
  latest = tt;
  since = bare_since need.first need.have;
  bare = bare_none need.first need.have;
  under = tt;
  tight = λ x since out all. bare_tight need.first need.have x since out;
  covered = λ d since less. inl (bare_had need.first need.have d since less);
  short = λ q is few covers. no_renewal q few covers;
  fewer = λ q is less covers. omega (arith, less);
  seen = λ x is less offered. let before = is.since in omega (arith, less, before);
  real = λ b none. absurd (never b none);
  alive = λ b none one most. absurd (never b none);
  fits = λ two x is most. (tt, have_alone need.have x.0);
  forced = λ one q is covers. each_in (λ (r : Renewal). r.0 < bare_from need.first need.have → r.1 < bare_from need.first need.have) q (λ r among less.
      let e = in_plan need q is r among in
      let out = past_had need q is one r among in
      let most = bare_tight need.first need.have r.0 e.1.since out in
      omega (arith, most, less));
}
  where
    never : (b : Renewal) → None ≡ Some b → ⊥
    never b e = cc (e)

    no_renewal : (q : List Renewal) → length q ≤ 0 → Covers need q (bare_from need.first need.have) → ⊥
    no_renewal [] few covers = go (covers (bare_from need.first need.have) (bare_since need.first need.have) (omega arith))
      where
        go : IsCovered need [] (bare_from need.first need.have) → ⊥
        go (inl had) = bare_none need.first need.have had
        go (inr is) = is
    no_renewal (r ∷ q) few covers = omega (arith, few)

-- ---- a day that is looked at

bool_is : (b : Bool) → (b ≡ true) ⊎ (b ≡ false)
bool_is true = inl refl
bool_is false = inr refl

option_is : (o : Option Renewal) → (o ≡ None) ⊎ ((r : Renewal) × (o ≡ Some r))
option_is None = inl refl
option_is (Some r) = inr (r, refl)

some_same : (a b : Renewal) → Some a ≡ Some b → a ≡ b
some_same a b e = cc (e)

-- what the day leaves: the best one as it was, or the later of it and of the day's own
abbrev Looks : Need → (next : ℕ) → Option Renewal → (day : ℕ) → Type 0
Looks need next best day =
    ((best_by need next best day ≡ best) × (is_offered need.live next day ≡ true → renewed_on need day ≡ None))
    ⊎ ((r : Renewal) × (is_offered need.live next day ≡ true) × (renewed_on need day ≡ Some r) × (best_by need next best day ≡ later best r))

looks : (need : Need) (next : ℕ) (best : Option Renewal) (day : ℕ) → Looks need next best day
looks need next best day = go (bool_is (is_offered need.live next day)) (option_is (renewed_on need day))
  where
    at : (b : Bool) → is_offered need.live next day ≡ b → best_by need next best day ≡ cond b (later_if best (renewed_on need day)) best
    at b e = ap (λ (x : Bool). cond x (later_if best (renewed_on need day)) best) e

    go : (is_offered need.live next day ≡ true) ⊎ (is_offered need.live next day ≡ false) → (renewed_on need day ≡ None) ⊎ ((r : Renewal) × (renewed_on need day ≡ Some r)) → Looks need next best day
    go (inl t) (inl none) = inl (at true t ∙ ap (later_if best) none, λ offered. none)
    go (inl t) (inr some) = inr (some.0, t, some.1, at true t ∙ ap (later_if best) some.1)
    go (inr f) o = inl (at false f, λ offered. absurd (true_false offered f))
      where
        true_false : is_offered need.live next day ≡ true → is_offered need.live next day ≡ false → ⊥
        true_false a b = cc (a, b)

later_is : (best : Option Renewal) (r : Renewal) → ((b : Renewal) × (best ≡ Some b) × (r.1 < b.1) × (later best r ≡ Some b)) ⊎ (((b : Renewal) → best ≡ Some b → b.1 ≤ r.1) × (later best r ≡ Some r))
later_is None r = inr ((λ b e. absurd (never b e)), refl)
  where
    never : (b : Renewal) → None ≡ Some b → ⊥
    never b e = cc (e)
later_is (Some best) r = go (leb_tells (suc r.1) best.1)
  where
    go : ((nat_le (suc r.1) best.1 ≡ true) × (suc r.1 ≤ best.1)) ⊎ ((nat_le (suc r.1) best.1 ≡ false) × (best.1 < suc r.1))
        → ((b : Renewal) × (Some best ≡ Some b) × (r.1 < b.1) × (later (Some best) r ≡ Some b)) ⊎ (((b : Renewal) → Some best ≡ Some b → b.1 ≤ r.1) × (later (Some best) r ≡ Some r))
    go (inl t) = inl (best, refl, omega (arith, t.1), ap (λ (x : Bool). cond x (Some best) (Some r)) t.0)
    go (inr f) = inr ((λ b e. let same = ap (λ (y : Renewal). y.1) (some_same best b e) in omega (arith, f.1, same)), ap (λ (x : Bool). cond x (Some best) (Some r)) f.0)

some_later : (o : Option Renewal) (b x : Renewal) → o ≡ Some b → IsNoLater x b → IsSomeLater o x
some_later o b x e is = subst (λ (y : Option Renewal). IsSomeLater y x) (sym e) is

later_one : (o : Option Renewal) (x : Renewal) → IsSomeLater o x → (b : Renewal) × (o ≡ Some b) × IsNoLater x b
later_one None x is = absurd is
later_one (Some b) x is = (b, refl, is)

later_has : (best : Option Renewal) (r : Renewal) → IsSomeLater (later best r) r
later_has best r = go (later_is best r)
  where
    go : ((b : Renewal) × (best ≡ Some b) × (r.1 < b.1) × (later best r ≡ Some b)) ⊎ (((b : Renewal) → best ≡ Some b → b.1 ≤ r.1) × (later best r ≡ Some r)) → IsSomeLater (later best r) r
    go (inl l) = some_later (later best r) l.0 r l.3 (inl l.2)
    go (inr l) = some_later (later best r) r r l.1 (inr (refl, omega arith))

later_keeps : (best : Option Renewal) (r x : Renewal) → x.0 ≤ r.0 → IsSomeLater best x → IsSomeLater (later best r) x
later_keeps best r x order is = go (later_one best x is) (later_is best r)
  where
    no_later : (b : Renewal) → b.1 ≤ r.1 → IsNoLater x b → IsNoLater x r
    no_later b most (inl less) = inl (omega (arith, most, less))
    no_later b most (inr same) = end (leb_tells (suc x.1) r.1)
      where
        end : ((nat_le (suc x.1) r.1 ≡ true) × (suc x.1 ≤ r.1)) ⊎ ((nat_le (suc x.1) r.1 ≡ false) × (r.1 < suc x.1)) → IsNoLater x r
        end (inl t) = inl (omega (arith, t.1))
        end (inr f) = let e = same.0 in inr (omega (arith, f.1, most, e), order)

    go : (b : Renewal) × (best ≡ Some b) × IsNoLater x b → ((b : Renewal) × (best ≡ Some b) × (r.1 < b.1) × (later best r ≡ Some b)) ⊎ (((b : Renewal) → best ≡ Some b → b.1 ≤ r.1) × (later best r ≡ Some r)) → IsSomeLater (later best r) x
    go old (inl l) = some_later (later best r) l.0 x l.3 (subst (IsNoLater x) (some_same old.0 l.0 (sym old.1 ∙ l.1)) old.2)
    go old (inr l) = some_later (later best r) r x l.1 (no_later old.0 (l.0 old.0 old.1) old.2)

-- ---- the day of a renewal

cond_some : (b : Bool) (o : Option Renewal) (r : Renewal) → cond b o None ≡ Some r → o ≡ Some r
cond_some true o r e = e
cond_some false o r e = absurd (never e)
  where
    never : None ≡ Some r → ⊥
    never e = cc (e)

cond_none : (b : Bool) (o : Option Renewal) (r : Renewal) → cond b None o ≡ Some r → o ≡ Some r
cond_none true o r e = absurd (never e)
  where
    never : None ≡ Some r → ⊥
    never e = cc (e)
cond_none false o r e = e

renewed_day : (need : Need) (day : ℕ) (r : Renewal) → renewed_on need day ≡ Some r → r.0 ≡ day
renewed_day need day r e = under (authority_on day need.authorities) (cond_none (is_closed need day) (renewed_under need day (authority_on day need.authorities)) r e)
  where
    under : (o : Option (ℕ × ℕ)) → renewed_under need day o ≡ Some r → r.0 ≡ day
    under None e = absurd (never e)
      where
        never : None ≡ Some r → ⊥
        never e = cc (e)
    under (Some span) e =
        let valid = cond_some (nat_le day span.1) (validity day need.days span.1 need.minimum) r e in
        let is = cond_some (nat_le (day + need.minimum) (end_by day need.days span.1)) (Some (day, end_by day need.days span.1)) r valid in
        ap (λ (y : Renewal). y.0) (sym (some_same (day, end_by day need.days span.1) r is))

real_at : (need : Need) (day : ℕ) (r : Renewal) → renewed_on need day ≡ Some r → need.first ≤ day → day ≤ need.last → IsReal need r
real_at need day r e since until =
    let same = renewed_day need day r e in
    record {
      made = subst (λ (d : ℕ). renewed_on need d ≡ Some r) (sym same) e;
      since = omega (arith, same, since);
      until = omega (arith, same, until);
    }

-- ---- which days are offered

or_is : (a b : Bool) → (a || b) ≡ true → (a ≡ true) ⊎ (b ≡ true)
or_is true b e = inl refl
or_is false b e = inr e

and_is : (a b : Bool) → (a && b) ≡ true → (a ≡ true) × (b ≡ true)
and_is true b e = (refl, e)
and_is false b e = absurd (cc (e))

le_of : (a b : ℕ) → nat_le a b ≡ true → a ≤ b
le_of a b e = go (leb_tells a b)
  where
    go : ((nat_le a b ≡ true) × (a ≤ b)) ⊎ ((nat_le a b ≡ false) × (b < a)) → a ≤ b
    go (inl t) = t.1
    go (inr f) = absurd (false_true f.0 e)
      where
        false_true : nat_le a b ≡ false → nat_le a b ≡ true → ⊥
        false_true x y = cc (x, y)

of_le : (a b : ℕ) → a ≤ b → nat_le a b ≡ true
of_le a b le = go (leb_tells a b)
  where
    go : ((nat_le a b ≡ true) × (a ≤ b)) ⊎ ((nat_le a b ≡ false) × (b < a)) → nat_le a b ≡ true
    go (inl t) = t.0
    go (inr f) = absurd (omega (arith, f.1, le))

eq_of : (a b : ℕ) → nat_eq a b ≡ true → a ≡ b
eq_of a b e = go (eqb_tells a b)
  where
    go : ((nat_eq a b ≡ true) × (a ≡ b)) ⊎ ((nat_eq a b ≡ false) × (a ≡ b → ⊥)) → a ≡ b
    go (inl t) = t.1
    go (inr f) = absurd (false_true f.0 e)
      where
        false_true : nat_eq a b ≡ false → nat_eq a b ≡ true → ⊥
        false_true x y = cc (x, y)

of_eq : (a b : ℕ) → a ≡ b → nat_eq a b ≡ true
of_eq a b e = go (eqb_tells a b)
  where
    go : ((nat_eq a b ≡ true) × (a ≡ b)) ⊎ ((nat_eq a b ≡ false) × (a ≡ b → ⊥)) → nat_eq a b ≡ true
    go (inl t) = t.0
    go (inr f) = absurd (f.1 e)

-- where one certificate alone may be valid, the day is the next one
offered_is : (live next day : ℕ) → is_offered live next day ≡ true → (1 < live) ⊎ ((live ≡ 1) × (day ≡ next))
offered_is live next day e = go (or_is (nat_lt 1 live) (nat_eq live 1 && nat_eq day next) e)
  where
    go : (nat_lt 1 live ≡ true) ⊎ ((nat_eq live 1 && nat_eq day next) ≡ true) → (1 < live) ⊎ ((live ≡ 1) × (day ≡ next))
    go (inl t) = inl (le_of 2 live t)
    go (inr t) = let both = and_is (nat_eq live 1) (nat_eq day next) t in inr (eq_of live 1 both.0, eq_of day next both.1)

offered_two : (live next day : ℕ) → 1 < live → is_offered live next day ≡ true
offered_two live next day two = ap (λ (b : Bool). b || (nat_eq live 1 && nat_eq day next)) (of_le 2 live two)

or_right : (a b : Bool) → b ≡ true → (a || b) ≡ true
or_right true b e = refl
or_right false b e = e

offered_next : (live next : ℕ) → 0 < live → is_offered live next next ≡ true
offered_next live next some = go (leb_tells 2 live)
  where
    go : ((nat_le 2 live ≡ true) × (2 ≤ live)) ⊎ ((nat_le 2 live ≡ false) × (live < 2)) → is_offered live next next ≡ true
    go (inl t) = offered_two live next next t.1
    go (inr f) = or_right (nat_lt 1 live) (nat_eq live 1 && nat_eq next next) (ap₂ (λ (a b : Bool). a && b) (of_eq live 1 (omega (arith, f.1, some))) (of_eq next next refl))

-- ---- one day more

abbrev More : Need → (day next : ℕ) → Option Renewal → List Renewal → Type 0
More need day next best plan = Swept need (suc day) next (best_by need next best day) plan

pub looked : (need : Need) (day next : ℕ) (best : Option Renewal) (plan : List Renewal) → need.first ≤ day → day ≤ need.last → Swept need day next best plan → More need day next best plan
looked need day next best plan since until s = record {
  is_plan = s.is_plan;
  latest = s.latest;
  since = s.since;
  bare = s.bare;
  under = s.under;
  tight = s.tight;
  covered = s.covered;
  short = s.short;
  fewer = s.fewer;
  seen = λ x is less offered. seen x is less offered (leb_tells (suc x.0) day) (looks need next best day);
  real = λ b e. real b e (looks need next best day);
  alive = λ b e one most. alive b e one most (looks need next best day);
  fits = s.fits;
  forced = s.forced;
}
  where
    seen : (x : Renewal) → IsReal need x → x.0 < suc day → is_offered need.live next x.0 ≡ true
        → ((nat_le (suc x.0) day ≡ true) × (suc x.0 ≤ day)) ⊎ ((nat_le (suc x.0) day ≡ false) × (day < suc x.0)) → Looks need next best day → IsSomeLater (best_by need next best day) x
    seen x is less offered (inl t) (inl same) = subst (λ (o : Option Renewal). IsSomeLater o x) (sym same.0) (s.seen x is (omega (arith, t.1)) offered)
    seen x is less offered (inl t) (inr l) =
        let same = renewed_day need day l.0 l.2 in
        subst (λ (o : Option Renewal). IsSomeLater o x) (sym l.3) (later_keeps best l.0 x (omega (arith, t.1, same)) (s.seen x is (omega (arith, t.1)) offered))
    seen x is less offered (inr f) (inl same) =
        let at : x.0 ≡ day = omega (arith, f.1, less) in
        absurd (none_some (same.1 (subst (λ (d : ℕ). is_offered need.live next d ≡ true) at offered)) (subst (λ (d : ℕ). renewed_on need d ≡ Some x) at is.made))
      where
        none_some : renewed_on need day ≡ None → renewed_on need day ≡ Some x → ⊥
        none_some a b = cc (a, b)
    seen x is less offered (inr f) (inr l) =
        let at : x.0 ≡ day = omega (arith, f.1, less) in
        let same : x ≡ l.0 = some_same x l.0 (sym (subst (λ (d : ℕ). renewed_on need d ≡ Some x) at is.made) ∙ l.2) in
        subst (λ (o : Option Renewal). IsSomeLater o x) (sym l.3) (subst (λ (y : Renewal). IsSomeLater (later best l.0) y) (sym same) (later_has best l.0))

    offered_some : is_offered need.live next day ≡ true → 0 < need.live
    offered_some e = go (offered_is need.live next day e)
      where
        go : (1 < need.live) ⊎ ((need.live ≡ 1) × (day ≡ next)) → 0 < need.live
        go (inl two) = omega (arith, two)
        go (inr one) = let e = one.0 in omega (arith, e)

    real : (b : Renewal) → best_by need next best day ≡ Some b → Looks need next best day → IsReal need b × (b.0 < suc day) × (0 < need.live)
    real b e (inl same) = let r = s.real b (sym same.0 ∙ e) in (r.0, omega (arith, r.1), r.2)
    real b e (inr l) = go (later_is best l.0)
      where
        go : ((c : Renewal) × (best ≡ Some c) × (l.0.1 < c.1) × (later best l.0 ≡ Some c)) ⊎ (((c : Renewal) → best ≡ Some c → c.1 ≤ l.0.1) × (later best l.0 ≡ Some l.0)) → IsReal need b × (b.0 < suc day) × (0 < need.live)
        go (inl c) = let r = s.real b (c.1 ∙ sym c.3 ∙ sym l.3 ∙ e) in (r.0, omega (arith, r.1), r.2)
        go (inr c) =
            let same : l.0 ≡ b = some_same l.0 b (sym c.1 ∙ sym l.3 ∙ e) in
            let at = renewed_day need day l.0 l.2 in
            subst (λ (y : Renewal). IsReal need y × (y.0 < suc day) × (0 < need.live)) same (real_at need day l.0 l.2 since until, omega (arith, at), offered_some l.1)

    alive : (b : Renewal) → best_by need next best day ≡ Some b → need.live ≤ 1 → next ≤ b.1 → Looks need next best day → b.0 ≡ next
    alive b e one most (inl same) = s.alive b (sym same.0 ∙ e) one most
    alive b e one most (inr l) = go (later_is best l.0)
      where
        on_next : day ≡ next
        on_next = end (offered_is need.live next day l.1)
          where
            end : (1 < need.live) ⊎ ((need.live ≡ 1) × (day ≡ next)) → day ≡ next
            end (inl two) = absurd (omega (arith, two, one))
            end (inr is) = is.1

        go : ((c : Renewal) × (best ≡ Some c) × (l.0.1 < c.1) × (later best l.0 ≡ Some c)) ⊎ (((c : Renewal) → best ≡ Some c → c.1 ≤ l.0.1) × (later best l.0 ≡ Some l.0)) → b.0 ≡ next
        go (inl c) = s.alive b (c.1 ∙ sym c.3 ∙ sym l.3 ∙ e) one most
        go (inr c) = ap (λ (y : Renewal). y.0) (sym (some_same l.0 b (sym c.1 ∙ sym l.3 ∙ e))) ∙ renewed_day need day l.0 l.2 ∙ on_next

-- ---- one renewal more

reaching_is : (best : Option Renewal) (next : ℕ) (b : Renewal) → reaching best next ≡ Some b → (best ≡ Some b) × (next ≤ b.1)
reaching_is None next b e = absurd (never e)
  where
    never : None ≡ Some b → ⊥
    never e = cc (e)
reaching_is (Some best) next b e = go (leb_tells next best.1)
  where
    go : ((nat_le next best.1 ≡ true) × (next ≤ best.1)) ⊎ ((nat_le next best.1 ≡ false) × (best.1 < next)) → (Some best ≡ Some b) × (next ≤ b.1)
    go (inl t) =
        let is : Some best ≡ Some b = sym (ap (λ (x : Bool). cond x (Some best) None) t.0) ∙ e in
        let same = ap (λ (y : Renewal). y.1) (some_same best b is) in
        (is, omega (arith, t.1, same))
    go (inr f) = absurd (never (sym (ap (λ (x : Bool). cond x (Some best) None) f.0) ∙ e))
      where
        never : None ≡ Some b → ⊥
        never e = cc (e)

not_reaching : (best : Option Renewal) (next : ℕ) → reaching best next ≡ None → (b : Renewal) → best ≡ Some b → b.1 < next
not_reaching None next e b is = absurd (never is)
  where
    never : None ≡ Some b → ⊥
    never e = cc (e)
not_reaching (Some best) next e b is = go (leb_tells next best.1)
  where
    go : ((nat_le next best.1 ≡ true) × (next ≤ best.1)) ⊎ ((nat_le next best.1 ≡ false) × (best.1 < next)) → b.1 < next
    go (inl t) = absurd (never (sym (ap (λ (x : Bool). cond x (Some best) None) t.0) ∙ e))
      where
        never : Some best ≡ None → ⊥
        never e = cc (e)
    go (inr f) = let same = ap (λ (y : Renewal). y.1) (some_same best b is) in omega (arith, f.1, same)

-- a day that nothing covers is covered by no plan that is covered before it without a renewal up to it
not_covered : (have : Option ℕ) (need : Need) (plan : List Renewal) (next : ℕ) → HasNone need.have next → Each (λ (r : Renewal). (r.0 < next) × (r.1 < next)) plan → IsCovered need plan next → ⊥
not_covered have need plan next bare under (inl had) = bare had
not_covered have need plan next bare under (inr is) = none_covers plan next (each_map (λ (r : Renewal). (r.0 < next) × (r.1 < next)) (λ (r : Renewal). r.1 < next) (λ r both. both.1) plan under) is

had_below : (have : Option ℕ) (a b : ℕ) → a ≤ b → HasNone have a → HasNone have b
had_below None a b le out = out
had_below (Some h) a b le out = λ is. out (omega (arith, le, is))

pub renewed : (need : Need) (next : ℕ) (best : Option Renewal) (plan : List Renewal) (b : Renewal) → next ≤ need.last → reaching best next ≡ Some b → Swept need (suc next) next best plan → Swept need (suc next) (b.1 + 1) best (b ∷ plan)
renewed need next best plan b within reach s = record {
  is_plan = (is_renewal, s.is_plan);
  latest = (is_latest, s.latest);
  since = omega (arith, s.since, most);
  bare = had_below need.have next (b.1 + 1) (omega (arith, most)) s.bare;
  under = ((omega (arith, early, most), omega arith), each_map (λ (r : Renewal). (r.0 < next) × (r.1 < next)) (λ (r : Renewal). (r.0 < b.1 + 1) × (r.1 < b.1 + 1)) (λ r both. (omega (arith, both.0, most), omega (arith, both.1, most))) plan s.under);
  tight = λ x first out all. let past = all.0 in omega (arith, past);
  covered = λ d first less. covered d first less (leb_tells (suc d) next);
  short = short;
  fewer = λ q is less covers. s.short q is (omega (arith, less)) (λ d first le. covers d first (omega (arith, le, within)));
  seen = λ x is less offered. seen x is less (offered_is need.live (b.1 + 1) x.0 offered);
  real = s.real;
  alive = λ c e one past. let same = ap (λ (y : Renewal). y.1) (some_same b c (sym is_best ∙ e)) in absurd (omega (arith, past, same));
  fits = fits;
  forced = forced;
}
  where
    is_best : best ≡ Some b
    is_best = (reaching_is best next b reach).0

    most : next ≤ b.1
    most = (reaching_is best next b reach).1

    early : b.0 ≤ next
    early = let r = s.real b is_best in omega (arith, r.1)

    below : Each (λ (r : Renewal). r.1 < next) plan
    below = each_map (λ (r : Renewal). (r.0 < next) × (r.1 < next)) (λ (r : Renewal). r.1 < next) (λ r both. both.1) plan s.under

    earlier : Each (λ (r : Renewal). r.0 < next) plan
    earlier = each_map (λ (r : Renewal). (r.0 < next) × (r.1 < next)) (λ (r : Renewal). r.0 < next) (λ r both. both.0) plan s.under

    -- it may follow the plan
    may : ((nat_le 2 need.live ≡ true) × (2 ≤ need.live)) ⊎ ((nat_le 2 need.live ≡ false) × (need.live < 2)) → AreBefore b.0 plan × (live_on b.0 (last_days need.have plan) < need.live)
    may (inl two) = let f = s.fits two.1 b (s.real b is_best).0 most in (are_before b.0 plan f.0, omega (arith, f.1, two.1))
    may (inr one) =
        let on : b.0 ≡ next = s.alive b is_best (omega (arith, one.1)) most in
        let none = have_past need.have next plan s.bare below in
        let some = (s.real b is_best).2 in
        (subst (λ (d : ℕ). AreBefore d plan) (sym on) (are_before next plan earlier), subst (λ (d : ℕ). live_on d (last_days need.have plan) < need.live) (sym on) (omega (arith, none, some)))

    is_renewal : IsRenewal need plan b
    is_renewal =
        let r = s.real b is_best in
        let m = may (leb_tells 2 need.live) in
        record { since = r.0.since; until = r.0.until; made = r.0.made; rising = m.0; live = m.1 }

    later_found : (other : Renewal) → IsRenewal need plan other → other.0 ≤ next → is_offered need.live next other.0 ≡ true → IsNoLater other b
    later_found other is le offered =
        let found = later_one best other (s.seen other (record { made = is.made; since = is.since; until = is.until }) (omega (arith, le)) offered) in
        subst (IsNoLater other) (some_same found.0 b (sym found.1 ∙ is_best)) found.2

    offered_there : (other : Renewal) → IsRenewal need plan other → other.0 ≤ next → ((nat_le 2 need.live ≡ true) × (2 ≤ need.live)) ⊎ ((nat_le 2 need.live ≡ false) × (need.live < 2)) → is_offered need.live next other.0 ≡ true
    offered_there other is le (inl two) = offered_two need.live next other.0 two.1
    offered_there other is le (inr one) =
        let few : live_on other.0 (last_days need.have plan) < 1 = omega (arith, is.live, one.1) in
        let past = past_have need.have other.0 plan few in
        let least = s.tight other.0 is.since past.0 past.1 in
        let on : next ≡ other.0 = omega (arith, least, le) in
        subst (λ (d : ℕ). is_offered need.live next d ≡ true) on (offered_next need.live next (omega (arith, is.live)))

    is_latest : IsLatest need plan b
    is_latest = record {
      joined = λ d first less. s.covered d first (omega (arith, less, early));
      latest = λ other is joined. at other is joined (leb_tells other.0 next);
    }
      where
        at : (other : Renewal) → IsRenewal need plan other → CoversBefore need plan other.0 → ((nat_le other.0 next ≡ true) × (other.0 ≤ next)) ⊎ ((nat_le other.0 next ≡ false) × (next < other.0)) → IsNoLater other b
        at other is joined (inl le) = later_found other is le.1 (offered_there other is le.1 (leb_tells 2 need.live))
        at other is joined (inr past) = absurd (not_covered need.have need plan next s.bare s.under (joined next s.since past.1))

    covered : (d : ℕ) → need.first ≤ d → d < b.1 + 1 → ((nat_le (suc d) next ≡ true) × (suc d ≤ next)) ⊎ ((nat_le (suc d) next ≡ false) × (next < suc d)) → IsCovered need (b ∷ plan) d
    covered d first less (inl t) = more (s.covered d first (omega (arith, t.1)))
      where
        more : IsCovered need plan d → IsCovered need (b ∷ plan) d
        more (inl had) = inl had
        more (inr is) = inr (inr is)
    covered d first less (inr f) = inr (inl (omega (arith, f.1, early), omega (arith, less)))

    -- where one certificate alone may be valid, each plan that covers so far has this renewal
    forced : need.live ≤ 1 → (q : List Renewal) → IsPlan need q → CoversBefore need q (b.1 + 1) → Each (λ (r : Renewal). r.0 < b.1 + 1 → r.1 < b.1 + 1) q
    forced one q is covers = each_in (λ (r : Renewal). r.0 < b.1 + 1 → r.1 < b.1 + 1) q (λ r among less. one_of r among less (leb_tells (suc r.0) next))
      where
        old : Each (λ (r : Renewal). r.0 < next → r.1 < next) q
        old = s.forced one q is (λ d first less. covers d first (omega (arith, less, most)))

        is_b : (r : Renewal) → IsIn r q → r.0 ≡ next → r ≡ b
        is_b r among on =
            let e = in_plan need q is r among in
            let at : b.0 ≡ next = s.alive b is_best one most in
            some_same r b (sym (subst (λ (d : ℕ). renewed_on need d ≡ Some r) (on ∙ sym at) e.1.made) ∙ (s.real b is_best).0.made)

        has_b : IsIn b q
        has_b = found (covers next s.since (omega (arith, most)))
          where
            found : IsCovered need q next → IsIn b q
            found (inl had) = absurd (s.bare had)
            found (inr is_in) =
                let r = renewed_by q next is_in in
                let not_less = in_each (λ (y : Renewal). y.0 < next → y.1 < next) q old r.0 r.1 in
                by_case r (leb_tells (suc r.0.0) next) not_less
              where
                by_case : (r : (x : Renewal) × IsIn x q × (x.0 ≤ next) × (next ≤ x.1)) → ((nat_le (suc r.0.0) next ≡ true) × (suc r.0.0 ≤ next)) ⊎ ((nat_le (suc r.0.0) next ≡ false) × (next < suc r.0.0)) → (r.0.0 < next → r.0.1 < next) → IsIn b q
                by_case r (inl t) f = let past = f (omega (arith, t.1)) in let reach = r.3 in absurd (omega (arith, past, reach))
                by_case r (inr t) f = let le = r.2 in subst (λ (y : Renewal). IsIn y q) (is_b r.0 r.1 (omega (arith, t.1, le))) r.1

        one_of : (r : Renewal) → IsIn r q → r.0 < b.1 + 1 → ((nat_le (suc r.0) next ≡ true) × (suc r.0 ≤ next)) ⊎ ((nat_le (suc r.0) next ≡ false) × (next < suc r.0)) → r.1 < b.1 + 1
        one_of r among less (inl t) = let past = in_each (λ (y : Renewal). y.0 < next → y.1 < next) q old r among (omega (arith, t.1)) in omega (arith, past, most)
        one_of r among less (inr f) = on_or_past (leb_tells r.0 next)
          where
            on_or_past : ((nat_le r.0 next ≡ true) × (r.0 ≤ next)) ⊎ ((nat_le r.0 next ≡ false) × (next < r.0)) → r.1 < b.1 + 1
            on_or_past (inl le) = let same = ap (λ (y : Renewal). y.1) (is_b r among (omega (arith, le.1, f.1))) in omega (arith, same)
            on_or_past (inr gt) = let past = apart need q is one b r has_b among (omega (arith, early, gt.1)) in absurd (omega (arith, past, less))

    -- a renewal that begins by the day from which on nothing was covered ends by the last day of this one
    ends_by : (q : List Renewal) → IsPlan need q → Covers need q (b.1 + 1) → (r : Renewal) → IsIn r q → r.0 ≤ next → r.1 < b.1 + 1
    ends_by q is covers r among le = go (leb_tells 2 need.live)
      where
        go : ((nat_le 2 need.live ≡ true) × (2 ≤ need.live)) ⊎ ((nat_le 2 need.live ≡ false) × (need.live < 2)) → r.1 < b.1 + 1
        go (inl two) =
            let e = in_plan need q is r among in
            let found = later_one best r (s.seen r (record { made = e.1.made; since = e.1.since; until = e.1.until }) (omega (arith, le)) (offered_two need.live next r.0 two.1)) in
            no_later (subst (IsNoLater r) (some_same found.0 b (sym found.1 ∙ is_best)) found.2)
          where
            no_later : IsNoLater r b → r.1 < b.1 + 1
            no_later (inl less) = omega (arith, less)
            no_later (inr same) = let e = same.0 in omega (arith, e)
        go (inr one) = in_each (λ (y : Renewal). y.0 < b.1 + 1 → y.1 < b.1 + 1) q (forced (omega (arith, one.1)) q is (λ d first less. covers d first (omega (arith, less)))) r among (omega (arith, le, most))

    short : (q : List Renewal) → IsPlan need q → length q ≤ length (b ∷ plan) → Covers need q (b.1 + 1) → ⊥
    short [] is few covers = end (covers (b.1 + 1) (omega (arith, s.since, most)) (omega arith))
      where
        end : IsCovered need [] (b.1 + 1) → ⊥
        end (inl had) = had_below need.have next (b.1 + 1) (omega (arith, most)) s.bare had
        end (inr never) = never
    short (newest ∷ q) is few covers = go (leb_tells newest.0 next)
      where
        go : ((nat_le newest.0 next ≡ true) × (newest.0 ≤ next)) ⊎ ((nat_le newest.0 next ≡ false) × (next < newest.0)) → ⊥
        go (inl le) = end (covers (b.1 + 1) (omega (arith, s.since, most)) (omega arith))
          where
            end : IsCovered need (newest ∷ q) (b.1 + 1) → ⊥
            end (inl had) = had_below need.have next (b.1 + 1) (omega (arith, most)) s.bare had
            end (inr is_in) =
                let r = renewed_by (newest ∷ q) (b.1 + 1) is_in in
                let reach = r.3 in
                let past = ends_by (newest ∷ q) is covers r.0 r.1 (by_next r.0 r.1) in
                omega (arith, past, reach)
              where
                by_next : (r : Renewal) → IsIn r (newest ∷ q) → r.0 ≤ next
                by_next r (inl same) = let e = ap (λ (y : Renewal). y.0) same in omega (arith, e, le.1)
                by_next r (inr among) = let before = in_each (λ (y : Renewal). y.0 < newest.0) q (each_before newest.0 q is.0.rising) r among in omega (arith, before, le.1)
        go (inr past) = s.short q is.1 (omega (arith, few)) (λ d first less. without d less (covers d first (omega (arith, less, most))))
          where
            without : (d : ℕ) → d ≤ next → IsCovered need (newest ∷ q) d → IsCovered need q d
            without d less (inl had) = inl had
            without d less (inr (inl is_in)) = let begun = is_in.0 in absurd (omega (arith, begun, less, past.1))
            without d less (inr (inr is_in)) = inr is_in

    seen : (x : Renewal) → IsReal need x → x.0 < suc next → (1 < need.live) ⊎ ((need.live ≡ 1) × (x.0 ≡ b.1 + 1)) → IsSomeLater best x
    seen x is less (inl two) = s.seen x is less (offered_two need.live next x.0 two)
    seen x is less (inr one) = let on = one.1 in absurd (omega (arith, on, less, most))

    fits : 1 < need.live → (x : Renewal) → IsReal need x → b.1 + 1 ≤ x.1 → Each (λ (r : Renewal). r.0 < x.0) (b ∷ plan) × (live_on x.0 (last_days need.have (b ∷ plan)) ≤ 1)
    fits two x is reach_x = go (leb_tells x.0 next)
      where
        go : ((nat_le x.0 next ≡ true) × (x.0 ≤ next)) ⊎ ((nat_le x.0 next ≡ false) × (next < x.0)) → Each (λ (r : Renewal). r.0 < x.0) (b ∷ plan) × (live_on x.0 (last_days need.have (b ∷ plan)) ≤ 1)
        go (inl le) =
            let found = later_one best x (s.seen x is (omega (arith, le.1)) (offered_two need.live next x.0 two)) in
            absurd (no_later (subst (IsNoLater x) (some_same found.0 b (sym found.1 ∙ is_best)) found.2))
          where
            no_later : IsNoLater x b → ⊥
            no_later (inl less) = omega (arith, less, reach_x)
            no_later (inr same) = let e = same.0 in omega (arith, e, reach_x)
        go (inr past) = (
          (omega (arith, early, past.1), each_map (λ (r : Renewal). r.0 < next) (λ (r : Renewal). r.0 < x.0) (λ r less. omega (arith, less, past.1)) plan earlier),
          have_and_one need.have x.0 b plan (had_below need.have next x.0 (omega (arith, past.1)) s.bare) (each_map (λ (r : Renewal). r.1 < next) (λ (r : Renewal). r.1 < x.0) (λ r less. omega (arith, less, past.1)) plan below),
        )

-- ---- the ends

pub stuck : (need : Need) (next : ℕ) (best : Option Renewal) (plan : List Renewal) → next ≤ need.last → reaching best next ≡ None → Swept need (suc next) next best plan → IsUncovered need next
stuck need next best plan within reach s = record {
  since = s.since;
  until = within;
  never = λ q is covers. never q is covers (covers next s.since (omega arith));
  before = λ d less. (plan, s.is_plan, λ e first le. s.covered e first (omega (arith, le, less)));
}
  where
    never : (q : List Renewal) → IsPlan need q → Covers need q next → IsCovered need q next → ⊥
    never q is covers (inl had) = s.bare had
    never q is covers (inr is_in) = end (renewed_by q next is_in)
      where
        end : (r : Renewal) × IsIn r q × (r.0 ≤ next) × (next ≤ r.1) → ⊥
        end r =
            let e = in_plan need q is r.0 r.1 in
            let found = later_one best r.0 (s.seen r.0 (record { made = e.1.made; since = e.1.since; until = e.1.until }) (let le = r.2 in omega (arith, le)) (offered e.1.live (leb_tells 2 need.live))) in
            let less = not_reaching best next reach found.0 found.1 in
            no_later found.0 less found.2
          where
            offered : {n : ℕ} → n < need.live → ((nat_le 2 need.live ≡ true) × (2 ≤ need.live)) ⊎ ((nat_le 2 need.live ≡ false) × (need.live < 2)) → is_offered need.live next r.0.0 ≡ true
            offered {n} some (inl two) = offered_two need.live next r.0.0 two.1
            offered {n} some (inr one) =
                let old = in_each (λ (y : Renewal). y.0 < next → y.1 < next) q (s.forced (omega (arith, one.1)) q is (λ d first less. covers d first (omega (arith, less)))) r.0 r.1 in
                on (leb_tells (suc r.0.0) next) old
              where
                on : ((nat_le (suc r.0.0) next ≡ true) × (suc r.0.0 ≤ next)) ⊎ ((nat_le (suc r.0.0) next ≡ false) × (next < suc r.0.0)) → (r.0.0 < next → r.0.1 < next) → is_offered need.live next r.0.0 ≡ true
                on (inl t) old = let past = old (omega (arith, t.1)) in let reach = r.3 in absurd (omega (arith, past, reach))
                on (inr t) old = let le = r.2 in subst (λ (d : ℕ). is_offered need.live next d ≡ true) (on_next t.1 le) (offered_next need.live next (omega (arith, some)))
                  where
                    on_next : next < suc r.0.0 → r.0.0 ≤ next → next ≡ r.0.0
                    on_next a b = omega (arith, a, b)

            no_later : (b : Renewal) → b.1 < next → IsNoLater r.0 b → ⊥
            no_later b less (inl x) = let reach = r.3 in omega (arith, less, x, reach)
            no_later b less (inr x) = let reach = r.3 in let e = x.0 in omega (arith, less, e, reach)

pub ended : (need : Need) (day next : ℕ) (best : Option Renewal) (plan : List Renewal) → need.last < next → Swept need day next best plan → IsBest need plan
ended need day next best plan past s = record {
  is_plan = s.is_plan;
  covers = λ d first le. s.covered d first (omega (arith, le, past));
  fewest = λ other is covers. no_fewer other is covers (leb_tells (length plan) (length other));
  latest = s.latest;
}
  where
    no_fewer : (other : List Renewal) → IsPlan need other → Covers need other need.last → ((nat_le (length plan) (length other) ≡ true) × (length plan ≤ length other)) ⊎ ((nat_le (length plan) (length other) ≡ false) × (length other < length plan)) → length plan ≤ length other
    no_fewer other is covers (inl t) = t.1
    no_fewer other is covers (inr f) = absurd (s.fewer other is f.1 covers)

-- ---- as the loop has them

pub gone_on : (need : Need) (number next day : ℕ) (best best' : Option Renewal) (plan : List Renewal) → need.first ≤ number → number < need.last + 1 → day ≡ number → best' ≡ best_by need next best day → Swept need number next best plan → Swept need (number + 1) next best' plan
gone_on need number next day best best' plan since until on is s =
    let more = looked need number next best plan since (omega (arith, until)) s in
    let same : best_by need next best number ≡ best' = ap (best_by need next best) (sym on) ∙ sym is in
    let count : suc number ≡ number + 1 = omega arith in
    subst₂ (λ (d : ℕ) (o : Option Renewal). Swept need d next o plan) count same more

pub stuck_here : (need : Need) (number next day : ℕ) (best best' : Option Renewal) (plan : List Renewal) → need.first ≤ number → number < need.last + 1 → day ≡ number → best' ≡ best_by need next best day → number ≡ next → reaching best' next ≡ None → Swept need number next best plan → IsUncovered need day
stuck_here need number next day best best' plan since until on is here none s =
    let more = gone_on need number next day best best' plan since until on is s in
    let count : number + 1 ≡ suc next = omega (arith, here) in
    subst (IsUncovered need) (sym here ∙ sym on) (stuck need next best' plan (omega (arith, here, until)) none (subst (λ (d : ℕ). Swept need d next best' plan) count more))

pub renewed_here : (need : Need) (number next day next' : ℕ) (best best' : Option Renewal) (b : Renewal) (planned planned' : List Renewal) → need.first ≤ number → number < need.last + 1 → day ≡ number → best' ≡ best_by need next best day → number ≡ next → reaching best' next ≡ Some b
    → planned' ≡ planned ++ b ∷ [] → next' ≡ b.1 + 1 → Swept need number next best (reverse planned) → (number + 1 ≤ next') × Swept need (number + 1) next' best' (reverse planned')
renewed_here need number next day next' best best' b planned planned' since until on is here some added new s =
    let more = gone_on need number next day best best' (reverse planned) since until on is s in
    let count : number + 1 ≡ suc next = omega (arith, here) in
    let back : suc next ≡ number + 1 = omega (arith, here) in
    let one = renewed need next best' (reverse planned) b (omega (arith, here, until)) some (subst (λ (d : ℕ). Swept need d next best' (reverse planned)) count more) in
    let turned : b ∷ reverse planned ≡ reverse planned' = sym (ap reverse added ∙ reverse-append planned (b ∷ [])) in
    let reach = (reaching_is best' next b some).1 in (
      omega (arith, here, new, reach),
      subst (λ (d : ℕ). Swept need d next' best' (reverse planned')) back (subst₂ (λ (n : ℕ) (l : List Renewal). Swept need (suc next) n best' l) (sym new) turned one),
    )
