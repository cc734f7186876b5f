-- A setup to which a line adds something is one.
use Rattle.std.proofs.Common.{◌≡◌, ℕ, ◌+◌, ◌≤◌, Bool, true, false, cond, List, [], ◌∷◌, ◌++◌, length, None, Some, Ok, Err, refl, sym, ap, ◌∙◌, subst, arith, length-append, suc}
use Rattle.std.specs.declared.option.Option.{Option}
use Rattle.std.specs.declared.result.Result.{Result}
use Rattle.std.specs.Prelude.{IsTrue, OnOk, OnErr, not, ◌&&◌, ◌||◌, nat_lt, is_none, position, find}
use Rattle.std.specs.List.{list_all, list_any, position_or_len}
use Rattle.std.proofs.lemmas.Bool.Decides.{nat_tests}
use Rattle.std.proofs.lemmas.List.Folds.{list_all-append, list_any-append}
use Rattle.holder_reference.proofs.Digits.{both}
use Rattle.policy_limits.specs.Setup.{SetupValue, IsSetup, setup_value, are_distinct, have_one_holder, have_one_place, party_fits, registration_fits}
use Rattle.policy_limits.specs.SetupLine.{fits, is_new}
use Rattle.policy_limits.specs.declared.party.Party.{Party}
use Rattle.policy_limits.specs.declared.registration.Registration.{Registration}
use Rattle.policy_limits.specs.declared.setup_line.SetupLine.{SetupLine}
use Rattle.policy_limits.specs.declared.setup_line.SetupLine.TheVariants as said

-- ---- what is found nowhere

module _ {A : Type 0} (p : A → Bool) where
  none_before : (b any : Bool) (n l : ℕ) → suc l ≤ cond (not b) (1 + n) 0 → (l ≤ n → any ≡ false) → (b || any) ≡ false
  none_before true any n l le h = absurd (omega arith)
  none_before false any n l le h = h (omega arith)

  none_within : (xs : List A) → length xs ≤ position_or_len p xs → list_any p xs ≡ false
  none_within [] le = refl
  none_within (x ∷ xs) le = none_before (p x) (list_any p xs) (position_or_len p xs) (length xs) le (none_within xs)

  is_not : (b : Bool) (n : ℕ) → IsTrue (is_none (cond b (Some n) None)) → b ≡ false
  is_not true n none = cc
  is_not false n none = refl

  pub no_place : (xs : List A) → IsTrue (is_none (position p xs)) → list_any p xs ≡ false
  no_place xs none =
      let out : nat_lt (position_or_len p xs) (length xs) ≡ false = is_not (nat_lt (position_or_len p xs) (length xs)) (position_or_len p xs) none in
      none_within xs (grind (arith, nat_tests))

  none_first : (b any : Bool) (x : A) (o : Option A) → IsTrue (is_none (cond b (Some x) o)) → (IsTrue (is_none o) → any ≡ false) → (b || any) ≡ false
  none_first true any x o none h = cc
  none_first false any x o none h = h none

  pub none_found : (xs : List A) → IsTrue (is_none (find p xs)) → list_any p xs ≡ false
  none_found [] none = refl
  none_found (x ∷ xs) none = none_first (p x) (list_any p xs) x (find p xs) none (none_found xs)

-- ---- one more, like none before it

neither : (p q : Bool) → (p || q) ≡ false → (p ≡ false) × (q ≡ false)
neither true q e = cc
neither false q e = (refl, e)

apart : (any next rest more : Bool) → IsTrue (not any && rest) → next ≡ false → IsTrue more → IsTrue (not (any || (next || false)) && more)
apart true next rest more d n m = cc
apart false true rest more d n m = cc
apart false false rest more d n m = m

module _ {A : Type 0} (alike : A → A → Bool) where
  pub distinct_more : (xs : List A) (x : A) → IsTrue (are_distinct alike xs) → list_any (λ y. alike y x) xs ≡ false → IsTrue (are_distinct alike (xs ++ x ∷ []))
  distinct_more [] x d none = refl
  distinct_more (y ∷ ys) x d none =
      let away = neither (alike y x) (list_any (λ z. alike z x) ys) none in
      let rest = both (not (list_any (alike y) ys)) (are_distinct alike ys) d in
      ap (λ any. not any && are_distinct alike (ys ++ x ∷ [])) (list_any-append (alike y) ys (x ∷ []))
      ∙ apart (list_any (alike y) ys) (alike y x) (are_distinct alike ys) (are_distinct alike (ys ++ x ∷ [])) d away.0 (distinct_more ys x rest.1 away.1)

passes : (b c : Bool) → IsTrue b → IsTrue c → IsTrue (b && (c && true))
passes true true x y = refl
passes true false x y = cc
passes false c x y = cc

all_more : {A : Type 0} (p : A → Bool) (xs : List A) (x : A) → IsTrue (list_all p xs) → IsTrue (p x) → IsTrue (list_all p (xs ++ x ∷ []))
all_more p xs x all one = list_all-append p xs (x ∷ []) ∙ passes (list_all p xs) (p x) all one

-- ---- setups

pub party_added : (ps : List Party) (gs : List Registration) (p : Party) → IsSetup (setup_value ps gs) → IsTrue (fits (setup_value ps gs) (said.Party p)) → IsTrue (is_new (setup_value ps gs) (said.Party p)) → IsSetup (setup_value (ps ++ p ∷ []) gs)
party_added ps gs p is fit new =
    let limits = both (party_fits p.kind) (nat_lt (length ps) 1000) fit in
    let room : length ps + 1 ≤ 1000 = grind (arith, nat_tests) in
    record {
      few = omega (arith, room, length-append ps (p ∷ []));
      holders = distinct_more have_one_holder ps p is.holders (no_place (λ q. have_one_holder q p) ps new);
      places = is.places;
      parties_fit = all_more (λ q. party_fits q.kind) ps p is.parties_fit limits.0;
      registrations_fit = is.registrations_fit;
    }

pub registration_added : (ps : List Party) (gs : List Registration) (g : Registration) → IsSetup (setup_value ps gs) → IsTrue (fits (setup_value ps gs) (said.Registration g)) → IsTrue (is_new (setup_value ps gs) (said.Registration g)) → IsSetup (setup_value ps (gs ++ g ∷ []))
registration_added ps gs g is fit new = record {
  few = is.few;
  holders = is.holders;
  places = distinct_more have_one_place gs g is.places (none_found (λ h. have_one_place h g) gs new);
  parties_fit = is.parties_fit;
  registrations_fit = all_more registration_fits gs g is.registrations_fit fit;
}

-- ---- what a push leaves, appended or not

pub party_pushed : {U E : Type 0} (result : Result U E) (before : SetupValue) (line : SetupLine) (ps ps' : List Party) (gs : List Registration) (p : Party) → setup_value ps gs ≡ before → line ≡ said.Party p → IsSetup (setup_value ps gs) → IsTrue (fits before line) → IsTrue (is_new before line) → OnOk result (ps' ≡ ps ++ p ∷ []) → OnErr result (ps' ≡ ps) → IsSetup (setup_value ps' gs)
party_pushed (Ok u) before line ps ps' gs p view e is fit new pushed kept =
    let fit' = subst (λ l. IsTrue (fits before l)) e fit in
    let new' = subst (λ l. IsTrue (is_new before l)) e new in
    subst (λ l. IsSetup (setup_value l gs)) (sym pushed)
    (party_added ps gs p is (subst (λ b. IsTrue (fits b (said.Party p))) (sym view) fit') (subst (λ b. IsTrue (is_new b (said.Party p))) (sym view) new'))
party_pushed (Err f) before line ps ps' gs p view e is fit new pushed kept = subst (λ l. IsSetup (setup_value l gs)) (sym kept) is

pub registration_pushed : {U E : Type 0} (result : Result U E) (before : SetupValue) (line : SetupLine) (ps : List Party) (gs gs' : List Registration) (g : Registration) → setup_value ps gs ≡ before → line ≡ said.Registration g → IsSetup (setup_value ps gs) → IsTrue (fits before line) → IsTrue (is_new before line) → OnOk result (gs' ≡ gs ++ g ∷ []) → OnErr result (gs' ≡ gs) → IsSetup (setup_value ps gs')
registration_pushed (Ok u) before line ps gs gs' g view e is fit new pushed kept =
    let fit' = subst (λ l. IsTrue (fits before l)) e fit in
    let new' = subst (λ l. IsTrue (is_new before l)) e new in
    subst (λ l. IsSetup (setup_value ps l)) (sym pushed)
    (registration_added ps gs g is (subst (λ b. IsTrue (fits b (said.Registration g))) (sym view) fit') (subst (λ b. IsTrue (is_new b (said.Registration g))) (sym view) new'))
registration_pushed (Err f) before line ps gs gs' g view e is fit new pushed kept = subst (λ l. IsSetup (setup_value ps l)) (sym kept) is
