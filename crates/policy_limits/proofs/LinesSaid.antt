-- What the lines of a text that is read say: a line says the same in every later setup.
use Rattle.std.proofs.Common.{◌≡◌, ℕ, zero, suc, ◌+◌, ◌<◌, ◌≤◌, Bool, true, false, cond, List, [], ◌∷◌, ◌++◌, length, None, Some, Ok, refl, sym, ap, ◌∙◌, subst, arith, append_assoc, length-append}
use Rattle.std.specs.declared.option.Option.{Option}
use Rattle.std.specs.declared.result.Result.{Result}
use Rattle.std.specs.Prelude.{IsTrue, ◌&&◌, not, nat_lt, codes, is_some, slice_get, position}
use Rattle.std.specs.List.{list_all, filter_map, cons_option, prefix_len, position_or_len}
use Rattle.std.specs.Str.{bytes_eq}
use Rattle.std.proofs.lemmas.Bool.Decides.{nat_tests}
use Rattle.std.proofs.lemmas.List.{append-nil}
use Rattle.eac_base.specs.Answers.{◌>>=◌, ◌>>◌, unless, some_or, ◌gives◌}
use Rattle.eac_base.specs.Text.{words, numbered_lines}
use Rattle.chat_rights.specs.declared.Role.{Role}
use Rattle.chat_rights.specs.declared.Role.TheVariants.{Cvca}
use Rattle.policy_limits.specs.Setup.{SetupValue, setup_value, is_authority, can_be, party, number_of}
use Rattle.policy_limits.specs.SetupLine as grammar
use Rattle.policy_limits.specs.SetupText.{with_lines, with_said, said_in, party_said, registration_said, LinesAreSaid}
use Rattle.policy_limits.specs.declared.party.Party.{Party}
use Rattle.policy_limits.specs.declared.party.PartyKind.{PartyKind}
use Rattle.policy_limits.specs.declared.party.PartyKind.TheVariants as kinds
use Rattle.policy_limits.specs.declared.registration.First.{First}
use Rattle.policy_limits.specs.declared.registration.First.TheVariants.{Bare, Home}
use Rattle.policy_limits.specs.declared.registration.Registration.{Registration}
use Rattle.policy_limits.specs.declared.setup_line.SetupLine.{SetupLine}
use Rattle.policy_limits.specs.declared.setup_line.SetupLine.TheVariants as said
use Rattle.policy_limits.specs.declared.setup_refusal.SetupRefusal.{SetupRefusal}
use Rattle.policy_limits.specs.declared.setup_refusal.SetupRefusal.TheVariants.{Form, Limit, Twice}

-- ---- an answer that is kept: what there is stays

abbrev Keeps : {A : Type 0} → Option A → Option A → Type 0
Keeps None later = Unit {0}
Keeps (Some x) later = later ≡ Some x

same : {A : Type 0} (a : Option A) → Keeps a a
same None = tt
same (Some x) = refl

both_give : {A B : Type 0} (a b : Option A) (f g : A → Option B) → Keeps a b → ((x : A) → Keeps (f x) (g x)) → Keeps (a gives f) (b gives g)
both_give None b f g kept then = tt
both_give (Some x) b f g kept then = subst (λ o. Keeps (f x) (o gives g)) (sym kept) (then x)

then_give : {A B : Type 0} (a : Option A) (f g : A → Option B) → ((x : A) → Keeps (f x) (g x)) → Keeps (a gives f) (a gives g)
then_give a f g then = both_give a a f g (same a) then

either : {A : Type 0} (test : Bool) (a b c d : Option A) → Keeps a b → Keeps c d → Keeps (cond test a c) (cond test b d)
either true a b c d k l = k
either false a b c d k l = l

-- ---- places in a list that grew at its end

place_step : (passes : Bool) (m n len : ℕ) → cond passes (1 + m) 0 < suc len → (m < len → n ≡ m) → cond passes (1 + n) 0 ≡ cond passes (1 + m) 0
place_step true m n len lt stays = ap (λ k. 1 + k) (stays (omega arith))
place_step false m n len lt stays = refl

place_stays : (q : Party → Bool) (xs ys : List Party) → prefix_len q xs < length xs → prefix_len q (xs ++ ys) ≡ prefix_len q xs
place_stays q [] ys lt = absurd (omega arith)
place_stays q (x ∷ xs) ys lt = place_step (q x) (prefix_len q xs) (prefix_len q (xs ++ ys)) (length xs) lt (place_stays q xs ys)

by_place : (within : Bool) (m n len len' : ℕ) → nat_lt m len ≡ within → (m < len → n ≡ m) → len ≤ len' → Keeps (cond within (Some m) None) (cond (nat_lt n len') (Some n) None)
by_place true m n len len' is stays le =
    let inside : m < len = grind (arith, nat_tests) in
    let there = stays inside in
    let still : nat_lt n len' ≡ true = grind (arith, nat_tests) in
    ap (λ b. cond b (Some n) None) still ∙ ap Some there
by_place false m n len len' is stays le = tt

position_kept : (p : Party → Bool) (xs ys : List Party) → Keeps (position p xs) (position p (xs ++ ys))
position_kept p xs ys = by_place (nat_lt (position_or_len p xs) (length xs)) (position_or_len p xs) (position_or_len p (xs ++ ys)) (length xs) (length (xs ++ ys)) refl (place_stays (λ x. not (p x)) xs ys) (omega (arith, length-append xs ys))

get_kept : (xs ys : List Party) (n : ℕ) → Keeps (slice_get xs n) (slice_get (xs ++ ys) n)
get_kept [] ys n = tt
get_kept (x ∷ xs) ys zero = refl
get_kept (x ∷ xs) ys (suc n) = get_kept xs ys n

-- ---- what a line says stays, where parties were added at the end

module _ (r s : SetupValue) (more : List Party) (grown : s.parties ≡ r.parties ++ more) where
  number_kept : (holder : List ℕ) → Keeps (number_of r holder) (number_of s holder)
  number_kept holder =
      let it : Party → Bool = λ p. bytes_eq p.holder holder in
      subst (λ ps. Keeps (position it r.parties) (position it ps)) (sym grown) (position_kept it r.parties more)

  party_kept : (n : ℕ) → Keeps (party r n) (party s n)
  party_kept n = subst (λ ps. Keeps (slice_get r.parties n) (slice_get ps n)) (sym grown) (get_kept r.parties more n)

  abbrev with_number : SetupValue → List ℕ → Option (ℕ × Party)
  with_number t holder = number_of t holder gives λ n. party t n gives λ p. Some (n, p)

  named_kept : (w : List ℕ) → Keeps (grammar.named_party r w) (grammar.named_party s w)
  named_kept w =
      then_give (grammar.holder_word w) (with_number r) (with_number s) (λ holder.
      both_give (number_of r holder) (number_of s holder) (λ n. party r n gives λ p. Some (n, p)) (λ n. party s n gives λ p. Some (n, p)) (number_kept holder) (λ n.
      both_give (party r n) (party s n) (λ p. Some (n, p)) (λ p. Some (n, p)) (party_kept n) (λ p. refl)))

  abbrev as_holder : Role → ℕ × Party → Option (List ℕ)
  as_holder role named = cond (can_be role named.1.kind) (Some named.1.holder) None

  holder_kept : (role : Role) (w : List ℕ) → Keeps (grammar.holder_in r role w) (grammar.holder_in s role w)
  holder_kept role w = both_give (grammar.named_party r w) (grammar.named_party s w) (as_holder role) (as_holder role) (named_kept w) (λ named. same (as_holder role named))

  abbrev home_of : List ℕ → Option First
  home_of holder = Some (Home (holder ++ codes "00001"))

  home_kept : (w : List ℕ) → Keeps (grammar.home_word r w) (grammar.home_word s w)
  home_kept w =
      then_give (grammar.behind_home w) (λ authority. grammar.holder_in r Cvca authority gives home_of) (λ authority. grammar.holder_in s Cvca authority gives home_of) (λ authority.
      both_give (grammar.holder_in r Cvca authority) (grammar.holder_in s Cvca authority) home_of home_of (holder_kept Cvca authority) (λ holder. refl))

  first_kept : (desk : PartyKind) (w : List ℕ) → Keeps (grammar.first_word r desk w) (grammar.first_word s desk w)
  first_kept desk w =
      either (bytes_eq w (codes "bare")) (Some Bare) (Some Bare) (cond (is_authority desk) (grammar.home_word r w) None) (cond (is_authority desk) (grammar.home_word s w) None) refl
      (either (is_authority desk) (grammar.home_word r w) (grammar.home_word s w) None None (home_kept w) tt)

  module _ (desk w role rights days live first : List ℕ) (suspended : Bool) where
    abbrev last : ℕ → Role → List ℕ → ℕ → ℕ → ℕ → First → Option SetupLine
    last at named holder bits n limit begin = Some (said.Registration (record { desk = at; holder = holder; role = named; rights = bits; days = n; live_limit = limit; first = begin; suspended = suspended }))

    abbrev behind_holder : SetupValue → ℕ × Party → Role → List ℕ → Option SetupLine
    behind_holder t at named holder =
        grammar.rights_word rights gives λ bits. grammar.limited_word days gives λ n. grammar.limited_word live gives λ limit.
        grammar.first_word t at.1.kind first gives last at.0 named holder bits n limit

    rest_kept : (at : ℕ × Party) (named : Role) (holder : List ℕ) → Keeps (behind_holder r at named holder) (behind_holder s at named holder)
    rest_kept at named holder =
        let begin : (t : SetupValue) → ℕ → ℕ → ℕ → Option SetupLine = λ t bits n limit. grammar.first_word t at.1.kind first gives last at.0 named holder bits n limit in
        let live_of : (t : SetupValue) → ℕ → ℕ → Option SetupLine = λ t bits n. grammar.limited_word live gives begin t bits n in
        let days_of : (t : SetupValue) → ℕ → Option SetupLine = λ t bits. grammar.limited_word days gives live_of t bits in
        then_give (grammar.rights_word rights) (days_of r) (days_of s) (λ bits.
        then_give (grammar.limited_word days) (live_of r bits) (live_of s bits) (λ n.
        then_give (grammar.limited_word live) (begin r bits n) (begin s bits n) (λ limit.
        both_give (grammar.first_word r at.1.kind first) (grammar.first_word s at.1.kind first) (last at.0 named holder bits n limit) (last at.0 named holder bits n limit) (first_kept at.1.kind first) (λ begin. refl))))

    registration_kept : Keeps (grammar.registration_of r desk w role rights days live first suspended) (grammar.registration_of s desk w role rights days live first suspended)
    registration_kept =
        let at_role : (t : SetupValue) → ℕ × Party → Role → Option SetupLine = λ t at named. grammar.holder_in t named w gives behind_holder t at named in
        let at_desk : (t : SetupValue) → ℕ × Party → Option SetupLine = λ t at. grammar.role_word at.1.kind role gives at_role t at in
        both_give (grammar.named_party r desk) (grammar.named_party s desk) (at_desk r) (at_desk s) (named_kept desk) (λ at.
        then_give (grammar.role_word at.1.kind role) (at_role r at) (at_role s at) (λ named.
        both_give (grammar.holder_in r named w) (grammar.holder_in s named w) (behind_holder r at named) (behind_holder s at named) (holder_kept named w) (rest_kept at named)))

  registrations_kept : (ws : List (List ℕ)) → Keeps (grammar.registration_said r ws) (grammar.registration_said s ws)
  registrations_kept [] = tt
  registrations_kept (a ∷ []) = tt
  registrations_kept (a ∷ b ∷ []) = tt
  registrations_kept (a ∷ b ∷ c ∷ []) = tt
  registrations_kept (a ∷ b ∷ c ∷ d ∷ []) = tt
  registrations_kept (a ∷ b ∷ c ∷ d ∷ e ∷ []) = tt
  registrations_kept (a ∷ b ∷ c ∷ d ∷ e ∷ f ∷ []) = tt
  registrations_kept (a ∷ b ∷ c ∷ d ∷ e ∷ f ∷ g ∷ rest) =
      then_give (grammar.suspended_words rest) (grammar.registration_of r a b c d e f g) (grammar.registration_of s a b c d e f g) (registration_kept a b c d e f g)

  words_kept : (ws : List (List ℕ)) → Keeps (grammar.line_said r ws) (grammar.line_said s ws)
  words_kept [] = tt
  words_kept (kind ∷ rest) =
      let authority = grammar.authority_said rest in
      let verifier = grammar.plain_said kinds.Dv rest in
      let system = grammar.plain_said kinds.Terminal rest in
      let if_fourth : SetupValue → Option SetupLine = λ t. cond (bytes_eq kind (codes "register")) (grammar.registration_said t rest) None in
      let if_third : SetupValue → Option SetupLine = λ t. cond (bytes_eq kind (codes "terminal")) system (if_fourth t) in
      let if_second : SetupValue → Option SetupLine = λ t. cond (bytes_eq kind (codes "dv")) verifier (if_third t) in
      either (bytes_eq kind (codes "cvca")) authority authority (if_second r) (if_second s) (same authority)
      (either (bytes_eq kind (codes "dv")) verifier verifier (if_third r) (if_third s) (same verifier)
      (either (bytes_eq kind (codes "terminal")) system system (if_fourth r) (if_fourth s) (same system)
      (either (bytes_eq kind (codes "register")) (grammar.registration_said r rest) (grammar.registration_said s rest) None None (registrations_kept rest) tt)))

  line_kept : (line : ℕ × List ℕ) (x : SetupLine) → said_in r line ≡ Some x → said_in s line ≡ Some x
  line_kept line x is =
      subst (λ o. Keeps o (said_in s line)) is (then_give (words line.1) (grammar.line_said r) (grammar.line_said s) words_kept)

-- ---- one line after the other

abbrev says : SetupValue → ℕ × List ℕ → Bool
says s line = is_some (said_in s line)

abbrev parties_of : SetupValue → List (ℕ × List ℕ) → List Party
parties_of s lines = filter_map (λ line. said_in s line gives party_said) lines

abbrev registrations_of : SetupValue → List (ℕ × List ℕ) → List Registration
registrations_of s lines = filter_map (λ line. said_in s line gives registration_said) lines

-- The lines are what the setup has beyond the earlier one.
record AddTo (r s : SetupValue) (lines : List (ℕ × List ℕ)) : Type 0 where
  all : IsTrue (list_all (says s) lines)
  parties : s.parties ≡ r.parties ++ parties_of s lines
  registrations : s.registrations ≡ r.registrations ++ registrations_of s lines

module _ (r s : SetupValue) (line : ℕ × List ℕ) (lines : List (ℕ × List ℕ)) where
  one_more : (x : SetupLine) → said_in r line ≡ Some x → AddTo (grammar.added r x) s lines → AddTo r s (line ∷ lines)
  one_more (said.Party p) is more =
      let grown : s.parties ≡ r.parties ++ p ∷ parties_of s lines = more.parties ∙ append_assoc r.parties (p ∷ []) (parties_of s lines) in
      let here = line_kept r s (p ∷ parties_of s lines) grown line (said.Party p) is in
      record {
        all = ap (λ o. is_some o && list_all (says s) lines) here ∙ more.all;
        parties = grown ∙ sym (ap (λ o. r.parties ++ cons_option (o gives party_said) (parties_of s lines)) here);
        registrations = more.registrations ∙ sym (ap (λ o. r.registrations ++ cons_option (o gives registration_said) (registrations_of s lines)) here);
      }
  one_more (said.Registration g) is more =
      let here = line_kept r s (parties_of s lines) more.parties line (said.Registration g) is in
      record {
        all = ap (λ o. is_some o && list_all (says s) lines) here ∙ more.all;
        parties = more.parties ∙ sym (ap (λ o. r.parties ++ cons_option (o gives party_said) (parties_of s lines)) here);
        registrations =
            more.registrations ∙ append_assoc r.registrations (g ∷ []) (registrations_of s lines)
            ∙ sym (ap (λ o. r.registrations ++ cons_option (o gives registration_said) (registrations_of s lines)) here);
      }

  passed : (fit new : Bool) (next : SetupValue) → (unless fit (Limit line.0) >> unless new (Twice line.0) >> Ok next >>= λ t. with_lines t lines) ≡ Ok s → with_lines next lines ≡ Ok s
  passed true true next e = e
  passed true false next e = cc
  passed false new next e = cc

  by_said : (o : Option SetupLine) → said_in r line ≡ o → (some_or o (Form line.0) >>= with_said r line.0 >>= λ t. with_lines t lines) ≡ Ok s → ((t : SetupValue) → with_lines t lines ≡ Ok s → AddTo t s lines) → AddTo r s (line ∷ lines)
  by_said None is e rest = cc
  by_said (Some x) is e rest = one_more x is (rest (grammar.added r x) (passed (grammar.fits r x) (grammar.is_new r x) (grammar.added r x) e))

ok_is : (r s : SetupValue) (a b : Result SetupValue SetupRefusal) → a ≡ b → a ≡ Ok r → b ≡ Ok s → s ≡ r
ok_is r s a b e f g = cc

add_to : (lines : List (ℕ × List ℕ)) (r s : SetupValue) → with_lines r lines ≡ Ok s → AddTo r s lines
add_to [] r s e =
    let is : s ≡ r = ok_is r s (Ok r) (Ok r) refl refl e in
    record {
      all = refl;
      parties = ap (λ t. t.parties) is ∙ sym (append-nil r.parties);
      registrations = ap (λ t. t.registrations) is ∙ sym (append-nil r.registrations);
    }
add_to (line ∷ lines) r s e = by_said r s line lines (said_in r line) refl e (λ t. add_to lines t s)

pub lines_are_said : LinesAreSaid
lines_are_said text s e =
    let them = add_to (numbered_lines text) (setup_value [] []) s e in
    record { all = them.all; parties = them.parties; registrations = them.registrations }
