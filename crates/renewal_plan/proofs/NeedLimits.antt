-- A need that is read is within the limits: what was read keeps them, line after line.
use Rattle.std.proofs.Common.{◌≡◌, ℕ, ◌+◌, ◌<◌, ◌≤◌, Bool, true, false, cond, List, [], ◌∷◌, ◌++◌, length, None, Some, Ok, Err, refl, ap, ◌∙◌, subst, arith, length-append}
use Rattle.std.specs.declared.option.Option.{Option}
use Rattle.std.specs.declared.result.Result.{Result}
use Rattle.std.specs.Prelude.{IsTrue, ◌&&◌, nat_le, nat_lt, codes}
use Rattle.std.specs.List.{list_all}
use Rattle.std.specs.Str.{bytes_eq}
use Rattle.std.proofs.lemmas.Bool.Decides.{nat_tests}
use Rattle.std.proofs.lemmas.List.Folds.{list_all-append}
use Rattle.eac_base.specs.Answers.{◌>>=◌, ◌>>◌, unless, some_or, ◌gives◌}
use Rattle.eac_base.specs.Text.{words, numbered_lines}
use Rattle.plain_text.specs.Lines.{one_word, two_words}
use Rattle.policy_limits.specs.SetupLine.{limited_word}
use Rattle.holder_reference.proofs.Digits.{both}
use Rattle.renewal_plan.specs.NeedLine.{AreWithin, day_word, ordered, span_of, span_words, need_said, term_of, term_said, live_said, have_said, authority_said, closed_said, line_said, span_fits, term_fits, live_fits}
use Rattle.renewal_plan.specs.NeedText.{form, limit, end_line, new_need, with_need, with_term, with_live, with_have, with_authority, with_closed, with_said, with_line, with_lines, need_of, read_need, line_of}
use Rattle.renewal_plan.specs.declared.need.Need.{Need}
use Rattle.renewal_plan.specs.declared.need_line.NeedLine.{NeedLine}
use Rattle.renewal_plan.specs.declared.need_line.NeedLine.TheVariants as said
use Rattle.renewal_plan.specs.declared.need_refusal.NeedRefusal.{NeedRefusal}
use Rattle.renewal_plan.specs.declared.need_text.Reading.{Reading}
use Rattle.renewal_plan.specs.declared.need_text.Reading.TheVariants as next

-- ---- a line's two days

gives_some : {A B : Type 0} (o : Option A) (f : A → Option B) (y : B) → (o gives f) ≡ Some y → (x : A) × (o ≡ Some x) × (f x ≡ Some y)
gives_some None f y e = cc
gives_some (Some x) f y e = (x, refl, e)

by_order : (test : Bool) (a b : ℕ) (span : ℕ × ℕ) → nat_le a b ≡ test → cond test (Some (a, b)) None ≡ Some span → span.0 ≤ span.1
by_order true a b span is e =
    let le : a ≤ b = grind (arith, nat_tests) in
    let same : (a, b) ≡ span = cc in
    subst (λ (s : ℕ × ℕ). s.0 ≤ s.1) same le
by_order false a b span is e = cc

span_is_ordered : (rest : List (List ℕ)) (span : ℕ × ℕ) → span_words rest ≡ Some span → span.0 ≤ span.1
span_is_ordered rest span e =
    let two = gives_some (two_words rest) span_of span e in
    let first = gives_some (day_word two.0.0) (λ first. day_word two.0.1 gives λ last. ordered first last) span two.2 in
    let last = gives_some (day_word two.0.1) (λ last. ordered first.0 last) span first.2 in
    by_order (nat_le first.0 last.0) first.0 last.0 span refl last.2

abbrev IsLine : NeedLine → Type 0
IsLine (said.Need span) = span.0 ≤ span.1
IsLine (said.Term days minimum) = Unit {0}
IsLine (said.Live live) = Unit {0}
IsLine (said.Have day) = Unit {0}
IsLine (said.Authority span) = span.0 ≤ span.1
IsLine (said.Closed day) = Unit {0}

last_gives : {A : Type 0} (o : Option A) (f : A → NeedLine) (line : NeedLine) → ((x : A) → o ≡ Some x → IsLine (f x))
    → (o gives λ x. Some (f x)) ≡ Some line → IsLine line
last_gives None f line all e = cc
last_gives (Some x) f line all e = let same : f x ≡ line = cc in subst IsLine same (all x refl)

then_gives : {A : Type 0} (o : Option A) (f : A → Option NeedLine) (line : NeedLine) → ((x : A) → f x ≡ Some line → IsLine line)
    → (o gives f) ≡ Some line → IsLine line
then_gives None f line all e = cc
then_gives (Some x) f line all e = all x e

term_is : (rest : List (List ℕ)) (line : NeedLine) → term_said rest ≡ Some line → IsLine line
term_is rest line e =
    then_gives (two_words rest) term_of line
    (λ two. then_gives (limited_word two.0) (λ days. limited_word two.1 gives λ minimum. Some (said.Term days minimum)) line
    (λ days. last_gives (limited_word two.1) (λ minimum. said.Term days minimum) line (λ _ _. tt))) e

live_is : (rest : List (List ℕ)) (line : NeedLine) → live_said rest ≡ Some line → IsLine line
live_is rest line e =
    then_gives (one_word rest) (λ w. limited_word w gives λ live. Some (said.Live live)) line
    (λ w. last_gives (limited_word w) (λ live. said.Live live) line (λ _ _. tt)) e

have_is : (rest : List (List ℕ)) (line : NeedLine) → have_said rest ≡ Some line → IsLine line
have_is rest line e =
    then_gives (one_word rest) (λ w. day_word w gives λ day. Some (said.Have day)) line
    (λ w. last_gives (day_word w) (λ day. said.Have day) line (λ _ _. tt)) e

closed_is : (rest : List (List ℕ)) (line : NeedLine) → closed_said rest ≡ Some line → IsLine line
closed_is rest line e =
    then_gives (one_word rest) (λ w. day_word w gives λ day. Some (said.Closed day)) line
    (λ w. last_gives (day_word w) (λ day. said.Closed day) line (λ _ _. tt)) e

by_kind : (a b c d f g : Bool) (rest : List (List ℕ)) (line : NeedLine)
    → cond a (need_said rest) (cond b (term_said rest) (cond c (live_said rest) (cond d (have_said rest) (cond f (authority_said rest)
    (cond g (closed_said rest) None))))) ≡ Some line → IsLine line
by_kind true b c d f g rest line e = last_gives (span_words rest) (λ span. said.Need span) line (span_is_ordered rest) e
by_kind false true c d f g rest line e = term_is rest line e
by_kind false false true d f g rest line e = live_is rest line e
by_kind false false false true f g rest line e = have_is rest line e
by_kind false false false false true g rest line e = last_gives (span_words rest) (λ span. said.Authority span) line
    (span_is_ordered rest) e
by_kind false false false false false true rest line e = closed_is rest line e
by_kind false false false false false false rest line e = cc

line_is : (ws : List (List ℕ)) (line : NeedLine) → line_said ws ≡ Some line → IsLine line
line_is [] line e = cc
line_is (kind ∷ rest) line e =
    by_kind (bytes_eq kind (codes "need")) (bytes_eq kind (codes "term")) (bytes_eq kind (codes "live")) (bytes_eq kind (codes "have"))
    (bytes_eq kind (codes "authority")) (bytes_eq kind (codes "closed")) rest line e

-- ---- what was read so far

record FitsSpan (span : ℕ × ℕ) : Type 0 where
  ordered : span.0 ≤ span.1
  few : span.1 < span.0 + 3660

record FitsTerm (days minimum : ℕ) : Type 0 where
  some : 1 ≤ minimum
  fits : minimum ≤ days
  few : days ≤ 92

abbrev Keeps : Reading → Type 0
Keeps next.Need = Unit {0}
Keeps (next.Term span) = FitsSpan span
Keeps (next.Live span days minimum) = FitsSpan span × FitsTerm days minimum
Keeps (next.Have need) = AreWithin need
Keeps (next.Authority need) = AreWithin need
Keeps (next.Closed need) = AreWithin need

pub passed : (test : Bool) (f : NeedRefusal) (r s : Reading) → (unless test f >> Ok r) ≡ Ok s → (test ≡ true) × (r ≡ s)
passed true f r s e = (refl, cc)
passed false f r s e = cc

-- ---- one line

span_taken : (span : ℕ × ℕ) → span.0 ≤ span.1 → span_fits span ≡ true → FitsSpan span
span_taken span le fit = record { ordered = le; few = grind (arith, nat_tests) }

need_taken : (number : ℕ) (line : NeedLine) (s : Reading) → IsLine line → with_need number line ≡ Ok s → Keeps s
need_taken number (said.Need span) s is e =
    let p = passed (span_fits span) (limit number) (next.Term span) s e in subst Keeps p.1 (span_taken span is p.0)
need_taken number other s is e = cc

within : (low high n : ℕ) → (nat_le low n && nat_le n high) ≡ true → (low ≤ n) × (n ≤ high)
within low high n e =
    let p = both (nat_le low n) (nat_le n high) e in (grind (arith, nat_tests, p.0), grind (arith, nat_tests, p.1))

term_kept : (days minimum : ℕ) → term_fits days minimum ≡ true → FitsTerm days minimum
term_kept days minimum fit =
    let p = both (nat_le 1 days && nat_le days 92) (nat_le 1 minimum && nat_le minimum days) fit in
    let of_days = within 1 92 days p.0 in
    let of_minimum = within 1 days minimum p.1 in
    record { some = of_minimum.0; fits = of_minimum.1; few = of_days.1 }

term_taken : (span : ℕ × ℕ) (number : ℕ) (line : NeedLine) (s : Reading) → FitsSpan span → with_term span number line ≡ Ok s → Keeps s
term_taken span number (said.Term days minimum) s kept e =
    let p = passed (term_fits days minimum) (limit number) (next.Live span days minimum) s e in
    subst Keeps p.1 (kept, term_kept days minimum p.0)
term_taken span number other s kept e = cc

live_kept : (span : ℕ × ℕ) (days minimum live : ℕ) → FitsSpan span → FitsTerm days minimum → live_fits live ≡ true
    → AreWithin (new_need span days minimum live)
live_kept span days minimum live fits term fit =
    let of_live = within 1 100 live fit in
    record {
      ordered = fits.ordered;
      few_days = fits.few;
      some_minimum = term.some;
      minimum_fits = term.fits;
      days_fit = term.few;
      some_live = of_live.0;
      few_live = of_live.1;
      spans = refl;
      few_authorities = omega arith;
      few_closed = omega arith;
    }

live_taken : (span : ℕ × ℕ) (days minimum number : ℕ) (line : NeedLine) (s : Reading) → FitsSpan span → FitsTerm days minimum
    → with_live span days minimum number line ≡ Ok s → Keeps s
live_taken span days minimum number (said.Live live) s fits term e =
    let p = passed (live_fits live) (limit number) (next.Have (new_need span days minimum live)) s e in
    subst Keeps p.1 (live_kept span days minimum live fits term p.0)
live_taken span days minimum number other s fits term e = cc

-- ---- lists

room : (A : Type 0) (xs : List A) (x : A) (most : ℕ) → nat_lt (length xs) most ≡ true → length (xs ++ x ∷ []) ≤ most
room A xs x most lt =
    let fits : length xs < most = grind (arith, nat_tests) in omega (arith, fits, length-append xs (x ∷ []))

all_more : (p : ℕ × ℕ → Bool) (xs : List (ℕ × ℕ)) (x : ℕ × ℕ) → IsTrue (list_all p xs) → p x ≡ true → IsTrue (list_all p (xs ++ x ∷ []))
all_more p xs x all one = list_all-append p xs (x ∷ []) ∙ ap (λ b. b && (p x && true)) all ∙ ap (λ b. b && true) one

closed_kept : (need : Need) (day : ℕ) → AreWithin need → nat_lt (length need.closed) 3660 ≡ true
    → AreWithin (record need { closed = need.closed ++ day ∷ [] })
closed_kept need day is fit = record {
  ordered = is.ordered;
  few_days = is.few_days;
  some_minimum = is.some_minimum;
  minimum_fits = is.minimum_fits;
  days_fit = is.days_fit;
  some_live = is.some_live;
  few_live = is.few_live;
  spans = is.spans;
  few_authorities = is.few_authorities;
  few_closed = room ℕ need.closed day 3660 fit;
}

closed_taken : (need : Need) (number : ℕ) (line : NeedLine) (s : Reading) → AreWithin need → with_closed need number line ≡ Ok s → Keeps s
closed_taken need number (said.Closed day) s kept e =
    let p = passed (nat_lt (length need.closed) 3660) (limit number) (next.Closed (record need { closed = need.closed ++ day ∷ [] })) s e in
    subst Keeps p.1 (closed_kept need day kept p.0)
closed_taken need number other s kept e = cc

authority_kept : (need : Need) (span : ℕ × ℕ) → AreWithin need → span.0 ≤ span.1 → nat_lt (length need.authorities) 100 ≡ true
    → AreWithin (record need { authorities = need.authorities ++ span ∷ [] })
authority_kept need span is le fit =
    let test : nat_le span.0 span.1 ≡ true = grind (arith, nat_tests) in
    record {
      ordered = is.ordered;
      few_days = is.few_days;
      some_minimum = is.some_minimum;
      minimum_fits = is.minimum_fits;
      days_fit = is.days_fit;
      some_live = is.some_live;
      few_live = is.few_live;
      spans = all_more (λ s. nat_le s.0 s.1) need.authorities span is.spans test;
      few_authorities = room (ℕ × ℕ) need.authorities span 100 fit;
      few_closed = is.few_closed;
    }

authority_taken : (need : Need) (number : ℕ) (line : NeedLine) (s : Reading) → AreWithin need → IsLine line
    → with_authority need number line ≡ Ok s → Keeps s
authority_taken need number (said.Authority span) s kept is e =
    let p = passed (nat_lt (length need.authorities) 100) (limit number)
    (next.Authority (record need { authorities = need.authorities ++ span ∷ [] })) s e in
    subst Keeps p.1 (authority_kept need span kept is p.0)
authority_taken need number other s kept is e = closed_taken need number other s kept e

have_kept : (need : Need) (day : ℕ) → AreWithin need → AreWithin (record need { have = Some day })
have_kept need day is = record {
  ordered = is.ordered;
  few_days = is.few_days;
  some_minimum = is.some_minimum;
  minimum_fits = is.minimum_fits;
  days_fit = is.days_fit;
  some_live = is.some_live;
  few_live = is.few_live;
  spans = is.spans;
  few_authorities = is.few_authorities;
  few_closed = is.few_closed;
}

have_taken : (need : Need) (number : ℕ) (line : NeedLine) (s : Reading) → AreWithin need → IsLine line → with_have need number line ≡ Ok s
    → Keeps s
have_taken need number (said.Have day) s kept is e =
    let same : next.Authority (record need { have = Some day }) ≡ s = cc in subst Keeps same (have_kept need day kept)
have_taken need number other s kept is e = authority_taken need number other s kept is e

-- ---- one line after the other

said_taken : (r : Reading) (number : ℕ) (line : NeedLine) (s : Reading) → Keeps r → IsLine line → with_said r number line ≡ Ok s → Keeps s
said_taken next.Need number line s kept is e = need_taken number line s is e
said_taken (next.Term span) number line s kept is e = term_taken span number line s kept e
said_taken (next.Live span days minimum) number line s kept is e = live_taken span days minimum number line s kept.0 kept.1 e
said_taken (next.Have need) number line s kept is e = have_taken need number line s kept is e
said_taken (next.Authority need) number line s kept is e = authority_taken need number line s kept is e
said_taken (next.Closed need) number line s kept is e = closed_taken need number line s kept e

module _ (r s : Reading) (line : ℕ × List ℕ) (kept : Keeps r) where
  by_said : (o : Option NeedLine) → line_of line ≡ o → (some_or o (form line.0) >>= with_said r line.0) ≡ Ok s → Keeps s
  by_said None is e = cc
  by_said (Some x) is e =
      let ws = gives_some (words line.1) line_said x is in said_taken r line.0 x s kept (line_is ws.0 x ws.2) e

  line_taken : with_line r line ≡ Ok s → Keeps s
  line_taken e = by_said (line_of line) refl e

step : (w : Result Reading NeedRefusal) (s : Reading) (more : List (ℕ × List ℕ))
    → ((t : Reading) → w ≡ Ok t → with_lines t more ≡ Ok s → Keeps s) → (w >>= λ t. with_lines t more) ≡ Ok s → Keeps s
step (Ok t) s more rest e = rest t refl e
step (Err f) s more rest e = cc

lines_taken : (lines : List (ℕ × List ℕ)) (r s : Reading) → Keeps r → with_lines r lines ≡ Ok s → Keeps s
lines_taken [] r s kept e = let same : r ≡ s = cc in subst Keeps same kept
lines_taken (line ∷ more) r s kept e =
    step (with_line r line) s more (λ t is rest. lines_taken more t s (line_taken r t line kept is) rest) e

-- ---- texts

need_is_within : (r : Reading) (f : NeedRefusal) (need : Need) → Keeps r → some_or (need_of r) f ≡ Ok need → AreWithin need
need_is_within next.Need f need kept e = cc
need_is_within (next.Term span) f need kept e = cc
need_is_within (next.Live span days minimum) f need kept e = cc
need_is_within (next.Have n) f need kept e = let same : n ≡ need = cc in subst AreWithin same kept
need_is_within (next.Authority n) f need kept e = let same : n ≡ need = cc in subst AreWithin same kept
need_is_within (next.Closed n) f need kept e = let same : n ≡ need = cc in subst AreWithin same kept

by_lines : (lines : List (ℕ × List ℕ)) (f : NeedRefusal) (need : Need) (w : Result Reading NeedRefusal) → with_lines next.Need lines ≡ w
    → (w >>= λ r. some_or (need_of r) f) ≡ Ok need → AreWithin need
by_lines lines f need (Ok r) is e = need_is_within r f need (lines_taken lines next.Need r tt is) e
by_lines lines f need (Err g) is e = cc

pub needs_are_within : (text : List ℕ) (need : Need) → read_need text ≡ Ok need → AreWithin need
needs_are_within text need e =
    by_lines (numbered_lines text) (form (end_line text)) need (with_lines next.Need (numbered_lines text)) refl e
