-- A text is read as a need exactly where its lines say it.
use Rattle.std.proofs.Common.{◌≡◌, ℕ, ◌+◌, ◌≤◌, Bool, true, false, List, [], ◌∷◌, ◌++◌, length, map, None, Some, Ok, Err, refl, sym, ap, ◌∙◌, subst, arith, append_assoc, length-append}
use Rattle.std.specs.declared.option.Option.{Option}
use Rattle.std.specs.declared.result.Result.{Result}
use Rattle.std.specs.Prelude.{◌&&◌, nat_le, nat_lt}
use Rattle.std.proofs.lemmas.Bool.Decides.{nat_tests}
use Rattle.std.proofs.lemmas.List.{append-nil, map-append}
use Rattle.eac_base.specs.Answers.{◌>>=◌, ◌>>◌, unless, some_or}
use Rattle.eac_base.specs.Text.{numbered_lines}
use Rattle.renewal_plan.specs.NeedLaws.{have_lines, lines_of, IsTextOf, TextsAreRead}
use Rattle.renewal_plan.specs.NeedLine.{AreWithin, span_fits, term_fits, live_fits}
use Rattle.renewal_plan.specs.NeedText.{form, limit, end_line, new_need, line_of, with_need, with_term, with_live, with_have, with_authority, with_closed, with_said, with_lines, need_of, read_need}
use Rattle.renewal_plan.specs.declared.need.Need.{Need}
use Rattle.renewal_plan.specs.declared.need_line.NeedLine.{NeedLine}
use Rattle.renewal_plan.specs.declared.need_line.NeedLine.TheVariants as said
use Rattle.renewal_plan.specs.declared.need_refusal.NeedRefusal.{NeedRefusal}
use Rattle.renewal_plan.specs.declared.need_text.Reading.{Reading}
use Rattle.renewal_plan.specs.declared.need_text.Reading.TheVariants as next
use Rattle.renewal_plan.proofs.NeedLimits.{passed, needs_are_within}

abbrev spans_said : List (ℕ × ℕ) → List NeedLine
spans_said spans = map (λ span. said.Authority span) spans

abbrev days_said : List ℕ → List NeedLine
days_said days = map (λ day. said.Closed day) days

abbrev all_said : List NeedLine → List (Option NeedLine)
all_said lines = map (λ line. Some line) lines

-- ---- a need that is read is what the lines say

abbrev so_far : Reading → List NeedLine
so_far next.Need = []
so_far (next.Term span) = said.Need span ∷ []
so_far (next.Live span days minimum) = said.Need span ∷ said.Term days minimum ∷ []
so_far (next.Have need) = lines_of need
so_far (next.Authority need) = lines_of need
so_far (next.Closed need) = lines_of need

-- What may come next hasn't come.
abbrev IsOpen : Reading → Type 0
IsOpen next.Need = Unit {0}
IsOpen (next.Term span) = Unit {0}
IsOpen (next.Live span days minimum) = Unit {0}
IsOpen (next.Have need) = (need.have ≡ None) × (need.authorities ≡ []) × (need.closed ≡ [])
IsOpen (next.Authority need) = need.closed ≡ []
IsOpen (next.Closed need) = Unit {0}

abbrev Adds : List NeedLine → NeedLine → Reading → Type 0
Adds before line s = (so_far s ≡ before ++ line ∷ []) × IsOpen s

map_more : {A : Type 0} (f : A → NeedLine) (front : List NeedLine) (xs : List A) (x : A)
    → front ++ map f (xs ++ x ∷ []) ≡ (front ++ map f xs) ++ f x ∷ []
map_more f front xs x = ap (λ l. front ++ l) (map-append f xs (x ∷ [])) ∙ sym (append_assoc front (map f xs) (f x ∷ []))

closed_adds : (need : Need) (number : ℕ) (line : NeedLine) (s : Reading) → with_closed need number line ≡ Ok s → Adds (lines_of need) line s
closed_adds need number (said.Closed day) s e =
    let p = passed (nat_lt (length need.closed) 3660) (limit number) (next.Closed (record need { closed = need.closed ++ day ∷ [] })) s e in
    subst (Adds (lines_of need) (said.Closed day)) p.1 (
      map_more (λ d. said.Closed d) (said.Need (need.first, need.last) ∷ said.Term need.days need.minimum ∷ said.Live need.live ∷ []
          ++ have_lines need.have ++ spans_said need.authorities) need.closed day,
      tt,
    )
closed_adds need number other s e = cc

span_more : (front : List NeedLine) (spans : List (ℕ × ℕ)) (span : ℕ × ℕ) (days : List ℕ) → days ≡ []
    → front ++ spans_said (spans ++ span ∷ []) ++ days_said days ≡ (front ++ spans_said spans ++ days_said days) ++ said.Authority span ∷ []
span_more front spans span [] none =
    append-nil (front ++ spans_said (spans ++ span ∷ [])) ∙ map_more (λ s. said.Authority s) front spans span
    ∙ sym (ap (λ l. l ++ said.Authority span ∷ []) (append-nil (front ++ spans_said spans)))
span_more front spans span (d ∷ days) none = cc

authority_adds : (need : Need) (number : ℕ) (line : NeedLine) (s : Reading) → need.closed ≡ [] → with_authority need number line ≡ Ok s
    → Adds (lines_of need) line s
authority_adds need number (said.Authority span) s none e =
    let p = passed (nat_lt (length need.authorities) 100) (limit number)
    (next.Authority (record need { authorities = need.authorities ++ span ∷ [] })) s e in
    subst (Adds (lines_of need) (said.Authority span)) p.1 (
      span_more (said.Need (need.first, need.last) ∷ said.Term need.days need.minimum ∷ said.Live need.live ∷ [] ++ have_lines need.have)
          need.authorities span need.closed none,
      none,
    )
authority_adds need number other s none e = closed_adds need number other s e

have_more : (front : List NeedLine) (have : Option ℕ) (spans : List (ℕ × ℕ)) (days : List ℕ) (day : ℕ) → have ≡ None → spans ≡ [] → days ≡ []
    → front ++ said.Have day ∷ [] ++ spans_said spans ++ days_said days
    ≡ (front ++ have_lines have ++ spans_said spans ++ days_said days) ++ said.Have day ∷ []
have_more front None [] [] day a b c = simp append-nil
have_more front (Some d) spans days day a b c = cc
have_more front None (x ∷ spans) days day a b c = cc
have_more front None [] (x ∷ days) day a b c = cc

have_adds : (need : Need) (number : ℕ) (line : NeedLine) (s : Reading) → IsOpen (next.Have need) → with_have need number line ≡ Ok s
    → Adds (lines_of need) line s
have_adds need number (said.Have day) s fresh e =
    let same : next.Authority (record need { have = Some day }) ≡ s = cc in
    subst (Adds (lines_of need) (said.Have day)) same (
      have_more (said.Need (need.first, need.last) ∷ said.Term need.days need.minimum ∷ said.Live need.live ∷ []) need.have
          need.authorities need.closed day fresh.0 fresh.1 fresh.2,
      fresh.2,
    )
have_adds need number other s fresh e = authority_adds need number other s fresh.2 e

need_adds : (number : ℕ) (line : NeedLine) (s : Reading) → with_need number line ≡ Ok s → Adds [] line s
need_adds number (said.Need span) s e =
    let p = passed (span_fits span) (limit number) (next.Term span) s e in subst (Adds [] (said.Need span)) p.1 (refl, tt)
need_adds number other s e = cc

term_adds : (span : ℕ × ℕ) (number : ℕ) (line : NeedLine) (s : Reading) → with_term span number line ≡ Ok s
    → Adds (said.Need span ∷ []) line s
term_adds span number (said.Term days minimum) s e =
    let p = passed (term_fits days minimum) (limit number) (next.Live span days minimum) s e in
    subst (Adds (said.Need span ∷ []) (said.Term days minimum)) p.1 (refl, tt)
term_adds span number other s e = cc

live_adds : (span : ℕ × ℕ) (days minimum number : ℕ) (line : NeedLine) (s : Reading) → with_live span days minimum number line ≡ Ok s
    → Adds (said.Need span ∷ said.Term days minimum ∷ []) line s
live_adds span days minimum number (said.Live live) s e =
    let p = passed (live_fits live) (limit number) (next.Have (new_need span days minimum live)) s e in
    subst (Adds (said.Need span ∷ said.Term days minimum ∷ []) (said.Live live)) p.1 (refl, (refl, refl, refl))
live_adds span days minimum number other s e = cc

said_adds : (r : Reading) (number : ℕ) (line : NeedLine) (s : Reading) → IsOpen r → with_said r number line ≡ Ok s → Adds (so_far r) line s
said_adds next.Need number line s fresh e = need_adds number line s e
said_adds (next.Term span) number line s fresh e = term_adds span number line s e
said_adds (next.Live span days minimum) number line s fresh e = live_adds span days minimum number line s e
said_adds (next.Have need) number line s fresh e = have_adds need number line s fresh e
said_adds (next.Authority need) number line s fresh e = authority_adds need number line s fresh e
said_adds (next.Closed need) number line s fresh e = closed_adds need number line s e

abbrev AddAll : List NeedLine → List (ℕ × List ℕ) → Reading → Type 0
AddAll before lines s = all_said (so_far s) ≡ all_said before ++ map line_of lines

join : (before after : List NeedLine) (line : NeedLine) (said_here : Option NeedLine) (later : List (Option NeedLine))
    → after ≡ before ++ line ∷ [] → said_here ≡ Some line → all_said after ++ later ≡ all_said before ++ said_here ∷ later
join before after line said_here later e is =
    ap (λ l. all_said l ++ later) e ∙ ap (λ l. l ++ later) (map-append (λ x. Some x) before (line ∷ []))
    ∙ append_assoc (all_said before) (Some line ∷ []) later
    ∙ ap (λ o. all_said before ++ o ∷ later) (sym is)

module _ (r s : Reading) (line : ℕ × List ℕ) (more : List (ℕ × List ℕ)) (fresh : IsOpen r)
    (rest : (t : Reading) → IsOpen t → with_lines t more ≡ Ok s → AddAll (so_far t) more s) where
  by_step : (x : NeedLine) (w : Result Reading NeedRefusal) → line_of line ≡ Some x → with_said r line.0 x ≡ w
      → (w >>= λ t. with_lines t more) ≡ Ok s → AddAll (so_far r) (line ∷ more) s
  by_step x (Ok t) is taken e =
      let adds = said_adds r line.0 x t fresh taken in
      rest t adds.1 e ∙ join (so_far r) (so_far t) x (line_of line) (map line_of more) adds.0 is
  by_step x (Err f) is taken e = cc

  by_line : (o : Option NeedLine) → line_of line ≡ o → (some_or o (form line.0) >>= with_said r line.0 >>= λ t. with_lines t more) ≡ Ok s
      → AddAll (so_far r) (line ∷ more) s
  by_line None is e = cc
  by_line (Some x) is e = by_step x (with_said r line.0 x) is refl e

lines_add : (lines : List (ℕ × List ℕ)) (r s : Reading) → IsOpen r → with_lines r lines ≡ Ok s → AddAll (so_far r) lines s
lines_add [] r s fresh e = let same : r ≡ s = cc in ap (λ t. all_said (so_far t)) (sym same) ∙ sym (append-nil (all_said (so_far r)))
lines_add (line ∷ more) r s fresh e = by_line r s line more fresh (λ t. lines_add more t s) (line_of line) refl e

need_said : (r : Reading) (f : NeedRefusal) (need : Need) → some_or (need_of r) f ≡ Ok need → so_far r ≡ lines_of need
need_said next.Need f need e = cc
need_said (next.Term span) f need e = cc
need_said (next.Live span days minimum) f need e = cc
need_said (next.Have n) f need e = let same : n ≡ need = cc in ap lines_of same
need_said (next.Authority n) f need e = let same : n ≡ need = cc in ap lines_of same
need_said (next.Closed n) f need e = let same : n ≡ need = cc in ap lines_of same

by_lines : (lines : List (ℕ × List ℕ)) (f : NeedRefusal) (need : Need) (w : Result Reading NeedRefusal) → with_lines next.Need lines ≡ w
    → (w >>= λ r. some_or (need_of r) f) ≡ Ok need → map line_of lines ≡ all_said (lines_of need)
by_lines lines f need (Ok r) is e = sym (lines_add lines next.Need r tt is) ∙ ap all_said (need_said r f need e)
by_lines lines f need (Err g) is e = cc

is_text : (text : List ℕ) (need : Need) → read_need text ≡ Ok need → IsTextOf need text
is_text text need e = record {
  within = needs_are_within text need e;
  lines = by_lines (numbered_lines text) (form (end_line text)) need (with_lines next.Need (numbered_lines text)) refl e;
}

-- ---- a need whose lines stand in a text is read

-- Behind what was read, lines that say this are read as the need.
abbrev Ends : Reading → List NeedLine → Need → Type 0
Ends r xs need = (lines : List (ℕ × List ℕ)) (f : NeedRefusal) → map line_of lines ≡ all_said xs
    → (with_lines r lines >>= λ s. some_or (need_of s) f) ≡ Ok need

ends_now : (r : Reading) (need : Need) → need_of r ≡ Some need → Ends r [] need
ends_now r need is [] f e = ap (λ o. some_or o f) is
ends_now r need is (line ∷ lines) f e = cc

ends_more : (r s : Reading) (x : NeedLine) (xs : List NeedLine) (need : Need) → ((number : ℕ) → with_said r number x ≡ Ok s)
    → Ends s xs need → Ends r (x ∷ xs) need
ends_more r s x xs need taken rest [] f e = cc
ends_more r s x xs need taken rest (line ∷ lines) f e =
    let here : line_of line ≡ Some x = cc in
    let later : map line_of lines ≡ all_said xs = cc in
    ap (λ o. some_or o (form line.0) >>= with_said r line.0 >>= (λ t. with_lines t lines) >>= (λ t. some_or (need_of t) f)) here
    ∙ ap (λ w. w >>= (λ t. with_lines t lines) >>= (λ t. some_or (need_of t) f)) (taken line.0)
    ∙ rest lines f later

fits : (test : Bool) (f : NeedRefusal) (s : Reading) → test ≡ true → (unless test f >> Ok s) ≡ Ok s
fits true f s e = refl
fits false f s e = cc

-- What may come next is a line `closed`, and with the next one also a line `authority`.
abbrev TakesClosed : Reading → Need → Type 0
TakesClosed r need = (need_of r ≡ Some need)
    × ((number day : ℕ) → with_said r number (said.Closed day) ≡ with_closed need number (said.Closed day))

abbrev TakesAuthority : Reading → Need → Type 0
TakesAuthority r need =
    (number : ℕ) (span : ℕ × ℕ) → with_said r number (said.Authority span) ≡ with_authority need number (said.Authority span)

ends_closed : (days : List ℕ) (r : Reading) (need : Need) → TakesClosed r need → length need.closed + length days ≤ 3660
    → Ends r (days_said days) (record need { closed = need.closed ++ days })
ends_closed [] r need takes room =
    ends_now r (record need { closed = need.closed ++ [] })
    (takes.0 ∙ ap (λ l. Some (record need { closed = l })) (sym (append-nil need.closed)))
ends_closed (day ∷ days) r need takes room =
    let after : Need = record need { closed = need.closed ++ day ∷ [] } in
    let test : nat_lt (length need.closed) 3660 ≡ true = grind (arith, nat_tests) in
    let left : length (need.closed ++ day ∷ []) + length days ≤ 3660 = omega (arith, length-append need.closed (day ∷ [])) in
    ends_more r (next.Closed after) (said.Closed day) (days_said days) (record need { closed = need.closed ++ day ∷ days })
    (λ number. takes.1 number day ∙ fits (nat_lt (length need.closed) 3660) (limit number) (next.Closed after) test)
    (subst (λ l. Ends (next.Closed after) (days_said days) (record need { closed = l })) (append_assoc need.closed (day ∷ []) days)
    (ends_closed days (next.Closed after) after (refl, λ number d. refl) left))

ends_authorities : (spans : List (ℕ × ℕ)) (days : List ℕ) (r : Reading) (need : Need) → TakesClosed r need → TakesAuthority r need
    → length need.authorities + length spans ≤ 100 → length need.closed + length days ≤ 3660
    → Ends r (spans_said spans ++ days_said days) (record need { authorities = need.authorities ++ spans; closed = need.closed ++ days })
ends_authorities [] days r need closed takes room left =
    subst (λ l. Ends r (days_said days) (record need { authorities = l; closed = need.closed ++ days }))
    (sym (append-nil need.authorities)) (ends_closed days r need closed left)
ends_authorities (span ∷ spans) days r need closed takes room left =
    let after : Need = record need { authorities = need.authorities ++ span ∷ [] } in
    let test : nat_lt (length need.authorities) 100 ≡ true = grind (arith, nat_tests) in
    let less : length (need.authorities ++ span ∷ []) + length spans ≤ 100 = omega (arith, length-append need.authorities (span ∷ [])) in
    ends_more r (next.Authority after) (said.Authority span) (spans_said spans ++ days_said days)
    (record need { authorities = need.authorities ++ span ∷ spans; closed = need.closed ++ days })
    (λ number. takes number span ∙ fits (nat_lt (length need.authorities) 100) (limit number) (next.Authority after) test)
    (subst (λ l. Ends (next.Authority after) (spans_said spans ++ days_said days)
    (record need { authorities = l; closed = need.closed ++ days })) (append_assoc need.authorities (span ∷ []) spans)
    (ends_authorities spans days (next.Authority after) after (refl, λ number d. refl) (λ number s. refl) less left))

module _ (span : ℕ × ℕ) (term least live : ℕ) (spans : List (ℕ × ℕ)) (days : List ℕ) (few_spans : length spans ≤ 100)
    (few_days : length days ≤ 3660) where
  abbrev whole : Option ℕ → Need
  whole have = record {
    first = span.0;
    last = span.1;
    days = term;
    minimum = least;
    live = live;
    have = have;
    authorities = spans;
    closed = days;
  }

  ends_have : (have : Option ℕ)
      → Ends (next.Have (new_need span term least live)) (have_lines have ++ spans_said spans ++ days_said days) (whole have)
  ends_have None =
      let need = new_need span term least live in
      ends_authorities spans days (next.Have need) need (refl, λ number d. refl) (λ number s. refl) (omega (arith, few_spans))
      (omega (arith, few_days))
  ends_have (Some day) =
      let need : Need = record (new_need span term least live) { have = Some day } in
      ends_more (next.Have (new_need span term least live)) (next.Authority need) (said.Have day) (spans_said spans ++ days_said days)
      (whole (Some day)) (λ number. refl)
      (ends_authorities spans days (next.Authority need) need (refl, λ number d. refl) (λ number s. refl) (omega (arith, few_spans))
      (omega (arith, few_days)))

within_test : (low high n : ℕ) → low ≤ n → n ≤ high → (nat_le low n && nat_le n high) ≡ true
within_test low high n a b = grind (arith, nat_tests)

term_test : (days minimum : ℕ) → 1 ≤ minimum → minimum ≤ days → days ≤ 92 → term_fits days minimum ≡ true
term_test days minimum some le few =
    ap (λ b. b && (nat_le 1 minimum && nat_le minimum days)) (within_test 1 92 days (omega arith) few) ∙ within_test 1 days minimum some le

ends : (need : Need) → AreWithin need → Ends next.Need (lines_of need) need
ends need is =
    let span : ℕ × ℕ = (need.first, need.last) in
    let span_test : nat_lt need.last (need.first + 3660) ≡ true = grind (arith, nat_tests, is.few_days) in
    let tail = have_lines need.have ++ spans_said need.authorities ++ days_said need.closed in
    ends_more next.Need (next.Term span) (said.Need span) (said.Term need.days need.minimum ∷ said.Live need.live ∷ tail) need
    (λ number. fits (span_fits span) (limit number) (next.Term span) span_test)
    (ends_more (next.Term span) (next.Live span need.days need.minimum) (said.Term need.days need.minimum) (said.Live need.live ∷ tail) need
    (λ number. fits (term_fits need.days need.minimum) (limit number) (next.Live span need.days need.minimum)
    (term_test need.days need.minimum is.some_minimum is.minimum_fits is.days_fit))
    (ends_more (next.Live span need.days need.minimum) (next.Have (new_need span need.days need.minimum need.live)) (said.Live need.live)
    tail need
    (λ number. fits (live_fits need.live) (limit number) (next.Have (new_need span need.days need.minimum need.live))
    (within_test 1 100 need.live is.some_live is.few_live))
    (ends_have span need.days need.minimum need.live need.authorities need.closed is.few_authorities is.few_closed need.have)))

pub texts_are_read : TextsAreRead
texts_are_read text need =
    (is_text text need, λ is. ends need is.within (numbered_lines text) (form (end_line text)) is.lines)
