-- What every script and every fault keeps.
use Rattle.std.proofs.Common.{◌≡◌, ℕ, ◌+◌, ◌<◌, ◌≤◌, Bool, true, false, cond, refl, arith, length-append, lit≤, List, [], ◌∷◌, ◌++◌, length, Some, None, Ok, Err, sym, ap, ◌∙◌, subst, append-nil, append_assoc}
use Rattle.std.proofs.lemmas.Bool.{ltb-false, ltb-true}
use Rattle.std.specs.Prelude.{nat_lt, is_some}
use Rattle.std.specs.declared.option.Option.{Option}
use Rattle.std.specs.declared.result.Result.{Result}
use Rattle.std.specs.List.{cons_option}
use Rattle.std.specs.Option.{option_map, option_or}
use Rattle.eac_base.specs.Answers.{◌>>=◌}
use Rattle.policy_limits.specs.SetupText.{with_line, with_lines}
use Rattle.policy_limits.specs.declared.setup_refusal.SetupRefusal.{SetupRefusal}
use Rattle.policy_limits.specs.Setup.{SetupValue}
use Rattle.eac_net.specs.declared.event.Event.{Event}
use Rattle.eac_cli.specs.LineRules.{rule_number}
use Rattle.eac_cli.specs.Naming.{event_in}
use Rattle.eac_cli.specs.Script.{Line, Said, InSetup, Alone, lines_read, setup_lines, setup_of, named_of, events_of, day_begun, day_after, order_rule, party_rule, count_rule, rule_behind, rule_in_setup, broken, Unbroken, IsScript, IsFault, IsNotBefore, InOrder}
use Rattle.eac_cli.specs.ScriptLaws.{IsInTwoParts}
use Rattle.eac_cli.specs.declared.event.EventLine.{EventLine}
use Rattle.eac_cli.specs.declared.line_rule.LineRule.{LineRule}
use Rattle.eac_cli.specs.declared.line_rule.LineRule.TheVariants.{DayFalls, TooMany, Party}
use Rattle.eac_cli.specs.declared.named_event.NamedEvent.{NamedEvent}
use Rattle.eac_cli.proofs.Fits.{IsWithin, Fits, named_fits, none_begins}
use Rattle.eac_cli.proofs.Reading.{setup_then, named_more, day_more, none_yet}

-- ---- what an event that breaks no rule keeps

never_some : (rule : LineRule) → Some rule ≡ None → ⊥
never_some rule e = cc

first_none : (a b : Option LineRule) → option_or a b ≡ None → a ≡ None
first_none (Some rule) b fine = absurd (never_some rule fine)
first_none None b fine = refl

second_none : (a b : Option LineRule) → option_or a b ≡ None → b ≡ None
second_none (Some rule) b fine = absurd (never_some rule fine)
second_none None b fine = fine

module _ (setup : Result SetupValue SetupRefusal) (today : Option ℕ) (events : ℕ) (event : NamedEvent) (fine : rule_behind setup today events event ≡ None) where
  pub in_order_behind : order_rule today (day_begun event) ≡ None
  in_order_behind = first_none (order_rule today (day_begun event)) (option_or (party_rule setup event) (count_rule events)) fine

  parties_and_count : option_or (party_rule setup event) (count_rule events) ≡ None
  parties_and_count = second_none (order_rule today (day_begun event)) (option_or (party_rule setup event) (count_rule events)) fine

  pub parties_behind : party_rule setup event ≡ None
  parties_behind = first_none (party_rule setup event) (count_rule events) parties_and_count

  pub count_behind : count_rule events ≡ None
  count_behind = second_none (party_rule setup event) (count_rule events) parties_and_count

-- ---- each event is in its place

falls : (b : Bool) → cond b (Some DayFalls) None ≡ None → b ≡ false
falls true fine = absurd (never_some DayFalls fine)
falls false fine = refl

not_before : (today begun : Option ℕ) → order_rule today begun ≡ None → IsNotBefore today (option_or begun today)
not_before None begun fine = tt
not_before (Some today) None fine = omega arith
not_before (Some today) (Some day) fine = ltb-false day today (falls (nat_lt day today) fine)

-- Each event line names an event, or none; those that are named are in order, and the day in force goes along.
abbrev pub AllWithin : (chips : ℕ) → List (ℕ × NamedEvent) → Type 0
AllWithin chips [] = Unit {0}
AllWithin chips (line ∷ lines) = IsWithin chips line.1 × AllWithin chips lines

place_step : (chips : ℕ) (setup : SetupValue) (today : Option ℕ) (n : ℕ) (event : NamedEvent) (named : Option Event) (rest : List EventLine) → event_in setup event ≡ named → IsWithin chips event → order_rule today (day_begun event) ≡ None → InOrder (option_or (day_begun event) today) rest → InOrder today (cons_option (option_map (λ (e : Event). record { line = n; event = e }) named) rest)
place_step chips setup today n event None rest is within fine order =
    subst (λ (begun : Option ℕ). InOrder (option_or begun today) rest) (none_begins setup event is) order
place_step chips setup today n event (Some e) rest is within fine order =
    let f : Fits chips setup event e = named_fits chips setup event e within is in (
      record { day = f.has today fine; later = subst (IsNotBefore today) (sym (f.later today)) (not_before today (day_begun event) fine) },
      subst (λ (d : Option ℕ). InOrder d rest) (sym (f.later today)) order,
    )

order_after : (chips : ℕ) (setup : SetupValue) (earlier lines : List Line) → AllWithin chips (named_of lines) → Unbroken earlier lines → InOrder (day_after earlier) (events_of setup lines)
order_after chips setup earlier [] within fine = tt
order_after chips setup earlier ((n, InSetup text) ∷ lines) within fine =
    subst (λ d. InOrder d (events_of setup lines)) (day_more earlier ((n, InSetup text) ∷ [])) (order_after chips setup (earlier ++ (n, InSetup text) ∷ []) lines within fine.1)
order_after chips setup earlier ((n, Alone (Ok event)) ∷ lines) within fine =
    place_step chips setup (day_after earlier) n event (event_in setup event) (events_of setup lines) refl within.0
    (in_order_behind (setup_of earlier) (day_after earlier) (length (named_of earlier)) event fine.0)
    (subst (λ d. InOrder d (events_of setup lines)) (day_more earlier ((n, Alone (Ok event)) ∷ [])) (order_after chips setup (earlier ++ (n, Alone (Ok event)) ∷ []) lines within.1 fine.1))
order_after chips setup earlier ((n, Alone (Err rule)) ∷ lines) within fine = absurd (never_some rule fine.0)

-- ---- a script is short

room : (b : Bool) (events : ℕ) → b ≡ nat_lt events 20000 → cond b None (Some TooMany) ≡ None → events < 20000
room true events e fine = ltb-true events 20000 (sym e)
room false events e fine = absurd (never_some TooMany fine)

count_after : (earlier lines : List Line) → length (named_of earlier) ≤ 20000 → Unbroken earlier lines → length (named_of earlier) + length (named_of lines) ≤ 20000
count_after earlier [] before fine = omega arith
count_after earlier ((n, InSetup text) ∷ lines) before fine =
    let same : length (named_of (earlier ++ (n, InSetup text) ∷ [])) ≡ length (named_of earlier) = ap length (named_more earlier ((n, InSetup text) ∷ []) ∙ append-nil (named_of earlier)) in
    let more : length (named_of (earlier ++ (n, InSetup text) ∷ [])) + length (named_of lines) ≤ 20000 = count_after (earlier ++ (n, InSetup text) ∷ []) lines (omega arith) fine.1 in
    omega arith
count_after earlier ((n, Alone (Ok event)) ∷ lines) before fine =
    let below : length (named_of earlier) < 20000 = room (nat_lt (length (named_of earlier)) 20000) (length (named_of earlier)) refl (count_behind (setup_of earlier) (day_after earlier) (length (named_of earlier)) event fine.0) in
    let one : length (named_of (earlier ++ (n, Alone (Ok event)) ∷ [])) ≡ length (named_of earlier) + 1 = ap length (named_more earlier ((n, Alone (Ok event)) ∷ [])) ∙ length-append (named_of earlier) ((n, event) ∷ []) in
    let more : length (named_of (earlier ++ (n, Alone (Ok event)) ∷ [])) + length (named_of lines) ≤ 20000 = count_after (earlier ++ (n, Alone (Ok event)) ∷ []) lines (omega arith) fine.1 in
    omega arith
count_after earlier ((n, Alone (Err rule)) ∷ lines) before fine = absurd (never_some rule fine.0)

-- ---- setup lines come first

-- Behind an event no setup line comes.
late : (earlier lines : List Line) → (length (named_of earlier) ≡ 0 → ⊥) → Unbroken earlier lines → setup_lines lines ≡ []
late earlier [] some fine = refl
late earlier ((n, InSetup text) ∷ lines) some fine =
    absurd (some (none_yet (rule_in_setup (setup_of earlier >>= λ r. with_line r (n, text))) (length (named_of earlier)) (nat_lt 0 (length (named_of earlier))) refl fine.0))
late earlier ((n, Alone read) ∷ lines) some fine =
    late (earlier ++ (n, Alone read) ∷ []) lines (λ none. some (omega (arith, none, ap length (named_more earlier ((n, Alone read) ∷ [])), length-append (named_of earlier) (named_of ((n, Alone read) ∷ []))))) fine.1

behind_event : (earlier lines : List Line) (n : ℕ) (event : NamedEvent) → Unbroken (earlier ++ (n, Alone (Ok event)) ∷ []) lines → setup_lines lines ≡ []
behind_event earlier lines n event fine =
    late (earlier ++ (n, Alone (Ok event)) ∷ []) lines (λ zero. absurd (omega (arith, zero, ap length (named_more earlier ((n, Alone (Ok event)) ∷ [])), length-append (named_of earlier) ((n, event) ∷ [])))) fine

two_parts : (earlier lines : List Line) → named_of earlier ≡ [] → Unbroken earlier lines → IsInTwoParts lines
two_parts earlier [] none fine = record { front = []; back = []; cut = refl; no_event = refl; no_setup = refl }
two_parts earlier ((n, InSetup text) ∷ lines) none fine =
    let rest = two_parts (earlier ++ (n, InSetup text) ∷ []) lines (named_more earlier ((n, InSetup text) ∷ []) ∙ ap (λ (es : List (ℕ × NamedEvent)). es ++ []) none) fine.1 in
    record { front = (n, InSetup text) ∷ rest.front; back = rest.back; cut = ap (λ (ls : List Line). (n, InSetup text) ∷ ls) rest.cut; no_event = rest.no_event; no_setup = rest.no_setup }
two_parts earlier ((n, Alone (Ok event)) ∷ lines) none fine = record {
  front = [];
  back = (n, Alone (Ok event)) ∷ lines;
  cut = refl;
  no_event = refl;
  no_setup = behind_event earlier lines n event fine.1;
}
two_parts earlier ((n, Alone (Err rule)) ∷ lines) none fine = absurd (never_some rule fine.0)

pub in_two_parts : (bytes : List ℕ) (chips : ℕ) (setup : SetupValue) (events : List EventLine) → IsScript bytes chips setup events → IsInTwoParts (lines_read chips bytes)
in_two_parts bytes chips setup events s = two_parts [] (lines_read chips bytes) refl s.fine

-- ---- no event is lost

is_behind : (r : Result SetupValue SetupRefusal) (ls : List (ℕ × List ℕ)) (setup : SetupValue) → ls ≡ [] → (r >>= λ x. with_lines x ls) ≡ Ok setup → r ≡ Ok setup
is_behind (Ok x) ls setup none is = ap (λ (l : List (ℕ × List ℕ)). with_lines x l) (sym none) ∙ is
is_behind (Err e) ls setup none is = is

-- the setup that the lines have in the end is there before their first event
setup_there : (earlier lines : List Line) (n : ℕ) (event : NamedEvent) (setup : SetupValue) → Unbroken (earlier ++ (n, Alone (Ok event)) ∷ []) lines → setup_of (earlier ++ (n, Alone (Ok event)) ∷ lines) ≡ Ok setup → setup_of earlier ≡ Ok setup
setup_there earlier lines n event setup fine is =
    is_behind (setup_of earlier) (setup_lines lines) setup (behind_event earlier lines n event fine) (sym (setup_then earlier ((n, Alone (Ok event)) ∷ lines)) ∙ is)

is_named : (b : Bool) → cond b None (Some Party) ≡ None → b ≡ true
is_named true fine = refl
is_named false fine = absurd (never_some Party fine)

one_more : (n : ℕ) (named : Option Event) (rest : List EventLine) → is_some named ≡ true → length (cons_option (option_map (λ (e : Event). record { line = n; event = e }) named) rest) ≡ length rest + 1
one_more n (Some e) rest some = omega arith
one_more n None rest some = absurd (cc)

all_named : (setup : SetupValue) (earlier lines : List Line) → Unbroken earlier lines → setup_of (earlier ++ lines) ≡ Ok setup → length (events_of setup lines) ≡ length (named_of lines)
all_named setup earlier [] fine is = refl
all_named setup earlier ((n, InSetup text) ∷ lines) fine is =
    all_named setup (earlier ++ (n, InSetup text) ∷ []) lines fine.1 (ap setup_of (append_assoc earlier ((n, InSetup text) ∷ []) lines) ∙ is)
all_named setup earlier ((n, Alone (Ok event)) ∷ lines) fine is =
    let rest = all_named setup (earlier ++ (n, Alone (Ok event)) ∷ []) lines fine.1 (ap setup_of (append_assoc earlier ((n, Alone (Ok event)) ∷ []) lines) ∙ is) in
    let here : party_rule (Ok setup) event ≡ None = ap (λ (r : Result SetupValue SetupRefusal). party_rule r event) (sym (setup_there earlier lines n event setup fine.1 is)) ∙ parties_behind (setup_of earlier) (day_after earlier) (length (named_of earlier)) event fine.0 in
    let more : length (events_of setup ((n, Alone (Ok event)) ∷ lines)) ≡ length (events_of setup lines) + 1 = one_more n (event_in setup event) (events_of setup lines) (is_named (is_some (event_in setup event)) here) in
    omega (arith, more, rest)
all_named setup earlier ((n, Alone (Err rule)) ∷ lines) fine is = absurd (never_some rule fine.0)

pub none_lost : (bytes : List ℕ) (chips : ℕ) (setup : SetupValue) (events : List EventLine) → IsScript bytes chips setup events → length events ≡ length (named_of (lines_read chips bytes))
none_lost bytes chips setup events s = ap length s.events_are ∙ all_named setup [] (lines_read chips bytes) s.fine s.setup_is

pub short : (bytes : List ℕ) (chips : ℕ) (setup : SetupValue) (events : List EventLine) → IsScript bytes chips setup events → length events ≤ 20000
short bytes chips setup events s = omega (arith, none_lost bytes chips setup events s, count_after [] (lines_read chips bytes) (lit≤ tt) s.fine)

pub in_order : (bytes : List ℕ) (chips : ℕ) (setup : SetupValue) (events : List EventLine) → AllWithin chips (named_of (lines_read chips bytes)) → IsScript bytes chips setup events → InOrder None events
in_order bytes chips setup events within s = subst (InOrder None) (sym s.events_are) (order_after chips setup [] (lines_read chips bytes) within s.fine)

-- ---- setup and events are one

ok_same : (r : Result SetupValue SetupRefusal) (setup setup' : SetupValue) → r ≡ Ok setup → r ≡ Ok setup' → setup ≡ setup'
ok_same r setup setup' e e' = cc

pub setup_is_one : (bytes : List ℕ) (chips : ℕ) (setup setup' : SetupValue) (events events' : List EventLine) → IsScript bytes chips setup events → IsScript bytes chips setup' events' → setup ≡ setup'
setup_is_one bytes chips setup setup' events events' s t = ok_same (setup_of (lines_read chips bytes)) setup setup' s.setup_is t.setup_is

-- ---- a script has no fault

unbroken_at : (earlier front : List Line) (line : Line) (back : List Line) → Unbroken earlier (front ++ line ∷ back) → broken (earlier ++ front) line ≡ None
unbroken_at earlier [] line back fine = subst (λ l. broken l line ≡ None) (sym (append-nil earlier)) fine.0
unbroken_at earlier (first ∷ front) line back fine =
    subst (λ l. broken l line ≡ None) (append_assoc earlier (first ∷ []) front) (unbroken_at (earlier ++ first ∷ []) front line back fine.1)

no_rule : (o : Option LineRule) (rule : ℕ) → o ≡ None → option_map rule_number o ≡ Some rule → ⊥
no_rule o rule none some = differ (ap (option_map rule_number) (sym none) ∙ some)
  where
    differ : None ≡ Some rule → ⊥
    differ e = cc

pub no_fault : (bytes : List ℕ) (chips : ℕ) (setup : SetupValue) (events : List EventLine) (line rule : ℕ) → IsScript bytes chips setup events → IsFault bytes chips line rule → ⊥
no_fault bytes chips setup events line rule s f =
    no_rule (broken f.front (line, f.said)) rule (unbroken_at [] f.front (line, f.said) f.back (subst (Unbroken []) f.cut s.fine)) f.breaks

-- ---- a fault is one

abbrev first_of : List Line → Line
first_of [] = (0, InSetup [])
first_of (line ∷ lines) = line

abbrev rest_of : List Line → List Line
rest_of [] = []
rest_of (line ∷ lines) = lines

some_same : (o o' : Option ℕ) (rule rule' : ℕ) → o ≡ o' → o ≡ Some rule → o' ≡ Some rule' → rule ≡ rule'
some_same o o' rule rule' e some some' = cc

-- A line that breaks a rule isn't one that breaks none.
no_such_line : (earlier : List Line) (line : ℕ) (read : Said) (other : Line) (rule : ℕ) → (line, read) ≡ other → broken earlier other ≡ None → option_map rule_number (broken (earlier ++ []) (line, read)) ≡ Some rule → ⊥
no_such_line earlier line read other rule same fine breaks =
    no_rule (broken (earlier ++ []) (line, read)) rule (ap (λ l. broken l (line, read)) (append-nil earlier) ∙ ap (λ l. broken earlier l) same ∙ fine) breaks

same_fault : (earlier front front' : List Line) (line line' : ℕ) (read read' : Said) (back back' : List Line) (rule rule' : ℕ) → front ++ (line, read) ∷ back ≡ front' ++ (line', read') ∷ back' → Unbroken earlier front → Unbroken earlier front' → option_map rule_number (broken (earlier ++ front) (line, read)) ≡ Some rule → option_map rule_number (broken (earlier ++ front') (line', read')) ≡ Some rule' → (line ≡ line') × (rule ≡ rule')
same_fault earlier [] [] line line' read read' back back' rule rule' e fine fine' breaks breaks' =
    let same : (line, read) ≡ (line', read') = ap first_of e in
    (ap (λ l. l.0) same, some_same (option_map rule_number (broken (earlier ++ []) (line, read))) (option_map rule_number (broken (earlier ++ []) (line', read'))) rule rule' (ap (λ l. option_map rule_number (broken (earlier ++ []) l)) same) breaks breaks')
same_fault earlier [] (first' ∷ front') line line' read read' back back' rule rule' e fine fine' breaks breaks' =
    absurd (no_such_line earlier line read first' rule (ap first_of e) fine'.0 breaks)
same_fault earlier (first ∷ front) [] line line' read read' back back' rule rule' e fine fine' breaks breaks' =
    absurd (no_such_line earlier line' read' first rule' (sym (ap first_of e)) fine.0 breaks')
same_fault earlier (first ∷ front) (first' ∷ front') line line' read read' back back' rule rule' e fine fine' breaks breaks' =
    same_fault (earlier ++ first ∷ []) front front' line line' read read' back back' rule rule' (ap rest_of e) fine.1
    (subst (λ l. Unbroken (earlier ++ l ∷ []) front') (sym (ap first_of e)) fine'.1)
    (subst (λ l. option_map rule_number (broken l (line, read)) ≡ Some rule) (sym (append_assoc earlier (first ∷ []) front)) breaks)
    (subst (λ l. option_map rule_number (broken l (line', read')) ≡ Some rule') (sym (append_assoc earlier (first' ∷ []) front') ∙ ap (λ l. (earlier ++ l ∷ []) ++ front') (sym (ap first_of e))) breaks')

pub fault_is_one : (bytes : List ℕ) (chips : ℕ) (line rule line' rule' : ℕ) → IsFault bytes chips line rule → IsFault bytes chips line' rule' → (line ≡ line') × (rule ≡ rule')
fault_is_one bytes chips line rule line' rule' f g =
    same_fault [] f.front g.front line line' f.said g.said f.back g.back rule rule' (sym f.cut ∙ g.cut) f.fine g.fine f.breaks g.breaks
