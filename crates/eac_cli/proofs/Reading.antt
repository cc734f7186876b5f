-- The reading of a script, one line after the other.
use Rattle.std.proofs.Common.{◌≡◌, ℕ, ◌+◌, Bool, true, false, cond, List, [], ◌∷◌, ◌++◌, map, length, None, Some, Ok, Err, refl, sym, ap, ◌∙◌, subst, arith, append-nil, append_assoc, length-append}
use Rattle.std.proofs.lemmas.Bool.{ltb-false}
use Rattle.std.proofs.lemmas.List.Elements.{filter_map-append}
use Rattle.std.specs.Prelude.{nat_lt}
use Rattle.std.specs.List.{filter_map}
use Rattle.std.specs.Option.{option_or}
use Rattle.std.specs.declared.option.Option.{Option}
use Rattle.std.specs.declared.result.Result.{Result}
use Rattle.eac_base.specs.Answers.{◌>>=◌}
use Rattle.plain_text.specs.Lines.{numbered_from}
use Rattle.policy_limits.specs.Setup.{SetupValue, setup_value}
use Rattle.policy_limits.specs.SetupText.{with_line, with_lines}
use Rattle.policy_limits.specs.declared.setup_refusal.SetupRefusal.{SetupRefusal}
use Rattle.policy_limits.proofs.SetupReading.{both_parts}
use Rattle.eac_cli.specs.Script.{Line, Said, InSetup, Alone, line_of, lines_read, setup_lines, setup_of, named_of, event_line, events_of, day_begun, last_day, day_after, rule_in_setup, broken_behind, broken, Unbroken, Takes}
use Rattle.eac_cli.specs.declared.event.EventLine.{EventLine}
use Rattle.eac_cli.specs.declared.line_rule.LineRule.{LineRule}
use Rattle.eac_cli.specs.declared.line_rule.LineRule.TheVariants.{TooLate}
use Rattle.eac_cli.specs.declared.named_event.NamedEvent.{NamedEvent}

-- The lines up to line `last` are read and break no rule, and `rest` is left of the bytes.
pub record Reading (chips : ℕ) (bytes rest : List ℕ) (last : ℕ) (setup : SetupValue) (today : Option ℕ) (events : List EventLine) : Type 0 where
  pub front : List Line
  pub cut : lines_read chips bytes ≡ front ++ map (line_of chips) (numbered_from (last + 1) rest)
  pub fine : Unbroken [] front
  pub setup_is : setup_of front ≡ Ok setup
  pub today_is : today ≡ day_after front
  pub events_are : events ≡ events_of setup front
  pub count_is : length events ≡ length (named_of front)

-- ---- lines behind lines

pub setup_more : (front back : List Line) → setup_lines (front ++ back) ≡ setup_lines front ++ setup_lines back
setup_more [] back = refl
setup_more ((n, InSetup text) ∷ front) back = ap (λ ls. (n, text) ∷ ls) (setup_more front back)
setup_more ((n, Alone read) ∷ front) back = setup_more front back

pub setup_then : (front back : List Line) → setup_of (front ++ back) ≡ (setup_of front >>= λ r. with_lines r (setup_lines back))
setup_then front back =
    ap (λ ls. with_lines (setup_value [] []) ls) (setup_more front back) ∙ both_parts (setup_value [] []) (setup_lines front) (setup_lines back)

pub named_more : (front back : List Line) → named_of (front ++ back) ≡ named_of front ++ named_of back
named_more [] back = refl
named_more ((n, InSetup text) ∷ front) back = named_more front back
named_more ((n, Alone (Ok event)) ∷ front) back = ap (λ l. (n, event) ∷ l) (named_more front back)
named_more ((n, Alone (Err rule)) ∷ front) back = named_more front back

last_more : (today : Option ℕ) (front back : List (ℕ × NamedEvent)) → last_day today (front ++ back) ≡ last_day (last_day today front) back
last_more today [] back = refl
last_more today (line ∷ front) back = last_more (option_or (day_begun line.1) today) front back

pub day_more : (front back : List Line) → day_after (front ++ back) ≡ last_day (day_after front) (named_of back)
day_more front back = ap (last_day None) (named_more front back) ∙ last_more None (named_of front) (named_of back)

pub events_more : (setup : SetupValue) (front back : List Line) → events_of setup (front ++ back) ≡ events_of setup front ++ events_of setup back
events_more setup front back = ap (filter_map (event_line setup)) (named_more front back) ∙ filter_map-append (event_line setup) (named_of front) (named_of back)

unbroken_more : (before lines : List Line) (line : Line) → Unbroken before lines → broken (before ++ lines) line ≡ None → Unbroken before (lines ++ line ∷ [])
unbroken_more before [] line h none = (subst (λ l. broken l line ≡ None) (append-nil before) none, tt)
unbroken_more before (first ∷ lines) line h none =
    (h.0, unbroken_more (before ++ first ∷ []) lines line h.1 (subst (λ l. broken l line ≡ None) (sym (append_assoc before (first ∷ []) lines)) none))

-- ---- no setup line behind an event

-- A setup line that breaks no rule has no event before it.
pub none_yet : (o : Option LineRule) (events : ℕ) (b : Bool) → b ≡ nat_lt 0 events → option_or o (cond b (Some TooLate) None) ≡ None → events ≡ 0
none_yet (Some rule) events b e fine = absurd (never fine)
  where
    never : Some rule ≡ None → ⊥
    never e = cc
none_yet None events true e fine = absurd (never fine)
  where
    never : Some TooLate ≡ None → ⊥
    never e = cc
none_yet None events false e fine = omega (arith, ltb-false 0 events (sym e))

pub no_names : (xs : List (ℕ × NamedEvent)) → length xs ≡ 0 → xs ≡ []
no_names [] none = refl
no_names (x ∷ xs) none = absurd (omega arith)

no_events : (xs : List EventLine) → length xs ≡ 0 → xs ≡ []
no_events [] none = refl
no_events (x ∷ xs) none = absurd (omega arith)

ok_is : (r : Result SetupValue SetupRefusal) (setup setup' : SetupValue) → r ≡ Ok setup → r ≡ Ok setup' → setup ≡ setup'
ok_is r setup setup' e e' = cc

-- The events that a line adds are those in the setup behind it.
events_behind : (front : List Line) (said : Said) (n : ℕ) (setup setup' : SetupValue) (today : Option ℕ) (events events' : List EventLine) → events ≡ events_of setup front → length events ≡ length (named_of front) → broken_behind (Ok setup) today (length events) (n, said) ≡ None → with_lines setup (setup_lines ((n, said) ∷ [])) ≡ Ok setup' → events' ≡ events ++ events_of setup ((n, said) ∷ []) → events' ≡ events_of setup' (front ++ (n, said) ∷ [])
events_behind front (InSetup text) n setup setup' today events events' are count fine setup_is next =
    let none : length events ≡ 0 = none_yet (rule_in_setup (Ok setup >>= λ r. with_line r (n, text))) (length events) (nat_lt 0 (length events)) refl fine in
    let unnamed : named_of front ≡ [] = no_names (named_of front) (sym count ∙ none) in
    next ∙ append-nil events ∙ no_events events none
    ∙ sym (ap (filter_map (event_line setup')) (named_more front ((n, InSetup text) ∷ []) ∙ append-nil (named_of front) ∙ unnamed))
events_behind front (Alone read) n setup setup' today events events' are count fine setup_is next =
    next ∙ ap (λ l. l ++ events_of setup ((n, Alone read) ∷ [])) are ∙ sym (events_more setup front ((n, Alone read) ∷ []))
    ∙ ap (λ x. events_of x (front ++ (n, Alone read) ∷ [])) (ok_is (Ok setup) setup setup' refl setup_is)

-- ---- one line more, in a reading

cut_more : (chips : ℕ) (all front : List Line) (rest text after : List ℕ) (last line : ℕ) → all ≡ front ++ map (line_of chips) (numbered_from (last + 1) rest) → numbered_from (last + 1) rest ≡ (line, text) ∷ numbered_from (line + 1) after → all ≡ front ++ line_of chips (line, text) ∷ map (line_of chips) (numbered_from (line + 1) after)
cut_more chips all front rest text after last line cut next = cut ∙ ap (λ ls. front ++ map (line_of chips) ls) next

-- What a line breaks behind the front is what it breaks behind what the front says.
pub same_rule : (front : List Line) (setup : SetupValue) (today : Option ℕ) (count : ℕ) (line : Line) → setup_of front ≡ Ok setup → today ≡ day_after front → count ≡ length (named_of front) → broken front line ≡ broken_behind (Ok setup) today count line
same_rule front setup today count line s d c =
    ap (λ r. broken_behind r (day_after front) (length (named_of front)) line) s
    ∙ ap (λ t. broken_behind (Ok setup) t (length (named_of front)) line) (sym d)
    ∙ ap (λ n. broken_behind (Ok setup) today n line) (sym c)

pub reading_more : (chips : ℕ) (bytes rest text after : List ℕ) (last line : ℕ) (setup setup' : SetupValue) (today today' : Option ℕ) (events events' : List EventLine) → Reading chips bytes rest last setup today events → numbered_from (last + 1) rest ≡ (line, text) ∷ numbered_from (line + 1) after → Takes (line_of chips (line, text)) setup setup' today today' events events' → Reading chips bytes after line setup' today' events'
reading_more chips bytes rest text after last line setup setup' today today' events events' r next t =
    let one : List Line = line_of chips (line, text) ∷ [] in
    record {
      front = r.front ++ one;
      cut = cut_more chips (lines_read chips bytes) r.front rest text after last line r.cut next ∙ sym (append_assoc r.front one (map (line_of chips) (numbered_from (line + 1) after)));
      fine = unbroken_more [] r.front (line_of chips (line, text)) r.fine (same_rule r.front setup today (length events) (line_of chips (line, text)) r.setup_is r.today_is r.count_is ∙ t.fine);
      setup_is = setup_then r.front one ∙ ap (λ s. s >>= λ x. with_lines x (setup_lines one)) r.setup_is ∙ t.setup_is;
      today_is = t.day_is ∙ ap (λ d. last_day d (named_of one)) r.today_is ∙ sym (day_more r.front one);
      events_are = events_behind r.front (line_of chips (line, text)).1 line setup setup' today events events' r.events_are r.count_is t.fine t.setup_is t.events_are;
      count_is = omega (arith, t.count_is, r.count_is, ap length (named_more r.front one), length-append (named_of r.front) (named_of one));
    }
