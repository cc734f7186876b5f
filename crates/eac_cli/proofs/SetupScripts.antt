-- A text of setup lines alone, as a setup and as a script.
use Rattle.std.proofs.Common.{◌≡◌, ℕ, Bool, true, false, cond, List, [], ◌∷◌, ◌++◌, map, length, None, Some, Ok, Err, refl, sym, ap, ◌∙◌, subst}
use Rattle.std.specs.declared.option.Option.{Option}
use Rattle.std.specs.declared.result.Result.{Result}
use Rattle.std.specs.Prelude.{codes, ◌||◌}
use Rattle.std.specs.List.{list_all, filter_map}
use Rattle.std.specs.Option.{option_or}
use Rattle.std.specs.Str.{bytes_eq}
use Rattle.eac_base.specs.Answers.{◌>>=◌, some_or, ◌gives◌}
use Rattle.eac_base.specs.Text.{is_word, numbered_lines}
use Rattle.plain_text.specs.Lines.{pieces}
use Rattle.policy_limits.specs.Setup.{SetupValue, setup_value}
use Rattle.policy_limits.specs.SetupLine.{line_said, authority_said, plain_said, registration_said, begins_with_kind, is_setup_line}
use Rattle.policy_limits.specs.SetupText.{with_said, with_line, with_lines, read_setup}
use Rattle.policy_limits.specs.declared.party.PartyKind.TheVariants as kinds
use Rattle.policy_limits.specs.declared.setup_line.SetupLine.{SetupLine}
use Rattle.policy_limits.specs.declared.setup_refusal.SetupRefusal.{SetupRefusal}
use Rattle.policy_limits.specs.declared.setup_refusal.SetupRefusal.TheVariants.{Form}
use Rattle.eac_cli.specs.Script.{Line, InSetup, Alone, line_of, setup_lines, setup_of, named_of, event_line, rule_in_setup, late_rule, setup_rule_behind, broken, Unbroken, IsScript}
use Rattle.eac_cli.specs.ScriptLaws.{SetupsAreScripts}
use Rattle.eac_cli.specs.LineGrammar.{event_of}
use Rattle.eac_cli.specs.declared.line_rule.LineRule.{LineRule}
use Rattle.eac_cli.specs.declared.named_event.NamedEvent.{NamedEvent}
use Rattle.eac_cli.proofs.Orders.{none_lost}
use Rattle.eac_cli.proofs.Reading.{setup_then, named_more, no_names}

-- ---- a line that is taken is a setup line

module _ (r next : SetupValue) (n : ℕ) where
  abbrev taken : Option SetupLine → Type 0
  taken said = (some_or said (Form n) >>= with_said r n) ≡ Ok next

  by_kind : (a b c d : Bool) (w x y z : Option SetupLine) → taken (cond a w (cond b x (cond c y (cond d z None)))) → (a || b || c || d) ≡ true
  by_kind true b c d w x y z is = refl
  by_kind false true c d w x y z is = refl
  by_kind false false true d w x y z is = refl
  by_kind false false false true w x y z is = refl
  by_kind false false false false w x y z is = absurd (never is)
    where
      never : Err (Form n) ≡ Ok next → ⊥
      never e = cc

  by_words : (all : Bool) (ps : List (List ℕ)) → taken (cond all (Some ps) None gives line_said r) → begins_with_kind ps ≡ true
  by_words false ps is = absurd (never is)
    where
      never : Err (Form n) ≡ Ok next → ⊥
      never e = cc
  by_words true [] is = absurd (never is)
    where
      never : Err (Form n) ≡ Ok next → ⊥
      never e = cc
  by_words true (kind ∷ rest) is =
      by_kind (bytes_eq kind (codes "cvca")) (bytes_eq kind (codes "dv")) (bytes_eq kind (codes "terminal")) (bytes_eq kind (codes "register")) (authority_said rest) (plain_said kinds.Dv rest) (plain_said kinds.Terminal rest) (registration_said r rest) is

  is_setup : (text : List ℕ) → with_line r (n, text) ≡ Ok next → is_setup_line text ≡ true
  is_setup text is = by_words (list_all is_word (pieces text)) (pieces text) is

-- ---- from a setup to a script

-- Behind lines that are a setup without events, these lines go on with it, and no event comes.
record GoesOn (chips : ℕ) (earlier : List Line) (ls : List (ℕ × List ℕ)) : Type 0 where
  pub fine : Unbroken earlier (map (line_of chips) ls)
  pub same : setup_lines (map (line_of chips) ls) ≡ ls
  pub no_event : named_of (map (line_of chips) ls) ≡ []

module _ (chips : ℕ) (earlier : List Line) (start : SetupValue) (n : ℕ) (text : List ℕ) (ls : List (ℕ × List ℕ)) (behind : setup_of earlier ≡ Ok start) (no_event : named_of earlier ≡ []) where
  abbrev one : Line
  one = (n, InSetup text)

  one_is : is_setup_line text ≡ true → line_of chips (n, text) ≡ one
  one_is is = ap (λ b. (n, cond b (InSetup text) (Alone (event_of chips text)))) is

  breaks_none : (next : SetupValue) → with_line start (n, text) ≡ Ok next → broken earlier one ≡ None
  breaks_none next is =
      ap (λ s. setup_rule_behind s (length (named_of earlier)) (n, text)) behind
      ∙ ap (λ w. option_or (rule_in_setup w) (late_rule (length (named_of earlier)))) is
      ∙ ap (λ (es : List (ℕ × NamedEvent)). late_rule (length es)) no_event

  later : (next : SetupValue) → with_line start (n, text) ≡ Ok next → setup_of (earlier ++ one ∷ []) ≡ Ok next
  later next is = setup_then earlier (one ∷ []) ∙ ap (λ s. s >>= λ r. with_lines r ((n, text) ∷ [])) behind ∙ ap (λ w. w >>= λ r. with_lines r []) is

  still_none : named_of (earlier ++ one ∷ []) ≡ []
  still_none = named_more earlier (one ∷ []) ∙ ap (λ (es : List (ℕ × NamedEvent)). es ++ []) no_event

  goes_on_with : (next : SetupValue) → with_line start (n, text) ≡ Ok next → GoesOn chips (earlier ++ one ∷ []) ls → GoesOn chips earlier ((n, text) ∷ ls)
  goes_on_with next is rest =
      let same : one ≡ line_of chips (n, text) = sym (one_is (is_setup start next n text is)) in
      record {
        fine = subst (λ l. (broken earlier l ≡ None) × Unbroken (earlier ++ l ∷ []) (map (line_of chips) ls)) same (breaks_none next is, rest.fine);
        same = subst (λ l. setup_lines (l ∷ map (line_of chips) ls) ≡ (n, text) ∷ ls) same (ap (λ l. (n, text) ∷ l) rest.same);
        no_event = subst (λ l. named_of (l ∷ map (line_of chips) ls) ≡ []) same rest.no_event;
      }

  by_line : (w : Result SetupValue SetupRefusal) (setup : SetupValue) → with_line start (n, text) ≡ w → (w >>= λ r. with_lines r ls) ≡ Ok setup → ((next : SetupValue) → with_line start (n, text) ≡ Ok next → with_lines next ls ≡ Ok setup → GoesOn chips (earlier ++ one ∷ []) ls) → GoesOn chips earlier ((n, text) ∷ ls)
  by_line (Ok next) setup is read rest = goes_on_with next is (rest next is read)
  by_line (Err f) setup is read rest = absurd (never read)
    where
      never : Err f ≡ Ok setup → ⊥
      never e = cc

goes_on : (chips : ℕ) (earlier : List Line) (start setup : SetupValue) (ls : List (ℕ × List ℕ)) → setup_of earlier ≡ Ok start → named_of earlier ≡ [] → with_lines start ls ≡ Ok setup → GoesOn chips earlier ls
goes_on chips earlier start setup [] behind no_event read = record { fine = tt; same = refl; no_event = refl }
goes_on chips earlier start setup ((n, text) ∷ ls) behind no_event read =
    by_line chips earlier start n text ls behind no_event (with_line start (n, text)) setup refl read
    (λ next is more. goes_on chips (earlier ++ (n, InSetup text) ∷ []) next setup ls (later chips earlier start n text ls behind no_event next is) (still_none chips earlier start n text ls behind no_event) more)

-- ---- from a script to a setup

module _ (chips : ℕ) (earlier : List Line) (n : ℕ) (text : List ℕ) (ls : List (ℕ × List ℕ)) where
  no_other : (setup : Bool) (read : Result NamedEvent LineRule) → broken earlier (n, cond setup (InSetup text) (Alone read)) ≡ None → named_of ((n, cond setup (InSetup text) (Alone read)) ∷ map (line_of chips) ls) ≡ [] → (named_of (map (line_of chips) ls) ≡ [] → setup_lines (map (line_of chips) ls) ≡ ls) → setup_lines ((n, cond setup (InSetup text) (Alone read)) ∷ map (line_of chips) ls) ≡ (n, text) ∷ ls
  no_other true read fine none rest = ap (λ l. (n, text) ∷ l) (rest none)
  no_other false (Ok event) fine none rest = absurd (never none)
    where
      never : (n, event) ∷ named_of (map (line_of chips) ls) ≡ [] → ⊥
      never e = cc
  no_other false (Err rule) fine none rest = absurd (never fine)
    where
      never : Some rule ≡ None → ⊥
      never e = cc

all_setup : (chips : ℕ) (earlier : List Line) (ls : List (ℕ × List ℕ)) → Unbroken earlier (map (line_of chips) ls) → named_of (map (line_of chips) ls) ≡ [] → setup_lines (map (line_of chips) ls) ≡ ls
all_setup chips earlier [] fine none = refl
all_setup chips earlier ((n, text) ∷ ls) fine none =
    no_other chips earlier n text ls (is_setup_line text) (event_of chips text) fine.0 none (all_setup chips (earlier ++ line_of chips (n, text) ∷ []) ls fine.1)

pub setups_are_scripts : SetupsAreScripts
setups_are_scripts text chips setup = (script, setup_read)
  where
    script : read_setup text ≡ Ok setup → IsScript text chips setup []
    script read =
        let on = goes_on chips [] (setup_value [] []) setup (numbered_lines text) refl refl read in
        record { fine = on.fine; setup_is = ap (with_lines (setup_value [] [])) on.same ∙ read; events_are = sym (ap (filter_map (event_line setup)) on.no_event) }

    setup_read : IsScript text chips setup [] → read_setup text ≡ Ok setup
    setup_read s =
        ap (with_lines (setup_value [] [])) (sym (all_setup chips [] (numbered_lines text) s.fine (no_names (named_of (map (line_of chips) (numbered_lines text))) (sym (none_lost text chips setup [] s))))) ∙ s.setup_is
