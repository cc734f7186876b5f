-- What a script says may be run: a day stands before every event that wants one, its parties have their parts, and its bytes
-- are within the limit.
use Rattle.std.proofs.Common.{◌≡◌, ℕ, ◌≤◌, Bool, true, false, cond, List, [], ◌∷◌, length, Some, None, Ok, Err, refl, sym, subst, nat_le, nat_lt}
use Rattle.std.specs.Prelude.{map, ◌&&◌}
use Rattle.std.specs.List.{cons_option}
use Rattle.std.specs.Option.{option_map}
use Rattle.std.specs.Result.{result_map_both}
use Rattle.std.specs.declared.option.Option.{Option}
use Rattle.std.specs.declared.result.Result.{Result}
use Rattle.std.proofs.lemmas.Bool.{leb-true, ltb-true}
use Rattle.std.proofs.lemmas.List.Elements.{All-nil, All-cons}
use Rattle.eac_base.specs.Answers.{◌>>=◌, ◌>>◌, unless, some_or}
use Rattle.eac_base.specs.Bytes.{is_within}
use Rattle.eac_base.specs.Text.{numbered_lines, words, decimal_of, hex_bytes}
use Rattle.cv_dates.specs.Calendar.{day_from_text}
use Rattle.cv_dates.specs.declared.refusal.DateRefusal.{DateRefusal}
use Rattle.holder_reference.specs.Reference.{is_reference}
use Rattle.plain_text.specs.Lines.{one_word, two_words}
use Rattle.policy_limits.specs.Setup.{SetupValue}
use Rattle.policy_limits.specs.SetupLine.{is_setup_line}
use Rattle.eac_net.specs.Chips.{IsBelow, HasChip}
use Rattle.eac_net.specs.Steps.{FitsLine}
use Rattle.eac_net.specs.declared.event.Event.{Event}
use Rattle.eac_cli.specs.ActLines.{apply_of}
use Rattle.eac_cli.specs.AskLines.{ask_of}
use Rattle.eac_cli.specs.ChipLines.{chip_below, chip_of, make_of, present_of, import_of, look_of}
use Rattle.eac_cli.specs.DayLines.{day_of}
use Rattle.eac_cli.specs.LineGrammar.{kind_word, said_as, event_said, event_of}
use Rattle.eac_cli.specs.LineWords.{holder_of, one_holder, two_holders, three_words, within, bytes_of}
use Rattle.eac_cli.specs.Naming.{event_in}
use Rattle.eac_cli.specs.PacketLines.{send_of, packet_with, packet_of}
use Rattle.eac_cli.specs.Script.{Line, InSetup, Alone, line_of, named_of, events_of, IsScript, AllFit, InOrder}
use Rattle.eac_cli.specs.declared.event.EventLine.{EventLine}
use Rattle.eac_cli.specs.declared.event_kind.EventKind.{EventKind}
use Rattle.eac_cli.specs.declared.event_kind.EventKind.TheVariants as kinds
use Rattle.eac_cli.specs.declared.line_rule.LineRule.{LineRule}
use Rattle.eac_cli.specs.declared.line_rule.LineRule.TheVariants.{Grammar, Limit}
use Rattle.eac_cli.specs.declared.named_event.NamedEvent.{NamedEvent}
use Rattle.eac_cli.specs.declared.named_event.NamedEvent.TheVariants as named
use Rattle.eac_cli.proofs.Fits.{IsWithin, named_fits}
use Rattle.eac_cli.proofs.Orders.{AllWithin, in_order}

-- ---- one line

module _ (chips : ℕ) (event : NamedEvent) where
  through : {A : Type 0} (r : Result A LineRule) (f : A → Result NamedEvent LineRule) → ((x : A) → r ≡ Ok x → f x ≡ Ok event → IsWithin chips event) → r >>= f ≡ Ok event → IsWithin chips event
  through (Ok x) f h is = h x refl is
  through (Err rule) f h is = absurd (cc)

  behind : {A : Type 0} (r : Result A LineRule) (s : Result NamedEvent LineRule) → (s ≡ Ok event → IsWithin chips event) → r >> s ≡ Ok event → IsWithin chips event
  behind (Ok x) s h is = h is
  behind (Err rule) s h is = absurd (cc)

  abbrev said : NamedEvent → Result NamedEvent LineRule
  said e = Ok e

  said_is : (e : NamedEvent) → IsWithin chips e → said e ≡ Ok event → IsWithin chips event
  said_is e q is = let same : e ≡ event = cc in subst (IsWithin chips) same q

  a_day : (r : Result ℕ DateRefusal) → result_map_both named.Day (λ (why : DateRefusal). Grammar) r ≡ Ok event → IsWithin chips event
  a_day (Ok day) is = said_is (named.Day day) tt is
  a_day (Err rule) is = absurd (cc)

  abbrev limited : Bool → List ℕ → Result (List ℕ) LineRule
  limited b x = cond b (Ok x) (Err Limit)

  is_small : (b : Bool) (x bytes : List ℕ) → b ≡ nat_le (length x) 4096 → limited b x ≡ Ok bytes → length bytes ≤ 4096
  is_small true x bytes small is = let same : x ≡ bytes = cc in subst (λ (l : List ℕ). length l ≤ 4096) same (leb-true (length x) 4096 (sym small))
  is_small false x bytes small is = absurd (cc)

  hex_small : (r : Result (List ℕ) LineRule) (bytes : List ℕ) → r >>= within ≡ Ok bytes → length bytes ≤ 4096
  hex_small (Ok x) bytes is = is_small (nat_le (length x) 4096) x bytes refl is
  hex_small (Err rule) bytes is = absurd (cc)

  small : (hex bytes : List ℕ) → bytes_of hex ≡ Ok bytes → length bytes ≤ 4096
  small hex bytes is = hex_small (some_or (hex_bytes hex) Grammar) bytes is

  an_ask : (reference hex : List ℕ) → ask_of reference hex ≡ Ok event → IsWithin chips event
  an_ask reference hex = behind (unless (is_reference reference) Grammar) (bytes_of hex >>= λ bytes. Ok (named.Ask reference bytes))
      (through (bytes_of hex) (λ bytes. Ok (named.Ask reference bytes)) (λ bytes bytes_are. said_is (named.Ask reference bytes) (small hex bytes bytes_are)))

  an_apply : (holder authority root : List ℕ) → apply_of holder authority root ≡ Ok event → IsWithin chips event
  an_apply holder authority root =
      through (holder_of holder) (λ h. holder_of authority >>= λ a. holder_of root >>= λ r. Ok (named.Apply h a r))
      (λ h h_is. through (holder_of authority) (λ a. holder_of root >>= λ r. Ok (named.Apply h a r))
      (λ a a_is. through (holder_of root) (λ r. Ok (named.Apply h a r)) (λ r r_is. said_is (named.Apply h a r) tt)))

  a_sending : (from to hex : List ℕ) → send_of from to hex ≡ Ok event → IsWithin chips event
  a_sending from to hex =
      through (holder_of from) (λ f. holder_of to >>= λ t. bytes_of hex >>= λ bytes. Ok (named.Send f t bytes))
      (λ f f_is. through (holder_of to) (λ t. bytes_of hex >>= λ bytes. Ok (named.Send f t bytes))
      (λ t t_is. through (bytes_of hex) (λ bytes. Ok (named.Send f t bytes)) (λ bytes bytes_are. said_is (named.Send f t bytes) (small hex bytes bytes_are))))

  is_below : (b : Bool) (n : ℕ) → b ≡ nat_lt n chips → IsBelow chips (cond b (Some n) None)
  is_below true n less = ltb-true n chips (sym less)
  is_below false n more = tt

  below_by : (r : Result ℕ LineRule) (c : Option ℕ) → r >>= (λ n. Ok (chip_below chips n)) ≡ Ok c → IsBelow chips c
  below_by (Ok n) c is = let same : chip_below chips n ≡ c = cc in subst (IsBelow chips) same (is_below (nat_lt n chips) n refl)
  below_by (Err rule) c is = absurd (cc)

  below : (word : List ℕ) (c : Option ℕ) → chip_of chips word ≡ Ok c → IsBelow chips c
  below word c is = below_by (some_or (decimal_of word) Grammar) c is

  a_make : (chip authority : List ℕ) → make_of chips chip authority ≡ Ok event → IsWithin chips event
  a_make chip authority =
      through (chip_of chips chip) (λ c. holder_of authority >>= λ a. Ok (named.Make c a))
      (λ c c_is. through (holder_of authority) (λ a. Ok (named.Make c a)) (λ a a_is. said_is (named.Make c a) (below chip c c_is)))

  a_present : (chip terminal : List ℕ) → present_of chips chip terminal ≡ Ok event → IsWithin chips event
  a_present chip terminal =
      through (chip_of chips chip) (λ c. holder_of terminal >>= λ t. Ok (named.Present c t))
      (λ c c_is. through (holder_of terminal) (λ t. Ok (named.Present c t)) (λ t t_is. said_is (named.Present c t) (below chip c c_is)))

  an_import : (chip hex : List ℕ) → import_of chips chip hex ≡ Ok event → IsWithin chips event
  an_import chip hex =
      through (chip_of chips chip) (λ c. bytes_of hex >>= λ bytes. Ok (named.Import c bytes))
      (λ c c_is. through (bytes_of hex) (λ bytes. Ok (named.Import c bytes)) (λ bytes bytes_are. said_is (named.Import c bytes) (below chip c c_is, small hex bytes bytes_are)))

  a_look : (chip : List ℕ) → look_of chips chip ≡ Ok event → IsWithin chips event
  a_look chip = through (chip_of chips chip) (λ c. Ok (named.Look c)) (λ c c_is. said_is (named.Look c) (below chip c c_is))

  first_true : (a b : Bool) → (a && b) ≡ true → a ≡ true
  first_true true b both = refl
  first_true false b both = absurd (cc)

  abbrev delivers : Bool → ℕ → Result NamedEvent LineRule
  delivers b n = cond b (Ok (named.Deliver n)) (Err Limit)

  a_number : (b : Bool) (n : ℕ) → b ≡ is_within 1 1000000 n → delivers b n ≡ Ok event → IsWithin chips event
  a_number true n in_limits is = said_is (named.Deliver n) (leb-true 1 n (first_true (nat_le 1 n) (nat_le n 1000000) (sym in_limits))) is
  a_number false n in_limits is = absurd (cc)

  -- by the first word
  kind_within : (kind : EventKind) (rest : List (List ℕ)) → said_as chips kind rest ≡ Ok event → IsWithin chips event
  kind_within kinds.Day rest = through (some_or (one_word rest) Grammar) day_of (λ date date_is. a_day (day_from_text date))
  kind_within kinds.Ask rest = through (some_or (two_words rest) Grammar) (λ w. ask_of w.0 w.1) (λ w w_is. an_ask w.0 w.1)
  kind_within kinds.Found rest = through (one_holder rest) (λ authority. Ok (named.Found authority)) (λ a a_is. said_is (named.Found a) tt)
  kind_within kinds.Link rest = through (one_holder rest) (λ authority. Ok (named.Link authority)) (λ a a_is. said_is (named.Link a) tt)
  kind_within kinds.Trust rest = through (two_holders rest) (λ both. Ok (named.Trust both.0 both.1)) (λ both both_are. said_is (named.Trust both.0 both.1) tt)
  kind_within kinds.Apply rest = through (some_or (three_words rest) Grammar) (λ w. apply_of w.0 w.1 w.2) (λ w w_is. an_apply w.0 w.1 w.2)
  kind_within kinds.Fetch rest = through (two_holders rest) (λ both. Ok (named.Fetch both.0 both.1)) (λ both both_are. said_is (named.Fetch both.0 both.1) tt)
  kind_within kinds.Push rest = through (two_holders rest) (λ both. Ok (named.Push both.0 both.1)) (λ both both_are. said_is (named.Push both.0 both.1) tt)
  kind_within kinds.Send rest = through (some_or (three_words rest) Grammar) (λ w. send_of w.0 w.1 w.2) (λ w w_is. a_sending w.0 w.1 w.2)
  kind_within kinds.Deliver rest = through (some_or (one_word rest) Grammar) packet_of
      (λ word word_is. through (some_or (decimal_of word) Grammar) packet_with (λ n n_is. a_number (is_within 1 1000000 n) n refl))
  kind_within kinds.Make rest = through (some_or (two_words rest) Grammar) (λ w. make_of chips w.0 w.1) (λ w w_is. a_make w.0 w.1)
  kind_within kinds.Present rest = through (some_or (two_words rest) Grammar) (λ w. present_of chips w.0 w.1) (λ w w_is. a_present w.0 w.1)
  kind_within kinds.Import rest = through (some_or (two_words rest) Grammar) (λ w. import_of chips w.0 w.1) (λ w w_is. an_import w.0 w.1)
  kind_within kinds.Look rest = through (some_or (one_word rest) Grammar) (look_of chips) (λ word word_is. a_look word)

  said_within : (parts : List (List ℕ)) → event_said chips parts ≡ Ok event → IsWithin chips event
  said_within [] is = absurd (cc)
  said_within (word ∷ rest) is = through (some_or (kind_word word) Grammar) (λ kind. said_as chips kind rest) (λ kind kind_is. kind_within kind rest) is

line_within : (chips : ℕ) (text : List ℕ) (event : NamedEvent) → event_of chips text ≡ Ok event → IsWithin chips event
line_within chips text event = through chips event (some_or (words text) Grammar) (event_said chips) (λ parts parts_are. said_within chips event parts)

-- ---- all lines

within_step : (chips : ℕ) (setup : Bool) (n : ℕ) (r : Result NamedEvent LineRule) (text : List ℕ) (rest : List Line) → event_of chips text ≡ r → AllWithin chips (named_of rest) → AllWithin chips (named_of ((n, cond setup (InSetup text) (Alone r)) ∷ rest))
within_step chips true n r text rest is all = all
within_step chips false n (Ok event) text rest is all = (line_within chips text event is, all)
within_step chips false n (Err rule) text rest is all = all

all_within : (chips : ℕ) (texts : List (ℕ × List ℕ)) → AllWithin chips (named_of (map (line_of chips) texts))
all_within chips [] = tt
all_within chips (t ∷ texts) = within_step chips (is_setup_line t.1) t.0 (event_of chips t.1) t.1 (map (line_of chips) texts) refl (all_within chips texts)

pub script_in_order : (bytes : List ℕ) (chips : ℕ) (setup : SetupValue) (events : List EventLine) → IsScript bytes chips setup events → InOrder None events
script_in_order bytes chips setup events s = in_order bytes chips setup events (all_within chips (numbered_lines bytes)) s

-- ---- each event fits

abbrev FitsHere : ℕ → SetupValue → EventLine → Type 0
FitsHere chips setup line = HasChip chips line.event × FitsLine setup line.event

fit_step : (chips : ℕ) (setup : SetupValue) (n : ℕ) (event : NamedEvent) (there : Option Event) (rest : List EventLine) → event_in setup event ≡ there → IsWithin chips event → AllFit chips setup rest → AllFit chips setup (cons_option (option_map (λ (e : Event). record { line = n; event = e }) there) rest)
fit_step chips setup n event None rest is limits all = all
fit_step chips setup n event (Some e) rest is limits all =
    let f = named_fits chips setup event e limits is in
    All-cons (FitsHere chips setup) (record { line = n; event = e }) rest (f.chip, f.fits) all

all_fit : (chips : ℕ) (setup : SetupValue) (lines : List Line) → AllWithin chips (named_of lines) → AllFit chips setup (events_of setup lines)
all_fit chips setup [] limits = All-nil (FitsHere chips setup)
all_fit chips setup ((n, InSetup text) ∷ lines) limits = all_fit chips setup lines limits
all_fit chips setup ((n, Alone (Ok event)) ∷ lines) limits = fit_step chips setup n event (event_in setup event) (events_of setup lines) refl limits.0 (all_fit chips setup lines limits.1)
all_fit chips setup ((n, Alone (Err rule)) ∷ lines) limits = all_fit chips setup lines limits

pub script_fits : (bytes : List ℕ) (chips : ℕ) (setup : SetupValue) (events : List EventLine) → IsScript bytes chips setup events → AllFit chips setup events
script_fits bytes chips setup events s = subst (AllFit chips setup) (sym s.events_are) (all_fit chips setup (map (line_of chips) (numbered_lines bytes)) (all_within chips (numbered_lines bytes)))
