-- A run of lines goes on by one line, and what a whole run tells.
use Rattle.std.proofs.Common.{◌≡◌, ℕ, ◌+◌, ◌<◌, zero, suc, List, [], ◌∷◌, ◌++◌, map, length, take, drop, get_or, Some, None, Ok, Err, refl, sym, ap, ◌∙◌, subst, arith, inl, inr, append-nil, append_assoc, length-take-le, add-one}
use Rattle.std.specs.Prelude.{slice_get, IsSome}
use Rattle.std.specs.List.{All}
use Rattle.std.specs.declared.option.Option.{Option}
use Rattle.std.proofs.lemmas.List.{map-append, take_more}
use Rattle.std.proofs.lemmas.List.Elements.{All-nil, All-cons, All-append, All-head, All-tail}
use Rattle.std.specs.Io.KnownBytes.{Appends}
use Rattle.std.proofs.KnownBytes.{Appends-trans, Appends-nil}
use Rattle.eac_base.specs.Causes.{Rose}
use Rattle.eac_base.specs.Acknowledged.{AcksValue}
use Rattle.eac_base.specs.declared.acks.Ack.{Ack}
use Rattle.chip_slots.specs.declared.disk.ChipDisk.{Ghosts as DiskOf}
use Rattle.policy_limits.specs.Setup.{SetupValue}
use Rattle.eac_net.specs.Chips.{HasChip, known_of}
use Rattle.eac_net.specs.Items.{Ran, events_of, answers_of}
use Rattle.eac_net.specs.Journal.{line_text, journal}
use Rattle.eac_net.specs.Laws.{IsNew, SoFarIsRun}
use Rattle.headline.specs.Headline.{Headline}
use Rattle.headline.specs.Sentences.{RunsKeepTheirWord}
use Rattle.eac_net.specs.Objects.{Outside}
use Rattle.eac_net.specs.SoFar.{SoFar}
use Rattle.eac_net.specs.Steps.{FitsLine, HasDay, later_day, MayRun}
use Rattle.eac_net.specs.declared.answer.Answer.{Answer}
use Rattle.eac_net.specs.declared.event.Event.{Event}
use Rattle.eac_net.specs.declared.world.World.{World}
use Rattle.eac_net.proofs.Looping.{nothing_yet, one_item}
use Rattle.eac_cli.specs.declared.event.EventLine.{EventLine}
use Rattle.eac_cli.specs.declared.running.Stop.{Stop}
use Rattle.eac_cli.specs.declared.running.Stop.TheVariants.{WriteFault, NoMemory}
use Rattle.eac_cli.specs.Objects.{RunObjects}
use Rattle.eac_cli.specs.Script.{IsScript, InOrder, AllFit}
use Rattle.eac_cli.specs.Steps.{line_events, line_numbers, MayRunAll, Breaks, RunsOver, Sent}
use Rattle.eac_cli.specs.Top.{RunsTo, Whole, SentUntil, Stopped}
use Rattle.eac_cli.proofs.MayRun.{script_in_order, script_fits}

-- ---- lists of lines and answers

journal_more : (numbers : List ℕ) (number : ℕ) (answers : List (Option Answer)) (answer : Option Answer) → length answers ≡ length numbers → journal (numbers ++ number ∷ []) (answers ++ answer ∷ []) ≡ journal numbers answers ++ line_text number answer
journal_more [] number [] answer e = append-nil (line_text number answer)
journal_more [] number (a ∷ answers) answer e = absurd (omega arith)
journal_more (n ∷ numbers) number [] answer e = absurd (omega arith)
journal_more (n ∷ numbers) number (a ∷ answers) answer e = ap (λ (text : List ℕ). line_text n a ++ text) (journal_more numbers number answers answer (omega arith)) ∙ sym (append_assoc (line_text n a) (journal numbers answers) (line_text number answer))

same_length : {A B : Type 0} (f : A → B) (xs : List A) → length (map f xs) ≡ length xs
same_length f [] = refl
same_length f (x ∷ xs) = ap suc (same_length f xs)

events_more : (lines : List EventLine) (line : EventLine) → line_events (lines ++ line ∷ []) ≡ line_events lines ++ line.event ∷ []
events_more lines line = map-append _ lines (line ∷ [])

numbers_more : (lines : List EventLine) (line : EventLine) → line_numbers (lines ++ line ∷ []) ≡ line_numbers lines ++ line.line ∷ []
numbers_more lines line = map-append _ lines (line ∷ [])

-- ---- a run so far

-- what ran so far is a run, with all that is promised of one
abbrev pub IsPromised : {D : Type 0} → DiskOf D → Type 0
IsPromised {D} G = (setup : SetupValue) (first o : Outside) (disks now : List D) (w : World) (items : List Ran)
    → SoFar G setup first disks w o now items → Headline G setup first o disks now w.acks.acks (events_of items) (answers_of items)

pub promised : {D : Type 0} (G : DiskOf D) → SoFarIsRun G → RunsKeepTheirWord G → IsPromised G
promised G is_run keep setup first o disks now w items so =
    keep setup first o disks now w.acks.acks (events_of items) (answers_of items) (is_run setup first o disks now w items so)

-- These lines were run from a new world, each with its whole journal line.
pub record Going {D : Type 0} (G : DiskOf D) (setup : SetupValue) (before after : RunObjects D) (w : World) (lines : List EventLine) : Type 0 where
  pub items : List Ran
  pub events_are : events_of items ≡ line_events lines
  pub ended : All IsSome (answers_of items)
  pub so_far : SoFar G setup before.outside before.disks w after.outside after.disks items
  pub sent : Appends before.taken after.taken (journal (line_numbers lines) (answers_of items))
  pub quiet : after.lost ≡ before.lost

pub begun : {D : Type 0} (G : DiskOf D) (setup : SetupValue) (o : RunObjects D) (w : World) → IsNew w → ((chip : ℕ) → o.outside.disks chip ≡ known_of G o.disks chip) → Going G setup o o w []
begun G setup o w new known = record {
  items = [];
  events_are = refl;
  ended = All-nil IsSome;
  so_far = nothing_yet G setup o.outside o.disks w new known;
  sent = Appends-nil o.taken;
  quiet = refl;
}

module _ {D : Type 0} (G : DiskOf D) (setup : SetupValue) (o m : RunObjects D) (w : World) (lines : List EventLine) (g : Going G setup o m w lines) where
  pub answer_count : length (answers_of g.items) ≡ length lines
  answer_count = same_length (λ (i : Ran). i.answer) g.items ∙ sym (same_length (λ (i : Ran). i.event) g.items) ∙ ap length g.events_are ∙ same_length (λ (l : EventLine). l.event) lines

  number_count : length (answers_of g.items) ≡ length (line_numbers lines)
  number_count = answer_count ∙ sym (same_length (λ (l : EventLine). l.line) lines)

  answers_more : (i : Ran) → answers_of (g.items ++ i ∷ []) ≡ answers_of g.items ++ i.answer ∷ []
  answers_more i = map-append _ g.items (i ∷ [])

  items_more : (line : EventLine) (i : Ran) → i.event ≡ line.event → events_of (g.items ++ i ∷ []) ≡ line_events (lines ++ line ∷ [])
  items_more line i is = map-append _ g.items (i ∷ []) ∙ (λ j. g.events_are j ++ is j ∷ []) ∙ sym (events_more lines line)

  -- the run of the lines
  pub runs_here : IsPromised G → RunsTo G setup o m w.acks.acks lines (answers_of g.items)
  runs_here is_run = subst (λ (es : List Event). Headline G setup o.outside m.outside o.disks m.disks w.acks.acks es (answers_of g.items)) g.events_are
      (is_run setup o.outside m.outside o.disks m.disks w g.items g.so_far)

  module _ (line : EventLine) (n : RunObjects D) (w' : World) (i : Ran) (runs : RunsOver G setup line w w' m n i) where
    on : SoFar G setup o.outside o.disks w' n.outside n.disks (g.items ++ i ∷ [])
    on = one_item G setup o.outside o.disks w w' m.outside n.outside m.disks n.disks g.items i g.so_far g.ended runs.step runs.turns

    -- the run of the lines and of this one
    runs_on : IsPromised G → RunsTo G setup o n w'.acks.acks (lines ++ line ∷ []) (answers_of g.items ++ i.answer ∷ [])
    runs_on is_run =
        subst (λ (x : List Event × List (Option Answer)). Headline G setup o.outside n.outside o.disks n.disks w'.acks.acks x.0 x.1) (λ j. (items_more line i runs.event j, answers_more i j))
        (is_run setup o.outside n.outside o.disks n.disks w' (g.items ++ i ∷ []) on)

    -- one more line, with its whole journal line
    goes_on : IsSome i.answer → Appends m.taken n.taken (line_text line.line i.answer) → n.lost ≡ m.lost → Going G setup o n w' (lines ++ line ∷ [])
    goes_on some sent quiet = record {
      items = g.items ++ i ∷ [];
      events_are = items_more line i runs.event;
      ended = subst (All IsSome) (sym (answers_more i)) (All-append IsSome (answers_of g.items) (i.answer ∷ []) g.ended (All-cons IsSome i.answer [] some (All-nil IsSome)));
      so_far = on;
      sent = subst (Appends o.taken n.taken)
          (sym ((λ j. journal (numbers_more lines line j) (answers_more i j)) ∙ journal_more (line_numbers lines) line.line (answers_of g.items) i.answer number_count))
          (Appends-trans o.taken m.taken n.taken _ _ g.sent sent);
      quiet = quiet ∙ g.quiet;
    }

pub one_more : {D : Type 0} (G : DiskOf D) (setup : SetupValue) (o m n : RunObjects D) (w w' : World) (lines all : List EventLine) (line : EventLine) (u : Unit {0}) → all ≡ lines ++ line ∷ [] → Going G setup o m w lines → Sent G setup line (Ok u) w w' m n → Going G setup o n w' all
one_more G setup o m n w w' lines all line u is g s =
    subst (Going G setup o n w') (sym is) (goes_on G setup o m w lines g line n w' s.0 s.1 s.2 s.3 s.4)

-- ---- lines that are still to be run

rest_step : (lines : List EventLine) (i : ℕ) (line : EventLine) → i < length lines → line ≡ get_or lines i line → drop i lines ≡ line ∷ drop (suc i) lines
rest_step [] i line lt is = absurd (omega arith)
rest_step (x ∷ xs) zero line lt is = ap (λ (y : EventLine). y ∷ xs) (sym is)
rest_step (x ∷ xs) (suc i) line lt is = rest_step xs i line (omega arith) is

-- the next line may be run, and those behind it after it
pub record MayRunNext (setup : SetupValue) (chips : ℕ) (today : Option ℕ) (line : EventLine) (lines : List EventLine) : Type 0 where
  pub chip : HasChip chips line.event
  pub day : HasDay today line.event
  pub fits : FitsLine setup line.event
  pub rest : MayRunAll setup chips (later_day today line.event) lines

pub may_run_next : (setup : SetupValue) (chips : ℕ) (today : Option ℕ) (lines : List EventLine) (i : ℕ) (line : EventLine) → i < length lines → line ≡ get_or lines i line → MayRunAll setup chips today (drop i lines) → MayRunNext setup chips today line (drop (i + 1) lines)
may_run_next setup chips today lines i line lt is may =
    let all : MayRunAll setup chips today (line ∷ drop (suc i) lines) = subst (MayRunAll setup chips today) (rest_step lines i line lt is) may in
    record { chip = all.0; day = all.1; fits = all.2; rest = subst (λ (n : ℕ). MayRunAll setup chips (later_day today line.event) (drop n lines)) (sym (add-one i)) all.3 }

next_is : (lines : List EventLine) (i : ℕ) (line : EventLine) → i < length lines → line ≡ get_or lines i line → slice_get lines i ≡ Some line
next_is [] i line lt is = absurd (omega arith)
next_is (x ∷ xs) zero line lt is = ap Some (sym is)
next_is (x ∷ xs) (suc i) line lt is = next_is xs i line (omega arith) is

-- the line at which a loop stands may be run over as many chips as there were
pub may_run_here : {D : Type 0} (G : DiskOf D) (setup : SetupValue) (o m : RunObjects D) (w : World) (chips now : ℕ) (done lines : List EventLine) (i : ℕ) (line : EventLine) → now ≡ chips → i < length lines → line ≡ get_or lines i line → MayRunAll setup chips w.day (drop i lines) → Going G setup o m w done → MayRun setup now w line.event
may_run_here G setup o m w chips now done lines i line same lt is may g =
    let next = may_run_next setup chips w.day lines i line lt is may in
    record { chip = subst (λ (n : ℕ). HasChip n line.event) (sym same) next.chip; day = next.day; fits = next.fits; parties = g.so_far.parties }

-- ---- what a script says may be run

abbrev FitsHere : ℕ → SetupValue → EventLine → Type 0
FitsHere chips setup line = HasChip chips line.event × FitsLine setup line.event

all_allowed : (setup : SetupValue) (chips : ℕ) (today : Option ℕ) (lines : List EventLine) → InOrder today lines → AllFit chips setup lines → MayRunAll setup chips today lines
all_allowed setup chips today [] o f = tt
all_allowed setup chips today (line ∷ lines) o f =
    let here = All-head (FitsHere chips setup) line lines f in
    (here.0, o.0.day, here.1, all_allowed setup chips (later_day today line.event) lines o.1 (All-tail (FitsHere chips setup) line lines f))

pub script_may_run : (bytes : List ℕ) (chips : ℕ) (setup : SetupValue) (lines slice : List EventLine) → slice ≡ lines → IsScript bytes chips setup lines → MayRunAll setup chips None slice
script_may_run bytes chips setup lines slice same is = subst (MayRunAll setup chips None) (sym same) (all_allowed setup chips None lines (script_in_order bytes chips setup lines is) (script_fits bytes chips setup lines is))

-- ---- the ends of a run

pub whole_run : {D : Type 0} (G : DiskOf D) (is_run : IsPromised G) (setup : SetupValue) (o n : RunObjects D) (w : World) (acks : AcksValue) (lines all : List EventLine) (done : ℕ) → acks ≡ w.acks → lines ≡ all → done ≡ length all → Going G setup o n w lines → Whole G setup o n all done acks.acks
whole_run G is_run setup o n w acks lines all done given is count g =
    let here : Whole G setup o n lines (length lines) w.acks.acks = record {
      answers = answers_of g.items;
      all = refl;
      ended = g.ended;
      run = runs_here G setup o n w lines g is_run;
      sent = g.sent;
      quiet = g.quiet;
    } in
    subst (λ (x : List EventLine × ℕ × List Ack). Whole G setup o n x.0 x.1 x.2) (λ j. (is j, (ap length is ∙ sym count) j, ap (λ (a : AcksValue). a.acks) (sym given) j)) here

module _ {D : Type 0} (G : DiskOf D) (is_run : IsPromised G) (setup : SetupValue) (o m n : RunObjects D) (w w' : World) (all : List EventLine) (i : ℕ) (line : EventLine) (lt : i < length all) (is : line ≡ get_or all i line) (g : Going G setup o m w (take i all)) where
  stopped : (stop : Stop) (last : List (Option Answer)) → RunsTo G setup o n w'.acks.acks (take (i + length last) all) (answers_of g.items ++ last) → SentUntil o n stop (journal (line_numbers (take i all)) (answers_of g.items)) line.line last → Stopped G setup o n stop all i w'.acks.acks
  stopped stop last run sent = record {
    answers = answers_of g.items;
    line = line;
    last = last;
    next = next_is all i line lt is;
    count = answer_count G setup o m w (take i all) g ∙ length-take-le i all (omega arith);
    ended = g.ended;
    run = run;
    sent = sent;
  }

  -- the line's event was the last one
  with_line : (item : Ran) → RunsOver G setup line w w' m n item → RunsTo G setup o n w'.acks.acks (take (i + 1) all) (answers_of g.items ++ item.answer ∷ [])
  with_line item runs =
      subst (λ (ls : List EventLine). RunsTo G setup o n w'.acks.acks ls (answers_of g.items ++ item.answer ∷ []))
      (sym (take_more all i line lt ∙ ap (λ (x : EventLine). take i all ++ x ∷ []) (sym is)))
      (runs_on G setup o m w (take i all) g line n w' item runs is_run)

  -- its event wasn't run
  without_line : w' ≡ w → n.outside ≡ m.outside → n.disks ≡ m.disks → RunsTo G setup o n w'.acks.acks (take (i + 0) all) (answers_of g.items ++ [])
  without_line world outside disks =
      let here : RunsTo G setup o n w'.acks.acks (take i all) (answers_of g.items) =
      subst (λ (x : World × Outside × List D). Headline G setup o.outside x.1 o.disks x.2 x.0.acks.acks (line_events (take i all)) (answers_of g.items)) (λ j. (sym world j, sym outside j, sym disks j))
      (runs_here G setup o m w (take i all) g is_run) in
      let zero_is : i + 0 ≡ i = omega arith in
      subst (λ (x : ℕ × List (Option Answer)). RunsTo G setup o n w'.acks.acks (take x.0 all) x.1) (λ j. (sym zero_is j, sym (append-nil (answers_of g.items)) j)) here

  lines_alone : n.taken ≡ m.taken → Appends o.taken n.taken (journal (line_numbers (take i all)) (answers_of g.items))
  lines_alone same = subst (λ (t : Option (List ℕ)). Appends o.taken t (journal (line_numbers (take i all)) (answers_of g.items))) (sym same) g.sent

  broke : Breaks G setup line w w' m.outside n.outside m.disks n.disks → n.taken ≡ m.taken → n.lost ≡ m.lost → Stopped G setup o n NoMemory all i w'.acks.acks
  broke (inl b) taken lost = stopped NoMemory [] (without_line b.0 b.1 b.2) (inl refl, lines_alone taken, lost ∙ g.quiet)
  broke (inr b) taken lost = stopped NoMemory (b.0.answer ∷ []) (with_line b.0 b.1) (inr (ap (λ (a : Option Answer). a ∷ []) b.2), lines_alone taken, lost ∙ g.quiet)

  by_stop : (stop : Stop) → Sent G setup line {U = Unit {0}} (Err stop) w w' m n → Stopped G setup o n stop all i w'.acks.acks
  by_stop WriteFault s = stopped WriteFault (s.0.answer ∷ [])
      (with_line s.0 s.1) (s.0.answer, refl, s.2.0, s.2.1, Appends-trans o.taken m.taken n.taken _ _ g.sent s.2.2, subst (λ (before : ℕ). Rose before n.lost) g.quiet s.3)
  by_stop NoMemory s = broke s.0 s.1 s.2

pub stopped_run : {D : Type 0} (G : DiskOf D) (is_run : IsPromised G) (setup : SetupValue) (o m n : RunObjects D) (w w' : World) (acks : AcksValue) (all : List EventLine) (i done : ℕ) (line : EventLine) (stop : Stop) → acks ≡ w'.acks → done ≡ i → i < length all → line ≡ get_or all i line → Going G setup o m w (take i all) → Sent G setup line {U = Unit {0}} (Err stop) w w' m n → Stopped G setup o n stop all done acks.acks
stopped_run G is_run setup o m n w w' acks all i done line stop given same lt is g s =
    subst (λ (x : ℕ × List Ack). Stopped G setup o n stop all x.0 x.1) (λ j. (sym same j, ap (λ (a : AcksValue). a.acks) (sym given) j)) (by_stop G is_run setup o m n w w' all i line lt is g stop s)
