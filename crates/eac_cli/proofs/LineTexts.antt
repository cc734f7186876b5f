-- What one event line is, by what its event did.
use Rattle.std.proofs.Common.{◌≡◌, ℕ, Bool, true, false, cond, List, [], ◌∷◌, ◌++◌, Some, None, Ok, Err, refl, sym, ap, ◌∙◌, subst, append_assoc, inl, inr}
use Rattle.std.specs.Prelude.{IsSome, IsErr, codes}
use Rattle.std.specs.Fmt.{decimal}
use Rattle.std.specs.declared.option.Option.{Option}
use Rattle.std.specs.declared.result.Result.{Result}
use Rattle.chip_slots.specs.declared.disk.ChipDisk.{Ghosts as DiskOf}
use Rattle.policy_limits.specs.Setup.{SetupValue}
use Rattle.eac_net.specs.ChipSays.{ChipSays}
use Rattle.eac_net.specs.ChipSteps.{HasRun}
use Rattle.eac_net.specs.Items.{Ran}
use Rattle.eac_net.specs.Journal.{answer_text, numbered_line, line_text}
use Rattle.eac_net.specs.Moment.{means}
use Rattle.eac_net.specs.Objects.{Outside}
use Rattle.eac_net.specs.Steps.{Said}
use Rattle.eac_net.specs.Untold.{Says}
use Rattle.eac_net.specs.declared.answer.Answer.{Answer}
use Rattle.eac_net.specs.declared.answer.Answer.TheVariants as answers
use Rattle.eac_net.specs.declared.event.Event.{Event}
use Rattle.eac_net.specs.declared.world.World.{World}
use Rattle.eac_cli.specs.Steps.{has_line, line_head, head_of, feed_of, RunsAs, Breaks, Lined}
use Rattle.eac_cli.specs.declared.event.EventLine.{EventLine}
use Rattle.eac_cli.proofs.Spoken.{Speaks, says_speaks, says_silent}

-- ---- texts

numbered : (number : ℕ) (answer : Answer) → Speaks (Some answer) → line_text number (Some answer) ≡ numbered_line number (answer_text answer)
numbered number answers.Silent h = absurd h
numbered number (answers.Registered reference answer) h = refl
numbered number (answers.Founded answer) h = refl
numbered number (answers.Linked answer) h = refl
numbered number (answers.Trusted answer) h = refl
numbered number (answers.Applied answer) h = refl
numbered number (answers.Sent packet) h = refl
numbered number (answers.Failed f) h = refl
numbered number (answers.Called event reply) h = refl
numbered number (answers.Replied came) h = refl
numbered number answers.Unsent h = refl
numbered number (answers.Made made) h = refl
numbered number (answers.Presented came) h = refl
numbered number (answers.Imported came) h = refl
numbered number (answers.Looked came) h = refl

-- what has a byte behind a front gets a line feed
feed_behind : (front : List ℕ) (b : ℕ) (rest : List ℕ) → feed_of (front ++ b ∷ rest) ≡ 10 ∷ []
feed_behind [] b rest = refl
feed_behind (x ∷ front) b rest = refl

head_text : (number : ℕ) (text : List ℕ) → line_head number ++ text ≡ decimal number ++ 58 ∷ 32 ∷ text
head_text number text = append_assoc (decimal number) (codes ": ") text

ended_text : (number : ℕ) (text : List ℕ) → (line_head number ++ text) ++ feed_of (line_head number ++ text) ≡ numbered_line number text
ended_text number text =
    ap (λ (l : List ℕ). (line_head number ++ text) ++ l) (ap feed_of (head_text number text) ∙ feed_behind (decimal number) 58 (32 ∷ text))

some_is : (x y : Answer) → Some x ≡ Some y → x ≡ y
some_is x y e = cc

-- the text of an answer behind the head of its line, and the line feed
whole_text : (line : EventLine) (b : Bool) (answer : Answer) → (b ≡ true → Speaks (Some answer)) → (b ≡ false → Some answer ≡ Some answers.Silent) → let text : List ℕ = cond b (line_head line.line) [] ++ answer_text answer in text ++ feed_of text ≡ line_text line.line (Some answer)
whole_text line true answer speaks silent = ended_text line.line (answer_text answer) ∙ sym (numbered line.line answer (speaks refl))
whole_text line false answer speaks silent =
    let same : answer ≡ answers.Silent = some_is answer answers.Silent (silent refl) in
    subst (λ (a : Answer). answer_text a ++ feed_of (answer_text a) ≡ line_text line.line (Some a)) (sym same) refl

-- ---- one line

not_ok : {E : Type 0} (result : Result (List ℕ) E) (text : List ℕ) → result ≡ Ok text → IsErr result → ⊥
not_ok result text ok err = cc

module _ {D : Type 0} (G : DiskOf D) (setup : SetupValue) (line : EventLine) where
  pub broken_off : {E : Type 0} (result : Result (List ℕ) E) (w w' : World) (o o' : Outside) (disks disks' : List D) → IsErr result → Breaks G setup line w w' o o' disks disks' → Lined G setup line result w w' o o' disks disks'
  broken_off {E} (Ok text) w w' o o' disks disks' err b = let ok : Result (List ℕ) E = Ok text in absurd (not_ok ok text refl err)
  broken_off (Err e) w w' o o' disks disks' err b = b

  -- memory was wanting before the event
  pub unbegun : {E : Type 0} (result : Result (List ℕ) E) (w : World) (o : Outside) (disks : List D) → IsErr result → Lined G setup line result w w o o disks disks
  unbegun result w o disks err = broken_off result w w o o disks disks err (inl (refl, refl, refl))

  module _ (w w' : World) (o o' : Outside) (disks disks' : List D) (old new : List ℕ) (head : old ≡ head_of line) where
    -- the event between these objects, and what its line is
    abbrev RanWith : {E : Type 0} → Result (Unit {0}) E → Type 0
    RanWith r = HasRun G setup line.event r (w, old) (w', new) o o' disks disks'

    abbrev LinedSo : {F : Type 0} → Result (List ℕ) F → Type 0
    LinedSo result = Lined G setup line result w w' o o' disks disks'

    abbrev IsRunAs : Ran → Type 0
    IsRunAs i = RunsAs G setup line w w' o o' disks disks' i

    answered : (i : Ran) → IsRunAs i → (answer : Answer) → i.answer ≡ Some answer → new ≡ old ++ answer_text answer → new ++ feed_of new ≡ line_text line.line i.answer
    answered i runs answer told text =
        let says : Says setup (means i.from i.to) i.from.parties line.event i.answer i.asked i.to.parties =
        subst (λ (e : Event). Says setup (means i.from i.to) i.from.parties e i.answer i.asked i.to.parties) runs.event runs.step.answers.says in
        let chips : ChipSays line.event i = subst (λ (e : Event). ChipSays e i) runs.event runs.step.answers.chips in
        let is : new ≡ head_of line ++ answer_text answer = text ∙ ap (λ (l : List ℕ). l ++ answer_text answer) head in
        subst (λ (l : List ℕ). l ++ feed_of l ≡ line_text line.line i.answer) (sym is)
        (whole_text line (has_line line.event) answer
        (λ has. subst Speaks told (says_speaks setup i line.event has says chips))
        (λ none. sym told ∙ says_silent setup i line.event none says)
        ∙ ap (line_text line.line) (sym told))

    is_said : (E : Type 0) (i : Ran) → IsRunAs i → (u : Unit {0}) (answer : Option Answer) → i.answer ≡ answer → Said {E = E} (Ok u) answer old new → (j : Ran) × IsRunAs j × IsSome j.answer × (new ++ feed_of new ≡ line_text line.line j.answer)
    is_said E i runs u (Some answer) told said = (i, runs, subst (λ (x : Option Answer). IsSome x) (sym told) refl, answered i runs answer told said)
    is_said E i runs u None told said = absurd said

    is_unsaid : {E : Type 0} (i : Ran) → IsRunAs i → (e : E) (answer : Option Answer) → i.answer ≡ answer → Said {E = E} (Err e) answer old new → Breaks G setup line w w' o o' disks disks'
    is_unsaid i runs e (Some answer) told said = absurd said
    is_unsaid i runs e None told said = inr (i, runs, told)

    runs_as : {E : Type 0} (r : Result (Unit {0}) E) (h : RanWith r) → IsRunAs h.item
    runs_as r h = record { event = h.event_is; step = h.steps; turns = h.disks_turn }

    -- the event was answered
    pub spoke : {E F : Type 0} (r : Result (Unit {0}) E) (u : Unit {0}) (result : Result (List ℕ) F) → r ≡ Ok u → result ≡ Ok new → RanWith r → LinedSo result
    spoke {E} {F} r u result is same h =
        let ok : Result (Unit {0}) E = Ok u in
        let ran : RanWith ok = subst (λ (x : Result (Unit {0}) E). RanWith x) is h in
        subst (λ (x : Result (List ℕ) F). LinedSo x) (sym same) (is_said E ran.item (runs_as ok ran) u ran.item.answer refl ran.said)

    -- memory was wanting in it
    pub broke : {E F : Type 0} (r : Result (Unit {0}) E) (e : E) (result : Result (List ℕ) F) → r ≡ Err e → IsErr result → RanWith r → LinedSo result
    broke {E} {F} r e result is err h =
        let no : Result (Unit {0}) E = Err e in
        let ran : RanWith no = subst (λ (x : Result (Unit {0}) E). RanWith x) is h in
        broken_off result w w' o o' disks disks' err (is_unsaid {E = E} ran.item (runs_as no ran) e ran.item.answer refl ran.said)
