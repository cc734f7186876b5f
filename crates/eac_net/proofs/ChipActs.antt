-- What an item does to its chip's acts: each acknowledgement stays one of an act, and what was newly taken was asked for.
use Rattle.std.proofs.Common.{◌≡◌, inl, inr, ⊎_elim, ℕ, List, [], ◌∷◌, ◌++◌, Some, refl, sym, ap, ◌∙◌, subst, append-nil}
use Rattle.std.specs.Prelude.{map}
use Rattle.eac_base.specs.declared.acks.Ack.{Ack}
use Rattle.eac_base.specs.declared.failures.NoMemory.{NoMemory}
use Rattle.cvc_grammar.specs.declared.certificate.Cert.{Cert}
use Rattle.chip_events.specs.Acts.{ChipAct, IsIn}
use Rattle.chip_events.specs.Asked as chip_asked
use Rattle.chip_events.specs.Asked.{TakesAsked}
use Rattle.chip_events.specs.Crashes.{Acknowledged, KeepsAcks}
use Rattle.chip_events.specs.Told.{ChipTold, ChipPart, found_so}
use Rattle.chip_events.specs.Verdicts as chips
use Rattle.chip_events.proofs.Acknowledging as acking
use Rattle.chip_events.proofs.TakenAsked as asking
use Rattle.eac_net.specs.ChipSays.{heard, IsTurn}
use Rattle.eac_net.specs.Chips.{chip_in}
use Rattle.eac_net.specs.Items.{Ran}
use Rattle.eac_net.specs.Laws.{IsYesTo, WasAsked, TakenWasAsked}
use Rattle.eac_net.specs.Verdicts.{Verdict}
use Rattle.eac_net.proofs.ChipCases.{ChipCase, Still, Opened, Making, Importing, Presenting, case_of, chip_there}

-- ---- acknowledgements

module _ (chip : ℕ) where
  no_acks : (acts : List ChipAct) (acks : List Ack) → KeepsAcks chip acts acts acks acks
  no_acks acts acks = record {
    new = [];
    added = sym (append-nil acks);
    keeps = λ more k. subst (Acknowledged chip acts) (sym (append-nil more)) k;
  }

  module _ (s s' : ChipPart) where
    abbrev Keeps : ChipPart → Type 0
    Keeps x = KeepsAcks chip s.chip.acts x.chip.acts s.acks x.acks

    alone_keeps : s' ≡ record s { chip = s'.chip } → KeepsAcks chip s.chip.acts s'.chip.acts s.acks s.acks → Keeps s'
    alone_keeps rest k = subst Keeps (sym rest) k

    case_keeps : ChipCase chip s s' → Keeps s'
    case_keeps (Still is) = subst Keeps (sym is) (no_acks s.chip.acts s.acks)
    case_keeps (Opened read opens rest) = alone_keeps rest (acking.opening_keeps chip s.chip read s'.chip s.acks opens)
    case_keeps (Making root day answer makes rest) = alone_keeps rest (acking.making_keeps chip root day s.chip answer s'.chip s.acks makes)
    case_keeps (Importing bytes result x) = acking.importing_keeps chip NoMemory bytes s result s' x
    case_keeps (Presenting certs result x) = acking.presenting_keeps chip NoMemory certs s result s' x

-- with those of the item
pub item_keeps : (chip : ℕ) (c c' : ChipTold) (i : Ran) (acks : List Ack) → chip_in i.event ≡ Some chip → IsTurn chip c i c' → Acknowledged chip c.acts acks → Acknowledged chip c'.acts (acks ++ i.acks)
item_keeps chip c c' i acks own x h =
    let s : ChipPart = found_so c i.from.parties.provider in
    let s' : ChipPart = record { chip = c'; acks = i.acks; verdicts = x.verdicts; provider = i.to.parties.provider } in
    let k : KeepsAcks chip c.acts c'.acts [] i.acks = case_keeps chip s s' (case_of x.day i.event i.handed i.answer s s' chip own x.turn) in
    subst (λ (l : List Ack). Acknowledged chip c'.acts (acks ++ l)) (sym k.added) (k.keeps acks h)

-- ---- verdicts

no_verdicts : (acts : List ChipAct) (verdicts : List chips.Verdict) → TakesAsked acts acts verdicts verdicts
no_verdicts acts verdicts = record {
  new = [];
  added = sym (append-nil verdicts);
  asked = λ a bytes among answered took. inl among;
}

module _ (s s' : ChipPart) where
  abbrev Takes : ChipPart → Type 0
  Takes x = TakesAsked s.chip.acts x.chip.acts s.verdicts x.verdicts

  alone_takes : s' ≡ record s { chip = s'.chip } → TakesAsked s.chip.acts s'.chip.acts s.verdicts s.verdicts → Takes s'
  alone_takes rest k = subst Takes (sym rest) k

  case_takes : (chip : ℕ) → ChipCase chip s s' → Takes s'
  case_takes chip (Still is) = subst Takes (sym is) (no_verdicts s.chip.acts s.verdicts)
  case_takes chip (Opened read opens rest) = alone_takes rest (asking.opening_keeps chip s.chip read s'.chip s.verdicts opens)
  case_takes chip (Making root day answer makes rest) = alone_takes rest (asking.making_keeps chip root day s.chip answer s'.chip s.verdicts makes)
  case_takes chip (Importing bytes result x) = asking.importing_keeps chip NoMemory bytes s result s' x
  case_takes chip (Presenting certs result x) = asking.presenting_keeps chip NoMemory certs s result s' x

-- a yes of the chip's event, as any party's
record Heard (verdicts : List chips.Verdict) (cert : Cert) : Type 0 where
  verdict : Verdict
  among : IsIn verdict (map heard verdicts)
  yes : IsYesTo verdict cert

yes_heard : (verdicts : List chips.Verdict) (cert : Cert) → chip_asked.GotYes verdicts cert → Heard verdicts cert
yes_heard [] cert h = absurd h
yes_heard (v ∷ verdicts) cert (inl y) = record { verdict = heard v; among = inl refl; yes = record { message = y.message; signature = y.signature; yes = y.yes } }
yes_heard (v ∷ verdicts) cert (inr h) =
    let r = yes_heard verdicts cert h in
    record { verdict = r.verdict; among = inr r.among; yes = r.yes }

asked_heard : (bytes : List ℕ) (verdicts : List chips.Verdict) (asked : List Verdict) → asked ≡ map heard verdicts → chip_asked.WasAsked bytes verdicts → WasAsked bytes asked
asked_heard bytes verdicts asked is w =
    let r = yes_heard verdicts w.cert w.got in
    record { cert = w.cert; reads = w.reads; verdict = r.verdict; among = subst (λ (l : List Verdict). IsIn r.verdict l) (sym is) r.among; yes = r.yes }

pub taken_was_asked : TakenWasAsked
taken_was_asked chip c c' i a bytes x among answered took =
    let s : ChipPart = found_so c i.from.parties.provider in
    let s' : ChipPart = record { chip = c'; acks = i.acks; verdicts = x.verdicts; provider = i.to.parties.provider } in
    let own = chip_there x.day i.event i.handed i.answer s s' x.turn in
    let t : TakesAsked c.acts c'.acts [] x.verdicts = case_takes s s' own.0 (case_of x.day i.event i.handed i.answer s s' own.0 own.1 x.turn) in
    ⊎_elim (λ (before : IsIn a c.acts). inl before)
    (λ (w : chip_asked.WasAsked bytes t.new). inr (asked_heard bytes t.new i.asked (x.asked ∙ ap (map heard) t.added) w))
    (t.asked a bytes among answered took)
