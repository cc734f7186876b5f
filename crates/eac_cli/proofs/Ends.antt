-- The ends of a run, by its status.
use Rattle.std.proofs.Common.{◌≡◌, ℕ, ◌≤◌, ◌<◌, List, [], ◌++◌, length, Some, None, refl, sym, ap, ◌∙◌, subst, arith, inl, inr, append-nil, length-append}
use Rattle.std.specs.Prelude.{IfSome, ◌↔◌, ◌+◌}
use Rattle.std.specs.declared.option.Option.{Option}
use Rattle.std.specs.Io.KnownBytes.{Consumes, IsAtEnd}
use Rattle.eac_base.specs.Causes.{Rose}
use Rattle.eac_base.specs.Streaming.{TurnsAtMost}
use Rattle.eac_base.specs.declared.acks.Ack.{Ack}
use Rattle.chip_slots.specs.declared.disk.ChipDisk.{Ghosts as DiskOf}
use Rattle.policy_limits.specs.Setup.{SetupValue}
use Rattle.eac_cli.specs.declared.event.EventLine.{EventLine}
use Rattle.eac_cli.specs.declared.running.Stop.{Stop}
use Rattle.eac_cli.specs.declared.running.Stop.TheVariants.{WriteFault as StopWriteFault, NoMemory as StopNoMemory}
use Rattle.eac_cli.specs.declared.tool.Status.{Status}
use Rattle.eac_cli.specs.declared.tool.Status.TheVariants.{Done, Usage, ScriptFault, TooLong, ReadFault, WriteFault, NoMemory}
use Rattle.eac_cli.specs.Objects.{RunObjects, Objects, ReadFailed, WriteFailed}
use Rattle.eac_cli.specs.Script.{IsScript, IsFault}
use Rattle.eac_cli.specs.Top.{Shows, IsShown, WasRead, Ran, Whole, Stopped, Claim, IsComplete, TellsFault, TellsLength, RunCall, ShowCall, WereRead, RoseFor, RunsNothing, IsRunStatus, status_of, most_input}
use Rattle.eac_cli.proofs.Orders.{no_fault, fault_is_one}

module _ {D : Type 0} (G : DiskOf D) (o n : RunObjects D) (left : Option (List ℕ)) (bytes : List ℕ) (done : ℕ) (acks : List Ack) where
  ended : (stop : Option Stop) (setup : SetupValue) (lines : List EventLine) → WasRead left bytes → IsScript bytes (length o.disks) setup lines → (stop ≡ None → Whole G setup o n lines done acks) → IfSome stop (λ x. Stopped G setup o n x lines done acks) → Claim G o n left (status_of stop) done acks bytes
  ended None setup lines all is whole some = record { read = all; setup = setup; lines = lines; script = is; did = whole refl }
  ended (Some StopWriteFault) setup lines all is whole some = record { read = all; setup = setup; lines = lines; script = is; did = some }
  ended (Some StopNoMemory) setup lines all is whole some = inr (record { read = all; setup = setup; lines = lines; script = is; did = some })

  pub run_claim : (stop : Option Stop) (status : Status) (chips : ℕ) (setup : SetupValue) (lines slice : List EventLine) → status ≡ status_of stop → chips ≡ length o.disks → slice ≡ lines → WasRead left bytes → IsScript bytes chips setup lines → (stop ≡ None → Whole G setup o n slice done acks) → IfSome stop (λ x. Stopped G setup o n x slice done acks) → Claim G o n left status done acks bytes
  run_claim stop status chips setup lines slice e count same all is whole some =
      let script : IsScript bytes (length o.disks) setup slice = subst (λ (x : ℕ × List EventLine). IsScript bytes x.0 setup x.1) (λ j. (count j, sym same j)) is in
      subst (λ x. Claim G o n left x done acks bytes) (sym e) (ended stop setup slice all script whole some)

  -- the fault of a script over these chips
  pub fault_claim : (chips line rule : ℕ) → chips ≡ length o.disks → done ≡ 0 → acks ≡ [] → n ≡ o → WasRead left bytes → IsFault bytes chips line rule → Claim G o n left (ScriptFault line rule) done acks bytes
  fault_claim chips line rule count zero none same all fault = (all, subst (λ (k : ℕ). IsFault bytes k line rule) count fault, (zero, none, same))

module _ {D : Type 0} (G : DiskOf D) (setup : SetupValue) (o n : RunObjects D) (lines : List EventLine) (done : ℕ) (acks : List Ack) where
  stop_cause : (stop : Option Stop) → (stop ≡ None → Whole G setup o n lines done acks) → IfSome stop (λ x. Stopped G setup o n x lines done acks) → IsRunStatus (status_of stop) o.lost n.lost
  stop_cause None whole some = (whole refl).quiet
  stop_cause (Some StopWriteFault) whole some = some.sent.5
  stop_cause (Some StopNoMemory) whole some = some.sent.2

  pub run_cause : (stop : Option Stop) (status : Status) → status ≡ status_of stop → (stop ≡ None → Whole G setup o n lines done acks) → IfSome stop (λ x. Stopped G setup o n x lines done acks) → IsRunStatus status o.lost n.lost
  run_cause stop status e whole some = subst (λ x. IsRunStatus x o.lost n.lost) (sym e) (stop_cause stop whole some)

-- ---- counts

differ : (status told : Status) → (status ≡ told → ⊥) → (before now : ℕ) → now ≡ before → RoseFor told status before now
differ status told other before now same = (λ e. absurd (other e), λ no. same)

pub told_rose : (told : Status) (before now : ℕ) → Rose before now → RoseFor told told before now
told_rose told before now rose = (λ e. rose, λ no. absurd (no refl))

-- the sink's count after a run of bytes
pub run_writes : (status : Status) (before now : ℕ) → IsRunStatus status before now → RoseFor WriteFault status before now
run_writes Done before now h = differ Done WriteFault (λ e. cc) before now h
run_writes (ScriptFault line rule) before now h = differ (ScriptFault line rule) WriteFault (λ e. cc) before now h
run_writes NoMemory before now h = differ NoMemory WriteFault (λ e. cc) before now h
run_writes WriteFault before now h = told_rose WriteFault before now h
run_writes Usage before now h = absurd h
run_writes TooLong before now h = absurd h
run_writes ReadFault before now h = absurd h

-- the source's count, where all was read
pub run_reads : (status : Status) (lost lost' : ℕ) (before now : ℕ) → IsRunStatus status lost lost' → now ≡ before → RoseFor ReadFault status before now
run_reads Done lost lost' before now h same = differ Done ReadFault (λ e. cc) before now same
run_reads (ScriptFault line rule) lost lost' before now h same = differ (ScriptFault line rule) ReadFault (λ e. cc) before now same
run_reads NoMemory lost lost' before now h same = differ NoMemory ReadFault (λ e. cc) before now same
run_reads WriteFault lost lost' before now h same = differ WriteFault ReadFault (λ e. cc) before now same
run_reads Usage lost lost' before now h same = absurd h
run_reads TooLong lost lost' before now h same = absurd h
run_reads ReadFault lost lost' before now h same = absurd h

-- a run that ended with this status ran something
pub no_nothing : (stop : Option Stop) (status : Status) (A : Type 0) → status ≡ status_of stop → RunsNothing status → A
no_nothing stop status A e h = absurd (never stop (subst RunsNothing e h))
  where
    never : (stop : Option Stop) → RunsNothing (status_of stop) → ⊥
    never None h = h
    never (Some StopWriteFault) h = h
    never (Some StopNoMemory) h = h

-- ---- what was read

module _ (left left' : Option (List ℕ)) (reads reads' : Option ℕ) where
  -- all was read
  pub all_so : (P : List ℕ → Type 0) (bytes slice : List ℕ) → slice ≡ bytes → Consumes left left' bytes × IsAtEnd left' × (length bytes ≤ most_input) × TurnsAtMost reads reads' (length bytes + 1) → P slice → (b : List ℕ) × WereRead left left' reads reads' b × P b
  all_so P bytes slice same read p = (bytes, record { taken = read.0; most = omega (arith, read.2); turns = read.3 }, subst P same p)

  -- a front was read
  pub front_so : (P : List ℕ → Type 0) (Q : Type 0) → ((b : List ℕ) → (Q ↔ (most_input < length b)) → P b) → (b : List ℕ) × Consumes left left' b × (length b ≤ most_input + 1) × (Q ↔ (most_input < length b)) × TurnsAtMost reads reads' (length b + 1) → (b : List ℕ) × WereRead left left' reads reads' b × P b
  front_so P Q p read = (read.0, record { taken = read.1; most = read.2; turns = read.4 }, p read.0 read.3)

-- ---- what has to come

pub all_read : (all bytes rest : List ℕ) → all ≡ bytes ++ rest → rest ≡ [] → bytes ≡ all
all_read all bytes rest e none = sym (e ∙ ap (λ (l : List ℕ). bytes ++ l) none ∙ append-nil bytes)

pub no_longer : (all bytes rest : List ℕ) → all ≡ bytes ++ rest → length bytes ≤ length all
no_longer all bytes rest e = omega (arith, ap length e, length-append bytes rest)

module _ {D : Type 0} (G : DiskOf D) (o n : RunObjects D) (all bytes rest : List ℕ) (done : ℕ) (acks : List Ack) (e : all ≡ bytes ++ rest) (R W : Type 0) where
  -- what was read within the limit is all
  within_all : WasRead (Some rest) bytes → bytes ≡ all
  within_all read = all_read all bytes rest e read.0

  abbrev chips : ℕ
  chips = length o.disks

  script_all : (How : SetupValue → List EventLine → Type 0) → (r : Ran (Some rest) bytes chips How) → IsScript all chips r.setup r.lines
  script_all How r = subst (λ b. IsScript b chips r.setup r.lines) (within_all r.read) r.script

  fault_all : (line rule : ℕ) → WasRead (Some rest) bytes → IsFault bytes chips line rule → IsFault all chips line rule
  fault_all line rule read f = subst (λ b. IsFault b chips line rule) (within_all read) f

  not_long : WasRead (Some rest) bytes → most_input < length all → ⊥
  not_long read long = omega (arith, read.1, long, ap length (within_all read))

  complete_at : (status : Status) → Claim G o n (Some rest) status done acks bytes → (status ≡ ReadFault → R) → (status ≡ WriteFault → W) → IsComplete all chips R W status
  complete_at Done c read write setup lines is within no_read no_write = inl refl
  complete_at Usage c read write setup lines is within no_read no_write = absurd c
  complete_at (ScriptFault line rule) c read write setup lines is within no_read no_write = absurd (no_fault all chips setup lines line rule is (fault_all line rule c.0 c.1))
  complete_at TooLong c read write setup lines is within no_read no_write = absurd (omega (arith, c.0, within, no_longer all bytes rest e))
  complete_at ReadFault c read write setup lines is within no_read no_write = absurd (no_read (read refl))
  complete_at WriteFault c read write setup lines is within no_read no_write = absurd (no_write (write refl))
  complete_at NoMemory c read write setup lines is within no_read no_write = inr refl

  fault_at : (status : Status) → Claim G o n (Some rest) status done acks bytes → (status ≡ ReadFault → R) → TellsFault all chips R status
  fault_at Done c read line rule is within no_read = absurd (no_fault all chips c.setup c.lines line rule (script_all _ c) is)
  fault_at Usage c read line rule is within no_read = absurd c
  fault_at (ScriptFault l r) c read line rule is within no_read =
      let one = fault_is_one all chips l r line rule (fault_all l r c.0 c.1) is in
      inl (λ i. ScriptFault (one.0 i) (one.1 i))
  fault_at TooLong c read line rule is within no_read = absurd (omega (arith, c.0, within, no_longer all bytes rest e))
  fault_at ReadFault c read line rule is within no_read = absurd (no_read (read refl))
  fault_at WriteFault c read line rule is within no_read = absurd (no_fault all chips c.setup c.lines line rule (script_all _ c) is)
  fault_at NoMemory c read line rule is within no_read = inr refl

  long_at : (status : Status) → Claim G o n (Some rest) status done acks bytes → (status ≡ ReadFault → R) → TellsLength all R status
  long_at Done c read long no_read = absurd (not_long c.read long)
  long_at Usage c read long no_read = absurd c
  long_at (ScriptFault l r) c read long no_read = absurd (not_long c.0 long)
  long_at TooLong c read long no_read = inl refl
  long_at ReadFault c read long no_read = absurd (no_read (read refl))
  long_at WriteFault c read long no_read = absurd (not_long c.read long)
  long_at NoMemory c read long no_read = inr refl

module _ {D : Type 0} (G : DiskOf D) (before after : Objects D) (status : Status) (done : ℕ) (acks : List Ack) where
  abbrev WasRun : (left left' : Option (List ℕ)) (reads reads' : Option ℕ) → Type 0
  WasRun left left' reads reads' = (bytes : List ℕ) × WereRead left left' reads reads' bytes × Claim G before.run after.run left' status done acks bytes

  complete : (left left' : Option (List ℕ)) (reads reads' : Option ℕ) → WasRun left left' reads reads' → (status ≡ ReadFault → ReadFailed before after) → (status ≡ WriteFault → WriteFailed before.run after.run) → IfSome left (λ all. IsComplete all (length before.run.disks) (ReadFailed before after) (WriteFailed before.run after.run) status)
  complete None left' reads reads' h read write = tt
  complete (Some all) None reads reads' h read write = absurd h.1.taken
  complete (Some all) (Some rest) reads reads' h read write = complete_at G before.run after.run all h.0 rest done acks h.1.taken _ _ status h.2 read write

  faulty : (left left' : Option (List ℕ)) (reads reads' : Option ℕ) → WasRun left left' reads reads' → (status ≡ ReadFault → ReadFailed before after) → IfSome left (λ all. TellsFault all (length before.run.disks) (ReadFailed before after) status)
  faulty None left' reads reads' h read = tt
  faulty (Some all) None reads reads' h read = absurd h.1.taken
  faulty (Some all) (Some rest) reads reads' h read = fault_at G before.run after.run all h.0 rest done acks h.1.taken _ (Unit {0}) status h.2 read

  too_long : (left left' : Option (List ℕ)) (reads reads' : Option ℕ) → WasRun left left' reads reads' → (status ≡ ReadFault → ReadFailed before after) → IfSome left (λ all. TellsLength all (ReadFailed before after) status)
  too_long None left' reads reads' h read = tt
  too_long (Some all) None reads reads' h read = absurd h.1.taken
  too_long (Some all) (Some rest) reads reads' h read = long_at G before.run after.run all h.0 rest done acks h.1.taken _ (Unit {0}) status h.2 read

  -- a whole call of `run`
  pub run_call : WasRun before.left after.left before.reads after.reads → RoseFor ReadFault status before.read_faults after.read_faults → RoseFor WriteFault status before.run.lost after.run.lost → RunCall G before after status done acks
  run_call claim reads writes = let read = reads.0 in let write = writes.0 in record {
    claim = claim;
    complete = complete before.left after.left before.reads after.reads claim read write;
    faulty = faulty before.left after.left before.reads after.reads claim read;
    too_long = too_long before.left after.left before.reads after.reads claim read;
  }

-- ---- what has to be shown

module _ (s t : Option (List ℕ)) (all bytes rest : List ℕ) (e : all ≡ bytes ++ rest) (R W : Type 0) where
  shown_at : (status : Status) → Shows s t (Some rest) status bytes → (status ≡ ReadFault → R) → (status ≡ WriteFault → W) → IsShown all R W status
  shown_at Done c read write within no_read no_write = inl refl
  shown_at Usage c read write within no_read no_write = absurd c
  shown_at (ScriptFault line rule) c read write within no_read no_write = absurd c
  shown_at TooLong c read write within no_read no_write = absurd (omega (arith, c.0, within, no_longer all bytes rest e))
  shown_at ReadFault c read write within no_read no_write = absurd (no_read (read refl))
  shown_at WriteFault c read write within no_read no_write = absurd (no_write (write refl))
  shown_at NoMemory c read write within no_read no_write = inr refl

  length_at : (status : Status) → Shows s t (Some rest) status bytes → (status ≡ ReadFault → R) → TellsLength all R status
  length_at Done c read long no_read = absurd (omega (arith, c.0.1, long, ap length (all_read all bytes rest e c.0.0)))
  length_at Usage c read long no_read = absurd c
  length_at (ScriptFault line rule) c read long no_read = absurd c
  length_at TooLong c read long no_read = inl refl
  length_at ReadFault c read long no_read = absurd (no_read (read refl))
  length_at WriteFault c read long no_read = absurd (omega (arith, c.0.1, long, ap length (all_read all bytes rest e c.0.0)))
  length_at NoMemory c read long no_read = inr refl

module _ (s t : Option (List ℕ)) (status : Status) (R W : Type 0) where
  pub shown : (left left' : Option (List ℕ)) (reads reads' : Option ℕ) → (bytes : List ℕ) × WereRead left left' reads reads' bytes × Shows s t left' status bytes → (status ≡ ReadFault → R) → (status ≡ WriteFault → W) → IfSome left (λ all. IsShown all R W status)
  shown None left' reads reads' h read write = tt
  shown (Some all) None reads reads' h read write = absurd h.1.taken
  shown (Some all) (Some rest) reads reads' h read write = shown_at s t all h.0 rest h.1.taken R W status h.2 read write

  pub shown_length : (left left' : Option (List ℕ)) (reads reads' : Option ℕ) → (bytes : List ℕ) × WereRead left left' reads reads' bytes × Shows s t left' status bytes → (status ≡ ReadFault → R) → IfSome left (λ all. TellsLength all R status)
  shown_length None left' reads reads' h read = tt
  shown_length (Some all) None reads reads' h read = absurd h.1.taken
  shown_length (Some all) (Some rest) reads reads' h read = length_at s t all h.0 rest h.1.taken R W status h.2 read

-- ---- what is reported

pub show_call : {D : Type 0} (before after : Objects D) (status told : Status) → told ≡ status → (bytes : List ℕ) × WereRead before.left after.left before.reads after.reads bytes × Shows before.run.taken after.run.taken after.left status bytes → IfSome before.left (λ bytes. IsShown bytes (ReadFailed before after) (WriteFailed before.run after.run) status) → IfSome before.left (λ bytes. TellsLength bytes (ReadFailed before after) status) → ShowCall before after told
show_call before after status told same shows shown too_long =
    subst (ShowCall before after) (sym same) (record { shows = shows; shown = shown; too_long = too_long })
