-- A call of the register is one delivery.
use Rattle.std.proofs.Common.{◌≡◌, ℕ, ◌<◌, ◌≤◌, Bool, true, false, cond, List, [], ◌∷◌, ◌++◌, length, Some, None, Ok, Err, refl, sym, ap, ◌∙◌, subst, arith, append-nil, ⊎_elim, inl, inr, true≢false, nat_eq}
use Rattle.std.specs.Prelude.{◌&&◌, IfSome, nat_le}
use Rattle.std.proofs.lemmas.Bool.Decides.{nat_tests}
use Rattle.std.specs.declared.option.Option.{Option}
use Rattle.std.specs.declared.result.Result.{Result}
use Rattle.eac_base.specs.Causes.{Rose}
use Rattle.keeper.specs.declared.rows.Row.{Row}
use Rattle.keeper.specs.declared.rows.Part.{Part}
use Rattle.keeper.specs.declared.rows.Table.TheVariants.{Register as RegisterTable}
use Rattle.std.specs.Str.{bytes_eq}
use Rattle.eac_base.specs.Telling.{Told}
use Rattle.eac_base.proofs.Tellings.{told_then, told_more}
use Rattle.keeper.specs.declared.rows.Part.TheVariants as part
use Rattle.keeper.specs.Rows.{table_of, same_table, has_key, row_at, rows_of, most_rows, UniqueKeys}
use Rattle.keeper.specs.Keeping.{MayAdd, Adds as KeeperAdds}
use Rattle.keeper.specs.declared.keeping.KeepRefusal.{KeepRefusal}
use Rattle.keeper.specs.declared.keeping.KeepRefusal.TheVariants.{Failed, Full as KeeperFull, Twice, Absent, NoMemory as KeeperNoMemory}
use Rattle.issue_core.specs.declared.rule.Rule.{Rule}
use Rattle.issue_core.specs.declared.rule.Rule.TheVariants.{Used, Full}
use Rattle.issue_core.specs.declared.registering.serving.RegisterAnswer.{RegisterAnswer}
use Rattle.issue_core.specs.declared.registering.serving.RegisterAnswer.TheVariants.{Issued, Kept, Refused}
use Rattle.issue_core.specs.declared.fault.IssueFault.{IssueFault}
use Rattle.issue_core.specs.declared.fault.IssueFault.TheVariants.{KeeperFault, ProviderFault, NoKey, NoMemory}
use Rattle.ledger.specs.Ledger.{Outcome, Issued as IssuedOutcome, Faulted, MayLeave, faces}
use Rattle.ledger.specs.Story.{Adds}
use Rattle.issue_core.specs.Registering.Desk.{Asked, RegisterFault, KeeperFailed, register, unsigned, delivery_of, RegisterServes, entries_of, bytes_of, day_of, again_of, register_outcome, row_of}
use Rattle.issue_core.specs.Registering.Steps.{full_answer, row_answer, first_answer, looked, RegisterEnters, answer_of}
use Rattle.issue_core.proofs.RegisterDesk.Ledger.{Seen, lacks_both, unused, none_lacks, face_count, seen, used_rule, full_rule, no_rule, unique_ledger}

-- ---- what a look answers

if_full : (full : Bool) (answer : RegisterAnswer) → Some answer ≡ cond full (Some (Refused Full)) None → (full ≡ true) × (answer ≡ Refused Full)
if_full true answer e = (refl, cc)
if_full false answer e = absurd (cc)

if_room : (full : Bool) → None ≡ cond full (Some (Refused Full)) None → full ≡ false
if_room true e = absurd (cc)
if_room false e = refl

full_said : (answer : RegisterAnswer) (count : ℕ) → Some answer ≡ full_answer count → (most_rows ≤ count) × (answer ≡ Refused Full)
full_said answer count e = let h = if_full (nat_le most_rows count) answer e in let is : nat_le most_rows count ≡ true = h.0 in (grind (arith, nat_tests), h.1)

room_said : (count : ℕ) → None ≡ full_answer count → count < most_rows
room_said count e = let is : nat_le most_rows count ≡ false = if_room (nat_le most_rows count) e in grind (arith, nat_tests)

unchanged : (after before : List Row) → after ≡ before → after ≡ before ++ []
unchanged after before e = e ∙ sym (append-nil before)

serves_row : (b : Bool) (before after : List Row) (asked : Asked) (counts : ℕ × ℕ) (part : Part) → after ≡ before → bytes_eq (bytes_of part) asked.bytes ≡ b → Seen (entries_of before) asked.reference asked.bytes part → RegisterServes before after asked counts (register_outcome (Ok (cond b (Kept (day_of part)) (Refused Used))))
serves_row true before after asked counts part same is seen = record { left = None; decides = record { left = tt; told = seen.0 is }; rows = unchanged after before same }
serves_row false before after asked counts part same is seen = record { left = None; decides = record { left = tt; told = ((seen.1 is).0, used_rule (faces register (entries_of before)) asked (seen.1 is).1) }; rows = unchanged after before same }

-- the row of a key is one of its table
found_here : (b : Bool) (r row : Row) (rest : Option Row) (P : Row → Type 0) → (b ≡ true → P r) → (rest ≡ Some row → P row) → cond b (Some r) rest ≡ Some row → P row
found_here true r row rest P here there e = let same : r ≡ row = cc in subst P same (here refl)
found_here false r row rest P here there e = there e

found_in : (rows : List Row) (reference : List ℕ) (row : Row) → row_at RegisterTable 0 reference rows ≡ Some row → has_key RegisterTable 0 reference row ≡ true
found_in [] reference row e = absurd (cc)
found_in (r ∷ rows) reference row e = found_here (has_key RegisterTable 0 reference r) r row (row_at RegisterTable 0 reference rows) (λ x. has_key RegisterTable 0 reference x ≡ true) (λ h. h) (found_in rows reference row) e

again_is : (p : Part) (desk : Bool) (named : Bool) (bytes : List ℕ) → (same_table (table_of p) RegisterTable && desk) && named ≡ true → again_of p bytes ≡ cond (bytes_eq (bytes_of p) bytes) (Kept (day_of p)) (Refused Used)
again_is (part.Register request day) desk named bytes e = refl
again_is (part.Issued p) desk named bytes e = absurd (true≢false (sym e))
again_is (part.Own p) desk named bytes e = absurd (true≢false (sym e))
again_is (part.Ca p) desk named bytes e = absurd (true≢false (sym e))

-- what is answered where the row was found
again_found : (rows : List Row) (reference bytes : List ℕ) (row : Row) → row_at RegisterTable 0 reference rows ≡ Some row → again_of row.part bytes ≡ cond (bytes_eq (bytes_of row.part) bytes) (Kept (day_of row.part)) (Refused Used)
again_found rows reference bytes row e = again_is row.part (nat_eq row.desk 0) (bytes_eq row.reference reference) bytes (found_in rows reference row e)

serves_full : (before after : List Row) (asked : Asked) (counts : ℕ × ℕ) → after ≡ before → row_at RegisterTable 0 asked.reference before ≡ None → most_rows ≤ length (rows_of RegisterTable 0 before) → RegisterServes before after asked counts (register_outcome (Ok (Refused Full)))
serves_full before after asked counts same none full =
    let both = lacks_both (entries_of before) (asked.reference, asked.bytes) (none_lacks before asked.reference none) in
    record { left = None; decides = record { left = tt; told = (both.0, full_rule (faces register (entries_of before)) asked both.1 (subst (λ n. most_rows ≤ n) (face_count before) full)) }; rows = unchanged after before same }

serves_at : (found : Option Row) (before after : List Row) (asked : Asked) (counts : ℕ × ℕ) (answer : RegisterAnswer) → UniqueKeys before → after ≡ before → row_at RegisterTable 0 asked.reference before ≡ found → Some answer ≡ first_answer (row_answer found asked.bytes) (full_answer (length (rows_of RegisterTable 0 before))) → RegisterServes before after asked counts (register_outcome (Ok answer))
serves_at (Some row) before after asked counts answer unique same at is =
    let again : answer ≡ again_of row.part asked.bytes = cc in
    subst (λ a. RegisterServes before after asked counts (register_outcome (Ok a))) (sym (again ∙ again_found before asked.reference asked.bytes row at)) (serves_row (bytes_eq (bytes_of row.part) asked.bytes) before after asked counts row.part same refl (seen before asked.reference asked.bytes row at (unique_ledger before unique)))
serves_at None before after asked counts answer unique same at is =
    let full = full_said answer (length (rows_of RegisterTable 0 before)) is in
    subst (λ a. RegisterServes before after asked counts (register_outcome (Ok a))) (sym full.1) (serves_full before after asked counts same at full.0)

serves_looked : (before after : List Row) (asked : Asked) (counts : ℕ × ℕ) (answer : RegisterAnswer) → UniqueKeys before → after ≡ before → Some answer ≡ looked before asked.reference asked.bytes → RegisterServes before after asked counts (register_outcome (Ok answer))
serves_looked before after asked counts answer unique same looked = serves_at (row_at RegisterTable 0 asked.reference before) before after asked counts answer unique same refl looked

-- where nothing is answered, no row has the reference and there is room
none_at : (found : Option Row) (bytes : List ℕ) (count : ℕ) → None ≡ first_answer (row_answer found bytes) (full_answer count) → (found ≡ None) × (count < most_rows)
none_at (Some row) bytes count e = absurd (cc)
none_at None bytes count e = (refl, room_said count e)

-- ---- the adding

abbrev pub row_asked : Asked → Row
row_asked asked = row_of asked.reference asked.bytes asked.day

may_issue : (rows : List Row) (asked : Asked) (counts : ℕ × ℕ) (outcome : Outcome (List ℕ) Rule RegisterFault) → MayAdd rows (row_asked asked) → MayLeave register outcome asked.day → Adds register unsigned (entries_of rows) (delivery_of asked counts outcome (Some asked.day)) asked.day
may_issue rows asked counts outcome may told =
    let none = none_lacks rows asked.reference may.new in
    let both = lacks_both (entries_of rows) (asked.reference, asked.bytes) none in
    record {
      new = both.0;
      number = unused (entries_of rows) asked.reference none;
      allowed = no_rule (faces register (entries_of rows)) asked both.1 (subst (λ n. n < most_rows) (face_count rows) may.room);
      body = refl;
      signed = refl;
      told = told;
    }

entered : (before after : List Row) (asked : Asked) (counts : ℕ × ℕ) (result : Result RegisterAnswer IssueFault) → MayAdd before (row_asked asked) → RegisterEnters before after (row_asked asked) result → (result ≡ Err KeeperFault → Rose counts.0 counts.1) → RegisterServes before after asked counts (register_outcome result)
entered before after asked counts (Ok (Issued day)) may h cause = record { left = Some asked.day; decides = record { left = may_issue before asked counts (IssuedOutcome day) may h.0; told = ap Some (sym h.0) }; rows = h.1 }
entered before after asked counts (Ok (Kept day)) may h cause = absurd h
entered before after asked counts (Ok (Refused rule)) may h cause = absurd h
entered before after asked counts (Err KeeperFault) may h cause =
    ⊎_elim
    (λ (e : after ≡ before). record { left = None; decides = record { left = tt; told = cause refl }; rows = unchanged after before e })
    (λ (e : after ≡ before ++ row_asked asked ∷ []). record { left = Some asked.day; decides = record { left = may_issue before asked counts (Faulted KeeperFailed) may tt; told = cause refl }; rows = e })
    h
entered before after asked counts (Err ProviderFault) may h cause = absurd h
entered before after asked counts (Err (NoKey reference)) may h cause = absurd h
entered before after asked counts (Err NoMemory) may h cause = record { left = None; decides = record { left = tt; told = tt }; rows = unchanged after before h }

-- a count that rose later rose
pub rose_later : (first mid now : ℕ) → first ≤ mid → Rose mid now → Rose first now
rose_later first mid now a b = omega arith

abbrev pub Looks : List Row → List Row → Asked → Option RegisterAnswer → Type 0
Looks before after asked found = (after ≡ before) × (found ≡ looked before asked.reference asked.bytes)

pub serves_seen : (old new : Option (List Row)) (asked : Asked) (counts : ℕ × ℕ) (found : Option RegisterAnswer) (answer : RegisterAnswer) → found ≡ Some answer → IfSome old UniqueKeys → Told old new (λ before after. Looks before after asked found) → Told old new (λ before after. RegisterServes before after asked counts (register_outcome (Ok answer)))
serves_seen old None asked counts found answer is unique looked = tt
serves_seen None (Some after) asked counts found answer is unique looked = absurd looked
serves_seen (Some before) (Some after) asked counts found answer is unique looked = serves_looked before after asked counts answer unique looked.0 (sym is ∙ looked.1)

pub serves_new : (old mid new : Option (List Row)) (asked : Asked) (counts : ℕ × ℕ) (found : Option RegisterAnswer) (result : Result RegisterAnswer IssueFault) → found ≡ None → Told old mid (λ before after. Looks before after asked found) → Told mid new (λ before after. MayAdd before (row_asked asked) → RegisterEnters before after (row_asked asked) result) → (result ≡ Err KeeperFault → Rose counts.0 counts.1) → Told old new (λ before after. RegisterServes before after asked counts (register_outcome result))
serves_new old mid new asked counts found result is looked entry cause = told_then _ _ _ old mid new looked entry
    (λ (before middle after : List Row) (l : Looks before middle asked found) (e : MayAdd middle (row_asked asked) → RegisterEnters middle after (row_asked asked) result).
    let none = none_at (row_at RegisterTable 0 asked.reference before) asked.bytes (length (rows_of RegisterTable 0 before)) (sym is ∙ l.1) in
    let may : MayAdd before (row_asked asked) = record { new = none.0; room = none.1 } in
    entered before after asked counts result may (subst (λ rows. MayAdd rows (row_asked asked) → RegisterEnters rows after (row_asked asked) result) l.0 e may) cause)

-- ---- what any keeper answers to an adding

enters_as : {U : Type 0} (before after : List Row) (row : Row) (day bytes : List ℕ) (added : Result U KeepRefusal) → day ≡ day_of row.part → MayAdd before row → KeeperAdds before after row added → RegisterEnters before after row (answer_of added day bytes)
enters_as before after row day bytes (Ok u) is may a = (is, a.1)
enters_as before after row day bytes (Err Failed) is may (inl e) = inl e
enters_as before after row day bytes (Err Failed) is may (inr e) = inr e.1
enters_as before after row day bytes (Err KeeperFull) is may a = let room = may.room in let full = a.2 in absurd (omega (arith, room, full))
enters_as before after row day bytes (Err (Twice kept)) is may a = let new = may.new in let there = a.1 in absurd (cc (new, there))
enters_as before after row day bytes (Err Absent) is may a = absurd a
enters_as before after row day bytes (Err KeeperNoMemory) is may a = a

pub told_enters : {U : Type 0} (old new : Option (List Row)) (asked row : Row) (day bytes : List ℕ) (added : Result U KeepRefusal) (result : Result RegisterAnswer IssueFault) → row ≡ asked → day ≡ day_of asked.part → result ≡ answer_of added day bytes → Told old new (λ before after. KeeperAdds before after row added) → Told old new (λ before after. MayAdd before asked → RegisterEnters before after asked result)
told_enters old new asked row day bytes added result row_is is answered told = told_more (λ before after. KeeperAdds before after row added) (λ before after. MayAdd before asked → RegisterEnters before after asked result) old new told
    (λ before after a may. subst (λ (r : Result RegisterAnswer IssueFault). RegisterEnters before after asked r) (sym answered) (enters_as before after asked day bytes added is may (subst (λ (x : Row). KeeperAdds before after x added) row_is a)))
