-- The rows that deliveries add, and the entries that they leave.
use Rattle.std.proofs.Common.{◌≡◌, ℕ, Bool, true, false, cond, List, [], ◌∷◌, ◌++◌, Some, None, refl, sym, ap, ◌∙◌, subst, append_assoc}
use Rattle.std.specs.declared.option.Option.{Option}
use Rattle.std.proofs.lemmas.Grind.{flat_map-append}
use Rattle.keeper.specs.declared.rows.Row.{Row}
use Rattle.keeper.specs.declared.rows.Table.TheVariants.{Register as RegisterTable}
use Rattle.keeper.specs.Rows.{is_of}
use Rattle.issue_core.specs.declared.rule.Rule.{Rule}
use Rattle.ledger.specs.Ledger.{Entry, Outcome, NoMemory, Delivery, left_entry, entries}
use Rattle.ledger.specs.Story.{Adds, Decides}
use Rattle.issue_core.specs.Registering.Desk.{Request, Asked, RegisterFault, Entries, Deliveries, register, unsigned, RegisterStory, delivery_of, RegisterServes, entries_of, entry_of_row, row_of, rows_left, rows_added, rows_of_ledger}
use Rattle.ledger.proofs.StoryLaws.{story_append}

push_in : (b : Bool) (e : Entry Request (List ℕ)) (xs ys : Entries) → cond b (e ∷ xs ++ ys) (xs ++ ys) ≡ cond b (e ∷ xs) xs ++ ys
push_in true e xs ys = refl
push_in false e xs ys = refl

-- the ledger of rows and more rows
pub entries_append : (xs ys : List Row) → entries_of (xs ++ ys) ≡ entries_of xs ++ entries_of ys
entries_append [] ys = refl
entries_append (x ∷ xs) ys = ap (λ l. cond (is_of RegisterTable 0 x) (entry_of_row x ∷ l) l) (entries_append xs ys) ∙ push_in (is_of RegisterTable 0 x) (entry_of_row x) (entries_of xs) (entries_of ys)

entries_left : (asked : Asked) (left : Option (List ℕ)) → entries_of (rows_left asked left) ≡ left_entry register (asked.reference, asked.bytes) left
entries_left asked None = refl
entries_left asked (Some day) = refl

-- the ledger of the added rows has the entries that the deliveries left
pub added_entries : (ds : Deliveries) → entries_of (rows_added ds) ≡ entries register ds
added_entries [] = refl
added_entries (d ∷ ds) = entries_append (rows_left d.case_of d.left) (rows_added ds) ∙ (λ i. entries_left d.case_of d.left i ++ added_entries ds i)

ledger_step : (asked : Asked) (left : Option (List ℕ)) (rows : List Row) (es : Entries) → rows ≡ rows_of_ledger es → rows_left asked left ++ rows ≡ rows_of_ledger (left_entry register (asked.reference, asked.bytes) left ++ es)
ledger_step asked None rows es h = h
ledger_step asked (Some day) rows es h = ap (λ (l : List Row). row_of asked.reference asked.bytes day ∷ l) h

-- the added rows are those of the entries that the deliveries left
pub added_rows : (ds : Deliveries) → rows_added ds ≡ rows_of_ledger (entries register ds)
added_rows [] = refl
added_rows (d ∷ ds) = ledger_step d.case_of d.left (rows_added ds) (entries register ds) (added_rows ds)

pub rows_added-append : (xs ys : Deliveries) → rows_added (xs ++ ys) ≡ rows_added xs ++ rows_added ys
rows_added-append xs ys = flat_map-append (λ (d : Delivery Asked (List ℕ) Rule RegisterFault). rows_left d.case_of d.left) xs ys

-- ---- deliveries over told rows, one list after another

-- the deliveries go on the story of the rows before them, and add their rows
abbrev pub GoesOn : Deliveries → List Row → List Row → Type 0
GoesOn ds before after = RegisterStory (entries_of before) ds × (after ≡ before ++ rows_added ds)

pub goes_on : (xs ys : Deliveries) (before middle after : List Row) → GoesOn xs before middle → GoesOn ys middle after → GoesOn (xs ++ ys) before after
goes_on xs ys before middle after p q =
    let now : entries_of middle ≡ entries_of before ++ entries register xs = ap entries_of p.1 ∙ entries_append before (rows_added xs) ∙ ap (λ (l : Entries). entries_of before ++ l) (added_entries xs) in (
      story_append register unsigned (entries_of before) xs ys p.0 (subst (λ (l : Entries). RegisterStory l ys) now q.0),
      q.1 ∙ ap (λ l. l ++ rows_added ys) p.1 ∙ append_assoc before (rows_added xs) (rows_added ys) ∙ ap (λ l. before ++ l) (sym (rows_added-append xs ys)),
    )

-- where the rows were empty, the deliveries are one story, and the rows are its ledger
pub from_nothing : (ds : Deliveries) (after : List Row) → GoesOn ds [] after → RegisterStory [] ds × (after ≡ rows_of_ledger (entries register ds))
from_nothing ds after h = (h.0, h.1 ∙ added_rows ds)

-- ---- want of memory may follow whatever a delivery did

pub decides_unheard : (es : Entries) (asked : Asked) (counts : ℕ × ℕ) (outcome : Outcome (List ℕ) Rule RegisterFault) (left : Option (List ℕ)) → Decides register unsigned es (delivery_of asked counts outcome left) → Decides register unsigned es (delivery_of asked counts NoMemory left)
decides_unheard es asked counts outcome None d = record { left = tt; told = tt }
decides_unheard es asked counts outcome (Some day) d =
    let a : Adds register unsigned es (delivery_of asked counts outcome (Some day)) day = d.left in
    record { left = record { new = a.new; number = a.number; allowed = a.allowed; body = a.body; signed = a.signed; told = tt }; told = tt }

pub unheard : (before after : List Row) (asked : Asked) (counts : ℕ × ℕ) (outcome : Outcome (List ℕ) Rule RegisterFault) → RegisterServes before after asked counts outcome → RegisterServes before after asked counts NoMemory
unheard before after asked counts outcome s = record { left = s.left; decides = decides_unheard (entries_of before) asked counts outcome s.left s.decides; rows = s.rows }
