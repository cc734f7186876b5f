-- The register's look-ups by key agree with its ledger.
use Rattle.std.proofs.Common.{◌≡◌, ℕ, suc, ◌<◌, ◌≤◌, Bool, true, false, cond, List, [], ◌∷◌, length, Some, None, refl, sym, ap, ◌∙◌, arith, true≢false}
use Rattle.std.proofs.lemmas.Bool.{le-leb, lt-leb}
use Rattle.std.specs.Prelude.{◌&&◌, ◌||◌, not, nat_le}
use Rattle.std.specs.List.{list_all}
use Rattle.std.specs.declared.option.Option.{Option}
use Rattle.keeper.specs.declared.rows.Row.{Row}
use Rattle.keeper.specs.declared.rows.Part.{Part}
use Rattle.keeper.specs.declared.rows.Table.TheVariants.{Register as RegisterTable}
use Rattle.std.specs.Str.{bytes_eq}
use Rattle.keeper.specs.Rows.{is_of, row_at, rows_of, kept_row, most_rows, UniqueKeys}
use Rattle.eac_base.proofs.EqualBytes.{bytes_eq-true, bytes_eq-self}
use Rattle.keeper.proofs.UniqueRows.{unique_parts}
use Rattle.keeper.proofs.SettledRows.{same_key}
use Rattle.issue_core.specs.declared.rule.Rule.TheVariants.{Used, Full}
use Rattle.ledger.specs.Ledger.{Entry, faces, kept_for, IsUnused}
use Rattle.issue_core.specs.Registering.Desk.{Request, Asked, Entries, register, has_other_bytes, register_rule, entries_of, entry_of_row, bytes_of, day_of}

-- no entry has this reference
abbrev lacks : Entries → List ℕ → Bool
lacks ledger reference = list_all (λ (e : Entry Request (List ℕ)). not (bytes_eq e.query.0 reference)) ledger

-- no two entries have one reference
abbrev pub IsLedger : Entries → Type 0
IsLedger [] = Unit {0}
IsLedger (e ∷ es) = (lacks es e.query.0 ≡ true) × IsLedger es

-- ---- tests

lacking : (s k l u : Bool) (p : List ℕ) (h : Option (List ℕ)) → not s && l ≡ true → (l ≡ true → (h ≡ None) × (u ≡ false)) → (cond (s && k) (Some p) h ≡ None) × ((s && not k) || u ≡ false)
lacking true k l u p h e f = absurd (true≢false (sym e))
lacking false k l u p h e f = f e

differing : (s k u : Bool) (p : List ℕ) (h : Option (List ℕ)) → s ≡ true → k ≡ false → h ≡ None → (cond (s && k) (Some p) h ≡ None) × ((s && not k) || u ≡ true)
differing true false u p h a b c = (c, refl)
differing true true u p h a b c = absurd (true≢false b)
differing false k u p h a b c = absurd (true≢false (sym a))

passing : (s k u : Bool) (p : List ℕ) (h : Option (List ℕ)) → s ≡ false → (h ≡ None) × (u ≡ true) → (cond (s && k) (Some p) h ≡ None) × ((s && not k) || u ≡ true)
passing true k u p h a b = absurd (true≢false a)
passing false k u p h a b = b

taking : (s k : Bool) (p : List ℕ) (h : Option (List ℕ)) → s ≡ true → k ≡ true → cond (s && k) (Some p) h ≡ Some p
taking true true p h a b = refl
taking true false p h a b = absurd (true≢false (sym b))
taking false k p h a b = absurd (true≢false (sym a))

skipping : (s k : Bool) (p : List ℕ) (h : Option (List ℕ)) → s ≡ false → cond (s && k) (Some p) h ≡ h
skipping true k p h a = absurd (true≢false a)
skipping false k p h a = refl

-- ---- no entry has the reference

pub lacks_both : (es : Entries) (q : Request) → lacks es q.0 ≡ true → (kept_for register es q ≡ None) × (has_other_bytes (faces register es) q ≡ false)
lacks_both [] q e = (refl, refl)
lacks_both (x ∷ es) q e = lacking (bytes_eq x.query.0 q.0) (bytes_eq x.query.1 q.1) (lacks es q.0) (has_other_bytes (faces register es) q) x.product (kept_for register es q) e (lacks_both es q)

lacks_one : (s l : Bool) → not s && l ≡ true → (s ≡ false) × (l ≡ true)
lacks_one true l e = absurd (true≢false (sym e))
lacks_one false l e = (refl, e)

pub unused : (es : Entries) (reference : List ℕ) → lacks es reference ≡ true → IsUnused register es reference
unused [] reference e = tt
unused (x ∷ es) reference e =
    let h = lacks_one (bytes_eq x.query.0 reference) (lacks es reference) e in
    ((λ (same : x.query.0 ≡ reference). true≢false (sym (bytes_eq-self x.query.0) ∙ ap (bytes_eq x.query.0) same ∙ h.0)), unused es reference h.1)

lacks_here : (s : Bool) (row : Row) (rest : Option Row) (l : Bool) → cond s (Some row) rest ≡ None → (rest ≡ None → l ≡ true) → not s && l ≡ true
lacks_here true row rest l e h = absurd (cc)
lacks_here false row rest l e h = h e

lacks_step : (o : Bool) (row : Row) (rest : Option Row) (es : Entries) (reference : List ℕ) → cond (o && bytes_eq row.reference reference) (Some row) rest ≡ None → (rest ≡ None → lacks es reference ≡ true) → lacks (cond o (entry_of_row row ∷ es) es) reference ≡ true
lacks_step true row rest es reference e h = lacks_here (bytes_eq row.reference reference) row rest (lacks es reference) e h
lacks_step false row rest es reference e h = h e

pub none_lacks : (rows : List Row) (reference : List ℕ) → row_at RegisterTable 0 reference rows ≡ None → lacks (entries_of rows) reference ≡ true
none_lacks [] reference e = refl
none_lacks (row ∷ rows) reference e = lacks_step (is_of RegisterTable 0 row) row (row_at RegisterTable 0 reference rows) (entries_of rows) reference e (none_lacks rows reference)

-- ---- the number of rows is that of entries

count_step : (o : Bool) (row : Row) (xs : List Row) (es : Entries) → length xs ≡ length es → length (cond o (row ∷ xs) xs) ≡ length (cond o (entry_of_row row ∷ es) es)
count_step true row xs es e = ap suc e
count_step false row xs es e = e

pub count_is : (rows : List Row) → length (rows_of RegisterTable 0 rows) ≡ length (entries_of rows)
count_is [] = refl
count_is (row ∷ rows) = count_step (is_of RegisterTable 0 row) row (rows_of RegisterTable 0 rows) (entries_of rows) (count_is rows)

pub faces_length : (es : Entries) → length (faces register es) ≡ length es
faces_length [] = refl
faces_length (e ∷ es) = omega (arith, faces_length es)

-- ---- the row of the reference is the one entry with it

abbrev pub Seen : Entries → List ℕ → List ℕ → Part → Type 0
Seen es reference bytes part = (bytes_eq (bytes_of part) bytes ≡ true → kept_for register es (reference, bytes) ≡ Some (day_of part)) × (bytes_eq (bytes_of part) bytes ≡ false → (kept_for register es (reference, bytes) ≡ None) × (has_other_bytes (faces register es) (reference, bytes) ≡ true))

seen_here : (s : Bool) (r row : Row) (rest : Option Row) (es : Entries) (reference bytes : List ℕ) → bytes_eq r.reference reference ≡ s → cond s (Some r) rest ≡ Some row → (lacks es r.reference ≡ true) × IsLedger es → (rest ≡ Some row → IsLedger es → Seen es reference bytes row.part) → Seen (entry_of_row r ∷ es) reference bytes row.part
seen_here true r row rest es reference bytes is e ledger h =
    let same : r ≡ row = cc in
    let here = bytes_eq-true r.reference reference is in
    let bytes_same : bytes_eq (bytes_of r.part) bytes ≡ bytes_eq (bytes_of row.part) bytes = ap (λ (x : Row). bytes_eq (bytes_of x.part) bytes) same in (
      λ k. taking (bytes_eq r.reference reference) (bytes_eq (bytes_of r.part) bytes) (day_of r.part) (kept_for register es (reference, bytes)) is (bytes_same ∙ k) ∙ ap (λ (x : Row). Some (day_of x.part)) same,
      λ k. differing (bytes_eq r.reference reference) (bytes_eq (bytes_of r.part) bytes) (has_other_bytes (faces register es) (reference, bytes)) (day_of r.part) (kept_for register es (reference, bytes)) is (bytes_same ∙ k) (lacks_both es (reference, bytes) (ap (lacks es) (sym here) ∙ ledger.0)).0,
    )
seen_here false r row rest es reference bytes is e ledger h =
    let later = h e ledger.1 in (
      λ k. skipping (bytes_eq r.reference reference) (bytes_eq (bytes_of r.part) bytes) (day_of r.part) (kept_for register es (reference, bytes)) is ∙ later.0 k,
      λ k. passing (bytes_eq r.reference reference) (bytes_eq (bytes_of r.part) bytes) (has_other_bytes (faces register es) (reference, bytes)) (day_of r.part) (kept_for register es (reference, bytes)) is (later.1 k),
    )

seen_step : (o : Bool) (r row : Row) (rest : Option Row) (es : Entries) (reference bytes : List ℕ) → cond (o && bytes_eq r.reference reference) (Some r) rest ≡ Some row → IsLedger (cond o (entry_of_row r ∷ es) es) → (rest ≡ Some row → IsLedger es → Seen es reference bytes row.part) → Seen (cond o (entry_of_row r ∷ es) es) reference bytes row.part
seen_step true r row rest es reference bytes e ledger h = seen_here (bytes_eq r.reference reference) r row rest es reference bytes refl e ledger h
seen_step false r row rest es reference bytes e ledger h = h e ledger

pub seen : (rows : List Row) (reference bytes : List ℕ) (row : Row) → row_at RegisterTable 0 reference rows ≡ Some row → IsLedger (entries_of rows) → Seen (entries_of rows) reference bytes row.part
seen [] reference bytes row e ledger = absurd (cc)
seen (r ∷ rs) reference bytes row e ledger = seen_step (is_of RegisterTable 0 r) r row (row_at RegisterTable 0 reference rs) (entries_of rs) reference bytes e ledger (seen rs reference bytes row)

-- ---- the rule that is broken

pub used_rule : (es : List (Request × List ℕ)) (asked : Asked) → has_other_bytes es (asked.reference, asked.bytes) ≡ true → register_rule es asked ≡ Some Used
used_rule es asked e = ap (λ b. cond b (Some Used) (cond (nat_le most_rows (length es)) (Some Full) None)) e

pub full_rule : (es : List (Request × List ℕ)) (asked : Asked) → has_other_bytes es (asked.reference, asked.bytes) ≡ false → most_rows ≤ length es → register_rule es asked ≡ Some Full
full_rule es asked e full = ap (λ b. cond b (Some Used) (cond (nat_le most_rows (length es)) (Some Full) None)) e ∙ ap (λ b. cond b (Some Full) None) (le-leb most_rows (length es) full)

pub no_rule : (es : List (Request × List ℕ)) (asked : Asked) → has_other_bytes es (asked.reference, asked.bytes) ≡ false → length es < most_rows → register_rule es asked ≡ None
no_rule es asked e room = ap (λ b. cond b (Some Used) (cond (nat_le most_rows (length es)) (Some Full) None)) e ∙ ap (λ b. cond b (Some Full) None) (lt-leb most_rows (length es) room)

pub face_count : (rows : List Row) → length (rows_of RegisterTable 0 rows) ≡ length (faces register (entries_of rows))
face_count rows = count_is rows ∙ sym (faces_length (entries_of rows))

-- ---- rows with unique keys are a ledger

unique_step : (o : Bool) (row : Row) (rows : List Row) → is_of RegisterTable 0 row ≡ o → kept_row row rows ≡ None → IsLedger (entries_of rows) → IsLedger (cond o (entry_of_row row ∷ entries_of rows) (entries_of rows))
unique_step true row rows is e h = (none_lacks rows row.reference (sym (same_key RegisterTable 0 row.reference row (λ i. is i && bytes_eq-self row.reference i) rows) ∙ e), h)
unique_step false row rows is e h = h

pub unique_ledger : (rows : List Row) → UniqueKeys rows → IsLedger (entries_of rows)
unique_ledger [] u = tt
unique_ledger (row ∷ rows) u = let parts = unique_parts row rows u in unique_step (is_of RegisterTable 0 row) row rows refl parts.0 (unique_ledger rows parts.1)
