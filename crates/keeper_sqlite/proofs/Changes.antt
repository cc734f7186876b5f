-- Changes that begin with a look.
use Rattle.std.proofs.Common.{◌≡◌, inl, ℕ, ◌<◌, ◌≤◌, true, false, List, [], ◌∷◌, ◌++◌, length, Some, None, Ok, Err, Option, Result, sym, ap, subst, ◌∙◌}
use Rattle.std.specs.Prelude.{IfErr}
use Rattle.sqlite.specs.State.{State}
use Rattle.keeper.specs.declared.rows.Row.{Row}
use Rattle.keeper.specs.declared.rows.Part.{Part}
use Rattle.keeper.specs.declared.rows.Settled.{Settled}
use Rattle.keeper.specs.declared.rows.Table.{Table}
use Rattle.keeper.specs.declared.rows.Table.TheVariants.{Own}
use Rattle.keeper.specs.declared.keeping.KeepRefusal.{KeepRefusal}
use Rattle.keeper.specs.declared.keeping.KeepRefusal.TheVariants.{Failed, Full, Twice, Absent, NoMemory}
use Rattle.keeper.specs.Rows.{kept_row, rows_beside, row_at, most_rows, is_settled, settled_part, settled_rows}
use Rattle.keeper.specs.Keeping.{Adds, MayAdd, Settles, MaySettle, ReadingRefused}
use Rattle.keeper_sqlite.proofs.Telling.{leads_more, leads_then}
use Rattle.keeper_sqlite.specs.Kept.{IsTold}
use Rattle.keeper_sqlite.specs.Holding.{Holding, Reaches, Leads, Changes}

-- ---- adding

pub refused_adds : (U : Type 0) (e : KeepRefusal) (x y : List Row) (row : Row) → ReadingRefused e → y ≡ x → Adds x y row (let r : Result U KeepRefusal = Err e in r)
refused_adds U Failed x y row h same = inl same
refused_adds U Full x y row h same = absurd h
refused_adds U (Twice kept) x y row h same = absurd h
refused_adds U Absent x y row h same = absurd h
refused_adds U NoMemory x y row h same = same

appends_adds : (U : Type 0) (r : Result U KeepRefusal) (x z : List Row) (row : Row) → IfErr r ReadingRefused → MayAdd x row → Changes x (x ++ row ∷ []) z r → Adds x z row r
appends_adds U (Ok u) x z row refused may change = (may, change)
appends_adds U (Err e) x z row refused may change = refused_adds U e x z row refused change

pub adds_leads : (U : Type 0) (a b c d : State) (row : Row) (r : Result U KeepRefusal) → Leads a b (λ x y. (y ≡ x) × (kept_row row x ≡ None)) → Leads b c (λ x y. (y ≡ x) × (length (rows_beside row x) < most_rows))
    → (IsTold d → IsTold c) → (IsTold d → (rows : List Row) → Holding c rows → kept_row row rows ≡ None → Reaches d (λ after. Changes rows (rows ++ row ∷ []) after r)) → IfErr r ReadingRefused
    → Leads a d (λ x z. Adds x z row r)
adds_leads U a b c d row r found counted told appended refused = record {
  told = λ now. found.told (counted.told (told now));
  rows = λ now rows h.
      let one = found.rows (counted.told (told now)) rows h in
      let two = counted.rows (told now) one.after one.holds in
      let new : kept_row row two.after ≡ None = ap (kept_row row) (two.does.0 ∙ one.does.0) ∙ one.does.1 in
      let three = appended now two.after two.holds new in
      let may : MayAdd two.after row = record { new = new; room = subst (λ (l : List Row). length (rows_beside row l) < most_rows) (sym two.does.0) two.does.1 } in
      let does = appends_adds U r two.after three.after row refused may three.does in
      record { after = three.after; holds = three.holds; does = subst (λ (l : List Row). Adds l three.after row r) (two.does.0 ∙ one.does.0) does };
}

-- ---- settling

pub refused_settles : (U : Type 0) (e : KeepRefusal) (x y : List Row) (desk : ℕ) (reference : List ℕ) (settled : Settled) → ReadingRefused e → y ≡ x → Settles x y desk reference settled (let r : Result U KeepRefusal = Err e in r)
refused_settles U Failed x y desk reference settled h same = inl same
refused_settles U Full x y desk reference settled h same = absurd h
refused_settles U (Twice kept) x y desk reference settled h same = absurd h
refused_settles U Absent x y desk reference settled h same = absurd h
refused_settles U NoMemory x y desk reference settled h same = same

replaces_settles : (U : Type 0) (r : Result U KeepRefusal) (x z : List Row) (desk : ℕ) (reference : List ℕ) (settled : Settled) → IfErr r ReadingRefused → MaySettle x desk reference → Changes x (settled_rows desk reference settled x) z r
    → Settles x z desk reference settled r
replaces_settles U (Ok u) x z desk reference settled refused may change = (may, change)
replaces_settles U (Err e) x z desk reference settled refused may change = refused_settles U e x z desk reference settled refused change

pub settles_leads : (U : Type 0) (a b c : State) (desk : ℕ) (reference : List ℕ) (settled : Settled) (row : Row) (part : Part) (r : Result U KeepRefusal)
    → Leads a b (λ x y. (y ≡ x) × (row_at Own desk reference x ≡ Some row)) → is_settled row.part ≡ false → part ≡ settled_part settled row.part → (IsTold c → IsTold b)
    → (IsTold c → (rows : List Row) → Holding b rows → (may : MaySettle rows desk reference) → (s : Settled) → part ≡ settled_part s may.row.part → Reaches c (λ after. Changes rows (settled_rows desk reference s rows) after r))
    → IfErr r ReadingRefused → Leads a c (λ x z. Settles x z desk reference settled r)
settles_leads U a b c desk reference settled row part r found waits is told replaced refused = record {
  told = λ now. found.told (told now);
  rows = λ now rows h.
      let one = found.rows (told now) rows h in
      let may : MaySettle one.after desk reference = record { row = row; there = ap (row_at Own desk reference) one.does.0 ∙ one.does.1; waits = waits } in
      let two = replaced now one.after one.holds may settled is in
      let does = replaces_settles U r one.after two.after desk reference settled refused may two.does in
      record { after = two.after; holds = two.holds; does = subst (λ (l : List Row). Settles l two.after desk reference settled r) one.does.0 does };
}

-- ---- calls that end with a look

pub found_twice : (a b : State) (t : Table) (desk : ℕ) (reference : List ℕ) (found : Option Row) (kept : Row) → Leads a b (λ x y. (y ≡ x) × (found ≡ row_at t desk reference x)) → found ≡ Some kept
    → Leads a b (λ x y. (y ≡ x) × (row_at t desk reference x ≡ Some kept))
found_twice a b t desk reference found kept leads is = leads_more a b _ _ leads (λ x y p. (p.0, sym p.1 ∙ is))

pub refused_after : (U : Type 0) (a b c : State) (e : KeepRefusal) (P Q : List Row → Type 0) (row : Row) → Leads a b (λ x y. (y ≡ x) × P x) → Leads b c (λ x y. (y ≡ x) × Q x) → ReadingRefused e
    → Leads a c (λ x z. Adds x z row (let r : Result U KeepRefusal = Err e in r))
refused_after U a b c e P Q row first next refused = leads_then a b c _ _ _ first next (λ x y z p q. refused_adds U e x z row refused (q.0 ∙ p.0))

pub full_after : (a b c : State) (count : ℕ) (row : Row) → Leads a b (λ x y. (y ≡ x) × (kept_row row x ≡ None)) → Leads b c (λ x y. (y ≡ x) × (count ≡ length (rows_beside row x))) → most_rows ≤ count
    → Leads a c (λ x z. (z ≡ x) × (kept_row row x ≡ None) × (most_rows ≤ length (rows_beside row x)))
full_after a b c count row first next full =
    leads_then a b c _ _ _ first next (λ x y z p q. (q.0 ∙ p.0, p.1, subst (λ n. most_rows ≤ n) (q.1 ∙ ap (λ (l : List Row). length (rows_beside row l)) p.0) full))

pub none_found : (a b : State) (t : Table) (desk : ℕ) (reference : List ℕ) (found : Option Row) → Leads a b (λ x y. (y ≡ x) × (found ≡ row_at t desk reference x)) → found ≡ None
    → Leads a b (λ x y. (y ≡ x) × (row_at t desk reference x ≡ None))
none_found a b t desk reference found leads is = leads_more a b _ _ leads (λ x y p. (p.0, sym p.1 ∙ is))

pub room_after : (a b : State) (count : ℕ) (row : Row) → Leads a b (λ x y. (y ≡ x) × (count ≡ length (rows_beside row x))) → count < most_rows → Leads a b (λ x y. (y ≡ x) × (length (rows_beside row x) < most_rows))
room_after a b count row counted room = leads_more a b _ _ counted (λ x y p. (p.0, subst (λ n. n < most_rows) p.1 room))

pub settled_twice : (a b : State) (desk : ℕ) (reference : List ℕ) (found : Option Row) (kept : Row) → Leads a b (λ x y. (y ≡ x) × (found ≡ row_at Own desk reference x)) → found ≡ Some kept → is_settled kept.part ≡ true
    → Leads a b (λ x y. (y ≡ x) × (row_at Own desk reference x ≡ Some kept) × (is_settled kept.part ≡ true))
settled_twice a b desk reference found kept leads is settled = leads_more a b _ _ leads (λ x y p. (p.0, sym p.1 ∙ is, settled))
