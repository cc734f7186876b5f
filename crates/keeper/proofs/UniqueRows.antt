-- A row with a new key keeps the keys unique.
use Rattle.std.proofs.Common.{◌≡◌, ⊎_elim, ℕ, Bool, true, false, cond, List, [], ◌∷◌, ◌++◌, Some, None, Ok, Err, refl, sym, ap, ◌∙◌, subst, true≢false, nat_eq}
use Rattle.std.specs.Prelude.{◌&&◌, not, is_some}
use Rattle.std.proofs.lemmas.Bool.{eqb-true, eq-eqb}
use Rattle.std.specs.declared.option.Option.{Option}
use Rattle.std.specs.declared.result.Result.{Result}
use Rattle.eac_base.proofs.EqualBytes.{bytes_eq-sym}
use Rattle.keeper.specs.declared.rows.Row.{Row}
use Rattle.keeper.specs.declared.rows.Table.{Table}
use Rattle.keeper.specs.declared.keeping.KeepRefusal.{KeepRefusal}
use Rattle.keeper.specs.declared.keeping.KeepRefusal.TheVariants.{Failed, Full, Twice, Absent, NoMemory}
use Rattle.keeper.specs.Rows.{table_of, kind_of, same_table, has_key, row_at, kept_row, are_unique, UniqueKeys}
use Rattle.keeper.specs.Keeping.{Adds, MayAdd}

tell_both : (a b : Bool) → (a ≡ true → b ≡ true) → (b ≡ true → a ≡ true) → a ≡ b
tell_both true b f g = sym (f refl)
tell_both false true f g = g refl
tell_both false false f g = refl

same_number : (x y : ℕ) → nat_eq x y ≡ nat_eq y x
same_number x y = tell_both (nat_eq x y) (nat_eq y x) (λ e. eq-eqb y x (sym (eqb-true x y e))) (λ e. eq-eqb x y (sym (eqb-true y x e)))

table_twice : (t u : Table) → same_table t u ≡ same_table u t
table_twice t u = same_number (kind_of t) (kind_of u)

-- one row's key tried at another
abbrev pub has_own : Row → Row → Bool
has_own a b = has_key (table_of a.part) a.desk a.reference b

own_sym : (a b : Row) → has_own a b ≡ has_own b a
own_sym a b = λ i. (table_twice (table_of b.part) (table_of a.part) i && same_number b.desk a.desk i) && bytes_eq-sym b.reference a.reference i

pub here_none : (b : Bool) (r : Row) (rest : Option Row) → cond b (Some r) rest ≡ None → (b ≡ false) × (rest ≡ None)
here_none true r rest e = absurd (cc)
here_none false r rest e = (refl, e)

none_here : (b : Bool) (r : Row) (rest : Option Row) → b ≡ false → rest ≡ None → cond b (Some r) rest ≡ None
none_here true r rest e f = absurd (true≢false e)
none_here false r rest e f = f

none_more : (table : Table) (desk : ℕ) (reference : List ℕ) (rows : List Row) (row : Row) → row_at table desk reference rows ≡ None → has_key table desk reference row ≡ false → row_at table desk reference (rows ++ row ∷ []) ≡ None
none_more table desk reference [] row e f = none_here (has_key table desk reference row) row None f refl
none_more table desk reference (r ∷ rs) row e f =
    let h = here_none (has_key table desk reference r) r (row_at table desk reference rs) e in
    none_here (has_key table desk reference r) r (row_at table desk reference (rs ++ row ∷ [])) h.0 (none_more table desk reference rs row h.1 f)

none_is : (found : Option Row) → not (is_some found) ≡ true → found ≡ None
none_is None e = refl
none_is (Some row) e = absurd (true≢false (sym e))

is_none : (found : Option Row) → found ≡ None → not (is_some found) ≡ true
is_none None e = refl
is_none (Some row) e = absurd (cc)

pub and_parts : (a b : Bool) → a && b ≡ true → (a ≡ true) × (b ≡ true)
and_parts true b e = (refl, e)
and_parts false b e = absurd (true≢false (sym e))

-- the first row's key is no later one's, and the later ones are unique
pub unique_parts : (row : Row) (rows : List Row) → UniqueKeys (row ∷ rows) → (kept_row row rows ≡ None) × UniqueKeys rows
unique_parts row rows u = let parts = and_parts (not (is_some (kept_row row rows))) (are_unique rows) u in (none_is (kept_row row rows) parts.0, parts.1)

unique_cons : (row : Row) (rows : List Row) → kept_row row rows ≡ None → UniqueKeys rows → UniqueKeys (row ∷ rows)
unique_cons row rows e u = ap (λ b. b && are_unique rows) (is_none (kept_row row rows) e) ∙ u

pub unique_more : (rows : List Row) (row : Row) → UniqueKeys rows → kept_row row rows ≡ None → UniqueKeys (rows ++ row ∷ [])
unique_more [] row u e = unique_cons row [] refl refl
unique_more (r ∷ rs) row u e =
    let h = here_none (has_own row r) r (kept_row row rs) e in
    let parts = unique_parts r rs u in
    unique_cons r (rs ++ row ∷ []) (none_more (table_of r.part) r.desk r.reference rs row parts.0 (own_sym r row ∙ h.0)) (unique_more rs row parts.1 h.1)

pub adds_unique : {U : Type 0} (old new : List Row) (row : Row) (result : Result U KeepRefusal) → Adds old new row result → UniqueKeys old → UniqueKeys new
adds_unique old new row (Ok u) h k = subst UniqueKeys (sym h.1) (unique_more old row k h.0.new)
adds_unique old new row (Err Failed) h k = ⊎_elim (λ (e : new ≡ old). subst UniqueKeys (sym e) k) (λ (e : MayAdd old row × (new ≡ old ++ row ∷ [])). subst UniqueKeys (sym e.1) (unique_more old row k e.0.new)) h
adds_unique old new row (Err Full) h k = subst UniqueKeys (sym h.0) k
adds_unique old new row (Err (Twice kept)) h k = subst UniqueKeys (sym h.0) k
adds_unique old new row (Err Absent) h k = absurd h
adds_unique old new row (Err NoMemory) h k = subst UniqueKeys (sym h) k
