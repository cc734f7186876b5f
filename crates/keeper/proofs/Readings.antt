-- Readings of a plain list, step by step.
use Rattle.std.proofs.Common.{◌≡◌, ℕ, suc, Bool, true, false, cond, List, [], ◌∷◌, Some, None, Ok, Err, refl, sym, ap, ◌∙◌, subst, arith, Bor}
use Rattle.std.specs.Prelude.{◌&&◌, filter, IfErr, IfSome}
use Rattle.std.specs.Option.{option_copied}
use Rattle.std.specs.declared.option.Option.{Option}
use Rattle.std.specs.List.{All}
use Rattle.std.proofs.lemmas.List.Elements.{filter_passes, All-filter}
use Rattle.keeper.specs.declared.rows.Row.{Row}
use Rattle.keeper.specs.declared.rows.Table.{Table}
use Rattle.std.specs.declared.result.Result.{Result}
use Rattle.keeper.specs.declared.keeping.KeepRefusal.{KeepRefusal}
use Rattle.keeper.specs.declared.keeping.KeepRefusal.TheVariants.{NoMemory}
use Rattle.keeper.specs.Rows.{is_of, is_of_holder, has_key, row_at, rows_of, holder_rows, IsStorable}
use Rattle.keeper.specs.Keeping.{ReadingRefused, Gives, IsGivenAs, IsAsked, IsDeskRow, IsHolderRow}

-- ---- filters

both_step : {X : Type 0} (a b : Bool) (x : X) (q : X → Bool) (xs ys : List X) → q x ≡ b → ys ≡ filter q xs → cond (a && b) (x ∷ ys) ys ≡ filter q (cond a (x ∷ xs) xs)
both_step true true x q xs ys e h = (λ i. x ∷ h i) ∙ ap (λ c. cond c (x ∷ filter q xs) (filter q xs)) (sym e)
both_step true false x q xs ys e h = h ∙ ap (λ c. cond c (x ∷ filter q xs) (filter q xs)) (sym e)
both_step false b x q xs ys e h = h

filter_both : {X : Type 0} (p q : X → Bool) (xs : List X) → filter (λ x. p x && q x) xs ≡ filter q (filter p xs)
filter_both p q [] = refl
filter_both p q (x ∷ xs) = both_step (p x) (q x) x q (filter p xs) (filter (λ x. p x && q x) xs) refl (filter_both p q xs)

-- the rows of a desk and of a holder at once
pub both_filters : (table : Table) (desk : ℕ) (holder : List ℕ) (rows : List Row) → filter (λ row. is_of table desk row && is_of_holder holder row) rows ≡ holder_rows table desk holder rows
both_filters table desk holder rows = filter_both (is_of table desk) (is_of_holder holder) rows

-- ---- what the rows that are given meet

pub desk_asked : (table : Table) (desk : ℕ) (rows : List Row) → All IsStorable rows → All (IsDeskRow table desk) (rows_of table desk rows)
desk_asked table desk rows h = λ k d within. (filter_passes (is_of table desk) rows k d within, All-filter (is_of table desk) IsStorable rows h k d within)

pub holder_asked : (table : Table) (desk : ℕ) (holder : List ℕ) (rows : List Row) → All IsStorable rows → All (IsHolderRow table desk holder) (holder_rows table desk holder rows)
holder_asked table desk holder rows h = λ k d within. (
  filter_passes (is_of_holder holder) (rows_of table desk rows) k d within,
  All-filter (is_of_holder holder) (IsDeskRow table desk) (rows_of table desk rows) (desk_asked table desk rows h) k d within,
)

-- ---- what a reading answers

only_memory : (refusal : KeepRefusal) → refusal ≡ NoMemory → ReadingRefused refusal
only_memory refusal e = subst ReadingRefused (sym e) tt

pub gives_asked : {T : Type 0} (P : T → Type 0) (said : T) (result : Result T KeepRefusal) → P said → Gives said result → IfErr result (λ refusal. refusal ≡ NoMemory) → IsGivenAs P result
gives_asked P said (Ok given) p g own = subst P (sym g) p
gives_asked P said (Err refusal) p g own = only_memory refusal own

pub gives_same : {T : Type 0} (one other : T) → one ≡ other → (result : Result T KeepRefusal) → Gives one result → Gives other result
gives_same one other e (Ok given) g = g ∙ e
gives_same one other e (Err refusal) g = tt

-- ---- the row of a key

module _ (table : Table) (desk : ℕ) (reference : List ℕ) where
  asked_step : (b : Bool) (row : Row) (rest : Option Row) → has_key table desk reference row ≡ b → IsStorable row → IfSome rest (IsAsked table desk reference) → IfSome (cond b (Some row) rest) (IsAsked table desk reference)
  asked_step true row rest e s h = (e, s)
  asked_step false row rest e s h = h

  found_asked : (rows : List Row) → All IsStorable rows → IfSome (row_at table desk reference rows) (IsAsked table desk reference)
  found_asked [] all = tt
  found_asked (row ∷ rows) all = asked_step (has_key table desk reference row) row (row_at table desk reference rows) refl (all 0 row (omega arith)) (found_asked rows (λ k d within. all (suc k) d (omega (arith, within))))

  copied_so : (P : Row → Type 0) (result : Option (Bor Row)) (found : Option Row) → option_copied result ≡ found → IfSome found P → IfSome result (λ row. P row.now)
  copied_so P None found e h = tt
  copied_so P (Some row) found e h = subst (λ o. IfSome o P) (sym e) h

  pub lent_asked : (rows : List Row) (result : Option (Bor Row)) → All IsStorable rows → option_copied result ≡ row_at table desk reference rows → IfSome result (λ row. IsAsked table desk reference row.now)
  lent_asked rows result all e = copied_so (IsAsked table desk reference) result (row_at table desk reference rows) e (found_asked rows all)
