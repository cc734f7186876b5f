-- One entry with another body, in a store that is told.
use Rattle.std.proofs.Common.{◌≡◌, inl, inr, ℕ, Bool, true, false, cond, List, [], ◌∷◌, Some, None, Err, refl, sym, ap, subst, ◌∙◌, true≢false}
use Rattle.sqlite.specs.State.{State}
use Rattle.sqlite_keyed.specs.Lists.{update_where}
use Rattle.keeper.specs.declared.rows.Row.{Row}
use Rattle.keeper.specs.declared.rows.Settled.{Settled}
use Rattle.keeper.specs.declared.rows.Part.{Part}
use Rattle.keeper.specs.declared.rows.Part.TheVariants as parts
use Rattle.keeper.specs.declared.rows.Table.TheVariants.{Own}
use Rattle.keeper.specs.declared.keeping.KeepRefusal.TheVariants.{Failed}
use Rattle.keeper.specs.Rows.{table_of, kind_of, has_key, row_at, settled_part, with_settled, settled_rows, UniqueKeys}
use Rattle.keeper.specs.Keeping.{MaySettle}
use Rattle.keeper.proofs.UniqueRows.{here_none, unique_parts}
use Rattle.keeper.proofs.SettledRows.{same_key, settles_unique}
use Rattle.keeper_sqlite.specs.ReadingOrder.{read_stored}
use Rattle.keeper_sqlite.specs.Kept.{Entry, is_row, with_body, HoldsRows}
use Rattle.keeper_sqlite.specs.ToldRows.{StoredAs, Stores}
use Rattle.keeper_sqlite.specs.Holding.{Holding, Reaches}
use Rattle.keeper_sqlite.proofs.Decoding.{key_is, here_or}

pub still_holding : (old new : State) (rows : List Row) (h : Holding old rows) → HoldsRows h.entries new → Reaches new (λ after. after ≡ rows)
still_holding old new rows h keeps = record { after = rows; holds = record { entries = h.entries; holds = keeps; stores = h.stores; unique = h.unique }; does = refl }

module _ (desk : ℕ) (reference : List ℕ) (settled : Settled) where
  -- each row of the key has this part
  abbrev IsOnly : List Row → Part → Type 0
  IsOnly [] part = Unit {0}
  IsOnly (row ∷ rows) part = (has_key Own desk reference row ≡ true → row.part ≡ part) × IsOnly rows part

  differs : (row : Row) (part : Part) → has_key Own desk reference row ≡ false → has_key Own desk reference row ≡ true → row.part ≡ part
  differs row part other same = absurd (true≢false (sym same ∙ other))

  none_only : (rows : List Row) (part : Part) → row_at Own desk reference rows ≡ None → IsOnly rows part
  none_only [] part e = tt
  none_only (row ∷ rows) part e = let h = here_none (has_key Own desk reference row) row (row_at Own desk reference rows) e in (differs row part h.0, none_only rows part h.1)

  one_only : (rows : List Row) (row : Row) → UniqueKeys rows → row_at Own desk reference rows ≡ Some row → IsOnly rows row.part
  one_only [] row u e = absurd cc
  one_only (r ∷ rows) row u e =
      let others = unique_parts r rows u in
      elim (here_or (has_key Own desk reference r) r (row_at Own desk reference rows) row e) [
        | inl here ↦ ((λ _. ap (λ (x : Row). x.part) here.1), none_only rows row.part (sym (same_key Own desk reference r here.0 rows) ∙ others.0))
        | inr later ↦ (differs r row.part later.0, one_only rows row others.1 later.1)
      ]

  same_table : (p : Part) → table_of (settled_part settled p) ≡ table_of p
  same_table (parts.Register request day) = refl
  same_table (parts.Issued p) = refl
  same_table (parts.Own p) = refl
  same_table (parts.Ca p) = refl

  module _ (body : List ℕ) (new part : Part) (again : read_stored (table_of new) body ≡ Some new) (is : new ≡ settled_part settled part) where
    stored_again : (e : Entry) (row : Row) → StoredAs e row → row.part ≡ part → StoredAs (with_body body e) (with_settled settled row)
    stored_again e row s same = record {
      kind = s.kind ∙ ap kind_of (sym (same_table row.part));
      desk = s.desk;
      holder = s.holder;
      reference = s.reference;
      body = subst (λ p. read_stored (table_of p) body ≡ Some p) (is ∙ ap (settled_part settled) (sym same)) again;
    }

    stored_if : (c : Bool) (e f : Entry) (row other : Row) → (c ≡ true → StoredAs f other) → StoredAs e row → StoredAs (cond c f e) (cond c other row)
    stored_if true e f row other h s = h refl
    stored_if false e f row other h s = s

    replaced : (es : List Entry) (rows : List Row) → Stores es rows → IsOnly rows part → Stores (update_where (is_row (kind_of Own) desk reference) (with_body body) es) (settled_rows desk reference settled rows)
    replaced [] [] s only = tt
    replaced (e ∷ es) (row ∷ rows) s only = (
      subst (λ b. StoredAs (cond b (with_body body e) e) (cond (has_key Own desk reference row) (with_settled settled row) row)) (sym (key_is e row Own desk reference s.0))
          (stored_if (has_key Own desk reference row) e (with_body body e) row (with_settled settled row) (λ key. stored_again e row s.0 (only.0 key)) s.0),
      replaced es rows s.1 only.1,
    )
    replaced [] (row ∷ rows) s only = absurd s
    replaced (e ∷ es) [] s only = absurd s

  pub one_replaced : (old new : State) (rows : List Row) (h : Holding old rows) (may : MaySettle rows desk reference) (body : List ℕ) (part : Part) → read_stored (table_of part) body ≡ Some part → part ≡ settled_part settled may.row.part
      → HoldsRows (update_where (is_row (kind_of Own) desk reference) (with_body body) h.entries) new → Reaches new (λ after. after ≡ settled_rows desk reference settled rows)
  one_replaced old new rows h may body part again is holds = record {
    after = settled_rows desk reference settled rows;
    holds = record {
      entries = update_where (is_row (kind_of Own) desk reference) (with_body body) h.entries;
      holds = holds;
      stores = replaced body part may.row.part again is h.entries rows h.stores (one_only rows may.row h.unique may.there);
      unique = settles_unique desk reference settled {U = ℕ} rows (settled_rows desk reference settled rows) (Err Failed) h.unique (inr (may, refl));
    };
    does = refl;
  }
