-- One row more in a store that is told.
use Rattle.std.proofs.Common.{◌≡◌, ℕ, List, [], ◌∷◌, ◌++◌, Some, None, refl}
use Rattle.sqlite.specs.State.{State}
use Rattle.holder_reference.specs.Reference.{holder_part}
use Rattle.keeper.specs.declared.rows.Row.{Row}
use Rattle.keeper.specs.Rows.{kept_row, kind_of, table_of}
use Rattle.keeper.proofs.UniqueRows.{unique_more}
use Rattle.keeper_sqlite.specs.ReadingOrder.{read_stored}
use Rattle.keeper_sqlite.specs.Kept.{HoldsRows, HoldsMore}
use Rattle.keeper_sqlite.specs.Holding.{Holding, Reaches}
use Rattle.keeper_sqlite.proofs.Decoding.{stores_more}

module _ (old new : State) (rows : List Row) (row : Row) (h : Holding old rows) where
  pub as_before : HoldsRows h.entries new → Reaches new (λ after. after ≡ rows)
  as_before keeps = record { after = rows; holds = record { entries = h.entries; holds = keeps; stores = h.stores; unique = h.unique }; does = refl }

  pub one_more : (body : List ℕ) → kept_row row rows ≡ None → read_stored (table_of row.part) body ≡ Some row.part
      → HoldsMore h.entries (kind_of (table_of row.part)) row.desk (holder_part row.reference) row.reference body new → Reaches new (λ after. after ≡ rows ++ row ∷ [])
  one_more body absent again more = record {
    after = rows ++ row ∷ [];
    holds = record {
      entries = _;
      holds = more.holds;
      stores = stores_more h.entries rows _ row h.stores (record { kind = refl; desk = refl; holder = refl; reference = refl; body = again });
      unique = unique_more rows row h.unique absent;
    };
    does = refl;
  }
