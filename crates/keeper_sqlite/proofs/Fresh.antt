-- A database over a file that was made anew: it has no table.
use Rattle.std.proofs.Common.{◌≡◌, List, [], ◌∷◌, inl, inr, refl, ap, subst, ◌∙◌, arith}
use Rattle.std.specs.List.{AllZip}
use Rattle.sqlite_catalog.specs.Listing.{IsTableRow, IsIndexRow, IsViewRow, Lists}
use Rattle.sqlite_trees.specs.Objects.{catalog_tree}
use Rattle.sqlite_wal.specs.Recovery.{Image}
use Rattle.sqlite.specs.Schema.{Schema}
use Rattle.sqlite.specs.Effect.{Database}
use Rattle.sqlite.specs.State.{State, IsLive, Opens}
use Rattle.sqlite.specs.Start.{FindsIn}
use Rattle.keeper_sqlite.specs.Kept.{no_schema}

nothing_zipped : {A B : Type 0} (R : A → B → Type 0) (ys : List B) → AllZip R [] ys → ys ≡ []
nothing_zipped R [] h = refl
nothing_zipped R (y ∷ ys) h = absurd h

lists_nothing : (schema : Schema) → Lists [] schema → schema ≡ no_schema
lists_nothing schema h =
    let t = nothing_zipped IsTableRow schema.tables h.listed.tables in
    let x = nothing_zipped (IsIndexRow schema.tables) schema.indexes h.listed.indexes in
    let v = nothing_zipped IsViewRow schema.views h.listed.views in
    λ i. record { tables = t i; indexes = x i; views = v i }

nothing_found : (image : Image) (s : State) → image.db ≡ [] → FindsIn image s → s.committed.trees catalog_tree ≡ []
nothing_found image s none found = elim found.reads [
  | inl held ↦ absurd (let some = held.3.found.present in omega (arith, rw none at some))
  | inr nothing ↦ nothing.1.1
]

pub no_table : (image : Image) (s : State) → image.db ≡ [] → FindsIn image s → Opens s → IsLive s → s.now.schema ≡ no_schema
no_table image s none found opens live =
    let sound = (live opens.is_open).1 in
    let listed = subst (λ rows. Lists rows s.committed.schema) (nothing_found image s none found) sound.lists in
    ap (λ (d : Database). d.schema) opens.clean ∙ lists_nothing s.committed.schema listed
