-- The table of the keeper.
use Rattle.sqlite.specs.Collation.TheVariants.{Binary}
use Rattle.std.specs.Prelude.{true, [], ◌∷◌, Some, None, codes, List, ℕ, ℤ, pos, ◌≡◌, Bool, ◌&&◌, map, filter, ◌++◌, IsTrue, false}
use Rattle.sqlite.specs.declared.types.Value.TheVariants.{Null, Int, Blob as Bytes}
use Rattle.std.specs.Ordering.{int_eq, is_eq}
use Rattle.sqlite_typed.specs.Tests.{bytes_cmp}
use Rattle.sqlite_keyed.specs.Keyed.{IsKeyedBy}
use Rattle.sqlite_keyed.specs.Lists.{update_where}
use Rattle.sqlite.specs.Order.{Row}
use Rattle.sqlite.specs.Effect.{Database}
use Rattle.sqlite.specs.State.{State, HasCleanDisk}
use Rattle.sqlite.specs.Tree.{put_row}
use Rattle.sqlite.specs.Edit.{at_least, next_rowid}
use Rattle.sqlite.specs.Rowids.TheVariants.{Above}
use Rattle.sqlite.specs.Table.{Table}
use Rattle.sqlite.specs.Schema.{Schema}
use Rattle.sqlite.specs.Change.{created}
use Rattle.sqlite_schema.specs.declared.schema.Column.{Column}
use Rattle.sqlite.specs.Kind.{Kind}
use Rattle.sqlite.specs.Kind.TheVariants.{Integer, Any}

abbrev pub create_text : List ℕ
create_text = codes "CREATE TABLE kept (place INTEGER PRIMARY KEY AUTOINCREMENT, kind INTEGER NOT NULL, "
    ++ codes "desk INTEGER NOT NULL, holder BLOB NOT NULL, reference BLOB NOT NULL, "
    ++ codes "body BLOB NOT NULL, UNIQUE (kind, desk, reference))"

-- a column with no default, whose values are compared as they stand
abbrev pub column_of : List ℕ → Kind → Bool → Column
column_of name kind not_null =
    record { name = name; kind = kind; is_strict = false; not_null = not_null; default = Null; collation = Binary }

abbrev pub kept : Table
kept = record {
  name = codes "kept";
  tree = 0;
  columns = column_of (codes "place") Integer false ∷ column_of (codes "kind") Integer true
      ∷ column_of (codes "desk") Integer true ∷ column_of (codes "holder") Any true
      ∷ column_of (codes "reference") Any true ∷ column_of (codes "body") Any true ∷ [];
  key = Some 0;
  primary = 0 ∷ [];
  uniques = (2 ∷ 3 ∷ 5 ∷ []) ∷ [];
  orders = (record { digits = 0 }) ∷ [];
  checks = [];
  references = [];
  computed = [];
  stamps = record { places = []; terms = []; formats = [] };
  is_counted = true;
}

abbrev pub no_schema : Schema
no_schema = record { tables = []; indexes = []; views = [] }

abbrev pub kept_schema : Schema
kept_schema = record { tables = kept ∷ []; indexes = []; views = [] }

-- SQLite's own table, which counts the places
abbrev pub counters : Table
counters = record {
  name = codes "sqlite_sequence";
  tree = 0;
  columns = column_of (codes "name") Any false ∷ column_of (codes "seq") Any false ∷ [];
  key = None;
  primary = [];
  uniques = [];
  orders = [];
  checks = [];
  references = [];
  computed = [];
  stamps = record { places = []; terms = []; formats = [] };
  is_counted = false;
}

abbrev pub whole_schema : Schema
whole_schema = created (created no_schema kept) counters

abbrev pub insert_text : List ℕ
insert_text = codes "INSERT INTO kept (kind, desk, holder, reference, body) VALUES (?1, ?2, ?3, ?4, ?5)"

abbrev pub update_text : List ℕ
update_text = codes "UPDATE kept SET body = ?4 WHERE kind = ?1 AND desk = ?2 AND reference = ?3"

abbrev pub find_text : List ℕ
find_text = codes "SELECT reference, body FROM kept WHERE kind = ?1 AND desk = ?2 AND reference = ?3"

abbrev pub of_desk_text : List ℕ
of_desk_text = codes "SELECT reference, body FROM kept WHERE kind = ?1 AND desk = ?2 ORDER BY place"

abbrev pub of_holder_text : List ℕ
of_holder_text = codes "SELECT reference, body FROM kept WHERE kind = ?1 AND desk = ?2 AND holder = ?3 ORDER BY place"

abbrev pub count_text : List ℕ
count_text = codes "SELECT COUNT(*) FROM kept WHERE kind = ?1 AND desk = ?2"

-- the row that is written: the rowid, nothing for the rowid's column, and the five values
abbrev pub stored : ℤ → ℤ → ℤ → List ℕ → List ℕ → List ℕ → Row
stored id kind desk holder reference body =
    Int id ∷ Null ∷ Int kind ∷ Int desk ∷ Bytes holder ∷ Bytes reference ∷ Bytes body ∷ []

-- the table is there and has no row
pub record IsMade (db : Database) : Type 0 where
  pub schema : db.schema ≡ whole_schema
  pub rows : db.trees 0 ≡ []

-- one row more, at a place that is new
pub record IsPut (kind desk : ℤ) (holder reference body : List ℕ) (old new : Database) : Type 0 where
  pub schema : new.schema ≡ whole_schema
  pub top : ℤ
  pub rows : new.trees 0
      ≡ put_row (stored (at_least (Above top) (next_rowid (old.trees 0))) kind desk holder reference body) (old.trees 0)

-- ---- the rows as a list of entries, in the order of their places
pub record Entry : Type 0 where
  pub place : ℤ
  pub kind : ℕ
  pub desk : ℕ
  pub holder : List ℕ
  pub reference : List ℕ
  pub body : List ℕ

abbrev pub encode : Entry → Row
encode e = stored e.place (pos e.kind) (pos e.desk) e.holder e.reference e.body

abbrev pub shown : Entry → Row
shown e = Bytes e.reference ∷ Bytes e.body ∷ []

abbrev pub is_at : ℕ → ℕ → Entry → Bool
is_at kind desk e = int_eq (pos e.kind) (pos kind) && int_eq (pos e.desk) (pos desk)

-- an entry of this key
abbrev pub is_row : ℕ → ℕ → List ℕ → Entry → Bool
is_row kind desk reference e =
    int_eq (pos e.kind) (pos kind) && (int_eq (pos e.desk) (pos desk) && is_eq (bytes_cmp e.reference reference))

-- an entry of this table, desk and holder
abbrev pub is_for : ℕ → ℕ → List ℕ → Entry → Bool
is_for kind desk holder e =
    int_eq (pos e.kind) (pos kind) && (int_eq (pos e.desk) (pos desk) && is_eq (bytes_cmp e.holder holder))

-- the entry with another body
abbrev pub with_body : List ℕ → Entry → Entry
with_body body e = record e { body = body }

pub record Keeps (entries : List Entry) (db : Database) : Type 0 where
  pub schema : db.schema ≡ whole_schema
  pub rows : db.trees 0 ≡ map encode entries
  pub keyed : IsKeyedBy (λ e. e.place) entries

abbrev pub entry : ℤ → ℕ → ℕ → List ℕ → List ℕ → List ℕ → Entry
entry place kind desk holder reference body =
    record { place = place; kind = kind; desk = desk; holder = holder; reference = reference; body = body }

-- one entry more at the end
pub record Appended (entries : List Entry) (kind desk : ℕ) (holder reference body : List ℕ) (new : Database)
    : Type 0 where
  pub place : ℤ
  pub kept : Keeps (entries ++ entry place kind desk holder reference body ∷ []) new

-- ---- what a keeper over a connection tells

-- nothing else has written, the disk returned what was written, and the store is open
abbrev pub IsTold : State → Type 0
IsTold s = HasCleanDisk s × IsTrue s.is_open

-- these entries are there and committed, and no transaction is open
pub record HoldsRows (entries : List Entry) (s : State) : Type 0 where
  pub autocommit : s.in_transaction ≡ false
  pub schema : s.committed.schema ≡ whole_schema
  pub settled : s.committed.trees 0 ≡ s.now.trees 0
  pub kept : Keeps entries s.now

-- the same, with one more at the end
pub record HoldsMore (entries : List Entry) (kind desk : ℕ) (holder reference body : List ℕ) (s : State) : Type 0 where
  pub place : ℤ
  pub holds : HoldsRows (entries ++ entry place kind desk holder reference body ∷ []) s

-- where the store is told afterwards, this is said of the entries that it held before
abbrev pub WhereTold : State → State → (List Entry → Type 0) → Type 0
WhereTold old new P = IsTold new → (entries : List Entry) → HoldsRows entries old → P entries

-- the entries are as before
abbrev pub EntriesStay : State → State → Type 0
EntriesStay old new = WhereTold old new (λ entries. HoldsRows entries new)

-- the entries of this key have this body
abbrev pub bodied : ℕ → ℕ → List ℕ → List ℕ → List Entry → List Entry
bodied kind desk reference body entries = update_where (is_row kind desk reference) (with_body body) entries

-- the rows that a look-up for a key gave: that of the one entry of the key, or none
pub record Looked (entries : List Entry) (kind desk : ℕ) (reference : List ℕ) (rows : List Row) : Type 0 where
  pub one : (e : Entry) → filter (is_row kind desk reference) entries ≡ e ∷ [] → rows ≡ shown e ∷ []
  pub none : filter (is_row kind desk reference) entries ≡ [] → rows ≡ []
