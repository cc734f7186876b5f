-- The statements, as the database compiles them.
use Rattle.std.proofs.Common.{◌≡◌, ℕ, List, [], ◌∷◌, Ok, refl, pos, negsuc, codes, None, Some, Option, false}
use Rattle.sqlite.specs.declared.types.Value.TheVariants.{Null, Int}
use Rattle.sqlite.specs.Term.{Term, lit, col, op1, op2}
use Rattle.sqlite.specs.Query.{Query, inner, end}
use Rattle.sqlite_sql.specs.Group.{Grouping}
use Rattle.sqlite_sql.specs.declared.aggregate.AggregateOp.TheVariants.{CountRows}
use Rattle.sqlite_value.specs.declared.keys.Key.{Key}
use Rattle.sqlite.specs.Collation.TheVariants.{Binary}
use Rattle.sqlite_sql.specs.declared.ops.BinaryOp.TheVariants.{Compare}
use Rattle.sqlite_sql.specs.declared.ops.CompareOp.TheVariants.{Eq}
use Rattle.sqlite_sql.specs.declared.ops.UnaryOp.TheVariants.{ToNumeric}
use Rattle.sqlite.specs.Source.TheVariants.{Values}
use Rattle.sqlite.specs.Compile.{table_defined_by}
use Rattle.sqlite.specs.Does.{sequence_text}
use Rattle.sqlite.specs.Command.TheVariants.{CreateTable, Insert, Select, Update}
use Rattle.sqlite_tied.specs.Compute.{everything}
use Rattle.sqlite.specs.Listing.{understood}
use Rattle.sqlite.proofs.Callers.{command_of}
use Rattle.keeper_sqlite.specs.Kept.{kept, counters, no_schema, whole_schema, create_text, insert_text, update_text, find_text, of_desk_text, of_holder_text, count_text}

pub create_is : command_of (understood no_schema create_text) ≡ CreateTable
unfolding understood everything
create_is = refl

pub defines : table_defined_by create_text ≡ Ok kept
unfolding understood everything
defines = refl

pub defines_counters : table_defined_by sequence_text ≡ Ok counters
unfolding understood everything
defines_counters = refl

abbrev pub terms : List Term
terms = lit Null ∷ lit Null ∷ col 0 0 ∷ col 0 1 ∷ col 0 2 ∷ col 0 3 ∷ col 0 4 ∷ []

pub insert_is : command_of (understood whole_schema insert_text) ≡ Insert 0 (Values terms 7)
unfolding understood everything
insert_is = refl

abbrev pub base : List Term → Option Grouping → List Term → List (Term × Key) → Query
base filter group project order = record { from = inner 0 end; filter = filter; group = group; project = project; distinct = false; collations = []; order = order; limit = lit (Int (negsuc 0)); offset = lit (Int (pos 0)) }

abbrev pub names : List (List ℕ)
names = codes "reference" ∷ codes "body" ∷ []

-- a number column against a parameter, which is read as a number where it looks like one
abbrev pub same_number : ℕ → ℕ → Term
same_number place param = op2 (Compare Eq Binary) (col 1 place) (op1 ToNumeric (col 0 param))

-- a column of bytes against a parameter
abbrev pub same_bytes : ℕ → ℕ → Term
same_bytes place param = op2 (Compare Eq Binary) (col 1 place) (col 0 param)

pub find_is : command_of (understood whole_schema find_text) ≡ Select (record { lets = []; body = base (same_number 2 0 ∷ same_number 3 1 ∷ same_bytes 5 2 ∷ []) None (col 1 5 ∷ col 1 6 ∷ []) [] }) names
unfolding understood everything
find_is = refl

pub of_desk_is : command_of (understood whole_schema of_desk_text) ≡ Select (record { lets = []; body = base (same_number 2 0 ∷ same_number 3 1 ∷ []) None (col 1 5 ∷ col 1 6 ∷ []) ((col 1 0, record { collation = Binary; descending = false }) ∷ []) }) names
unfolding understood everything
of_desk_is = refl

pub count_is : command_of (understood whole_schema count_text) ≡ Select (record { lets = []; body = base (same_number 2 0 ∷ same_number 3 1 ∷ []) (Some (record { keys = []; collations = []; aggregates = (record { op = CountRows; distinct = false; collation = Binary; argument = lit Null }) ∷ []; having = [] })) (col 1 0 ∷ []) [] }) (codes "COUNT(*)" ∷ [])
unfolding understood everything
count_is = refl

pub update_is : command_of (understood whole_schema update_text) ≡ Update 0 (record { lets = []; body = base (same_number 2 0 ∷ same_number 3 1 ∷ same_bytes 5 2 ∷ []) None (col 1 0 ∷ col 1 0 ∷ lit Null ∷ col 1 2 ∷ col 1 3 ∷ col 1 4 ∷ col 1 5 ∷ col 0 3 ∷ []) [] })
unfolding understood everything
update_is = refl

pub of_holder_is : command_of (understood whole_schema of_holder_text) ≡ Select (record { lets = []; body = base (same_number 2 0 ∷ same_number 3 1 ∷ same_bytes 4 2 ∷ []) None (col 1 5 ∷ col 1 6 ∷ []) ((col 1 0, record { collation = Binary; descending = false }) ∷ []) }) names
unfolding understood everything
of_holder_is = refl
