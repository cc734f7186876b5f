-- The plain register as a desk: a reference with bytes is the request, and the day is what is given (this project's own).
use Rattle.std.specs.Prelude.{◌≡◌, ◌≢◌, ◌⊎◌, ℕ, ◌≤◌, ◌&&◌, Bool, true, not, nat_le, List, [], ◌∷◌, ◌++◌, length, map, flat_map, Some, None, Ok, Err, IfErr, if◌then◌else◌}
use Rattle.std.specs.declared.option.Option.{Option}
use Rattle.std.specs.declared.result.Result.{Result}
use Rattle.std.specs.List.{list_any}
use Rattle.eac_base.specs.Causes.{Rose}
use Rattle.keeper.specs.declared.rows.Row.{Row}
use Rattle.keeper.specs.declared.rows.Part.{Part}
use Rattle.keeper.specs.declared.rows.Part.TheVariants as part
use Rattle.std.specs.Str.{bytes_eq}
use Rattle.keeper.specs.Rows.{is_of, most_rows}
use Rattle.keeper.specs.Keeping.{IsAsked}
use Rattle.keeper.specs.declared.rows.Table.TheVariants.{Register as RegisterTable}
use Rattle.issue_core.specs.declared.rule.Rule.{Rule}
use Rattle.issue_core.specs.declared.rule.Rule.TheVariants.{Used, Full}
use Rattle.issue_core.specs.declared.registering.serving.RegisterAnswer.{RegisterAnswer}
use Rattle.issue_core.specs.declared.registering.serving.RegisterAnswer.TheVariants.{Issued as AnswerIssued, Kept as AnswerKept, Refused as AnswerRefused}
use Rattle.issue_core.specs.declared.fault.IssueFault.{IssueFault}
use Rattle.issue_core.specs.declared.fault.IssueFault.TheVariants.{KeeperFault, ProviderFault, NoKey, NoMemory as FaultNoMemory}
use Rattle.ledger.specs.Ledger.{Desk, TheKeeper, Entry, Outcome, Issued, Kept, Refused, Faulted, NoMemory, Delivery, entries}
use Rattle.ledger.specs.Story.{Decides, Story}

-- ---- the desk

-- one line asked of the register: its reference and bytes, and the day
pub record Asked : Type 0 where
  pub reference : List ℕ
  pub bytes : List ℕ
  pub day : List ℕ

abbrev pub Request : Type 0
Request = List ℕ × List ℕ

abbrev pub same_request : Request → Request → Bool
same_request a b = bytes_eq a.0 b.0 && bytes_eq a.1 b.1

-- other bytes stand under this reference
abbrev pub has_other_bytes : List (Request × List ℕ) → Request → Bool
has_other_bytes es q = list_any (λ (e : Request × List ℕ). bytes_eq e.0.0 q.0 && not (bytes_eq e.0.1 q.1)) es

abbrev pub register_rule : List (Request × List ℕ) → Asked → Option Rule
register_rule es asked = if has_other_bytes es (asked.reference, asked.bytes) then Some Used else if nat_le most_rows (length es) then Some Full else None

-- the only fault is the keeper's
pub data RegisterFault : Type 0 where
  KeeperFailed : RegisterFault

abbrev pub register : Desk Asked Request (List ℕ) (List ℕ) Rule RegisterFault
register = record {
  query = λ asked. (asked.reference, asked.bytes);
  same = same_request;
  reference = λ q. q.0;
  face = λ day. day;
  first = register_rule;
  due = λ asked. Some asked.day;
  cause = λ fault. TheKeeper;
}

-- an answer of the register needs no signature
abbrev pub unsigned : Asked → List ℕ → Bool
unsigned asked day = true

-- ---- its stories

abbrev pub Entries : Type 0
Entries = List (Entry Request (List ℕ))

abbrev pub Deliveries : Type 0
Deliveries = List (Delivery Asked (List ℕ) Rule RegisterFault)

-- deliveries to the register, one after another, after these entries
abbrev pub RegisterStory : Entries → Deliveries → Type 0
RegisterStory = Story register unsigned

-- a delivery, with the keeper's counts of faults before and after it; it has no provider
abbrev pub delivery_of : Asked → ℕ × ℕ → Outcome (List ℕ) Rule RegisterFault → Option (List ℕ) → Delivery Asked (List ℕ) Rule RegisterFault
delivery_of asked counts outcome left = record { case_of = asked; outcome = outcome; left = left; keeper = counts; provider = (0, 0); held = true }

-- ---- its rows

abbrev pub bytes_of : Part → List ℕ
bytes_of (part.Register request day) = request
bytes_of (part.Issued p) = []
bytes_of (part.Own p) = []
bytes_of (part.Ca p) = []

abbrev pub day_of : Part → List ℕ
day_of (part.Register request day) = day
day_of (part.Issued p) = []
day_of (part.Own p) = []
day_of (part.Ca p) = []

-- the entry of a row
abbrev pub entry_of_row : Row → Entry Request (List ℕ)
entry_of_row row = record { query = (row.reference, bytes_of row.part); product = day_of row.part }

-- the ledger of the register: its rows at desk 0
abbrev pub entries_of : List Row → Entries
entries_of [] = []
entries_of (row ∷ rows) = if is_of RegisterTable 0 row then entry_of_row row ∷ entries_of rows else entries_of rows

-- the row of a request that was given a day
abbrev pub row_of : List ℕ → List ℕ → List ℕ → Row
row_of reference bytes day = record { desk = 0; reference = reference; part = part.Register bytes day }

-- the rows of a ledger
abbrev pub rows_of_ledger : Entries → List Row
rows_of_ledger ledger = map (λ (e : Entry Request (List ℕ)). row_of e.query.0 e.query.1 e.product) ledger

-- the row that a delivery added, where it left an entry
abbrev pub rows_left : Asked → Option (List ℕ) → List Row
rows_left asked None = []
rows_left asked (Some day) = row_of asked.reference asked.bytes day ∷ []

-- the rows that deliveries added, in their order
abbrev pub rows_added : Deliveries → List Row
rows_added ds = flat_map (λ (d : Delivery Asked (List ℕ) Rule RegisterFault). rows_left d.case_of d.left) ds

-- the rows that deliveries add are those of the entries that they leave
abbrev pub RowsAreLedger : Type 0
RowsAreLedger = (ds : Deliveries) → rows_added ds ≡ rows_of_ledger (entries register ds)

-- ---- one call

-- the call was one delivery, and the row that it added is that of the entry that it left
pub record RegisterServes (before after : List Row) (asked : Asked) (counts : ℕ × ℕ) (outcome : Outcome (List ℕ) Rule RegisterFault) : Type 0 where
  pub left : Option (List ℕ)
  pub decides : Decides register unsigned (entries_of before) (delivery_of asked counts outcome left)
  pub rows : after ≡ before ++ rows_left asked left

-- the answer of a call as the outcome of a delivery; the two faults that have to do with a provider never come
abbrev pub register_outcome : Result RegisterAnswer IssueFault → Outcome (List ℕ) Rule RegisterFault
register_outcome (Ok (AnswerIssued day)) = Issued day
register_outcome (Ok (AnswerKept day)) = Kept day
register_outcome (Ok (AnswerRefused rule)) = Refused rule
register_outcome (Err KeeperFault) = Faulted KeeperFailed
register_outcome (Err ProviderFault) = NoMemory
register_outcome (Err (NoKey reference)) = NoMemory
register_outcome (Err FaultNoMemory) = NoMemory

-- what is answered where the reference has a row
abbrev pub again_of : Part → List ℕ → RegisterAnswer
again_of (part.Register request day) bytes = if bytes_eq request bytes then AnswerKept day else AnswerRefused Used
again_of (part.Issued p) bytes = AnswerRefused Used
again_of (part.Own p) bytes = AnswerRefused Used
again_of (part.Ca p) bytes = AnswerRefused Used

-- of the faults only the keeper's comes
abbrev pub IsKeepers : IssueFault → Type 0
IsKeepers KeeperFault = Unit {0}
IsKeepers ProviderFault = ⊥
IsKeepers (NoKey reference) = ⊥
IsKeepers FaultNoMemory = Unit {0}

-- The count of faults has not fallen. The keeper's fault came only where it rose, where that one didn't come it is as
-- before, and no other fault comes.
pub record RegisterFaults {T : Type 0} (before now : ℕ) (result : Result T IssueFault) : Type 0 where
  pub later : before ≤ now
  pub failed : result ≡ Err KeeperFault → Rose before now
  pub quiet : result ≢ Err KeeperFault → now ≡ before
  pub only : IfErr result IsKeepers

-- ---- for every keeper, whether it tells its rows or not

-- a row of this reference, as any keeper may give it, is answered so
pub record IsAgain (reference bytes : List ℕ) (answer : RegisterAnswer) : Type 0 where
  pub row : Row
  pub asked : IsAsked RegisterTable 0 reference row
  pub says : answer ≡ again_of row.part bytes

-- why an answer came: the day is today's, or such a row says it, or the keeper says that the table is full
abbrev pub RegisterCause : (reference bytes day : List ℕ) → RegisterAnswer → Type 0
RegisterCause reference bytes day (AnswerIssued given) = given ≡ day
RegisterCause reference bytes day (AnswerKept given) = IsAgain reference bytes (AnswerKept given)
RegisterCause reference bytes day (AnswerRefused rule) = IsAgain reference bytes (AnswerRefused rule) ⊎ (rule ≡ Full)
