-- What the rows say of a request, look by look (this project's own).
use Rattle.std.specs.Prelude.{◌≡◌, ℕ, List, length, Option, Some, None, Bool, true, false, not, if◌then◌else◌, count_by, nat_lt, option_and_then}
use Rattle.holder_reference.specs.Reference.{holder_part}
use Rattle.cvc_grammar.specs.declared.request.Request.{Request}
use Rattle.cvc_grammar.specs.declared.request.Outer.{Outer}
use Rattle.policy_limits.specs.declared.registration.Registration.{Registration}
use Rattle.policy_limits.specs.declared.registration.First.{First}
use Rattle.keeper.specs.declared.rows.Row.{Row}
use Rattle.keeper.specs.declared.rows.Part.{Part}
use Rattle.keeper.specs.declared.rows.Part.TheVariants as part
use Rattle.keeper.specs.declared.rows.Table.TheVariants.{Issued, Own, Ca}
use Rattle.keeper.specs.Rows.{row_at, rows_of, holder_rows, is_of_holder}
use Rattle.issue_core.specs.declared.issuing.signer_row.Signer.{Signer}
use Rattle.issue_core.specs.declared.issuing.voucher_row.Voucher.{Voucher}
use Rattle.issue_core.specs.Issuing.Rules.{signer_of, signers, newest, newer, ca_voucher, or_else, is_home}
use Rattle.issue_core.specs.declared.issuing.seen.Held.{Held}
use Rattle.issue_core.specs.declared.issuing.seen.Seen.{Seen}

-- ---- the own row that signs

abbrev pub signer_at : Option Row → Option Signer
signer_at found = option_and_then (λ row. signer_of row.reference row.part) found

-- one more row in front of the newest of others
abbrev pub newest_with : Option Signer → Option Signer → Option Signer
newest_with None other = other
newest_with (Some s) other = Some (newer s other)

-- from when its certificate is effective
abbrev pub effective_of : Option Signer → Option ℕ
effective_of (Some s) = Some s.settled.from
effective_of None = None

abbrev pub is_later : Option ℕ → Option ℕ → Bool
is_later None other = false
is_later (Some from) None = true
is_later (Some from) (Some other) = nat_lt other from

abbrev pub signer_seen : ℕ → Option (List ℕ) → List Row → Option Signer
signer_seen desk (Some reference) rows = signer_at (row_at Own desk reference rows)
signer_seen desk None rows = newest (signers (rows_of Own desk rows))

-- ---- the row that vouches

abbrev pub row_voucher : Part → Option Voucher
row_voucher (part.Issued p) = Some (record { key = p.key; until = p.settled.until })
row_voucher (part.Register r d) = None
row_voucher (part.Own p) = None
row_voucher (part.Ca p) = None

-- an issued row vouches for its own holder
abbrev pub issued_for : List ℕ → Option Row → Option Voucher
issued_for holder None = None
issued_for holder (Some row) = if is_of_holder holder row then row_voucher row.part else None

abbrev pub ca_in : Option Row → Option Voucher
ca_in None = None
ca_in (Some row) = ca_voucher row.part

abbrev pub voucher_seen : ℕ → First → List ℕ → List ℕ → List Row → Option Voucher
voucher_seen desk first holder reference rows =
    or_else (issued_for holder (row_at Issued desk reference rows)) (if is_home first reference then ca_in (row_at Ca desk reference rows) else None)

abbrev pub outer_seen : ℕ → First → List ℕ → Option Outer → List Row → Option Voucher
outer_seen desk first holder None rows = None
outer_seen desk first holder (Some o) rows = voucher_seen desk first holder o.reference rows

-- ---- the holder's rows

-- Whether its certificate hasn't expired. Only issued rows are counted.
abbrev pub is_live_part : ℕ → Part → Bool
is_live_part day (part.Issued p) = not (nat_lt p.settled.until day)
is_live_part day (part.Register r d) = false
is_live_part day (part.Own p) = false
is_live_part day (part.Ca p) = false

abbrev pub is_live_row : ℕ → Row → Bool
is_live_row day row = is_live_part day row.part

-- how many there are, and how many of them haven't expired
abbrev pub HolderSeen : ℕ → List Row → Held → Type 0
HolderSeen day rows held = (held.all ≡ length rows) × (held.live ≡ count_by (is_live_row day) rows)

-- ---- all that is looked up

pub record IsSeen (desk day : ℕ) (r : Request) (g : Registration) (rows : List Row) (seen : Seen) : Type 0 where
  pub signer : seen.signer ≡ signer_seen desk r.body.authority rows
  pub voucher : seen.voucher ≡ outer_seen desk g.first (holder_part r.body.holder) r.outer rows
  pub held : HolderSeen day (holder_rows Issued desk (holder_part r.body.holder) rows) seen.held
  pub count : seen.count ≡ length (rows_of Issued desk rows)
