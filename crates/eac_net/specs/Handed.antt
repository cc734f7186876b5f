-- What an event of a chip asks of a keeper's rows, and what they hand to it (this project's own). The chip's part of an event
-- speaks of what was handed, and the rows' part of where it came from, so that each stands without the other's telling.
use Rattle.std.specs.Prelude.{◌≡◌, ◌≤◌, ◌<◌, ℕ, List, [], ◌∷◌, ◌++◌, Option, Some, None, Result, Ok, Err, nat_lt, if◌then◌else◌}
use Rattle.std.specs.List.{All}
use Rattle.eac_base.specs.Causes.{Rose}
use Rattle.keeper.specs.Keeping.{IsDeskRow}
use Rattle.keeper.specs.declared.rows.Row.{Row}
use Rattle.keeper.specs.declared.rows.Settled.{Settled}
use Rattle.keeper.specs.declared.rows.Table.TheVariants as table
use Rattle.holder_core.specs.OwnRows.{own_rows, ca_rows}
use Rattle.holder_core.specs.declared.fault.HolderFault.{HolderFault}
use Rattle.holder_core.specs.declared.fault.HolderFault.TheVariants as fault
use Rattle.terminal_desk.specs.Chain.{HasDue, own_certificate, own_certificates}
use Rattle.terminal_desk.specs.declared.search.SearchRefusal.{SearchRefusal}
use Rattle.terminal_desk.specs.declared.search.SearchRefusal.TheVariants as search

pub data Request : Type 0 where
  -- the newest own certificate of an authority
  RootOf : (authority : ℕ) → Request
  -- the chain of a terminal for a chip whose points have these references, the newest first
  ChainFor : (terminal : ℕ) → (points : List (List ℕ)) → Request

pub data Handed : Type 0 where
  -- nothing was asked
  Unasked : Handed
  -- these certificates, to be given in this order
  Certs : Request → List (List ℕ) → Handed
  -- there is none
  NoneFor : Request → Handed
  -- the keeper failed, or memory was wanting
  KeeperFailed : Request → Handed
  NoRoom : Request → Handed

-- whose rows are asked
abbrev pub party_of : Request → ℕ
party_of (RootOf authority) = authority
party_of (ChainFor terminal points) = terminal

-- ---- which certificates are due, by own and authorities' rows of that party

-- The certificate with the greatest effective date, among equals the one that was added last.
pub record IsNewest (certificates : List Settled) (s : Settled) : Type 0 where
  pub front : List Settled
  pub back : List Settled
  pub split : certificates ≡ front ++ s ∷ back
  pub earlier : All (λ (o : Settled). o.from ≤ s.from) front
  pub later : All (λ (o : Settled). o.from < s.from) back

-- it is this one, or there is none exactly where there are no certificates
abbrev pub NewestIn : List Settled → Option Settled → Type 0
NewestIn certificates (Some s) = IsNewest certificates s
NewestIn certificates None = certificates ≡ []

-- the newest own certificate alone
pub record IsRoot (own : List Row) (certs : List (List ℕ)) : Type 0 where
  pub newest : Settled
  pub is_newest : IsNewest (own_certificates own) newest
  pub alone : certs ≡ newest.certificate ∷ []

abbrev pub RootIn : List Row → Option (List (List ℕ)) → Type 0
RootIn own (Some certs) = IsRoot own certs
RootIn own None = own_certificates own ≡ []

-- ---- its steps

abbrev pub certificate_of : Row → Option Settled
certificate_of row = own_certificate row.part

-- of the newest so far and the next one
abbrev pub newer : Option Settled → Settled → Settled
newer (Some newest) next = if nat_lt next.from newest.from then newest else next
newer None next = next

-- what is due, or none exactly where there is none
abbrev pub DueIn : (own cas : List Row) → Request → Option (List (List ℕ)) → Type 0
DueIn own cas (RootOf authority) due = RootIn own due
DueIn own cas (ChainFor terminal points) due = HasDue points own cas due

-- ---- these rows are told

abbrev pub DueBy : List Row → Request → Option (List (List ℕ)) → Type 0
DueBy rows request due = DueIn (own_rows (party_of request) rows) (ca_rows (party_of request) rows) request due

-- What was handed comes from these rows.
abbrev pub IsHandedBy : List Row → Handed → Type 0
IsHandedBy rows Unasked = Unit {0}
IsHandedBy rows (Certs request certs) = DueBy rows request (Some certs)
IsHandedBy rows (NoneFor request) = DueBy rows request None
IsHandedBy rows (KeeperFailed request) = Unit {0}
IsHandedBy rows (NoRoom request) = Unit {0}

-- ---- for every keeper

-- by some rows as they were asked for
pub record AreAsked (request : Request) (due : Option (List (List ℕ))) : Type 0 where
  pub own : List Row
  pub cas : List Row
  pub own_asked : All (IsDeskRow table.Own (party_of request)) own
  pub cas_asked : All (IsDeskRow table.Ca (party_of request)) cas
  pub by : DueIn own cas request due

-- The keeper's count rose where it failed, and stands as it was anywhere else.
abbrev pub IsHandedFrom : (before now : ℕ) → Handed → Type 0
IsHandedFrom before now Unasked = now ≡ before
IsHandedFrom before now (Certs request certs) = (now ≡ before) × AreAsked request (Some certs)
IsHandedFrom before now (NoneFor request) = (now ≡ before) × AreAsked request None
IsHandedFrom before now (KeeperFailed request) = (before ≤ now) × Rose before now
IsHandedFrom before now (NoRoom request) = now ≡ before

-- ---- by the result of a call that asks

abbrev pub handed_root : Request → Result (Option (List ℕ)) HolderFault → Handed
handed_root request (Ok (Some root)) = Certs request (root ∷ [])
handed_root request (Ok None) = NoneFor request
handed_root request (Err fault.KeeperFault) = KeeperFailed request
handed_root request (Err fault.ProviderFault) = NoRoom request
handed_root request (Err (fault.NoKey reference)) = NoRoom request
handed_root request (Err fault.NoMemory) = NoRoom request

abbrev pub handed_chain : Request → Result (List (List ℕ)) SearchRefusal → Handed
handed_chain request (Ok chain) = Certs request chain
handed_chain request (Err search.NoChain) = NoneFor request
handed_chain request (Err search.KeeperFault) = KeeperFailed request
handed_chain request (Err search.NoMemory) = NoRoom request
