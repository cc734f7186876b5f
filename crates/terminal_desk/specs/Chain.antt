-- The chain that a terminal shows to a chip (BSI TR-03110-3, certificate chains; which one is due is this project's
-- own).
use Rattle.std.specs.Prelude.{◌≡◌, ◌<◌, ◌≤◌, ◌++◌, ◌&&◌, ℕ, List, [], ◌∷◌, reverse, map, filter_map, option_and_then, Option, Some, None, Result, Ok, Err, Bool, true, false, if◌then◌else◌}
use Rattle.std.specs.List.{All, find, list_any}
use Rattle.std.specs.Str.{bytes_eq}
use Rattle.chat_rights.specs.declared.Role.{Role}
use Rattle.chat_rights.specs.declared.Role.TheVariants.{Cvca, Domestic, Foreign, Terminal}
use Rattle.keeper.specs.declared.rows.Row.{Row}
use Rattle.keeper.specs.declared.rows.Settled.{Settled}
use Rattle.keeper.specs.declared.rows.Part.{Part}
use Rattle.keeper.specs.declared.rows.Part.TheVariants as part
use Rattle.keeper.specs.declared.rows.Table.TheVariants as table
use Rattle.keeper.specs.Rows.{table_of, same_table}
use Rattle.terminal_desk.specs.declared.chain.ChainRefusal.{ChainRefusal}
use Rattle.terminal_desk.specs.declared.chain.ChainRefusal.TheVariants.{NoChain, NoMemory}

-- ---- certificates in rows

-- that of a settled own row
abbrev pub own_certificate : Part → Option Settled
own_certificate (part.Own p) = p.settled
own_certificate (part.Register request day) = None
own_certificate (part.Issued p) = None
own_certificate (part.Ca p) = None

-- a party's own certificates, in the order of its rows
abbrev pub own_certificates : List Row → List Settled
own_certificates own = filter_map (λ row. own_certificate row.part) own

-- that of an authority's row
abbrev pub authority_certificate : Part → Option Settled
authority_certificate (part.Ca p) = Some p.settled
authority_certificate (part.Register request day) = None
authority_certificate (part.Issued p) = None
authority_certificate (part.Own p) = None

abbrev pub is_authority : List ℕ → Row → Bool
is_authority reference row = same_table (table_of row.part) table.Ca && bytes_eq row.reference reference

-- the authority's certificate of this reference: where several rows have it, that of the first
abbrev pub named : List Row → List ℕ → Option Settled
named cas reference = option_and_then (λ row. authority_certificate row.part) (find (is_authority reference) cas)

-- ---- one step up

abbrev pub is_verifier : Role → Bool
is_verifier Cvca = false
is_verifier Domestic = true
is_verifier Foreign = true
is_verifier Terminal = false

abbrev pub is_root : Role → Bool
is_root Cvca = true
is_root Domestic = false
is_root Foreign = false
is_root Terminal = false

abbrev pub where_role : (Role → Bool) → Option Settled → Option Settled
where_role has_role None = None
where_role has_role (Some a) = if has_role a.template.role then Some a else None

-- the certificate of the authority that issued this one, where it has such a role
abbrev pub issuer_of : (Role → Bool) → List Row → Settled → Option Settled
issuer_of has_role cas below = where_role has_role (named cas below.issuer)

-- ---- the walk

-- the chip trusts a certificate of this reference
abbrev pub is_trusted : (cars : List (List ℕ)) → List ℕ → Bool
is_trusted cars reference = list_any (λ car. bytes_eq car reference) cars

-- What stands above an authority's certificate: each one is of the root that issued the one before, up to the first
-- that one of the cars issued.
abbrev pub Climbs : (cars : List (List ℕ)) → (cas : List Row) → Settled → List Settled → Type 0
Climbs cars cas top [] = is_trusted cars top.issuer ≡ true
Climbs cars cas top (a ∷ more) =
    (is_trusted cars top.issuer ≡ false) × (issuer_of is_root cas top ≡ Some a) × Climbs cars cas a more

-- What stands above an own certificate: the verifier's that issued it, and what stands above that.
abbrev pub Above : (cars : List (List ℕ)) → (cas : List Row) → Settled → List Settled → Type 0
Above cars cas own [] = ⊥
Above cars cas own (v ∷ more) = (issuer_of is_verifier cas own ≡ Some v) × Climbs cars cas v more

abbrev pub HasNone : (cars : List (List ℕ)) → (cas : List Row) → Settled → Type 0
HasNone cars cas own = (above : List Settled) → Above cars cas own above → ⊥

-- the certificates from the highest authority down to the terminal's own
abbrev pub chain_of : (above : List Settled) → Settled → List (List ℕ)
chain_of above own = reverse (map (λ s. s.certificate) (own ∷ above))

-- ---- the chain that is due

-- The certificate is the newest own one that has a chain: none with a later date has one, and none with the same date
-- that was added after it.
pub record IsDue (cars : List (List ℕ)) (cas : List Row) (own : List Settled) (row : Settled) (above : List Settled)
    : Type 0 where
  pub front : List Settled
  pub back : List Settled
  pub split : own ≡ front ++ (row ∷ back)
  pub climbs : Above cars cas row above
  pub earlier : All (λ o. row.from < o.from → HasNone cars cas o) front
  pub later : All (λ o. row.from ≤ o.from → HasNone cars cas o) back

pub record DueChain (cars : List (List ℕ)) (cas : List Row) (own : List Settled) (chain : List (List ℕ)) : Type 0 where
  pub row : Settled
  pub above : List Settled
  pub due : IsDue cars cas own row above
  pub chain_is : chain ≡ chain_of above row

-- By a party's own rows and its rows of authorities: the chain that is due, or none where no own certificate has one.
abbrev pub HasDue : (cars : List (List ℕ)) → (own cas : List Row) → Option (List (List ℕ)) → Type 0
HasDue cars own cas (Some chain) = DueChain cars cas (own_certificates own) chain
HasDue cars own cas None = All (HasNone cars cas) (own_certificates own)

abbrev pub ChainFor : (cars : List (List ℕ)) → (own cas : List Row) → Result (List (List ℕ)) ChainRefusal → Type 0
ChainFor cars own cas (Ok chain) = HasDue cars own cas (Some chain)
ChainFor cars own cas (Err NoChain) = HasDue cars own cas None
ChainFor cars own cas (Err NoMemory) = Unit {0}
