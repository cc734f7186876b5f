-- How the chain is looked for: authorities by their references, marks on those that were met, and walks (this project's
-- own).
use Rattle.std.specs.Prelude.{◌≡◌, ◌<◌, ◌≤◌, ℕ, zero, suc, ◌+◌, List, [], ◌∷◌, length, option_and_then, slice_get, Option, Some, None, Bool, true, false, if◌then◌else◌, nat_le, refl}
use Rattle.std.specs.List.{All, find}
use Rattle.std.specs.declared.cmp.Ordering.{Ordering}
use Rattle.std.specs.Ordering.{nat_cmp, eq_by_cmp}
use Rattle.std.specs.Cmp.{IsEquivalence, IsPartialOrder, eq_by_cmp_equiv, po}
use Rattle.std.specs.Cmp.Lexicographic.{slice_cmp, nat_list_cmp_total}
use Rattle.std.specs.BTreeMap.{BTreeMap, get}
use Rattle.keeper.specs.declared.rows.Row.{Row}
use Rattle.keeper.specs.declared.rows.Settled.{Settled}
use Rattle.terminal_desk.specs.Chain.{authority_certificate, is_authority, named, Climbs, Above, HasNone, IsDue}
use Rattle.terminal_desk.specs.declared.newest.Newest.{Newest}

-- ---- references in an ordered map

abbrev pub name_cmp : List ℕ → List ℕ → Ordering
name_cmp = slice_cmp nat_cmp

pub name_equiv : IsEquivalence (eq_by_cmp name_cmp)
name_equiv = eq_by_cmp_equiv nat_list_cmp_total

pub name_po : IsPartialOrder (eq_by_cmp name_cmp) (λ a b. Some (name_cmp a b))
name_po = po nat_list_cmp_total (λ a b. refl)

-- the row at the place that is kept for a reference
abbrev pub row_kept : List Row → BTreeMap (List ℕ) ℕ → List ℕ → Option Row
row_kept rows places reference = option_and_then (slice_get rows) (get name_cmp places reference)

-- for each reference the place of its first row among the authorities of these is kept
abbrev pub FindsFirst : (rows : List Row) → BTreeMap (List ℕ) ℕ → (those : List Row) → Type 0
FindsFirst rows places those = (q : List ℕ) → row_kept rows places q ≡ find (is_authority q) those

-- this place is kept for the row's reference, if it is an authority's, and the others stay
abbrev pub Enters : Row → ℕ → BTreeMap (List ℕ) ℕ → BTreeMap (List ℕ) ℕ → Type 0
Enters row place old new =
    (q : List ℕ) → get name_cmp new q ≡ (if is_authority q row then Some place else get name_cmp old q)

abbrev pub certificate_at : List Row → ℕ → Option Settled
certificate_at cas place = option_and_then (λ row. authority_certificate row.part) (slice_get cas place)

-- ---- marks

abbrev pub IsMet : List Bool → ℕ → Type 0
IsMet met place = slice_get met place ≡ Some true

-- so many places, and none is marked
pub record AreUnmarked (len : ℕ) (met : List Bool) : Type 0 where
  pub all : length met ≡ len
  pub none : (place : ℕ) → IsMet met place → ⊥

-- how many are unmarked
abbrev pub unmet : List Bool → ℕ
unmet [] = 0
unmet (mark ∷ marks) = if mark then unmet marks else suc (unmet marks)

-- nothing leads from this certificate up to one of the cars
abbrev pub LeadsNowhere : (cars : List (List ℕ)) → (cas : List Row) → Settled → Type 0
LeadsNowhere cars cas top = (more : List Settled) → Climbs cars cas top more → ⊥

-- nor from any marked one
abbrev pub AreLost : (cars : List (List ℕ)) → (cas : List Row) → List Bool → Type 0
AreLost cars cas met =
    (place : ℕ) → IsMet met place → (s : Settled) → certificate_at cas place ≡ Some s → LeadsNowhere cars cas s

-- ---- a walk

-- A walk from an own certificate is so many steps up, at the authority at this place: what stands above the one stands
-- above the other. A marked one leads up only where the walk does, and then from further below.
pub record IsWalked (cars : List (List ℕ)) (cas : List Row) (own : Settled) (met : List Bool)
    (place : ℕ) (top : Settled) (steps : ℕ) : Type 0 where
  pub here : certificate_at cas place ≡ Some top
  pub up : (more : List Settled) → Climbs cars cas top more
      → (above : List Settled) × Above cars cas own above × (length above ≡ steps + length more)
  pub down : (above : List Settled) → Above cars cas own above → (more : List Settled) × Climbs cars cas top more
  pub nearer : (p : ℕ) → IsMet met p → (s : Settled) → certificate_at cas p ≡ Some s
      → (l : List Settled) → Climbs cars cas s l
      → (more : List Settled) × Climbs cars cas top more × (length more < length l)
  pub all : length met ≡ length cas
  pub counted : steps + unmet met ≤ length met + 1

-- so many authorities stand above an own certificate, or it has no chain
abbrev pub StandsUnder : (cars : List (List ℕ)) → (cas : List Row) → Settled → Option ℕ → Type 0
StandsUnder cars cas own None = HasNone cars cas own
StandsUnder cars cas own (Some steps) = (above : List Settled) × Above cars cas own above × (length above ≡ steps)

-- the authorities so many steps up, as far as there are any
abbrev pub and_up : (Settled → List Settled) → Option Settled → List Settled
and_up more None = []
and_up more (Some a) = a ∷ more a

abbrev pub risen : (cas : List Row) → ℕ → Settled → List Settled
risen cas zero below = []
risen cas (suc n) below = and_up (risen cas n) (named cas below.issuer)

-- ---- the newest own certificate that has a chain

abbrev pub is_as_new : Option Newest → Settled → Bool
is_as_new None s = false
is_as_new (Some n) s = nat_le s.from n.own.now.from

abbrev pub IsNewest : (cars : List (List ℕ)) → (cas : List Row) → (own : List Settled) → Option Newest → Type 0
IsNewest cars cas own None = All (HasNone cars cas) own
IsNewest cars cas own (Some n) = (above : List Settled) × IsDue cars cas own n.own.now above × (length above ≡ n.steps)
