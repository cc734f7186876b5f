-- A store whose table was just made, in memory or over a new file.
use Rattle.std.proofs.Common.{◌≡◌, ◌⊎◌, [], true, Some, IsTrue, IfSome, refl, sym, subst, arith, ⊎_elim}
use Rattle.sqlite_disk.specs.Disk.{MoreFaults}
use Rattle.sqlite.specs.State.{State, HasCleanDisk}
use Rattle.keeper_sqlite.specs.Kept.{HoldsRows}
use Rattle.keeper_sqlite.specs.Holding.{Holding}
use Rattle.keeper_sqlite.specs.Sound.{KeptSound, is_told, told_rows}
use Rattle.keeper_sqlite.specs.ToldRows.{listed}
use Rattle.keeper_sqlite.proofs.Telling.{holds_sound, holds_told, is_told_of, told_is, decided, untold}

pub empty_holding : (s : State) → HoldsRows [] s → Holding s []
empty_holding s h = record { entries = []; holds = h; stores = tt; unique = refl }

pub empty_sound : (s : State) → HoldsRows [] s → KeptSound true s
empty_sound s h told = holds_sound s [] (empty_holding s h)

pub empty_told : (s : State) → HoldsRows [] s → HasCleanDisk s → IsTrue s.is_open → told_rows true s ≡ Some []
empty_told s h clean is_open = holds_told true s [] (is_told_of true s refl (clean, is_open)) (empty_holding s h)

-- rows that are told of a store whose table is new are none
pub told_none : (s : State) → (HasCleanDisk s → HoldsRows [] s) → IfSome (told_rows true s) (λ rows. rows ≡ [])
unfolding told_rows
told_none s holds = decided (is_told true s) (IfSome (told_rows true s) (λ rows. rows ≡ []))
    (λ told. let now = told_is true s told in
    subst (λ o. IfSome o (λ rows. rows ≡ [])) (sym (empty_told s (holds now.1.0) now.1.0 now.1.1)) refl)
    (λ no_more. subst (λ o. IfSome o (λ rows. rows ≡ [])) (sym (untold (listed (s.now.trees 0)) (is_told true s) no_more)) tt)

pub new_sound : (s : State) → (HasCleanDisk s → HoldsRows [] s) → KeptSound true s
new_sound s holds told = let now = told_is true s told in holds_sound s [] (empty_holding s (holds now.1.0))

no_fault : MoreFaults 0 0 → ⊥
no_fault h = omega (arith, h)

pub stays_open : (P : Type 0) → P ⊎ MoreFaults 0 0 → P
stays_open P h = ⊎_elim (λ (p : P). p) (λ (f : MoreFaults 0 0). absurd (no_fault f)) h
