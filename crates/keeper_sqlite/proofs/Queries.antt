-- What a query leaves of a store, whatever it answers.
use Rattle.std.proofs.Common.{◌≡◌, ◌⊎◌, inl, inr, ℕ, List, Option, Some, None, IsTrue, subst}
use Rattle.sqlite.specs.Order.{Row}
use Rattle.sqlite.specs.declared.error.Error.{Error}
use Rattle.sqlite.specs.Listing.{understood}
use Rattle.sqlite.specs.State.{State, Shown, ShowsRows, FailsToQuery, FailsToShow, IsNotRun, IsUnchanged, IsRolledBack}
use Rattle.sqlite.proofs.Callers.{IsPlain}
use Rattle.sqlite_resolve.specs.declared.compiled.Compiled.{Compiled}
use Rattle.sqlite_schema.specs.declared.command.Returning.{Returning}

shows_keeps : (old new : State) (sql : List ℕ) (c : Compiled) (params : Row) (rows : List Row) (r : Option Returning) → r ≡ None → ShowsRows old new sql c params rows r → IsUnchanged old new
shows_keeps old new sql c params rows None e h = h.3
shows_keeps old new sql c params rows (Some what) e h = absurd cc

pub query_keeps : (old new : State) (sql : List ℕ) (params : Row) (rows : List Row) → IsPlain (understood old.now.schema sql) → Shown sql params old new rows → IsUnchanged old new
unfolding Shown
query_keeps old new sql params rows plain h =
    let p = subst IsPlain h.1.is plain in
    shows_keeps old new sql h.0 _ rows h.0.returning p.0 h.2

shows_open : (old new : State) (sql : List ℕ) (c : Compiled) (params : Row) (rows : List Row) (r : Option Returning) → ShowsRows old new sql c params rows r → IsTrue old.is_open
shows_open old new sql c params rows None h = h.3.0.was_open
shows_open old new sql c params rows (Some what) h = h.1.shown.was_open

pub query_open : (old new : State) (sql : List ℕ) (params : Row) (rows : List Row) → Shown sql params old new rows → IsTrue old.is_open
unfolding Shown
query_open old new sql params rows h = shows_open old new sql h.0 _ rows h.0.returning h.2

show_fails : (old new : State) (sql : List ℕ) (c : Compiled) (params : Row) (e : Error) (r : Option Returning) → FailsToShow old new sql c params e r → IsUnchanged old new ⊎ IsRolledBack old new
show_fails old new sql c params e None h = inl h.3
show_fails old new sql c params e (Some what) (inl h) = inl h.1
show_fails old new sql c params e (Some what) (inr h) = inr h.3

not_run : (old new : State) (sql : List ℕ) (params : Row) (e : Error) → IsNotRun old new sql params e → IsUnchanged old new ⊎ IsRolledBack old new
unfolding IsNotRun
not_run old new sql params e (inl h) = inl h.1
not_run old new sql params e (inr h) = inr h.3

pub query_fails : (old new : State) (sql : List ℕ) (params : Row) (e : Error) → FailsToQuery sql params old new e → IsUnchanged old new ⊎ IsRolledBack old new
unfolding FailsToQuery
query_fails old new sql params e (inl h) = not_run old new sql params e h
query_fails old new sql params e (inr h) = show_fails old new sql h.0 _ e h.0.returning h.2
