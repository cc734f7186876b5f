-- What is due is one.
use Rattle.std.specs.Prelude.{◌≡◌, ℕ, List, Option}
use Rattle.keeper.specs.declared.rows.Row.{Row}
use Rattle.terminal_desk.specs.Chain.{HasDue}

-- by the same references and rows the same chain is due, or none both times
abbrev pub OneIsDue : Type 0
OneIsDue = (cars : List (List ℕ)) (own cas : List Row) (one other : Option (List (List ℕ)))
    → HasDue cars own cas one → HasDue cars own cas other → one ≡ other
