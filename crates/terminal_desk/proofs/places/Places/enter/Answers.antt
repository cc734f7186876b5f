use Rattle.std.proofs.Common.{ℕ, List, Some, cond, ap, ◌∙◌}
use Rattle.std.specs.Ordering.{is_eq}
use Rattle.std.specs.BTreeMap.{get}
use Rattle.terminal_desk.specs.Walks.{name_cmp}
use Rattle.terminal_desk.proofs.FirstRows.{entered}
use Rattle.terminal_desk.proofs.places.Places.enter.Goals as goal

pub returns-in_ok-insert : goal.returns-in_ok-insert
returns-in_ok-insert c = entered c.args.row.now c.in-Ca.field-0 c.args.place c.args.self.now.places c.insert.new.self c.in-Ca.is
    (λ q. c.in_ok-insert.ensures.updates.0 q ∙ ap (λ (k : List ℕ). cond (is_eq (name_cmp k q)) (Some c.args.place) (get name_cmp c.args.self.now.places q)) c.of.ensures)
