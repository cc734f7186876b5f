use Rattle.std.proofs.Common.{◌≡◌, ◌++◌, length, drop, List, Some, true, false, ap, sym, arith}
use Rattle.std.specs.Prelude.{slice_get, is_some}
use Rattle.std.specs.Option.{option_copied}
use Rattle.std.proofs.lemmas.Grind.{common_steps}
use Rattle.std.proofs.lemmas.Option.{slice_get_within}
use Rattle.keeper.specs.declared.rows.Row.{Row}
use Rattle.desk_core.specs.Lists.{certificates}
use Rattle.desk_core.proofs.Listings.{one_fewer, as_many, no_certificates}
use Rattle.desk_core.proofs.listing.count.Goals.{then-is_some, else-is_some}
use Rattle.desk_core.proofs.listing.count.Goals as goal

pub rows-preserved : goal.rows-preserved
rows-preserved c =
    let rows : List Row = c.args.front.now ++ c.args.back.now in
    let there : slice_get rows c.rows.at ≡ Some c.in-Some.row.now = sym c.in-Some.ensures.found in
    let within = slice_get_within rows c.rows.at c.in-Some.row.now there in
    let few = c.rows.invariant.few in
    let counted = c.rows.invariant.counted in
    elim c.if-is_some.branch [
      | then-is_some w ↦
          let came : is_some (option_copied c.handed_out.result) ≡ true = grind (arith, common_steps) in
          let fewer = one_fewer rows c.rows.at c.in-Some.row.now there (option_copied c.handed_out.result) (sym c.handed_out.ensures) came in
          record { within = omega (arith, within); few = omega (arith, few, w.count-is); counted = omega (arith, counted, w.count-is, fewer) }
      | else-is_some w ↦
          let waits : is_some (option_copied c.handed_out.result) ≡ false = grind (arith, common_steps) in
          let same = as_many rows c.rows.at c.in-Some.row.now there (option_copied c.handed_out.result) (sym c.handed_out.ensures) waits in
          record { within = omega (arith, within); few = omega (arith, few, w.count-is); counted = omega (arith, counted, w.count-is, same) }
    ]

pub returns : goal.returns
returns c =
    let rows : List Row = c.args.front.now ++ c.args.back.now in
    let counted = c.rows.invariant.counted in
    let none : length (certificates (drop c.rows.at rows)) ≡ 0 = ap length (no_certificates rows c.rows.at (sym c.in_default.ensures.found)) in
    omega (arith, counted, none)
