use Rattle.std.proofs.Common.{◌≡◌, ◌+◌, suc, ◌∷◌, [], ◌++◌, take, map, Some, sym, ap, subst, ◌∙◌, arith}
use Rattle.std.specs.List.{All}
use Rattle.std.proofs.Math.Seq.{take-suc}
use Rattle.std.proofs.lemmas.List.Elements.{All-append}
use Rattle.keeper.specs.declared.rows.Row.{Row}
use Rattle.keeper.specs.Keeping.{IsDeskRow}
use Rattle.keeper_sqlite.proofs.Listing.{one_more_read, one_all}
use Rattle.keeper_sqlite.proofs.reading.rows_from.Goals as goal

pub loop-stored-preserved : goal.loop-stored-preserved
loop-stored-preserved c =
    let given = c.args.given.now in
    let i = c.loop-stored.stored-index in
    let item = c.stored-item.result in
    let row = c.in_ok-row.row in
    let up : i + 1 ≡ suc i = omega arith in
    let next : take (i + 1) given ≡ take i given ++ item ∷ [] = ap (λ n. take n given) up ∙ take-suc given i item (omega (arith, c.loop-stored-test.true)) ∙ (λ j. take i given ++ sym c.stored-item.is j ∷ []) in
    let asked = All-append (IsDeskRow c.args.table c.args.desk) c.loop-stored.rows (row ∷ []) c.loop-stored.invariant.1 (one_all (IsDeskRow c.args.table c.args.desk) row c.in_ok-row.ensures.asked) in (
      one_more_read c.args.table c.args.desk (take i given) (take (i + 1) given) item c.loop-stored.rows row next c.loop-stored.invariant.0 c.in_ok-row.ensures.read ∙ ap (map (λ (r : Row). Some r)) (sym c.in_ok-push.ensures.pushed),
      subst (All (IsDeskRow c.args.table c.args.desk)) (sym c.in_ok-push.ensures.pushed) asked,
    )
