use Rattle.std.proofs.Common.{◌≡◌, ℕ, ◌+◌, ◌-◌, ◌<◌, List, ◌∷◌, length, drop, Option, Some, None, refl, sym, ap, ◌∙◌, arith}
use Rattle.std.specs.Prelude.{filter_map}
use Rattle.std.proofs.lemmas.List.{drop_more}
use Rattle.keeper.specs.declared.rows.Row.{Row}
use Rattle.holder_core.specs.Signers.{Signer, wanted_in, newest, newest_with, newest_wanted}
use Rattle.holder_core.proofs.newest.newest_row.Goals as goal

-- one row more in front
with_front : (f : Row → Option Signer) (row : Row) (rows : List Row) (o : Option Signer) → f row ≡ o → newest_with o (newest (filter_map f rows)) ≡ newest (filter_map f (row ∷ rows))
with_front f row rows None e = rw e refl
with_front f row rows (Some s) e = rw e refl

pub loop-at-preserved : goal.loop-at-preserved
loop-at-preserved c =
    let w = c.args.wanted.now in
    let rows = c.args.rows.now in
    let at = c.loop-at.at in
    let row = c.index-rows-at.result in
    let back : at - 1 + 1 ≡ at = omega arith in
    let below : at - 1 < length rows = omega (arith, c.loop-at.invariant.within) in
    let cut : drop (at - 1) rows ≡ row ∷ drop at rows = drop_more rows (at - 1) row below ∙ (λ i. sym c.index-rows-at.is i ∷ drop (back i) rows) in
    record {
      within = omega (arith, c.loop-at.invariant.within);
      newest = c.newer_row-best.ensures.newest ∙ ap (newest_with (wanted_in w row)) c.loop-at.invariant.newest
          ∙ with_front (wanted_in w) row (drop at rows) (wanted_in w row) refl ∙ ap (newest_wanted w) (sym cut);
      wanted = c.newer_row-best.ensures.wanted;
    }
