use Rattle.std.proofs.Common.{◌≡◌, ◌++◌, ◌+◌, ◌∙◌, ℕ, suc, length, drop, List, Some, ap, sym, arith}
use Rattle.std.specs.Prelude.{slice_get}
use Rattle.std.proofs.lemmas.List.{append-nil}
use Rattle.std.proofs.lemmas.Option.{slice_get_within}
use Rattle.keeper.specs.declared.rows.Row.{Row}
use Rattle.desk_core.specs.Lists.{certificates, last_of, most_listed}
use Rattle.desk_core.proofs.Listings.{with_certificate, without_certificate, no_certificates, listed_more, listed_past, listed_none, of_both}
use Rattle.desk_core.proofs.listing.list_last.Goals.{in-Some-handed_out, then-left-le-MOST_LISTED+in_ok-push, else-left-le-MOST_LISTED, in_default-handed_out}
use Rattle.desk_core.proofs.listing.list_last.Goals as goal

pub overflow_sub-left : goal.overflow_sub-left
overflow_sub-left c =
    let rows : List Row = c.args.front.now ++ c.args.back.now in
    let left : length (certificates (drop c.rows.at rows)) ≡ suc (length (certificates (drop (c.rows.at + 1) rows))) =
    ap length (with_certificate rows c.rows.at c.in-Some.row.now c.in-Some-handed_out.certificate.now (sym c.in-Some.ensures.found) (sym c.in-Some-handed_out.ensures)) in
    let is = c.rows.invariant.left_is in
    omega (arith, left, is)

pub rows-smaller : goal.rows-smaller
rows-smaller c = omega (arith, slice_get_within (c.args.front.now ++ c.args.back.now) c.rows.at c.in-Some.row.now (sym c.in-Some.ensures.found))

pub rows-preserved : goal.rows-preserved
rows-preserved c =
    let rows : List Row = c.args.front.now ++ c.args.back.now in
    let there : slice_get rows c.rows.at ≡ Some c.in-Some.row.now = sym c.in-Some.ensures.found in
    let within = slice_get_within rows c.rows.at c.in-Some.row.now there in
    let left = c.rows.invariant.left_is in
    let behind : List (List ℕ) = certificates (drop (c.rows.at + 1) rows) in
    let step = listed_more most_listed c.rows.list c.match-handed_out.list (last_of most_listed (certificates rows)) (certificates (drop c.rows.at rows)) behind c.rows.invariant.so_far in
    elim c.match-handed_out.branch [
      | in-Some-handed_out w ↦
          let one = with_certificate rows c.rows.at c.in-Some.row.now w.in-Some-handed_out.certificate.now there (sym w.in-Some-handed_out.ensures) in
          let fewer : length (certificates (drop c.rows.at rows)) ≡ suc (length behind) = ap length one in
          elim w.if-left-le-MOST_LISTED.branch [
            | then-left-le-MOST_LISTED+in_ok-push w' ↦ record {
              within = omega (arith, within);
              left_is = omega (arith, left, w.left-is, fewer);
              so_far = step w.in-Some-handed_out.certificate.now one (omega (arith, left, w'.if-left-le-MOST_LISTED)) (w.list-is ∙ w'.list-is ∙ w'.in_ok-push.ensures.pushed);
            }
            | else-left-le-MOST_LISTED w' ↦ record {
              within = omega (arith, within);
              left_is = omega (arith, left, w.left-is, fewer);
              so_far = listed_past most_listed c.rows.list c.match-handed_out.list _ _ behind c.rows.invariant.so_far w.in-Some-handed_out.certificate.now one (omega (arith, left, w'.if-left-le-MOST_LISTED)) (w.list-is ∙ w'.list-is);
            }
          ]
      | in_default-handed_out w ↦
          let same = without_certificate rows c.rows.at c.in-Some.row.now there (sym w.in_default-handed_out.ensures) in
          let as_many : length (certificates (drop c.rows.at rows)) ≡ length behind = ap length same in
          record {
            within = omega (arith, within);
            left_is = omega (arith, left, w.left-is, as_many);
            so_far = listed_none most_listed c.rows.list c.match-handed_out.list _ _ behind c.rows.invariant.so_far same w.list-is;
          }
    ]

pub returns : goal.returns
returns c =
    let rows : List Row = c.args.front.now ++ c.args.back.now in
    let none = no_certificates rows c.rows.at (sym c.in_default.ensures.found) in
    sym (append-nil c.rows.list) ∙ ap (λ xs. c.rows.list ++ last_of most_listed xs) (sym none) ∙ c.rows.invariant.so_far
    ∙ ap (last_of most_listed) (of_both c.args.front.now c.args.back.now)
