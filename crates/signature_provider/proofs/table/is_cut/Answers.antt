use Rattle.std.proofs.Common.{true, false, refl, ◌∙◌, sym}
use Rattle.std.specs.Str.{bytes_eq}
use Rattle.signature_provider.proofs.Tables.{cut_both}
use Rattle.signature_provider.proofs.table.is_cut.Goals as goal

pub returns-then-is_same : goal.returns-then-is_same
returns-then-is_same c =
    cut_both c.args.whole.now c.args.first.now c.args.second.now c.split_at.result.0.now c.split_at.result.1.now true c.is_same-then-is_same.result
    c.split_at.ensures.front c.split_at.ensures.back (sym c.if-is_same.true ∙ c.is_same.ensures) c.is_same-then-is_same.ensures

pub returns-else-is_same : goal.returns-else-is_same
returns-else-is_same c =
    let back = c.split_at.result.1.now in
    let both = cut_both c.args.whole.now c.args.first.now c.args.second.now c.split_at.result.0.now back false (bytes_eq back c.args.second.now)
    c.split_at.ensures.front c.split_at.ensures.back (sym c.if-is_same.false ∙ c.is_same.ensures) refl
    in c.if-is_same.false ∙ both
