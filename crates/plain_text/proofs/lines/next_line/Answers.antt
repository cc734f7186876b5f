use Rattle.std.proofs.Common.{◌∷◌, arith, length, drop, take, ◌-◌, length-take, sym, ap, ◌∙◌}
use Rattle.std.specs.Str.Lines.{lines}
use Rattle.plain_text.proofs.Cuts.{behind, line_some, line_last}
use Rattle.plain_text.proofs.lines.next_line.Goals as goal

pub returns-then-at-bytes-clause-lines : goal.returns-then-at-bytes-clause-lines
returns-then-at-bytes-clause-lines c =
    line_some c.args.bytes.now c.first_at-at.result c.first_at-at.ensures c.if-at-bytes.true
    ∙ ap (λ l. l ∷ lines (behind c.first_at-at.result c.args.bytes.now)) (sym c.strip_carriage_return.ensures)

pub returns-else-at-bytes-clause-lines : goal.returns-else-at-bytes-clause-lines
returns-else-at-bytes-clause-lines c = line_last c.args.bytes.now (take (length c.args.bytes.now - length c.args.bytes.now) (drop (length c.args.bytes.now) c.args.bytes.now)) c.requires (omega arith) (omega (arith, length-take (length c.args.bytes.now - length c.args.bytes.now) (drop (length c.args.bytes.now) c.args.bytes.now)))
