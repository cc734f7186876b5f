use Rattle.std.proofs.Common.{◌≡◌, ◌<◌, false, length, ap, ◌∙◌, arith, length-set}
use Rattle.terminal_desk.proofs.Marks.{one_more, unmarked_all}
use Rattle.terminal_desk.proofs.met.Met.forget.Goals as goal

pub marks-preserved : goal.marks-preserved
marks-preserved c =
    let all = c.marks.invariant.all in
    let within : c.marks.at < length c.marks.self-inside.marks.items = omega arith in
    record {
      all = length-set c.marks.self-inside.marks.items c.marks.at false ∙ all;
      unmarked = λ p less. one_more c.marks.self-inside.marks.items c.marks.at p within (c.marks.invariant.unmarked p) less;
    }

pub returns : goal.returns
returns c =
    let seen : length c.self.inside.marks.items ≡ length c.args.self.now = ap length c.self.view_is in
    unmarked_all c.marks.self-inside.marks.items (length c.args.self.now) (c.marks.invariant.all ∙ seen) (λ p less. c.marks.invariant.unmarked p (omega arith))
