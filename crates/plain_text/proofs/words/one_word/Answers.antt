use Rattle.std.proofs.Common.{ap}
use Rattle.std.specs.Option.{option_copied}
use Rattle.plain_text.proofs.Cuts.{more_than_one}
use Rattle.plain_text.proofs.words.one_word.Goals as goal

pub returns-in-Some-after : goal.returns-in-Some-after
returns-in-Some-after c =
    let pieces_are = rw c.in-Some-after.is at c.cut.ensures.pieces in
    more_than_one (option_copied c.args.rest) c.in-Some.line.now c.cut.result.0.now c.in-Some-after.field-0.now (ap option_copied c.in-Some.is) pieces_are
