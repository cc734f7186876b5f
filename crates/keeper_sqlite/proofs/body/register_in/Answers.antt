use Rattle.std.proofs.Common.{◌≡◌, sym, ◌∙◌, length, arith}
use Rattle.keeper.specs.declared.rows.Part.TheVariants as parts
use Rattle.std.specs.Prelude.{Some}
use Rattle.keeper_sqlite.proofs.Again.{register_steps, six}
use Rattle.keeper_sqlite.proofs.body.register_in.Goals as goal

pub returns : goal.returns
returns c =
    let day = c.in-Some-last_content.day.now in
    let size : length day ≡ 6 = omega (arith, c.in-len6.len_at_least, c.in-len6.len_below) in
    let read = register_steps c.args.body.now c.in-Some.request.now c.in-Some.rest.now day (sym c.in-Some.ensures) (sym c.in-Some-last_content.ensures) size in
    (λ i. Some (parts.Register (c.in_ok-from_slice.ensures i) (sym (six day size) i))) ∙ sym read
