use Rattle.holder_reference.proofs.Padded.{padded}
use Rattle.holder_reference.proofs.Sizes.{holder_fits}
use Rattle.holder_reference.proofs.holder.keep_holder.Goals as goal

pub invariant_of-result : goal.invariant_of-result
invariant_of-result c =
    let bytes = c.args.bytes.now in
    let fits = holder_fits bytes c.requires in
    let p = padded 11 bytes fits in
    rw c.copy_from_slice.ensures.after (fits, p.size, p.parts, rw p.front c.requires)
