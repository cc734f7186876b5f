use Rattle.std.proofs.Common.{List, ℕ, ◌++◌, sym, ◌∙◌, subst}
use Rattle.std.specs.Prelude.{IsTrue}
use Rattle.holder_reference.specs.Reference.{is_reference}
use Rattle.holder_reference.proofs.Joined.{joined_bytes, joined_reference}
use Rattle.holder_reference.proofs.Sizes.{sequence_fits}
use Rattle.holder_reference.proofs.reference.join.Goals as goal

pub keep_reference-requires : goal.keep_reference-requires
keep_reference-requires c =
    let five = rw (← c.as_slice-sequence.ensures.bytes) at (sequence_fits c.args.sequence.now c.as_slice-sequence.ensures.legal) in
    let legal : IsTrue (is_reference (c.as_slice-holder.result.now ++ c.as_slice-sequence.result.now)) =
    rw (c.as_slice-holder.ensures.bytes, c.as_slice-sequence.ensures.bytes)
    (joined_reference c.args.holder.now c.args.sequence.now c.as_slice-holder.ensures.legal c.as_slice-sequence.ensures.legal) in
    subst (λ (l : List ℕ). IsTrue (is_reference l))
    (sym (joined_bytes c.as_slice-holder.result.now c.as_slice-sequence.result.now _ _ _ _ c.copy_from_slice.ensures.after c.copy_from_slice-2.ensures.after five))
    legal

pub returns : goal.returns
returns c =
    let five = rw (← c.as_slice-sequence.ensures.bytes) at (sequence_fits c.args.sequence.now c.as_slice-sequence.ensures.legal) in
    c.keep_reference.ensures
    ∙ joined_bytes c.as_slice-holder.result.now c.as_slice-sequence.result.now _ _ _ _ c.copy_from_slice.ensures.after c.copy_from_slice-2.ensures.after five
    ∙ rw (c.as_slice-holder.ensures.bytes, c.as_slice-sequence.ensures.bytes)
