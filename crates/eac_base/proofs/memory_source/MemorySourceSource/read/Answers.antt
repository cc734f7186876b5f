use Rattle.std.proofs.Common.{◌≡◌, ℕ, List, ◌-◌, ◌<◌, length, take, drop, ap, sym, ◌∙◌, arith, length-append, length-drop, length-take, subst}
use Rattle.eac_base.specs.Planned.{SourceValue}
use Rattle.eac_base.proofs.Pieces.{front_is_read, end_is_reached, rest_is_whole}
use Rattle.eac_base.proofs.memory_source.MemorySourceSource.read.Goals as goal

pub returns-clause-bytes : goal.returns-clause-bytes
returns-clause-bytes c =
    let input = c.self.inside.input in
    let at = c.self.inside.at in
    let n = c.given-count.result in
    let copied = c.copy_from_slice.new.self in
    let seen : c.args.self.now.left ≡ drop at input = ap (λ (v : SourceValue). v.left) (sym c.self.view_is) in
    let len : length copied ≡ n = c.copy_from_slice.ensures.len ∙ grind (arith, length-take n c.args.into.now, c.given-count.ensures) in
    let same = c.as_slice-bytes.ensures in
    let front : copied ≡ take n (drop at input) = c.copy_from_slice.ensures.after ∙ ap (λ (l : List ℕ). take n (take (length l - at) (drop at l))) same ∙ ap (take n) (rest_is_whole input at) in (
      seen ∙ front_is_read input c.args.into.now copied at n len front,
      λ none some. end_is_reached input at n (length c.args.into.now) (λ room rest. c.given-count.ensures.moves room (subst (λ (l : List ℕ). 0 < length (take (length l - at) (drop at l))) (sym same) (subst (λ l. 0 < length l) (sym (rest_is_whole input at)) rest)) c.self.invariant.1) none (omega (arith, length-append copied (drop n c.args.into.now), length-drop n c.args.into.now, length-take n c.args.into.now)),
    )
