use Rattle.std.proofs.Common.{◌≡◌, ◌+◌, ◌^◌, ◌<◌, [], ◌∷◌, ◌++◌, length, ap, ◌∙◌, subst, arith}
use Rattle.std.proofs.Common.{List}
use Rattle.signature_provider.specs.Provider.{PublicKey, public_key, MakesKey}
use Rattle.signature_provider.specs.Instruments.{numbered_point, is_among}
use Rattle.signature_provider.proofs.NumberedKeys.{makes_next, numbered_next}
use Rattle.signature_provider.proofs.made_keys.MadeKeys.make.Goals as goal

pub invariant_of-self-2 : goal.invariant_of-self-2
invariant_of-self-2 c =
    let keys = c.self.inside.keys.items in
    let kept : c.in_ok-kept.kept ≡ public_key c.in_ok-key.key = c.in_ok-kept.ensures ∙ c.view.ensures in
    let number : c.len.result + 1 ≡ length keys + 1 = omega arith in
    let point = c.in_ok-key.ensures.point ∙ ap (numbered_point c.args.like.now.algorithm) number in
    let added = c.in_ok-push.ensures.items ∙ ap (λ (k : PublicKey). keys ++ k ∷ []) kept in
    numbered_next keys c.push.new.self.items (public_key c.in_ok-key.key) c.args.like.now.algorithm c.self.invariant c.in_ok-key.ensures.algorithm point added

pub returns-clause-made : goal.returns-clause-made
returns-clause-made c =
    let keys = c.self.inside.keys.items in
    let kept : c.in_ok-kept.kept ≡ public_key c.in_ok-key.key = c.in_ok-kept.ensures ∙ c.view.ensures in
    let number : c.len.result + 1 ≡ length keys + 1 = omega arith in
    let fits : length keys + 1 < 2 ^ 64 = omega arith in
    let point = c.in_ok-key.ensures.point ∙ ap (numbered_point c.args.like.now.algorithm) number in
    let added = c.in_ok-push.ensures.items ∙ ap (λ (k : PublicKey). keys ++ k ∷ []) kept in
    let made = makes_next keys c.push.new.self.items c.args.like.now c.in_ok-key.key c.self.invariant c.requires fits c.in_ok-key.ensures.algorithm c.in_ok-key.ensures.domain c.in_ok-key.ensures.cofactor point added in
    subst (λ (held : List PublicKey). MakesKey (is_among held) (is_among c.push.new.self.items) c.args.like.now c.in_ok-key.key) c.self.view_is made
