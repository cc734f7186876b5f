use Rattle.std.proofs.Common.{◌≡◌, ◌<◌, List, length, ◌⊎◌, inl, inr, subst, arith, false}
use Rattle.signature_provider.specs.Provider.{PublicKey, viewed_key}
use Rattle.signature_provider.specs.Instruments.{is_among}
use Rattle.signature_provider.proofs.NumberedKeys.{not_among, is_at}
use Rattle.signature_provider.proofs.made_keys.MadeKeys.has.Goals.{then-number-eq0-via-then-number-eq0, then-number-eq0-via-else-number-eq0+then-len-number}
use Rattle.signature_provider.proofs.made_keys.MadeKeys.has.Goals as goal

pub returns-then-number-eq0 : goal.returns-then-number-eq0
returns-then-number-eq0 c =
    let keys = c.self.inside.keys.items in
    let key = viewed_key c.args.key in
    let outside : (c.number_in-number.result ≡ 0) ⊎ (length keys < c.number_in-number.result) = elim c.then-number-eq0.branch [
      | then-number-eq0-via-then-number-eq0 w ↦ inl w.if-number-eq0.true
      | then-number-eq0-via-else-number-eq0+then-len-number w ↦ inr (omega (arith, w.if-len-number.true))
    ] in
    subst (λ (made : List PublicKey). false ≡ is_among made key) c.self.view_is (not_among keys key c.number_in-number.result c.self.invariant (omega arith) c.number_in-number.ensures outside)

pub returns : goal.returns
returns c =
    let keys = c.self.inside.keys.items in
    let key = viewed_key c.args.key in
    subst (λ (made : List PublicKey). c.is.result ≡ is_among made key) c.self.view_is
    (is_at keys key c.number_in-number.result c.index.result.now c.is.result c.self.invariant (omega arith) c.number_in-number.ensures c.if-number-eq0.false (omega arith) c.index.ensures c.is.ensures)
