use Rattle.std.proofs.Common.{◌≡◌, ℕ, ◌-◌, List, [], ◌∷◌, ◌++◌, sym, ap, ◌∙◌}
use Rattle.std.specs.Prelude.{map}
use Rattle.terminal_desk.specs.Walks.{risen}
use Rattle.terminal_desk.proofs.Rising.{up_more}
use Rattle.terminal_desk.proofs.chain.copy_up.Goals as goal

pub up-preserved : goal.up-preserved
up-preserved c =
    let whole : List (List ℕ) = map (λ s. s.certificate) (c.args.own.now ∷ risen c.args.cas.now c.args.steps c.args.own.now) in
    let pushed : c.push-in-Some.new.self ≡ c.up.upward ++ c.in-Some.issuer.now.certificate ∷ [] = c.in_ok-push-2.ensures.pushed ∙ ap (λ (b : List ℕ). c.up.upward ++ b ∷ []) c.as_slice-in-Some.ensures in
    ap (λ (u : List (List ℕ)). u ++ map (λ s. s.certificate) (risen c.args.cas.now (c.up.left - 1) c.in-Some.issuer.now)) pushed
    ∙ up_more c.args.cas.now c.up.upward whole c.up.left c.up.below.now c.in-Some.issuer.now (sym c.in-Some.ensures) c.up.invariant
