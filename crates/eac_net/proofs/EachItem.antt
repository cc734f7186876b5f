-- What is said of one item holds of each item of a run.
use Rattle.std.proofs.Common.{◌≡◌, inl, inr, [], ◌∷◌, sym, ap, ◌∙◌, subst}
use Rattle.signature_provider.specs.Provider.{SaysMore}
use Rattle.eac_net.specs.Items.{Ran}
use Rattle.eac_net.specs.Laws.{EachItem}
use Rattle.eac_net.specs.Moment.{Moment}
use Rattle.eac_net.specs.Untold.{AnswersTo}
use Rattle.eac_net.proofs.TrueVerdicts.{says_then, step_says, says_grow}

pub each_item : EachItem
each_item setup k k' [] i ran h = absurd h
each_item setup k k' (x ∷ items) i ran (inl e) =
    let from : k ≡ i.from = sym ran.1.from ∙ ap (λ (y : Ran). y.from) (sym e) in
    let to : ran.0 ≡ i.to = sym ran.1.to ∙ ap (λ (y : Ran). y.to) (sym e) in
    record {
      answers = subst (AnswersTo setup) (sym e) ran.1.answers;
      before = subst (λ (m : Moment). SaysMore k.says m.says) from (λ key message signature s. s);
      after = subst (λ (m : Moment). SaysMore m.says k'.says) to (says_grow setup ran.0 k' items ran.2);
    }
each_item setup k k' (x ∷ items) i ran (inr h) =
    let rest = each_item setup ran.0 k' items i ran.2 h in
    record {
      answers = rest.answers;
      before = says_then k.says ran.0.says i.from.says (step_says setup k ran.0 x ran.1) rest.before;
      after = rest.after;
    }
