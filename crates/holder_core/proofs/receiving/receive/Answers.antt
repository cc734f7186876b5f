use Rattle.std.proofs.Common.{◌≡◌, ◌∙◌, List, [], ◌∷◌, length, None, sym, ap, arith}
use Rattle.std.specs.Prelude.{slice_get}
use Rattle.std.proofs.lemmas.Grind.{common_steps}
use Rattle.std.proofs.lemmas.List.{length-append}
use Rattle.std.proofs.lemmas.Option.{slice_get_within}
use Rattle.holder_core.specs.declared.received.Item.{Item}
use Rattle.holder_core.proofs.Receivings.{told_next, told_broken, next_asked, broken_asked, all_taken, told_all, all_asked}
use Rattle.holder_core.proofs.receiving.receive.Goals as goal

pub returns-in-Err-clause-received : goal.returns-in-Err-clause-received
returns-in-Err-clause-received g c = told_broken (g.P.SignatureProvider.says c.args.provider.now) _ c.args.party c.loop-bytes.invariant.says c.args.certificates.now c.loop-bytes.at c.in-Some.bytes.now (sym c.in-Some.ensures) c.loop-bytes.items.items c.take_next.new.items.items c.from_vec.result c.in-Err.fault _ _ _ (c.from_vec.ensures ∙ c.in-Err.ensures.kept) c.loop-bytes.invariant.told c.in-Err.ensures.took

pub returns-in-Err-clause-answered : goal.returns-in-Err-clause-answered
returns-in-Err-clause-answered g c = broken_asked (g.P.SignatureProvider.says c.args.provider.now) _ c.args.party c.loop-bytes.invariant.says c.args.certificates.now c.loop-bytes.at c.in-Some.bytes.now (sym c.in-Some.ensures) c.loop-bytes.items.items c.from_vec.result c.in-Err.fault (c.from_vec.ensures ∙ c.in-Err.ensures.kept) c.loop-bytes.invariant.answered

pub overflow_add-at : goal.overflow_add-at
overflow_add-at g c = omega (arith, ap (λ (x : List Item). length x) c.in-Ok.ensures.answered.1, length-append c.loop-bytes.items.items (c.in-Ok.ensures.answered.0 ∷ []))

pub loop-bytes-smaller : goal.loop-bytes-smaller
loop-bytes-smaller g c = omega (arith, slice_get_within c.args.certificates.now c.loop-bytes.at c.in-Some.bytes.now (sym c.in-Some.ensures))

pub loop-bytes-preserved : goal.loop-bytes-preserved
loop-bytes-preserved g c = record {
  within = omega (arith, slice_get_within c.args.certificates.now c.loop-bytes.at c.in-Some.bytes.now (sym c.in-Some.ensures));
  count = omega (arith, ap (λ (x : List Item). length x) c.in-Ok.ensures.answered.1, length-append c.loop-bytes.items.items (c.in-Ok.ensures.answered.0 ∷ []));
  told = told_next (g.P.SignatureProvider.says c.args.provider.now) _ c.args.party c.loop-bytes.invariant.says c.args.certificates.now c.loop-bytes.at c.in-Some.bytes.now (sym c.in-Some.ensures) c.loop-bytes.items.items c.take_next.new.items.items _ _ _ c.loop-bytes.invariant.told c.in-Ok.ensures.took;
  answered = next_asked (g.P.SignatureProvider.says c.args.provider.now) _ c.args.party c.loop-bytes.invariant.says c.args.certificates.now c.loop-bytes.at c.in-Some.bytes.now (sym c.in-Some.ensures) c.loop-bytes.items.items c.take_next.new.items.items c.loop-bytes.invariant.answered c.in-Ok.ensures.answered;
  kept = c.in-Ok.ensures.cause.keeper_quiet (λ e. absurd (cc)) ∙ c.loop-bytes.invariant.kept;
  quiet = c.in-Ok.ensures.cause.provider_quiet (λ e. absurd (cc)) ∙ c.loop-bytes.invariant.quiet;
  says = c.in-Ok.ensures.says ∙ c.loop-bytes.invariant.says;
  holds = c.in-Ok.ensures.holds ∙ c.loop-bytes.invariant.holds;
  signed = c.in-Ok.ensures.signed ∙ c.loop-bytes.invariant.signed;
}

pub returns-clause-received : goal.returns-clause-received
returns-clause-received g c =
    let none : slice_get c.args.certificates.now c.loop-bytes.at ≡ None = grind (arith, common_steps) in
    told_all (g.P.SignatureProvider.says c.args.provider.now) c.args.party c.args.certificates.now c.loop-bytes.at c.loop-bytes.items.items c.from_vec-2.result _ _ (all_taken c.args.certificates.now c.loop-bytes.at c.loop-bytes.invariant.within none) c.from_vec-2.ensures c.loop-bytes.invariant.told

pub returns-clause-answered : goal.returns-clause-answered
returns-clause-answered g c =
    let none : slice_get c.args.certificates.now c.loop-bytes.at ≡ None = grind (arith, common_steps) in
    all_asked (g.P.SignatureProvider.says c.args.provider.now) c.args.party c.args.certificates.now c.loop-bytes.at c.loop-bytes.items.items c.from_vec-2.result (all_taken c.args.certificates.now c.loop-bytes.at c.loop-bytes.invariant.within none) c.from_vec-2.ensures c.loop-bytes.invariant.answered
