use Rattle.std.proofs.Common.{◌≡◌, [], refl}
use Rattle.std.specs.Option.{option_copied}
use Rattle.std.proofs.lemmas.List.Elements.{All-nil}
use Rattle.keeper.specs.declared.rows.Table.TheVariants as table
use Rattle.keeper.specs.Keeping.{IsDeskRow}
use Rattle.holder_core.specs.Requesting.{home_signer}
use Rattle.holder_core.proofs.Signings.{signs_none, err_is}
use Rattle.holder_core.proofs.Requestings.{told_lists, told_requested, told_signs, told_signs_then, signs_asked, untouched_signs, broken_signs, chosen_signs}
use Rattle.holder_core.proofs.Choosings.{chosen_of, told_same_lists, same_asked, entered_asked, cause_broken}
use Rattle.holder_core.proofs.requesting.make_request.Goals as goal

pub returns-in_err-own-clause-signs_asked : goal.returns-in_err-own-clause-signs_asked
returns-in_err-own-clause-signs_asked g c = signs_asked (g.P.SignatureProvider.says c.args.provider.now) (g.P.SignatureProvider.holds c.args.provider.now) (g.P.SignatureProvider.holds c.args.provider.now) (g.P.SignatureProvider.signed c.args.provider.now, g.P.SignatureProvider.signed c.args.provider.now) c.args.party c.args.holder.now c.args.authority.now c.args.root.now (home_signer (option_copied c.args.home)) [] [] (All-nil _) (All-nil _) (untouched_signs (g.P.SignatureProvider.says c.args.provider.now) (g.P.SignatureProvider.holds c.args.provider.now) (g.P.SignatureProvider.holds c.args.provider.now) (g.P.SignatureProvider.signed c.args.provider.now, g.P.SignatureProvider.signed c.args.provider.now) c.args.party c.args.holder.now c.args.authority.now c.args.root.now (home_signer (option_copied c.args.home)) [] [] (record { keys = refl; signed_is = refl }))

pub returns-in_err-own-clause-signed : goal.returns-in_err-own-clause-signed
returns-in_err-own-clause-signed g c = signs_none _ _ refl

pub returns-in_err-cas-clause-signed : goal.returns-in_err-cas-clause-signed
returns-in_err-cas-clause-signed g c = signs_none _ _ refl

pub returns-in_err-answer-clause-signs : goal.returns-in_err-answer-clause-signs
returns-in_err-answer-clause-signs g c = told_signs (g.P.SignatureProvider.says c.choose.new.provider) (g.P.SignatureProvider.holds c.args.provider.now) (g.P.SignatureProvider.holds c.choose.new.provider) (g.P.SignatureProvider.signed c.args.provider.now, g.P.SignatureProvider.signed c.choose.new.provider) c.args.party c.args.holder.now c.args.authority.now c.args.root.now (home_signer (option_copied c.args.home)) _ _ c.as_slice.result.now c.as_slice-2.result.now (broken_signs (g.P.SignatureProvider.says c.choose.new.provider) (g.P.SignatureProvider.holds c.args.provider.now) (g.P.SignatureProvider.holds c.choose.new.provider) (g.P.SignatureProvider.signed c.args.provider.now, g.P.SignatureProvider.signed c.choose.new.provider) c.args.party c.args.holder.now c.args.authority.now c.args.root.now (home_signer (option_copied c.args.home)) c.as_slice.result.now c.as_slice-2.result.now (same_asked (IsDeskRow table.Own c.args.party) c.in_ok-own.own c.as_slice.result.now c.as_slice.ensures c.in_ok-own.ensures.asked) (same_asked (IsDeskRow table.Ca c.args.party) c.in_ok-cas.cas c.as_slice-2.result.now c.as_slice-2.ensures c.in_ok-cas.ensures.asked) c.in_err-answer.ensures.broken) (told_same_lists _ _ c.in_ok-own.own c.in_ok-cas.cas c.as_slice.result.now c.as_slice-2.result.now c.args.party c.as_slice.ensures c.as_slice-2.ensures (told_lists _ _ _ c.args.party c.in_ok-own.own c.in_ok-cas.cas c.in_ok-own.ensures.told c.in_ok-cas.ensures.told))

pub returns-in_err-answer-clause-signs_asked : goal.returns-in_err-answer-clause-signs_asked
returns-in_err-answer-clause-signs_asked g c = signs_asked (g.P.SignatureProvider.says c.choose.new.provider) (g.P.SignatureProvider.holds c.args.provider.now) (g.P.SignatureProvider.holds c.choose.new.provider) (g.P.SignatureProvider.signed c.args.provider.now, g.P.SignatureProvider.signed c.choose.new.provider) c.args.party c.args.holder.now c.args.authority.now c.args.root.now (home_signer (option_copied c.args.home)) c.as_slice.result.now c.as_slice-2.result.now (same_asked (IsDeskRow table.Own c.args.party) c.in_ok-own.own c.as_slice.result.now c.as_slice.ensures c.in_ok-own.ensures.asked) (same_asked (IsDeskRow table.Ca c.args.party) c.in_ok-cas.cas c.as_slice-2.result.now c.as_slice-2.ensures c.in_ok-cas.ensures.asked) (broken_signs (g.P.SignatureProvider.says c.choose.new.provider) (g.P.SignatureProvider.holds c.args.provider.now) (g.P.SignatureProvider.holds c.choose.new.provider) (g.P.SignatureProvider.signed c.args.provider.now, g.P.SignatureProvider.signed c.choose.new.provider) c.args.party c.args.holder.now c.args.authority.now c.args.root.now (home_signer (option_copied c.args.home)) c.as_slice.result.now c.as_slice-2.result.now (same_asked (IsDeskRow table.Own c.args.party) c.in_ok-own.own c.as_slice.result.now c.as_slice.ensures c.in_ok-own.ensures.asked) (same_asked (IsDeskRow table.Ca c.args.party) c.in_ok-cas.cas c.as_slice-2.result.now c.as_slice-2.ensures c.in_ok-cas.ensures.asked) c.in_err-answer.ensures.broken)

pub returns-in_err-answer-clause-cause : goal.returns-in_err-answer-clause-cause
returns-in_err-answer-clause-cause g c = cause_broken (g.P.SignatureProvider.holds c.args.provider.now) c.args.party c.args.authority.now c.args.root.now (home_signer (option_copied c.args.home)) c.as_slice.result.now c.as_slice-2.result.now (same_asked (IsDeskRow table.Own c.args.party) c.in_ok-own.own c.as_slice.result.now c.as_slice.ensures c.in_ok-own.ensures.asked) (same_asked (IsDeskRow table.Ca c.args.party) c.in_ok-cas.cas c.as_slice-2.result.now c.as_slice-2.ensures c.in_ok-cas.ensures.asked) _ _ _ _ _ c.in_ok-own.own c.in_ok-cas.cas c.in_err-answer.field-0.0 _ (err_is _ _ c.from_residual-in_err-answer.ensures.1) c.in_ok-own.ensures.cause c.in_ok-cas.ensures.cause c.in_err-answer.ensures.cause

pub returns-clause-requests : goal.returns-clause-requests
returns-clause-requests g c = told_requested (g.P.SignatureProvider.says c.choose.new.provider) (g.P.SignatureProvider.holds c.args.provider.now) (g.P.SignatureProvider.holds c.choose.new.provider) (g.P.SignatureProvider.signed c.args.provider.now, g.P.SignatureProvider.signed c.choose.new.provider) c.args.party c.args.holder.now c.args.authority.now c.args.root.now (home_signer (option_copied c.args.home)) _ _ _ c.as_slice.result.now c.as_slice-2.result.now c.in-Composed.reference c.in-Composed.composed c.enter.result (chosen_of (g.P.SignatureProvider.says c.choose.new.provider) (g.P.SignatureProvider.holds c.args.provider.now) (g.P.SignatureProvider.holds c.choose.new.provider) (g.P.SignatureProvider.signed c.args.provider.now, g.P.SignatureProvider.signed c.choose.new.provider) c.args.holder.now c.args.authority.now c.args.root.now (home_signer (option_copied c.args.home)) c.as_slice.result.now c.as_slice-2.result.now c.in_ok-answer.field-0 c.in-Composed.reference c.in-Composed.composed c.in-Composed.is c.in_ok-answer.ensures.chosen) (told_same_lists _ _ c.in_ok-own.own c.in_ok-cas.cas c.as_slice.result.now c.as_slice-2.result.now c.args.party c.as_slice.ensures c.as_slice-2.ensures (told_lists _ _ _ c.args.party c.in_ok-own.own c.in_ok-cas.cas c.in_ok-own.ensures.told c.in_ok-cas.ensures.told)) c.enter.ensures.told

pub returns-clause-signs : goal.returns-clause-signs
returns-clause-signs g c = told_signs_then (g.P.SignatureProvider.says c.choose.new.provider) (g.P.SignatureProvider.holds c.args.provider.now) (g.P.SignatureProvider.holds c.choose.new.provider) (g.P.SignatureProvider.signed c.args.provider.now, g.P.SignatureProvider.signed c.choose.new.provider) c.args.party c.args.holder.now c.args.authority.now c.args.root.now (home_signer (option_copied c.args.home)) _ _ _ c.as_slice.result.now c.as_slice-2.result.now _ (chosen_signs (g.P.SignatureProvider.says c.choose.new.provider) (g.P.SignatureProvider.holds c.args.provider.now) (g.P.SignatureProvider.holds c.choose.new.provider) (g.P.SignatureProvider.signed c.args.provider.now, g.P.SignatureProvider.signed c.choose.new.provider) c.args.party c.args.holder.now c.args.authority.now c.args.root.now (home_signer (option_copied c.args.home)) c.as_slice.result.now c.as_slice-2.result.now (same_asked (IsDeskRow table.Own c.args.party) c.in_ok-own.own c.as_slice.result.now c.as_slice.ensures c.in_ok-own.ensures.asked) (same_asked (IsDeskRow table.Ca c.args.party) c.in_ok-cas.cas c.as_slice-2.result.now c.as_slice-2.ensures c.in_ok-cas.ensures.asked) c.in-Composed.reference c.in-Composed.composed (chosen_of (g.P.SignatureProvider.says c.choose.new.provider) (g.P.SignatureProvider.holds c.args.provider.now) (g.P.SignatureProvider.holds c.choose.new.provider) (g.P.SignatureProvider.signed c.args.provider.now, g.P.SignatureProvider.signed c.choose.new.provider) c.args.holder.now c.args.authority.now c.args.root.now (home_signer (option_copied c.args.home)) c.as_slice.result.now c.as_slice-2.result.now c.in_ok-answer.field-0 c.in-Composed.reference c.in-Composed.composed c.in-Composed.is c.in_ok-answer.ensures.chosen)) (told_same_lists _ _ c.in_ok-own.own c.in_ok-cas.cas c.as_slice.result.now c.as_slice-2.result.now c.args.party c.as_slice.ensures c.as_slice-2.ensures (told_lists _ _ _ c.args.party c.in_ok-own.own c.in_ok-cas.cas c.in_ok-own.ensures.told c.in_ok-cas.ensures.told)) c.enter.ensures.told

pub returns-clause-answered : goal.returns-clause-answered
returns-clause-answered g c = entered_asked (g.P.SignatureProvider.says c.choose.new.provider) (g.P.SignatureProvider.holds c.args.provider.now) (g.P.SignatureProvider.holds c.choose.new.provider) (g.P.SignatureProvider.signed c.args.provider.now, g.P.SignatureProvider.signed c.choose.new.provider) c.args.party c.args.holder.now c.args.authority.now c.args.root.now (home_signer (option_copied c.args.home)) c.as_slice.result.now c.as_slice-2.result.now (same_asked (IsDeskRow table.Own c.args.party) c.in_ok-own.own c.as_slice.result.now c.as_slice.ensures c.in_ok-own.ensures.asked) (same_asked (IsDeskRow table.Ca c.args.party) c.in_ok-cas.cas c.as_slice-2.result.now c.as_slice-2.ensures c.in_ok-cas.ensures.asked) c.in-Composed.reference c.in-Composed.composed c.enter.result (chosen_of (g.P.SignatureProvider.says c.choose.new.provider) (g.P.SignatureProvider.holds c.args.provider.now) (g.P.SignatureProvider.holds c.choose.new.provider) (g.P.SignatureProvider.signed c.args.provider.now, g.P.SignatureProvider.signed c.choose.new.provider) c.args.holder.now c.args.authority.now c.args.root.now (home_signer (option_copied c.args.home)) c.as_slice.result.now c.as_slice-2.result.now c.in_ok-answer.field-0 c.in-Composed.reference c.in-Composed.composed c.in-Composed.is c.in_ok-answer.ensures.chosen) c.enter.ensures.answered

pub returns-clause-signs_asked : goal.returns-clause-signs_asked
returns-clause-signs_asked g c = signs_asked (g.P.SignatureProvider.says c.choose.new.provider) (g.P.SignatureProvider.holds c.args.provider.now) (g.P.SignatureProvider.holds c.choose.new.provider) (g.P.SignatureProvider.signed c.args.provider.now, g.P.SignatureProvider.signed c.choose.new.provider) c.args.party c.args.holder.now c.args.authority.now c.args.root.now (home_signer (option_copied c.args.home)) c.as_slice.result.now c.as_slice-2.result.now (same_asked (IsDeskRow table.Own c.args.party) c.in_ok-own.own c.as_slice.result.now c.as_slice.ensures c.in_ok-own.ensures.asked) (same_asked (IsDeskRow table.Ca c.args.party) c.in_ok-cas.cas c.as_slice-2.result.now c.as_slice-2.ensures c.in_ok-cas.ensures.asked) (chosen_signs (g.P.SignatureProvider.says c.choose.new.provider) (g.P.SignatureProvider.holds c.args.provider.now) (g.P.SignatureProvider.holds c.choose.new.provider) (g.P.SignatureProvider.signed c.args.provider.now, g.P.SignatureProvider.signed c.choose.new.provider) c.args.party c.args.holder.now c.args.authority.now c.args.root.now (home_signer (option_copied c.args.home)) c.as_slice.result.now c.as_slice-2.result.now (same_asked (IsDeskRow table.Own c.args.party) c.in_ok-own.own c.as_slice.result.now c.as_slice.ensures c.in_ok-own.ensures.asked) (same_asked (IsDeskRow table.Ca c.args.party) c.in_ok-cas.cas c.as_slice-2.result.now c.as_slice-2.ensures c.in_ok-cas.ensures.asked) c.in-Composed.reference c.in-Composed.composed (chosen_of (g.P.SignatureProvider.says c.choose.new.provider) (g.P.SignatureProvider.holds c.args.provider.now) (g.P.SignatureProvider.holds c.choose.new.provider) (g.P.SignatureProvider.signed c.args.provider.now, g.P.SignatureProvider.signed c.choose.new.provider) c.args.holder.now c.args.authority.now c.args.root.now (home_signer (option_copied c.args.home)) c.as_slice.result.now c.as_slice-2.result.now c.in_ok-answer.field-0 c.in-Composed.reference c.in-Composed.composed c.in-Composed.is c.in_ok-answer.ensures.chosen))
