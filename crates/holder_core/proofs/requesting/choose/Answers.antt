use Rattle.std.proofs.Common.{◌≡◌, refl}
use Rattle.std.specs.Prelude.{List, ℕ, Some}
use Rattle.std.specs.Option.{option_copied}
use Rattle.holder_core.specs.Requesting.{home_signer, MissesChosen}
use Rattle.holder_core.specs.Signers.{missing_of}
use Rattle.holder_core.proofs.Signings.{signs_none, err_is, on_err}
use Rattle.holder_core.proofs.Choosings.{misses, chosen_is, broken_is, cause_chosen}
use Rattle.holder_core.proofs.requesting.choose.Goals as goal

pub returns-then-own-ge-MOST_KEYS-clause-signed : goal.returns-then-own-ge-MOST_KEYS-clause-signed
returns-then-own-ge-MOST_KEYS-clause-signed g c = signs_none _ _ refl

pub returns-in_default-clause-signed : goal.returns-in_default-clause-signed
returns-in_default-clause-signed g c = signs_none _ _ refl

pub returns-in_err-composed-clause-cause : goal.returns-in_err-composed-clause-cause
returns-in_err-composed-clause-cause g c = cause_chosen (λ (r : List ℕ). missing_of (g.P.SignatureProvider.holds c.args.provider.now) (home_signer (option_copied c.outer_row-outer.result)) ≡ Some r) (MissesChosen (g.P.SignatureProvider.holds c.args.provider.now) c.args.call.now.authority.now c.args.call.now.root.now (home_signer (option_copied c.args.home)) c.args.own.now c.args.cas.now) _ _ c.in_err-composed.field-0.0 _ (err_is _ _ c.from_residual.ensures.1) (misses c.args.own.now c.args.cas.now c.args.call.now.holder.now c.args.call.now.authority.now c.args.call.now.root.now (home_signer (option_copied c.args.home)) (home_signer (option_copied c.outer_row-outer.result)) c.fit-fit.result c.in-Some.above.now c.if-own-ge-MOST_KEYS.false c.fit-fit.ensures c.in-Some.ensures.newest c.in-Some.ensures.wanted c.outer_row-outer.ensures.signer (g.P.SignatureProvider.holds c.args.provider.now)) c.in_err-composed.ensures.cause

pub returns-in_err-composed-clause-broken : goal.returns-in_err-composed-clause-broken
returns-in_err-composed-clause-broken g c = on_err _ _ (broken_is c.args.own.now c.args.cas.now c.args.call.now.holder.now c.args.call.now.authority.now c.args.call.now.root.now (home_signer (option_copied c.args.home)) (home_signer (option_copied c.outer_row-outer.result)) c.fit-fit.result c.in-Some.above.now c.if-own-ge-MOST_KEYS.false c.fit-fit.ensures c.in-Some.ensures.newest c.in-Some.ensures.wanted c.outer_row-outer.ensures.signer (g.P.SignatureProvider.says c.compose_below.new.provider) (g.P.SignatureProvider.holds c.args.provider.now) (g.P.SignatureProvider.holds c.compose_below.new.provider) _ c.numbered-reference.result c.numbered-reference.ensures c.in_err-composed.ensures.broken)

pub returns-clause-chosen : goal.returns-clause-chosen
returns-clause-chosen g c = chosen_is c.args.own.now c.args.cas.now c.args.call.now.holder.now c.args.call.now.authority.now c.args.call.now.root.now (home_signer (option_copied c.args.home)) (home_signer (option_copied c.outer_row-outer.result)) c.fit-fit.result c.in-Some.above.now c.if-own-ge-MOST_KEYS.false c.fit-fit.ensures c.in-Some.ensures.newest c.in-Some.ensures.wanted c.outer_row-outer.ensures.signer (g.P.SignatureProvider.says c.compose_below.new.provider) (g.P.SignatureProvider.holds c.args.provider.now) (g.P.SignatureProvider.holds c.compose_below.new.provider) _ c.numbered-reference.result c.numbered-reference.ensures c.in_ok-composed.composed c.in_ok-composed.ensures.made
