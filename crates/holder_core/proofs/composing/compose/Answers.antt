use Rattle.std.specs.Prelude.{◌≡◌, List, ℕ, Some}
use Rattle.std.specs.Option.{option_copied}
use Rattle.holder_core.specs.Faults.{NoneMissing}
use Rattle.holder_core.specs.Requesting.{home_signer}
use Rattle.holder_core.specs.Signers.{missing_of}
use Rattle.holder_core.proofs.Signings.{signs_then, stays_then, err_is, on_err, cause_after, cause_more}
use Rattle.holder_core.proofs.Composings.{bare_broken, bare_length, finish_broken, missing_before, composed_is}
use Rattle.holder_core.proofs.composing.compose.Goals as goal

pub returns-in_err-bare-clause-broken : goal.returns-in_err-bare-clause-broken
returns-in_err-bare-clause-broken g c = on_err _ _ (bare_broken (g.P.SignatureProvider.says c.compose_bare.new.provider) (g.P.SignatureProvider.holds c.args.provider.now) (g.P.SignatureProvider.holds c.compose_bare.new.provider) _ c.args.reference c.args.authority c.args.like.now (home_signer (option_copied c.args.outer)) c.in_err-bare.ensures.broken)

pub finish-requires-clause-size : goal.finish-requires-clause-size
finish-requires-clause-size g c = bare_length (g.P.SignatureProvider.says c.compose_bare.new.provider) (g.P.SignatureProvider.holds c.args.provider.now) (g.P.SignatureProvider.holds c.compose_bare.new.provider) _ c.args.reference c.args.authority c.args.like.now c.in_ok-bare.bare c.in_ok-bare.ensures.made

pub returns-in_err-bytes-clause-broken : goal.returns-in_err-bytes-clause-broken
returns-in_err-bytes-clause-broken g c = on_err _ _ (finish_broken (g.P.SignatureProvider.says c.compose_bare.new.provider) (g.P.SignatureProvider.says c.finish.new.provider) (g.P.SignatureProvider.holds c.args.provider.now) (g.P.SignatureProvider.holds c.compose_bare.new.provider) (g.P.SignatureProvider.holds c.finish.new.provider) _ _ _ c.args.reference c.args.authority c.args.like.now c.in_ok-bare.bare c.in_ok-bare.ensures.made c.in_err-bytes.ensures.provider.says_more c.in_err-bytes.ensures.provider.holds_more (home_signer (option_copied c.args.outer)) c.in_err-bytes.ensures.broken)

pub returns-in_err-bytes-clause-signed : goal.returns-in_err-bytes-clause-signed
returns-in_err-bytes-clause-signed g c = signs_then _ _ _ c.in_ok-bare.ensures.signed c.in_err-bytes.ensures.signed

pub returns-in_err-bytes-clause-provider : goal.returns-in_err-bytes-clause-provider
returns-in_err-bytes-clause-provider g c = stays_then _ _ _ _ _ _ _ _ _ c.in_ok-bare.ensures.provider c.in_err-bytes.ensures.provider

pub returns-in_err-bytes-clause-cause : goal.returns-in_err-bytes-clause-cause
returns-in_err-bytes-clause-cause g c = cause_after NoneMissing (λ (r : List ℕ). missing_of (g.P.SignatureProvider.holds c.args.provider.now) (home_signer (option_copied c.args.outer)) ≡ Some r) _ _ _ c.in_ok-bare.bare c.in_err-bytes.field-0.0 _ (err_is _ _ c.from_residual-in_err-bytes.ensures.1) c.in_ok-bare.ensures.cause
    (cause_more (λ (r : List ℕ). missing_of (g.P.SignatureProvider.holds c.compose_bare.new.provider) (home_signer (option_copied c.args.outer)) ≡ Some r) (λ (r : List ℕ). missing_of (g.P.SignatureProvider.holds c.args.provider.now) (home_signer (option_copied c.args.outer)) ≡ Some r) _ _ c.in_err-bytes.field-0.0 (λ r. missing_before (g.P.SignatureProvider.holds c.args.provider.now) (g.P.SignatureProvider.holds c.compose_bare.new.provider) (home_signer (option_copied c.args.outer)) r c.in_ok-bare.ensures.provider.holds_more) c.in_err-bytes.ensures.cause)

pub returns-clause-made : goal.returns-clause-made
returns-clause-made g c = composed_is (g.P.SignatureProvider.says c.compose_bare.new.provider) (g.P.SignatureProvider.says c.finish.new.provider) (g.P.SignatureProvider.holds c.args.provider.now) (g.P.SignatureProvider.holds c.compose_bare.new.provider) (g.P.SignatureProvider.holds c.finish.new.provider) _ _ _ c.args.reference c.args.authority c.args.like.now c.in_ok-bare.bare (home_signer (option_copied c.args.outer)) c.in_ok-bytes.bytes c.in_ok-bare.ensures.made c.in_ok-bytes.ensures.provider.says_more c.in_ok-bytes.ensures.provider.holds_more c.in_ok-bytes.ensures.made

pub returns-clause-signed : goal.returns-clause-signed
returns-clause-signed g c = signs_then _ _ _ c.in_ok-bare.ensures.signed c.in_ok-bytes.ensures.signed

pub returns-clause-provider : goal.returns-clause-provider
returns-clause-provider g c = stays_then _ _ _ _ _ _ _ _ _ c.in_ok-bare.ensures.provider c.in_ok-bytes.ensures.provider
