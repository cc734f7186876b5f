-- The row that is added may be kept.
use Rattle.std.proofs.Common.{◌≡◌, ℕ, ◌≤◌, Bool, List, length, sym, ap, subst, arith}
use Rattle.signature_provider.specs.Provider.{Says}
use Rattle.cvc_grammar.specs.declared.request.Request.{Request}
use Rattle.cvc_grammar.specs.Request.{IsRequest}
use Rattle.policy_limits.specs.declared.registration.Registration.{Registration}
use Rattle.keeper.specs.declared.rows.Row.{Row}
use Rattle.keeper.specs.declared.rows.Part.TheVariants as part
use Rattle.keeper.specs.declared.rows.Settled.{Settled}
use Rattle.keeper.specs.Rows.{IsStorable}
use Rattle.issue_core.specs.declared.issuing.making.Made.{Made}
use Rattle.issue_core.specs.declared.issuing.signer_row.Signer.{Signer}
use Rattle.issue_core.specs.Issuing.Calls.{IsMade}
use Rattle.issue_core.proofs.IssuingDesk.Sizes.{key_storable}

pub row_storable : (says : Says) (held : Bool) (desk : ℕ) (bytes kept : List ℕ) (r : Request) (g : Registration) (s : Signer) (days : ℕ × ℕ) (made : Made) (row : Row) →
    IsRequest r bytes → kept ≡ bytes → IsMade says held r g s days made →
    row ≡ record { desk = desk; reference = r.body.holder; part = part.Issued (record { request = kept; key = r.body.key; settled = made.settled }) } → IsStorable row
row_storable says held desk bytes kept r g s days made row is kept_is m row_is = subst (λ (x : Row). IsStorable x) (sym row_is) (record { request = request; key = key_storable r.body.key is.limits.key; settled = settled })
  where
    request : length kept ≤ 65535
    request = omega (arith, ap length kept_is, ap length is.spelling, is.limits.size)

    settled : length made.settled.certificate ≤ 65535
    settled = omega (arith, ap (λ (t : Settled). length t.certificate) m.settled, m.size)
