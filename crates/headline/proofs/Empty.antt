-- A run may begin where there are no rows.
use Rattle.std.proofs.Common.{[]}
use Rattle.std.proofs.lemmas.List.Elements.{All-nil}
use Rattle.signature_provider.specs.Provider.{public_key}
use Rattle.std.specs.Prelude.{◌≡◌, IfSome, true}
use Rattle.policy_limits.specs.Setup.{SetupValue}
use Rattle.keeper.specs.declared.rows.Row.{Row}
use Rattle.holder_core.specs.Lawful.{IsFounded}
use Rattle.holder_core.specs.OwnRows.{own_part}
use Rattle.eac_net.specs.Made.{IsGood}
use Rattle.eac_net.specs.Objects.{Outside}
use Rattle.eac_net.specs.SoFar.{IsStart}

pub none_at_the_start : (setup : SetupValue) (o : Outside) → IsStart setup o []
none_at_the_start setup o = record {
  lawful = record {
    readable = tt;
    numbered = λ desk p is. tt;
    founded = λ desk p is authority. All-nil IsFounded;
  };
  held = All-nil (λ (row : Row). IfSome (own_part row.part) (λ own. o.holds (public_key own.key) ≡ true));
  good = All-nil (IsGood o.says);
}
