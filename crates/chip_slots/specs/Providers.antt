-- A provider that was only asked for verdicts.
use Rattle.std.specs.Prelude.{◌≡◌, ◌≤◌}
use Rattle.signature_provider.specs.declared.provider.SignatureProvider.{Ghosts as ProviderOf}

-- It says, holds and has signed what it did, and its count of faults has not fallen.
pub record IsOnlyAsked {P : Type 0} (G : ProviderOf P) (old new : P) : Type 0 where
  pub verdicts : G.says new ≡ G.says old
  pub keys : G.holds new ≡ G.holds old
  pub pairs : G.signed new ≡ G.signed old
  pub faults : G.faults old ≤ G.faults new
