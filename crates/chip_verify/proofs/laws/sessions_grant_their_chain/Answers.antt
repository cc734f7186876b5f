use Rattle.chip_verify.proofs.Grants.{session_grants}
use Rattle.chip_verify.proofs.laws.sessions_grant_their_chain.Goals as goal

pub returns : goal.returns
returns c = session_grants
