use Rattle.chip_events.proofs.ImportTurns.{presented_turn}
use Rattle.chip_events.proofs.laws.an_opening_and_a_showing_are_one.Goals as goal

pub returns : goal.returns
returns g c = λ first mid last p p' imports imports' acks acks' o o' certs result opens turns.
    presented_turn g.D.ChipDisk g.P.SignatureProvider first mid last p p' imports imports' acks acks' o o' certs result opens turns
