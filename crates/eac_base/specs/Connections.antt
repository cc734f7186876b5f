-- A connection and a listener in memory (this project's own).
use Rattle.std.specs.Prelude.{ℕ, ◌+◌, ◌-◌, List, ◌∷◌, [], ◌++◌, drop, Bool, ◌&&◌, nat_eq, Result, Ok, Err}
use Rattle.eac_base.specs.Bytes.{is_empty}
use Rattle.eac_base.specs.Planned.{SourceValue, SinkValue, next_count}
use Rattle.eac_base.specs.Listening.{Finished}

pub record ConnValue : Type 0 where
  pub source : SourceValue
  pub sink : SinkValue

-- nothing was read or written yet
abbrev pub is_fresh : ConnValue → Bool
is_fresh c =
    nat_eq c.source.given 0 && nat_eq c.source.calls 0 && nat_eq c.source.faults 0
    && is_empty c.sink.taken && nat_eq c.sink.calls 0 && nat_eq c.sink.faults 0

abbrev pub input_of : ConnValue → List ℕ
input_of c = c.source.left

abbrev pub finished_of : ConnValue → Finished
finished_of c = record { taken = c.sink.taken; read_faults = c.source.faults; write_faults = c.sink.faults }

-- A listener in memory: the connections to come and the finished ones, how many are out, its plan, and its numbers of
-- calls and of faults.
pub record ListenerValue : Type 0 where
  pub coming : List ConnValue
  pub finished : List ConnValue
  pub out : ℕ
  pub plan : List ℕ
  pub calls : ℕ
  pub faults : ℕ

-- a listener after an accepting with this result
abbrev pub after_accept : {E : Type 0} → ListenerValue → Result ConnValue E → ListenerValue
after_accept l (Ok c) = record l { coming = drop 1 l.coming; out = l.out + 1; calls = next_count l.calls }
after_accept l (Err e) = record l { calls = next_count l.calls; faults = next_count l.faults }

-- a listener after this connection was given back
abbrev pub after_finish : ListenerValue → ConnValue → ListenerValue
after_finish l c = record l { finished = l.finished ++ c ∷ []; out = l.out - 1 }
