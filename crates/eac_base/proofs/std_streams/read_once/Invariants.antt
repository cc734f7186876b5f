use Rattle.std.specs.Io.KnownBytes.{Keeps}
use Rattle.eac_base.proofs.std_streams.read_once.Given as goal

abbrev pub invariant-tries : goal.invariant-tries
invariant-tries g l = Keeps (g.R.Read.remaining l.fn.reader) (g.R.Read.remaining l.reader)
