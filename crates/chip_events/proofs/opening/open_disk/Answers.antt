use Rattle.chip_events.proofs.DiskOpenings.{opens_to}
use Rattle.chip_events.proofs.opening.open_disk.Goals as goal

pub returns-clause-opened : goal.returns-clause-opened
returns-clause-opened g c = λ number.
    let e = c.open_chip.ensures in
    opens_to g.D.ChipDisk c.args.disk.now c.open_chip.new.disk c.open_chip.result (record {
      is_chip = e.chip;
      answer = e.answer;
      looked = e.looked;
      begun = e.begun;
      refusals = e.refusals;
      cause = e.cause;
      quiet = e.quiet;
      tells = e.calls.tells;
      size = e.calls.size;
      later = e.calls.later;
      faults = e.calls.faults;
    }) number
