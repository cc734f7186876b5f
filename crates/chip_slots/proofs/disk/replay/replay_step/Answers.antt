use Rattle.std.proofs.Common.{refl}
use Rattle.chip_slots.proofs.Replaying.{torn_replays, wrote_replays}
use Rattle.chip_slots.proofs.disk.replay.replay_step.Goals as goal

pub returns-in_ok-push-in-Wrote : goal.returns-in_ok-push-in-Wrote
returns-in_ok-push-in-Wrote c = wrote_replays c.args.step c.args.texts.now c.args.replayed.now _ c.in-Wrote.at c.in-Wrote.size c.text_of-text.result.now c.in-Wrote.is c.requires.within c.requires.texts c.text_of-text.ensures c.place_in.ensures c.in_ok-push-in-Wrote.ensures.items refl

pub returns-in_ok-push-in-Torn : goal.returns-in_ok-push-in-Torn
returns-in_ok-push-in-Torn c = torn_replays c.args.step c.args.texts.now c.args.replayed.now _ c.in-Torn.at c.in-Torn.size c.in-Torn.is c.requires.within refl c.in_ok-push-in-Torn.ensures.items refl
