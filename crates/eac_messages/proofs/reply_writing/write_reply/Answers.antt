use Rattle.std.proofs.Common.{ap, ◌∙◌}
use Rattle.serde_json.specs.Written.{members_have_float}
use Rattle.eac_messages.proofs.Floats.{reply_has_none}
use Rattle.eac_messages.proofs.reply_writing.write_reply.Goals as goal

pub text_of-requires : goal.text_of-requires
text_of-requires c = ap members_have_float c.in_ok-members.ensures ∙ reply_has_none c.args.reply.now
