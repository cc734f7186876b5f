use Rattle.std.proofs.Common.{subst}
use Rattle.eac_base.specs.Answers.{Answers}
use Rattle.eac_messages.specs.Body.{refused_message}
use Rattle.eac_messages.proofs.ReadAgain.{reply_is_read}
use Rattle.eac_messages.proofs.FoundMembers.{reply_found, reply_legal}
use Rattle.eac_messages.proofs.reply_reading.read_reply.Goals as goal

pub returns-clause-found : goal.returns-clause-found
returns-clause-found c = reply_found c.args.body.now c.reply_of.result c.reply_of.ensures.exact c.reply_of.ensures.content

pub returns-clause-only : goal.returns-clause-only
returns-clause-only c r is = subst (λ s. Answers (λ x. x) refused_message c.reply_of.result s) (reply_is_read r c.args.body.now is) c.reply_of.ensures.exact

pub returns-clause-legal : goal.returns-clause-legal
returns-clause-legal c = reply_legal c.args.body.now c.reply_of.result (reply_found c.args.body.now c.reply_of.result c.reply_of.ensures.exact c.reply_of.ensures.content) c.reply_of.ensures.text
