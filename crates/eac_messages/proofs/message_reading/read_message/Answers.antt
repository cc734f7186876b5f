use Rattle.std.proofs.Common.{subst}
use Rattle.eac_base.specs.Answers.{Answers}
use Rattle.eac_messages.specs.Body.{refused_message}
use Rattle.eac_messages.proofs.ReadAgain.{message_is_read}
use Rattle.eac_messages.proofs.FoundMembers.{message_found, message_legal}
use Rattle.eac_messages.proofs.message_reading.read_message.Goals as goal

pub returns-clause-found : goal.returns-clause-found
returns-clause-found c = message_found c.args.body.now c.message_of.result c.message_of.ensures.exact c.message_of.ensures.content

pub returns-clause-only : goal.returns-clause-only
returns-clause-only c m is = subst (λ s. Answers (λ x. x) refused_message c.message_of.result s) (message_is_read m c.args.body.now is) c.message_of.ensures.exact

pub returns-clause-legal : goal.returns-clause-legal
returns-clause-legal c = message_legal c.args.body.now c.message_of.result (message_found c.args.body.now c.message_of.result c.message_of.ensures.exact c.message_of.ensures.content) c.message_of.ensures.text
