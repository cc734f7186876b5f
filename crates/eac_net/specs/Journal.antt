-- The journal: a line for each answer to an event other than `day` (this project's own).
use Rattle.std.specs.Prelude.{ℕ, List, [], ◌∷◌, ◌++◌, codes, Option, Some, None}
use Rattle.std.specs.Fmt.{decimal}
use Rattle.issue_core.specs.RuleNumbers.{number_of}
use Rattle.issue_core.specs.declared.registering.serving.RegisterAnswer.{RegisterAnswer}
use Rattle.issue_core.specs.declared.registering.serving.RegisterAnswer.TheVariants as registered
use Rattle.cvca_desk.specs.declared.founding.Founded.{Founded}
use Rattle.cvca_desk.specs.declared.founding.Founded.TheVariants as founded
use Rattle.cvca_desk.specs.declared.linking.Linked.{Linked}
use Rattle.cvca_desk.specs.declared.linking.Linked.TheVariants as linked
use Rattle.eac_net.specs.Delivered.{called_text, replied_text}
use Rattle.eac_net.specs.Inspected.{made_text, presented_text, imported_text, looked_text}
use Rattle.eac_net.specs.declared.answer.Answer.{Answer}
use Rattle.eac_net.specs.declared.answer.Answer.TheVariants as answers
use Rattle.eac_net.specs.declared.answer.Fault.{Fault}
use Rattle.eac_net.specs.declared.answer.Fault.TheVariants as faults
use Rattle.eac_net.specs.declared.answer.Trusted.{Trusted}
use Rattle.eac_net.specs.declared.answer.Trusted.TheVariants as trusted
use Rattle.eac_net.specs.declared.answer.Applied.{Applied}
use Rattle.eac_net.specs.declared.answer.Applied.TheVariants as applied

abbrev pub fault_text : Fault → List ℕ
fault_text faults.Keeper = codes "fault keeper"
fault_text faults.Provider = codes "fault provider"
fault_text faults.Disk = codes "fault disk"
fault_text (faults.Key reference) = codes "fault key " ++ reference

-- ---- the register

abbrev pub register_text : List ℕ → RegisterAnswer → List ℕ
register_text reference (registered.Issued day) = codes "issued " ++ reference ++ 32 ∷ day
register_text reference (registered.Kept day) = codes "kept " ++ reference ++ 32 ∷ day
register_text reference (registered.Refused rule) = codes "refused " ++ decimal (number_of rule)

-- ---- acts of parties

abbrev pub found_text : Founded → List ℕ
found_text (founded.New reference) = codes "founded " ++ reference
found_text founded.AlreadyFounded = codes "refused founded"
found_text founded.Short = codes "refused short"

abbrev pub link_text : Linked → List ℕ
link_text (linked.New reference) = codes "linked " ++ reference
link_text linked.Unfounded = codes "refused unfounded"
link_text linked.Exhausted = codes "refused exhausted"
link_text linked.SameDay = codes "refused sameday"
link_text linked.Short = codes "refused short"

abbrev pub trust_text : Trusted → List ℕ
trust_text (trusted.Stored reference) = codes "trusted " ++ reference
trust_text (trusted.Held reference) = codes "held " ++ reference
trust_text trusted.Unfounded = codes "refused unfounded"
trust_text trusted.Full = codes "refused full"

abbrev pub packet_text : ℕ → List ℕ
packet_text packet = codes "packet " ++ decimal packet

abbrev pub apply_text : Applied → List ℕ
apply_text (applied.Sent packet reference) = packet_text packet ++ 32 ∷ reference
apply_text applied.Exhausted = codes "refused exhausted"
apply_text applied.NoAuthority = codes "refused noauthority"

-- ---- any answer

abbrev pub answer_text : Answer → List ℕ
answer_text answers.Silent = []
answer_text (answers.Registered reference answer) = register_text reference answer
answer_text (answers.Founded answer) = found_text answer
answer_text (answers.Linked answer) = link_text answer
answer_text (answers.Trusted answer) = trust_text answer
answer_text (answers.Applied answer) = apply_text answer
answer_text (answers.Sent packet) = packet_text packet
answer_text (answers.Failed f) = fault_text f
answer_text (answers.Called event reply) = called_text event reply
answer_text (answers.Replied came) = replied_text came
answer_text answers.Unsent = codes "unsent"
answer_text (answers.Made answer) = made_text answer
answer_text (answers.Presented answer) = presented_text answer
answer_text (answers.Imported answer) = imported_text answer
answer_text (answers.Looked answer) = looked_text answer

-- the number of the script's line, a colon and a space, the answer, and a line feed
abbrev pub numbered_line : ℕ → List ℕ → List ℕ
numbered_line number text = decimal number ++ codes ": " ++ text ++ 10 ∷ []

abbrev pub answered_line : ℕ → Answer → List ℕ
answered_line number answers.Silent = []
answered_line number (answers.Registered reference answer) = numbered_line number (register_text reference answer)
answered_line number (answers.Founded answer) = numbered_line number (found_text answer)
answered_line number (answers.Linked answer) = numbered_line number (link_text answer)
answered_line number (answers.Trusted answer) = numbered_line number (trust_text answer)
answered_line number (answers.Applied answer) = numbered_line number (apply_text answer)
answered_line number (answers.Sent packet) = numbered_line number (packet_text packet)
answered_line number (answers.Failed f) = numbered_line number (fault_text f)
answered_line number (answers.Called event reply) = numbered_line number (called_text event reply)
answered_line number (answers.Replied came) = numbered_line number (replied_text came)
answered_line number answers.Unsent = numbered_line number (codes "unsent")
answered_line number (answers.Made answer) = numbered_line number (made_text answer)
answered_line number (answers.Presented answer) = numbered_line number (presented_text answer)
answered_line number (answers.Imported answer) = numbered_line number (imported_text answer)
answered_line number (answers.Looked answer) = numbered_line number (looked_text answer)

-- `day` lines and want of memory have no line
abbrev pub line_text : ℕ → Option Answer → List ℕ
line_text number None = []
line_text number (Some answer) = answered_line number answer

-- the lines of the answers to events of lines with these numbers, in order
abbrev pub journal : List ℕ → List (Option Answer) → List ℕ
journal [] answers = []
journal (number ∷ numbers) [] = []
journal (number ∷ numbers) (answer ∷ answers) = line_text number answer ++ journal numbers answers
