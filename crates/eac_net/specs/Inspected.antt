-- What is told of a chip's event (this project's own).
use Rattle.std.specs.Prelude.{ℕ, List, [], ◌∷◌, ◌++◌, codes, map, Option, Some, None}
use Rattle.std.specs.Fmt.{decimal}
use Rattle.cv_dates.specs.Calendar.{day_text}
use Rattle.chat_rights.specs.declared.Kind.TheVariants.{Inspection}
use Rattle.chat_rights.specs.Rights.{rights_text}
use Rattle.cvc_grammar.specs.ReadingOrder.{refusal_number as syntax_number}
use Rattle.chip_verify.specs.Refusals.{refusal_number}
use Rattle.chip_verify.specs.Trust.{Trust}
use Rattle.chip_verify.specs.declared.answers.Imported.{Imported}
use Rattle.chip_verify.specs.declared.answers.Imported.TheVariants as imported
use Rattle.chip_verify.specs.declared.trust_point.TrustPoint.{TrustPoint}
use Rattle.chip_slots.specs.declared.answers.ChipRefusal.{ChipRefusal}
use Rattle.chip_slots.specs.declared.answers.ChipRefusal.TheVariants as refusal
use Rattle.chip_events.specs.declared.answers.Grant.{Grant}
use Rattle.chip_events.specs.declared.answers.ImportAnswer.{ImportAnswer}
use Rattle.chip_events.specs.declared.answers.ImportAnswer.TheVariants as imports
use Rattle.chip_events.specs.declared.answers.Looked.{Looked}
use Rattle.chip_events.specs.declared.answers.Looked.TheVariants as looks
use Rattle.chip_events.specs.declared.answers.MakeAnswer.{MakeAnswer}
use Rattle.chip_events.specs.declared.answers.MakeAnswer.TheVariants as makes
use Rattle.chip_events.specs.declared.answers.Shown.{Shown}
use Rattle.chip_events.specs.declared.answers.ShownEnd.{ShownEnd}
use Rattle.chip_events.specs.declared.answers.ShownEnd.TheVariants as ends
use Rattle.chip_events.specs.declared.answers.Taken.{Taken}
use Rattle.eac_net.specs.Delivered.{listed}
use Rattle.eac_net.specs.declared.answer.Presented.{Presented}
use Rattle.eac_net.specs.declared.answer.Presented.TheVariants as presented

-- a chip that has to be opened anew never answers an event
abbrev pub refusal_text : ChipRefusal → List ℕ
refusal_text refusal.NoChip = codes "nochip"
refusal_text refusal.DiskFault = codes "fault disk"
refusal_text refusal.ProviderFault = codes "fault provider"
refusal_text refusal.NeedsOpen = codes "needs opening"
refusal_text (refusal.Syntax why) = codes "syntax " ++ decimal (syntax_number why)
refusal_text (refusal.Refused k) = codes "refused " ++ decimal (refusal_number k)
refusal_text refusal.Worn = codes "worn"

-- a text with the chip's day behind it
abbrev pub on_day : List ℕ → (day : ℕ) → List ℕ
on_day text day = text ++ codes " day " ++ day_text day

-- ---- a making

abbrev pub made_text : MakeAnswer → List ℕ
made_text (makes.Made holder) = codes "made " ++ holder
made_text makes.Unfounded = codes "refused unfounded"
made_text makes.WrongSize = codes "refused size"
made_text makes.WasMade = codes "refused made"
made_text makes.DiskFault = codes "fault disk"

-- ---- a look

-- the older point's reference stands first
abbrev pub points_text : Option TrustPoint → (newest : List ℕ) → List ℕ
points_text None newest = newest
points_text (Some older) newest = older.reference ++ 32 ∷ newest

abbrev pub read_text : Trust → (generation : ℕ) → List ℕ
read_text t generation =
    codes "day " ++ day_text t.day ++ codes " points " ++ points_text t.older t.newest.reference ++ codes " generation " ++ decimal generation

abbrev pub looked_text : Looked → List ℕ
looked_text (looks.Read state generation) = read_text state generation
looked_text (looks.NotOpened r) = refusal_text r

-- ---- certificates

abbrev pub item_word : Imported → List ℕ
item_word imported.Held = codes "held "
item_word imported.Link = codes "link "
item_word imported.Verifier = codes "verifier "
item_word imported.Terminal = codes "terminal "

abbrev pub taken_text : Taken → List ℕ
taken_text t = item_word t.what ++ t.holder

abbrev pub imported_text : ImportAnswer → List ℕ
imported_text (imports.NotOpened r) = refusal_text r
imported_text (imports.Took t day) = on_day (taken_text t) day
imported_text (imports.NotTaken r) = refusal_text r

abbrev pub grant_text : Grant → List ℕ
grant_text g = on_day (codes "grant " ++ rights_text Inspection g.rights) g.day

-- none where each was taken and the session has no terminal
abbrev pub end_items : ShownEnd → List (List ℕ)
end_items (ends.AllTaken None) = []
end_items (ends.AllTaken (Some g)) = grant_text g ∷ []
end_items (ends.NotTaken r) = refusal_text r ∷ []

abbrev pub shown_text : Shown → List ℕ
shown_text s = listed 0 (map taken_text s.taken ++ end_items s.end)

abbrev pub presented_text : Presented → List ℕ
presented_text (presented.NotOpened r) = refusal_text r
presented_text presented.NoChain = codes "nochain"
presented_text (presented.Shown s) = shown_text s
