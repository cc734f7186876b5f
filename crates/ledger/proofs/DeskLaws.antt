-- The laws of a desk's stories, as specs/ states them.
use Rattle.std.proofs.Common.{◌≡◌, [], Option, Some, Bool, List, false, refl, sym, ap, ◌∙◌, subst}
use Rattle.std.specs.Prelude.{IfSome, option_map}
use Rattle.ledger.specs.Ledger.{Desk, Outcome, Issued, Kept, Refused, Faulted, NoMemory, Delivery, Entry, faces, kept_for, is_open}
use Rattle.ledger.specs.Story.{Adds, Tells, Decides, answer_due}
use Rattle.ledger.specs.Struck.{bare}
use Rattle.ledger.specs.Laws.{GoesOn, StruckIsStory, OneEntry, StruckDecides, RepeatIsKept, AnswersAreDue}
use Rattle.ledger.proofs.StoryLaws.{story_more, entries_more, one_entry_each, repeat_is_kept}
use Rattle.ledger.proofs.StruckLaws.{struck_story, struck_entries, struck_decides}

module _ {Case Query Face Product Reason Fault : Type 0} (D : Desk Case Query Face Product Reason Fault) (is_signed : Case → Product → Bool) where
  pub goes_on : GoesOn D is_signed
  goes_on before ds d s now = (story_more D is_signed before ds d s now, entries_more D is_signed ds d)

  pub struck_is_story : StruckIsStory D is_signed
  struck_is_story before ds s = (struck_story D is_signed before ds s, struck_entries D is_signed before ds s)

  pub one_entry : OneEntry D is_signed
  one_entry ds s = one_entry_each D is_signed [] ds s tt

  pub decided_by_struck : (as_signed : Case → Product → Bool) → StruckDecides D is_signed as_signed
  decided_by_struck as_signed = struck_decides D is_signed as_signed

  pub kept_again : RepeatIsKept D is_signed
  kept_again = repeat_is_kept D is_signed

  -- whatever is answered is what is due
  module _ (earlier : List (Entry Query Product)) (d : Delivery Case Product Reason Fault) (now : Decides D is_signed earlier d) where
    added : (p : Product) → d.left ≡ Some p → Adds D is_signed earlier d p
    added p is = subst (λ (o : Option Product). IfSome o (Adds D is_signed earlier d)) is now.left

    abbrev kept : Option Product
    kept = kept_for D earlier (D.query d.case_of)

    abbrev rule : Option Reason
    rule = D.first (faces D earlier) d.case_of

    due_face : (outcome : Outcome Product Reason Fault) → d.outcome ≡ outcome → is_open d.outcome ≡ false → Tells D earlier d outcome → bare D d.outcome ≡ answer_due (option_map D.face kept) rule (D.due d.case_of)
    due_face (Issued p) is answered told = let a = added p told in ap (bare D) is ∙ sym (λ i. answer_due (option_map D.face (a.new i)) (a.allowed i) (a.body i))
    due_face (Kept p) is answered told = ap (bare D) is ∙ sym (ap (λ (o : Option Product). answer_due (option_map D.face o) rule (D.due d.case_of)) told)
    due_face (Refused k) is answered told = ap (bare D) is ∙ sym (λ i. answer_due (option_map D.face (told.0 i)) (told.1 i) (D.due d.case_of))
    due_face (Faulted f) is answered told = absurd (cc (ap is_open is, answered))
    due_face NoMemory is answered told = absurd (cc (ap is_open is, answered))

  pub answers_due : AnswersAreDue D is_signed
  answers_due earlier d now answered = due_face earlier d now d.outcome refl answered now.told
