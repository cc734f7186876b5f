-- The laws of a desk's stories (this project's own).
use Rattle.std.specs.Prelude.{◌≡◌, List, [], ◌∷◌, ◌++◌, Some, None, Bool, false, option_map}
use Rattle.ledger.specs.Ledger.{Desk, Kept, Delivery, Entry, entries, entry_of, faces, kept_for, is_open}
use Rattle.ledger.specs.Story.{Decides, Story, NoTwo, answer_due}
use Rattle.ledger.specs.Struck.{struck, AreAlike, AgreeIn, InPlaces, bare}

module _ {Case Query Face Product Reason Fault : Type 0} (D : Desk Case Query Face Product Reason Fault) (is_signed : Case → Product → Bool) where
  -- a story goes on by each delivery that the desk may make
  abbrev pub GoesOn : Type 0
  GoesOn = (before : List (Entry Query Product)) (ds : List (Delivery Case Product Reason Fault)) (d : Delivery Case Product Reason Fault) →
      Story D is_signed before ds → Decides D is_signed (before ++ entries D ds) d →
      Story D is_signed before (ds ++ d ∷ []) × (entries D (ds ++ d ∷ []) ≡ entries D ds ++ entry_of D d)

  -- the struck list is a story with the same entries
  abbrev pub StruckIsStory : Type 0
  StruckIsStory = (before : List (Entry Query Product)) (ds : List (Delivery Case Product Reason Fault)) → Story D is_signed before ds →
      Story D is_signed before (struck D before ds) × (entries D (struck D before ds) ≡ entries D ds)

  -- no two entries have one number
  abbrev pub OneEntry : Type 0
  OneEntry = (ds : List (Delivery Case Product Reason Fault)) → Story D is_signed [] ds → NoTwo D (entries D ds)

  -- what is issued depends, but for signatures, on the struck cases, and on which unanswered ones left an entry
  abbrev pub StruckDecides : (as_signed : Case → Product → Bool) → Type 0
  StruckDecides as_signed = (ds es : List (Delivery Case Product Reason Fault)) → Story D is_signed [] ds → Story D as_signed [] es →
      InPlaces D (AreAlike D) (struck D [] ds) (struck D [] es) → InPlaces D (AgreeIn D) (struck D [] ds) (struck D [] es)

  -- a request that has an entry leaves none, and its answer, if it has one, is that entry's
  abbrev pub RepeatIsKept : Type 0
  RepeatIsKept = (earlier : List (Entry Query Product)) (d : Delivery Case Product Reason Fault) (p : Product) →
      kept_for D earlier (D.query d.case_of) ≡ Some p → Decides D is_signed earlier d → (d.left ≡ None) × (is_open d.outcome ≡ false → d.outcome ≡ Kept p)

  -- whatever is answered is what is due with the entries that stand, but for signatures
  abbrev pub AnswersAreDue : Type 0
  AnswersAreDue = (earlier : List (Entry Query Product)) (d : Delivery Case Product Reason Fault) → Decides D is_signed earlier d → is_open d.outcome ≡ false →
      bare D d.outcome ≡ answer_due (option_map D.face (kept_for D earlier (D.query d.case_of))) (D.first (faces D earlier) d.case_of) (D.due d.case_of)
