-- A story goes on by a delivery that the desk may make, and has one entry for each number.
use Rattle.std.proofs.Common.{◌≡◌, ℕ, List, [], ◌∷◌, ◌++◌, Option, Some, None, Bool, true, false, refl, sym, ◌∙◌, ap, subst, append_assoc}
use Rattle.std.specs.Prelude.{IfSome}
use Rattle.std.proofs.lemmas.List.{append-nil}
use Rattle.ledger.specs.Ledger.{Desk, Outcome, Issued, Kept, Refused, Faulted, NoMemory, Delivery, Entry, is_open, left_entry, entry_of, entries, kept_for, IsUnused}
use Rattle.ledger.specs.Story.{Adds, Tells, Decides, Story, NoTwo}

module _ {Case Query Face Product Reason Fault : Type 0} (D : Desk Case Query Face Product Reason Fault) (is_signed : Case → Product → Bool) where
  -- one more delivery
  pub story_more : (earlier : List (Entry Query Product)) (ds : List (Delivery Case Product Reason Fault)) (d : Delivery Case Product Reason Fault) → Story D is_signed earlier ds → Decides D is_signed (earlier ++ entries D ds) d → Story D is_signed earlier (ds ++ d ∷ [])
  story_more earlier [] d s now = (subst (λ (es : List (Entry Query Product)). Decides D is_signed es d) (append-nil earlier) now, tt)
  story_more earlier (x ∷ ds) d s now = (s.0, story_more (earlier ++ entry_of D x) ds d s.1 (subst (λ (es : List (Entry Query Product)). Decides D is_signed es d) (sym (append_assoc earlier (entry_of D x) (entries D ds))) now))

  -- one list after another
  pub story_append : (earlier : List (Entry Query Product)) (ds es : List (Delivery Case Product Reason Fault)) → Story D is_signed earlier ds → Story D is_signed (earlier ++ entries D ds) es → Story D is_signed earlier (ds ++ es)
  story_append earlier [] es s t = subst (λ (l : List (Entry Query Product)). Story D is_signed l es) (append-nil earlier) t
  story_append earlier (x ∷ ds) es s t = (s.0, story_append (earlier ++ entry_of D x) ds es s.1 (subst (λ (l : List (Entry Query Product)). Story D is_signed l es) (sym (append_assoc earlier (entry_of D x) (entries D ds))) t))

  pub entries_more : (ds : List (Delivery Case Product Reason Fault)) (d : Delivery Case Product Reason Fault) → entries D (ds ++ d ∷ []) ≡ entries D ds ++ entry_of D d
  entries_more [] d = append-nil (entry_of D d)
  entries_more (x ∷ ds) d = ap (λ (es : List (Entry Query Product)). entry_of D x ++ es) (entries_more ds d) ∙ sym (append_assoc (entry_of D x) (entries D ds) (entry_of D d))

  -- a request that has an entry leaves none, and its answer, if it has one, is that entry's
  module _ (earlier : List (Entry Query Product)) (d : Delivery Case Product Reason Fault) (p : Product) (kept : kept_for D earlier (D.query d.case_of) ≡ Some p) where
    leaves_none : (left : Option Product) → IfSome left (Adds D is_signed earlier d) → left ≡ None
    leaves_none None may = refl
    leaves_none (Some q) may = absurd (cc (may.new, kept))

    answers_kept : (outcome : Outcome Product Reason Fault) → d.left ≡ None → Tells D earlier d outcome → is_open outcome ≡ false → outcome ≡ Kept p
    answers_kept (Issued q) none told answered = absurd (cc (none, told))
    answers_kept (Kept q) none told answered = ap (λ (o : Option Product). kept_as o) (sym told ∙ kept)
      where
        kept_as : Option Product → Outcome Product Reason Fault
        kept_as None = NoMemory
        kept_as (Some r) = Kept r
    answers_kept (Refused k) none told answered = absurd (cc (told.0, kept))
    answers_kept (Faulted f) none told answered = absurd (cc answered)
    answers_kept NoMemory none told answered = absurd (cc answered)

    pub repeat_is_kept : Decides D is_signed earlier d → (d.left ≡ None) × (is_open d.outcome ≡ false → d.outcome ≡ Kept p)
    repeat_is_kept now = let none = leaves_none d.left now.left in (none, answers_kept d.outcome none now.told)

module _ {Case Query Face Product Reason Fault : Type 0} (D : Desk Case Query Face Product Reason Fault) where
  unused_more : (es : List (Entry Query Product)) (e : Entry Query Product) (r : List ℕ) → IsUnused D es r → (D.reference e.query ≡ r → ⊥) → IsUnused D (es ++ e ∷ []) r
  unused_more [] e r u ne = (ne, tt)
  unused_more (x ∷ es) e r u ne = (u.0, unused_more es e r u.1 ne)

  apart_more : (es : List (Entry Query Product)) (e : Entry Query Product) → NoTwo D es → IsUnused D es (D.reference e.query) → NoTwo D (es ++ e ∷ [])
  apart_more [] e n u = (tt, tt)
  apart_more (x ∷ es) e n u = (unused_more es e (D.reference x.query) n.0 (λ same. u.0 (sym same)), apart_more es e n.1 u.1)

  module _ (is_signed : Case → Product → Bool) where
    apart_left : (earlier : List (Entry Query Product)) (d : Delivery Case Product Reason Fault) (left : Option Product) → IfSome left (Adds D is_signed earlier d) → NoTwo D earlier → NoTwo D (earlier ++ left_entry D (D.query d.case_of) left)
    apart_left earlier d None may n = subst (NoTwo D) (sym (append-nil earlier)) n
    apart_left earlier d (Some p) may n = apart_more earlier (record { query = D.query d.case_of; product = p }) n may.number

    -- each number has one entry
    pub one_entry_each : (earlier : List (Entry Query Product)) (ds : List (Delivery Case Product Reason Fault)) → Story D is_signed earlier ds → NoTwo D earlier → NoTwo D (earlier ++ entries D ds)
    one_entry_each earlier [] s n = subst (NoTwo D) (sym (append-nil earlier)) n
    one_entry_each earlier (d ∷ ds) s n = subst (NoTwo D) (append_assoc earlier (entry_of D d) (entries D ds)) (one_entry_each (earlier ++ entry_of D d) ds s.1 (apart_left earlier d d.left s.0.left n))

  -- a story stays one as the provider comes to say more
  module _ (now later : Case → Product → Bool) (grows : (c : Case) (p : Product) → now c p ≡ true → later c p ≡ true) where
    adds_later : (earlier : List (Entry Query Product)) (d : Delivery Case Product Reason Fault) (left : Option Product) → IfSome left (Adds D now earlier d) → IfSome left (Adds D later earlier d)
    adds_later earlier d None may = tt
    adds_later earlier d (Some p) may = record { new = may.new; number = may.number; allowed = may.allowed; body = may.body; signed = grows d.case_of p may.signed; told = may.told }

    pub story_later : (earlier : List (Entry Query Product)) (ds : List (Delivery Case Product Reason Fault)) → Story D now earlier ds → Story D later earlier ds
    story_later earlier [] s = tt
    story_later earlier (d ∷ ds) s = (record { left = adds_later earlier d d.left s.0.left; told = s.0.told }, story_later (earlier ++ entry_of D d) ds s.1)
