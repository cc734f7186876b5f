-- A desk keeps its word over each story that begins with no entry.
use Rattle.std.proofs.Common.{◌≡◌, ◌⊎◌, inl, inr, Bool, true, false, cond, List, [], ◌∷◌, ◌++◌, Option, Some, None, refl, sym, ap, ◌∙◌, subst, append_assoc, append-nil}
use Rattle.std.specs.Prelude.{IfSome}
use Rattle.chip_events.specs.Acts.{IsIn}
use Rattle.ledger.specs.Ledger.{Desk, Outcome, Issued, Kept, Refused, Faulted, NoMemory, Delivery, Entry, MayLeave, left_entry, entry_of, entries, kept_for, is_open}
use Rattle.ledger.specs.Story.{Adds, Tells, Decides, Story}
use Rattle.ledger.proofs.StoryLaws.{one_entry_each, repeat_is_kept}
use Rattle.headline.specs.Desks.{given, entry_for, GivenIsKept, IsAnswered, IsAnsweredFrom, RefusalsNameTheFirst, KeepsItsWord}
use Rattle.headline.proofs.Places.{in_left, in_right, in_either, place_of}

some_is : {A : Type 0} (a b : A) → Some a ≡ Some b → a ≡ b
some_is a b e = cc

module _ {Case Query Face Product Reason Fault : Type 0} (D : Desk Case Query Face Product Reason Fault) (is_signed : Case → Product → Bool) where
  -- ---- parts of a story

  entries_of_both : (ds es : List (Delivery Case Product Reason Fault)) → entries D (ds ++ es) ≡ entries D ds ++ entries D es
  entries_of_both [] es = refl
  entries_of_both (d ∷ ds) es = ap (λ (l : List (Entry Query Product)). entry_of D d ++ l) (entries_of_both ds es) ∙ sym (append_assoc (entry_of D d) (entries D ds) (entries D es))

  behind : (earlier : List (Entry Query Product)) (ds es : List (Delivery Case Product Reason Fault)) → Story D is_signed earlier (ds ++ es) → Story D is_signed (earlier ++ entries D ds) es
  behind earlier [] es s = subst (λ (l : List (Entry Query Product)). Story D is_signed l es) (sym (append-nil earlier)) s
  behind earlier (d ∷ ds) es s = subst (λ (l : List (Entry Query Product)). Story D is_signed l es) (append_assoc earlier (entry_of D d) (entries D ds)) (behind (earlier ++ entry_of D d) ds es s.1)

  -- the delivery at a place, with the entries that those before it left
  decided : (ds before after : List (Delivery Case Product Reason Fault)) (d : Delivery Case Product Reason Fault) → Story D is_signed [] ds → ds ≡ before ++ d ∷ after → Decides D is_signed (entries D before) d
  decided ds before after d s split = (behind [] before (d ∷ after) (subst (Story D is_signed []) split s)).0

  -- ---- refusals

  pub refusals_name_the_first : (ds : List (Delivery Case Product Reason Fault)) → Story D is_signed [] ds → RefusalsNameTheFirst D ds
  refusals_name_the_first ds s earlier later d k split is =
      let told : Tells D (entries D earlier) d (Refused k) = subst (Tells D (entries D earlier) d) is (decided ds earlier later d s split).told in
      record { none = told.0; first = told.1 }

  module _ (same_true : (q : Query) → D.same q q ≡ true) (same_is : (a b : Query) → D.same a b ≡ true → a ≡ b) where
    -- ---- what is kept for a request

    kept_here : (b : Bool) (e : Entry Query Product) (es : List (Entry Query Product)) (q : Query) (p : Product) → D.same e.query q ≡ b
        → (kept_for D es q ≡ Some p → IsIn (record { query = q; product = p }) es) → cond b (Some e.product) (kept_for D es q) ≡ Some p → IsIn (record { query = q; product = p }) (e ∷ es)
    kept_here true e es q p same rest is = inl (λ j. record { query = sym (same_is e.query q same) j; product = sym (some_is e.product p is) j })
    kept_here false e es q p same rest is = inr (rest is)

    kept_in : (es : List (Entry Query Product)) (q : Query) (p : Product) → kept_for D es q ≡ Some p → IsIn (record { query = q; product = p }) es
    kept_in [] q p is = absurd (cc (is))
    kept_in (e ∷ es) q p is = kept_here (D.same e.query q) e es q p refl (kept_in es q p) is

    kept_more_here : (b : Bool) (e : Entry Query Product) (es fs : List (Entry Query Product)) (q : Query) (p : Product)
        → (kept_for D es q ≡ Some p → kept_for D (es ++ fs) q ≡ Some p) → cond b (Some e.product) (kept_for D es q) ≡ Some p → cond b (Some e.product) (kept_for D (es ++ fs) q) ≡ Some p
    kept_more_here true e es fs q p rest is = is
    kept_more_here false e es fs q p rest is = rest is

    -- it stays kept
    kept_more : (es fs : List (Entry Query Product)) (q : Query) (p : Product) → kept_for D es q ≡ Some p → kept_for D (es ++ fs) q ≡ Some p
    kept_more [] fs q p is = absurd (cc (is))
    kept_more (e ∷ es) fs q p is = kept_more_here (D.same e.query q) e es fs q p (kept_more es fs q p) is

    kept_new_here : (b : Bool) (e : Entry Query Product) (es fs : List (Entry Query Product)) (q : Query)
        → (kept_for D es q ≡ None → kept_for D (es ++ fs) q ≡ kept_for D fs q) → cond b (Some e.product) (kept_for D es q) ≡ None → cond b (Some e.product) (kept_for D (es ++ fs) q) ≡ kept_for D fs q
    kept_new_here true e es fs q rest is = absurd (cc (is))
    kept_new_here false e es fs q rest is = rest is

    kept_new : (es fs : List (Entry Query Product)) (q : Query) → kept_for D es q ≡ None → kept_for D (es ++ fs) q ≡ kept_for D fs q
    kept_new [] fs q is = refl
    kept_new (e ∷ es) fs q is = kept_new_here (D.same e.query q) e es fs q (kept_new es fs q) is

    alone : (q : Query) (p : Product) → kept_for D (record { query = q; product = p } ∷ []) q ≡ Some p
    alone q p = ap (λ (b : Bool). cond b (Some p) None) (same_true q)

    -- ---- given is kept

    given_by : (before after : List (Delivery Case Product Reason Fault)) (d : Delivery Case Product Reason Fault) (p : Product) (outcome : Outcome Product Reason Fault)
        → Tells D (entries D before) d outcome → given D outcome ≡ Some p → IsIn (entry_for D d p) (entries D (before ++ d ∷ after))
    given_by before after d p (Issued q) told is = subst (IsIn (entry_for D d p)) (sym (entries_of_both before (d ∷ after)))
        (in_right (entry_for D d p) (entries D before) (entry_of D d ++ entries D after)
        (in_left (entry_for D d p) (entry_of D d) (entries D after)
        (subst (λ (left : Option Product). IsIn (entry_for D d p) (left_entry D (D.query d.case_of) left)) (sym (told ∙ is)) (inl refl))))
    given_by before after d p (Kept q) told is = subst (IsIn (entry_for D d p)) (sym (entries_of_both before (d ∷ after)))
        (in_left (entry_for D d p) (entries D before) (entries D (d ∷ after)) (kept_in (entries D before) (D.query d.case_of) p (told ∙ is)))
    given_by before after d p (Refused k) told is = absurd (cc (is))
    given_by before after d p (Faulted f) told is = absurd (cc (is))
    given_by before after d p NoMemory told is = absurd (cc (is))

    pub given_is_kept : (ds : List (Delivery Case Product Reason Fault)) → Story D is_signed [] ds → GivenIsKept D ds (entries D ds)
    given_is_kept ds s d p among is =
        let at = place_of d ds among in
        subst (λ (l : List (Delivery Case Product Reason Fault)). IsIn (entry_for D d p) (entries D l)) (sym at.split)
        (given_by at.before at.after d p d.outcome (decided ds at.before at.after d s at.split).told is)

    -- ---- answered

    -- while it is kept each answered delivery has it
    again_all : (known : List (Entry Query Product)) (ds : List (Delivery Case Product Reason Fault)) (q : Query) (p : Product) → Story D is_signed known ds → kept_for D known q ≡ Some p
        → (d : Delivery Case Product Reason Fault) → IsIn d ds → IsAnswered D q d → d.outcome ≡ Kept p
    again_all known [] q p s kept d among a = absurd among
    again_all known (x ∷ ds) q p s kept d (inl e) a =
        let now : Decides D is_signed known d = subst (Decides D is_signed known) (sym e) s.0 in
        (repeat_is_kept D is_signed known d p (ap (kept_for D known) a.request ∙ kept) now).1 a.answered
    again_all known (x ∷ ds) q p s kept d (inr among) a = again_all (known ++ entry_of D x) ds q p s.1 (kept_more known (entry_of D x) q p kept) d among a

    told_as : (outcome : Outcome Product Reason Fault) (p : Product) → MayLeave D outcome p → is_open outcome ≡ false → outcome ≡ Issued p
    told_as (Issued q) p may answered = ap Issued may
    told_as (Kept q) p may answered = absurd may
    told_as (Refused k) p may answered = absurd may
    told_as (Faulted f) p may answered = absurd (cc (answered))
    told_as NoMemory p may answered = absurd (cc (answered))

    -- the delivery made the entry
    made_here : (earlier : List (Entry Query Product)) (d : Delivery Case Product Reason Fault) (ds : List (Delivery Case Product Reason Fault)) (e : Entry Query Product) (left : Option Product)
        → d.left ≡ left → IfSome left (Adds D is_signed earlier d) → Story D is_signed (earlier ++ left_entry D (D.query d.case_of) left) ds → IsIn e (left_entry D (D.query d.case_of) left) → IsAnsweredFrom D (d ∷ ds) e
    made_here earlier d ds e None is adds s among = absurd among
    made_here earlier d ds e (Some p) is adds s (inr h) = absurd h
    made_here earlier d ds e (Some p) is adds s (inl same) =
        let q = D.query d.case_of in
        let request : q ≡ e.query = ap (λ (x : Entry Query Product). x.query) (sym same) in
        let product : p ≡ e.product = ap (λ (x : Entry Query Product). x.product) (sym same) in
        let kept : kept_for D (earlier ++ record { query = q; product = p } ∷ []) q ≡ Some p = kept_new earlier (record { query = q; product = p } ∷ []) q adds.new ∙ alone q p in
        record {
          earlier = [];
          maker = d;
          later = ds;
          split = refl;
          request = request;
          left = is ∙ ap Some product;
          first = λ answered. told_as d.outcome p adds.told answered ∙ ap Issued product;
          again = λ x in_ds a. again_all (earlier ++ record { query = q; product = p } ∷ []) ds q p s kept x in_ds (record { request = a.request ∙ sym request; answered = a.answered }) ∙ ap Kept product;
        }

    answered_at : (earlier : List (Entry Query Product)) (d : Delivery Case Product Reason Fault) (ds : List (Delivery Case Product Reason Fault)) (e : Entry Query Product) → Story D is_signed earlier (d ∷ ds)
        → (IsIn e (entries D ds) → IsAnsweredFrom D ds e) → IsIn e (entry_of D d) ⊎ IsIn e (entries D ds) → IsAnsweredFrom D (d ∷ ds) e
    answered_at earlier d ds e s behind_it (inl here) = made_here earlier d ds e d.left refl s.0.left s.1 here
    answered_at earlier d ds e s behind_it (inr there) =
        let rest = behind_it there in
        record {
          earlier = d ∷ rest.earlier;
          maker = rest.maker;
          later = rest.later;
          split = λ j. d ∷ rest.split j;
          request = rest.request;
          left = rest.left;
          first = rest.first;
          again = rest.again;
        }

    answered_in : (earlier : List (Entry Query Product)) (ds : List (Delivery Case Product Reason Fault)) (e : Entry Query Product) → Story D is_signed earlier ds → IsIn e (entries D ds) → IsAnsweredFrom D ds e
    answered_in earlier [] e s among = absurd among
    answered_in earlier (d ∷ ds) e s among = answered_at earlier d ds e s (answered_in (earlier ++ entry_of D d) ds e s.1) (in_either e (entry_of D d) (entries D ds) among)

    -- ---- all of it

    pub keeps_its_word : (ds : List (Delivery Case Product Reason Fault)) (ledger : List (Entry Query Product)) → Story D is_signed [] ds → ledger ≡ entries D ds → KeepsItsWord D ds ledger
    keeps_its_word ds ledger s is = subst (KeepsItsWord D ds) (sym is) (record {
      one = one_entry_each D is_signed [] ds s tt;
      kept = given_is_kept ds s;
      answered = λ e among. answered_in [] ds e s among;
      refused = refusals_name_the_first ds s;
    })
