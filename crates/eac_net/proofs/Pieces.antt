-- Deliveries that came to a desk behind others: a piece of its story, from one ledger to a later one.
use Rattle.std.proofs.Common.{◌≡◌, List, [], ◌∷◌, ◌++◌, Bool, true, refl, sym, ap, ◌∙◌, subst, append-nil, append_assoc}
use Rattle.ledger.specs.Ledger.{Desk, Delivery, Entry, entries, entry_of}
use Rattle.ledger.specs.Story.{Decides, Story}
use Rattle.ledger.proofs.StoryLaws.{story_append, story_later}

module _ {Case Query Face Product Reason Fault : Type 0} (D : Desk Case Query Face Product Reason Fault) where
  entries_append : (ds es : List (Delivery Case Product Reason Fault)) → entries D (ds ++ es) ≡ entries D ds ++ entries D es
  entries_append [] es = refl
  entries_append (d ∷ ds) es =
      ap (λ (l : List (Entry Query Product)). entry_of D d ++ l) (entries_append ds es) ∙ sym (append_assoc (entry_of D d) (entries D ds) (entries D es))

  -- these came behind those, and they are a story from this ledger to that one
  pub record TellsOn (is_signed : Case → Product → Bool) (before after : List (Entry Query Product)) (old new : List (Delivery Case Product Reason Fault)) : Type 0 where
    pub more : List (Delivery Case Product Reason Fault)
    pub list_is : new ≡ old ++ more
    pub story : Story D is_signed before more
    pub ledger : after ≡ before ++ entries D more

  module _ (is_signed : Case → Product → Bool) where
    -- none came
    pub tells_same : (before after : List (Entry Query Product)) (old new : List (Delivery Case Product Reason Fault)) → after ≡ before → new ≡ old → TellsOn is_signed before after old new
    tells_same before after old new ledger list = record {
      more = [];
      list_is = list ∙ sym (append-nil old);
      story = tt;
      ledger = ledger ∙ sym (append-nil before);
    }

    -- one came
    pub tells_one : (before after : List (Entry Query Product)) (old new : List (Delivery Case Product Reason Fault)) (d : Delivery Case Product Reason Fault) →
        new ≡ old ++ d ∷ [] → Decides D is_signed before d → after ≡ before ++ entry_of D d → TellsOn is_signed before after old new
    tells_one before after old new d list decides ledger = record {
      more = d ∷ [];
      list_is = list;
      story = (decides, tt);
      ledger = ledger ∙ ap (λ (l : List (Entry Query Product)). before ++ l) (sym (append-nil (entry_of D d)));
    }

    -- one piece, and another behind it
    pub tells_then : (a b c : List (Entry Query Product)) (x y z : List (Delivery Case Product Reason Fault)) →
        TellsOn is_signed a b x y → TellsOn is_signed b c y z → TellsOn is_signed a c x z
    tells_then a b c x y z p q = record {
      more = p.more ++ q.more;
      list_is = q.list_is ∙ ap (λ (l : List (Delivery Case Product Reason Fault)). l ++ q.more) p.list_is ∙ append_assoc x p.more q.more;
      story = story_append D is_signed a p.more q.more p.story (subst (λ (l : List (Entry Query Product)). Story D is_signed l q.more) p.ledger q.story);
      ledger = q.ledger ∙ ap (λ (l : List (Entry Query Product)). l ++ entries D q.more) p.ledger ∙ append_assoc a (entries D p.more) (entries D q.more)
          ∙ ap (λ (l : List (Entry Query Product)). a ++ l) (sym (entries_append p.more q.more));
    }

    -- as more comes to be signed
    pub tells_later : (later : Case → Product → Bool) → ((c : Case) (p : Product) → is_signed c p ≡ true → later c p ≡ true) →
        (before after : List (Entry Query Product)) (old new : List (Delivery Case Product Reason Fault)) → TellsOn is_signed before after old new → TellsOn later before after old new
    tells_later later grows before after old new t = record {
      more = t.more;
      list_is = t.list_is;
      story = story_later D is_signed later grows before t.more t.story;
      ledger = t.ledger;
    }

    -- from the first delivery on
    pub tells_all : (before after : List (Entry Query Product)) (all : List (Delivery Case Product Reason Fault)) → TellsOn is_signed before after [] all →
        Story D is_signed before all × (after ≡ before ++ entries D all)
    tells_all before after all t = (
      subst (Story D is_signed before) (sym t.list_is) t.story,
      t.ledger ∙ ap (λ (l : List (Delivery Case Product Reason Fault)). before ++ entries D l) (sym t.list_is),
    )
