-- Elements of lists, by their places.
use Rattle.std.proofs.Common.{◌≡◌, ◌⊎◌, inl, inr, ⊎_elim, Bool, true, false, cond, List, [], ◌∷◌, ◌++◌, refl, sym, ap, ◌∙◌, subst}
use Rattle.std.specs.Prelude.{filter}
use Rattle.std.proofs.lemmas.List.Elements.{filter-append}
use Rattle.chip_events.specs.Acts.{IsIn}
use Rattle.eac_net.specs.Goes.{Goes}

module _ {X : Type 0} where
  pub in_left : (x : X) (xs ys : List X) → IsIn x xs → IsIn x (xs ++ ys)
  in_left x [] ys h = absurd h
  in_left x (y ∷ xs) ys (inl e) = inl e
  in_left x (y ∷ xs) ys (inr h) = inr (in_left x xs ys h)

  pub in_right : (x : X) (xs ys : List X) → IsIn x ys → IsIn x (xs ++ ys)
  in_right x [] ys h = h
  in_right x (y ∷ xs) ys h = inr (in_right x xs ys h)

  pub in_either : (x : X) (xs ys : List X) → IsIn x (xs ++ ys) → IsIn x xs ⊎ IsIn x ys
  in_either x [] ys h = inr h
  in_either x (y ∷ xs) ys (inl e) = inl (inl e)
  in_either x (y ∷ xs) ys (inr h) = ⊎_elim (λ (l : IsIn x xs). inl (inr l)) (λ (r : IsIn x ys). inr r) (in_either x xs ys h)

  -- where it stands
  pub record Place (x : X) (xs : List X) : Type 0 where
    pub before : List X
    pub after : List X
    pub split : xs ≡ before ++ x ∷ after

  pub place_of : (x : X) (xs : List X) → IsIn x xs → Place x xs
  place_of x [] h = absurd h
  place_of x (y ∷ xs) (inl e) = record { before = []; after = xs; split = λ j. sym e j ∷ xs }
  place_of x (y ∷ xs) (inr h) =
      let rest = place_of x xs h in
      record { before = y ∷ rest.before; after = rest.after; split = λ j. y ∷ rest.split j }

-- ---- steps

module _ {S I : Type 0} (step : S → I → S → Type 0) where
  -- the state between these items and those
  pub record Between (first : S) (before after : List I) (last : S) : Type 0 where
    pub state : S
    pub until : Goes step first before state
    pub since : Goes step state after last

  pub between : (first : S) (before after : List I) (last : S) → Goes step first (before ++ after) last → Between first before after last
  between first [] after last g = record { state = first; until = refl; since = g }
  between first (i ∷ before) after last g =
      let rest = between g.0 before after last g.2 in
      record { state = rest.state; until = (g.0, g.1, rest.until); since = rest.since }

  -- one item of a history, with what led to it
  pub record Reaches (first : S) (items : List I) (i : I) : Type 0 where
    pub before : List I
    pub after : List I
    pub split : items ≡ before ++ i ∷ after
    pub state : S
    pub until : Goes step first before state
    pub next : S
    pub now : step state i next

  pub reaches : (first : S) (items : List I) (last : S) (i : I) → IsIn i items → Goes step first items last → Reaches first items i
  reaches first items last i among g =
      let p = place_of i items among in
      let b = between first p.before (i ∷ p.after) last (subst (λ (l : List I). Goes step first l last) p.split g) in
      record { before = p.before; after = p.after; split = p.split; state = b.state; until = b.until; next = b.since.0; now = b.since.1 }

-- those that pass a test, on both sides of one that does
module _ {I : Type 0} (test : I → Bool) where
  kept_first : (b : Bool) (i : I) (l : List I) → b ≡ true → cond b (i ∷ l) l ≡ i ∷ l
  kept_first true i l is = refl
  kept_first false i l is = absurd (cc)

  pub filter_at : (before after : List I) (i : I) → test i ≡ true → filter test (before ++ i ∷ after) ≡ filter test before ++ i ∷ filter test after
  filter_at before after i is = filter-append test before (i ∷ after) ∙ ap (λ (l : List I). filter test before ++ l) (kept_first (test i) i (filter test after) is)
