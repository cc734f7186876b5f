-- Looking a registration up in the list of its desk.
use Rattle.std.proofs.Common.{◌≡◌, ℕ, Bool, true, false, cond, List, [], ◌∷◌, None, Some, refl, sym, ap, ◌∙◌}
use Rattle.std.specs.declared.option.Option.{Option}
use Rattle.std.specs.Prelude.{◌==◌, ◌&&◌, filter, find}
use Rattle.std.specs.Option.{unwrap_or}
use Rattle.std.specs.Str.{bytes_eq}
use Rattle.std.specs.BTreeMap.{BTreeMap, get}
use Rattle.std.specs.Ordering.{nat_cmp}
use Rattle.policy_limits.specs.Desks.{AreAt}
use Rattle.policy_limits.specs.declared.registration.Registration.{Registration}

module _ (desk : ℕ) (holder : List ℕ) where
  abbrev is_it : Registration → Bool
  is_it g = (g.desk == desk) && bytes_eq g.holder holder

  either : (here : Bool) (g : Registration) (xs ys : List Registration) → (g.desk == desk) ≡ here → find is_it xs ≡ find is_it ys → find is_it (cond here (g ∷ xs) xs) ≡ find is_it (g ∷ ys)
  either true g xs ys e same = ap (λ o. cond (is_it g) (Some g) o) same
  either false g xs ys e same = same ∙ sym (ap (λ b. cond (b && bytes_eq g.holder holder) (Some g) (find is_it ys)) e)

  found_at : (gs : List Registration) → find is_it (filter (λ g. g.desk == desk) gs) ≡ find is_it gs
  found_at [] = refl
  found_at (g ∷ gs) = either (g.desk == desk) g (filter (λ x. x.desk == desk) gs) gs refl (found_at gs)

  -- in the list of its desk, where there is one
  pub found_in : (lists : BTreeMap ℕ (List Registration)) (list : List Registration) (result : Option Registration) → Some list ≡ get nat_cmp lists desk → result ≡ find is_it list → (gs : List Registration) → AreAt lists gs → result ≡ find is_it gs
  found_in lists list result some is gs are =
      is ∙ ap (find is_it) (ap (λ o. unwrap_or o []) some ∙ are desk) ∙ found_at gs

  pub found_nowhere : (lists : BTreeMap ℕ (List Registration)) → None ≡ get nat_cmp lists desk → (gs : List Registration) → AreAt lists gs → None ≡ find is_it gs
  found_nowhere lists none gs are =
      let no_list : [] ≡ filter (λ g. g.desk == desk) gs = ap (λ o. unwrap_or o []) none ∙ are desk in
      ap (find is_it) no_list ∙ found_at gs
