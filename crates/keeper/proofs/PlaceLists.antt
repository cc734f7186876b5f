-- Lists of places after a change under one heading.
use Rattle.std.proofs.Common.{◌≡◌, ℕ, ◌-◌, Bool, true, false, cond, List, [], ◌∷◌, length, take, None, Some, refl, sym, ap, ◌∙◌, arith}
use Rattle.std.proofs.lemmas.List.{length-append, take_at}
use Rattle.std.specs.Prelude.{Ok, Err, OnOk, OnErr}
use Rattle.std.specs.declared.option.Option.{Option}
use Rattle.std.specs.declared.result.Result.{Result}
use Rattle.std.specs.Ordering.{is_eq}
use Rattle.std.specs.Cmp.{Equal-is}
use Rattle.std.specs.Map.{lookup}
use Rattle.std.specs.Option.{unwrap_or}
use Rattle.std.specs.BTreeMap.{BTreeMap, get, UpdatesBy}
use Rattle.keeper.specs.Headings.{Heading, heading_cmp, heading_total, is_under, list_at, Becomes, with_place, without_last, StayLists}

-- headings that say the same find the same
pub same_lookup : {X : Type 0} (m : BTreeMap Heading X) (k q : Heading) → is_under k q ≡ true → get heading_cmp m k ≡ get heading_cmp m q
same_lookup m k q e = λ i. lookup (λ z. is_eq (heading_total.congr k q z ((Equal-is (heading_cmp k q)).0 e) i)) m.entries

one_list : (f : List ℕ → List ℕ) (b : Bool) (w there : List ℕ) (was now : Option (List ℕ)) → now ≡ cond b (Some w) was → w ≡ f there → (b ≡ true → there ≡ unwrap_or was []) → unwrap_or now [] ≡ cond b (f (unwrap_or was [])) (unwrap_or was [])
one_list f true w there was now e is same = ap (λ o. unwrap_or o []) e ∙ is ∙ ap f (same refl)
one_list f false w there was now e is same = ap (λ o. unwrap_or o []) e

-- a list was written under a heading
pub becomes : (f : List ℕ → List ℕ) (old new : BTreeMap Heading (List ℕ)) (k : Heading) (w there : List ℕ) → UpdatesBy heading_cmp (heading_cmp k) old new (Some w) → w ≡ f there → there ≡ list_at old k → Becomes f k old new
becomes f old new k w there u is at = λ q. one_list f (is_under k q) w there (get heading_cmp old q) (get heading_cmp new q) (u.0 q) is (λ e. at ∙ ap (λ o. unwrap_or o []) (same_lookup old k q e))

same_list : (b : Bool) (xs : List ℕ) → cond b xs xs ≡ xs
same_list true xs = refl
same_list false xs = refl

pub stay_lists : (old new : BTreeMap Heading (List ℕ)) (k : Heading) (w there : List ℕ) → UpdatesBy heading_cmp (heading_cmp k) old new (Some w) → w ≡ there → there ≡ list_at old k → StayLists old new
stay_lists old new k w there u is at = λ q. becomes (λ l. l) old new k w there u is at q ∙ same_list (is_under k q) (list_at old q)

none_list : (f : List ℕ → List ℕ) (b : Bool) (was : Option (List ℕ)) → f [] ≡ [] → (b ≡ true → None ≡ was) → unwrap_or was [] ≡ cond b (f (unwrap_or was [])) (unwrap_or was [])
none_list f true was z is = let no_list : [] ≡ unwrap_or was [] = ap (λ o. unwrap_or o []) (is refl) in sym no_list ∙ sym z ∙ ap f no_list
none_list f false was z is = refl

-- nothing stood under the heading, and nothing was written
pub becomes_nothing : (f : List ℕ → List ℕ) (old new : BTreeMap Heading (List ℕ)) (k : Heading) → new ≡ old → f [] ≡ [] → None ≡ get heading_cmp old k → Becomes f k old new
becomes_nothing f old new k e z none = λ q. ap (λ m. list_at m q) e ∙ none_list f (is_under k q) (get heading_cmp old q) z (λ e. none ∙ same_lookup old k q e)

-- ---- where a call answered Ok, or Err

pub ok_so : {T E P Q : Type 0} (result : Result T E) → (P → Q) → OnOk result P → OnOk result Q
ok_so (Ok x) f p = f p
ok_so (Err e) f p = p

pub err_so : {T E P Q : Type 0} (result : Result T E) → (P → Q) → OnErr result P → OnErr result Q
err_so (Ok x) f p = p
err_so (Err e) f p = f p

-- ---- a place that was added and taken out again

last_off : (xs : List ℕ) (n : ℕ) → without_last (with_place n xs) ≡ xs
last_off xs n =
    let more : length (with_place n xs) - 1 ≡ length xs = omega (arith, length-append xs (n ∷ [])) in
    ap (λ k. take k (with_place n xs)) more ∙ take_at xs (n ∷ []) (length xs) refl

undone : (b : Bool) (n : ℕ) (was mid now : List ℕ) → mid ≡ cond b (with_place n was) was → now ≡ cond b (without_last mid) mid → now ≡ was
undone true n was mid now e f = f ∙ ap without_last e ∙ last_off was n
undone false n was mid now e f = f ∙ e

pub taken_out : (n : ℕ) (k : Heading) (old mid new : BTreeMap Heading (List ℕ)) → Becomes (with_place n) k old mid → Becomes without_last k mid new → StayLists old new
taken_out n k old mid new e f = λ q. undone (is_under k q) n (list_at old q) (list_at mid q) (list_at new q) (e q) (f q)
