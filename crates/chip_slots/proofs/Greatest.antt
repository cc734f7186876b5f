-- The slot of the greatest generation, by its place.
use Rattle.std.proofs.Common.{◌≡◌, ◌≢◌, ◌⊎◌, inl, inr, ℕ, zero, suc, ◌%◌, ◌<◌, ◌≤◌, Some, None, Bool, true, false, cond, refl, sym, ◌∙◌, ap, subst, arith, ⊎_elim}
use Rattle.std.proofs.lemmas.Bool.{cases_eq}
use Rattle.std.proofs.lemmas.Bool.Decides.{nat_tests}
use Rattle.std.specs.Prelude.{nat_lt}
use Rattle.chip_verify.specs.Trust.{Trust}
use Rattle.chip_slots.specs.Ready.{IsApart, IsMore}
use Rattle.chip_slots.specs.Image.{Reading, newer, greatest}

-- one slot says this, and each other one less or nothing
pub record Newest (says : ℕ → Reading) (n : ℕ) (x : Trust × ℕ) : Type 0 where
  pub slot : ℕ
  pub below : slot < n
  pub here : says slot ≡ Some x
  pub others : (j : ℕ) (y : Trust × ℕ) → j < n → j ≢ slot → says j ≡ Some y → y.1 < x.1

newer_first : (x : Trust × ℕ) (r : Reading) → ((y : Trust × ℕ) → r ≡ Some y → y.1 < x.1) → newer (Some x) r ≡ Some x
newer_first x None less = refl
newer_first x (Some y) less =
    let h = less y refl in
    let not_less : nat_lt x.1 y.1 ≡ false = grind (arith, nat_tests) in
    ap (λ b. cond b (Some y) (Some x)) not_less

newer_second : (x : Trust × ℕ) (r : Reading) → ((y : Trust × ℕ) → r ≡ Some y → y.1 < x.1) → newer r (Some x) ≡ Some x
newer_second x None less = refl
newer_second x (Some y) less =
    let h = less y refl in
    let is_less : nat_lt y.1 x.1 ≡ true = grind (arith, nat_tests) in
    ap (λ b. cond b (Some x) (Some y)) is_less

-- what is the greatest is said by a slot
said_by : (says : ℕ → Reading) (n : ℕ) (y : Trust × ℕ) → greatest says n ≡ Some y → (j : ℕ) × (j < n) × (says j ≡ Some y)
said_by says zero y h = absurd (cc)
said_by says (suc n) y h = go (says n) refl (greatest says n) refl h (said_by says n)
  where
    go : (a : Reading) → says n ≡ a → (b : Reading) → greatest says n ≡ b → newer a b ≡ Some y → ((z : Trust × ℕ) → greatest says n ≡ Some z → (j : ℕ) × (j < n) × (says j ≡ Some z)) → (j : ℕ) × (j < suc n) × (says j ≡ Some y)
    go None is b was e back = let r = back y (was ∙ e) in (r.0, omega (arith, r.1), r.2)
    go (Some a) is None was e back = (n, omega arith, is ∙ e)
    go (Some a) is (Some b) was e back = pick (nat_lt a.1 b.1) e
      where
        pick : (t : Bool) → cond t (Some b) (Some a) ≡ Some y → (j : ℕ) × (j < suc n) × (says j ≡ Some y)
        pick true e' = let r = back y (was ∙ e') in (r.0, omega (arith, r.1), r.2)
        pick false e' = (n, omega arith, is ∙ e')

-- where one is the newest, it is read
pub newest_is_greatest : (says : ℕ → Reading) (n : ℕ) (x : Trust × ℕ) → Newest says n x → greatest says n ≡ Some x
newest_is_greatest says zero x w = absurd (omega (arith, w.below))
newest_is_greatest says (suc n) x w = ⊎_elim
    (λ (last : w.slot ≡ n).
    ap (λ (r : Reading). newer r (greatest says n)) (subst (λ (k : ℕ). says k ≡ Some x) last w.here)
    ∙ newer_first x (greatest says n) (λ y h. let s = said_by says n y h in w.others s.0 y (omega (arith, s.1)) (λ same. absurd (omega (arith, s.1, same, last))) s.2))
    (λ (earlier : w.slot ≢ n).
    let front : Newest says n x = record { slot = w.slot; below = omega (arith, w.below, earlier); here = w.here; others = λ j y lt ne e. w.others j y (omega (arith, lt)) ne e } in
    ap (λ (r : Reading). newer (says n) r) (newest_is_greatest says n x front)
    ∙ newer_second x (says n) (λ y h. w.others n y (omega arith) (λ same. absurd (earlier (sym same))) h))
    (cases_eq w.slot n)

-- another slot may close
pub newest_stays : (says told : ℕ → Reading) (n : ℕ) (x : Trust × ℕ) (w : Newest says n x) → told w.slot ≡ says w.slot → ((j : ℕ) → j < n → j ≢ w.slot → (told j ≡ says j) ⊎ (told j ≡ None)) → Newest told n x
newest_stays says told n x w same rest = record {
  slot = w.slot;
  below = w.below;
  here = same ∙ w.here;
  others = λ j y lt ne e. ⊎_elim
      (λ (h : told j ≡ says j). w.others j y lt ne (sym h ∙ e))
      (λ (h : told j ≡ None). absurd (cc (h, e)))
      (rest j lt ne);
}

-- another slot may open, with a greater generation
pub newest_opens : (says told : ℕ → Reading) (n : ℕ) (x y : Trust × ℕ) (w : Newest says n x) (slot : ℕ) → slot < n → told slot ≡ Some y → x.1 < y.1 → ((j : ℕ) → j < n → j ≢ slot → (told j ≡ says j) ⊎ (told j ≡ None)) → Newest told n y
newest_opens says told n x y w slot lt here more rest = record {
  slot = slot;
  below = lt;
  here = here;
  others = λ j z below ne e. ⊎_elim
      (λ (h : told j ≡ says j). ⊎_elim
      (λ (at : j ≡ w.slot). at_newest j z at (sym h ∙ e))
      (λ (off : j ≢ w.slot). omega (arith, w.others j z below off (sym h ∙ e)))
      (cases_eq j w.slot))
      (λ (h : told j ≡ None). absurd (cc (h, e)))
      (rest j below ne);
}
  where
    at_newest : (j : ℕ) (z : Trust × ℕ) → j ≡ w.slot → says j ≡ Some z → z.1 < y.1
    at_newest j z at e =
        let there : says j ≡ Some x = subst (λ (k : ℕ). says k ≡ Some x) (sym at) w.here in
        let same : z ≡ x = some_same z x (sym e ∙ there) in
        subst (λ (p : Trust × ℕ). p.1 < y.1) (sym same) more
      where
        some_same : (a b : Trust × ℕ) → Some a ≡ Some b → a ≡ b
        some_same a b h = cc

-- each slot's generation, modulo the number of slots, is its number
abbrev pub Placed : (ℕ → Reading) → ℕ → Type 0
Placed says n = (j : ℕ) (y : Trust × ℕ) → j < n → says j ≡ Some y → y.1 % n ≡ j

nothing_below : (says : ℕ → Reading) (n : ℕ) → greatest says n ≡ None → (j : ℕ) → j < n → says j ≡ None
nothing_below says zero h j lt = absurd (omega (arith, lt))
nothing_below says (suc n) h j lt = go (says n) refl (greatest says n) refl h (nothing_below says n)
  where
    go : (a : Reading) → says n ≡ a → (b : Reading) → greatest says n ≡ b → newer a b ≡ None → (greatest says n ≡ None → (i : ℕ) → i < n → says i ≡ None) → says j ≡ None
    go None is b was e back = ⊎_elim (λ (at : j ≡ n). subst (λ (m : ℕ). says m ≡ None) (sym at) is) (λ (off : j ≢ n). back (was ∙ e) j (omega (arith, lt, off))) (cases_eq j n)
    go (Some a) is None was e back = absurd (cc)
    go (Some a) is (Some b) was e back = pick (nat_lt a.1 b.1) e
      where
        pick : (t : Bool) → cond t (Some b) (Some a) ≡ None → says j ≡ None
        pick true e' = absurd (cc)
        pick false e' = absurd (cc)

bounds : (says : ℕ → Reading) (n : ℕ) (x : Trust × ℕ) → greatest says n ≡ Some x → (j : ℕ) (y : Trust × ℕ) → j < n → says j ≡ Some y → y.1 ≤ x.1
bounds says zero x h j y lt e = absurd (omega (arith, lt))
bounds says (suc n) x h j y lt e = go (says n) refl (greatest says n) refl h (λ z g. bounds says n z g)
  where
    at_last : (a : Trust × ℕ) → says n ≡ Some a → j ≡ n → a ≡ y
    at_last a is at = let f : Some a ≡ Some y = sym is ∙ subst (λ (m : ℕ). says m ≡ Some y) at e in cc

    go : (a : Reading) → says n ≡ a → (b : Reading) → greatest says n ≡ b → newer a b ≡ Some x → ((z : Trust × ℕ) → greatest says n ≡ Some z → (i : ℕ) (v : Trust × ℕ) → i < n → says i ≡ Some v → v.1 ≤ z.1) → y.1 ≤ x.1
    go None is b was e' back = ⊎_elim (λ (at : j ≡ n). absurd (cc (sym is ∙ subst (λ (m : ℕ). says m ≡ Some y) at e))) (λ (off : j ≢ n). back x (was ∙ e') j y (omega (arith, lt, off)) e) (cases_eq j n)
    go (Some a) is None was e' back = ⊎_elim (λ (at : j ≡ n). let s = at_last a is at in let f : a ≡ x = cc in omega (arith, ap (λ (p : Trust × ℕ). p.1) s, ap (λ (p : Trust × ℕ). p.1) f)) (λ (off : j ≢ n). absurd (cc (e, nothing_below says n was j (omega (arith, lt, off))))) (cases_eq j n)
    go (Some a) is (Some b) was e' back = pick (nat_lt a.1 b.1) refl e'
      where
        pick : (t : Bool) → nat_lt a.1 b.1 ≡ t → cond t (Some b) (Some a) ≡ Some x → y.1 ≤ x.1
        pick true less e'' = let f : b ≡ x = cc in ⊎_elim (λ (at : j ≡ n). let s = at_last a is at in let l : a.1 < b.1 = grind (arith, nat_tests) in omega (arith, l, ap (λ (p : Trust × ℕ). p.1) s, ap (λ (p : Trust × ℕ). p.1) f)) (λ (off : j ≢ n). omega (arith, back b was j y (omega (arith, lt, off)) e, ap (λ (p : Trust × ℕ). p.1) f)) (cases_eq j n)
        pick false less e'' = let f : a ≡ x = cc in ⊎_elim (λ (at : j ≡ n). let s = at_last a is at in omega (arith, ap (λ (p : Trust × ℕ). p.1) s, ap (λ (p : Trust × ℕ). p.1) f)) (λ (off : j ≢ n). let l : b.1 ≤ a.1 = grind (arith, nat_tests) in omega (arith, l, back b was j y (omega (arith, lt, off)) e, ap (λ (p : Trust × ℕ). p.1) f)) (cases_eq j n)

-- what is read is the newest
pub greatest_is_newest : (says : ℕ → Reading) (n : ℕ) (x : Trust × ℕ) → Placed says n → greatest says n ≡ Some x → Newest says n x
greatest_is_newest says n x placed h =
    let s = said_by says n x h in
    record {
      slot = s.0;
      below = s.1;
      here = s.2;
      others = λ j y lt ne e.
          let le : y.1 ≤ x.1 = bounds says n x h j y lt e in
          let differ : y.1 ≢ x.1 = λ same. ne (sym (placed j y lt e) ∙ ap (λ (g : ℕ). g % n) same ∙ placed s.0 x s.1 s.2) in
          omega (arith, le, differ);
    }

-- ---- one slot is written, which isn't the newest one's

-- nothing is said by any
nothing_said : (says : ℕ → Reading) (n : ℕ) → ((j : ℕ) → j < n → says j ≡ None) → greatest says n ≡ None
nothing_said says zero none = refl
nothing_said says (suc n) none = ap (λ (r : Reading). newer r (greatest says n)) (none n (omega arith)) ∙ nothing_said says n (λ j lt. none j (omega (arith, lt)))

module _ (says told : ℕ → Reading) (n : ℕ) (placed : Placed says n) (slot : ℕ) (others : (j : ℕ) → j < n → j ≢ slot → told j ≡ says j) where
  -- it says nothing now
  pub shut : (old : Reading) → greatest says n ≡ old → IsApart old n slot → told slot ≡ None → greatest told n ≡ old
  shut None is apart none = nothing_said told n (λ j lt. ⊎_elim
      (λ (at : j ≡ slot). subst (λ (m : ℕ). told m ≡ None) (sym at) none)
      (λ (off : j ≢ slot). others j lt off ∙ nothing_below says n is j lt)
      (cases_eq j slot))
  shut (Some x) is apart none =
      let w : Newest says n x = greatest_is_newest says n x placed is in
      let away : w.slot ≢ slot = λ same. apart (placed w.slot x w.below w.here ∙ same) in
      newest_is_greatest told n x (newest_stays says told n x w (others w.slot w.below away) (λ j lt ne. ⊎_elim
      (λ (at : j ≡ slot). inr (subst (λ (m : ℕ). told m ≡ None) (sym at) none))
      (λ (off : j ≢ slot). inl (others j lt off))
      (cases_eq j slot)))

  -- it says what it said
  pub stays : told slot ≡ says slot → greatest told n ≡ greatest says n
  stays same = same_greatest n (λ j lt. ⊎_elim
      (λ (at : j ≡ slot). subst (λ (m : ℕ). told m ≡ says m) (sym at) same)
      (λ (off : j ≢ slot). others j lt off)
      (cases_eq j slot))
    where
      same_greatest : (k : ℕ) → ((j : ℕ) → j < k → told j ≡ says j) → greatest told k ≡ greatest says k
      same_greatest zero each = refl
      same_greatest (suc k) each = ap (λ (r : Reading). newer r (greatest told k)) (each k (omega arith)) ∙ ap (newer (says k)) (same_greatest k (λ j lt. each j (omega (arith, lt))))

  -- it says a greater generation now
  pub opened : (old : Reading) (y : Trust × ℕ) → greatest says n ≡ old → IsMore old y → slot < n → told slot ≡ Some y → greatest told n ≡ Some y
  opened None y is more below here = newest_is_greatest told n y (record {
    slot = slot;
    below = below;
    here = here;
    others = λ j z lt off e. absurd (cc (sym (others j lt off ∙ nothing_below says n is j lt) ∙ e));
  })
  opened (Some x) y is more below here =
      let w : Newest says n x = greatest_is_newest says n x placed is in
      newest_is_greatest told n y (newest_opens says told n x y w slot below here more (λ j lt ne. inl (others j lt ne)))
