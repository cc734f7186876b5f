-- From a store that is told to its rows, and back.
use Rattle.std.proofs.Common.{◌≡◌, List, ◌&&◌, Bool, true, false, cond, Option, Some, None, refl, sym, ap, subst, ◌∙◌, nat_eq, eq-eqb, is_some, map}
use Rattle.std.proofs.lemmas.Bool.{eqb-true}
use Rattle.eac_base.specs.Answers.{◌gives◌}
use Rattle.eac_base.specs.Telling.{Told}
use Rattle.sqlite_trees.specs.View.{doubt}
use Rattle.sqlite.specs.Order.{Row as SqlRow}
use Rattle.sqlite.specs.State.{State}
use Rattle.keeper.specs.declared.rows.Row.{Row}
use Rattle.keeper.specs.Rows.{are_unique, UniqueKeys}
use Rattle.keeper.proofs.UniqueRows.{and_parts}
use Rattle.keeper_sqlite.specs.Kept.{Entry, encode, IsTold, HoldsRows}
use Rattle.keeper_sqlite.specs.ToldRows.{entries_in, rise, rows_for, if_unique, if_rising, listed, Stores}
use Rattle.keeper_sqlite.specs.Sound.{is_told, told_if, told_rows, KeptSound, IsSound}
use Rattle.keeper_sqlite.specs.Holding.{Holding, Leads}
use Rattle.keeper_sqlite.proofs.Options.{some_gives, some_if}
use Rattle.keeper_sqlite.proofs.Decoding.{entries_are, entries_again, rise_keyed, keyed_rise, rows_stored, stored_rows}

told_none : (o : Option (List Row)) (P : List Row → List Row → Type 0) → Told o None P
told_none None P = tt
told_none (Some x) P = tt

some_if_else : {A : Type 0} (b : Bool) (o : Option A) (y : A) → cond b o None ≡ Some y → (b ≡ true) × (o ≡ Some y)
some_if_else true o y e = (refl, e)
some_if_else false o y e = absurd cc

pub told_is : (known : Bool) (s : State) → is_told known s ≡ true → (known ≡ true) × IsTold s
told_is known s h =
    let q = and_parts known (nat_eq (doubt s.is_clean) 0 && s.is_open) h in
    let p = and_parts (nat_eq (doubt s.is_clean) 0) s.is_open q.1 in
    (q.0, (eqb-true (doubt s.is_clean) 0 p.0, p.1))

both_hold : (a b : Bool) → a ≡ true → b ≡ true → a && b ≡ true
both_hold a b p q = (λ i. p i && b) ∙ q

pub is_told_of : (known : Bool) (s : State) → known ≡ true → IsTold s → is_told known s ≡ true
is_told_of known s k t = both_hold known (nat_eq (doubt s.is_clean) 0 && s.is_open) k (both_hold (nat_eq (doubt s.is_clean) 0) s.is_open (eq-eqb (doubt s.is_clean) 0 t.0) t.1)

-- the entries and rows behind rows that are listed
pub record Behind (rs : List SqlRow) (rows : List Row) : Type 0 where
  pub entries : List Entry
  pub are : rs ≡ map encode entries
  pub rises : rise entries ≡ true
  pub stores : Stores entries rows
  pub unique : UniqueKeys rows

pub behind : (rs : List SqlRow) (rows : List Row) → listed rs ≡ Some rows → Behind rs rows
behind rs rows h =
    let p = some_gives (entries_in rs) if_rising rows h in
    let q = some_if_else (rise p.0) (rows_for p.0 gives if_unique) rows p.2 in
    let r = some_gives (rows_for p.0) if_unique rows q.1 in
    let u = some_if (are_unique r.0) r.0 rows r.2 in
    record { entries = p.0; are = entries_are rs p.0 p.1; rises = q.0; stores = rows_stored p.0 rows (r.1 ∙ ap (λ (l : List Row). Some l) u.1); unique = subst UniqueKeys u.1 u.0 }

pub ahead : (entries : List Entry) (rows : List Row) → rise entries ≡ true → Stores entries rows → UniqueKeys rows → listed (map encode entries) ≡ Some rows
ahead entries rows rises stores unique =
    ap (λ o. o gives if_rising) (entries_again entries)
    ∙ ap (λ b. cond b (rows_for entries gives if_unique) None) rises
    ∙ ap (λ o. o gives if_unique) (stored_rows entries rows stores)
    ∙ ap (λ b. cond b (Some rows) None) unique

some_of : {A : Type 0} (o : Option A) → is_some o ≡ true → (x : A) × (o ≡ Some x)
some_of None h = absurd cc
some_of (Some x) h = (x, refl)

pub told_holds : (known : Bool) (s : State) → is_told known s ≡ true → KeptSound known s → (rows : List Row) × (told_rows known s ≡ Some rows) × Holding s rows
unfolding told_rows
told_holds known s told sound =
    let k = sound told in
    let l = some_of (listed (s.now.trees 0)) k.1.1.1.1 in
    let b = behind (s.now.trees 0) l.0 l.1 in (
      l.0,
      ap (λ c. told_if c (listed (s.now.trees 0))) told ∙ l.1,
      record {
        entries = b.entries;
        holds = record { autocommit = k.0; schema = k.1.1.0; settled = k.1.1.1.0; kept = record { schema = k.1.0; rows = b.are; keyed = rise_keyed b.entries b.rises } };
        stores = b.stores;
        unique = b.unique;
      },
    )

pub holds_listed : (s : State) (rows : List Row) → Holding s rows → listed (s.now.trees 0) ≡ Some rows
holds_listed s rows h = ap listed h.holds.kept.rows ∙ ahead h.entries rows (keyed_rise h.entries h.holds.kept.keyed) h.stores h.unique

pub holds_told : (known : Bool) (s : State) (rows : List Row) → is_told known s ≡ true → Holding s rows → told_rows known s ≡ Some rows
unfolding told_rows
holds_told known s rows told h = ap (λ c. told_if c (listed (s.now.trees 0))) told ∙ holds_listed s rows h

pub holds_sound : (s : State) (rows : List Row) → Holding s rows → IsSound s
holds_sound s rows h = (h.holds.autocommit, (h.holds.kept.schema, (h.holds.schema, (h.holds.settled, ap is_some (holds_listed s rows h)))))

pub untold : (o : Option (List Row)) (b : Bool) → b ≡ false → told_if b o ≡ None
untold o true h = absurd (let e = h in cc)
untold o false h = refl

pub decided : (b : Bool) (P : Type 0) → (b ≡ true → P) → (b ≡ false → P) → P
decided true P f g = f refl
decided false P f g = g refl

-- ---- what a call that leads from rows to rows is to a keeper

pub tells : (known : Bool) (old new : State) (P : List Row → List Row → Type 0) → KeptSound known old → Leads old new P → Told (told_rows known old) (told_rows known new) P
unfolding told_rows
tells known old new P sound leads =
    decided (is_told known new) (Told (told_rows known old) (told_rows known new) P)
    (λ told. let now = told_is known new told in
    let before = told_holds known old (is_told_of known old now.0 (leads.told now.1)) sound in
    let after = leads.rows now.1 before.0 before.2 in
    subst (λ o. Told o (told_rows known new) P) (sym before.1) (subst (λ o. Told (Some before.0) o P) (sym (holds_told known new after.after told after.holds)) after.does))
    (λ no_more. subst (λ o. Told (told_rows known old) o P) (sym (untold (listed (new.now.trees 0)) (is_told known new) no_more)) (told_none (told_rows known old) P))

pub stays_sound : (known : Bool) (old new : State) (P : List Row → List Row → Type 0) → KeptSound known old → Leads old new P → KeptSound known new
stays_sound known old new P sound leads told =
    let now = told_is known new told in
    let before = told_holds known old (is_told_of known old now.0 (leads.told now.1)) sound in
    let after = leads.rows now.1 before.0 before.2 in
    holds_sound new after.after after.holds

-- ---- calls one after the other

pub keeps_holding : (old new : State) (rows : List Row) → ((entries : List Entry) → HoldsRows entries old → HoldsRows entries new) → Holding old rows → Holding new rows
keeps_holding old new rows keeps h = record { entries = h.entries; holds = keeps h.entries h.holds; stores = h.stores; unique = h.unique }

-- a query that leaves the entries, and what it gives
pub queries : (old new : State) (P : List Row → Type 0) → (IsTold new → IsTold old) → (IsTold new → (entries : List Entry) → HoldsRows entries old → HoldsRows entries new)
    → (IsTold new → (rows : List Row) → Holding old rows → P rows) → Leads old new (λ before after. (after ≡ before) × P before)
queries old new P told keeps said = record {
  told = told;
  rows = λ now rows h. record { after = rows; holds = keeps_holding old new rows (keeps now) h; does = (refl, said now rows h) };
}

pub leads_then : (a b c : State) (P Q R : List Row → List Row → Type 0) → Leads a b P → Leads b c Q → ((x y z : List Row) → P x y → Q y z → R x z) → Leads a c R
leads_then a b c P Q R first next both = record {
  told = λ now. first.told (next.told now);
  rows = λ now rows h. let one = first.rows (next.told now) rows h in let two = next.rows now one.after one.holds in
      record { after = two.after; holds = two.holds; does = both rows one.after two.after one.does two.does };
}

pub leads_more : (a b : State) (P Q : List Row → List Row → Type 0) → Leads a b P → ((x y : List Row) → P x y → Q x y) → Leads a b Q
leads_more a b P Q leads more = record {
  told = leads.told;
  rows = λ now rows h. let one = leads.rows now rows h in record { after = one.after; holds = one.holds; does = more rows one.after one.does };
}
