-- Own rows are found by their references, and the one that signs is among them.
use Rattle.std.proofs.Common.{◌≡◌, ◌⊎◌, ⊎_elim, inl, inr, ℕ, ◌+◌, ◌<◌, ◌≤◌, ◌/◌, ◌%◌, Bool, true, false, cond, List, [], ◌∷◌, length, Some, None, refl, sym, ap, ◌∙◌, subst, arith, true≢false}
use Rattle.std.specs.Prelude.{◌&&◌, Contains, filter_map}
use Rattle.std.specs.declared.option.Option.{Option}
use Rattle.std.specs.List.{cons_option}
use Rattle.std.specs.Str.{bytes_eq}
use Rattle.std.proofs.lemmas.List.{append_cancel_left}
use Rattle.std.proofs.lemmas.List.Elements.{Contains-append_left, Contains-append_right, Contains-append_cases, Contains-push, Contains-push_cases}
use Rattle.eac_base.proofs.EqualBytes.{bytes_eq-true, bytes_eq-self}
use Rattle.holder_reference.specs.Sequence.{five_digits}
use Rattle.keeper.specs.declared.rows.Row.{Row}
use Rattle.keeper.specs.declared.rows.OwnPart.{OwnPart}
use Rattle.keeper.specs.declared.rows.Settled.{Settled}
use Rattle.keeper.specs.declared.rows.Part.{Part}
use Rattle.keeper.specs.declared.rows.Part.TheVariants as part
use Rattle.keeper.specs.declared.rows.Table.TheVariants as table
use Rattle.keeper.specs.Rows.{is_of, row_at}
use Rattle.holder_core.specs.Numbers.{numbered}
use Rattle.holder_core.specs.OwnRows.{own_rows, own_part}
use Rattle.holder_core.specs.Lawful.{NumberedFrom}
use Rattle.holder_core.specs.Signers.{Signer, settled_as, own_as, own_signer, where_so, has_legal_form, is_asked_from, wanted_in, newer, newest, newest_wanted}
use Rattle.holder_core.specs.declared.newest.Wanted.TheVariants as wanted

-- ---- lists

pub some_same : {X : Type 0} (x y : X) → Some x ≡ Some y → x ≡ y
some_same x y e = cc

pub none_some : {X : Type 0} (x : X) → ◌≡◌ {A = Option X} None (Some x) → ⊥
none_some x e = absurd (cc)

-- the first, or one of the others
cons_cases : {X : Type 0} (x : X) (xs : List X) (y : X) → Contains (x ∷ xs) y → (x ≡ y) ⊎ Contains xs y
cons_cases {X} x xs y c =
    ⊎_elim
    (λ (h : Contains (x ∷ []) y). ⊎_elim (λ (n : Contains [] y). absurd (no n)) (λ (e : x ≡ y). inl e) (Contains-push_cases [] x y h))
    (λ (h : Contains xs y). inr h)
    (Contains-append_cases (x ∷ []) xs y c)
  where
    no : Contains [] y → ⊥
    no n = let lt : n.0 < 0 = n.1 in omega (arith, lt)

first_in : {X : Type 0} (x : X) (xs : List X) (y : X) → x ≡ y → Contains (x ∷ xs) y
first_in x xs y e = subst (λ (z : _). Contains (x ∷ xs) z) e (Contains-append_left (x ∷ []) xs x (Contains-push [] x))

later_in : {X : Type 0} (x : X) (xs : List X) (y : X) → Contains xs y → Contains (x ∷ xs) y
later_in x xs y c = Contains-append_right (x ∷ []) xs y c

-- ---- numbers

same_number : (m n : ℕ) → m < 100000 → n < 100000 → five_digits m ≡ five_digits n → m ≡ n
same_number m n small below e =
    let a : 48 + m / 10000 % 10 ≡ 48 + n / 10000 % 10 = cc in
    let b : 48 + m / 1000 % 10 ≡ 48 + n / 1000 % 10 = cc in
    let c : 48 + m / 100 % 10 ≡ 48 + n / 100 % 10 = cc in
    let d : 48 + m / 10 % 10 ≡ 48 + n / 10 % 10 = cc in
    let f : 48 + m % 10 ≡ 48 + n % 10 = cc in
    omega arith

one_number : (holder : List ℕ) (m n : ℕ) → m < 100000 → n < 100000 → numbered holder m ≡ numbered holder n → m ≡ n
one_number holder m n small below e = same_number m n small below (append_cancel_left holder (five_digits m) (five_digits n) e)

-- another number, another reference
unlike : (holder : List ℕ) (m n : ℕ) (b : Bool) (x y : List ℕ) → bytes_eq x y ≡ b → x ≡ numbered holder m → y ≡ numbered holder n → m < n → n < 100000 → b ≡ false
unlike holder m n false x y e is at less below = refl
unlike holder m n true x y e is at less below =
    let same : m ≡ n = one_number holder m n (omega (arith, less, below)) below (sym is ∙ bytes_eq-true x y e ∙ at) in
    absurd (omega (arith, same, less))

-- the number of a row among numbered ones
pub record HasNumber (holder : List ℕ) (from : ℕ) (count : ℕ) (row : Row) : Type 0 where
  pub number : ℕ
  pub is : row.reference ≡ numbered holder number
  pub least : from ≤ number
  pub most : number < from + count

pub number_of : (holder : List ℕ) (rows : List Row) (from : ℕ) → NumberedFrom holder from rows → (row : Row) → Contains rows row → HasNumber holder from (length rows) row
number_of holder [] from are row c = let lt : c.0 < 0 = c.1 in absurd (omega (arith, lt))
number_of holder (x ∷ xs) from are row c = ⊎_elim
    (λ (e : x ≡ row). record { number = from; is = ap (λ (r : Row). r.reference) (sym e) ∙ are.0; least = omega arith; most = omega arith })
    (λ (h : Contains xs row). let n = number_of holder xs (from + 1) are.1 row h in record { number = n.number; is = n.is; least = omega (arith, n.least); most = omega (arith, n.most) })
    (cons_cases x xs row c)

-- ---- an own row is found by its reference

module _ (desk : ℕ) (holder : List ℕ) where
  in_front : (x : Row) (rest : Option Row) (row : Row) → x ≡ row → (b : Bool) → bytes_eq x.reference row.reference ≡ b → cond b (Some x) rest ≡ Some row
  in_front x rest row e true is = ap Some e
  in_front x rest row e false is = absurd (true≢false (sym (bytes_eq-self row.reference) ∙ ap (λ (r : Row). bytes_eq r.reference row.reference) (sym e) ∙ is))

  behind : (x : Row) (rest : Option Row) (b : Bool) → b ≡ false → cond b (Some x) rest ≡ rest
  behind x rest true e = absurd (true≢false e)
  behind x rest false e = refl

  seen : (x : Row) (own : List Row) (rest : Option Row) (b : Bool) (from : ℕ) → NumberedFrom holder from (cond b (x ∷ own) own) → from + length (cond b (x ∷ own) own) ≤ 100000 → (row : Row) → Contains (cond b (x ∷ own) own) row
      → ((n : ℕ) → NumberedFrom holder n own → n + length own ≤ 100000 → Contains own row → rest ≡ Some row) → cond (b && bytes_eq x.reference row.reference) (Some x) rest ≡ Some row
  seen x own rest true from are most row c more = ⊎_elim
      (λ (e : x ≡ row). in_front x rest row e (bytes_eq x.reference row.reference) refl)
      (λ (h : Contains own row).
      let n = number_of holder own (from + 1) are.1 row h in
      let least : from + 1 ≤ n.number = n.least in
      let top : n.number < from + 1 + length own = n.most in
      behind x rest (bytes_eq x.reference row.reference) (unlike holder from n.number (bytes_eq x.reference row.reference) x.reference row.reference refl are.0 n.is (omega (arith, least)) (omega (arith, top, most)))
      ∙ more (from + 1) are.1 (omega (arith, most)) h)
      (cons_cases x own row c)
  seen x own rest false from are most row c more = more from are most c

  pub found_there : (rows : List Row) (from : ℕ) → NumberedFrom holder from (own_rows desk rows) → from + length (own_rows desk rows) ≤ 100000 → (row : Row) → Contains (own_rows desk rows) row → row_at table.Own desk row.reference rows ≡ Some row
  found_there [] from are most row c = let lt : c.0 < 0 = c.1 in absurd (omega (arith, lt))
  found_there (x ∷ rows) from are most row c =
      seen x (own_rows desk rows) (row_at table.Own desk row.reference rows) (is_of table.Own desk x) from are most row c (λ n h k i. found_there rows n h k row i)

  -- where the party has none, none is found
  no_row : (x : Row) (own : List Row) (rest : Option Row) (reference : List ℕ) (b : Bool) → cond b (x ∷ own) own ≡ [] → (own ≡ [] → rest ≡ None) → cond (b && bytes_eq x.reference reference) (Some x) rest ≡ None
  no_row x own rest reference true e more = absurd (cc)
  no_row x own rest reference false e more = more e

  pub none_there : (rows : List Row) (reference : List ℕ) → own_rows desk rows ≡ [] → row_at table.Own desk reference rows ≡ None
  none_there [] reference e = refl
  none_there (x ∷ rows) reference e = no_row x (own_rows desk rows) (row_at table.Own desk reference rows) reference (is_of table.Own desk x) e (none_there rows reference)

-- an own row is one of all, and the desk's
pub record IsOwnRow (desk : ℕ) (rows : List Row) (row : Row) : Type 0 where
  pub among : Contains rows row
  pub of : is_of table.Own desk row ≡ true

kept_own : (desk : ℕ) (x : Row) (own : List Row) (rows : List Row) (b : Bool) → is_of table.Own desk x ≡ b → (row : Row) → Contains (cond b (x ∷ own) own) row → (Contains own row → IsOwnRow desk rows row) → IsOwnRow desk (x ∷ rows) row
kept_own desk x own rows true is row c more = ⊎_elim
    (λ (e : x ≡ row). record { among = first_in x rows row e; of = ap (is_of table.Own desk) (sym e) ∙ is })
    (λ (h : Contains own row). let m = more h in record { among = later_in x rows row m.among; of = m.of })
    (cons_cases x own row c)
kept_own desk x own rows false is row c more = let m = more c in record { among = later_in x rows row m.among; of = m.of }

pub own_row_of : (desk : ℕ) (rows : List Row) (row : Row) → Contains (own_rows desk rows) row → IsOwnRow desk rows row
own_row_of desk [] row c = let lt : c.0 < 0 = c.1 in absurd (omega (arith, lt))
own_row_of desk (x ∷ rows) row c = kept_own desk x (own_rows desk rows) rows (is_of table.Own desk x) refl row c (own_row_of desk rows row)

-- ---- the newest is one of those that are wanted

newer_cases : (s : Signer) (o : Option Signer) → (newer s o ≡ s) ⊎ (o ≡ Some (newer s o))
newer_cases s None = inl refl
newer_cases s (Some t) = go _
  where
    go : (b : Bool) → (cond b s t ≡ s) ⊎ (Some t ≡ Some (cond b s t))
    go true = inl refl
    go false = inr refl

newest_in : (ss : List Signer) (s : Signer) → newest ss ≡ Some s → Contains ss s
newest_in [] s e = absurd (none_some s e)
newest_in (x ∷ ss) s e = ⊎_elim
    (λ (h : newer x (newest ss) ≡ x). first_in x ss s (sym h ∙ some_same (newer x (newest ss)) s e))
    (λ (h : newest ss ≡ Some (newer x (newest ss))). later_in x ss s (newest_in ss s (h ∙ e)))
    (newer_cases x (newest ss))

-- a row that gives it
pub record Gives (h : Row → Option Signer) (rows : List Row) (s : Signer) : Type 0 where
  pub row : Row
  pub among : Contains rows row
  pub gives : h row ≡ Some s

mapped_more : (h : Row → Option Signer) (x : Row) (rows : List Row) (s : Signer) → Gives h rows s → Gives h (x ∷ rows) s
mapped_more h x rows s g = record { row = g.row; among = later_in x rows g.row g.among; gives = g.gives }

mapped_first : (h : Row → Option Signer) (x : Row) (rows : List Row) (s : Signer) (o : Option Signer) → h x ≡ o → (Contains (filter_map h rows) s → Gives h rows s) →
    Contains (cons_option o (filter_map h rows)) s → Gives h (x ∷ rows) s
mapped_first h x rows s None is rest k = mapped_more h x rows s (rest k)
mapped_first h x rows s (Some t) is rest k = ⊎_elim
    (λ (e : t ≡ s). record { row = x; among = first_in x rows x refl; gives = is ∙ ap Some e })
    (λ (k' : Contains (filter_map h rows) s). mapped_more h x rows s (rest k'))
    (cons_cases t (filter_map h rows) s k)

mapped_in : (h : Row → Option Signer) (rows : List Row) (s : Signer) → Contains (filter_map h rows) s → Gives h rows s
mapped_in h [] s c = let lt : c.0 < 0 = c.1 in absurd (omega (arith, lt))
mapped_in h (x ∷ rows) s c = mapped_first h x rows s (h x) refl (λ k. mapped_in h rows s k) c

-- an own row that has its certificate, as the one that signs
pub record IsSigner (row : Row) (s : Signer) : Type 0 where
  pub own : OwnPart
  pub part_is : row.part ≡ part.Own own
  pub reference_is : row.reference ≡ s.reference
  pub key_is : own.key ≡ s.key

pub signer_of : (row : Row) (s : Signer) → own_signer row ≡ Some s → IsSigner row s
signer_of row s e = go row.part refl e
  where
    settled_go : (own : OwnPart) → row.part ≡ part.Own own → (x : Option Settled) → settled_as row.reference own.key x ≡ Some s → IsSigner row s
    settled_go own is None k = absurd (none_some s k)
    settled_go own is (Some x) k =
        let same : record { reference = row.reference; key = own.key; settled = x } ≡ s = some_same (record { reference = row.reference; key = own.key; settled = x }) s k in
        record { own = own; part_is = is; reference_is = ap (λ (z : Signer). z.reference) same; key_is = ap (λ (z : Signer). z.key) same }

    go : (p : Part) → row.part ≡ p → own_as row.reference (own_part p) ≡ Some s → IsSigner row s
    go (part.Own own) is k = settled_go own is own.settled k
    go (part.Register request day) is k = absurd (none_some s k)
    go (part.Issued p) is k = absurd (none_some s k)
    go (part.Ca p) is k = absurd (none_some s k)

where_same : (test : Signer → Bool) (o : Option Signer) (s : Signer) → where_so test o ≡ Some s → o ≡ Some s
where_same test None s e = absurd (none_some s e)
where_same test (Some t) s e = go (test t) e
  where
    go : (b : Bool) → cond b (Some t) None ≡ Some s → Some t ≡ Some s
    go true k = k
    go false k = absurd (none_some s k)

-- an own row that signs
pub record SignsFor (desk : ℕ) (rows : List Row) (s : Signer) : Type 0 where
  pub row : Row
  pub among : Contains (own_rows desk rows) row
  pub signer : IsSigner row s

signs_by : (h : Row → Option Signer) → ((row : Row) (t : Signer) → h row ≡ Some t → own_signer row ≡ Some t) → (desk : ℕ) (rows : List Row) (s : Signer) → newest (filter_map h (own_rows desk rows)) ≡ Some s → SignsFor desk rows s
signs_by h same desk rows s e =
    let g = mapped_in h (own_rows desk rows) s (newest_in (filter_map h (own_rows desk rows)) s e) in
    record { row = g.row; among = g.among; signer = signer_of g.row s (same g.row s g.gives) }

-- the newest own row with a key that a new one can be made like
pub link_signs : (desk : ℕ) (rows : List Row) (s : Signer) → newest_wanted wanted.LikeNew (own_rows desk rows) ≡ Some s → SignsFor desk rows s
link_signs desk rows s e = signs_by (wanted_in wanted.LikeNew) (λ row t is. where_same (λ u. has_legal_form u.key) (own_signer row) t is) desk rows s e

-- the newest own row that was asked from this authority
pub asked_signs : (authority : List ℕ) (desk : ℕ) (rows : List Row) (s : Signer) → newest_wanted (wanted.AskedFrom authority) (own_rows desk rows) ≡ Some s → SignsFor desk rows s
asked_signs authority desk rows s e =
    signs_by (wanted_in (wanted.AskedFrom authority)) (λ row t is. where_same (λ u. is_asked_from authority (own_part row.part)) (own_signer row) t is) desk rows s e
