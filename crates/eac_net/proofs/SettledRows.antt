-- An own row that waits is settled: its key and its request stay, and no other row changes.
use Rattle.std.proofs.Common.{◌≡◌, ℕ, Bool, true, false, true≢false, cond, List, [], ◌∷◌, ◌++◌, Some, None, refl, sym, ap, ◌∙◌, subst, inl, inr, ◌⊎◌, nat_eq, arith}
use Rattle.std.specs.Prelude.{Contains, IfSome, is_some, ◌&&◌, option_and_then, option_map, IsTrue}
use Rattle.std.specs.declared.option.Option.{Option}
use Rattle.std.specs.List.{AllByRecursion}
use Rattle.std.specs.Str.{bytes_eq}
use Rattle.std.proofs.lemmas.Bool.{eqb-true}
use Rattle.std.proofs.lemmas.List.Elements.{All-contains, All-from_recursion, recursion_from_All}
use Rattle.eac_base.proofs.EqualBytes.{bytes_eq-true}
use Rattle.holder_reference.specs.Reference.{holder_part}
use Rattle.signature_provider.specs.Provider.{PublicKey, Holds, public_key}
use Rattle.policy_limits.specs.Setup.{SetupValue, number_of, party, is_authority}
use Rattle.policy_limits.specs.declared.party.Party.{Party}
use Rattle.keeper.specs.declared.rows.Row.{Row}
use Rattle.keeper.specs.declared.rows.Part.{Part}
use Rattle.keeper.specs.declared.rows.OwnPart.{OwnPart}
use Rattle.keeper.specs.declared.rows.Settled.{Settled}
use Rattle.keeper.specs.declared.rows.Part.TheVariants as part
use Rattle.keeper.specs.declared.rows.Table.TheVariants as table
use Rattle.keeper.specs.Keeping.{MaySettle}
use Rattle.keeper.specs.Rows.{table_of, same_table, is_of, has_key, row_at, is_settled, with_settled, settled_part, settled_rows, UniqueKeys}
use Rattle.keeper.proofs.SettledRows.{keeps_key}
use Rattle.keeper.proofs.UniqueRows.{and_parts}
use Rattle.issue_core.specs.Issuing.Rows.{IsSettled, AreReadable, ReadablePart}
use Rattle.holder_core.specs.Lawful.{IsFounded}
use Rattle.holder_core.specs.OwnRows.{own_rows, own_part}
use Rattle.eac_net.specs.Lawful.{AreLawful}
use Rattle.eac_net.specs.Made.{key_in, key_at, key_named, made_own, made_part, made_in, all_made}
use Rattle.eac_net.specs.Moment.{AllHeld}
use Rattle.eac_net.specs.Parties.{kind_is, is_party_of}
use Rattle.eac_net.specs.Tracing.{Stay}
use Rattle.eac_net.proofs.Finding.{some_same, none_some}
use Rattle.eac_net.proofs.SigningRows.{there, here, head_or_tail, found_in}

-- ---- own rows of the desk

among_own : (desk : ℕ) (rows : List Row) (row : Row) → is_of table.Own desk row ≡ true → Contains rows row → Contains (own_rows desk rows) row
among_own desk [] row of c = c
among_own desk (x ∷ rows) row of c = go (head_or_tail x rows row c) (among_own desk rows row of)
  where
    first : (b : Bool) → b ≡ true → (own : List Row) → Contains (cond b (x ∷ own) own) x
    first true e own = here x own
    first false e own = absurd (true≢false (sym e))

    later : (b : Bool) (own : List Row) → Contains own row → Contains (cond b (x ∷ own) own) row
    later true own h = there x own row h
    later false own h = h

    go : (x ≡ row) ⊎ Contains rows row → (Contains rows row → Contains (own_rows desk rows) row) → Contains (own_rows desk (x ∷ rows)) row
    go (inl e) rest = subst (λ (y : Row). Contains (own_rows desk (x ∷ rows)) y) e (first (is_of table.Own desk x) (subst (λ (y : Row). is_of table.Own desk y ≡ true) (sym e) of) (own_rows desk rows))
    go (inr h) rest = later (is_of table.Own desk x) (own_rows desk rows) (rest h)

founded_settled : (row : Row) → IsFounded row → is_settled row.part ≡ true
founded_settled row f = go row.part refl f.part_is
  where
    go : (p : Part) → row.part ≡ p → own_part p ≡ Some f.own → is_settled p ≡ true
    go (part.Own own) is e = ap (λ (o : OwnPart). is_some o.settled) (some_same own f.own e) ∙ ap (λ (o : Option Settled). is_some o) f.settled_is
    go (part.Register request day) is e = absurd (none_some f.own e)
    go (part.Issued p) is e = absurd (none_some f.own e)
    go (part.Ca p) is e = absurd (none_some f.own e)

party_there : (setup : SetupValue) (desk : ℕ) (found : Option Party) → party setup desk ≡ found → is_party_of is_authority setup desk ≡ true → (p : Party) × (party setup desk ≡ Some p) × IsTrue (is_authority p.kind)
party_there setup desk None is e = absurd (true≢false (sym e ∙ ap (λ (f : Option Party). kind_is is_authority (option_map (λ (p : Party). p.kind) f)) is))
party_there setup desk (Some p) is e = (p, is, ap (λ (f : Option Party). kind_is is_authority (option_map (λ (q : Party). q.kind) f)) (sym is) ∙ e)

-- ---- one settling

module _ (desk : ℕ) (reference : List ℕ) (settled : Settled) where
  abbrev pub After : List Row → List Row
  After rows = settled_rows desk reference settled rows

  abbrev has : Row → Bool
  has row = has_key table.Own desk reference row

  abbrev now : Row → Row
  now row = cond (has row) (with_settled settled row) row

  -- ---- which rows change

  -- each row that changes waits
  abbrev pub Waits : List Row → Type 0
  Waits rows = (row : Row) → Contains rows row → has row ≡ true → is_settled row.part ≡ false

  pub waits : (rows : List Row) → UniqueKeys rows → MaySettle rows desk reference → Waits rows
  waits rows u may row c e =
      let parts = and_parts (is_of table.Own desk row) (bytes_eq row.reference reference) e in
      let named : row.reference ≡ reference = bytes_eq-true row.reference reference parts.1 in
      let found : row_at table.Own desk reference rows ≡ Some row = ap (λ (r : List ℕ). row_at table.Own desk r rows) (sym named) ∙ found_in desk rows row u parts.0 c in
      let same : may.row ≡ row = some_same may.row row (sym may.there ∙ found) in
      ap (λ (r : Row). is_settled r.part) (sym same) ∙ may.waits

  -- a row that is found has the key
  found_has : (row : Row) (rows : List Row) → row_at table.Own desk reference rows ≡ Some row → (has row ≡ true) × Contains rows row
  found_has row [] e = absurd (none_some row e)
  found_has row (x ∷ rows) e = by (has x) refl (found_has row rows) e
    where
      by : (b : Bool) → has x ≡ b → (row_at table.Own desk reference rows ≡ Some row → (has row ≡ true) × Contains rows row) → cond b (Some x) (row_at table.Own desk reference rows) ≡ Some row → (has row ≡ true) × Contains (x ∷ rows) row
      by true is rest f = let same : x ≡ row = some_same x row f in (ap has (sym same) ∙ is, subst (λ (y : Row). Contains (x ∷ rows) y) same (here x rows))
      by false is rest f = let later = rest f in (later.0, there x rows row later.1)

  -- and is no authority's
  pub not_founded : (setup : SetupValue) (rows : List Row) → UniqueKeys rows → MaySettle rows desk reference → AreLawful setup rows → is_party_of is_authority setup desk ≡ false
  not_founded setup rows u may l = go (is_party_of is_authority setup desk) refl
    where
      go : (b : Bool) → is_party_of is_authority setup desk ≡ b → is_party_of is_authority setup desk ≡ false
      go false e = e
      go true e =
          let p = party_there setup desk (party setup desk) refl e in
          let h = found_has may.row rows may.there in
          let of : is_of table.Own desk may.row ≡ true = (and_parts (is_of table.Own desk may.row) (bytes_eq may.row.reference reference) h.0).0 in
          let founded : IsFounded may.row = All-contains IsFounded (own_rows desk rows) may.row (l.founded desk p.0 p.1 p.2) (among_own desk rows may.row of h.1) in
          absurd (true≢false (sym (founded_settled may.row founded) ∙ may.waits))

  -- ---- rows stay

  now_there : (rows : List Row) (row : Row) → Contains rows row → Contains (After rows) (now row)
  now_there [] row c = absurd (let within = c.1 in omega (arith, within))
  now_there (x ∷ rows) row c = go (head_or_tail x rows row c) (now_there rows row)
    where
      go : (x ≡ row) ⊎ Contains rows row → (Contains rows row → Contains (After rows) (now row)) → Contains (After (x ∷ rows)) (now row)
      go (inl e) rest = subst (λ (y : Row). Contains (After (x ∷ rows)) (now y)) e (here (now x) (After rows))
      go (inr h) rest = there (now x) (After rows) (now row) (rest h)

  pub settled_stay : (rows : List Row) → Waits rows → Stay rows (After rows)
  settled_stay rows w row c = go (has row) refl (now_there rows row c)
    where
      go : (b : Bool) → has row ≡ b → Contains (After rows) (cond b (with_settled settled row) row) → Contains (After rows) row ⊎ ((s : Settled) × (is_settled row.part ≡ false) × Contains (After rows) (with_settled s row))
      go true e h = inr (settled, w row c e, h)
      go false e h = inl h

  -- ---- they can be read again

  readable_now : (row : Row) → IsSettled settled → ReadablePart row.reference row.part → (b : Bool) → ReadablePart (cond b (with_settled settled row) row).reference (cond b (with_settled settled row) row).part
  readable_now row s h false = h
  readable_now row s h true = go row.part h
    where
      go : (p : Part) → ReadablePart row.reference p → ReadablePart row.reference (settled_part settled p)
      go (part.Own own) h = s
      go (part.Register request day) h = h
      go (part.Issued p) h = h
      go (part.Ca p) h = h

  pub settled_readable : IsSettled settled → (rows : List Row) → AreReadable rows → AreReadable (After rows)
  settled_readable s [] h = h
  settled_readable s (row ∷ rows) h = (readable_now row s h.0 (has row), settled_readable s rows h.1)

  -- ---- keys are held

  abbrev IsHeld : Holds → Row → Type 0
  IsHeld holds row = IfSome (own_part row.part) (λ (own : OwnPart). holds (public_key own.key) ≡ true)

  held_now : (holds : Holds) (row : Row) → IsHeld holds row → (b : Bool) → IsHeld holds (cond b (with_settled settled row) row)
  held_now holds row h false = h
  held_now holds row h true = go row.part h
    where
      go : (p : Part) → IfSome (own_part p) (λ (own : OwnPart). holds (public_key own.key) ≡ true) → IfSome (own_part (settled_part settled p)) (λ (own : OwnPart). holds (public_key own.key) ≡ true)
      go (part.Own own) h = h
      go (part.Register request day) h = h
      go (part.Issued p) h = h
      go (part.Ca p) h = h

  held_all : (holds : Holds) (rows : List Row) → AllByRecursion (IsHeld holds) rows → AllByRecursion (IsHeld holds) (After rows)
  held_all holds [] h = h
  held_all holds (row ∷ rows) h = (held_now holds row h.0 (has row), held_all holds rows h.1)

  pub settled_held : (holds : Holds) (rows : List Row) → AllHeld holds rows → AllHeld holds (After rows)
  settled_held holds rows h = All-from_recursion (IsHeld holds) (After rows) (held_all holds rows (recursion_from_All (IsHeld holds) rows h))

  -- ---- no key changes

  key_now : (row : Row) (b : Bool) → key_in (Some (cond b (with_settled settled row) row)) ≡ key_in (Some row)
  key_now row false = refl
  key_now row true = go row.part
    where
      go : (p : Part) → key_in (Some (record row { part = settled_part settled p })) ≡ key_in (Some (record row { part = p }))
      go (part.Own own) = refl
      go (part.Register request day) = refl
      go (part.Issued p) = refl
      go (part.Ca p) = refl

  same_found : (b : Bool) (x y : Row) (o q : Option Row) → key_in (Some x) ≡ key_in (Some y) → key_in o ≡ key_in q → key_in (cond b (Some x) o) ≡ key_in (cond b (Some y) q)
  same_found true x y o q e f = e
  same_found false x y o q e f = f

  same_at : (other : ℕ) (r : List ℕ) (rows : List Row) → key_at (After rows) other r ≡ key_at rows other r
  same_at other r [] = refl
  same_at other r (row ∷ rows) =
      let k = keeps_key desk reference settled (has row) row in
      (λ i. key_in (cond ((same_table (k.table i) table.Own && nat_eq (k.at_desk i) other) && bytes_eq (k.named i) r) (Some (now row)) (row_at table.Own other r (After rows))))
      ∙ same_found (has_key table.Own other r row) (now row) row (row_at table.Own other r (After rows)) (row_at table.Own other r rows) (key_now row (has row)) (same_at other r rows)

  same_named : (rows : List Row) (r : List ℕ) (other : Option ℕ) → key_in (option_and_then (λ d. row_at table.Own d r (After rows)) other) ≡ key_in (option_and_then (λ d. row_at table.Own d r rows) other)
  same_named rows r (Some other) = same_at other r rows
  same_named rows r None = refl

  -- ---- nor does what stands made

  module _ (at : ℕ → List ℕ → Option PublicKey) (named : List ℕ → Option PublicKey) (of : ℕ → Bool) (lay : of desk ≡ false) where
    own_made : (d : ℕ) (own : OwnPart) → of d ≡ false → made_own at named of d (of d) (record own { settled = Some settled }) ≡ made_own at named of d (of d) own
    own_made d own e = (λ i. made_own at named of d (e i) (record own { settled = Some settled })) ∙ sym (λ i. made_own at named of d (e i) own)

    part_made : (d : ℕ) (p : Part) → of d ≡ false → made_part at named of d (settled_part settled p) ≡ made_part at named of d p
    part_made d (part.Own own) e = own_made d own e
    part_made d (part.Register request day) e = refl
    part_made d (part.Issued p) e = refl
    part_made d (part.Ca p) e = refl

    row_made : (row : Row) (b : Bool) → has row ≡ b → made_part at named of (cond b (with_settled settled row) row).desk (cond b (with_settled settled row) row).part ≡ made_part at named of row.desk row.part
    row_made row false e = refl
    row_made row true e =
        let of_own : is_of table.Own desk row ≡ true = (and_parts (is_of table.Own desk row) (bytes_eq row.reference reference) e).0 in
        let at_desk : row.desk ≡ desk = eqb-true row.desk desk (and_parts (same_table (table_of row.part) table.Own) (nat_eq row.desk desk) of_own).1 in
        part_made row.desk row.part (ap of at_desk ∙ lay)

    rows_made : (rows : List Row) → made_in at named of (After rows) ≡ made_in at named of rows
    rows_made [] = refl
    rows_made (row ∷ rows) = λ i. row_made row (has row) refl i ++ rows_made rows i

  pub settled_made : (setup : SetupValue) (rows : List Row) → is_party_of is_authority setup desk ≡ false → all_made setup (After rows) ≡ all_made setup rows
  settled_made setup rows lay =
      (λ i. made_in (λ other r. same_at other r rows i) (λ r. same_named rows r (number_of setup (holder_part r)) i) (is_party_of is_authority setup) (After rows))
      ∙ rows_made (key_at rows) (key_named setup rows) (is_party_of is_authority setup) lay rows
