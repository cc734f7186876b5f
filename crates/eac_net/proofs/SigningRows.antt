-- The row that signs a request's certificate is one of the desk's own rows, and is found under its reference.
use Rattle.std.proofs.Common.{◌≡◌, ℕ, zero, suc, Bool, true, false, cond, List, [], ◌∷◌, Some, None, Ok, Err, refl, sym, ap, ◌∙◌, subst, arith, nat_eq, inl, inr, ◌⊎◌}
use Rattle.std.specs.Prelude.{Contains, ◌&&◌, find, nat_lt, option_map}
use Rattle.std.specs.declared.option.Option.{Option}
use Rattle.std.specs.declared.result.Result.{Result}
use Rattle.std.specs.List.{cons_option}
use Rattle.std.specs.Str.{bytes_eq}
use Rattle.std.proofs.lemmas.Bool.{eqb-true}
use Rattle.eac_base.proofs.EqualBytes.{bytes_eq-self}
use Rattle.signature_provider.specs.Provider.{PublicKey, public_key}
use Rattle.cvc_grammar.specs.declared.request.Request.{Request}
use Rattle.cvc_grammar.specs.declared.refusal.CvcRefusal.{CvcRefusal}
use Rattle.keeper.specs.declared.rows.Row.{Row}
use Rattle.keeper.specs.declared.rows.Part.{Part}
use Rattle.keeper.specs.declared.rows.OwnPart.{OwnPart}
use Rattle.keeper.specs.declared.rows.Settled.{Settled}
use Rattle.keeper.specs.declared.rows.Part.TheVariants as part
use Rattle.keeper.specs.declared.rows.Table.TheVariants as table
use Rattle.keeper.specs.Rows.{is_of, has_key, row_at, rows_of, kept_row, same_table, table_of, UniqueKeys}
use Rattle.keeper.proofs.UniqueRows.{unique_parts}
use Rattle.keeper.proofs.SettledRows.{same_key}
use Rattle.issue_core.specs.declared.issuing.signer_row.Signer.{Signer}
use Rattle.issue_core.specs.Issuing.Calls.{signer_in}
use Rattle.issue_core.specs.Issuing.Rules.{Case, signers, signer_of, settled_as, newer, newest, named}
use Rattle.holder_core.specs.OwnRows.{own_part}
use Rattle.holder_core.proofs.Lawfuls.{same_desk}
use Rattle.eac_net.specs.Made.{key_at, key_in}
use Rattle.eac_net.specs.Tracing.{IsOwnKey}
use Rattle.eac_net.proofs.Finding.{some_same, none_some}

pub there : {X : Type 0} (x : X) (xs : List X) (y : X) → Contains xs y → Contains (x ∷ xs) y
there x xs y c = (suc c.0, omega (arith, c.1), c.2)

pub here : {X : Type 0} (x : X) (xs : List X) → Contains (x ∷ xs) x
here x xs = (0, omega arith, refl)

pub head_or_tail : {X : Type 0} (x : X) (xs : List X) (y : X) → Contains (x ∷ xs) y → (x ≡ y) ⊎ Contains xs y
head_or_tail x xs y (zero, within, e) = inl e
head_or_tail x xs y (suc k, within, e) = inr (k, omega (arith, within), e)

-- ---- a signer is among the signers

found_among : (test : Signer → Bool) (ss : List Signer) (s : Signer) → find test ss ≡ Some s → Contains ss s
found_among test [] s e = absurd (none_some s e)
found_among test (x ∷ ss) s e = go (test x) (found_among test ss s) e
  where
    go : (b : Bool) → (find test ss ≡ Some s → Contains ss s) → cond b (Some x) (find test ss) ≡ Some s → Contains (x ∷ ss) s
    go true later e = subst (λ (y : Signer). Contains (x ∷ ss) y) (some_same x s e) (here x ss)
    go false later e = there x ss s (later e)

newer_among : (x : Signer) (o : Option Signer) → (newer x o ≡ x) ⊎ (o ≡ Some (newer x o))
newer_among x None = inl refl
newer_among x (Some t) = go (nat_lt t.settled.from x.settled.from)
  where
    go : (b : Bool) → (cond b x t ≡ x) ⊎ (Some t ≡ Some (cond b x t))
    go true = inl refl
    go false = inr refl

newest_among : (ss : List Signer) (s : Signer) → newest ss ≡ Some s → Contains ss s
newest_among [] s e = absurd (none_some s e)
newest_among (x ∷ ss) s e = subst (λ (y : Signer). Contains (x ∷ ss) y) (some_same (newer x (newest ss)) s e) (go (newest_among ss (newer x (newest ss))) (newer_among x (newest ss)))
  where
    go : (newest ss ≡ Some (newer x (newest ss)) → Contains ss (newer x (newest ss))) → (newer x (newest ss) ≡ x) ⊎ (newest ss ≡ Some (newer x (newest ss))) → Contains (x ∷ ss) (newer x (newest ss))
    go later (inl is) = subst (λ (y : Signer). Contains (x ∷ ss) y) (sym is) (here x ss)
    go later (inr is) = there x ss (newer x (newest ss)) (later is)

named_among : (o : Option (List ℕ)) (ss : List Signer) (s : Signer) → named o ss ≡ Some s → Contains ss s
named_among (Some reference) ss s e = found_among (λ s. bytes_eq s.reference reference) ss s e
named_among None ss s e = newest_among ss s e

-- ---- a signer is an own row

-- the row of a signer
record IsRowOf (row : Row) (s : Signer) : Type 0 where
  own : OwnPart
  part_is : row.part ≡ part.Own own
  reference_is : row.reference ≡ s.reference
  key_is : own.key ≡ s.key

settled_row : (row : Row) (own : OwnPart) (o : Option Settled) (s : Signer) → row.part ≡ part.Own own → settled_as row.reference own.key o ≡ Some s → IsRowOf row s
settled_row row own (Some settled) s is e =
    let same : record { reference = row.reference; key = own.key; settled = settled } ≡ s = some_same (record { reference = row.reference; key = own.key; settled = settled }) s e in
    record { own = own; part_is = is; reference_is = ap (λ (x : Signer). x.reference) same; key_is = ap (λ (x : Signer). x.key) same }
settled_row row own None s is e = absurd (none_some s e)

row_of_signer : (row : Row) (p : Part) (s : Signer) → row.part ≡ p → signer_of row.reference p ≡ Some s → IsRowOf row s
row_of_signer row (part.Own own) s is e = settled_row row own own.settled s is e
row_of_signer row (part.Register r d) s is e = absurd (none_some s e)
row_of_signer row (part.Issued p) s is e = absurd (none_some s e)
row_of_signer row (part.Ca p) s is e = absurd (none_some s e)

record Stands (rows : List Row) (s : Signer) : Type 0 where
  row : Row
  among : Contains rows row
  row_of : IsRowOf row s

more_stand : (row : Row) (rows : List Row) (s : Signer) → Stands rows s → Stands (row ∷ rows) s
more_stand row rows s h = record { row = h.row; among = there row rows h.row h.among; row_of = h.row_of }

first_stands : (row : Row) (rows : List Row) (s x : Signer) → signer_of row.reference row.part ≡ Some x → (Contains (signers rows) s → Stands rows s) → (x ≡ s) ⊎ Contains (signers rows) s → Stands (row ∷ rows) s
first_stands row rows s x is later (inl e) = record { row = row; among = here row rows; row_of = row_of_signer row row.part s refl (is ∙ ap (λ (y : Signer). Some y) e) }
first_stands row rows s x is later (inr c) = more_stand row rows s (later c)

signer_stands_by : (row : Row) (rows : List Row) (s : Signer) (o : Option Signer) → signer_of row.reference row.part ≡ o → (Contains (signers rows) s → Stands rows s) → Contains (cons_option o (signers rows)) s → Stands (row ∷ rows) s
signer_stands_by row rows s None is later c = more_stand row rows s (later c)
signer_stands_by row rows s (Some x) is later c = first_stands row rows s x is later (head_or_tail x (signers rows) s c)

signer_stands : (rows : List Row) (s : Signer) → Contains (signers rows) s → Stands rows s
signer_stands [] s c = absurd (let within = c.1 in omega (arith, within))
signer_stands (row ∷ rows) s c = signer_stands_by row rows s (signer_of row.reference row.part) refl (signer_stands rows s) c

-- ---- of the desk's rows

and_second : (a b : Bool) → (a && b) ≡ true → b ≡ true
and_second true b e = e
and_second false b e = absurd (cc)

abbrev IsOfDesk : ℕ → List Row → Row → Type 0
IsOfDesk desk rows row = Contains rows row × (row.desk ≡ desk)

more_of : (desk : ℕ) (x : Row) (rows : List Row) (row : Row) → IsOfDesk desk rows row → IsOfDesk desk (x ∷ rows) row
more_of desk x rows row h = (there x rows row h.0, h.1)

first_of : (desk : ℕ) (x : Row) (rows : List Row) (row : Row) → is_of table.Own desk x ≡ true → (Contains (rows_of table.Own desk rows) row → IsOfDesk desk rows row) → (x ≡ row) ⊎ Contains (rows_of table.Own desk rows) row → IsOfDesk desk (x ∷ rows) row
first_of desk x rows row is later (inl e) = (subst (λ (y : Row). Contains (x ∷ rows) y) e (here x rows), ap (λ (y : Row). y.desk) (sym e) ∙ eqb-true x.desk desk (and_second (same_table (table_of x.part) table.Own) (nat_eq x.desk desk) is))
first_of desk x rows row is later (inr c) = more_of desk x rows row (later c)

kept_of : (desk : ℕ) (x : Row) (rows : List Row) (row : Row) (b : Bool) → is_of table.Own desk x ≡ b → (Contains (rows_of table.Own desk rows) row → IsOfDesk desk rows row) → Contains (cond b (x ∷ rows_of table.Own desk rows) (rows_of table.Own desk rows)) row → IsOfDesk desk (x ∷ rows) row
kept_of desk x rows row false is later c = more_of desk x rows row (later c)
kept_of desk x rows row true is later c = first_of desk x rows row is later (head_or_tail x (rows_of table.Own desk rows) row c)

of_desk : (desk : ℕ) (rows : List Row) (row : Row) → Contains (rows_of table.Own desk rows) row → IsOfDesk desk rows row
of_desk desk [] row c = absurd (let within = c.1 in omega (arith, within))
of_desk desk (x ∷ rows) row c = kept_of desk x rows row (is_of table.Own desk x) refl (of_desk desk rows row) c

-- the row that signs for a case, in the rows of which the case has the desk's own ones
pub own_key : (c : Case) (rows : List Row) (read : Result Request CvcRefusal) (s : Signer) → c.own ≡ rows_of table.Own c.desk rows → signer_in c read ≡ Some s → IsOwnKey rows c.desk s.reference (public_key s.key)
own_key c rows (Err e) s own is = absurd (none_some s is)
own_key c rows (Ok r) s own is =
    let stands = signer_stands c.own s (named_among r.body.authority (signers c.own) s is) in
    let among = of_desk c.desk rows stands.row (subst (λ (l : List Row). Contains l stands.row) own stands.among) in
    record {
      row = stands.row;
      own = stands.row_of.own;
      among = among.0;
      desk_is = among.1;
      reference_is = stands.row_of.reference_is;
      part_is = stands.row_of.part_is;
      key_is = ap public_key stands.row_of.key_is;
    }

-- ---- an own row is found under its key

abbrev pub IsFound : ℕ → List Row → Row → Type 0
IsFound desk rows row = row_at table.Own desk row.reference rows ≡ Some row

found_more : (desk : ℕ) (x : Row) (xs : List Row) → kept_row x xs ≡ None → (row : Row) → IsFound desk xs row → IsFound desk (x ∷ xs) row
found_more desk x xs alone row found = go (has_key table.Own desk row.reference x) refl
  where
    go : (b : Bool) → has_key table.Own desk row.reference x ≡ b → cond (has_key table.Own desk row.reference x) (Some x) (row_at table.Own desk row.reference xs) ≡ Some row
    go true e = absurd (none_some row (sym alone ∙ same_key table.Own desk row.reference x e xs ∙ found))
    go false e = (λ i. cond (e i) (Some x) (found i))

found_first : (desk : ℕ) (x : Row) (xs : List Row) → is_of table.Own desk x ≡ true → IsFound desk (x ∷ xs) x
found_first desk x xs e = λ i. cond (e i && bytes_eq-self x.reference i) (Some x) (row_at table.Own desk x.reference xs)

pub found_in : (desk : ℕ) (rows : List Row) (row : Row) → UniqueKeys rows → is_of table.Own desk row ≡ true → Contains rows row → IsFound desk rows row
found_in desk [] row u of c = absurd (let within = c.1 in omega (arith, within))
found_in desk (x ∷ xs) row u of c = go (head_or_tail x xs row c) (found_in desk xs row (unique_parts x xs u).1 of)
  where
    go : (x ≡ row) ⊎ Contains xs row → (Contains xs row → IsFound desk xs row) → IsFound desk (x ∷ xs) row
    go (inl e) rest = subst (λ (y : Row). IsFound desk (x ∷ xs) y) e (found_first desk x xs (subst (λ (y : Row). is_of table.Own desk y ≡ true) (sym e) of))
    go (inr h) rest = found_more desk x xs (unique_parts x xs u).0 row (rest h)

is_own_of : (desk : ℕ) (row : Row) (own : OwnPart) → row.part ≡ part.Own own → row.desk ≡ desk → is_of table.Own desk row ≡ true
is_own_of desk row own is at = (λ i. same_table (table_of (is i)) table.Own && nat_eq (at i) desk) ∙ same_desk desk

-- an own row's key is that which is looked up
pub own_looked_up : (desk : ℕ) (rows : List Row) (reference : List ℕ) (key : PublicKey) → UniqueKeys rows → IsOwnKey rows desk reference key → key_at rows desk reference ≡ Some key
own_looked_up desk rows reference key u is =
    let of : is_of table.Own desk is.row ≡ true = is_own_of desk is.row is.own is.part_is is.desk_is in
    let found : row_at table.Own desk is.row.reference rows ≡ Some is.row = found_in desk rows is.row u of is.among in
    ap (λ (r : List ℕ). key_at rows desk r) (sym is.reference_is) ∙ ap key_in found
    ∙ ap (λ (q : Part). option_map (λ (own : OwnPart). public_key own.key) (own_part q)) is.part_is ∙ ap Some is.key_is
