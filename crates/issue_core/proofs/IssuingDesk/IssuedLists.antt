-- What the issued rows of a desk say of a request, on plain lists.
use Rattle.std.proofs.Common.{◌≡◌, ◌==◌, ℕ, ◌+◌, suc, List, [], ◌∷◌, ◌++◌, length, Option, Some, None, Bool, true, false, cond, refl, sym, ◌∙◌, ap, subst, arith, true≢false}
use Rattle.std.proofs.lemmas.Bool.{eqb-true}
use Rattle.std.proofs.lemmas.Bool.Decides.{nat_tests}
use Rattle.std.proofs.lemmas.List.Sums.{sum_by-cons}
use Rattle.std.specs.Prelude.{Err, ◌&&◌, ◌||◌, not, filter, count_by, nat_lt, nat_eq}
use Rattle.std.specs.List.{find, list_any}
use Rattle.std.specs.Str.{bytes_eq}
use Rattle.eac_base.proofs.EqualBytes.{bytes_eq-true, bytes_eq-self}
use Rattle.holder_reference.specs.Reference.{holder_part}
use Rattle.cvc_grammar.specs.declared.request.Request.{Request}
use Rattle.cvc_grammar.specs.declared.refusal.CvcRefusal.{CvcRefusal}
use Rattle.keeper.specs.declared.rows.Row.{Row}
use Rattle.keeper.specs.declared.rows.IssuedPart.{IssuedPart}
use Rattle.keeper.specs.declared.rows.Part.{Part}
use Rattle.keeper.specs.declared.rows.Part.TheVariants as part
use Rattle.keeper.specs.declared.rows.Settled.{Settled}
use Rattle.keeper.specs.declared.rows.Table.{Table}
use Rattle.keeper.specs.declared.rows.Table.TheVariants as table
use Rattle.keeper.specs.Rows.{table_of, kind_of, same_table, is_of, is_of_holder, row_at, rows_of, kept_row, UniqueKeys}
use Rattle.keeper.proofs.UniqueRows.{unique_parts, and_parts}
use Rattle.ledger.specs.Ledger.{faces, kept_for}
use Rattle.issue_core.specs.Issuing.Readings.{request_of, number_in, number_of, body_in, body_of}
use Rattle.issue_core.specs.declared.issuing.voucher_row.Voucher.{Voucher}
use Rattle.issue_core.specs.Issuing.Rules.{Issue, has_same_holder, has_expired, issued_voucher, first_issued}
use Rattle.issue_core.specs.Issuing.Desk.{issuing}
use Rattle.issue_core.specs.Issuing.Rows.{entry_in, entries_in, has_reference, IsIssued, AreIssued, IsReadable, ReadablePart, AreReadable, NoEntry}
use Rattle.issue_core.specs.Issuing.Looks.{row_voucher, issued_for, is_live_part, is_live_row}

-- ---- the rows of a desk in a table

find_step : (a : Bool) (q : Row → Bool) (x : Row) (xs : List Row) (r : Option Row) → r ≡ find q xs → cond (a && q x) (Some x) r ≡ find q (cond a (x ∷ xs) xs)
find_step true q x xs r h = ap (λ (o : Option Row). cond (q x) (Some x) o) h
find_step false q x xs r h = h

-- the row of a key is that of the reference among them
pub row_is : (t : Table) (desk : ℕ) (reference : List ℕ) (rows : List Row) → row_at t desk reference rows ≡ find (has_reference reference) (rows_of t desk rows)
row_is t desk reference [] = refl
row_is t desk reference (x ∷ xs) = find_step (is_of t desk x) (has_reference reference) x (rows_of t desk xs) (row_at t desk reference xs) (row_is t desk reference xs)

-- no two have one reference
abbrev pub AreApart : List Row → Type 0
AreApart [] = Unit {0}
AreApart (row ∷ rows) = (find (has_reference row.reference) rows ≡ None) × AreApart rows

by_number : (t u : Table) → kind_of t ≡ kind_of u → t ≡ u
by_number table.Register table.Register h = refl
by_number table.Issued table.Issued h = refl
by_number table.Own table.Own h = refl
by_number table.Ca table.Ca h = refl
by_number table.Register table.Issued h = absurd (cc)
by_number table.Register table.Own h = absurd (cc)
by_number table.Register table.Ca h = absurd (cc)
by_number table.Issued table.Register h = absurd (cc)
by_number table.Issued table.Own h = absurd (cc)
by_number table.Issued table.Ca h = absurd (cc)
by_number table.Own table.Register h = absurd (cc)
by_number table.Own table.Issued h = absurd (cc)
by_number table.Own table.Ca h = absurd (cc)
by_number table.Ca table.Register h = absurd (cc)
by_number table.Ca table.Issued h = absurd (cc)
by_number table.Ca table.Own h = absurd (cc)

table_is : (t u : Table) → same_table t u ≡ true → t ≡ u
table_is t u h = by_number t u (eqb-true (kind_of t) (kind_of u) h)

module _ (t : Table) (desk : ℕ) where
  new_key : (x : Row) (xs : List Row) → is_of t desk x ≡ true → kept_row x xs ≡ None → find (has_reference x.reference) (rows_of t desk xs) ≡ None
  new_key x xs is none =
      let parts = and_parts (same_table (table_of x.part) t) (nat_eq x.desk desk) is in
      sym (row_is t desk x.reference xs) ∙ (λ i. row_at (sym (table_is (table_of x.part) t parts.0) i) (sym (eqb-true x.desk desk parts.1) i) x.reference xs) ∙ none

  pub apart : (rows : List Row) → UniqueKeys rows → AreApart (rows_of t desk rows)
  apart [] u = tt
  apart (x ∷ xs) u =
      let parts = unique_parts x xs u in
      step (is_of t desk x) refl parts.0 (apart xs parts.1)
    where
      step : (b : Bool) → is_of t desk x ≡ b → kept_row x xs ≡ None → AreApart (rows_of t desk xs) → AreApart (cond b (x ∷ rows_of t desk xs) (rows_of t desk xs))
      step true is none rest = (new_key x xs is none, rest)
      step false is none rest = rest

issued_part : (reference : List ℕ) (q : Part) → table_of q ≡ table.Issued → ReadablePart reference q → (p : IssuedPart) × (q ≡ part.Issued p) × IsReadable reference p
issued_part reference (part.Issued p) is readable = (p, refl, readable)
issued_part reference (part.Register a b) is readable = absurd (cc)
issued_part reference (part.Own p) is readable = absurd (cc)
issued_part reference (part.Ca p) is readable = absurd (cc)

-- readable rows with unique keys have issued rows
pub are_issued : (desk : ℕ) (rows : List Row) → UniqueKeys rows → AreReadable rows → AreIssued (rows_of table.Issued desk rows)
are_issued desk [] u readable = tt
are_issued desk (x ∷ xs) u readable =
    let parts = unique_parts x xs u in
    step (is_of table.Issued desk x) refl parts.0 (are_issued desk xs parts.1 readable.1)
  where
    step : (b : Bool) → is_of table.Issued desk x ≡ b → kept_row x xs ≡ None → AreIssued (rows_of table.Issued desk xs) → AreIssued (cond b (x ∷ rows_of table.Issued desk xs) (rows_of table.Issued desk xs))
    step true is none rest =
        let p = issued_part x.reference x.part (table_is (table_of x.part) table.Issued (and_parts (same_table (table_of x.part) table.Issued) (nat_eq x.desk desk) is).0) readable.0 in
        (record { kept = p.0; part_is = p.1; readable = p.2 }, new_key table.Issued desk x xs is none, rest)
    step false is none rest = rest

-- ---- a request whose reference no row has

-- the number of an issued row's request is the row's reference
numbered : (row : Row) (i : IsIssued row) → number_of i.kept.request ≡ row.reference
numbered row i = ap number_in i.readable.read ∙ sym i.readable.reference_is

other_bytes : (row : Row) (i : IsIssued row) (bytes reference : List ℕ) → number_of bytes ≡ reference → bytes_eq row.reference reference ≡ false → bytes_eq i.kept.request bytes ≡ false
other_bytes row i bytes reference number apart = go (bytes_eq i.kept.request bytes) refl
  where
    go : (b : Bool) → bytes_eq i.kept.request bytes ≡ b → bytes_eq i.kept.request bytes ≡ false
    go true same =
        let equal : row.reference ≡ reference = sym (numbered row i) ∙ ap number_of (bytes_eq-true i.kept.request bytes same) ∙ number in
        absurd (true≢false (sym (bytes_eq-self reference) ∙ (λ j. bytes_eq (sym equal j) reference) ∙ apart))
    go false is = is

no_entry_more : (row : Row) (rows : List Row) (bytes reference : List ℕ) → number_of bytes ≡ reference → IsIssued row → bytes_eq row.reference reference ≡ false → NoEntry (entries_in rows) bytes reference → NoEntry (entries_in (row ∷ rows)) bytes reference
no_entry_more row rows bytes reference number i apart rest =
    let p = i.kept in
    let test : bytes_eq (number_of p.request) reference ≡ false = ap (λ (x : List ℕ). bytes_eq x reference) (numbered row i) ∙ apart in
    let differ = other_bytes row i bytes reference number apart in
    subst (λ (q : Part). NoEntry (entries_in (record row { part = q } ∷ rows)) bytes reference) (sym i.part_is)
    (record {
      kept = (λ j. cond (differ j) (Some p.settled.certificate) (kept_for issuing (entries_in rows) bytes)) ∙ rest.kept;
      used = (λ j. (test j && not (bytes_eq p.request bytes)) || list_any (λ e. bytes_eq (number_of e.0) reference && not (bytes_eq e.0 bytes)) (faces issuing (entries_in rows))) ∙ rest.used;
      number = ((λ same. true≢false (sym (bytes_eq-self reference) ∙ (λ j. bytes_eq (sym same j) reference) ∙ test)), rest.number);
    })

pub no_entry : (rows : List Row) (bytes reference : List ℕ) → number_of bytes ≡ reference → AreIssued rows → find (has_reference reference) rows ≡ None → NoEntry (entries_in rows) bytes reference
no_entry [] bytes reference number h none = record { kept = refl; used = refl; number = tt }
no_entry (row ∷ rows) bytes reference number h none = go (bytes_eq row.reference reference) refl none (λ e. no_entry rows bytes reference number h.2 e)
  where
    go : (b : Bool) → bytes_eq row.reference reference ≡ b → cond b (Some row) (find (has_reference reference) rows) ≡ None → (find (has_reference reference) rows ≡ None → NoEntry (entries_in rows) bytes reference) → NoEntry (entries_in (row ∷ rows)) bytes reference
    go true is e back = absurd (cc)
    go false is e back = no_entry_more row rows bytes reference number h.0 is (back e)

-- ---- a request that can't be read

pub unread_lacks : (rows : List Row) (bytes : List ℕ) (e : CvcRefusal) → request_of bytes ≡ Err e → AreIssued rows → kept_for issuing (entries_in rows) bytes ≡ None
unread_lacks [] bytes e unread h = refl
unread_lacks (row ∷ rows) bytes e unread h =
    let i = h.0 in
    let differ = go i (bytes_eq i.kept.request bytes) refl in
    (λ j. kept_for issuing (entry_in (i.part_is j) ++ entries_in rows) bytes) ∙ (λ j. cond (differ j) (Some i.kept.settled.certificate) (kept_for issuing (entries_in rows) bytes)) ∙ unread_lacks rows bytes e unread h.2
  where
    go : (i : IsIssued row) (b : Bool) → bytes_eq i.kept.request bytes ≡ b → bytes_eq i.kept.request bytes ≡ false
    go i true same = let equal = bytes_eq-true i.kept.request bytes same in absurd (cc (sym i.readable.read ∙ ap request_of equal ∙ unread))
    go i false is = is

-- ---- the row of the request's reference is its one entry

-- the same bytes are kept, and others break the rule of the number
pub record FoundEntry (rows : List Row) (row : Row) (bytes reference : List ℕ) : Type 0 where
  pub p : IssuedPart
  pub part_is : row.part ≡ part.Issued p
  pub same : bytes_eq p.request bytes ≡ true → kept_for issuing (entries_in rows) bytes ≡ Some p.settled.certificate
  pub new : bytes_eq p.request bytes ≡ false → kept_for issuing (entries_in rows) bytes ≡ None
  pub used : bytes_eq p.request bytes ≡ false → list_any (λ e. bytes_eq (number_of e.0) reference && not (bytes_eq e.0 bytes)) (faces issuing (entries_in rows)) ≡ true

or_right : (a b : Bool) → b ≡ true → a || b ≡ true
or_right true b h = refl
or_right false b h = h

found_here : (row : Row) (rows : List Row) (bytes reference : List ℕ) → number_of bytes ≡ reference → (i : IsIssued row) → bytes_eq row.reference reference ≡ true → NoEntry (entries_in rows) bytes reference → FoundEntry (row ∷ rows) row bytes reference
found_here row rows bytes reference number i is rest =
    let p = i.kept in
    let test : bytes_eq (number_of p.request) reference ≡ true = ap (λ (x : List ℕ). bytes_eq x reference) (numbered row i) ∙ is in
    record {
      p = p;
      part_is = i.part_is;
      same = λ k. (λ j. kept_for issuing (entry_in (i.part_is j) ++ entries_in rows) bytes) ∙ (λ j. cond (k j) (Some p.settled.certificate) (kept_for issuing (entries_in rows) bytes));
      new = λ k. (λ j. kept_for issuing (entry_in (i.part_is j) ++ entries_in rows) bytes) ∙ (λ j. cond (k j) (Some p.settled.certificate) (kept_for issuing (entries_in rows) bytes)) ∙ rest.kept;
      used = λ k. (λ j. list_any (λ e. bytes_eq (number_of e.0) reference && not (bytes_eq e.0 bytes)) (faces issuing (entry_in (i.part_is j) ++ entries_in rows)))
          ∙ (λ j. (test j && not (k j)) || list_any (λ e. bytes_eq (number_of e.0) reference && not (bytes_eq e.0 bytes)) (faces issuing (entries_in rows)));
    }

found_later : (first row : Row) (rows : List Row) (bytes reference : List ℕ) → number_of bytes ≡ reference → (i : IsIssued first) → bytes_eq first.reference reference ≡ false → FoundEntry rows row bytes reference → FoundEntry (first ∷ rows) row bytes reference
found_later first row rows bytes reference number i apart rest =
    let q = i.kept in
    let differ = other_bytes first i bytes reference number apart in
    let skip : kept_for issuing (entries_in (first ∷ rows)) bytes ≡ kept_for issuing (entries_in rows) bytes =
    (λ j. kept_for issuing (entry_in (i.part_is j) ++ entries_in rows) bytes) ∙ (λ j. cond (differ j) (Some q.settled.certificate) (kept_for issuing (entries_in rows) bytes)) in
    record {
      p = rest.p;
      part_is = rest.part_is;
      same = λ k. skip ∙ rest.same k;
      new = λ k. skip ∙ rest.new k;
      used = λ k. (λ j. list_any (λ e. bytes_eq (number_of e.0) reference && not (bytes_eq e.0 bytes)) (faces issuing (entry_in (i.part_is j) ++ entries_in rows)))
          ∙ or_right (bytes_eq (number_of q.request) reference && not (bytes_eq q.request bytes)) _ (rest.used k);
    }

pub found_entry : (rows : List Row) (row : Row) (bytes reference : List ℕ) → number_of bytes ≡ reference → AreIssued rows → find (has_reference reference) rows ≡ Some row → FoundEntry rows row bytes reference
found_entry [] row bytes reference number h found = absurd (cc)
found_entry (x ∷ xs) row bytes reference number h found = go (bytes_eq x.reference reference) refl found (λ e. found_entry xs row bytes reference number h.2 e)
  where
    go : (b : Bool) → bytes_eq x.reference reference ≡ b → cond b (Some x) (find (has_reference reference) xs) ≡ Some row → (find (has_reference reference) xs ≡ Some row → FoundEntry xs row bytes reference) → FoundEntry (x ∷ xs) row bytes reference
    go true is e back =
        let same : x ≡ row = cc in
        let reference_is : x.reference ≡ reference = bytes_eq-true x.reference reference is in
        let none : find (has_reference reference) xs ≡ None = (λ j. find (has_reference (sym reference_is j)) xs) ∙ h.1 in
        subst (λ (y : Row). FoundEntry (x ∷ xs) y bytes reference) same (found_here x xs bytes reference number h.0 is (no_entry xs bytes reference number h.2 none))
    go false is e back = found_later x row xs bytes reference number h.0 is (back e)

-- ---- counts

pub count_entries : (rows : List Row) → AreIssued rows → length rows ≡ length (faces issuing (entries_in rows))
count_entries [] h = refl
count_entries (row ∷ rows) h =
    ap suc (count_entries rows h.2) ∙ (λ i. length (faces issuing (entry_in (sym h.0.part_is i) ++ entries_in rows)))

holder_any : (r : Request) (row : Row) (rows : List Row) (i : IsIssued row) → list_any (has_same_holder r) (faces issuing (entries_in (row ∷ rows))) ≡ is_of_holder (holder_part r.body.holder) row || list_any (has_same_holder r) (faces issuing (entries_in rows))
holder_any r row rows i =
    (λ j. list_any (has_same_holder r) (faces issuing (entry_in (i.part_is j) ++ entries_in rows)))
    ∙ (λ j. bytes_eq (holder_part (numbered row i j)) (holder_part r.body.holder) || list_any (has_same_holder r) (faces issuing (entries_in rows)))

any_more : (b : Bool) (x : Row) (held : List Row) (rest : Bool) → rest ≡ not (length held == 0) → b || rest ≡ not (length (cond b (x ∷ held) held) == 0)
any_more true x held rest h = grind (arith, nat_tests)
any_more false x held rest h = h

pub held_entries : (r : Request) (rows : List Row) → AreIssued rows → list_any (has_same_holder r) (faces issuing (entries_in rows)) ≡ not (length (filter (is_of_holder (holder_part r.body.holder)) rows) == 0)
held_entries r [] h = refl
held_entries r (row ∷ rows) h = holder_any r row rows h.0 ∙ any_more (is_of_holder (holder_part r.body.holder) row) row (filter (is_of_holder (holder_part r.body.holder)) rows) (list_any (has_same_holder r) (faces issuing (entries_in rows))) (held_entries r rows h.2)

-- ---- certificates that haven't expired

abbrev is_live : ℕ → Request → Issue → Bool
is_live day r e = has_same_holder r e && not (has_expired day e.1)

-- the certificate of an issued row is valid until the day that is settled
live_is : (row : Row) (i : IsIssued row) (day : ℕ) → not (has_expired day (body_of i.kept.settled.certificate)) ≡ is_live_part day row.part
live_is row i day =
    let s = i.readable.settled in
    (λ j. not (has_expired day (body_in (s.read j)))) ∙ (λ j. not (nat_lt (until_of (sym s.fields j)) day)) ∙ (λ j. is_live_part day (sym i.part_is j))
  where
    until_of : Settled → ℕ
    until_of t = t.until

live_step : (b l : Bool) (x : Row) (held : List Row) (p : Row → Bool) (n : ℕ) → p x ≡ l → count_by p held ≡ n → count_by p (cond b (x ∷ held) held) ≡ cond (b && l) 1 0 + n
live_step true l x held p n is h = sum_by-cons (λ y. cond (p y) 1 0) x held ∙ (λ j. cond (is j) 1 0 + h j)
live_step false l x held p n is h = h ∙ omega arith

pub live_entries : (r : Request) (day : ℕ) (rows : List Row) → AreIssued rows → count_by (is_live_row day) (filter (is_of_holder (holder_part r.body.holder)) rows) ≡ count_by (is_live day r) (faces issuing (entries_in rows))
live_entries r day [] h = refl
live_entries r day (row ∷ rows) h =
    let i = h.0 in
    let rest = faces issuing (entries_in rows) in
    live_step (is_of_holder (holder_part r.body.holder) row) (is_live_part day row.part) row (filter (is_of_holder (holder_part r.body.holder)) rows) (is_live_row day) (count_by (is_live day r) rest) refl (live_entries r day rows h.2)
    ∙ (λ j. cond (bytes_eq (holder_part (sym (numbered row i) j)) (holder_part r.body.holder) && sym (live_is row i day) j) 1 0 + count_by (is_live day r) rest)
    ∙ sym (sum_by-cons (λ e. cond (is_live day r e) 1 0) (i.kept.request, body_of i.kept.settled.certificate) rest)
    ∙ (λ j. count_by (is_live day r) (faces issuing (entry_in (sym i.part_is j) ++ entries_in rows)))

-- ---- the row that vouches

vouches : (r : Request) (row : Row) (i : IsIssued row) → issued_voucher (request_of i.kept.request) (body_of i.kept.settled.certificate) ≡ row_voucher row.part
vouches r row i =
    let s = i.readable.settled in
    (λ j. issued_voucher (i.readable.read j) (body_in (s.read j)))
    ∙ (λ j. Some (record { key = sym i.readable.key_is j; until = until_of (sym s.fields j) }))
    ∙ (λ j. row_voucher (sym i.part_is j))
  where
    until_of : Settled → ℕ
    until_of t = t.until

voucher_step : (b h : Bool) (v rest found : Option Voucher) → (b ≡ true → rest ≡ None) → found ≡ rest → cond b (cond h v None) found ≡ cond (h && b) v rest
voucher_step true true v rest found none is = refl
voucher_step true false v rest found none is = sym (none refl)
voucher_step false true v rest found none is = is
voucher_step false false v rest found none is = is

issued_cond : (holder : List ℕ) (b : Bool) (row : Row) (o : Option Row) → issued_for holder (cond b (Some row) o) ≡ cond b (issued_for holder (Some row)) (issued_for holder o)
issued_cond holder true row o = refl
issued_cond holder false row o = refl

pub issued_vouches : (r : Request) (reference : List ℕ) (rows : List Row) → AreIssued rows → issued_for (holder_part r.body.holder) (find (has_reference reference) rows) ≡ first_issued (faces issuing (entries_in rows)) r reference
issued_vouches r reference [] h = refl
issued_vouches r reference (row ∷ rows) h =
    let i = h.0 in
    let rest = first_issued (faces issuing (entries_in rows)) r reference in
    let back = issued_vouches r reference rows h.2 in
    issued_cond (holder_part r.body.holder) (bytes_eq row.reference reference) row (find (has_reference reference) rows)
    ∙ voucher_step (bytes_eq row.reference reference) (is_of_holder (holder_part r.body.holder) row) (row_voucher row.part) rest (issued_for (holder_part r.body.holder) (find (has_reference reference) rows))
    (λ same. sym back ∙ ap (issued_for (holder_part r.body.holder)) ((λ j. find (has_reference (sym (bytes_eq-true row.reference reference same) j)) rows) ∙ h.1)) back
    ∙ (λ j. cond (bytes_eq (holder_part (sym (numbered row i) j)) (holder_part r.body.holder) && bytes_eq (sym (numbered row i) j) reference) (sym (vouches r row i) j) rest)
    ∙ (λ j. first_issued (faces issuing (entry_in (sym i.part_is j) ++ entries_in rows)) r reference)
