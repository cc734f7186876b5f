-- What the calls keep of rows' laws.
use Rattle.std.proofs.Common.{◌≡◌, ◌⊎◌, inl, inr, ℕ, ◌+◌, ◌<◌, ◌≤◌, Bool, true, false, cond, List, [], ◌∷◌, ◌++◌, length, Option, Some, None, refl, sym, ap, ◌∙◌, subst, arith, true≢false, nat_eq}
use Rattle.std.specs.Prelude.{◌≢◌, ◌&&◌, Result, Ok, Err, is_some, ◌/◌, ◌%◌}
use Rattle.std.specs.List.{All, find}
use Rattle.std.specs.Str.{bytes_eq}
use Rattle.std.proofs.lemmas.List.{append-nil, append_cancel_left}
use Rattle.std.proofs.lemmas.List.Elements.{All-head, All-tail, filter-append}
use Rattle.std.proofs.lemmas.Bool.{eqb-true, eqb-false}
use Rattle.std.proofs.lemmas.Bool.Decides.{nat_tests}
use Rattle.eac_base.proofs.EqualBytes.{bytes_eq-true}
use Rattle.holder_reference.specs.Sequence.{five_digits}
use Rattle.cvc_grammar.specs.declared.certificate.Cert.{Cert}
use Rattle.cvc_grammar.specs.declared.refusal.CvcRefusal.{CvcRefusal}
use Rattle.signature_provider.specs.Provider.{Says, Holds, Signed}
use Rattle.keeper.specs.declared.rows.Row.{Row}
use Rattle.keeper.specs.declared.rows.Settled.{Settled}
use Rattle.keeper.specs.declared.rows.OwnPart.{OwnPart}
use Rattle.keeper.specs.declared.rows.CaPart.{CaPart}
use Rattle.keeper.specs.declared.rows.Part.TheVariants as part
use Rattle.keeper.specs.declared.rows.Table.TheVariants as table
use Rattle.keeper.specs.Rows.{table_of, is_of, same_table, has_key, row_at, with_settled, settled_rows}
use Rattle.keeper.proofs.SettledRows.{SameKey, keeps_key}
use Rattle.keeper.proofs.UniqueRows.{and_parts}
use Rattle.holder_core.specs.Readings.{cert_of, settled_of}
use Rattle.holder_core.specs.OwnRows.{own_rows, own_part, own_in, own_at, ca_rows, ca_at}
use Rattle.holder_core.specs.Numbers.{numbered, most_keys, reference_after}
use Rattle.holder_core.specs.Signers.{Signer, missing_of}
use Rattle.holder_core.specs.WritesOnce.{HasWritten, WritesOnce}
use Rattle.holder_core.specs.Lawful.{NumberedFrom, AreNumbered, IsFounding, IsFounded, AreFounded}
use Rattle.holder_core.specs.LawfulCalls.{KeepsLaw, KeepsNumbers, IsExact}
use Rattle.holder_core.specs.Taking.{take_seen, take_in, issued_answer, waiting_answer, cert_said, is_kept_as, has_other_key, unwritten, taken_rows, Takes, TakesRead}
use Rattle.holder_core.specs.TakingCa as authority
use Rattle.holder_core.specs.Trusting as trust
use Rattle.holder_core.specs.Receiving.{Question, TakesItem, BreaksOff, Receives, is_mine}
use Rattle.holder_core.specs.Requesting.{authority_in, outer_signer, request_refused, request_late, pending_row, WritesRequest, Requests}
use Rattle.holder_core.specs.declared.fault.HolderFault.{HolderFault}
use Rattle.holder_core.specs.declared.fault.HolderFault.TheVariants as fault
use Rattle.holder_core.specs.declared.made.Made.{Made}
use Rattle.holder_core.specs.declared.made.Made.TheVariants as answers
use Rattle.holder_core.specs.declared.take_rule.Taken.{Taken}
use Rattle.holder_core.specs.declared.take_rule.Taken.TheVariants as taken
use Rattle.holder_core.specs.declared.take_rule.TakeRule.TheVariants as rule
use Rattle.holder_core.specs.declared.ca_rule.TakenCa.{TakenCa}
use Rattle.holder_core.specs.declared.received.Item.{Item}
use Rattle.holder_core.specs.declared.received.Item.TheVariants as item
use Rattle.holder_core.proofs.Requestings.{few_own}

-- ---- one write at most

pub same_or_written : {A : Type 0} (due : Option A) (missing : Option (List ℕ)) (late : Option A) (Written : A → List Row → Type 0) (before after : List Row) (result : Result A HolderFault) → WritesOnce due missing late Written before after result → (after ≡ before) ⊎ ((answer : A) × HasWritten due missing late Written after answer)
same_or_written due missing late Written before after (Ok x) (inl h) = inl h.1
same_or_written due missing late Written before after (Ok x) (inr h) = inr (x, h)
same_or_written due missing late Written before after (Err fault.KeeperFault) h = h
same_or_written due missing late Written before after (Err fault.ProviderFault) h = inl h
same_or_written due missing late Written before after (Err fault.NoMemory) h = inl h
same_or_written due missing late Written before after (Err (fault.NoKey r)) h = inl h.2

-- ---- own rows that stay

pub keeps_own : (before after : List Row) → ((desk : ℕ) → own_rows desk after ≡ own_rows desk before) → KeepsLaw before after
keeps_own before after same = record {
  numbered = λ desk holder n. subst (λ (rows : List Row). NumberedFrom holder 1 rows) (sym (same desk)) n;
  founded = λ desk f. subst (λ (rows : List Row). All IsFounded rows) (sym (same desk)) f;
}

pub keeps_same : (before after : List Row) → after ≡ before → KeepsLaw before after
keeps_same before after e = keeps_own before after (λ desk. ap (λ (rows : List Row). own_rows desk rows) e)

pub keeps_then : (before mid after : List Row) → KeepsLaw before mid → KeepsLaw mid after → KeepsLaw before after
keeps_then before mid after p q = record {
  numbered = λ desk holder n. q.numbered desk holder (p.numbered desk holder n);
  founded = λ desk f. q.founded desk (p.founded desk f);
}

-- a row of an authority is no own row
added_ca : (before after : List Row) (party : ℕ) (reference : List ℕ) (ca : CaPart) → after ≡ before ++ record { desk = party; reference = reference; part = part.Ca ca } ∷ [] → KeepsLaw before after
added_ca before after party reference ca e =
    keeps_own before after (λ desk.
    ap (λ (rows : List Row). own_rows desk rows) e
    ∙ filter-append (is_of table.Own desk) before (record { desk = party; reference = reference; part = part.Ca ca } ∷ [])
    ∙ append-nil (own_rows desk before))

-- ---- an authority that is trusted, and one that is taken

pub trust_keeps : (party : ℕ) (reference : List ℕ) (ca : CaPart) (before after : List Row) (result : Result TakenCa HolderFault) → trust.Trusts party reference ca before after result → KeepsLaw before after
trust_keeps party reference ca before after result w =
    elim (same_or_written (trust.unwritten (trust.trust_due party reference before)) None None (λ answer rows. (answer ≡ _) × (rows ≡ before ++ trust.trusted_row party reference ca ∷ [])) before after result w) [
      | inl same ↦ keeps_same before after same
      | inr h ↦ added_ca before after party reference ca h.1.written.1
    ]

below_keeps : (party : ℕ) (bytes : List ℕ) (c : Cert) (before after : List Row) (issuer : Option CaPart) → after ≡ authority.rows_below party bytes c.body before issuer → KeepsLaw before after
below_keeps party bytes c before after None e = keeps_same before after e
below_keeps party bytes c before after (Some i) e = added_ca before after party c.body.holder (record { key = authority.whole_key c.body.key i.key; settled = settled_of bytes c.body }) e

ca_keeps : (party : ℕ) (bytes : List ℕ) (before after : List Row) (c : Result Cert CvcRefusal) → after ≡ authority.taken_rows party bytes before c → KeepsLaw before after
ca_keeps party bytes before after (Ok c) e = below_keeps party bytes c before after (authority.country_only (ca_at party c.body.authority before)) e
ca_keeps party bytes before after (Err x) e = keeps_same before after e

pub take_ca_keeps : (said : Says) (party : ℕ) (bytes : List ℕ) (before after : List Row) (result : Result TakenCa HolderFault) → authority.TakesCa said party bytes before after result → KeepsLaw before after
take_ca_keeps said party bytes before after result w =
    elim (same_or_written (trust.unwritten (authority.take_ca_in said party bytes before (cert_of bytes))) None None (λ answer rows. (answer ≡ authority.take_ca_in said party bytes before (cert_of bytes)) × (rows ≡ authority.taken_rows party bytes before (cert_of bytes))) before after result w) [
      | inl same ↦ keeps_same before after same
      | inr h ↦ ca_keeps party bytes before after (cert_of bytes) h.1.written.1
    ]

-- ---- an own row that is settled

-- its reference stays, and so does its place
place_numbered : (holder : List ℕ) (n : ℕ) (b : Bool) (x y : Row) (xs ys : List Row) → y.reference ≡ x.reference → ((m : ℕ) → NumberedFrom holder m xs → NumberedFrom holder m ys) → NumberedFrom holder n (cond b (x ∷ xs) xs) → NumberedFrom holder n (cond b (y ∷ ys) ys)
place_numbered holder n true x y xs ys e more h = (e ∙ h.0, more (n + 1) h.1)
place_numbered holder n false x y xs ys e more h = more n h

module _ (party : ℕ) (reference : List ℕ) (settled : Settled) where
  abbrev After : List Row → List Row
  After rows = settled_rows party reference settled rows

  abbrev now : Row → Row
  now row = cond (has_key table.Own party reference row) (with_settled settled row) row

  same_place : (desk : ℕ) (row : Row) → is_of table.Own desk (now row) ≡ is_of table.Own desk row
  same_place desk row = let k = keeps_key party reference settled (has_key table.Own party reference row) row in λ i. same_table (k.table i) table.Own && nat_eq (k.at_desk i) desk

  settled_numbered : (desk : ℕ) (holder : List ℕ) (rows : List Row) (n : ℕ) → NumberedFrom holder n (own_rows desk rows) → NumberedFrom holder n (own_rows desk (After rows))
  settled_numbered desk holder [] n h = h
  settled_numbered desk holder (row ∷ rows) n h =
      subst (λ (b : Bool). NumberedFrom holder n (cond b (now row ∷ own_rows desk (After rows)) (own_rows desk (After rows)))) (sym (same_place desk row))
      (place_numbered holder n (is_of table.Own desk row) row (now row) (own_rows desk rows) (own_rows desk (After rows)) (keeps_key party reference settled (has_key table.Own party reference row) row).named (λ m. settled_numbered desk holder rows m) h)

  -- an own row of another desk stays
  off_desk : (row : Row) (desk : ℕ) → desk ≢ party → has_key table.Own party reference row ≡ true → is_of table.Own desk row ≡ false
  off_desk row desk other key =
      let of : is_of table.Own party row ≡ true = (and_parts (is_of table.Own party row) (bytes_eq row.reference reference) key).0 in
      let at : row.desk ≡ party = eqb-true row.desk party (and_parts (same_table (table_of row.part) table.Own) (nat_eq row.desk party) of).1 in
      by_test (is_of table.Own desk row) refl (λ e. other (sym (eqb-true row.desk desk (and_parts (same_table (table_of row.part) table.Own) (nat_eq row.desk desk) e).1) ∙ at))
    where
      by_test : (b : Bool) → is_of table.Own desk row ≡ b → (is_of table.Own desk row ≡ true → ⊥) → is_of table.Own desk row ≡ false
      by_test true e never = absurd (never e)
      by_test false e never = e

  other_place : (desk : ℕ) (row : Row) (xs ys : List Row) → desk ≢ party → xs ≡ ys → (b : Bool) → has_key table.Own party reference row ≡ b → cond (is_of table.Own desk row) (cond b (with_settled settled row) row ∷ xs) xs ≡ cond (is_of table.Own desk row) (row ∷ ys) ys
  other_place desk row xs ys other e false k = λ i. cond (is_of table.Own desk row) (row ∷ e i) (e i)
  other_place desk row xs ys other e true k =
      let off = off_desk row desk other k in
      (λ i. cond (off i) (with_settled settled row ∷ xs) xs) ∙ e ∙ sym (λ i. cond (off i) (row ∷ ys) ys)

  settled_other : (desk : ℕ) (rows : List Row) → desk ≢ party → own_rows desk (After rows) ≡ own_rows desk rows
  settled_other desk [] other = refl
  settled_other desk (row ∷ rows) other =
      (λ i. cond (same_place desk row i) (now row ∷ own_rows desk (After rows)) (own_rows desk (After rows)))
      ∙ other_place desk row (own_rows desk (After rows)) (own_rows desk rows) other (settled_other desk rows other) (has_key table.Own party reference row) refl

-- ---- a row of an authority waits for nothing

found_in : (P : Row → Type 0) (party : ℕ) (reference : List ℕ) (rows : List Row) (found : Row) → All P (own_rows party rows) → row_at table.Own party reference rows ≡ Some found → P found
found_in P party reference [] found all e = absurd (cc)
found_in P party reference (row ∷ rows) found all e = by_place (is_of table.Own party row) (bytes_eq row.reference reference) (λ h f. found_in P party reference rows found h f) all e
  where
    by_place : (b c : Bool) → (All P (own_rows party rows) → row_at table.Own party reference rows ≡ Some found → P found) → All P (cond b (row ∷ own_rows party rows) (own_rows party rows)) → cond (b && c) (Some row) (row_at table.Own party reference rows) ≡ Some found → P found
    by_place true true rest h f = let same : row ≡ found = cc in subst P same (All-head P row (own_rows party rows) h)
    by_place true false rest h f = rest (All-tail P row (own_rows party rows) h) f
    by_place false c rest h f = rest h f

issued_no : (said : Says) (c : Cert) (s : Settled) (issuer : Option CaPart) → unwritten (issued_answer said c (Some s) issuer) ≡ None → ⊥
issued_no said c s None e = absurd (cc)
issued_no said c s (Some i) e = by_verdict (cert_said said c i.key) e
  where
    by_verdict : (b : Bool) → unwritten (cond b (waiting_answer c.body.holder (Some s)) (taken.Refused rule.Signature)) ≡ None → ⊥
    by_verdict true f = absurd (cc)
    by_verdict false f = absurd (cc)

settled_no : (said : Says) (bytes : List ℕ) (c : Cert) (own : OwnPart) (issuer : Option CaPart) (s : Settled) → own.settled ≡ Some s → unwritten (take_seen said bytes c (Some own) issuer) ≡ None → ⊥
settled_no said bytes c own issuer s is e = by_tests (is_kept_as bytes own.settled) (has_other_key c.body.key own.key) e
  where
    by_tests : (a b : Bool) → unwritten (cond a (taken.Already c.body.holder) (cond b (taken.Refused rule.KeyDiffers) (issued_answer said c own.settled issuer))) ≡ None → ⊥
    by_tests true b f = absurd (cc)
    by_tests false true f = absurd (cc)
    by_tests false false f = issued_no said c s issuer ((λ i. unwritten (issued_answer said c (sym is i) issuer)) ∙ f)

founded_no : (said : Says) (party : ℕ) (bytes : List ℕ) (c : Cert) (rows : List Row) → AreFounded party rows → (found : Option Row) → row_at table.Own party c.body.holder rows ≡ found → (issuer : Option CaPart) → unwritten (take_seen said bytes c (own_in found) issuer) ≡ None → ⊥
founded_no said party bytes c rows founded None at issuer e = absurd (cc)
founded_no said party bytes c rows founded (Some row) at issuer e =
    let f = found_in IsFounded party c.body.holder rows row founded at in
    settled_no said bytes c f.own issuer f.settled f.settled_is ((λ i. unwritten (take_seen said bytes c (sym f.part_is i) issuer)) ∙ e)

-- ---- a certificate that is taken

by_desk : (desk party : ℕ) (b : Bool) → nat_eq desk party ≡ b → (desk ≡ party) ⊎ (desk ≢ party)
by_desk desk party true e = inl (eqb-true desk party e)
by_desk desk party false e = inr (eqb-false desk party e)

written_keeps : (said : Says) (party : ℕ) (bytes : List ℕ) (before after : List Row) (c : Result Cert CvcRefusal) → unwritten (take_in said party bytes before c) ≡ None → after ≡ taken_rows party bytes before c → KeepsLaw before after
written_keeps said party bytes before after (Err x) due e = keeps_same before after e
written_keeps said party bytes before after (Ok c) due e = record {
  numbered = λ desk holder n. subst (λ (rows : List Row). AreNumbered desk holder rows) (sym e) (settled_numbered party c.body.holder (settled_of bytes c.body) desk holder before 1 n);
  founded = λ desk f. elim (by_desk desk party (nat_eq desk party) refl) [
    | inl same ↦ absurd (founded_no said party bytes c before (subst (λ (d : ℕ). AreFounded d before) same f) (row_at table.Own party c.body.holder before) refl (ca_at party c.body.authority before) due)
    | inr other ↦ subst (λ (rows : List Row). All IsFounded rows) (sym (ap (λ (rows : List Row). own_rows desk rows) e ∙ settled_other party c.body.holder (settled_of bytes c.body) desk before other)) f
  ];
}

pub take_keeps : (said : Says) (party : ℕ) (bytes : List ℕ) (before after : List Row) (result : Result Taken HolderFault) → Takes said party bytes before after result → KeepsLaw before after
take_keeps said party bytes before after result w =
    elim (same_or_written (unwritten (take_in said party bytes before (cert_of bytes))) None None (λ answer rows. (answer ≡ take_in said party bytes before (cert_of bytes)) × (rows ≡ taken_rows party bytes before (cert_of bytes))) before after result w) [
      | inl same ↦ keeps_same before after same
      | inr h ↦ written_keeps said party bytes before after (cert_of bytes) h.1.due h.1.written.1
    ]

-- ---- certificates that come in

item_keeps : (said : Says) (party : ℕ) (bytes : List ℕ) (before after : List Row) (result : Result Item HolderFault) → TakesItem said party bytes before after result → KeepsLaw before after
item_keeps said party bytes before after (Ok (item.Own answer)) w = take_keeps said party bytes before after (Ok answer) w.1
item_keeps said party bytes before after (Ok (item.Ca answer)) w = take_ca_keeps said party bytes before after (Ok answer) w.1
item_keeps said party bytes before after (Err f) w = by_mine (is_mine party bytes before) w
  where
    by_mine : (b : Bool) → BreaksOff said party bytes before after f b → KeepsLaw before after
    by_mine true x = take_keeps said party bytes before after (Err f) x
    by_mine false x = take_ca_keeps said party bytes before after (Err f) x

pub receive_keeps : (said : Says) (party : ℕ) (certificates : List (List ℕ)) (before after : List Row) (items : List Item) (f : Option HolderFault) (asked : List Question) → Receives said party certificates before after items f asked → KeepsLaw before after
receive_keeps said party [] before after [] None asked w = keeps_same before after w.0
receive_keeps said party (bytes ∷ more) before after (i ∷ items) f asked w = keeps_then before w.0 after (item_keeps said party bytes before w.0 (Ok i) w.2) (receive_keeps said party more w.0 after items f w.1 w.3)
receive_keeps said party (bytes ∷ more) before after [] (Some x) asked w = item_keeps said party bytes before after (Err x) w.0
receive_keeps said party [] before after [] (Some x) asked w = absurd w
receive_keeps said party [] before after (i ∷ items) f asked w = absurd w
receive_keeps said party (bytes ∷ more) before after [] None asked w = absurd w

-- ---- numbers

five_one : (n m : ℕ) → n < 100000 → m < 100000 → five_digits n ≡ five_digits m → n ≡ m
five_one n m short other e =
    let first : 48 + n / 10000 % 10 ≡ 48 + m / 10000 % 10 = cc in
    let second : 48 + n / 1000 % 10 ≡ 48 + m / 1000 % 10 = cc in
    let third : 48 + n / 100 % 10 ≡ 48 + m / 100 % 10 = cc in
    let fourth : 48 + n / 10 % 10 ≡ 48 + m / 10 % 10 = cc in
    let fifth : 48 + n % 10 ≡ 48 + m % 10 = cc in
    omega (arith, first, second, third, fourth, fifth, short, other)

numbered_one : (holder : List ℕ) (n m : ℕ) → n < 100000 → m < 100000 → numbered holder n ≡ numbered holder m → n ≡ m
numbered_one holder n m short other e = five_one n m short other (append_cancel_left holder (five_digits n) (five_digits m) e)

-- no row has a number beyond
module _ (party : ℕ) (holder : List ℕ) (number : ℕ) (small : number < 100000) where
  differs : (row : Row) (n : ℕ) → n < number → row.reference ≡ numbered holder n → bytes_eq row.reference (numbered holder number) ≡ false
  differs row n below e = by_test (bytes_eq row.reference (numbered holder number)) refl
    where
      by_test : (b : Bool) → bytes_eq row.reference (numbered holder number) ≡ b → bytes_eq row.reference (numbered holder number) ≡ false
      by_test true f = absurd (omega (arith, below, numbered_one holder n number (omega (arith, below, small)) small (sym e ∙ bytes_eq-true row.reference (numbered holder number) f)))
      by_test false f = f

  pub none_beyond : (rows : List Row) (n : ℕ) → NumberedFrom holder n (own_rows party rows) → n + length (own_rows party rows) ≤ number → row_at table.Own party (numbered holder number) rows ≡ None
  none_beyond [] n h le = refl
  none_beyond (row ∷ rows) n h le = by_place (is_of table.Own party row) (λ m x l. none_beyond rows m x l) h le
    where
      by_place : (b : Bool) → ((m : ℕ) → NumberedFrom holder m (own_rows party rows) → m + length (own_rows party rows) ≤ number → row_at table.Own party (numbered holder number) rows ≡ None) → NumberedFrom holder n (cond b (row ∷ own_rows party rows) (own_rows party rows)) → n + length (cond b (row ∷ own_rows party rows) (own_rows party rows)) ≤ number → cond (b && bytes_eq row.reference (numbered holder number)) (Some row) (row_at table.Own party (numbered holder number) rows) ≡ None
      by_place true rest x l = (λ i. cond (differs row n (omega (arith, l)) x.0 i) (Some row) (row_at table.Own party (numbered holder number) rows)) ∙ rest (n + 1) x.1 (omega (arith, l))
      by_place false rest x l = rest n x l

pub numbered_more : (holder : List ℕ) (rows : List Row) (row : Row) (n : ℕ) → NumberedFrom holder n rows → row.reference ≡ numbered holder (n + length rows) → NumberedFrom holder n (rows ++ row ∷ [])
numbered_more holder [] row n h e = (e ∙ ap (λ (k : ℕ). numbered holder k) (omega arith), tt)
numbered_more holder (x ∷ rows) row n h e = (h.0, numbered_more holder rows row (n + 1) h.1 (e ∙ ap (λ (k : ℕ). numbered holder k) (omega arith)))

-- ---- requests

pub same_desk : (n : ℕ) → nat_eq n n ≡ true
same_desk n = grind (arith, nat_tests)

pub other_desks : (n m : ℕ) → m ≢ n → nat_eq n m ≡ false
other_desks n m e = by_test (nat_eq n m) refl
  where
    by_test : (b : Bool) → nat_eq n m ≡ b → nat_eq n m ≡ false
    by_test true f = absurd (e (sym (eqb-true n m f)))
    by_test false f = f

module _ (says : Says) (held holds : Holds) (signed : Signed × Signed) (party : ℕ) (holder authority root : List ℕ) (home : Option Signer) where
  abbrev Wrote : List Row → Made → List Row → Type 0
  Wrote before answer after = WritesRequest says held holds signed party holder authority root home before answer after

  pending_here : (before after : List Row) (bytes : List ℕ) (row : Row) (b : Bool) (desk : ℕ) → after ≡ before ++ row ∷ [] → is_of table.Own desk row ≡ b → own_rows desk after ≡ own_rows desk before ++ cond b (row ∷ []) []
  pending_here before after bytes row b desk e is =
      ap (λ (rows : List Row). own_rows desk rows) e ∙ filter-append (is_of table.Own desk) before (row ∷ []) ∙ (λ i. own_rows desk before ++ cond (is i) (row ∷ []) [])

  written_numbers : (before after : List Row) (answer : Made) → Wrote before answer after → KeepsNumbers party holder before after
  written_numbers before after answer w =
      let row : Row = pending_row party (reference_after holder (own_rows party before)) authority w.bytes w.key in
      record {
        numbered = λ n. subst (λ (rows : List Row). NumberedFrom holder 1 rows) (sym (pending_here before after w.bytes row true party w.rows (same_desk party)))
            (numbered_more holder (own_rows party before) row 1 n (ap (λ (k : ℕ). numbered holder k) (omega arith)));
        others = λ desk other. pending_here before after w.bytes row false desk w.rows (other_desks party desk other) ∙ append-nil (own_rows desk before);
      }

  same_numbers : (before after : List Row) → after ≡ before → KeepsNumbers party holder before after
  same_numbers before after e = record {
    numbered = λ n. subst (λ (rows : List Row). AreNumbered party holder rows) (sym e) n;
    others = λ desk other. ap (λ (rows : List Row). own_rows desk rows) e;
  }

  abbrev refusal : List Row → Option Made
  refusal before = request_refused (own_rows party before) (authority_in authority root (ca_rows party before))

  abbrev lateness : List Row → Option Made
  lateness before = request_late (is_some (row_at table.Own party (reference_after holder (own_rows party before)) before))

  pub request_keeps : (before after : List Row) (result : Result Made HolderFault) → Requests says held holds signed party holder authority root home before after result → KeepsNumbers party holder before after
  request_keeps before after result w =
      elim (same_or_written (refusal before) (missing_of held (outer_signer authority home (own_rows party before))) (lateness before) (Wrote before) before after result w) [
        | inl same ↦ same_numbers before after same
        | inr h ↦ written_numbers before after h.0 h.1.written
      ]

  -- no row is there under the next number
  none_late : (before : List Row) → refusal before ≡ None → AreNumbered party holder before → lateness before ≡ None
  none_late before due n =
      let few = few_own (own_rows party before) (authority_in authority root (ca_rows party before)) due in
      ap (λ (found : Option Row). request_late (is_some found)) (none_beyond party holder (length (own_rows party before) + 1) (omega (arith, few)) before 1 n (omega arith))

  pub request_exact : (before after : List Row) (answer : Made) → Requests says held holds signed party holder authority root home before after (Ok answer) → AreNumbered party holder before → IsExact says held holds signed party holder authority root home before after answer
  request_exact before after answer (inl (inl due, same)) n = inl (due, same)
  request_exact before after answer (inl (inr late, same)) n = absurd (no_answer answer (sym (none_late before late.due n) ∙ late.there))
    where
      no_answer : (x : Made) → None ≡ Some x → ⊥
      no_answer x e = absurd (cc)
  request_exact before after answer (inr h) n = inr (h.due, h.written)
