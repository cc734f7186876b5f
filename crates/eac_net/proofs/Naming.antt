-- Parties are found by their holders, and own rows by the references of their holders.
use Rattle.std.proofs.Common.{◌≡◌, ℕ, zero, suc, ◌+◌, ◌-◌, ◌<◌, List, [], ◌∷◌, length, Bool, true, false, cond, true≢false, Some, None, refl, sym, ap, ◌∙◌, arith}
use Rattle.std.specs.Prelude.{◌&&◌, ◌||◌, not, nat_lt, slice_get, take, option_map, option_and_then}
use Rattle.std.specs.declared.option.Option.{Option}
use Rattle.std.specs.List.{position_or_len, list_any, find}
use Rattle.std.specs.Str.{bytes_eq}
use Rattle.std.proofs.lemmas.Bool.{lt-ltb}
use Rattle.std.proofs.lemmas.List.{length-append, take-append-le, take_all}
use Rattle.eac_base.proofs.EqualBytes.{bytes_eq-true, bytes_eq-self}
use Rattle.holder_reference.specs.Reference.{holder_part}
use Rattle.holder_reference.specs.Sequence.{five_digits}
use Rattle.signature_provider.specs.Provider.{public_key}
use Rattle.policy_limits.specs.Setup.{SetupValue, IsSetup, party, number_of, are_distinct, have_one_holder}
use Rattle.policy_limits.specs.declared.party.Party.{Party}
use Rattle.keeper.specs.declared.rows.Row.{Row}
use Rattle.keeper.specs.declared.rows.OwnPart.{OwnPart}
use Rattle.keeper.specs.declared.rows.Table.TheVariants as table
use Rattle.keeper.specs.Rows.{is_of, has_key, row_at}
use Rattle.holder_core.specs.Lawful.{NumberedFrom}
use Rattle.holder_core.specs.Numbers.{numbered}
use Rattle.holder_core.specs.OwnRows.{own_rows, own_part}
use Rattle.holder_core.specs.Requesting.{home_signer}
use Rattle.holder_core.specs.Signers.{Signer}
use Rattle.eac_net.specs.Acting.{home_for}
use Rattle.eac_net.specs.Made.{key_in, key_named}
use Rattle.eac_net.specs.Parties.{own_named}
use Rattle.eac_net.proofs.Finding.{some_same, none_some, IsSigner, SignsFor, signer_of, number_of as number_in, found_there}

-- ---- a party by its holder

or_later : (a b : Bool) → b ≡ true → a || b ≡ true
or_later true b h = refl
or_later false b h = h

any_at : (test : Party → Bool) (ps : List Party) (n : ℕ) (p : Party) → slice_get ps n ≡ Some p → test p ≡ true → list_any test ps ≡ true
any_at test [] n p e t = absurd (none_some p e)
any_at test (q ∷ ps) zero p e t = ap (λ (b : Bool). b || list_any test ps) (ap test (some_same q p e) ∙ t)
any_at test (q ∷ ps) (suc n) p e t = or_later (test q) (list_any test ps) (any_at test ps n p e t)

not_any : (a b : Bool) → not a && b ≡ true → (a ≡ false) × (b ≡ true)
not_any false b e = (refl, e)
not_any true b e = absurd (true≢false (sym e))

-- its place
pub record IsPlace (ps : List Party) (holder : List ℕ) (n : ℕ) : Type 0 where
  pub place : position_or_len (λ p. bytes_eq p.holder holder) ps ≡ n
  pub within : n < length ps

at_place : (ps : List Party) (n : ℕ) (p : Party) → are_distinct have_one_holder ps ≡ true → slice_get ps n ≡ Some p → IsPlace ps p.holder n
at_place [] n p d e = absurd (none_some p e)
at_place (q ∷ ps) zero p d e = record {
  place = ap (λ (b : Bool). cond (not b) (1 + position_or_len (λ x. bytes_eq x.holder p.holder) ps) 0)
      (ap (λ (x : Party). bytes_eq x.holder p.holder) (some_same q p e) ∙ bytes_eq-self p.holder);
  within = omega arith;
}
at_place (q ∷ ps) (suc n) p d e =
    let parts = not_any (list_any (have_one_holder q) ps) (are_distinct have_one_holder ps) d in
    let later = at_place ps n p parts.1 e in
    let one : 1 + n ≡ suc n = omega arith in
    let other : bytes_eq q.holder p.holder ≡ false = unlike (bytes_eq q.holder p.holder) refl parts.0 in
    record {
      place = ap (λ (b : Bool). cond (not b) (1 + position_or_len (λ x. bytes_eq x.holder p.holder) ps) 0) other ∙ ap (λ (k : ℕ). 1 + k) later.place ∙ one;
      within = omega (arith, later.within);
    }
  where
    unlike : (b : Bool) → bytes_eq q.holder p.holder ≡ b → list_any (have_one_holder q) ps ≡ false → b ≡ false
    unlike true is none = absurd (true≢false (sym (any_at (have_one_holder q) ps n p e is) ∙ none))
    unlike false is none = refl

pub number_is : (setup : SetupValue) → IsSetup setup → (desk : ℕ) (p : Party) → party setup desk ≡ Some p → number_of setup p.holder ≡ Some desk
number_is setup s desk p is =
    let h = at_place setup.parties desk p s.holders is in
    (λ j. cond (nat_lt (h.place j) (length setup.parties)) (Some (h.place j)) None)
    ∙ ap (λ (b : Bool). cond b (Some desk) None) (lt-ltb desk (length setup.parties) h.within)

-- ---- the holder of a numbered reference

pub holder_of_number : (h : List ℕ) (n : ℕ) → holder_part (numbered h n) ≡ h
holder_of_number h n =
    let long = length-append h (five_digits n) in
    let size : length (numbered h n) - 5 ≡ length h = omega (arith, long) in
    ap (λ (k : ℕ). take k (numbered h n)) size ∙ take-append-le (length h) h (five_digits n) (omega arith) ∙ take_all (length h) h (omega arith)

-- ---- the key of a row that signs is the one that its reference names

abbrev pub IsNamed : SetupValue → List Row → Signer → Type 0
IsNamed setup rows s = key_named setup rows s.reference ≡ Some (public_key s.key)

key_of : (row : Row) (s : Signer) → IsSigner row s → key_in (Some row) ≡ Some (public_key s.key)
key_of row s is =
    ap (λ (p : _). option_map (λ (o : OwnPart). public_key o.key) (own_part p)) is.part_is ∙ ap (λ (k : _). Some (public_key k)) is.key_is

pub own_named_is : (setup : SetupValue) → IsSetup setup → (desk : ℕ) (p : Party) → party setup desk ≡ Some p → (rows : List Row) → NumberedFrom p.holder 1 (own_rows desk rows) → length (own_rows desk rows) < 99999
    → (s : Signer) → SignsFor desk rows s → IsNamed setup rows s
own_named_is setup is desk p party_is rows numbers few s signs =
    let n = number_in p.holder (own_rows desk rows) 1 numbers signs.row signs.among in
    let holder : holder_part s.reference ≡ p.holder = ap holder_part (sym signs.signer.reference_is ∙ n.is) ∙ holder_of_number p.holder n.number in
    let number : number_of setup (holder_part s.reference) ≡ Some desk = ap (number_of setup) holder ∙ number_is setup is desk p party_is in
    let there : row_at table.Own desk signs.row.reference rows ≡ Some signs.row = found_there desk p.holder rows 1 numbers (omega (arith, few)) signs.row signs.among in
    ap (λ (d : Option ℕ). key_in (option_and_then (λ x. row_at table.Own x s.reference rows) d)) number
    ∙ ap (λ (r : List ℕ). key_in (row_at table.Own desk r rows)) (sym signs.signer.reference_is)
    ∙ ap key_in there
    ∙ key_of signs.row s signs.signer

-- a row that is found has the key that it was looked for by
found_so : (test : Row → Bool) (rows : List Row) (row : Row) → find test rows ≡ Some row → test row ≡ true
found_so test [] row e = absurd (none_some row e)
found_so test (x ∷ rows) row e = go (found_so test rows row) (test x) refl e
  where
    go : (find test rows ≡ Some row → test row ≡ true) → (b : Bool) → test x ≡ b → cond b (Some x) (find test rows) ≡ Some row → test row ≡ true
    go later true is k = ap test (sym (some_same x row k)) ∙ is
    go later false is k = later k

second : (a b : Bool) → a && b ≡ true → b ≡ true
second true b e = e
second false b e = absurd (true≢false (sym e))

found_reference : (desk : ℕ) (reference : List ℕ) (rows : List Row) (row : Row) → row_at table.Own desk reference rows ≡ Some row → row.reference ≡ reference
found_reference desk reference rows row e =
    bytes_eq-true row.reference reference (second (is_of table.Own desk row) (bytes_eq row.reference reference) (found_so (has_key table.Own desk reference) rows row e))

named_reference : (rows : List Row) (reference : List ℕ) (row : Row) (desk : Option ℕ) → option_and_then (λ d. row_at table.Own d reference rows) desk ≡ Some row → row.reference ≡ reference
named_reference rows reference row (Some desk) e = found_reference desk reference rows row e
named_reference rows reference row None e = absurd (none_some row e)

pub home_named_is : (setup : SetupValue) (reference : Option (List ℕ)) (rows : List Row) (s : Signer) → home_for setup reference rows ≡ Some s → IsNamed setup rows s
home_named_is setup None rows s e = absurd (none_some s e)
home_named_is setup (Some r) rows s e = go (own_named setup rows r) refl e
  where
    go : (x : Option Row) → own_named setup rows r ≡ x → home_signer x ≡ Some s → IsNamed setup rows s
    go None is k = absurd (none_some s k)
    go (Some row) is k =
        let signs = signer_of row s k in
        let same : s.reference ≡ r = sym signs.reference_is ∙ named_reference rows r row (number_of setup (holder_part r)) is in
        ap (key_named setup rows) same ∙ ap key_in is ∙ key_of row s signs
