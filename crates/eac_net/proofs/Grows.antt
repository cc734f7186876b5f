-- Rows that are added at the end: what stands stays lawful, held and good.
use Rattle.std.proofs.Common.{◌≡◌, ◌+◌, ℕ, List, [], ◌∷◌, ◌++◌, length, Bool, true, false, Some, None, Ok, Err, refl, sym, ap, ◌∙◌, subst, append_assoc, arith}
use Rattle.std.specs.Prelude.{IfSome, option_and_then, IsTrue}
use Rattle.std.specs.declared.option.Option.{Option}
use Rattle.std.specs.declared.result.Result.{Result}
use Rattle.std.specs.Option.{option_or}
use Rattle.std.specs.List.{All, AllByRecursion}
use Rattle.std.proofs.lemmas.List.Elements.{All-append, All-from_recursion, recursion_from_All, filter-append}
use Rattle.std.proofs.lemmas.List.Folds.{find-append}
use Rattle.holder_reference.specs.Reference.{holder_part}
use Rattle.signature_provider.specs.Provider.{PublicKey, Says, Holds, public_key}
use Rattle.cvc_grammar.specs.declared.certificate.Cert.{Cert}
use Rattle.cvc_grammar.specs.declared.request.Request.{Request}
use Rattle.cvc_grammar.specs.declared.request.Outer.{Outer}
use Rattle.cvc_grammar.specs.declared.refusal.CvcRefusal.{CvcRefusal}
use Rattle.policy_limits.specs.Setup.{SetupValue, party, number_of, is_authority}
use Rattle.policy_limits.specs.declared.party.Party.{Party}
use Rattle.keeper.specs.declared.rows.Row.{Row}
use Rattle.keeper.specs.declared.rows.OwnPart.{OwnPart}
use Rattle.keeper.specs.declared.rows.Settled.{Settled}
use Rattle.keeper.specs.declared.rows.Part.{Part}
use Rattle.keeper.specs.declared.rows.Part.TheVariants as part
use Rattle.keeper.specs.declared.rows.Table.TheVariants as table
use Rattle.keeper.specs.Rows.{is_of, has_key, row_at}
use Rattle.issue_core.specs.Issuing.Rows.{AreReadable}
use Rattle.holder_core.specs.Readings.{request_of, cert_of}
use Rattle.holder_core.specs.OwnRows.{own_rows, own_part}
use Rattle.holder_core.specs.Lawful.{NumberedFrom, IsFounded, AreFounded}
use Rattle.eac_net.specs.Lawful.{AreLawful}
use Rattle.eac_net.specs.Made.{Made, key_in, key_at, key_named, made_cert, made_outer, made_request, made_settled, made_own, made_part, made_in, all_made, IsGood, AreGood}
use Rattle.eac_net.specs.Moment.{AllHeld}
use Rattle.eac_net.specs.Parties.{is_party_of}

-- ---- lawful rows

pub readable_append : (xs ys : List Row) → AreReadable xs → AreReadable ys → AreReadable (xs ++ ys)
readable_append [] ys h k = k
readable_append (x ∷ xs) ys h k = (h.0, readable_append xs ys h.1 k)

numbered_append : (holder : List ℕ) (n m : ℕ) (xs ys : List Row) → m ≡ n + length xs → NumberedFrom holder n xs → NumberedFrom holder m ys → NumberedFrom holder n (xs ++ ys)
numbered_append holder n m [] ys e h k = subst (λ (j : ℕ). NumberedFrom holder j ys) (let same : m ≡ n = omega (arith, e) in same) k
numbered_append holder n m (x ∷ xs) ys e h k = (h.0, numbered_append holder (n + 1) m xs ys (omega (arith, e)) h.1 k)

pub own_append : (desk : ℕ) (before more : List Row) → own_rows desk (before ++ more) ≡ own_rows desk before ++ own_rows desk more
own_append desk before more = filter-append (is_of table.Own desk) before more

-- what the own rows among those that are added owe
pub record AddsLawful (setup : SetupValue) (before more : List Row) : Type 0 where
  pub readable : AreReadable more
  pub numbered : (desk : ℕ) (p : Party) → party setup desk ≡ Some p → NumberedFrom p.holder (1 + length (own_rows desk before)) (own_rows desk more)
  pub founded : (desk : ℕ) (p : Party) → party setup desk ≡ Some p → IsTrue (is_authority p.kind) → AreFounded desk more

pub lawful_append : (setup : SetupValue) (before more : List Row) → AddsLawful setup before more → AreLawful setup before → AreLawful setup (before ++ more)
lawful_append setup before more adds l = record {
  readable = readable_append before more l.readable adds.readable;
  numbered = λ desk p is. subst (NumberedFrom p.holder 1) (sym (own_append desk before more))
      (numbered_append p.holder 1 (1 + length (own_rows desk before)) (own_rows desk before) (own_rows desk more) refl (l.numbered desk p is) (adds.numbered desk p is));
  founded = λ desk p is a. subst (All IsFounded) (sym (own_append desk before more))
      (All-append IsFounded (own_rows desk before) (own_rows desk more) (l.founded desk p is a) (adds.founded desk p is a));
}

-- ---- held keys

pub held_append : (holds : Holds) (before more : List Row) → AllHeld holds before → AllHeld holds more → AllHeld holds (before ++ more)
held_append holds before more h k = All-append (λ (row : Row). IfSome (own_part row.part) (λ own. holds (public_key own.key) ≡ true)) before more h k

-- ---- good signatures

-- what is looked up stays
key_or : (o other : Option Row) (k : PublicKey) → key_in o ≡ Some k → key_in (option_or o other) ≡ Some k
key_or (Some row) other k h = h
key_or None other k h = absurd (cc)

pub key_at_more : (before more : List Row) (desk : ℕ) (reference : List ℕ) (k : PublicKey) → key_at before desk reference ≡ Some k → key_at (before ++ more) desk reference ≡ Some k
key_at_more before more desk reference k h =
    ap key_in (find-append (has_key table.Own desk reference) before more)
    ∙ key_or (row_at table.Own desk reference before) (row_at table.Own desk reference more) k h

named_more_at : (before more : List Row) (reference : List ℕ) (k : PublicKey) (desk : Option ℕ) →
    key_in (option_and_then (λ d. row_at table.Own d reference before) desk) ≡ Some k → key_in (option_and_then (λ d. row_at table.Own d reference (before ++ more)) desk) ≡ Some k
named_more_at before more reference k (Some desk) h = key_at_more before more desk reference k h
named_more_at before more reference k None h = absurd (cc)

pub key_named_more : (setup : SetupValue) (before more : List Row) (reference : List ℕ) (k : PublicKey) → key_named setup before reference ≡ Some k → key_named setup (before ++ more) reference ≡ Some k
key_named_more setup before more reference k h = named_more_at before more reference k (number_of setup (holder_part reference)) h

both : (P : Made → Type 0) (xs ys : List Made) → AllByRecursion P (xs ++ ys) → AllByRecursion P xs × AllByRecursion P ys
both P [] ys h = (tt, h)
both P (x ∷ xs) ys h = let rest = both P xs ys h.1 in ((h.0, rest.0), rest.1)

joined : (P : Made → Type 0) (xs ys : List Made) → AllByRecursion P xs → AllByRecursion P ys → AllByRecursion P (xs ++ ys)
joined P [] ys h k = k
joined P (x ∷ xs) ys h k = (h.0, joined P xs ys h.1 k)

module _ (says : Says) (at at' : ℕ → List ℕ → Option PublicKey) (named named' : List ℕ → Option PublicKey) (of : ℕ → Bool)
    (more : (desk : ℕ) (reference : List ℕ) (k : PublicKey) → at desk reference ≡ Some k → at' desk reference ≡ Some k)
    (named_more : (reference : List ℕ) (k : PublicKey) → named reference ≡ Some k → named' reference ≡ Some k) where
  cert_more : (desk : ℕ) (c : Result Cert CvcRefusal) → AllByRecursion (IsGood says) (made_cert at named of desk c) → AllByRecursion (IsGood says) (made_cert at' named' of desk c)
  cert_more desk (Ok c) h = (record { key = h.0.key; there = more desk c.body.authority h.0.key h.0.there; good = h.0.good }, tt)
  cert_more desk (Err e) h = tt

  outer_more : (r : Request) (o : Option Outer) → AllByRecursion (IsGood says) (made_outer at named of r o) → AllByRecursion (IsGood says) (made_outer at' named' of r o)
  outer_more r (Some o) h = (record { key = h.0.key; there = named_more o.reference h.0.key h.0.there; good = h.0.good }, tt)
  outer_more r None h = tt

  request_more : (r : Result Request CvcRefusal) → AllByRecursion (IsGood says) (made_request at named of r) → AllByRecursion (IsGood says) (made_request at' named' of r)
  request_more (Ok r) h = (h.0, outer_more r r.outer h.1)
  request_more (Err e) h = tt

  settled_more : (desk : ℕ) (s : Option Settled) → AllByRecursion (IsGood says) (made_settled at named of desk s) → AllByRecursion (IsGood says) (made_settled at' named' of desk s)
  settled_more desk (Some s) h = cert_more desk (cert_of s.certificate) h
  settled_more desk None h = tt

  own_more : (desk : ℕ) (b : Bool) (own : OwnPart) → AllByRecursion (IsGood says) (made_own at named of desk b own) → AllByRecursion (IsGood says) (made_own at' named' of desk b own)
  own_more desk true own h = settled_more desk own.settled h
  own_more desk false own h = request_more (request_of own.request) h

  part_more : (desk : ℕ) (p : Part) → AllByRecursion (IsGood says) (made_part at named of desk p) → AllByRecursion (IsGood says) (made_part at' named' of desk p)
  part_more desk (part.Issued p) h = cert_more desk (cert_of p.settled.certificate) h
  part_more desk (part.Own own) h = own_more desk (of desk) own h
  part_more desk (part.Ca p) h = tt
  part_more desk (part.Register request day) h = tt

  rows_more : (rows : List Row) → AllByRecursion (IsGood says) (made_in at named of rows) → AllByRecursion (IsGood says) (made_in at' named' of rows)
  rows_more [] h = tt
  rows_more (row ∷ rows) h =
      let two = both (IsGood says) (made_part at named of row.desk row.part) (made_in at named of rows) h in
      joined (IsGood says) (made_part at' named' of row.desk row.part) (made_in at' named' of rows) (part_more row.desk row.part two.0) (rows_more rows two.1)

made_append : (at : ℕ → List ℕ → Option PublicKey) (named : List ℕ → Option PublicKey) (of : ℕ → Bool) (xs ys : List Row) → made_in at named of (xs ++ ys) ≡ made_in at named of xs ++ made_in at named of ys
made_append at named of [] ys = refl
made_append at named of (row ∷ rows) ys =
    ap (λ (l : List Made). made_part at named of row.desk row.part ++ l) (made_append at named of rows ys)
    ∙ sym (append_assoc (made_part at named of row.desk row.part) (made_in at named of rows) (made_in at named of ys))

-- the signatures of rows that are added, with the keys that are there then
abbrev pub AddsGood : SetupValue → Says → (before more : List Row) → Type 0
AddsGood setup says before more =
    AreGood says (made_in (key_at (before ++ more)) (key_named setup (before ++ more)) (is_party_of is_authority setup) more)

pub good_append : (setup : SetupValue) (says : Says) (before more : List Row) → AreGood says (all_made setup before) → AddsGood setup says before more → AreGood says (all_made setup (before ++ more))
good_append setup says before more good new =
    let of : ℕ → Bool = is_party_of is_authority setup in
    let at' = key_at (before ++ more) in
    let named' = key_named setup (before ++ more) in
    let old : AreGood says (made_in at' named' of before) =
    All-from_recursion (IsGood says) (made_in at' named' of before)
    (rows_more says (key_at before) at' (key_named setup before) named' of (key_at_more before more) (key_named_more setup before more) before
    (recursion_from_All (IsGood says) (all_made setup before) good)) in
    subst (AreGood says) (sym (made_append at' named' of before more)) (All-append (IsGood says) (made_in at' named' of before) (made_in at' named' of more) old new)
