-- A request for a certificate of a new key, as `make_request` makes it (BSI TR-03110-3, certificate requests; numbers and
-- refusals are this project's own).
use Rattle.std.specs.Prelude.{◌≡◌, ◌⊎◌, ◌+◌, ℕ, ◌≤◌, List, [], ◌∷◌, ◌++◌, length, Option, Some, None, Result, Ok, Err, IfSome, IsTrue, Bool, true, false, nat_le, is_none, is_some, option_and_then, if◌then◌else◌}
use Rattle.std.specs.List.{All}
use Rattle.signature_provider.specs.Provider.{Says, Holds, Signed, MakesKey, public_key}
use Rattle.signature_provider.specs.declared.key.Key.{Key}
use Rattle.cvc_grammar.specs.declared.request.Request.{Request}
use Rattle.cvc_grammar.specs.declared.request.Outer.{Outer}
use Rattle.cvc_grammar.specs.declared.request.RequestBody.{RequestBody}
use Rattle.cvc_grammar.specs.Object.{object}
use Rattle.cvc_grammar.specs.Certificate.{is_signature, signature_object}
use Rattle.cvc_grammar.specs.Request.{bare_text, is_request_key, longest_request}
use Rattle.holder_reference.specs.Reference.{is_reference}
use Rattle.keeper.specs.declared.rows.Row.{Row}
use Rattle.keeper.specs.declared.rows.Part.TheVariants as part
use Rattle.keeper.specs.declared.rows.Table.TheVariants as table
use Rattle.keeper.specs.Rows.{row_at, kept_row, rows_beside, most_rows, IsStorableKey}
use Rattle.keeper.specs.Keeping.{IsDeskRow}
use Rattle.holder_core.specs.Readings.{request_of, inner_message, outer_message}
use Rattle.holder_core.specs.OwnRows.{own_rows, ca_rows}
use Rattle.holder_core.specs.Numbers.{most_keys, reference_after}
use Rattle.holder_core.specs.Signers.{Signer, own_signer, form_of, missing_of, newest_wanted}
use Rattle.holder_core.specs.declared.newest.Wanted.TheVariants as wanted
use Rattle.holder_core.specs.Signing.{Pair, SignsMore}
use Rattle.holder_core.specs.WritesOnce.{WritesOnce}
use Rattle.holder_core.specs.declared.fault.HolderFault.{HolderFault}
use Rattle.holder_core.specs.declared.fault.HolderFault.TheVariants as fault
use Rattle.holder_core.specs.declared.adding.Added.{Added}
use Rattle.holder_core.specs.declared.adding.Added.TheVariants as added
use Rattle.holder_core.specs.declared.requesting.Choice.{Choice}
use Rattle.holder_core.specs.declared.requesting.Choice.TheVariants as choice
use Rattle.holder_core.specs.declared.composing.Composed.{Composed}
use Rattle.holder_core.specs.declared.made.Made.{Made}
use Rattle.holder_core.specs.declared.made.Made.TheVariants as answers

-- ---- what rows decide

-- the newest certificate of this authority, issued by this root, whose key a new one can be made like
abbrev pub authority_in : (authority root : List ℕ) → List Row → Option Signer
authority_in authority root cas = newest_wanted (wanted.Authority authority root) cas

abbrev pub or_home : Option Signer → Option Signer → Option Signer
or_home (Some s) home = Some s
or_home None home = home

-- whose key signs the outer signature: the newest settled own row at this authority, else the home row
abbrev pub outer_signer : List ℕ → Option Signer → List Row → Option Signer
outer_signer authority home own = or_home (newest_wanted (wanted.AskedFrom authority) own) home

-- the home row, where there is one
abbrev pub home_signer : Option Row → Option Signer
home_signer home = option_and_then own_signer home

abbrev pub request_refused : List Row → Option Signer → Option Made
request_refused own above = if nat_le most_keys (length own) then Some answers.Exhausted else
    (if is_none above then Some answers.NoAuthority else None)

-- a row is there already under the reference of the next key
abbrev pub request_late : Bool → Option Made
request_late true = Some answers.Exhausted
request_late false = None

-- ---- what is made

-- an outer part exactly where somebody signs it
abbrev pub OuterBy : Says → Request → Option Signer → Option Outer → Type 0
OuterBy says r (Some s) (Some o) = (o.reference ≡ s.reference) × (says (public_key s.key) (outer_message r o.reference) o.signature ≡ true)
OuterBy says r (Some s) None = ⊥
OuterBy says r None (Some o) = ⊥
OuterBy says r None None = Unit {0}

-- what the new key signs of it, and what that row signs
abbrev pub inner_pair : Key → Request → Pair
inner_pair key r = (public_key key, inner_message r)

abbrev pub outer_pair : Signer → Request → Pair
outer_pair s r = (public_key s.key, outer_message r s.reference)

abbrev pub request_pairs : Key → Request → Option Signer → List Pair
request_pairs key r (Some s) = inner_pair key r ∷ outer_pair s r ∷ []
request_pairs key r None = inner_pair key r ∷ []

abbrev pub bare_body : (reference authority : List ℕ) → Key → RequestBody
bare_body reference authority key = record { authority = Some authority; key = key; holder = reference; extensions = None }

-- One making, with what the provider says after it, the keys that it held before and holds after it, and what it had signed
-- before and has after it: under this reference, for a new key like this one, with an outer part by that row.
module _ (says : Says) (held holds : Holds) (signed : Signed × Signed) (reference authority : List ℕ) (like : Key)
    (outer : Option Signer) where
  -- the bytes are of such a request, and its pairs were signed and no more
  pub record IsRequestFor (bytes : List ℕ) (key : Key) : Type 0 where
    pub request : Request
    pub made : MakesKey held holds (form_of like) key
    pub read : request_of bytes ≡ Ok request
    pub body : request.body ≡ bare_body reference authority key
    pub inner : says (public_key key) (inner_message request) request.inner ≡ true
    pub outer_is : OuterBy says request outer request.outer
    pub signs : missing_of holds outer ≡ None
    pub pairs : SignsMore signed (request_pairs key request outer)

  -- such a request was begun: its inner pair was signed, or all its pairs, by keys that are held
  pub record IsBegun : Type 0 where
    pub request : Request
    pub key : Key
    pub made : MakesKey held holds (form_of like) key
    pub body : request.body ≡ bare_body reference authority key
    pub inner : says (public_key key) (inner_message request) request.inner ≡ true
    pub pairs : SignsMore signed (inner_pair key request ∷ []) ⊎ ((missing_of holds outer ≡ None) × SignsMore signed
        (request_pairs key request outer))

  -- nothing was signed, or such a request was begun
  abbrev pub MayBegin : Type 0
  MayBegin = (signed.1 ≡ signed.0) ⊎ IsBegun

-- no key was made and nothing signed
pub record IsUntouched (held holds : Holds) (signed : Signed × Signed) : Type 0 where
  pub keys : holds ≡ held
  pub signed_is : signed.1 ≡ signed.0

-- the own row that waits for the certificate
abbrev pub pending_row : ℕ → (reference authority bytes : List ℕ) → Key → Row
pending_row party reference authority bytes key = record {
  desk = party;
  reference = reference;
  part = part.Own (record { authority = authority; request = bytes; key = key; settled = None });
}

-- ---- one call, with what the provider says after it, the keys that it held before and holds after it, and what it had signed
-- before and has after it

module _ (says : Says) (held holds : Holds) (signed : Signed × Signed) (party : ℕ) (holder authority root : List ℕ)
    (home : Option Signer) where
  -- a request that was made by these rows
  pub record IsRequested (own cas : List Row) (bytes : List ℕ) (key : Key) : Type 0 where
    pub above : Signer
    pub above_is : authority_in authority root cas ≡ Some above
    pub request : IsRequestFor says held holds signed (reference_after holder own) above.reference above.key
        (outer_signer authority home own) bytes key

  -- What was signed, whatever came of the call: where it is refused nothing, and no key was made; else the request that is
  -- due, or a part of it, or nothing.
  abbrev pub SignsWhere : Option Made → Option Signer → (own : List Row) → Type 0
  SignsWhere (Some answer) above own = IsUntouched held holds signed
  SignsWhere None (Some above) own = MayBegin says held holds signed (reference_after holder own) above.reference above.key
      (outer_signer authority home own)
  SignsWhere None None own = ⊥

  abbrev pub SignsBy : (own cas : List Row) → Type 0
  SignsBy own cas = SignsWhere (request_refused own (authority_in authority root cas)) (authority_in authority root cas) own

  -- the pending row was added
  pub record WritesRequest (before : List Row) (answer : Made) (after : List Row) : Type 0 where
    pub bytes : List ℕ
    pub key : Key
    pub made : IsRequested (own_rows party before) (ca_rows party before) bytes key
    pub answer_is : answer ≡ answers.Request (reference_after holder (own_rows party before)) bytes
    pub rows : after ≡ before ++ pending_row party (reference_after holder (own_rows party before)) authority bytes key ∷ []

  abbrev pub Requests : List Row → List Row → Result Made HolderFault → Type 0
  Requests before after result =
      WritesOnce (request_refused (own_rows party before) (authority_in authority root (ca_rows party before)))
      (missing_of held (outer_signer authority home (own_rows party before)))
      (request_late (is_some (row_at table.Own party (reference_after holder (own_rows party before)) before)))
      (WritesRequest before) before after result

  -- ---- for every keeper

  -- A request by rows as they were asked for. Where no number is left by them, it is `Exhausted`; so it is where the keeper says
  -- to the adding that the row is there or the table full, and there a request was made.
  abbrev pub RequestSays : List Row → List Row → Made → Type 0
  RequestSays own cas answers.Exhausted = ((request_refused own (authority_in authority root cas) ≡ Some answers.Exhausted) × IsUntouched
      held holds signed)
      ⊎ ((request_refused own (authority_in authority root cas) ≡ None) × (bytes : List ℕ) × (key : Key) × IsRequested own cas bytes key)
  RequestSays own cas answers.NoAuthority = (request_refused own (authority_in authority root cas) ≡ Some answers.NoAuthority) ×
      IsUntouched held holds signed
  RequestSays own cas (answers.Request reference bytes) = (request_refused own (authority_in authority root cas) ≡ None) ×
      (reference ≡ reference_after holder own) × (key : Key) × IsRequested own cas bytes key

  pub record RequestAsked (answer : Made) : Type 0 where
    pub own : List Row
    pub own_asked : All (IsDeskRow table.Own party) own
    pub cas : List Row
    pub cas_asked : All (IsDeskRow table.Ca party) cas
    pub says_so : RequestSays own cas answer

  -- what was signed, by rows as they were asked for
  pub record SignsAsked : Type 0 where
    pub own : List Row
    pub own_asked : All (IsDeskRow table.Own party) own
    pub cas : List Row
    pub cas_asked : All (IsDeskRow table.Ca party) cas
    pub signs : SignsBy own cas

-- No refusal is due by rows as they were asked for, and the key of the row to sign the outer signature with, which has this
-- reference, isn't held.
pub record MissesOuter (held : Holds) (party : ℕ) (authority root : List ℕ) (home : Option Signer) (reference : List ℕ) : Type 0 where
  pub own : List Row
  pub own_asked : All (IsDeskRow table.Own party) own
  pub cas : List Row
  pub cas_asked : All (IsDeskRow table.Ca party) cas
  pub due : request_refused own (authority_in authority root cas) ≡ None
  pub missing : missing_of held (outer_signer authority home own) ≡ Some reference

-- ---- its steps

-- a body without extensions, for a legal key under legal references
pub record IsComposable (b : RequestBody) : Type 0 where
  pub key : IsTrue (is_request_key b.key)
  pub holder : IsTrue (is_reference b.holder)
  pub authority : IfSome b.authority (λ a. IsTrue (is_reference a))
  pub bare : b.extensions ≡ None

-- the text of a bare request
abbrev pub IsBareText : List ℕ → Type 0
IsBareText bytes = (r : Request) × (bytes ≡ bare_text r)

-- what the key of this body signs, and nothing else was signed
pub record IsInner (says : Says) (signed : Signed × Signed) (b : RequestBody) : Type 0 where
  pub request : Request
  pub body_is : request.body ≡ b
  pub good : says (public_key b.key) (inner_message request) request.inner ≡ true
  pub more : SignsMore signed (inner_pair b.key request ∷ [])

-- the text of a bare request with this body, signed as the provider says
pub record IsSignedBody (says : Says) (signed : Signed × Signed) (b : RequestBody) (bytes : List ℕ) : Type 0 where
  pub inner_is : IsInner says signed b
  pub text : bytes ≡ bare_text inner_is.request
  pub size : IsTrue (is_signature inner_is.request.inner)

abbrev pub MaySignBody : Says → Signed × Signed → RequestBody → Type 0
MaySignBody says signed b = (signed.1 ≡ signed.0) ⊎ IsInner says signed b

-- the same for a new key
module _ (says : Says) (held holds : Holds) (signed : Signed × Signed) (reference authority : List ℕ) (like : Key) where
  pub record IsBare (bare : Composed) : Type 0 where
    pub made : MakesKey held holds (form_of like) bare.key
    pub composable : IsComposable (bare_body reference authority bare.key)
    pub body : IsSignedBody says signed (bare_body reference authority bare.key) bare.bytes

  pub record IsBareBegun : Type 0 where
    pub key : Key
    pub made : MakesKey held holds (form_of like) key
    pub inner_is : IsInner says signed (bare_body reference authority key)

  abbrev pub MayBeginBare : Type 0
  MayBeginBare = (signed.1 ≡ signed.0) ⊎ IsBareBegun

-- what this row signs behind a bare request
abbrev pub behind_pair : List ℕ → Signer → Pair
behind_pair bare s = (public_key s.key, bare ++ object 0x42 s.reference)

-- the outer signature of a bare request, by this row
pub record IsOuter (says : Says) (holds : Holds) (signed : Signed × Signed) (bare : List ℕ) (s : Signer) (bytes : List ℕ) : Type 0 where
  pub signature : List ℕ
  pub reference : IsTrue (is_reference s.reference)
  pub size : IsTrue (is_signature signature)
  pub good : says (public_key s.key) (bare ++ object 0x42 s.reference) signature ≡ true
  pub is_held : holds (public_key s.key) ≡ true
  pub text : bytes ≡ object 0x67 (bare ++ object 0x42 s.reference ++ signature_object signature)
  pub more : SignsMore signed (behind_pair bare s ∷ [])

-- the bare request, or the one with an outer part where somebody signs it
abbrev pub Finishes : Says → Holds → Signed × Signed → List ℕ → Option Signer → List ℕ → Type 0
Finishes says holds signed bare (Some s) bytes = IsOuter says holds signed bare s bytes
Finishes says holds signed bare None bytes = (bytes ≡ bare) × (signed.1 ≡ signed.0)

-- nothing was signed for the outer part, or its pair by a key that is held
abbrev pub MayFinish : Holds → Signed × Signed → List ℕ → Option Signer → Type 0
MayFinish holds signed bare (Some s) = (signed.1 ≡ signed.0) ⊎ ((holds (public_key s.key) ≡ true) × SignsMore signed
    (behind_pair bare s ∷ []))
MayFinish holds signed bare None = signed.1 ≡ signed.0

-- a request that was made, with its key, as it may be kept
pub record IsComposed (says : Says) (held holds : Holds) (signed : Signed × Signed) (reference authority : List ℕ) (like : Key)
    (outer : Option Signer) (composed : Composed) : Type 0 where
  pub request : IsRequestFor says held holds signed reference authority like outer composed.bytes composed.key
  pub storable : IsStorableKey composed.key
  pub size : length composed.bytes ≤ longest_request

-- a request for a key like that of the authority in this row
abbrev pub ComposedBelow : Says → (held holds : Holds) → Signed × Signed → (reference : List ℕ) → Option Signer → Option Signer → Composed
    → Type 0
ComposedBelow says held holds signed reference outer above composed = IfSome above (λ s. IsComposed says held holds signed reference
    s.reference s.key outer composed)

abbrev pub MayBeginBelow : Says → (held holds : Holds) → Signed × Signed → (reference : List ℕ) → Option Signer → Option Signer → Type 0
MayBeginBelow says held holds signed reference outer above = IfSome above (λ s. MayBegin says held holds signed reference s.reference
    s.key outer)

-- what these rows make of a call: a refusal, or a request under the next reference
module _ (says : Says) (held holds : Holds) (signed : Signed × Signed) (holder authority root : List ℕ)
    (home : Option Signer) (own cas : List Row) where
  pub record IsChosen (reference : List ℕ) (composed : Composed) : Type 0 where
    pub due : request_refused own (authority_in authority root cas) ≡ None
    pub reference_is : reference ≡ reference_after holder own
    pub above : Signer
    pub above_is : authority_in authority root cas ≡ Some above
    pub composed_is : IsComposed says held holds signed reference above.reference above.key (outer_signer authority home own) composed

  abbrev pub Chooses : Choice → Type 0
  Chooses (choice.Refused answer) = (request_refused own (authority_in authority root cas) ≡ Some answer) × IsUntouched held holds signed
  Chooses (choice.Composed reference composed) = IsChosen reference composed

  -- it was broken off
  pub record IsBroken : Type 0 where
    pub due : request_refused own (authority_in authority root cas) ≡ None
    pub above : Signer
    pub above_is : authority_in authority root cas ≡ Some above
    pub begun : MayBegin says held holds signed (reference_after holder own) above.reference above.key (outer_signer authority home own)

-- no refusal is due by these rows, and the key of the row to sign the outer signature with isn't held
abbrev pub MissesChosen : Holds → (authority root : List ℕ) → Option Signer → (own cas : List Row) → List ℕ → Type 0
MissesChosen held authority root home own cas reference =
    (request_refused own (authority_in authority root cas) ≡ None) × (missing_of held (outer_signer authority home own) ≡ Some reference)

-- what an adding is answered: where the row is there or there is no room, no number is left
abbrev pub added_answer : (reference bytes : List ℕ) → Added → Made
added_answer reference bytes added.New = answers.Request reference bytes
added_answer reference bytes (added.There kept) = answers.Exhausted
added_answer reference bytes added.Full = answers.Exhausted

abbrev pub EnteredAs : (reference bytes : List ℕ) → Made → Type 0
EnteredAs reference bytes answer = (answer ≡ answers.Request reference bytes) ⊎ (answer ≡ answers.Exhausted)

-- the adding of a pending row
abbrev pub Enters : Row → List ℕ → List Row → List Row → Result Made HolderFault → Type 0
Enters row bytes before after (Ok (answers.Request r b)) = (r ≡ row.reference) × (b ≡ bytes) × (kept_row row before ≡ None) ×
    (after ≡ before ++ row ∷ [])
Enters row bytes before after (Ok answers.Exhausted) =
    ((is_some (kept_row row before) ≡ true) ⊎ ((kept_row row before ≡ None) × (most_rows ≤ length (rows_beside row before)))) ×
    (after ≡ before)
Enters row bytes before after (Ok answers.NoAuthority) = ⊥
Enters row bytes before after (Err fault.KeeperFault) = (after ≡ before) ⊎ ((kept_row row before ≡ None) × (after ≡ before ++ row ∷ []))
Enters row bytes before after (Err fault.NoMemory) = after ≡ before
Enters row bytes before after (Err fault.ProviderFault) = ⊥
Enters row bytes before after (Err (fault.NoKey r)) = ⊥
