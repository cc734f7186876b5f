-- The making of a request: what may be written, what is signed, and what the whole is.
use Rattle.std.proofs.Common.{◌≡◌, ◌⊎◌, inl, inr, ℕ, ◌+◌, ◌≤◌, Bool, true, false, cond, List, [], ◌∷◌, ◌++◌, length, leb, Option, Some, None, refl, sym, ap, ◌∙◌, subst, arith}
use Rattle.std.specs.Prelude.{Ok, IfSome, IsSome, IsTrue, is_some, not, nat_le, ◌&&◌, ◌||◌}
use Rattle.std.proofs.lemmas.List.{length-append}
use Rattle.std.proofs.lemmas.Bool.{leb-true, false≢true}
use Rattle.eac_base.specs.Bytes.{is_empty}
use Rattle.cvc_grammar.specs.Object.{object}
use Rattle.holder_reference.specs.Reference.{is_reference}
use Rattle.signature_provider.specs.Provider.{Says, Holds, Signed, SaysMore, HoldsMore, MakesKey, public_key}
use Rattle.signature_provider.specs.declared.key.Key.{Key}
use Rattle.signature_provider.specs.declared.key.KeyForm.{KeyForm}
use Rattle.signature_provider.specs.Key.{is_key, key_fits, key_object, is_elliptic, has_domain, is_domain, is_cofactor, is_algorithm, is_form}
use Rattle.cvc_grammar.specs.declared.request.Request.{Request}
use Rattle.cvc_grammar.specs.declared.request.Outer.{Outer}
use Rattle.cvc_grammar.specs.declared.request.RequestBody.{RequestBody}
use Rattle.cvc_grammar.specs.Certificate.{profile_object, signature_object, is_signature, extensions_text}
use Rattle.cvc_grammar.specs.Request.{authority_text, request_body_content, request_body_text, bare_text, outer_signed, with_outer, request_text, is_request_key, longest_request, HasLegalReferences, HasLegalParts, IsLegalRequestBody, IsLegalRequest, IsRequest}
use Rattle.cvc_grammar.proofs.RequestAgain.{read_after_write}
use Rattle.keeper.specs.declared.rows.Row.{Row}
use Rattle.keeper.specs.declared.rows.OwnPart.{OwnPart}
use Rattle.keeper.specs.declared.rows.Settled.{Settled}
use Rattle.keeper.specs.declared.rows.Part.TheVariants as part
use Rattle.keeper.specs.Rows.{IsStorableKey}
use Rattle.holder_core.specs.Readings.{request_of, inner_message, outer_message}
use Rattle.holder_core.specs.OwnRows.{own_part}
use Rattle.holder_core.specs.Signers.{Signer, own_signer, own_as, settled_as, form_of, has_legal_form, missing_of}
use Rattle.holder_core.specs.Bodies.{IsNoBody}
use Rattle.holder_core.specs.Signing.{Pair, SignsMore, IsSignature}
use Rattle.holder_core.specs.Requesting.{IsComposable, IsBareText, IsInner, IsSignedBody, MaySignBody, bare_body, inner_pair, outer_pair, behind_pair, request_pairs, IsBare, IsBareBegun, MayBeginBare, IsOuter, Finishes, MayFinish, OuterBy, IsRequestFor, IsBegun, MayBegin, IsComposed}
use Rattle.holder_core.specs.declared.composing.Composed.{Composed}
use Rattle.holder_core.proofs.Bodies.{request_is_no_body, outer_is_no_body}
use Rattle.holder_core.proofs.Signings.{unheld_before, more_then, same_then, then_same}
use Rattle.holder_core.proofs.Sizes.{both, join, at_most, key_storable, reference_short}

-- ---- a new key

domain_there : (d : List ℕ) → is_domain d ≡ true → not (is_empty d) ≡ true
domain_there [] e = e
domain_there (x ∷ d) e = refl

fits_request : (e : Bool) (d c : List ℕ) → cond e (is_domain d && is_cofactor c) (is_empty d && is_empty c) ≡ true → not e || not (is_empty d) ≡ true
fits_request true d c h = domain_there d (both (is_domain d) (is_cofactor c) h).0
fits_request false d c h = refl

pub request_key : (held holds : Holds) (like key : Key) → MakesKey held holds (form_of like) key → has_legal_form like ≡ true → is_request_key key ≡ true
request_key held holds like key m form =
    let legal = both (is_algorithm like.algorithm && nat_le (length like.domain + length like.cofactor) 640) _ form in
    let fits = fits_request (is_elliptic like.algorithm) like.domain like.cofactor legal.1 in
    join (is_key key && key_fits key) _ m.legal ((λ i. not (is_elliptic (m.algorithm i)) || not (is_empty (m.domain i))) ∙ fits)

-- ---- the body

profile_size : length profile_object ≡ 4
profile_size = refl

body_size : (b : RequestBody) → IsComposable b → length (request_body_text b) ≤ 1100
body_size b is =
    let fits : length (key_object b.key) ≤ 1024 = leb-true (length (key_object b.key)) 1024 (both (is_key b.key) (key_fits b.key) (both (is_key b.key && key_fits b.key) _ is.key).0).1 in
    omega (
      arith,
      at_most 0x7f4e (request_body_content b),
      length-append (profile_object ++ authority_text b.authority ++ key_object b.key ++ object 0x5f20 b.holder) (extensions_text b.extensions),
      length-append (profile_object ++ authority_text b.authority ++ key_object b.key) (object 0x5f20 b.holder),
      length-append (profile_object ++ authority_text b.authority) (key_object b.key),
      length-append profile_object (authority_text b.authority),
      profile_size,
      authority_size b.authority is.authority,
      at_most 0x5f20 b.holder,
      reference_short b.holder is.holder,
      ap (λ e. length (extensions_text e)) is.bare,
      fits,
    )
  where
    authority_size : (a : Option (List ℕ)) → IfSome a (λ r. IsTrue (is_reference r)) → length (authority_text a) ≤ 21
    authority_size None h = omega arith
    authority_size (Some r) h = omega (arith, at_most 0x42 r, reference_short r h)

pub body_legal : (b : RequestBody) → IsComposable b → IsLegalRequestBody b
body_legal b is = record { key = is.key; size = omega (arith, body_size b is) }

signature_short : (s : List ℕ) → IsTrue (is_signature s) → length s ≤ 512
signature_short s h = leb-true (length s) 512 (both (leb 1 (length s)) (leb (length s) 512) h).1

-- a bare request of this body
pub bare_size : (b : RequestBody) (text inner : List ℕ) → IsComposable b → text ≡ request_body_text b → IsTrue (is_signature inner) → length (object 0x7f21 (text ++ signature_object inner)) ≤ 1700
bare_size b text inner is t size =
    omega (
      arith,
      body_size b is,
      ap length t,
      at_most 0x7f21 (text ++ signature_object inner),
      length-append text (signature_object inner),
      at_most 0x5f37 inner,
      signature_short inner size,
    )

pub bare_fits : (b : RequestBody) (text inner : List ℕ) → IsComposable b → text ≡ request_body_text b → IsTrue (is_signature inner) → length (object 0x7f21 (text ++ signature_object inner)) ≤ longest_request
bare_fits b text inner is t size = omega (arith, bare_size b text inner is t size)

abbrev pub request_with : RequestBody → List ℕ → Request
request_with b inner = record { body = b; inner = inner; outer = None }

inner_is : (r : Request) → request_body_text r.body ≡ inner_message r
unfolding inner_message
inner_is r = refl

pub inner_made : (says : Says) (x y : Signed) (b : RequestBody) (text inner : List ℕ) → text ≡ request_body_text b → says (public_key b.key) text inner ≡ true → SignsMore (x, y) ((public_key b.key, text) ∷ []) → IsInner says (x, y) b
inner_made says x y b text inner t good more = record {
  request = request_with b inner;
  body_is = refl;
  good = (λ i. says (public_key b.key) (sym (t ∙ inner_is (request_with b inner)) i) inner) ∙ good;
  more = subst (λ (m : List ℕ). SignsMore (x, y) ((public_key b.key, m) ∷ [])) (t ∙ inner_is (request_with b inner)) more;
}

pub signed_body : (says : Says) (x y : Signed) (b : RequestBody) (text inner bytes : List ℕ) → text ≡ request_body_text b → IsTrue (is_signature inner) → says (public_key b.key) text inner ≡ true → SignsMore (x, y) ((public_key b.key, text) ∷ []) → bytes ≡ object 0x7f21 (text ++ signature_object inner) → IsSignedBody says (x, y) b bytes
unfolding inner_made
signed_body says x y b text inner bytes t size good more e = record {
  inner_is = inner_made says x y b text inner t good more;
  text = e ∙ (λ i. object 0x7f21 (t i ++ signature_object inner));
  size = size;
}

-- what the inner signature is over is no certificate's body
pub inner_no_body : (b : RequestBody) (text : List ℕ) → IsComposable b → text ≡ request_body_text b → IsNoBody text
inner_no_body b text is t =
    subst (λ (x : List ℕ). IsNoBody x) (sym t)
    (request_is_no_body (request_with b []) (record { body = record { authority = is.authority; holder = is.holder }; outer = tt }) (body_legal b is))

-- ---- the outer signature

pub outer_no_body : (bare text reference : List ℕ) → IsBareText bare → text ≡ bare ++ object 0x42 reference → IsNoBody text
outer_no_body bare text reference is t = subst (λ (x : List ℕ). IsNoBody x) (sym (t ∙ (λ i. is.1 i ++ object 0x42 reference))) (outer_is_no_body is.0 reference)

pub outer_size : (bare text reference outer : List ℕ) → length bare ≤ 1700 → IsTrue (is_reference reference) → text ≡ bare ++ object 0x42 reference → IsTrue (is_signature outer) → length (object 0x67 (text ++ signature_object outer)) ≤ longest_request
outer_size bare text reference outer short legal t size =
    omega (
      arith,
      short,
      ap length t,
      length-append bare (object 0x42 reference),
      at_most 0x42 reference,
      reference_short reference legal,
      at_most 0x67 (text ++ signature_object outer),
      length-append text (signature_object outer),
      at_most 0x5f37 outer,
      signature_short outer size,
    )

outer_is : (r : Request) (reference : List ℕ) → bare_text r ++ object 0x42 reference ≡ outer_message r reference
unfolding outer_message
outer_is r reference = refl

inner_same : (r s : Request) → r.body ≡ s.body → inner_message r ≡ inner_message s
unfolding inner_message
inner_same r s e = λ i. request_body_text (e i)

-- the row that signs, which has its certificate
signer_of : (row : Row) (own : OwnPart) → row.part ≡ part.Own own → IsSome (own_signer row) → (s : Settled) × (own_signer row ≡ Some (record { reference = row.reference; key = own.key; settled = s }))
signer_of row own e some = by_settled own.settled refl
  where
    named : own_signer row ≡ settled_as row.reference own.key own.settled
    named = λ i. own_as row.reference (own_part (e i))

    by_settled : (o : Option Settled) → own.settled ≡ o → (s : Settled) × (own_signer row ≡ Some (record { reference = row.reference; key = own.key; settled = s }))
    by_settled (Some s) f = (s, named ∙ ap (λ (o : Option Settled). settled_as row.reference own.key o) f)
    by_settled None f = absurd (false≢true (sym (ap (λ (o : Option Signer). is_some o) (named ∙ ap (λ (o : Option Settled). settled_as row.reference own.key o) f)) ∙ some))

module _ (says : Says) (holds : Holds) (x y : Signed) (bare text : List ℕ) (row : Row) (own : OwnPart) (at : row.part ≡ part.Own own) (some : IsSome (own_signer row)) (t : text ≡ bare ++ object 0x42 row.reference) (outer : List ℕ) (is : IsSignature says holds (public_key own.key) text outer) (signs : SignsMore (x, y) ((public_key own.key, text) ∷ [])) where
  more_now : SignsMore (x, y) ((public_key own.key, bare ++ object 0x42 row.reference) ∷ [])
  more_now = subst (λ (m : List ℕ). SignsMore (x, y) ((public_key own.key, m) ∷ [])) t signs

  pub outer_finished : (bytes : List ℕ) → IsTrue (is_reference row.reference) → bytes ≡ object 0x67 (text ++ signature_object outer) → Finishes says holds (x, y) bare (own_signer row) bytes
  outer_finished bytes legal b =
      let s = signer_of row own at some in
      subst (λ (o : Option Signer). Finishes says holds (x, y) bare o bytes) (sym s.1) (record {
        signature = outer;
        reference = legal;
        size = is.size;
        good = (λ i. says (public_key own.key) (sym t i) outer) ∙ is.good;
        is_held = is.is_held;
        text = b ∙ (λ i. object 0x67 (t i ++ signature_object outer));
        more = more_now;
      })

  pub outer_broken : MayFinish holds (x, y) bare (own_signer row)
  outer_broken =
      let s = signer_of row own at some in
      subst (λ (o : Option Signer). MayFinish holds (x, y) bare o) (sym s.1) (inr (is.is_held, more_now))

-- ---- the whole

reads : (r : Request) (bytes : List ℕ) → IsRequest r bytes → request_of bytes ≡ Ok r
unfolding request_of
reads r bytes is = read_after_write r bytes is

inner_again : (key : Key) (r s : Request) → r.body ≡ s.body → inner_pair key r ≡ inner_pair key s
inner_again key r s e = λ i. (public_key key, inner_same r s e i)

outer_again : (bare : List ℕ) (r : Request) (s : Signer) → bare ≡ bare_text r → behind_pair bare s ≡ outer_pair s r
outer_again bare r s e = (λ i. (public_key s.key, e i ++ object 0x42 s.reference)) ∙ (λ i. (public_key s.key, outer_is r s.reference i))

-- ---- a new key, and what was signed with it

pub made_later : (held mid holds : Holds) (form : KeyForm) (key : Key) → MakesKey held mid form key → HoldsMore mid holds → MakesKey held holds form key
made_later held mid holds form key m more = record {
  algorithm = m.algorithm;
  domain = m.domain;
  cofactor = m.cofactor;
  legal = m.legal;
  now_held = more (public_key key) m.now_held;
  new_point = m.new_point;
}

module _ (says : Says) (held mid holds : Holds) (x y z : Signed) (reference authority : List ℕ) (like key : Key) (made : MakesKey held mid (form_of like) key) (still : y ≡ x) (more : HoldsMore mid holds) where
  pub bare_made : (bytes : List ℕ) → IsTrue (is_request_key key) → IsTrue (is_reference reference) → IsTrue (is_reference authority) → IsSignedBody says (y, z) (bare_body reference authority key) bytes → IsBare says held holds (x, z) reference authority like (record { bytes = bytes; key = key })
  bare_made bytes legal named above is = record {
    made = made_later held mid holds (form_of like) key made more;
    composable = record { key = legal; holder = named; authority = above; bare = refl };
    body = subst (λ (s : Signed). IsSignedBody says (s, z) (bare_body reference authority key) bytes) still is;
  }

  pub bare_begun : MaySignBody says (y, z) (bare_body reference authority key) → MayBeginBare says held holds (x, z) reference authority like
  bare_begun (inl same) = inl (same ∙ still)
  bare_begun (inr i) = inr (record { key = key; made = made_later held mid holds (form_of like) key made more; inner_is = subst (λ (s : Signed). IsInner says (s, z) (bare_body reference authority key)) still i })

pub bare_length : (says : Says) (held holds : Holds) (signed : Signed × Signed) (reference authority : List ℕ) (like : Key) (bare : Composed) → IsBare says held holds signed reference authority like bare → length bare.bytes ≤ 1700
bare_length says held holds signed reference authority like bare is =
    omega (arith, ap length is.body.text, bare_size is.body.inner_is.request.body (request_body_text is.body.inner_is.request.body) is.body.inner_is.request.inner (subst (λ (b : RequestBody). IsComposable b) (sym is.body.inner_is.body_is) is.composable) refl is.body.size)

module _ (says now : Says) (held mid holds : Holds) (x y z : Signed) (reference authority : List ℕ) (like : Key) (bare : Composed) (is : IsBare says held mid (x, y) reference authority like bare) (says_more : SaysMore says now) (holds_more : HoldsMore mid holds) where
  abbrev with_part : Option Outer → Request
  with_part outer = record { body = is.body.inner_is.request.body; inner = is.body.inner_is.request.inner; outer = outer }

  made_now : MakesKey held holds (form_of like) bare.key
  made_now = made_later held mid holds (form_of like) bare.key is.made holds_more

  body_is : is.body.inner_is.request.body ≡ bare_body reference authority bare.key
  body_is = is.body.inner_is.body_is

  good_now : (o : Option Outer) → now (public_key bare.key) (inner_message (with_part o)) is.body.inner_is.request.inner ≡ true
  good_now o =
      (λ i. now (public_key bare.key) (inner_same (with_part o) is.body.inner_is.request refl i) is.body.inner_is.request.inner)
      ∙ says_more (public_key bare.key) (inner_message is.body.inner_is.request) is.body.inner_is.request.inner is.body.inner_is.good

  pub bare_short : length bare.bytes ≤ 1700
  bare_short = bare_length says held mid (x, y) reference authority like bare is

  request_key_is : IsTrue (is_request_key is.body.inner_is.request.body.key)
  request_key_is = (λ i. is_request_key (body_is i).key) ∙ is.composable.key

  parts : (outer : Option Outer) → IfSome outer (λ o. IsTrue (is_reference o.reference)) → HasLegalParts (with_part outer)
  parts outer legal = record { body = subst (λ (b : RequestBody). HasLegalReferences b) (sym body_is) (record { authority = is.composable.authority; holder = is.composable.holder }); outer = legal }

  -- ---- what was signed

  inner_more : (o : Option Outer) → SignsMore (x, y) (inner_pair bare.key (with_part o) ∷ [])
  inner_more o = subst (λ (p : Pair). SignsMore (x, y) (p ∷ [])) (inner_again bare.key is.body.inner_is.request (with_part o) refl) is.body.inner_is.more

  both_more : (o : Option Outer) (s : Signer) → SignsMore (y, z) (behind_pair bare.bytes s ∷ []) → SignsMore (x, z) (inner_pair bare.key (with_part o) ∷ outer_pair s (with_part o) ∷ [])
  both_more o s more =
      more_then x y z (inner_pair bare.key (with_part o) ∷ []) (outer_pair s (with_part o) ∷ []) (inner_more o)
      (subst (λ (p : Pair). SignsMore (y, z) (p ∷ [])) (outer_again bare.bytes (with_part o) s is.body.text) more)

  -- ---- the whole

  -- without an outer part
  pub bare_is : z ≡ y → IsRequestFor now held holds (x, z) reference authority like None bare.bytes bare.key
  bare_is still =
      let text : bare.bytes ≡ request_text (with_part None) = is.body.text in
      record {
        request = with_part None;
        made = made_now;
        read = reads (with_part None) bare.bytes (record { parts = parts None tt; limits = record { key = request_key_is; inner = is.body.size; outer = tt; size = omega (arith, bare_short, ap length text) }; spelling = text });
        body = body_is;
        inner = good_now None;
        outer_is = tt;
        signs = refl;
        pairs = then_same x y z (inner_pair bare.key (with_part None) ∷ []) (inner_more None) still;
      }

  -- with one
  pub outer_made : (s : Signer) (bytes : List ℕ) → IsOuter now holds (y, z) bare.bytes s bytes → IsRequestFor now held holds (x, z) reference authority like (Some s) bytes bare.key
  outer_made s bytes o =
      let part : Outer = record { reference = s.reference; signature = o.signature } in
      let text : bytes ≡ request_text (with_part (Some part)) = o.text ∙ (λ i. object 0x67 (is.body.text i ++ object 0x42 s.reference ++ signature_object o.signature)) in
      let short : length (object 0x67 (bare.bytes ++ object 0x42 s.reference ++ signature_object o.signature)) ≤ longest_request = outer_size bare.bytes (bare.bytes ++ object 0x42 s.reference) s.reference o.signature bare_short o.reference refl o.size in
      record {
        request = with_part (Some part);
        made = made_now;
        read = reads (with_part (Some part)) bytes (record { parts = parts (Some part) o.reference; limits = record { key = request_key_is; inner = is.body.size; outer = o.size; size = omega (arith, short, ap length o.text, ap length text) }; spelling = text });
        body = body_is;
        inner = good_now (Some part);
        outer_is = (refl, (λ i. now (public_key s.key) (((sym (outer_is (with_part (Some part)) s.reference)) ∙ (λ j. sym is.body.text j ++ object 0x42 s.reference)) i) o.signature) ∙ o.good);
        signs = (λ i. cond (o.is_held i) None (Some s.reference));
        pairs = both_more (Some part) s o.more;
      }

  -- ---- a part of it

  pub finish_broken : (by : Option Signer) → MayFinish holds (y, z) bare.bytes by → MayBegin now held holds (x, z) reference authority like by
  finish_broken None still = inr (record { request = with_part None; key = bare.key; made = made_now; body = body_is; inner = good_now None; pairs = inl (then_same x y z (inner_pair bare.key (with_part None) ∷ []) (inner_more None) still) })
  finish_broken (Some s) (inl still) = inr (record { request = with_part None; key = bare.key; made = made_now; body = body_is; inner = good_now None; pairs = inl (then_same x y z (inner_pair bare.key (with_part None) ∷ []) (inner_more None) still) })
  finish_broken (Some s) (inr signs) = inr (record { request = with_part None; key = bare.key; made = made_now; body = body_is; inner = good_now None; pairs = inr ((λ i. cond (signs.0 i) None (Some s.reference)), both_more None s signs.1) })

pub bare_broken : (says : Says) (held holds : Holds) (signed : Signed × Signed) (reference authority : List ℕ) (like : Key) (by : Option Signer) → MayBeginBare says held holds signed reference authority like → MayBegin says held holds signed reference authority like by
bare_broken says held holds signed reference authority like by (inl still) = inl still
bare_broken says held holds signed reference authority like by (inr begun) = inr (record { request = begun.inner_is.request; key = begun.key; made = begun.made; body = begun.inner_is.body_is; inner = begun.inner_is.good; pairs = inl begun.inner_is.more })

-- ---- the key to sign with

pub missing_before : (held holds : Holds) (by : Option Signer) (r : List ℕ) → HoldsMore held holds → missing_of holds by ≡ Some r → missing_of held by ≡ Some r
missing_before held holds None r more e = e
missing_before held holds (Some s) r more e = by_key (holds (public_key s.key)) refl e
  where
    by_key : (b : Bool) → holds (public_key s.key) ≡ b → cond b None (Some s.reference) ≡ Some r → missing_of held (Some s) ≡ Some r
    by_key true h x = absurd (cc)
    by_key false h x = (λ i. cond (unheld_before held holds (public_key s.key) more h i) None (Some s.reference)) ∙ x

-- ---- what was finished

pub composed_is : (says now : Says) (held mid holds : Holds) (x y z : Signed) (reference authority : List ℕ) (like : Key) (bare : Composed) (by : Option Signer) (bytes : List ℕ) (is : IsBare says held mid (x, y) reference authority like bare) → SaysMore says now → HoldsMore mid holds → Finishes now holds (y, z) bare.bytes by bytes → IsComposed now held holds (x, z) reference authority like by (record { bytes = bytes; key = bare.key })
composed_is says now held mid holds x y z reference authority like bare None bytes is sm hm f = record {
  request = subst (λ (t : List ℕ). IsRequestFor now held holds (x, z) reference authority like None t bare.key) (sym f.0) (bare_is says now held mid holds x y z reference authority like bare is sm hm f.1);
  storable = key_storable bare.key (both (is_key bare.key && key_fits bare.key) _ is.composable.key).0;
  size = omega (arith, ap length f.0, bare_short says now held mid holds x y z reference authority like bare is sm hm);
}
composed_is says now held mid holds x y z reference authority like bare (Some s) bytes is sm hm f = record {
  request = outer_made says now held mid holds x y z reference authority like bare is sm hm s bytes f;
  storable = key_storable bare.key (both (is_key bare.key && key_fits bare.key) _ is.composable.key).0;
  size = omega (arith, ap length f.text, outer_size bare.bytes (bare.bytes ++ object 0x42 s.reference) s.reference f.signature (bare_short says now held mid holds x y z reference authority like bare is sm hm) f.reference refl f.size);
}
