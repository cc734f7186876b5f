-- Items of an array that are texts, and the bytes of which they are the base64, one after another.
use Rattle.std.proofs.Common.{◌≡◌, ℕ, List, [], ◌∷◌, ◌++◌, map, Option, Some, None, is_some, true, false, ◌&&◌, Ok, Err, refl, ap, sym, ◌∙◌, ◌+◌, ◌<◌, ◌≤◌, IfOk, subst, length, drop, take, get_or, append_assoc, drop-cons, add-one}
use Rattle.std.proofs.lemmas.List.{map_push, take_more, take_all}
use Rattle.std.specs.List.{slice_get}
use Rattle.std.proofs.lemmas.Option.{slice_get_within, get_or_from_slice_get}
use Rattle.std.specs.Prelude.{codes}
use Rattle.eac_base.specs.Bytes.{AreBytes}
use Rattle.eac_base.specs.Answers.{◌>>=◌, some_or, ◌gives◌}
use Rattle.serde_json.specs.Data.{Data, null, boolean, number, string, object, Items, no_items, item, array}
use Rattle.serde_json.specs.Find.{as_str, as_array, get}
use Rattle.serde_json.specs.View.{view, items_of, items_view}
use Rattle.serde_json.specs.declared.value.Value.{Value}
use Rattle.eac_messages.specs.declared.refusal.Member.TheVariants as names
use Rattle.eac_messages.specs.declared.refusal.MessageRefusal.TheVariants as refusals
use Rattle.eac_messages.specs.Body.{Step, texts_of, required, as_texts}
use Rattle.eac_messages.specs.Base64.{base64_text, base64_texts, AreAllBytes, HasCertificates, bytes_of, all_bytes_of, certificates_in}
use Rattle.eac_messages.specs.Steps.{item_bytes, items_bytes, IsSpelled, AreSpelled}

pub values_of_lists : (lists : List (List ℕ)) → items_of (map base64_text lists) ≡ base64_texts lists
values_of_lists [] = refl
values_of_lists (bytes ∷ lists) = ap (item (base64_text bytes)) (values_of_lists lists)

-- ---- which items are texts

both_there : (o : Option (List ℕ)) (r : Option (List (List ℕ))) → is_some (o gives λ t. r gives λ ts. Some (t ∷ ts)) ≡ is_some o && is_some r
both_there None r = refl
both_there (Some t) None = refl
both_there (Some t) (Some ts) = refl

pub texts_more : (v : Value) (vs : List Value) → is_some (texts_of (items_view (v ∷ vs))) ≡ is_some (as_str (view v)) && is_some (texts_of (items_view vs))
texts_more v vs = both_there (as_str (view v)) (texts_of (items_view vs))

-- ---- their bytes

-- What comes after lists that are there.
abbrev pub after : List (List ℕ) → Step (List (List ℕ)) → Step (List (List ℕ))
after done r = r >>= λ rest. Ok (done ++ rest)

after_one : (done : List (List ℕ)) (bytes : List ℕ) (r : Step (List (List ℕ))) → after done (r >>= λ lists. Ok (bytes ∷ lists)) ≡ after (done ++ bytes ∷ []) r
after_one done bytes (Err e) = refl
after_one done bytes (Ok lists) = ap Ok (sym (append_assoc done (bytes ∷ []) lists))

after_item : (done : List (List ℕ)) (bytes : List ℕ) (o : Step (List ℕ)) (r : Step (List (List ℕ))) → o ≡ Ok bytes
    → after done (o >>= λ b. r >>= λ lists. Ok (b ∷ lists)) ≡ after (done ++ bytes ∷ []) r
after_item done bytes o r is = rw is (after_one done bytes r)

pub bytes_more : (done : List (List ℕ)) (bytes : List ℕ) (v : Value) (vs : List Value) → item_bytes (view v) ≡ Ok bytes
    → after done (items_bytes (items_view (v ∷ vs))) ≡ after (done ++ bytes ∷ []) (items_bytes (items_view vs))
bytes_more done bytes v vs is = after_item done bytes (item_bytes (view v)) (items_bytes (items_view vs)) is

pub bytes_refused : (done : List (List ℕ)) (v : Value) (vs : List Value) (e : refusals.the_data) → item_bytes (view v) ≡ Err e
    → after done (items_bytes (items_view (v ∷ vs))) ≡ Err e
bytes_refused done v vs e is = rw is refl

pub item_judged : (d : Data) (text bytes : List ℕ) → Some text ≡ as_str d → bytes_of names.Certificates text ≡ Ok bytes → item_bytes d ≡ Ok bytes
item_judged d text bytes there ok = rw (← there, ok) refl

-- One more item of the array is judged.
pub bytes_kept : (done new : List (List ℕ)) (bytes : List ℕ) (xs : List Value) (at : ℕ) (v : Value) (whole : Step (List (List ℕ))) → at < length xs → v ≡ get_or xs at v
    → item_bytes (view v) ≡ Ok bytes → new ≡ done ++ bytes ∷ [] → whole ≡ after done (items_bytes (items_view (drop at xs)))
    → whole ≡ after new (items_bytes (items_view (drop (at + 1) xs)))
bytes_kept done new bytes xs at v whole within here ok pushed so_far =
    let left : drop at xs ≡ v ∷ drop (at + 1) xs = drop-cons xs at v within ∙ ap (λ n. get_or xs at v ∷ drop n xs) (sym (add-one at)) ∙ ap (λ x. x ∷ drop (at + 1) xs) (sym here) in
    so_far ∙ ap (λ ys. after done (items_bytes (items_view ys))) left ∙ bytes_more done bytes v (drop (at + 1) xs) ok ∙ ap (λ lists. after lists (items_bytes (items_view (drop (at + 1) xs)))) (sym pushed)

-- ---- which texts they are

text_of : (d : Data) (text : List ℕ) → Some text ≡ as_str d → d ≡ string text
text_of null text there = absurd (cc)
text_of (boolean b) text there = absurd (cc)
text_of (number n) text there = absurd (cc)
text_of (string s) text there = let same : text ≡ s = cc in ap string (sym same)
text_of (array ds) text there = absurd (cc)
text_of (object ms) text there = absurd (cc)

bytes_pushed : (lists : List (List ℕ)) (bytes : List ℕ) → AreAllBytes lists → AreBytes bytes → AreAllBytes (lists ++ bytes ∷ [])
bytes_pushed [] bytes are is = (is, tt)
bytes_pushed (first ∷ lists) bytes are is = (are.0, bytes_pushed lists bytes are.1 is)

-- The first so many values are the texts of the lists.
pub record AreTexts (values : List Value) (lists : List (List ℕ)) : Type 0 where
  pub texts_are : map view values ≡ map base64_text lists
  pub bytes_are : AreAllBytes lists

pub texts_kept : (done new : List (List ℕ)) (text bytes : List ℕ) (xs : List Value) (at : ℕ) (v : Value) → at < length xs → v ≡ get_or xs at v → Some text ≡ as_str (view v)
    → IsSpelled text bytes → new ≡ done ++ bytes ∷ [] → AreTexts (take at xs) done → AreTexts (take (at + 1) xs) new
texts_kept done new text bytes xs at v within here there spelled pushed so_far =
    let more : take (at + 1) xs ≡ take at xs ++ v ∷ [] = take_more xs at v within ∙ ap (λ x. take at xs ++ x ∷ []) (sym here) in
    let this : view v ≡ base64_text bytes = text_of (view v) text there ∙ ap string spelled.text_is in
    let grown : map view (take (at + 1) xs) ≡ map base64_text new = ap (map view) more ∙ map_push view (take at xs) v ∙ ap (λ ds. ds ++ view v ∷ []) so_far.texts_are
    ∙ ap (λ d. map base64_text done ++ d ∷ []) this ∙ sym (ap (map base64_text) pushed ∙ map_push base64_text done bytes) in
    record { texts_are = grown; bytes_are = subst AreAllBytes (sym pushed) (bytes_pushed done bytes so_far.bytes_are spelled.bytes_are) }

pub all_spelled : (xs : List Value) (lists : List (List ℕ)) (at : ℕ) → length xs ≤ at → AreTexts (take at xs) lists → AreSpelled (items_view xs) lists
all_spelled xs lists at past are =
    let whole : take at xs ≡ xs = take_all at xs past in
    record { items_are = ap items_of (sym (ap (map view) whole) ∙ are.texts_are) ∙ values_of_lists lists; bytes_are = are.bytes_are }

-- Where all of them are texts, judging them one after another is judging the texts.
texts_judged : (d : Data) (ds : Items) (texts : List (List ℕ)) (o : Option (List ℕ)) (r : Option (List (List ℕ))) → as_str d ≡ o → texts_of ds ≡ r
    → ((ts : List (List ℕ)) → texts_of ds ≡ Some ts → items_bytes ds ≡ all_bytes_of names.Certificates ts)
    → (o gives λ t. r gives λ ts. Some (t ∷ ts)) ≡ Some texts → items_bytes (item d ds) ≡ all_bytes_of names.Certificates texts
texts_judged d ds texts None r first others more is = absurd (cc)
texts_judged d ds texts (Some t) None first others more is = absurd (cc)
texts_judged d ds texts (Some t) (Some ts) first others more is =
    let all : t ∷ ts ≡ texts = cc in
    rw (← all, first, more ts others) refl

pub bytes_of_texts : (ds : Items) (texts : List (List ℕ)) → texts_of ds ≡ Some texts → items_bytes ds ≡ all_bytes_of names.Certificates texts
bytes_of_texts no_items texts is = let none : [] ≡ texts = cc in rw (← none) refl
bytes_of_texts (item d ds) texts is = texts_judged d ds texts (as_str d) (texts_of ds) refl refl (bytes_of_texts ds) is

-- ---- the whole member

some_array : (r : Option Items) (e : refusals.the_data) (ds : Items) → some_or r e ≡ Ok ds → (r gives texts_of) ≡ texts_of ds
some_array None e ds is = absurd (cc)
some_array (Some found) e ds is = let same : found ≡ ds = cc in rw same refl

array_there : (o : Option Data) (e : refusals.the_data) (ds : Items) → some_or (o gives as_array) e ≡ Ok ds → (o gives as_texts) ≡ texts_of ds
array_there None e ds is = absurd (cc)
array_there (Some d) e ds is = some_array (as_array d) e ds is

texts_there : (ds : Items) (r : Option (List (List ℕ))) → texts_of ds ≡ r → is_some r ≡ true
    → (some_or r (refusals.Member names.Certificates) >>= all_bytes_of names.Certificates) ≡ items_bytes ds
texts_there ds None is some = absurd (cc)
texts_there ds (Some texts) is some = sym (bytes_of_texts ds texts is)

no_texts : (r : Option (List (List ℕ))) → is_some r ≡ false
    → (some_or r (refusals.Member names.Certificates) >>= all_bytes_of names.Certificates) ≡ Err (refusals.Member names.Certificates)
no_texts None none = refl
no_texts (Some texts) none = absurd (cc)

pub items_judged : (d : Data) (ds : Items) → required (codes "certificates") as_array names.Certificates d ≡ Ok ds → is_some (texts_of ds) ≡ true → certificates_in d ≡ items_bytes ds
items_judged d ds there some = rw (array_there (get (codes "certificates") d) (refusals.Member names.Certificates) ds there) (texts_there ds (texts_of ds) refl some)

pub items_refused : (d : Data) (ds : Items) → required (codes "certificates") as_array names.Certificates d ≡ Ok ds → is_some (texts_of ds) ≡ false
    → certificates_in d ≡ Err (refusals.Member names.Certificates)
items_refused d ds there none = rw (array_there (get (codes "certificates") d) (refusals.Member names.Certificates) ds there) (no_texts (texts_of ds) none)

array_found : (o : Option Data) (e : refusals.the_data) (ds : Items) → some_or (o gives as_array) e ≡ Ok ds → o ≡ Some (array ds)
array_found None e ds is = absurd (cc)
array_found (Some null) e ds is = absurd (cc)
array_found (Some (boolean b)) e ds is = absurd (cc)
array_found (Some (number n)) e ds is = absurd (cc)
array_found (Some (string s)) e ds is = absurd (cc)
array_found (Some (array found)) e ds is = let same : found ≡ ds = cc in ap (λ x. Some (array x)) same
array_found (Some (object ms)) e ds is = absurd (cc)

pub certificates_spelled : (d : Data) (ds : Items) (r : Step (List (List ℕ))) → required (codes "certificates") as_array names.Certificates d ≡ Ok ds → IfOk r (AreSpelled ds)
    → IfOk r (λ lists. HasCertificates lists d)
certificates_spelled d ds (Err e) there spelled = tt
certificates_spelled d ds (Ok lists) there spelled =
    (array_found (get (codes "certificates") d) (refusals.Member names.Certificates) ds there ∙ ap (λ x. Some (array x)) spelled.items_are, spelled.bytes_are)

-- ---- the texts of lists

-- One more text is written.
pub values_kept : (values new : List Value) (v : Value) (lists : List (List ℕ)) (at : ℕ) (bytes : List ℕ) → Some bytes ≡ slice_get lists at → view v ≡ base64_text bytes → new ≡ values ++ v ∷ []
    → map view values ≡ map base64_text (take at lists) → map view new ≡ map base64_text (take (at + 1) lists)
values_kept values new v lists at bytes there is pushed so_far =
    let within = slice_get_within lists at bytes (sym there) in
    let here = get_or_from_slice_get lists at bytes [] (sym there) in
    ap (map view) pushed ∙ map_push view values v ∙ ap (λ ds. ds ++ view v ∷ []) so_far ∙ ap (λ d. map base64_text (take at lists) ++ d ∷ []) (is ∙ ap base64_text (sym here))
    ∙ sym (ap (map base64_text) (take_more lists at [] within) ∙ map_push base64_text (take at lists) (get_or lists at []))
