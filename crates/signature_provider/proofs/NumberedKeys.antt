-- A key with the next number is a new one, and legal.
use Rattle.std.proofs.Common.{◌≡◌, ℕ, zero, suc, ◌+◌, ◌-◌, ◌^◌, ◌<◌, ◌≤◌, Bool, true, false, cond, List, [], ◌∷◌, ◌++◌, length, take, drop, get_or, ◌⊎◌, inl, inr, refl, sym, ap, ◌∙◌, subst, add-zero, arith}
use Rattle.std.specs.Prelude.{◌&&◌, ◌||◌, ◌==◌, nat_le}
use Rattle.std.specs.Int.{w64, to_be_bytes, from_be_bytes}
use Rattle.std.specs.Str.{bytes_eq}
use Rattle.std.proofs.lemmas.Bool.{le-leb, leb-true, eqb-true, eq-eqb}
use Rattle.std.proofs.lemmas.List.{length-append}
use Rattle.std.proofs.lemmas.Nat.{from_be_bytes-to_be_bytes_8}
use Rattle.eac_base.specs.Bytes.{is_empty}
use Rattle.eac_base.proofs.EqualBytes.{bytes_eq-true, bytes_eq-self}
use Rattle.tlv_core.specs.Object.{object, tag_bytes, length_bytes}
use Rattle.signature_provider.specs.declared.key.Algorithm.{Algorithm}
use Rattle.signature_provider.specs.declared.key.Key.{Key}
use Rattle.signature_provider.specs.declared.key.KeyForm.{KeyForm}
use Rattle.signature_provider.specs.Key.{is_key, key_fits, is_form, is_elliptic, is_algorithm, is_domain, is_cofactor, is_elliptic_key, is_rsa_key, algorithm_identifier}
use Rattle.signature_provider.specs.Provider.{PublicKey, public_key, same_key, MakesKey}
use Rattle.signature_provider.specs.Instruments.{numbered_point, AreNumbered, is_among}

pub and_both : (a b : Bool) → (a && b) ≡ true → (a ≡ true) × (b ≡ true)
and_both true b e = (refl, e)
and_both false b e = absurd cc

-- ---- the test on keys is equality

same_parts : (arc arc' last last' : ℕ) (domain domain' point point' : List ℕ) → ((arc == arc') && (last == last') && bytes_eq domain domain' && bytes_eq point point') ≡ true
    → (arc ≡ arc') × (last ≡ last') × (domain ≡ domain') × (point ≡ point')
same_parts arc arc' last last' domain domain' point point' e =
    let points = and_both ((arc == arc') && (last == last') && bytes_eq domain domain') (bytes_eq point point') e in
    let domains = and_both ((arc == arc') && (last == last')) (bytes_eq domain domain') points.0 in
    let both = and_both (arc == arc') (last == last') domains.0 in
    (eqb-true arc arc' both.0, eqb-true last last' both.1, bytes_eq-true domain domain' domains.1, bytes_eq-true point point' points.1)

pub same_key-true : (a b : PublicKey) → same_key a b ≡ true → a ≡ b
same_key-true a b e =
    let parts = same_parts a.algorithm.arc b.algorithm.arc a.algorithm.last b.algorithm.last a.domain b.domain a.point b.point e in
    λ i. record { algorithm = record { arc = parts.0 i; last = parts.1 i }; domain = parts.2 i; point = parts.3 i }

pub same_key-self : (a : PublicKey) → same_key a a ≡ true
same_key-self a = rw (eq-eqb a.algorithm.arc a.algorithm.arc refl, eq-eqb a.algorithm.last a.algorithm.last refl, bytes_eq-self a.domain, bytes_eq-self a.point) refl

-- ---- a point tells its number

pub number_told : (n m : ℕ) → n < 2 ^ 64 → m < 2 ^ 64 → to_be_bytes w64 n ≡ to_be_bytes w64 m → n ≡ m
number_told n m p q e = sym (from_be_bytes-to_be_bytes_8 n p) ∙ ap (from_be_bytes w64) e ∙ from_be_bytes-to_be_bytes_8 m q

abbrev spelt : Bool → ℕ → List ℕ
spelt b n = cond b (to_be_bytes w64 n) (0x81 ∷ 8 ∷ (to_be_bytes w64 n ++ 0x82 ∷ 1 ∷ 3 ∷ []))

spelt_told : (b d : Bool) (n m : ℕ) → n < 2 ^ 64 → m < 2 ^ 64 → spelt b n ≡ spelt d m → n ≡ m
spelt_told true true n m p q e = number_told n m p q e
spelt_told true false n m p q e = let sizes : ◌≡◌ {A = ℕ} 8 13 = ap length e in absurd cc
spelt_told false true n m p q e = let sizes : ◌≡◌ {A = ℕ} 13 8 = ap length e in absurd cc
spelt_told false false n m p q e = number_told n m p q (ap (λ (l : List ℕ). take 8 (drop 2 l)) e)

number_of_point : (a b : Algorithm) (n m : ℕ) → n < 2 ^ 64 → m < 2 ^ 64 → numbered_point a n ≡ numbered_point b m → n ≡ m
number_of_point a b n m p q e = spelt_told (is_elliptic a) (is_elliptic b) n m p q e

-- ---- the keys that were made, and the next one

pub numbered_more : (n : ℕ) (keys : List PublicKey) (key : PublicKey) → AreNumbered n keys → key.point ≡ numbered_point key.algorithm (n + length keys) → AreNumbered n (keys ++ key ∷ [])
numbered_more n [] key are e = (e ∙ ap (numbered_point key.algorithm) (add-zero n), tt)
numbered_more n (k ∷ keys) key are e =
    let place : n + length (k ∷ keys) ≡ (n + 1) + length keys = omega arith in
    (are.0, numbered_more (n + 1) keys key are.1 (e ∙ ap (numbered_point key.algorithm) place))

pub or_false : (a : Bool) → (a || false) ≡ a
or_false true = refl
or_false false = refl

or_cases : (a b : Bool) → (a || b) ≡ true → (a ≡ true → ⊥) → b ≡ true
or_cases true b e differs = absurd (differs refl)
or_cases false b e _ = e

-- no key that was made has a later number's point
pub later_point : (n : ℕ) (keys : List PublicKey) (a : Algorithm) (m : ℕ) → AreNumbered n keys → n + length keys ≤ m → m < 2 ^ 64
    → (other : PublicKey) → is_among keys other ≡ true → other.point ≡ numbered_point a m → ⊥
later_point n [] a m are later fits other among e = absurd (cc)
later_point n (k ∷ keys) a m are later fits other among e =
    let long : length (k ∷ keys) ≡ length keys + 1 = omega arith in
    let here : same_key k other ≡ true → ⊥ = λ same.
    let point : k.point ≡ other.point = ap (λ (key : PublicKey). key.point) (same_key-true k other same) in
    let number : n ≡ m = number_of_point k.algorithm a n m (omega arith) fits (sym are.0 ∙ point ∙ e) in
    omega arith
    in later_point (n + 1) keys a m are.1 (omega arith) fits other (or_cases (same_key k other) (is_among keys other) among here) e

pub among_last : (keys : List PublicKey) (key : PublicKey) → is_among (keys ++ key ∷ []) key ≡ true
among_last [] key = rw (same_key-self key) refl
among_last (k ∷ keys) key = elim (same_key k key) as (λ b. (b || is_among (keys ++ key ∷ []) key) ≡ true) [ true ↦ refl | false ↦ among_last keys key ]

-- ---- a key found by the number in its point

sizes : (b : Bool) (n : ℕ) (p : List ℕ) → p ≡ spelt b n → (length p ≡ 8) ⊎ (length p ≡ 13)
sizes true n p e = inl (ap length e)
sizes false n p e = inr (ap length e)

pub point_size : (a : Algorithm) (n : ℕ) (p : List ℕ) → p ≡ numbered_point a n → (length p ≡ 8) ⊎ (length p ≡ 13)
point_size a n p e = sizes (is_elliptic a) n p e

short : (b : Bool) (n : ℕ) (p : List ℕ) → p ≡ spelt b n → length p ≡ 8 → p ≡ to_be_bytes w64 n
short true n p e size = e
short false n p e size = let lengths : ◌≡◌ {A = ℕ} 13 8 = sym (ap length e) ∙ size in absurd cc

pub short_point : (a : Algorithm) (n : ℕ) (p : List ℕ) → p ≡ numbered_point a n → length p ≡ 8 → p ≡ to_be_bytes w64 n
short_point a n p e size = short (is_elliptic a) n p e size

long : (b : Bool) (n : ℕ) (p : List ℕ) → p ≡ spelt b n → length p ≡ 13 → take 8 (drop 2 p) ≡ to_be_bytes w64 n
long true n p e size = let lengths : ◌≡◌ {A = ℕ} 8 13 = sym (ap length e) ∙ size in absurd cc
long false n p e size = ap (λ (l : List ℕ). take 8 (drop 2 l)) e

pub long_point : (a : Algorithm) (n : ℕ) (p : List ℕ) → p ≡ numbered_point a n → length p ≡ 13 → take 8 (drop 2 p) ≡ to_be_bytes w64 n
long_point a n p e size = long (is_elliptic a) n p e size

not_true : (b : Bool) → (b ≡ true → ⊥) → b ≡ false
not_true true no_way = absurd (no_way refl)
not_true false no_way = refl

-- The numbers, from the first key's on, that this point may have by the keys' count.
abbrev pub HasNumber : ℕ → ℕ → List ℕ → ℕ → Type 0
HasNumber n count point number = (a : Algorithm) (k : ℕ) → n ≤ k → k < n + count → point ≡ numbered_point a k → k ≡ number

point_of_same : (n : ℕ) (made key : PublicKey) → made.point ≡ numbered_point made.algorithm n → same_key made key ≡ true → key.point ≡ numbered_point made.algorithm n
point_of_same n made key is same = sym (ap (λ (k : PublicKey). k.point) (same_key-true made key same)) ∙ is

pub none_among : (n : ℕ) (keys : List PublicKey) (key : PublicKey) (number : ℕ) → AreNumbered n keys → HasNumber n (length keys) key.point number
    → (number < n) ⊎ (n + length keys ≤ number) → is_among keys key ≡ false
none_among n [] key number are only outside = refl
none_among n (made ∷ keys) key number are only outside =
    let here : same_key made key ≡ false = not_true (same_key made key) (λ same.
    let at : n ≡ number = only made.algorithm n (omega arith) (omega arith) (point_of_same n made key are.0 same) in
    elim outside [ inl low ↦ omega (arith, low, at) | inr high ↦ omega (arith, high, at) ]) in
    let further : (number < n + 1) ⊎ (n + 1 + length keys ≤ number) = elim outside [ inl low ↦ inl (omega (arith, low)) | inr high ↦ inr (omega (arith, high)) ] in
    rw (here, none_among (n + 1) keys key number are.1 (λ a k low high. only a k (omega arith) (omega arith)) further) refl

pub one_among : (n : ℕ) (keys : List PublicKey) (key : PublicKey) (i : ℕ) (d : PublicKey) → i < length keys → AreNumbered n keys → HasNumber n (length keys) key.point (n + i)
    → is_among keys key ≡ same_key (get_or keys i d) key
one_among n [] key i d within are only = absurd (omega arith)
one_among n (made ∷ keys) key zero d within are only =
    let later : is_among keys key ≡ false = none_among (n + 1) keys key (n + 0) are.1 (λ a k low high. only a k (omega arith) (omega arith)) (inl (omega arith)) in
    rw later (or_false (same_key made key))
one_among n (made ∷ keys) key (suc i) d within are only =
    let here : same_key made key ≡ false = not_true (same_key made key) (λ same.
    let at : n ≡ n + suc i = only made.algorithm n (omega arith) (omega arith) (point_of_same n made key are.0 same) in omega (arith, at)) in
    let place : n + suc i ≡ (n + 1) + i = omega arith in
    rw here (one_among (n + 1) keys key i d (omega arith) are.1 (λ a k low high e. only a k (omega arith) (omega arith) e ∙ place))

-- The point tells no number but this one.
abbrev pub TellsNumber : List ℕ → ℕ → Type 0
TellsNumber point number = (a : Algorithm) (k : ℕ) → k < 2 ^ 64 → point ≡ numbered_point a k → number ≡ k

has_number : (count : ℕ) (point : List ℕ) (number : ℕ) → count + 1 ≤ 2 ^ 64 → TellsNumber point number → HasNumber 1 count point number
has_number count point number fits tells a k low high e = sym (tells a k (omega arith) e)

pub not_among : (keys : List PublicKey) (key : PublicKey) (number : ℕ) → AreNumbered 1 keys → length keys + 1 ≤ 2 ^ 64 → TellsNumber key.point number
    → (number ≡ 0) ⊎ (length keys < number) → false ≡ is_among keys key
not_among keys key number are fits tells outside =
    let away : (number < 1) ⊎ (1 + length keys ≤ number) = elim outside [ inl is_zero ↦ inl (omega (arith, is_zero)) | inr beyond ↦ inr (omega (arith, beyond)) ] in
    sym (none_among 1 keys key number are (has_number (length keys) key.point number fits tells) away)

pub is_at : (keys : List PublicKey) (key : PublicKey) (number : ℕ) (made : PublicKey) (answer : Bool) → AreNumbered 1 keys → length keys + 1 ≤ 2 ^ 64 → TellsNumber key.point number
    → (number ≡ 0 → ⊥) → number ≤ length keys → made ≡ get_or keys (number - 1) made → answer ≡ same_key made key → answer ≡ is_among keys key
is_at keys key number made answer are fits tells some within found asked =
    let place : number ≡ 1 + (number - 1) = omega arith in
    let numbers : HasNumber 1 (length keys) key.point (1 + (number - 1)) = subst (HasNumber 1 (length keys) key.point) place (has_number (length keys) key.point number fits tells) in
    asked ∙ ap (λ (k : PublicKey). same_key k key) found ∙ sym (one_among 1 keys key (number - 1) made (omega arith) are numbers)

-- ---- it is legal

number_length : (n : ℕ) → length (length_bytes n) ≤ 3
number_length n = grind arith

tag_length : (t : ℕ) → length (tag_bytes t) ≤ 2
tag_length t = grind arith

object_size : (t : ℕ) (content : List ℕ) → length (object t content) ≤ length content + 5
object_size t content = omega (arith, tag_length t, number_length (length content), length-append (tag_bytes t ++ length_bytes (length content)) content, length-append (tag_bytes t) (length_bytes (length content)))

elliptic_fits : (a : Algorithm) (d c : List ℕ) (n : ℕ) → length d + length c ≤ 640
    → nat_le (length (object 0x7f49 (object 0x06 (algorithm_identifier a) ++ (d ++ object 0x86 (to_be_bytes w64 n) ++ c)))) 1024 ≡ true
elliptic_fits a d c n small =
    let point = object 0x86 (to_be_bytes w64 n) in
    let content = object 0x06 (algorithm_identifier a) ++ (d ++ point ++ c) in
    let values : length (d ++ point ++ c) ≡ length d + 10 + length c = length-append (d ++ point) c ∙ ap (λ (k : ℕ). k + length c) (length-append d point) in
    let size : length content ≡ 12 + length (d ++ point ++ c) = length-append (object 0x06 (algorithm_identifier a)) (d ++ point ++ c) in
    le-leb _ _ (omega (arith, object_size 0x7f49 content, size, values))

-- the key of this form and number
pub key_like : KeyForm → ℕ → Key
key_like f n = record { algorithm = f.algorithm; domain = f.domain; point = numbered_point f.algorithm n; cofactor = f.cofactor }

legal_parts : (b : Bool) (a : Algorithm) (d c : List ℕ) (n : ℕ) → is_elliptic a ≡ b → is_algorithm a ≡ true → nat_le (length d + length c) 640 ≡ true
    → cond b (is_domain d && is_cofactor c) (is_empty d && is_empty c) ≡ true
    → ((is_algorithm a && cond b (is_elliptic_key d (spelt b n) c) (is_rsa_key d (spelt b n) c)) && nat_le (length (object 0x7f49 (object 0x06 (algorithm_identifier a) ++ cond b (d ++ object 0x86 (spelt b n) ++ c) (spelt b n)))) 1024) ≡ true
legal_parts true a d c n kind known small form = rw (known, form, elliptic_fits a d c n (leb-true _ _ small)) refl
legal_parts false a d c n kind known small form = rw (known, form) refl

form_parts : (f : KeyForm) → is_form f ≡ true → (is_algorithm f.algorithm ≡ true) × (nat_le (length f.domain + length f.cofactor) 640 ≡ true)
    × (cond (is_elliptic f.algorithm) (is_domain f.domain && is_cofactor f.cofactor) (is_empty f.domain && is_empty f.cofactor) ≡ true)
form_parts f legal =
    let parts = and_both (is_algorithm f.algorithm && nat_le (length f.domain + length f.cofactor) 640) (cond (is_elliptic f.algorithm) (is_domain f.domain && is_cofactor f.cofactor) (is_empty f.domain && is_empty f.cofactor)) legal in
    let first = and_both (is_algorithm f.algorithm) (nat_le (length f.domain + length f.cofactor) 640) parts.0 in
    (first.0, first.1, parts.1)

like_legal : (f : KeyForm) (n : ℕ) → is_form f ≡ true → (is_key (key_like f n) && key_fits (key_like f n)) ≡ true
unfolding key_like
like_legal f n legal =
    let parts = form_parts f legal in
    legal_parts (is_elliptic f.algorithm) f.algorithm f.domain f.cofactor n refl parts.0 parts.1 parts.2

-- a key with the next number
pub makes_next : (keys keys' : List PublicKey) (f : KeyForm) (key : Key) → AreNumbered 1 keys → is_form f ≡ true → length keys + 1 < 2 ^ 64
    → key.algorithm ≡ f.algorithm → key.domain ≡ f.domain → key.cofactor ≡ f.cofactor → key.point ≡ numbered_point f.algorithm (length keys + 1)
    → keys' ≡ keys ++ public_key key ∷ [] → MakesKey (is_among keys) (is_among keys') f key
unfolding key_like
makes_next keys keys' f key are legal fits algorithm domain cofactor point added =
    let is_like : key_like f (length keys + 1) ≡ key = λ i. record { algorithm = sym algorithm i; domain = sym domain i; point = sym point i; cofactor = sym cofactor i } in
    record {
      algorithm = algorithm;
      domain = domain;
      cofactor = cofactor;
      legal = subst (λ (k : Key). (is_key k && key_fits k) ≡ true) is_like (like_legal f (length keys + 1) legal);
      now_held = subst (λ (l : List PublicKey). is_among l (public_key key) ≡ true) (sym added) (among_last keys (public_key key));
      new_point = λ other held same. later_point 1 keys f.algorithm (length keys + 1) are (omega arith) fits other held (same ∙ point);
    }

pub numbered_next : (keys keys' : List PublicKey) (key : PublicKey) (a : Algorithm) → AreNumbered 1 keys → key.algorithm ≡ a → key.point ≡ numbered_point a (length keys + 1)
    → keys' ≡ keys ++ key ∷ [] → AreNumbered 1 keys'
numbered_next keys keys' key a are algorithm point added =
    let number : length keys + 1 ≡ 1 + length keys = omega arith in
    let spelt_as : key.point ≡ numbered_point key.algorithm (1 + length keys) = point ∙ ap (λ (b : Algorithm). numbered_point b (length keys + 1)) (sym algorithm) ∙ ap (numbered_point key.algorithm) number in
    subst (AreNumbered 1) (sym added) (numbered_more 1 keys key are spelt_as)
