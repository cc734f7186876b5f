-- What a table says: of its rows, of a row more, and of one row alone.
use Rattle.std.proofs.Common.{◌≡◌, ℕ, zero, suc, ◌+◌, ◌-◌, ◌^◌, ◌<◌, ◌≤◌, Bool, true, false, List, [], ◌∷◌, ◌++◌, length, take, drop, get_or, refl, sym, ap, ◌∙◌, subst, add-zero, true≢false, arith, inl, inr, ◌⊎◌, Some}
use Rattle.std.specs.Prelude.{◌&&◌, ◌||◌, Contains, nat_eq}
use Rattle.std.specs.Int.{w64, to_be_bytes}
use Rattle.std.specs.Str.{bytes_eq}
use Rattle.std.proofs.lemmas.Slice.Eq.{bytes_eq-Decides}
use Rattle.eac_base.proofs.EqualBytes.{bytes_eq-true, bytes_eq-self}
use Rattle.signature_provider.specs.Provider.{PublicKey, same_key, IsHonest, SaysMore, Signs}
use Rattle.signature_provider.specs.Instruments.{table_signature, is_row_of, rows_say, table_says}
use Rattle.signature_provider.proofs.NumberedKeys.{and_both, or_false, same_key-true, same_key-self, number_told}

-- ---- the number in a signature

pub signature_size : (n : ℕ) → length (table_signature n) ≡ 64
unfolding table_signature
signature_size n = refl

pub digits_told : (s : List ℕ) (n : ℕ) → s ≡ table_signature n → drop 56 s ≡ to_be_bytes w64 n
unfolding table_signature
digits_told s n e = ap (λ (l : List ℕ). drop 56 l) e

pub signature_told : (n m : ℕ) → n < 2 ^ 64 → m < 2 ^ 64 → table_signature n ≡ table_signature m → n ≡ m
signature_told n m p q e = number_told n m p q (sym (digits_told (table_signature n) n refl) ∙ digits_told (table_signature n) m e)

-- ---- what rows say

pub or_first : (a b : Bool) → (a || b) ≡ true → (a ≡ true) ⊎ (b ≡ true)
or_first true b e = inl refl
or_first false b e = inr e

or_true : (a : Bool) → (a || true) ≡ true
or_true true = refl
or_true false = refl

and_none : (a : Bool) → (a && false) ≡ false
and_none true = refl
and_none false = refl

row_is : (row : PublicKey × List ℕ) (key : PublicKey) (message : List ℕ) → is_row_of row key message ≡ true → row ≡ (key, message)
row_is row key message e =
    let parts = and_both (same_key row.0 key) (bytes_eq row.1 message) e in
    let key_is = same_key-true row.0 key parts.0 in
    let message_is = bytes_eq-true row.1 message parts.1 in
    λ i. (key_is i, message_is i)

said_stands : (n : ℕ) (rows : List (PublicKey × List ℕ)) (key : PublicKey) (message signature : List ℕ) → rows_say n rows key message signature ≡ true → Contains rows (key, message)
said_stands n [] key message signature e = absurd cc
said_stands n (row ∷ rows) key message signature e = elim (or_first (bytes_eq signature (table_signature n) && is_row_of row key message) (rows_say (n + 1) rows key message signature) e) [
  | inl here ↦ (0, omega arith, row_is row key message (and_both (bytes_eq signature (table_signature n)) (is_row_of row key message) here).1)
  | inr later ↦ let found = said_stands (n + 1) rows key message signature later in (suc found.0, omega arith, found.2)
]

-- A table is honest.
pub table_honest : (rows : List (PublicKey × List ℕ)) → IsHonest (table_says rows) (Some rows)
table_honest rows = (rows, refl, said_stands 1 rows)

says_more : (n : ℕ) (rows more : List (PublicKey × List ℕ)) (key : PublicKey) (message signature : List ℕ) → rows_say n rows key message signature ≡ true → rows_say n (rows ++ more) key message signature ≡ true
says_more n [] more key message signature e = absurd cc
says_more n (row ∷ rows) more key message signature e =
    let here = bytes_eq signature (table_signature n) && is_row_of row key message in
    elim (or_first here (rows_say (n + 1) rows key message signature) e) [
      | inl first ↦ rw first refl
      | inr later ↦ ap (λ (b : Bool). here || b) (says_more (n + 1) rows more key message signature later) ∙ or_true here
    ]

pub table_grows : (rows rows' more : List (PublicKey × List ℕ)) → rows' ≡ rows ++ more → SaysMore (table_says rows) (table_says rows')
table_grows rows rows' more e key message signature said =
    subst (λ (l : List (PublicKey × List ℕ)). rows_say 1 l key message signature ≡ true) (sym e) (says_more 1 rows more key message signature said)

says_last : (n : ℕ) (rows : List (PublicKey × List ℕ)) (key : PublicKey) (message : List ℕ) → rows_say n (rows ++ (key, message) ∷ []) key message (table_signature (n + length rows)) ≡ true
says_last n [] key message = rw (add-zero n, bytes_eq-self (table_signature n), same_key-self key, bytes_eq-self message) refl
says_last n (row ∷ rows) key message =
    let place : n + length (row ∷ rows) ≡ (n + 1) + length rows = omega arith in
    let signature = table_signature (n + length (row ∷ rows)) in
    let later : rows_say (n + 1) (rows ++ (key, message) ∷ []) key message signature ≡ true = rw place (says_last (n + 1) rows key message) in
    let here = bytes_eq signature (table_signature n) && is_row_of row key message in
    ap (λ (b : Bool). here || b) later ∙ or_true here

-- A row more: the signature by its number is good.
pub table_signs : (rows rows' : List (PublicKey × List ℕ)) (key : PublicKey) (message signature : List ℕ) → rows' ≡ rows ++ (key, message) ∷ []
    → signature ≡ table_signature (length rows + 1) → Signs (table_says rows') (Some rows) (Some rows') key message signature
table_signs rows rows' key message signature added spelt =
    let place : length rows + 1 ≡ 1 + length rows = omega arith in
    let is = spelt ∙ ap table_signature place in
    record {
      size = rw (is, signature_size (1 + length rows)) refl;
      good = rw (added, is) (says_last 1 rows key message);
      told = ap Some added;
    }

-- ---- a row found by the number

not_same : (xs ys : List ℕ) → (xs ≡ ys → ⊥) → bytes_eq xs ys ≡ false
not_same xs ys differ = elim (bytes_eq xs ys) as (λ b. (b ≡ true → xs ≡ ys) → b ≡ false) [ true ↦ λ same. absurd (differ (same refl)) | false ↦ λ same. refl ] (bytes_eq-true xs ys)

pub differ_told : (xs ys : List ℕ) (b : Bool) → b ≡ bytes_eq xs ys → b ≡ false → xs ≡ ys → ⊥
differ_told xs ys b tested differs e = true≢false (sym ((bytes_eq-Decides xs ys).1 e) ∙ sym tested ∙ differs)

pub none_say : (n : ℕ) (rows : List (PublicKey × List ℕ)) (key : PublicKey) (message signature : List ℕ) → ((k : ℕ) → n ≤ k → k < n + length rows → signature ≡ table_signature k → ⊥)
    → rows_say n rows key message signature ≡ false
none_say n [] key message signature other = refl
none_say n (row ∷ rows) key message signature other =
    let here : bytes_eq signature (table_signature n) ≡ false = not_same signature (table_signature n) (other n (omega arith) (omega arith)) in
    let later : rows_say (n + 1) rows key message signature ≡ false = none_say (n + 1) rows key message signature (λ k low high. other k (omega arith) (omega arith)) in
    rw (here, later) refl

pub one_says : (n : ℕ) (rows : List (PublicKey × List ℕ)) (key : PublicKey) (message signature : List ℕ) (i : ℕ) (d : PublicKey × List ℕ) → i < length rows → n + length rows ≤ 2 ^ 64
    → signature ≡ table_signature (n + i) → rows_say n rows key message signature ≡ is_row_of (get_or rows i d) key message
one_says n [] key message signature i d within fits e = absurd (omega arith)
one_says n (row ∷ rows) key message signature zero d within fits e =
    let here : bytes_eq signature (table_signature n) ≡ true = rw (e, add-zero n) (bytes_eq-self (table_signature n)) in
    let other : (k : ℕ) → n + 1 ≤ k → k < n + 1 + length rows → signature ≡ table_signature k → ⊥ = λ k low high same.
    let number : n + 0 ≡ k = signature_told (n + 0) k (omega arith) (omega arith) (sym e ∙ same) in omega arith
    in
    let later = none_say (n + 1) rows key message signature other in
    rw (here, later) (or_false (is_row_of row key message))
one_says n (row ∷ rows) key message signature (suc i) d within fits e =
    let away : signature ≡ table_signature n → ⊥ = λ same.
    let number : n + suc i ≡ n = signature_told (n + suc i) n (omega arith) (omega arith) (sym e ∙ same) in omega arith
    in
    let place : n + suc i ≡ (n + 1) + i = omega arith in
    rw (not_same signature (table_signature n) away) (one_says (n + 1) rows key message signature i d (omega arith) (omega arith) (e ∙ ap table_signature place))

-- ---- a message in two pieces

pub cut_same : (whole first second : List ℕ) → (bytes_eq (take (length first) whole) first && bytes_eq (drop (length first) whole) second) ≡ bytes_eq whole (first ++ second)
cut_same whole [] second = refl
cut_same [] (f ∷ first) second = refl
cut_same (w ∷ whole) (f ∷ first) second = elim (nat_eq w f) as (λ b. ((b && bytes_eq (take (length first) whole) first) && bytes_eq (drop (length first) whole) second) ≡ (b && bytes_eq whole (first ++ second))) [ true ↦ cut_same whole first second | false ↦ refl ]

pub cut_both : (whole first second front back : List ℕ) (a b : Bool) → front ≡ take (length first) whole → back ≡ drop (length first) whole → a ≡ bytes_eq front first → b ≡ bytes_eq back second
    → (a && b) ≡ bytes_eq whole (first ++ second)
cut_both whole first second front back a b front_is back_is same_front same_back = rw (same_front, same_back, front_is, back_is) (cut_same whole first second)

-- ---- the answers to a question

-- a signature that names no row
pub no_number : (rows : List (PublicKey × List ℕ)) (key : PublicKey) (message signature : List ℕ) → length rows + 1 ≤ 2 ^ 64 → ((m : ℕ) → m < 2 ^ 64 → signature ≡ table_signature m → ⊥)
    → false ≡ table_says rows key message signature
no_number rows key message signature fits none = sym (none_say 1 rows key message signature (λ k low high. none k (omega arith)))

-- one with the number of no row
pub no_row : (rows : List (PublicKey × List ℕ)) (key : PublicKey) (message signature : List ℕ) (m : ℕ) → length rows + 1 ≤ 2 ^ 64 → m < 2 ^ 64 → signature ≡ table_signature m
    → (m ≡ 0) ⊎ ((m ≡ 0 → ⊥) × (length rows < m)) → false ≡ table_says rows key message signature
no_row rows key message signature m fits small e outside =
    let other : (k : ℕ) → 1 ≤ k → k < 1 + length rows → signature ≡ table_signature k → ⊥ = λ k low high same.
    let number : m ≡ k = signature_told m k small (omega arith) (sym e ∙ same) in
    elim outside [ inl is_zero ↦ omega arith | inr beyond ↦ omega (arith, beyond.1) ]
    in sym (none_say 1 rows key message signature other)

-- one with the number of a row
pub row_answers : (rows : List (PublicKey × List ℕ)) (key : PublicKey) (message signature : List ℕ) (m : ℕ) (row : PublicKey × List ℕ) (answer : Bool) → length rows + 1 ≤ 2 ^ 64
    → (m ≡ 0 → ⊥) → m ≤ length rows → signature ≡ table_signature m → row ≡ get_or rows (m - 1) row → answer ≡ is_row_of row key message → answer ≡ table_says rows key message signature
row_answers rows key message signature m row answer fits some within e found asked =
    let place : m ≡ 1 + (m - 1) = omega arith in
    let says = one_says 1 rows key message signature (m - 1) row (omega arith) (omega arith) (e ∙ ap table_signature place) in
    asked ∙ ap (λ (r : PublicKey × List ℕ). is_row_of r key message) found ∙ sym says
