-- What was written of a record is read, whatever stands behind it.
use Rattle.std.proofs.Common.{◌≡◌, ℕ, zero, suc, ◌+◌, ◌*◌, ◌/◌, ◌%◌, ◌^◌, ◌<◌, ◌≤◌, List, [], ◌∷◌, ◌++◌, length, take, drop, Option, Some, None, Bool, true, false, refl, sym, ◌∙◌, ap, arith, length-append}
use Rattle.std.proofs.lemmas.Bool.Decides.{nat_tests}
use Rattle.std.proofs.lemmas.List.{append_assoc}
use Rattle.std.proofs.Math.Seq.{take-append_seam, drop-append_seam}
use Rattle.std.proofs.Math.Nat.{pow-succ'}
use Rattle.std.specs.Prelude.{◌==◌, ◌&&◌, not, nat_lt, nat_le}
use Rattle.eac_base.specs.Answers.{◌gives◌}
use Rattle.eac_base.specs.Bytes.{big_endian, number_after, number_of, is_within, is_empty}
use Rattle.holder_reference.specs.Reference.{is_reference}
use Rattle.chat_rights.specs.declared.Kind.{Kind}
use Rattle.chat_rights.specs.declared.Kind.TheVariants.{Inspection}
use Rattle.chat_rights.specs.declared.Role.{Role}
use Rattle.chat_rights.specs.declared.Role.TheVariants.{Cvca, Domestic, Foreign, Terminal}
use Rattle.chat_rights.specs.Kinds.{rights_fit}
use Rattle.chat_rights.specs.Template.{role_number, template_byte}
use Rattle.signature_provider.specs.declared.key.Algorithm.{Algorithm}
use Rattle.signature_provider.specs.Key.{is_algorithm}
use Rattle.signature_provider.specs.Provider.{PublicKey}
use Rattle.chip_verify.specs.declared.trust_point.TrustPoint.{TrustPoint}
use Rattle.chip_verify.specs.Trust.{Trust}
use Rattle.chip_slots.specs.Slot.{is_cvca, is_day, is_kept_key, is_kept_point, comes_before, are_kept_points, is_kept_trust, counted, key_text, point_text, points_text, record_text, only, bytes_in, number_in, counted_in, reference_in, authority_in, day_in, algorithm_in, part_in, key_in, point_in, points_in, trust_in, record_of}

-- ---- tests

and_left : (a b : Bool) → (a && b) ≡ true → a ≡ true
and_left true b is = refl
and_left false b is = absurd (cc (is))

and_right : (a b : Bool) → (a && b) ≡ true → b ≡ true
and_right true b is = is
and_right false b is = absurd (cc (is))

at_most : (n m : ℕ) → nat_le n m ≡ true → n ≤ m
at_most n m is = grind (arith, nat_tests)

-- ---- steps

then_is : {A B : Type 0} (o : Option A) (f : A → Option B) (x : A) → o ≡ Some x → (o gives f) ≡ f x
then_is o f x is = ap (λ q. q gives f) is

only_true : {A : Type 0} (b : Bool) (x : A) → b ≡ true → only b x ≡ Some x
only_true b x is = ap (λ t. only t x) is

-- ---- bytes and numbers

bytes_front : (xs rest : List ℕ) → bytes_in (length xs) (xs ++ rest) ≡ Some (xs, rest)
bytes_front xs rest =
    let fits : nat_le (length xs) (length (xs ++ rest)) ≡ true = grind (arith, nat_tests, length-append xs rest) in
    only_true (nat_le (length xs) (length (xs ++ rest))) (take (length xs) (xs ++ rest), drop (length xs) (xs ++ rest)) fits
    ∙ ap (λ (l : List ℕ). Some (l, drop (length xs) (xs ++ rest))) (take-append_seam xs rest)
    ∙ ap (λ (l : List ℕ). Some (xs, l)) (drop-append_seam xs rest)

big_size : (places n : ℕ) → length (big_endian places n) ≡ places
big_size zero n = refl
big_size (suc places) n = omega (arith, length-append (big_endian places (n / 256)) ((n % 256) ∷ []), big_size places (n / 256))

number_back : (m : ℕ) (xs : List ℕ) (b : ℕ) → number_after m (xs ++ b ∷ []) ≡ 256 * number_after m xs + b
number_back m [] b = refl
number_back m (x ∷ xs) b = number_back (256 * m + x) xs b

big_value : (places n : ℕ) → n < 256 ^ places → number_of (big_endian places n) ≡ n
big_value zero n h = omega (arith, h)
big_value (suc places) n h =
    let whole : 256 ^ suc places ≡ 256 * 256 ^ places = pow-succ' 256 places in
    let small : n / 256 < 256 ^ places = omega (arith, h, whole) in
    number_back 0 (big_endian places (n / 256)) (n % 256) ∙ ap (λ (v : ℕ). 256 * v + n % 256) (big_value places (n / 256) small) ∙ omega arith

pub number_front : (places n : ℕ) (rest : List ℕ) → n < 256 ^ places → number_in places (big_endian places n ++ rest) ≡ Some (n, rest)
number_front places n rest h =
    let front : bytes_in places (big_endian places n ++ rest) ≡ Some (big_endian places n, rest) =
    ap (λ (k : ℕ). bytes_in k (big_endian places n ++ rest)) (sym (big_size places n)) ∙ bytes_front (big_endian places n) rest in
    then_is (bytes_in places (big_endian places n ++ rest)) _ (big_endian places n, rest) front ∙ ap (λ (v : ℕ). Some (v, rest)) (big_value places n h)

one_front : (b : ℕ) (rest : List ℕ) → number_in 1 (b ∷ rest) ≡ Some (b, rest)
one_front b rest =
    let value : number_of (b ∷ []) ≡ b = omega arith in
    then_is (bytes_in 1 (b ∷ rest)) _ (b ∷ [], rest) (bytes_front (b ∷ []) rest) ∙ ap (λ (v : ℕ). Some (v, rest)) value

counted_front : (places : ℕ) (xs rest : List ℕ) → length xs < 256 ^ places → counted_in places (counted places xs ++ rest) ≡ Some (xs, rest)
counted_front places xs rest h =
    ap (counted_in places) (append_assoc (big_endian places (length xs)) xs rest)
    ∙ then_is (number_in places (big_endian places (length xs) ++ (xs ++ rest))) _ (length xs, xs ++ rest) (number_front places (length xs) (xs ++ rest) h)
    ∙ bytes_front xs rest

-- ---- parts of a point

short_reference : (r : List ℕ) → is_reference r ≡ true → length r < 256
short_reference r is =
    let within : is_within 8 16 (length r) ≡ true = and_left _ _ (and_left _ _ is) in
    let most : length r ≤ 16 = at_most (length r) 16 (and_right (nat_le 8 (length r)) (nat_le (length r) 16) within) in
    omega (arith, most)

reference_front : (r rest : List ℕ) → is_reference r ≡ true → reference_in (counted 1 r ++ rest) ≡ Some (r, rest)
reference_front r rest is =
    then_is (counted_in 1 (counted 1 r ++ rest)) _ (r, rest) (counted_front 1 r rest (short_reference r is))
    ∙ only_true (is_reference r) (r, rest) is

authority_front : (kind : Kind) (role : Role) (rights : ℕ) (rest : List ℕ) → is_cvca role ≡ true → rights_fit kind rights ≡ true → authority_in ((64 * role_number role + rights) ∷ rest) ≡ Some (record { kind = kind; role = role; rights = rights }, rest)
authority_front Inspection Cvca rights rest is fits =
    let small : nat_lt rights 64 ≡ true = fits in
    let below : rights < 64 = grind (arith, nat_tests, small) in
    let role : ((64 * 3 + rights) / 64 == 3) ≡ true = grind (arith, nat_tests) in
    let bits : (64 * 3 + rights) % 64 ≡ rights = omega (arith, below) in
    then_is (number_in 1 ((64 * 3 + rights) ∷ rest)) _ (64 * 3 + rights, rest) (one_front (64 * 3 + rights) rest)
    ∙ only_true ((64 * 3 + rights) / 64 == 3) _ role
    ∙ ap (λ (n : ℕ). Some (record { kind = Inspection; role = Cvca; rights = n }, rest)) bits
authority_front Inspection Domestic rights rest is fits = absurd (cc (is))
authority_front Inspection Foreign rights rest is fits = absurd (cc (is))
authority_front Inspection Terminal rights rest is fits = absurd (cc (is))

day_front : (n : ℕ) (rest : List ℕ) → is_day n ≡ true → day_in (big_endian 2 n ++ rest) ≡ Some (n, rest)
day_front n rest is =
    let most : n ≤ 36524 = at_most n 36524 is in
    then_is (number_in 2 (big_endian 2 n ++ rest)) _ (n, rest) (number_front 2 n rest (omega (arith, most))) ∙ only_true (is_day n) (n, rest) is

algorithm_front : (a : Algorithm) (rest : List ℕ) → is_algorithm a ≡ true → algorithm_in (a.arc ∷ a.last ∷ rest) ≡ Some (a, rest)
algorithm_front a rest is =
    then_is (number_in 1 (a.arc ∷ a.last ∷ rest)) _ (a.arc, a.last ∷ rest) (one_front a.arc (a.last ∷ rest))
    ∙ then_is (number_in 1 (a.last ∷ rest)) _ (a.last, rest) (one_front a.last rest)
    ∙ only_true (is_within 1 2 a.arc && nat_lt a.last 128) (a, rest) is

part_front : (part rest : List ℕ) → nat_le (length part) 1024 ≡ true → part_in (counted 2 part ++ rest) ≡ Some (part, rest)
part_front part rest is =
    let most : length part ≤ 1024 = at_most (length part) 1024 is in
    then_is (counted_in 2 (counted 2 part ++ rest)) _ (part, rest) (counted_front 2 part rest (omega (arith, most))) ∙ only_true (nat_le (length part) 1024) (part, rest) is

key_front : (k : PublicKey) (rest : List ℕ) → is_kept_key k ≡ true → key_in (key_text k ++ rest) ≡ Some (k, rest)
key_front k rest is =
    let algorithm : is_algorithm k.algorithm ≡ true = and_left _ _ (and_left _ _ (and_left _ _ is)) in
    let domain : nat_le (length k.domain) 1024 ≡ true = and_right (is_algorithm k.algorithm) _ (and_left _ _ (and_left _ _ is)) in
    let some : not (is_empty k.point) ≡ true = and_right _ _ (and_left _ _ is) in
    let point : nat_le (length k.point) 1024 ≡ true = and_right _ _ is in
    let tail : List ℕ = (counted 2 k.domain ++ counted 2 k.point) ++ rest in
    then_is (algorithm_in (k.algorithm.arc ∷ k.algorithm.last ∷ tail)) _ (k.algorithm, tail) (algorithm_front k.algorithm tail algorithm)
    ∙ then_is (part_in tail) _ (k.domain, counted 2 k.point ++ rest) (ap part_in (append_assoc (counted 2 k.domain) (counted 2 k.point) rest) ∙ part_front k.domain (counted 2 k.point ++ rest) domain)
    ∙ then_is (part_in (counted 2 k.point ++ rest)) _ (k.point, rest) (part_front k.point rest point)
    ∙ only_true (not (is_empty k.point)) (k, rest) some

-- ---- points

point_front : (p : TrustPoint) (rest : List ℕ) → is_kept_point p ≡ true → point_in (point_text p ++ rest) ≡ Some (p, rest)
point_front p rest is =
    let key : is_kept_key p.key ≡ true = and_right _ _ is in
    let until : is_day p.until ≡ true = and_right _ _ (and_left _ _ is) in
    let from : is_day p.from ≡ true = and_right _ _ (and_left _ _ (and_left _ _ is)) in
    let rights : rights_fit p.template.kind p.template.rights ≡ true = and_right _ _ (and_left _ _ (and_left _ _ (and_left _ _ is))) in
    let role : is_cvca p.template.role ≡ true = and_right _ _ (and_left _ _ (and_left _ _ (and_left _ _ (and_left _ _ is)))) in
    let reference : is_reference p.reference ≡ true = and_left _ _ (and_left _ _ (and_left _ _ (and_left _ _ (and_left _ _ is)))) in
    let t4 : List ℕ = key_text p.key ++ rest in
    let t3 : List ℕ = big_endian 2 p.until ++ t4 in
    let t2 : List ℕ = big_endian 2 p.from ++ t3 in
    let t1 : List ℕ = template_byte p.template ∷ t2 in
    let last : (big_endian 2 p.until ++ key_text p.key) ++ rest ≡ t3 = append_assoc (big_endian 2 p.until) (key_text p.key) rest in
    let middle : (big_endian 2 p.from ++ (big_endian 2 p.until ++ key_text p.key)) ++ rest ≡ t2 = append_assoc (big_endian 2 p.from) (big_endian 2 p.until ++ key_text p.key) rest ∙ ap (λ (l : List ℕ). big_endian 2 p.from ++ l) last in
    let text : point_text p ++ rest ≡ counted 1 p.reference ++ t1 =
    append_assoc (counted 1 p.reference) (template_byte p.template ∷ (big_endian 2 p.from ++ (big_endian 2 p.until ++ key_text p.key))) rest
    ∙ ap (λ (l : List ℕ). counted 1 p.reference ++ (template_byte p.template ∷ l)) middle in
    ap point_in text
    ∙ then_is (reference_in (counted 1 p.reference ++ t1)) _ (p.reference, t1) (reference_front p.reference t1 reference)
    ∙ then_is (authority_in t1) _ (p.template, t2) (authority_front p.template.kind p.template.role p.template.rights t2 role rights)
    ∙ then_is (day_in t2) _ (p.from, t3) (day_front p.from t3 from)
    ∙ then_is (day_in t3) _ (p.until, t4) (day_front p.until t4 until)
    ∙ then_is (key_in t4) _ (p.key, rest) (key_front p.key rest key)

points_front : (older : Option TrustPoint) (newest : TrustPoint) (rest : List ℕ) → are_kept_points older newest ≡ true → points_in (points_text older newest ++ rest) ≡ Some (older, newest)
points_front None newest rest is =
    then_is (number_in 1 (1 ∷ (point_text newest ++ rest))) _ (1, point_text newest ++ rest) (one_front 1 (point_text newest ++ rest))
    ∙ then_is (point_in (point_text newest ++ rest)) _ (newest, rest) (point_front newest rest is)
points_front (Some older) newest rest is =
    let order : comes_before older newest ≡ true = and_right _ _ is in
    let last : is_kept_point newest ≡ true = and_right _ _ (and_left _ _ is) in
    let first : is_kept_point older ≡ true = and_left _ _ (and_left _ _ is) in
    let tail : List ℕ = (point_text older ++ point_text newest) ++ rest in
    then_is (number_in 1 (2 ∷ tail)) _ (2, tail) (one_front 2 tail)
    ∙ then_is (point_in tail) _ (older, point_text newest ++ rest) (ap point_in (append_assoc (point_text older) (point_text newest) rest) ∙ point_front older (point_text newest ++ rest) first)
    ∙ then_is (point_in (point_text newest ++ rest)) _ (newest, rest) (point_front newest rest last)
    ∙ only_true (comes_before older newest) (Some older, newest) order

-- ---- the record

pub record_front : (slots slot : ℕ) (t : Trust) (generation : ℕ) (rest : List ℕ) → is_kept_trust t ≡ true → generation < 2 ^ 64 → (generation % slots == slot) ≡ true → record_of slots slot (record_text t generation ++ rest) ≡ Some (t, generation)
record_front slots slot t generation rest is small place =
    let day : is_day t.day ≡ true = and_left _ _ is in
    let points : are_kept_points t.older t.newest ≡ true = and_right _ _ is in
    let t3 : List ℕ = points_text t.older t.newest ++ rest in
    let t2 : List ℕ = big_endian 2 t.day ++ t3 in
    let t1 : List ℕ = big_endian 8 generation ++ t2 in
    let behind : (big_endian 2 t.day ++ points_text t.older t.newest) ++ rest ≡ t2 = append_assoc (big_endian 2 t.day) (points_text t.older t.newest) rest in
    let text : record_text t generation ++ rest ≡ 1 ∷ t1 =
    ap (λ (l : List ℕ). 1 ∷ l) (append_assoc (big_endian 8 generation) (big_endian 2 t.day ++ points_text t.older t.newest) rest ∙ ap (λ (l : List ℕ). big_endian 8 generation ++ l) behind) in
    let trust : trust_in t2 ≡ Some t =
    then_is (day_in t2) _ (t.day, t3) (day_front t.day t3 day) ∙ then_is (points_in t3) _ (t.older, t.newest) (points_front t.older t.newest rest points) in
    ap (record_of slots slot) text
    ∙ then_is (number_in 1 (1 ∷ t1)) _ (1, t1) (one_front 1 t1)
    ∙ then_is (number_in 8 t1) _ (generation, t2) (number_front 8 generation t2 small)
    ∙ then_is (only (generation % slots == slot) t2) _ t2 (only_true (generation % slots == slot) t2 place)
    ∙ then_is (trust_in t2) _ t trust
