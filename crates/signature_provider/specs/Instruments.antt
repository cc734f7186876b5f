-- The two instruments: keys and signatures by numbers, and signatures by a digest (this project's own).
use Rattle.std.specs.Prelude.{◌≡◌, ℕ, ◌+◌, ◌%◌, ◌^◌, List, [], ◌∷◌, ◌++◌, length, replicate, Bool, false, None, ◌&&◌, ◌||◌, if◌then◌else◌}
use Rattle.std.specs.Int.{w32, w64, to_be_bytes}
use Rattle.std.specs.List.{list_any}
use Rattle.std.specs.Str.{bytes_eq}
use Rattle.sha2.specs.Sha256.{sha256}
use Rattle.eac_base.specs.Planned.{next_count}
use Rattle.signature_provider.specs.Key.{is_elliptic}
use Rattle.signature_provider.specs.Provider.{PublicKey, Signed, same_key}
use Rattle.signature_provider.specs.declared.key.Algorithm.{Algorithm}
use Rattle.signature_provider.specs.declared.key.KeyForm.{KeyForm}
use Rattle.signature_provider.specs.declared.key.FormName.{FormName}
use Rattle.signature_provider.specs.declared.key.FormName.TheVariants.{Ec, Rsa}

-- ---- their forms of keys. These are no real parameters.

abbrev pub form_named : FormName → KeyForm
form_named Ec = record {
  algorithm = record { arc = 2; last = 3 };
  domain = 0x81 ∷ 1 ∷ 1 ∷ 0x82 ∷ 1 ∷ 2 ∷ 0x83 ∷ 1 ∷ 3 ∷ 0x84 ∷ 1 ∷ 4 ∷ 0x85 ∷ 1 ∷ 5 ∷ [];
  cofactor = 0x87 ∷ 1 ∷ 1 ∷ [];
}
form_named Rsa = record { algorithm = record { arc = 1; last = 2 }; domain = []; cofactor = [] }

-- ---- keys, numbered from 1 in the order of making

-- The point of a key: its number in 8 bytes, the highest first, and for RSA as the modulus beside the exponent 3.
abbrev pub numbered_point : Algorithm → ℕ → List ℕ
numbered_point a number = if is_elliptic a then to_be_bytes w64 number
    else 0x81 ∷ 8 ∷ (to_be_bytes w64 number ++ 0x82 ∷ 1 ∷ 3 ∷ [])

-- The keys have these points, the first one that of this number.
abbrev pub AreNumbered : ℕ → List PublicKey → Type 0
AreNumbered number [] = Unit {0}
AreNumbered number (key ∷ keys) = (key.point ≡ numbered_point key.algorithm number) × AreNumbered (number + 1) keys

abbrev pub is_among : List PublicKey → PublicKey → Bool
is_among keys key = list_any (λ made. same_key made key) keys

-- ---- signatures by a table, whose rows are numbered from 1

-- A row's number in 64 bytes, the highest first.
unfoldable pub table_signature : ℕ → List ℕ
table_signature number = replicate 56 0 ++ to_be_bytes w64 number

abbrev pub is_row_of : PublicKey × List ℕ → PublicKey → List ℕ → Bool
is_row_of row key message = same_key row.0 key && bytes_eq row.1 message

-- One of the rows, the first of which has this number, is of this key and message, and this is its signature.
abbrev pub rows_say : ℕ → List (PublicKey × List ℕ) → PublicKey → List ℕ → List ℕ → Bool
rows_say number [] key message signature = false
rows_say number (row ∷ rows) key message signature =
    (bytes_eq signature (table_signature number) && is_row_of row key message)
    || rows_say (number + 1) rows key message signature

abbrev pub table_says : List (PublicKey × List ℕ) → PublicKey → List ℕ → List ℕ → Bool
table_says rows = rows_say 1 rows

-- A table: the keys that it made, its rows, the numbers of the calls that fail, and its numbers of calls and of faults.
pub record TableValue : Type 0 where
  pub keys : List PublicKey
  pub rows : List (PublicKey × List ℕ)
  pub plan : List ℕ
  pub calls : ℕ
  pub faults : ℕ

-- A call was counted, and its failing where it failed. The plan stays.
pub record IsCounted (old new : TableValue) (failed : Bool) : Type 0 where
  pub plan : new.plan ≡ old.plan
  pub calls : new.calls ≡ next_count old.calls
  pub faults : new.faults ≡ (if failed then next_count old.faults else old.faults)

-- ---- signatures by a digest

-- A length in 4 bytes, modulo 2^32, the highest first.
abbrev pub length_in_four : List ℕ → List ℕ
length_in_four bytes = to_be_bytes w32 (length bytes % 2 ^ 32)

-- What the digest is over.
abbrev pub digest_input : List ℕ → PublicKey → List ℕ → List ℕ
digest_input secret key message = secret ++ (key.algorithm.arc ∷ key.algorithm.last ∷ [])
    ++ length_in_four key.domain ++ key.domain ++ length_in_four key.point ++ key.point ++ message

abbrev pub digest_signature : List ℕ → PublicKey → List ℕ → List ℕ
digest_signature secret key message = sha256 (digest_input secret key message)

abbrev pub digest_says : List ℕ → PublicKey → List ℕ → List ℕ → Bool
digest_says secret key message signature = bytes_eq signature (digest_signature secret key message)

-- What was signed isn't told.
abbrev pub untold : Signed
untold = None

-- A digest provider: its secret and the keys that it made.
pub record DigestValue : Type 0 where
  pub secret : List ℕ
  pub keys : List PublicKey
