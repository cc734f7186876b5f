-- What a provider of signatures says, holds and has signed (this project's own).
use Rattle.std.specs.Prelude.{◌≡◌, ◌≢◌, ℕ, ◌≤◌, List, [], ◌∷◌, ◌++◌, length, Bool, true, false, ◌&&◌, IsTrue, Some, Ok, Err, option_map, Contains}
use Rattle.std.specs.Str.{bytes_eq}
use Rattle.std.specs.declared.option.Option.{Option}
use Rattle.std.specs.declared.result.Result.{Result}
use Rattle.eac_base.specs.Causes.{Rose}
use Rattle.eac_base.specs.Bytes.{is_within}
use Rattle.signature_provider.specs.Key.{is_key, key_fits, same_algorithm}
use Rattle.signature_provider.specs.declared.key.Algorithm.{Algorithm}
use Rattle.signature_provider.specs.declared.key.Key.{Key}
use Rattle.signature_provider.specs.declared.key.KeyForm.{KeyForm}
use Rattle.signature_provider.specs.declared.key.KeyView.{KeyView}
use Rattle.signature_provider.specs.declared.provider.SignRefusal.{SignRefusal}
use Rattle.signature_provider.specs.declared.provider.SignRefusal.TheVariants.{NoKey, Failed, NoMemory}

-- ---- which key it is

-- Keys are the same where these three are. The cofactor is carried along and tells no key from another.
pub record PublicKey : Type 0 where
  pub algorithm : Algorithm
  pub domain : List ℕ
  pub point : List ℕ

abbrev pub public_key : Key → PublicKey
public_key k = record { algorithm = k.algorithm; domain = k.domain; point = k.point }

abbrev pub viewed_key : KeyView → PublicKey
viewed_key k = record { algorithm = k.algorithm; domain = k.domain.now; point = k.point.now }

abbrev pub same_key : PublicKey → PublicKey → Bool
same_key a b = same_algorithm a.algorithm b.algorithm && bytes_eq a.domain b.domain && bytes_eq a.point b.point

-- ---- what a provider means

-- Whether a signature is good, by key, message and signature.
abbrev pub Says : Type 0
Says = PublicKey → List ℕ → List ℕ → Bool

-- Whether a key can be signed with.
abbrev pub Holds : Type 0
Holds = PublicKey → Bool

-- What was signed, with which key, where it is told.
abbrev pub Signed : Type 0
Signed = Option (List (PublicKey × List ℕ))

-- What was called good still is.
abbrev pub SaysMore : Says → Says → Type 0
SaysMore said says = (key : PublicKey) (message signature : List ℕ) → IsTrue (said key message signature)
    → IsTrue (says key message signature)

-- What was held still is.
abbrev pub HoldsMore : Holds → Holds → Type 0
HoldsMore held holds = (key : PublicKey) → IsTrue (held key) → IsTrue (holds key)

-- It tells what it signed, and calls a signature good only for what it signed.
abbrev pub IsHonest : Says → Signed → Type 0
IsHonest says signed = (pairs : List (PublicKey × List ℕ)) × (signed ≡ Some pairs)
    × ((key : PublicKey) (message signature : List ℕ) → IsTrue (says key message signature)
    → Contains pairs (key, message))

abbrev pub KeepsHonest : Says → Signed → Says → Signed → Type 0
KeepsHonest said was_signed says signed = IsHonest said was_signed → IsHonest says signed

-- ---- what the calls do

-- A key of this form was made. It is held from now on, and its point is unlike that of each key held before.
pub record MakesKey (held holds : Holds) (form : KeyForm) (key : Key) : Type 0 where
  pub algorithm : key.algorithm ≡ form.algorithm
  pub domain : key.domain ≡ form.domain
  pub cofactor : key.cofactor ≡ form.cofactor
  pub legal : IsTrue (is_key key && key_fits key)
  pub now_held : IsTrue (holds (public_key key))
  pub new_point : (other : PublicKey) → IsTrue (held other) → other.point ≢ key.point

-- This message was signed with this key: the signature is good, and the pair stands at the end of what was signed.
pub record Signs (says : Says) (was_signed signed : Signed) (key : PublicKey) (message signature : List ℕ)
    : Type 0 where
  pub size : IsTrue (is_within 1 512 (length signature))
  pub good : IsTrue (says key message signature)
  pub told : signed ≡ option_map (λ pairs. pairs ++ (key, message) ∷ []) was_signed

-- ---- when a call is refused

-- The count of faults hasn't fallen, `Failed` came only where it rose, and any other answer leaves it.
pub record SignCause {T : Type 0} (before now : ℕ) (result : Result T SignRefusal) : Type 0 where
  pub later : before ≤ now
  pub failed : result ≡ Err Failed → Rose before now
  pub quiet : result ≢ Err Failed → now ≡ before

-- `NoKey` comes where the key isn't held, and there nothing is signed. A fault and want of memory may come before.
abbrev pub HeldWhere : {T : Type 0} → Bool → Result T SignRefusal → Type 0
HeldWhere held (Ok x) = held ≡ true
HeldWhere held (Err NoKey) = held ≡ false
HeldWhere held (Err Failed) = Unit {0}
HeldWhere held (Err NoMemory) = Unit {0}

-- A key that isn't held is found so before memory is asked for.
abbrev pub UnheldFirst : {T : Type 0} → Bool → Result T SignRefusal → Type 0
UnheldFirst held result = held ≡ false → result ≢ Err NoMemory

-- The call failed, by its answer.
abbrev pub has_failed : {T : Type 0} → Result T SignRefusal → Bool
has_failed (Ok x) = false
has_failed (Err NoKey) = false
has_failed (Err Failed) = true
has_failed (Err NoMemory) = false
