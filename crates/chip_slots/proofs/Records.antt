-- What is read of a record.
use Rattle.std.proofs.Common.{◌≡◌, ℕ, ◌%◌, List, Option, Some, None, Bool, true, false, refl, sym, ◌∙◌, ap, arith}
use Rattle.std.proofs.lemmas.Bool.Decides.{nat_tests}
use Rattle.std.specs.Prelude.{◌==◌}
use Rattle.eac_base.specs.Answers.{◌gives◌}
use Rattle.chip_verify.specs.Trust.{Trust}
use Rattle.chip_slots.specs.Slot.{only, number_in, trust_in, record_of}

-- ---- one step of a reading

-- a reading that ended with a value had its first part
pub record Given {A B : Type 0} (o : Option A) (f : A → Option B) (y : B) : Type 0 where
  pub first : A
  pub found : o ≡ Some first
  pub then : f first ≡ Some y

pub gives_some : {A B : Type 0} (o : Option A) (f : A → Option B) (y : B) → (o gives f) ≡ Some y → Given o f y
gives_some None f y is = absurd (cc (is))
gives_some (Some x) f y is = record { first = x; found = refl; then = is }

pub only_when : {A : Type 0} (b : Bool) (x y : A) → only b x ≡ Some y → b ≡ true
only_when true x y is = refl
only_when false x y is = absurd (cc (is))

pub only_is : {A : Type 0} (b : Bool) (x y : A) → only b x ≡ Some y → x ≡ y
only_is true x y is = cc
only_is false x y is = absurd (cc (is))

same_number : (n m : ℕ) → (n == m) ≡ true → n ≡ m
same_number n m is = grind (arith, nat_tests)

-- ---- the slot of a record

pub record_place : (slots slot : ℕ) (bytes : List ℕ) (y : Trust × ℕ) → record_of slots slot bytes ≡ Some y → y.1 % slots ≡ slot
record_place slots slot bytes y is =
    let form = gives_some (number_in 1 bytes) _ y is in
    let rest = gives_some (only (form.first.0 == 1) form.first.1) _ y form.then in
    let generation = gives_some (number_in 8 rest.first) _ y rest.then in
    let behind = gives_some (only (generation.first.0 % slots == slot) generation.first.1) _ y generation.then in
    let trust = gives_some (trust_in behind.first) _ y behind.then in
    let number : generation.first.0 ≡ y.1 = second (trust.first) generation.first.0 y trust.then in
    ap (λ (g : ℕ). g % slots) (sym number) ∙ same_number (generation.first.0 % slots) slot (only_when (generation.first.0 % slots == slot) generation.first.1 behind.first behind.found)
  where
    second : (t : Trust) (g : ℕ) (z : Trust × ℕ) → Some (t, g) ≡ Some z → g ≡ z.1
    second t g z e = let pair : (t, g) ≡ z = cc in ap (λ (p : Trust × ℕ). p.1) pair
