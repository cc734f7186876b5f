-- Steps of reading that did not fail, and the bytes they went over.
use Rattle.std.proofs.Common.{◌≡◌, ℕ, suc, Bool, true, false, cond, List, [], ◌∷◌, ◌++◌, get_or, Fits, w8, Result, Ok, Err, refl, arith, inl, inr, ◌⊎◌}
use Rattle.eac_base.specs.Bytes.{AreBytes, is_empty}
use Rattle.eac_base.specs.Answers.{◌>>=◌, ◌>>◌, unless, refused_as}

pub bind_ok : {A B F : Type 0} (r : Result A F) (f : A → Result B F) (y : B) → (r >>= f) ≡ Ok y → (x : A) × (r ≡ Ok x) × (f x ≡ Ok y)
bind_ok (Ok x) f y e = (x, refl, e)
bind_ok (Err d) f y e = absurd cc

pub unless_ok : {B F : Type 0} (b : Bool) (d : F) (r : Result B F) (y : B) → (unless b d >> r) ≡ Ok y → (b ≡ true) × (r ≡ Ok y)
unless_ok true d r y e = (refl, e)
unless_ok false d r y e = absurd cc

pub as_ok : {A F G : Type 0} (g : F → G) (r : Result A F) (y : A) → refused_as g r ≡ Ok y → r ≡ Ok y
as_ok g (Ok x) y e = cc
as_ok g (Err f) y e = absurd cc

pub ok_is : {A F : Type 0} (x y : A) → (let r : Result A F = Ok x in r) ≡ Ok y → x ≡ y
ok_is x y e = cc

-- a choice that gave z took one of its two ways
pub chosen : {A : Type 0} (b : Bool) (x y z : A) → cond b x y ≡ z → ((b ≡ true) × (x ≡ z)) ⊎ ((b ≡ false) × (y ≡ z))
chosen true x y z e = inl (refl, e)
chosen false x y z e = inr (refl, e)

-- ---- bytes

-- each item of a slice of bytes is one
pub are_bytes_of : (xs : List ℕ) → ((i : ℕ) → Fits w8 (get_or xs i 0)) → AreBytes xs
are_bytes_of [] h = tt
are_bytes_of (x ∷ xs) h = (let f = h 0 in omega (arith, f.fits), are_bytes_of xs (λ i. h (suc i)))

pub AreBytes-front : (xs ys : List ℕ) → AreBytes (xs ++ ys) → AreBytes xs
AreBytes-front [] ys b = tt
AreBytes-front (x ∷ xs) ys b = (b.0, AreBytes-front xs ys b.1)

pub AreBytes-back : (xs ys : List ℕ) → AreBytes (xs ++ ys) → AreBytes ys
AreBytes-back [] ys b = b
AreBytes-back (x ∷ xs) ys b = AreBytes-back xs ys b.1

pub empty_is : {A : Type 0} (xs : List A) → is_empty xs ≡ true → xs ≡ []
empty_is [] e = refl
empty_is (x ∷ xs) e = absurd cc
