-- What follows from a value that is there.
use Rattle.std.proofs.Common.{◌≡◌, Bool, true, false, cond, Option, Some, None, Result, Ok, Err, refl, ap}
use Rattle.std.specs.Prelude.{option_map}
use Rattle.std.specs.Result.{result_ok}
use Rattle.eac_base.specs.Answers.{◌gives◌}

pub some_gives : {A B : Type 0} (o : Option A) (f : A → Option B) (y : B) → (o gives f) ≡ Some y → (x : A) × (o ≡ Some x) × (f x ≡ Some y)
some_gives None f y e = absurd cc
some_gives (Some x) f y e = (x, refl, e)

pub some_is : {A : Type 0} (x y : A) → (let o : Option A = Some x in o) ≡ Some y → x ≡ y
some_is x y e = cc

pub some_if : {A : Type 0} (b : Bool) (x y : A) → cond b (Some x) None ≡ Some y → (b ≡ true) × (x ≡ y)
some_if true x y e = (refl, cc)
some_if false x y e = absurd cc

pub ok_of : {A F : Type 0} (r : Result A F) (x : A) → result_ok r ≡ Some x → r ≡ Ok x
ok_of (Ok y) x e = ap Ok (some_is y x e)
ok_of (Err f) x e = absurd cc

pub mapped_is : {A B : Type 0} (f : A → B) (o : Option A) (y : B) → option_map f o ≡ Some y → (x : A) × (o ≡ Some x) × (f x ≡ y)
mapped_is f None y e = absurd cc
mapped_is f (Some x) y e = (x, refl, some_is (f x) y e)
