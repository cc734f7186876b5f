-- A line that is written in two pieces.
use Rattle.std.proofs.Common.{◌≡◌, ℕ, ◌+◌, List, ◌++◌, length, take, Ok, Err, sym, subst, arith, length-append}
use Rattle.std.specs.Prelude.{OnErr}
use Rattle.std.specs.declared.option.Option.{Option}
use Rattle.std.specs.declared.result.Result.{Result}
use Rattle.std.specs.Io.KnownBytes.{Appends}
use Rattle.std.proofs.KnownBytes.{Appends-trans}
use Rattle.std.proofs.lemmas.List.{take-append-le}
use Rattle.std.proofs.Math.Seq.{take-append-add}
use Rattle.eac_base.specs.Causes.{AppendsFront}

-- a front of the first piece
pub front_first : (old new : Option (List ℕ)) (a b : List ℕ) → AppendsFront old new a → AppendsFront old new (a ++ b)
front_first old new a b f = (f.0, omega (arith, f.1, length-append a b), subst (Appends old new) (sym (take-append-le f.0 a b (omega (arith, f.1)))) f.2)

-- the first piece, and a front of the second one
pub front_second : (old mid new : Option (List ℕ)) (a b : List ℕ) → Appends old mid a → AppendsFront mid new b → AppendsFront old new (a ++ b)
front_second old mid new a b first f = (
  length a + f.0,
  omega (arith, f.1, length-append a b),
  subst (Appends old new) (sym (take-append-add a b f.0)) (Appends-trans old mid new a (take f.0 b) first f.2),
)

pub second_err : {T E : Type 0} (r : Result T E) (old mid new : Option (List ℕ)) (a b c : List ℕ) → b ≡ c → Appends old mid a → OnErr r (AppendsFront mid new b) → OnErr r (AppendsFront old new (a ++ c))
second_err (Ok x) old mid new a b c same first f = tt
second_err (Err e) old mid new a b c same first f = subst (λ (l : List ℕ). AppendsFront old new (a ++ l)) same (front_second old mid new a b first f)
