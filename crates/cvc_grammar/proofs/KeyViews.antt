-- A key as it lies in the input.
use Rattle.std.proofs.Common.{◌≡◌, ℕ, Bool, true, refl, cond, ◌&&◌, eqb, List, Result, Ok, Option, Some, None, sym, ap, ◌∙◌, inl, inr}
use Rattle.std.specs.Str.{bytes_eq}
use Rattle.tlv_core.specs.declared.TlvRefusal.{TlvRefusal}
use Rattle.tlv_core.specs.Object.{First, first_object}
use Rattle.eac_base.proofs.Steps.{chosen}
use Rattle.signature_provider.specs.declared.key.Algorithm.{Algorithm}
use Rattle.signature_provider.specs.declared.key.Key.{Key}
use Rattle.signature_provider.specs.Key.{algorithm_identifier}
use Rattle.cvc_grammar.specs.KeyObject.{read_key, key_after, spelt_key, spelt_algorithm, if_key}

abbrev object_of : ℕ → List ℕ → List ℕ → First
object_of tag content rest = record { tag = tag; content = content; rest = rest }

some_is : {A : Type 0} (x y : A) → (let o : Option A = Some x in o) ≡ Some y → x ≡ y
some_is x y e = cc

after : (ident values : List ℕ) (tag : ℕ) (a b : Algorithm) (t : Bool) → tag ≡ 6 → t ≡ true → b ≡ a
    → cond (eqb tag 6 && t) (if_key (spelt_key b values)) None ≡ if_key (spelt_key a values)
after ident values tag a b t e f g = rw (e, f, g) refl

pub key_steps : (content ident values : List ℕ) (tag : ℕ) (a : Algorithm) (r : Option Key)
    → (let o : Result First TlvRefusal = Ok (object_of tag ident values) in first_object content ≡ o) → tag ≡ 6
    → (let o : Option Algorithm = Some a in o) ≡ cond (bytes_eq ident (algorithm_identifier (spelt_algorithm ident))) (Some (spelt_algorithm ident)) None
    → r ≡ if_key (spelt_key a values) → r ≡ read_key content
key_steps content ident values tag a r e t g k =
    elim (chosen (bytes_eq ident (algorithm_identifier (spelt_algorithm ident))) (Some (spelt_algorithm ident)) None (Some a) (sym g)) [
      | inl p ↦ k ∙ sym (ap key_after e ∙ after ident values tag a (spelt_algorithm ident) (bytes_eq ident (algorithm_identifier (spelt_algorithm ident))) t p.0 (some_is (spelt_algorithm ident) a p.1))
      | inr q ↦ absurd (let no = q.1 in cc)
    ]
