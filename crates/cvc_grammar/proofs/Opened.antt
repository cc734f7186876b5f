-- What was written is read.
use Rattle.std.proofs.Common.{◌≡◌, ℕ, ◌-◌, ◌<◌, ◌≤◌, true, eqb, List, ◌++◌, length, Result, Ok, refl, ap, ◌∙◌, arith}
use Rattle.std.specs.Prelude.{IsTrue}
use Rattle.std.proofs.lemmas.List.{length-append}
use Rattle.tlv_core.specs.Object.{object, is_tag, First, first_object}
use Rattle.tlv_core.proofs.Objects.{object_again}
use Rattle.holder_reference.specs.Reference.{is_reference, read_reference}
use Rattle.cv_dates.specs.Calendar.{date_of, last_day}
use Rattle.cv_dates.proofs.DateLaws.{each_day_is_read}
use Rattle.cvc_grammar.specs.declared.refusal.CvcRefusal.{CvcRefusal}
use Rattle.cvc_grammar.specs.ReadingOrder.{Part, Found, found_in, expected, reference_in, date_in}

-- The object's content, and the part after it.
pub record Opened (tag : ℕ) (content more : List ℕ) (part : Part) : Type 0 where
  pub found : Found
  pub is_found : expected tag part ≡ Ok found
  pub content_is : found.content.bytes ≡ content
  pub rest_is : found.rest.bytes ≡ more
  pub size : found.rest.place - part.place ≡ length (object tag content)

eqb_same : (n : ℕ) → eqb n n ≡ true
eqb_same n = grind arith

pub opened : (tag : ℕ) (content more : List ℕ) (part : Part) → IsTrue (is_tag tag) → length content < 65536 → part.bytes ≡ object tag content ++ more → Opened tag content more part
opened tag content more part known short e =
    let o : First = record { tag = tag; content = content; rest = more } in
    let read : first_object part.bytes ≡ Ok o = ap first_object e ∙ object_again tag content more known short in
    record {
      found = found_in part o;
      is_found = rw (read, eqb_same tag) refl;
      content_is = refl;
      rest_is = refl;
      size = rw e (omega (arith, length-append (object tag content) more));
    }

pub reference_again : (r : List ℕ) → IsTrue (is_reference r) → (length r < 65536) × (read_reference r ≡ Ok r)
reference_again r h = grind arith

-- A value that was read, and the part after it.
pub record ReadAs {A : Type 0} (read : Result (A × Part) CvcRefusal) (value : A) (more : List ℕ) : Type 0 where
  pub rest : Part
  pub is_read : read ≡ Ok (value, rest)
  pub rest_is : rest.bytes ≡ more

pub reference_read : (tag : ℕ) (r more : List ℕ) (part : Part) → IsTrue (is_tag tag) → IsTrue (is_reference r) → part.bytes ≡ object tag r ++ more → ReadAs (reference_in tag part) r more
reference_read tag r more part known legal e =
    let back = reference_again r legal in
    let o = opened tag r more part known back.0 e in
    record { rest = o.found.rest; is_read = rw (o.is_found, o.content_is, back.1) refl; rest_is = o.rest_is }

pub date_read : (tag day : ℕ) (more : List ℕ) (part : Part) → IsTrue (is_tag tag) → day ≤ last_day → part.bytes ≡ object tag (date_of day) ++ more → ReadAs (date_in tag part) day more
date_read tag day more part known legal e =
    let o = opened tag (date_of day) more part known (omega arith) e in
    record { rest = o.found.rest; is_read = rw (o.is_found, o.content_is, each_day_is_read day legal) refl; rest_is = o.rest_is }

-- What is read as one and as the other.
pub one_read : {A F : Type 0} (r : Result A F) (x y : A) → r ≡ Ok x → r ≡ Ok y → x ≡ y
one_read r x y p q = cc
