-- What the text of a message or of a reply is read as.
use Rattle.std.proofs.Common.{◌≡◌, ◌≤◌, List, [], ◌∷◌, ◌++◌, Option, Some, option_and_then, Bool, true, false, Ok, refl, ap, sym, ◌∙◌, append-nil}
use Rattle.std.specs.Prelude.{⊤}
use Rattle.std.specs.Str.{IsUtf8}
use Rattle.std.proofs.lemmas.Str.{IsUtf8-append}
use Rattle.json.specs.Token.{Token}
use Rattle.json.specs.Lex.{tokens}
use Rattle.json.specs.Print.{quoted, token_text}
use Rattle.json.specs.Json as json
use Rattle.json.specs.Tree as tree
use Rattle.json.proofs.Printed.Tokens.{tokens-print}
use Rattle.json.proofs.Printed.Trees.{value-json_tokens, ArePrintable-json_tokens}
use Rattle.json.proofs.Printed.Utf8.{IsUtf8-quoted, IsUtf8-are_ascii, IsUtf8-boolean}
use Rattle.serde_json.specs.Data.{Data, null, boolean, number, string, array, object, Items, no_items, item, Members, no_members, member}
use Rattle.serde_json.specs.Read.{read, of_json, max_depth}
use Rattle.serde_json.specs.Written.{outline, number_text, comma_if, compact_text, items_text, members_text}
use Rattle.serde_json.proofs.Texts.{print-outline}
use Rattle.eac_messages.specs.Body.{object_in}
use Rattle.eac_messages.proofs.Bodies.{object_read}

-- ---- the text is UTF-8 where its parts are

abbrev mutual
  pub IsOfUtf8 : Data → Type 0
  IsOfUtf8 null = ⊤
  IsOfUtf8 (boolean b) = ⊤
  IsOfUtf8 (number n) = IsUtf8 (number_text n)
  IsOfUtf8 (string s) = IsUtf8 s
  IsOfUtf8 (array ds) = AreItemsOfUtf8 ds
  IsOfUtf8 (object ms) = AreMembersOfUtf8 ms

  pub AreItemsOfUtf8 : Items → Type 0
  AreItemsOfUtf8 no_items = ⊤
  AreItemsOfUtf8 (item d ds) = IsOfUtf8 d × AreItemsOfUtf8 ds

  pub AreMembersOfUtf8 : Members → Type 0
  AreMembersOfUtf8 no_members = ⊤
  AreMembersOfUtf8 (member k d ms) = IsUtf8 k × (IsOfUtf8 d × AreMembersOfUtf8 ms)

comma_is_utf8 : (later : Bool) → IsUtf8 (comma_if later)
comma_is_utf8 true = IsUtf8-are_ascii (44 ∷ []) refl
comma_is_utf8 false = IsUtf8-are_ascii [] refl

mutual
  pub text_is_utf8 : (d : Data) → IsOfUtf8 d → IsUtf8 (compact_text d)
  text_is_utf8 null is = IsUtf8-are_ascii (token_text Token.null) refl
  text_is_utf8 (boolean b) is = IsUtf8-boolean b
  text_is_utf8 (number n) is = is
  text_is_utf8 (string s) is = IsUtf8-quoted s is
  text_is_utf8 (array ds) is = IsUtf8-append (91 ∷ []) (items_text false ds) (IsUtf8-are_ascii (91 ∷ []) refl) (items_are_utf8 false ds is)
  text_is_utf8 (object ms) is = IsUtf8-append (123 ∷ []) (members_text false ms) (IsUtf8-are_ascii (123 ∷ []) refl) (members_are_utf8 false ms is)

  items_are_utf8 : (later : Bool) (ds : Items) → AreItemsOfUtf8 ds → IsUtf8 (items_text later ds)
  items_are_utf8 later no_items are = IsUtf8-are_ascii (93 ∷ []) refl
  items_are_utf8 later (item d ds) are =
      IsUtf8-append (comma_if later) (compact_text d ++ items_text true ds) (comma_is_utf8 later)
      (IsUtf8-append (compact_text d) (items_text true ds) (text_is_utf8 d are.0) (items_are_utf8 true ds are.1))

  members_are_utf8 : (later : Bool) (ms : Members) → AreMembersOfUtf8 ms → IsUtf8 (members_text later ms)
  members_are_utf8 later no_members are = IsUtf8-are_ascii (125 ∷ []) refl
  members_are_utf8 later (member k d ms) are =
      let value = IsUtf8-append (compact_text d) (members_text true ms) (text_is_utf8 d are.1.0) (members_are_utf8 true ms are.1.1) in
      let named = IsUtf8-append (58 ∷ []) (compact_text d ++ members_text true ms) (IsUtf8-are_ascii (58 ∷ []) refl) value in
      IsUtf8-append (comma_if later) (quoted k ++ 58 ∷ (compact_text d ++ members_text true ms)) (comma_is_utf8 later)
      (IsUtf8-append (quoted k) (58 ∷ (compact_text d ++ members_text true ms)) (IsUtf8-quoted k are.0) named)

-- ---- the text is read as the data

-- What a text needs to be read as the data that it was written for.
pub record IsWritten (d : Data) : Type 0 where
  pub texts : IsOfUtf8 d
  pub numbers : tree.HasNumbers (outline d)
  pub flat : tree.depth (outline d) ≤ max_depth
  pub same : of_json (outline d) ≡ Some d

abbrev whole : Option (json.Json × List Token) → Option Data
whole o = option_and_then of_json (option_and_then (λ p. json.if_last p.0 p.1) o)

tokens_again : (d : Data) → tree.HasNumbers (outline d) → tokens (compact_text d) ≡ tree.json_tokens (outline d)
tokens_again d numbers = ap tokens (sym (print-outline d)) ∙ tokens-print (tree.json_tokens (outline d)) (ArePrintable-json_tokens (outline d) numbers)

read_again : (d : Data) → IsWritten d → read (compact_text d) ≡ Some d
read_again d is =
    let all : tokens (compact_text d) ≡ tree.json_tokens (outline d) ++ [] = tokens_again d is.numbers ∙ sym (append-nil (tree.json_tokens (outline d))) in
    ap whole (ap (json.value max_depth) all ∙ value-json_tokens (outline d) max_depth [] is.flat) ∙ is.same

pub object_again : (ms : Members) → IsWritten (object ms) → object_in (compact_text (object ms)) ≡ Ok (object ms)
object_again ms is = object_read (compact_text (object ms)) (object ms) (text_is_utf8 (object ms) is.texts) (read_again (object ms) is) refl
