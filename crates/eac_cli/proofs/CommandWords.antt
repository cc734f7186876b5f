-- The words of a command.
use Rattle.std.proofs.Common.{◌≡◌, ℕ, List, [], ◌∷◌, length, Some, None, refl, ap, ◌∙◌, arith}
use Rattle.std.specs.Prelude.{slice_get}
use Rattle.std.specs.declared.option.Option.{Option}
use Rattle.eac_cli.specs.declared.tool.Command.{Command}
use Rattle.eac_cli.specs.Top.{command_named, command_of}

-- words that are not one are no command
pub not_one : (words : List (List ℕ)) → (length words ≡ 1 → ⊥) → None ≡ command_of words
not_one [] other = refl
not_one (v ∷ []) other = absurd (other refl)
not_one (v ∷ u ∷ us) other = refl

-- the one word is that of the command
pub one_named : (words : List (List ℕ)) (word : List ℕ) (command : Option Command) → length words ≡ 1 → Some word ≡ slice_get words 0 → command ≡ command_named word → command ≡ command_of words
one_named [] word command len is named = absurd (omega arith)
one_named (v ∷ []) word command len is named = let same : word ≡ v = cc in named ∙ ap command_named same
one_named (v ∷ u ∷ us) word command len is named = absurd (omega arith)
