-- A row that is no own row is added: it owes nothing of numbers, keys and signatures.
use Rattle.std.proofs.Common.{◌≡◌, ◌+◌, ℕ, List, [], ◌∷◌, ◌++◌, length, Bool, true, Some, None, refl, sym, subst, append-nil}
use Rattle.std.specs.Prelude.{IfSome}
use Rattle.std.specs.declared.option.Option.{Option}
use Rattle.std.specs.List.{All}
use Rattle.std.proofs.lemmas.List.Elements.{All-nil, All-cons}
use Rattle.signature_provider.specs.Provider.{PublicKey, Says, Holds, SaysMore, HoldsMore, public_key}
use Rattle.policy_limits.specs.Setup.{SetupValue, is_authority}
use Rattle.keeper.specs.declared.rows.Row.{Row}
use Rattle.keeper.specs.declared.rows.OwnPart.{OwnPart}
use Rattle.issue_core.specs.Issuing.Rows.{ReadablePart}
use Rattle.issue_core.specs.Registering.Desk.{Asked, rows_left}
use Rattle.holder_core.specs.Lawful.{NumberedFrom, IsFounded}
use Rattle.holder_core.specs.OwnRows.{own_rows, own_part}
use Rattle.eac_net.specs.Lawful.{AreLawful}
use Rattle.eac_net.specs.Made.{Made, key_at, key_named, made_part, all_made, IsGood, AreGood}
use Rattle.eac_net.specs.Parties.{is_party_of}
use Rattle.eac_net.proofs.Going.{KeepsRows, keeps_same, held_more, good_more}
use Rattle.eac_net.proofs.Grows.{lawful_append, held_append, good_append, AddsGood}
use Rattle.eac_net.proofs.Stays.{more_stay}

-- what is said of a row that is no own row
pub record IsBeside (row : Row) : Type 0 where
  pub owns : (desk : ℕ) → own_rows desk (row ∷ []) ≡ []
  pub part : own_part row.part ≡ None
  pub made : (at : ℕ → List ℕ → Option PublicKey) (named : List ℕ → Option PublicKey) (of : ℕ → Bool) → made_part at named of row.desk row.part ≡ []

module _ (setup : SetupValue) (said says : Says) (held holds : Holds) (more : SaysMore said says) (holds_more : HoldsMore held holds) (before : List Row) where
  pub keeps_beside : (row : Row) → IsBeside row → (AreLawful setup before → ReadablePart row.reference row.part) → KeepsRows setup said says held holds before (before ++ row ∷ [])
  keeps_beside row beside readable = record {
    lawful = λ l. lawful_append setup before (row ∷ []) (record {
      readable = (readable l, tt);
      numbered = λ desk p is. subst (NumberedFrom p.holder (1 + length (own_rows desk before))) (sym (beside.owns desk)) tt;
      founded = λ desk p is a. subst (All IsFounded) (sym (beside.owns desk)) (All-nil IsFounded);
    }) l;
    keys = λ l h. held_append holds before (row ∷ []) (held_more held holds before holds_more h)
        (All-cons (λ (r : Row). IfSome (own_part r.part) (λ own. holds (public_key own.key) ≡ true)) row []
        (subst (λ (x : Option OwnPart). IfSome x (λ own. holds (public_key own.key) ≡ true)) (sym beside.part) tt)
        (All-nil (λ (r : Row). IfSome (own_part r.part) (λ own. holds (public_key own.key) ≡ true))));
    good = λ l g.
        let after = before ++ row ∷ [] in
        let new : AddsGood setup says before (row ∷ []) =
        subst (λ (l : List Made). AreGood says (l ++ [])) (sym (beside.made (key_at after) (key_named setup after) (is_party_of is_authority setup))) (All-nil (IsGood says)) in
        good_append setup says before (row ∷ []) (good_more said says (all_made setup before) more g) new;
    stay = more_stay before (row ∷ []);
  }

  -- the row that a delivery to the register left
  pub keeps_registered : (asked : Asked) (left : Option (List ℕ)) → KeepsRows setup said says held holds before (before ++ rows_left asked left)
  keeps_registered asked None = subst (KeepsRows setup said says held holds before) (sym (append-nil before)) (keeps_same setup said says held holds before more holds_more)
  keeps_registered asked (Some day) = keeps_beside _ (record { owns = λ desk. refl; part = refl; made = λ at named of. refl }) (λ l. tt)
