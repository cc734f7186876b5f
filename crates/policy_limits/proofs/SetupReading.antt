-- The reading of a setup, one line after the other.
use Rattle.std.proofs.Common.{◌≡◌, ℕ, List, [], ◌∷◌, ◌++◌, None, Some, Ok, Err, refl, ap, ◌∙◌}
use Rattle.std.specs.declared.option.Option.{Option}
use Rattle.std.specs.declared.result.Result.{Result}
use Rattle.eac_base.specs.Answers.{◌>>=◌, Refuses}
use Rattle.eac_base.specs.Text.{numbered_lines}
use Rattle.policy_limits.specs.Setup.{SetupValue, setup_value}
use Rattle.policy_limits.specs.SetupText.{with_line, with_lines, IsFirstFault, FirstIsNamed}
use Rattle.policy_limits.specs.declared.setup_refusal.SetupRefusal.{SetupRefusal}

module _ (all : Result SetupValue SetupRefusal) (before : SetupValue) (line : ℕ × List ℕ) (lines more : List (ℕ × List ℕ)) (so : all ≡ with_lines before lines) (next : lines ≡ line ∷ more) where
  first : all ≡ (with_line before line >>= λ r. with_lines r more)
  first = so ∙ ap (with_lines before) next

  -- One line more is read.
  pub line_taken : (after : SetupValue) → with_line before line ≡ Ok after → all ≡ with_lines after more
  line_taken after taken = first ∙ ap (λ r. r >>= λ after. with_lines after more) taken

  -- The first line that is refused is the text's refusal.
  pub line_refused : (rule : Option SetupRefusal) → Refuses rule (with_line before line) → Refuses rule all
  line_refused None refused = tt
  line_refused (Some rule) refused = first ∙ ap (λ r. r >>= λ after. with_lines after more) refused

pub all_read : (all : Result SetupValue SetupRefusal) (before : SetupValue) (lines : List (ℕ × List ℕ)) → all ≡ with_lines before lines → lines ≡ [] → all ≡ Ok before
all_read all before lines so none = so ∙ ap (with_lines before) none

-- ---- one text behind another

then : (w : Result SetupValue SetupRefusal) (front back : List (ℕ × List ℕ)) → ((next : SetupValue) → with_lines next (front ++ back) ≡ (with_lines next front >>= λ r. with_lines r back)) → (w >>= λ next. with_lines next (front ++ back)) ≡ ((w >>= λ next. with_lines next front) >>= λ r. with_lines r back)
then (Ok next) front back h = h next
then (Err f) front back h = refl

pub both_parts : (start : SetupValue) (front back : List (ℕ × List ℕ)) → with_lines start (front ++ back) ≡ (with_lines start front >>= λ r. with_lines r back)
both_parts start [] back = refl
both_parts start (line ∷ front) back = then (with_line start line) front back (λ next. both_parts next front back)

-- ---- the first line that breaks a rule

module _ (l : ℕ × List ℕ) (ls : List (ℕ × List ℕ)) (f : SetupRefusal) (start : SetupValue) where
  step : (w : Result SetupValue SetupRefusal) → with_line start l ≡ w → (w >>= λ next. with_lines next ls) ≡ Err f → ((next : SetupValue) → with_lines next ls ≡ Err f → IsFirstFault next ls f) → IsFirstFault start (l ∷ ls) f
  step (Ok next) is refused rest =
      let h = rest next refused in
      record {
        front = l ∷ h.front;
        line = h.line;
        back = h.back;
        before = h.before;
        cut = ap (λ x. l ∷ x) h.cut;
        fine = ap (λ w. w >>= λ n. with_lines n h.front) is ∙ h.fine;
        breaks = h.breaks;
      }
  step (Err g) is refused rest = record { front = []; line = l; back = ls; before = start; cut = refl; fine = refl; breaks = is ∙ refused }

first_fault : (ls : List (ℕ × List ℕ)) (f : SetupRefusal) (start : SetupValue) → with_lines start ls ≡ Err f → IsFirstFault start ls f
first_fault [] f start refused = cc
first_fault (l ∷ ls) f start refused = step l ls f start (with_line start l) refl refused (first_fault ls f)

pub first_is_named : FirstIsNamed
first_is_named text f refused = first_fault (numbered_lines text) f (setup_value [] []) refused
