-- The reading of a need, one line after the other.
use Rattle.std.proofs.Common.{◌≡◌, ℕ, List, [], ◌∷◌, ◌++◌, ◌⊎◌, inl, inr, None, Some, Ok, Err, refl, sym, ap, ◌∙◌}
use Rattle.std.specs.declared.option.Option.{Option}
use Rattle.std.specs.declared.result.Result.{Result}
use Rattle.eac_base.specs.Answers.{◌>>=◌, some_or}
use Rattle.eac_base.specs.Text.{numbered_lines}
use Rattle.renewal_plan.specs.NeedText.{form, end_line, with_line, with_lines, need_of, read_need}
use Rattle.renewal_plan.specs.NeedLaws.{IsFirstFault, EndsEarly, FirstIsNamed}
use Rattle.renewal_plan.specs.declared.need.Need.{Need}
use Rattle.renewal_plan.specs.declared.need_refusal.NeedRefusal.{NeedRefusal}
use Rattle.renewal_plan.specs.declared.need_text.Reading.{Reading}
use Rattle.renewal_plan.specs.declared.need_text.Reading.TheVariants as next

-- No line is left, and something is read.
pub all_read : (text : List ℕ) (need : Need) (r : Reading) (left : List (ℕ × List ℕ))
    → with_lines next.Need (numbered_lines text) ≡ with_lines r left → left ≡ [] → Some need ≡ need_of r → read_need text ≡ Ok need
all_read text need r left so none is =
    ap (λ w. w >>= λ r. some_or (need_of r) (form (end_line text))) (so ∙ ap (with_lines r) none)
    ∙ ap (λ o. some_or o (form (end_line text))) (sym is)

-- ---- the first line that breaks a rule

-- Behind what was read, the line after the front breaks the rule, and the front's lines break none.
record IsFaultBehind (start : Reading) (lines : List (ℕ × List ℕ)) (refusal : NeedRefusal) : Type 0 where
  front : List (ℕ × List ℕ)
  line : ℕ × List ℕ
  back : List (ℕ × List ℕ)
  before : Reading
  cut : lines ≡ front ++ line ∷ back
  fine : with_lines start front ≡ Ok before
  breaks : with_line before line ≡ Err refusal

module _ (l : ℕ × List ℕ) (ls : List (ℕ × List ℕ)) (f : NeedRefusal) (start : Reading) where
  step : (w : Result Reading NeedRefusal) → with_line start l ≡ w → (w >>= λ r. with_lines r ls) ≡ Err f
      → ((r : Reading) → with_lines r ls ≡ Err f → IsFaultBehind r ls f) → IsFaultBehind start (l ∷ ls) f
  step (Ok r) is refused rest =
      let h = rest r refused in
      record {
        front = l ∷ h.front;
        line = h.line;
        back = h.back;
        before = h.before;
        cut = ap (λ x. l ∷ x) h.cut;
        fine = ap (λ w. w >>= λ n. with_lines n h.front) is ∙ h.fine;
        breaks = h.breaks;
      }
  step (Err g) is refused rest = record { front = []; line = l; back = ls; before = start; cut = refl; fine = refl; breaks = is ∙ refused }

first_fault : (ls : List (ℕ × List ℕ)) (f : NeedRefusal) (start : Reading) → with_lines start ls ≡ Err f → IsFaultBehind start ls f
first_fault [] f start refused = cc
first_fault (l ∷ ls) f start refused = step l ls f start (with_line start l) refl refused (first_fault ls f)

-- ---- the end

module _ (text : List ℕ) (refusal : NeedRefusal) where
  at_end : (r : Reading) (o : Option Need) → with_lines next.Need (numbered_lines text) ≡ Ok r → need_of r ≡ o
      → some_or o (form (end_line text)) ≡ Err refusal → EndsEarly text refusal
  at_end r None fine is refused = record { before = r; fine = fine; wanting = is; behind = cc }
  at_end r (Some need) fine is refused = cc

  by_lines : (w : Result Reading NeedRefusal) → with_lines next.Need (numbered_lines text) ≡ w
      → (w >>= λ r. some_or (need_of r) (form (end_line text))) ≡ Err refusal
      → IsFirstFault (numbered_lines text) refusal ⊎ EndsEarly text refusal
  by_lines (Ok r) is refused = inr (at_end r (need_of r) is refl refused)
  by_lines (Err f) is refused =
      let h = first_fault (numbered_lines text) refusal next.Need (is ∙ ap Err (cc)) in
      inl (record { front = h.front; line = h.line; back = h.back; before = h.before; cut = h.cut; fine = h.fine; breaks = h.breaks })

pub first_is_named : FirstIsNamed
first_is_named text refusal refused = by_lines text refusal (with_lines next.Need (numbered_lines text)) refl refused
