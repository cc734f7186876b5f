-- A run goes on by one step, and what each step keeps holds at its end.
use Rattle.std.proofs.Common.{List, [], ◌∷◌, ◌++◌, refl, sym, subst}
use Rattle.eac_base.specs.Runs.{Runs}

module _ {State Event Answer : Type 0} (step : State → Event → Answer → State → Type 0) where
  pub runs_more : (first : State) (es : List Event) (answers : List Answer) (mid last : State) (e : Event) (a : Answer) → Runs step first es answers mid → step mid e a last → Runs step first (es ++ e ∷ []) (answers ++ a ∷ []) last
  runs_more first [] [] mid last e a r s = (last, subst (λ (x : State). step x e a last) r s, refl)
  runs_more first (x ∷ es) (b ∷ answers) mid last e a r s = (r.0, r.1, runs_more r.0 es answers mid last e a r.2 s)
  runs_more first [] (b ∷ answers) mid last e a r s = absurd r
  runs_more first (x ∷ es) [] mid last e a r s = absurd r

  pub runs_keep : (Holds : State → Type 0) → ((s : State) (e : Event) (a : Answer) (t : State) → Holds s → step s e a t → Holds t) → (first : State) (es : List Event) (answers : List Answer) (last : State) → Holds first → Runs step first es answers last → Holds last
  runs_keep Holds keeps first [] [] last h r = subst Holds (sym r) h
  runs_keep Holds keeps first (e ∷ es) (a ∷ answers) last h r = runs_keep Holds keeps r.0 es answers last (keeps first e a r.0 h r.1) r.2
  runs_keep Holds keeps first [] (a ∷ answers) last h r = absurd r
  runs_keep Holds keeps first (e ∷ es) [] last h r = absurd r

  -- a run of more steps of another kind, where each step is one of that kind
  pub runs_as : (other : State → Event → Answer → State → Type 0) → ((s : State) (e : Event) (a : Answer) (t : State) → step s e a t → other s e a t) → (first : State) (es : List Event) (answers : List Answer) (last : State) → Runs step first es answers last → Runs other first es answers last
  runs_as other each first [] [] last r = r
  runs_as other each first (e ∷ es) (a ∷ answers) last r = (r.0, each first e a r.0 r.1, runs_as other each r.0 es answers last r.2)
  runs_as other each first [] (a ∷ answers) last r = absurd r
  runs_as other each first (e ∷ es) [] last r = absurd r
