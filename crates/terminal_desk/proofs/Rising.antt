-- The authorities above an own certificate are those so many steps up.
use Rattle.std.proofs.Common.{◌≡◌, ℕ, zero, suc, ◌+◌, ◌-◌, ◌<◌, ◌≤◌, List, [], ◌∷◌, ◌++◌, length, take, get_or, Option, Some, None, Bool, true, false, cond, refl, sym, ap, ◌∙◌, arith, append_assoc}
use Rattle.std.specs.Prelude.{map, reverse, nat_lt, slice_get, option_to_list}
use Rattle.std.proofs.lemmas.Bool.{ltb-true, lt-ltb}
use Rattle.std.proofs.lemmas.List.{append-nil, reverse-append, take_more}
use Rattle.std.proofs.lemmas.Option.{slice_get-get_or}
use Rattle.chat_rights.specs.declared.Role.{Role}
use Rattle.keeper.specs.declared.rows.Row.{Row}
use Rattle.keeper.specs.declared.rows.Settled.{Settled}
use Rattle.terminal_desk.specs.Chain.{named, where_role, is_root, is_verifier, Climbs, Above}
use Rattle.terminal_desk.specs.Walks.{and_up, risen}

kept : (b : Bool) (a v : Settled) → cond b (Some a) None ≡ Some v → Some a ≡ Some v
kept true a v h = h
kept false a v h = absurd (cc)

named_so : (has_role : Role → Bool) (found : Option Settled) (v : Settled) → where_role has_role found ≡ Some v → found ≡ Some v
named_so has_role None v h = absurd (cc)
named_so has_role (Some a) v h = kept (has_role a.template.role) a v h

one_up : (cas : List Row) (n : ℕ) (below v : Settled) (more : List Settled) → named cas below.issuer ≡ Some v → risen cas n v ≡ more → risen cas (suc n) below ≡ v ∷ more
one_up cas n below v more e rest = ap (and_up (risen cas n)) e ∙ ap (λ l. v ∷ l) rest

climbed : (cars : List (List ℕ)) (cas : List Row) (top : Settled) (more : List Settled) → Climbs cars cas top more → risen cas (length more) top ≡ more
climbed cars cas top [] p = refl
climbed cars cas top (a ∷ more) p = one_up cas (length more) top a more (named_so is_root (named cas top.issuer) a p.1) (climbed cars cas a more p.2)

pub above_is_risen : (cars : List (List ℕ)) (cas : List Row) (own : Settled) (above : List Settled) → Above cars cas own above → risen cas (length above) own ≡ above
above_is_risen cars cas own [] p = absurd p
above_is_risen cars cas own (v ∷ more) p = one_up cas (length more) own v more (named_so is_verifier (named cas own.issuer) v p.0) (climbed cars cas v more p.1)

-- ---- copies on the way up

no_steps : (b : Bool) (o : Option Settled) (v : Settled) → cond b o None ≡ Some v → (b ≡ true) × (o ≡ Some v)
no_steps true o v h = (refl, h)
no_steps false o v h = absurd (cc)

up_one : (cas : List Row) (upward whole : List (List ℕ)) (left n : ℕ) (below v : Settled) → left ≡ suc n → named cas below.issuer ≡ Some v → upward ++ map (λ s. s.certificate) (risen cas left below) ≡ whole → (upward ++ v.certificate ∷ []) ++ map (λ s. s.certificate) (risen cas n v) ≡ whole
up_one cas upward whole left n below v e is so_far =
    append_assoc upward (v.certificate ∷ []) (map (λ s. s.certificate) (risen cas n v))
    ∙ ap (λ l. upward ++ map (λ s. s.certificate) l) (sym (one_up cas n below v (risen cas n v) is refl) ∙ ap (λ k. risen cas k below) (sym e))
    ∙ so_far

pub up_more : (cas : List Row) (upward whole : List (List ℕ)) (left : ℕ) (below v : Settled) → cond (nat_lt 0 left) (named cas below.issuer) None ≡ Some v → upward ++ map (λ s. s.certificate) (risen cas left below) ≡ whole → (upward ++ v.certificate ∷ []) ++ map (λ s. s.certificate) (risen cas (left - 1) v) ≡ whole
up_more cas upward whole left below v next so_far =
    let there = no_steps (nat_lt 0 left) (named cas below.issuer) v next in
    let some : 0 < left = ltb-true 0 left there.0 in
    up_one cas upward whole left (left - 1) below v (omega arith) there.1 so_far

none_left : (cas : List Row) (left : ℕ) (below : Settled) → cond (nat_lt 0 left) (named cas below.issuer) None ≡ None → risen cas left below ≡ []
none_left cas zero below next = refl
none_left cas (suc n) below next = ap (and_up (risen cas n)) (ap (λ b. cond b (named cas below.issuer) None) (sym (lt-ltb 0 (suc n) (omega arith))) ∙ next)

pub up_end : (cas : List Row) (upward whole : List (List ℕ)) (left : ℕ) (below : Settled) → cond (nat_lt 0 left) (named cas below.issuer) None ≡ None → upward ++ map (λ s. s.certificate) (risen cas left below) ≡ whole → upward ≡ whole
up_end cas upward whole left below next so_far = sym (append-nil upward) ∙ ap (λ l. upward ++ map (λ s. s.certificate) l) (sym (none_left cas left below next)) ∙ so_far

-- ---- and turned

pub turn_more : (chain upward whole : List (List ℕ)) (at : ℕ) → 0 < at → at ≤ length upward → chain ++ reverse (take at upward) ≡ whole → (chain ++ option_to_list (slice_get upward (at - 1))) ++ reverse (take (at - 1) upward) ≡ whole
turn_more chain upward whole at some within so_far =
    let last = slice_get-get_or upward (at - 1) [] (omega arith) in
    let front : take at upward ≡ take (at - 1) upward ++ (get_or upward (at - 1) [] ∷ []) = ap (λ n. take n upward) (let e : at ≡ at - 1 + 1 = omega arith in e) ∙ take_more upward (at - 1) [] (omega arith) in
    let turned : reverse (take at upward) ≡ get_or upward (at - 1) [] ∷ reverse (take (at - 1) upward) = ap reverse front ∙ reverse-append (take (at - 1) upward) (get_or upward (at - 1) [] ∷ []) in
    ap (λ o. (chain ++ option_to_list o) ++ reverse (take (at - 1) upward)) last
    ∙ append_assoc chain (get_or upward (at - 1) [] ∷ []) (reverse (take (at - 1) upward))
    ∙ ap (λ l. chain ++ l) (sym turned)
    ∙ so_far
