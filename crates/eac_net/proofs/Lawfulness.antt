-- Rows stay lawful by what a party's call keeps of its own rows.
use Rattle.std.proofs.Common.{◌≡◌, ℕ, List, Bool, true, false, Some, refl, sym, ap, ◌∙◌, subst, nat_eq}
use Rattle.std.specs.Prelude.{IsTrue}
use Rattle.std.specs.List.{All}
use Rattle.std.proofs.lemmas.Bool.{eqb-true, eqb-false}
use Rattle.policy_limits.specs.Setup.{SetupValue, party, is_authority}
use Rattle.policy_limits.specs.declared.party.Party.{Party}
use Rattle.keeper.specs.declared.rows.Row.{Row}
use Rattle.issue_core.specs.Issuing.Rows.{AreReadable}
use Rattle.holder_core.specs.Lawful.{NumberedFrom, AreNumbered, IsFounded, AreFounded}
use Rattle.holder_core.specs.LawfulCalls.{KeepsNumbers}
use Rattle.eac_net.specs.Lawful.{AreLawful}
use Rattle.eac_net.proofs.Finding.{some_same}

pub lawful_after : (setup : SetupValue) (desk : ℕ) (p : Party) → party setup desk ≡ Some p → (before after : List Row) → KeepsNumbers desk p.holder before after → (IsTrue (is_authority p.kind) → AreFounded desk before → AreFounded desk after) →
    AreReadable after → AreLawful setup before → AreLawful setup after
lawful_after setup desk p is before after keeps founded readable l = record {
  readable = readable;
  numbered = λ other q there. numbers other q there (nat_eq other desk) refl;
  founded = λ other q there a. founds other q there a (nat_eq other desk) refl;
}
  where
    one_party : (other : ℕ) (q : Party) → party setup other ≡ Some q → other ≡ desk → q ≡ p
    one_party other q there same = some_same q p (sym there ∙ ap (party setup) same ∙ is)

    numbers : (other : ℕ) (q : Party) → party setup other ≡ Some q → (b : Bool) → nat_eq other desk ≡ b → AreNumbered other q.holder after
    numbers other q there true e =
        let same : other ≡ desk = eqb-true other desk e in
        let whose : q ≡ p = one_party other q there same in
        subst (λ (x : ℕ × Party). AreNumbered x.0 x.1.holder after) (λ j. (sym same j, sym whose j)) (keeps.numbered (l.numbered desk p is))
    numbers other q there false e = subst (λ (rows : List Row). NumberedFrom q.holder 1 rows) (sym (keeps.others other (eqb-false other desk e))) (l.numbered other q there)

    founds : (other : ℕ) (q : Party) → party setup other ≡ Some q → IsTrue (is_authority q.kind) → (b : Bool) → nat_eq other desk ≡ b → AreFounded other after
    founds other q there a true e =
        let same : other ≡ desk = eqb-true other desk e in
        let kind : IsTrue (is_authority p.kind) = subst (λ (x : Party). IsTrue (is_authority x.kind)) (one_party other q there same) a in
        subst (λ (x : ℕ). AreFounded x after) (sym same) (founded kind (l.founded desk p is kind))
    founds other q there a false e = subst (λ (rows : List Row). All IsFounded rows) (sym (keeps.others other (eqb-false other desk e))) (l.founded other q there a)
