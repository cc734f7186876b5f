use Rattle.std.proofs.Common.{◌≡◌, ◌+◌, ℕ, Bool, true, List, Option, Some, sym, ap, ◌∙◌, subst, arith, set}
use Rattle.std.specs.Prelude.{not}
use Rattle.terminal_desk.specs.Walks.{IsMet, unmet, LeadsNowhere, AreLost, IsWalked, StandsUnder}
use Rattle.terminal_desk.proofs.Marks.{unmet-set}
use Rattle.terminal_desk.proofs.Walking.{stands_within, ends_here, begins, met_again, found, none_above, all_lost, goes_up, if_none}
use Rattle.terminal_desk.proofs.climbing.steps_up.Goals as goal

pub walk-init : goal.walk-init
walk-init c = begins c.args.cars.now c.args.cas.now c.args.own.now c.args.met.now c.in_ok-top.top.place c.in_ok-top.top.settled.now (sym c.in_ok-top.ensures.found) c.in_ok-top.ensures.placed c.requires.lost c.requires.all

pub enter-requires : goal.enter-requires
enter-requires c =
    let within = stands_within c.args.cas.now c.walk.top.place c.walk.top.settled.now c.walk.invariant.here in
    let all = c.walk.invariant.all in
    omega arith

pub returns-then-is_trusted-clause-found : goal.returns-then-is_trusted-clause-found
returns-then-is_trusted-clause-found c = found c.args.cars.now c.args.cas.now c.args.own.now c.walk.met c.walk.top.place c.walk.top.settled.now c.walk.steps c.walk.invariant (sym c.is_trusted.ensures ∙ c.if-is_trusted.true)

pub returns-in_err-top-2-clause-found : goal.returns-in_err-top-2-clause-found
returns-in_err-top-2-clause-found c =
    let nowhere : LeadsNowhere c.args.cars.now c.args.cas.now c.walk.top.settled.now = ends_here c.args.cars.now c.args.cas.now c.walk.top.settled.now (sym c.is_trusted.ensures ∙ c.if-is_trusted.false) (sym c.in_err-top-2.ensures.found) in
    let none = none_above c.args.cars.now c.args.cas.now c.args.own.now c.walk.met c.walk.top.place c.walk.top.settled.now c.walk.steps c.walk.invariant nowhere in
    subst (λ (o : Option ℕ). StandsUnder c.args.cars.now c.args.cas.now c.args.own.now o) (sym c.from_residual-in_err-top-2.ensures) none

pub returns-in_err-top-2-clause-lost : goal.returns-in_err-top-2-clause-lost
returns-in_err-top-2-clause-lost c =
    let nowhere : LeadsNowhere c.args.cars.now c.args.cas.now c.walk.top.settled.now = ends_here c.args.cars.now c.args.cas.now c.walk.top.settled.now (sym c.is_trusted.ensures ∙ c.if-is_trusted.false) (sym c.in_err-top-2.ensures.found) in
    let lost = all_lost c.args.cars.now c.args.cas.now c.args.own.now c.walk.met c.walk.top.place c.walk.top.settled.now c.walk.steps c.walk.invariant nowhere in
    if_none c.from_residual-in_err-top-2.result (AreLost c.args.cars.now c.args.cas.now c.enter.new.self) (subst (λ (m : List Bool). AreLost c.args.cars.now c.args.cas.now m) (sym c.enter.ensures.marked) lost)

pub walk-smaller : goal.walk-smaller
walk-smaller c =
    let less = unmet-set c.walk.met c.walk.top.place (c.enter.ensures.new ∙ ap (λ (b : Bool). Some (not b)) c.walk-test.true) in
    let marked : unmet c.enter.new.self ≡ unmet (set c.walk.met c.walk.top.place true) = ap unmet c.enter.ensures.marked in
    omega arith

pub walk-preserved : goal.walk-preserved
walk-preserved c =
    subst (λ (m : List Bool). IsWalked c.args.cars.now c.args.cas.now c.args.own.now m c.in_ok-top-2.top.place c.in_ok-top-2.top.settled.now (c.walk.steps + 1)) (sym c.enter.ensures.marked)
    (goes_up c.args.cars.now c.args.cas.now c.args.own.now c.walk.met c.walk.top.place c.walk.top.settled.now c.walk.steps c.walk.invariant c.in_ok-top-2.top.settled.now c.in_ok-top-2.top.place
    (c.enter.ensures.new ∙ ap (λ (b : Bool). Some (not b)) c.walk-test.true) (sym c.is_trusted.ensures ∙ c.if-is_trusted.false) (sym c.in_ok-top-2.ensures.found) c.in_ok-top-2.ensures.placed)

pub returns-clause-found : goal.returns-clause-found
returns-clause-found c =
    let again : IsMet c.walk.met c.walk.top.place = c.enter.ensures.new ∙ ap (λ (b : Bool). Some (not b)) c.walk-test.false in
    let nowhere = met_again c.args.cars.now c.args.cas.now c.args.own.now c.walk.met c.walk.top.place c.walk.top.settled.now c.walk.steps c.walk.invariant again in
    none_above c.args.cars.now c.args.cas.now c.args.own.now c.walk.met c.walk.top.place c.walk.top.settled.now c.walk.steps c.walk.invariant nowhere

pub returns-clause-lost : goal.returns-clause-lost
returns-clause-lost c =
    let again : IsMet c.walk.met c.walk.top.place = c.enter.ensures.new ∙ ap (λ (b : Bool). Some (not b)) c.walk-test.false in
    let nowhere = met_again c.args.cars.now c.args.cas.now c.args.own.now c.walk.met c.walk.top.place c.walk.top.settled.now c.walk.steps c.walk.invariant again in
    subst (λ (m : List Bool). AreLost c.args.cars.now c.args.cas.now m) (sym c.enter.ensures.marked)
    (all_lost c.args.cars.now c.args.cas.now c.args.own.now c.walk.met c.walk.top.place c.walk.top.settled.now c.walk.steps c.walk.invariant nowhere)
