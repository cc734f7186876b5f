-- The event that a line names in a setup may be run there: its parties have their parts, a day stands where it wants one,
-- and its bytes are within the limits.
use Rattle.std.proofs.Common.{◌≡◌, ℕ, ◌≤◌, ◌<◌, Bool, true, false, cond, List, length, Some, None, refl, sym, ap, ◌∙◌, subst, inl, inr}
use Rattle.std.specs.Prelude.{IsTrue, IsSome, ◌==◌}
use Rattle.std.specs.Option.{option_or}
use Rattle.std.specs.declared.option.Option.{Option}
use Rattle.std.proofs.lemmas.Bool.{eqb-true, eqb-false}
use Rattle.eac_base.specs.Answers.{◌gives◌}
use Rattle.policy_limits.specs.Setup.{SetupValue, number_of, is_authority, is_verifier, is_inspection_system}
use Rattle.policy_limits.specs.declared.party.PartyKind.{PartyKind}
use Rattle.eac_net.specs.Chips.{IsBelow, HasChip}
use Rattle.eac_net.specs.Parties.{is_any, is_issuer, is_holder, is_party_of}
use Rattle.eac_net.specs.Steps.{FitsLine, HasDay, later_day}
use Rattle.eac_net.specs.declared.event.Event.{Event}
use Rattle.eac_net.specs.declared.event.Event.TheVariants as events
use Rattle.eac_cli.specs.Naming.{numbered, found_in, link_in, trust_in, asked_by_verifier, asked_by_system, apply_in, fetch_in, push_in, send_in, make_in, present_in, import_in, look_in, event_in}
use Rattle.eac_cli.specs.Script.{day_begun, order_rule}
use Rattle.eac_cli.specs.declared.named_event.NamedEvent.{NamedEvent}
use Rattle.eac_cli.specs.declared.named_event.NamedEvent.TheVariants as named

-- ---- what is given

through : {A : Type 0} (o : Option A) (f : A → Option Event) (event : Event) (Q : Event → Type 0) → ((a : A) → o ≡ Some a → f a ≡ Some event → Q event) → (o gives f) ≡ Some event → Q event
through (Some a) f event Q h is = h a refl is
through None f event Q h is = absurd (cc)

some_is : (Q : Event → Type 0) (e event : Event) → Q e → Some e ≡ Some event → Q event
some_is Q e event q is = let same : e ≡ event = cc in subst Q same q

by_test : (b : Bool) (k n : ℕ) → cond b (Some k) None ≡ Some n → (b ≡ true) × (k ≡ n)
by_test true k n is = (refl, cc)
by_test false k n is = absurd (cc)

-- the party has that part
has_number : (test : PartyKind → Bool) (setup : SetupValue) (o : Option ℕ) (n : ℕ) → (o gives λ k. cond (is_party_of test setup k) (Some k) None) ≡ Some n → IsTrue (is_party_of test setup n)
has_number test setup (Some k) n is =
    let both = by_test (is_party_of test setup k) k n is in
    subst (λ (x : ℕ). IsTrue (is_party_of test setup x)) both.1 both.0
has_number test setup None n is = absurd (cc)

numbered_is : (test : PartyKind → Bool) (setup : SetupValue) (holder : List ℕ) (n : ℕ) → numbered test setup holder ≡ Some n → IsTrue (is_party_of test setup n)
numbered_is test setup holder n is = has_number test setup (number_of setup holder) n is

-- ---- events that begin no day

-- what a line says of its bytes and numbers by itself
abbrev pub IsWithin : (chips : ℕ) → NamedEvent → Type 0
IsWithin chips (named.Day day) = Unit {0}
IsWithin chips (named.Ask reference bytes) = length bytes ≤ 4096
IsWithin chips (named.Found authority) = Unit {0}
IsWithin chips (named.Link authority) = Unit {0}
IsWithin chips (named.Trust party authority) = Unit {0}
IsWithin chips (named.Apply holder authority root) = Unit {0}
IsWithin chips (named.Fetch party desk) = Unit {0}
IsWithin chips (named.Push desk party) = Unit {0}
IsWithin chips (named.Send from to bytes) = length bytes ≤ 4096
IsWithin chips (named.Deliver packet) = 0 < packet
IsWithin chips (named.Make chip authority) = IsBelow chips chip
IsWithin chips (named.Present chip terminal) = IsBelow chips chip
IsWithin chips (named.Import chip bytes) = IsBelow chips chip × (length bytes ≤ 4096)
IsWithin chips (named.Look chip) = IsBelow chips chip

-- It leaves the day in force, has one where one stands, and fits.
record Acts (chips : ℕ) (setup : SetupValue) (event : Event) : Type 0 where
  pub later : (today : Option ℕ) → later_day today event ≡ today
  pub has : (today : Option ℕ) → IsSome today → HasDay today event
  pub chip : HasChip chips event
  pub fits : FitsLine setup event

module _ (chips : ℕ) (setup : SetupValue) (event : Event) where
  found_acts : (authority : List ℕ) → found_in setup authority ≡ Some event → Acts chips setup event
  found_acts authority = through (numbered is_authority setup authority) (λ a. Some (events.Found a)) event (Acts chips setup)
      (λ a a_is. some_is (Acts chips setup) (events.Found a) event (record { later = λ today. refl; has = λ today some. some; chip = tt; fits = numbered_is is_authority setup authority a a_is }))

  link_acts : (authority : List ℕ) → link_in setup authority ≡ Some event → Acts chips setup event
  link_acts authority = through (numbered is_authority setup authority) (λ a. Some (events.Link a)) event (Acts chips setup)
      (λ a a_is. some_is (Acts chips setup) (events.Link a) event (record { later = λ today. refl; has = λ today some. some; chip = tt; fits = numbered_is is_authority setup authority a a_is }))

  trusted : (p a : ℕ) (b : Bool) → b ≡ (p == a) → IsTrue (is_party_of is_any setup p) → IsTrue (is_party_of is_authority setup a) → cond b None (Some (events.Trust p a)) ≡ Some event → Acts chips setup event
  trusted p a true same p_is a_is is = absurd (cc)
  trusted p a false other p_is a_is is = some_is (Acts chips setup) (events.Trust p a) event
      (record { later = λ today. refl; has = λ today some. some; chip = tt; fits = record { party_is = p_is; authority_is = a_is; differ = eqb-false p a (sym other) } }) is

  trust_acts : (party authority : List ℕ) → trust_in setup party authority ≡ Some event → Acts chips setup event
  trust_acts party authority = through (numbered is_any setup party) (λ p. numbered is_authority setup authority gives λ a. cond (p == a) None (Some (events.Trust p a))) event (Acts chips setup)
      (λ p p_is. through (numbered is_authority setup authority) (λ a. cond (p == a) None (Some (events.Trust p a))) event (Acts chips setup)
      (λ a a_is. trusted p a (p == a) refl (numbered_is is_any setup party p p_is) (numbered_is is_authority setup authority a a_is)))

  asked : (h a r : ℕ) (b : Bool) → b ≡ (a == r) → IsTrue (is_party_of is_authority setup r) → IsTrue (is_party_of is_verifier setup h) → cond b (Some (events.Apply h a r)) None ≡ Some event → Acts chips setup event
  asked h a r true same r_is h_is is = some_is (Acts chips setup) (events.Apply h a r) event
      (record { later = λ today. refl; has = λ today some. some; chip = tt; fits = record { root_is = r_is; asks = inl (h_is, eqb-true a r (sym same)) } }) is
  asked h a r false other r_is h_is is = absurd (cc)

  verifier_asks : (holder authority : List ℕ) (r : ℕ) → IsTrue (is_party_of is_authority setup r) → asked_by_verifier setup holder authority r ≡ Some event → Acts chips setup event
  verifier_asks holder authority r r_is = through (numbered is_verifier setup holder) (λ h. number_of setup authority gives λ a. cond (a == r) (Some (events.Apply h a r)) None) event (Acts chips setup)
      (λ h h_is. through (number_of setup authority) (λ a. cond (a == r) (Some (events.Apply h a r)) None) event (Acts chips setup)
      (λ a a_is. asked h a r (a == r) refl r_is (numbered_is is_verifier setup holder h h_is)))

  system_asks : (holder authority : List ℕ) (r : ℕ) → IsTrue (is_party_of is_authority setup r) → asked_by_system setup holder authority r ≡ Some event → Acts chips setup event
  system_asks holder authority r r_is = through (numbered is_inspection_system setup holder) (λ h. numbered is_verifier setup authority gives λ a. Some (events.Apply h a r)) event (Acts chips setup)
      (λ h h_is. through (numbered is_verifier setup authority) (λ a. Some (events.Apply h a r)) event (Acts chips setup)
      (λ a a_is. some_is (Acts chips setup) (events.Apply h a r) event (record { later = λ today. refl; has = λ today some. some; chip = tt; fits = record { root_is = r_is; asks = inr (numbered_is is_inspection_system setup holder h h_is, numbered_is is_verifier setup authority a a_is) } })))

  either : (o p : Option Event) → (o ≡ Some event → Acts chips setup event) → (p ≡ Some event → Acts chips setup event) → option_or o p ≡ Some event → Acts chips setup event
  either (Some e) p f g is = f is
  either None p f g is = g is

  apply_acts : (holder authority root : List ℕ) → apply_in setup holder authority root ≡ Some event → Acts chips setup event
  apply_acts holder authority root = through (numbered is_authority setup root) (λ r. option_or (asked_by_verifier setup holder authority r) (asked_by_system setup holder authority r)) event (Acts chips setup)
      (λ r r_is. either (asked_by_verifier setup holder authority r) (asked_by_system setup holder authority r)
      (verifier_asks holder authority r (numbered_is is_authority setup root r r_is)) (system_asks holder authority r (numbered_is is_authority setup root r r_is)))

  fetch_acts : (party desk : List ℕ) → fetch_in setup party desk ≡ Some event → Acts chips setup event
  fetch_acts party desk = through (numbered is_holder setup party) (λ p. numbered is_issuer setup desk gives λ d. Some (events.Fetch p d)) event (Acts chips setup)
      (λ p p_is. through (numbered is_issuer setup desk) (λ d. Some (events.Fetch p d)) event (Acts chips setup)
      (λ d d_is. some_is (Acts chips setup) (events.Fetch p d) event (record { later = λ today. refl; has = λ today some. some; chip = tt; fits = record { party_is = numbered_is is_holder setup party p p_is; desk_is = numbered_is is_issuer setup desk d d_is } })))

  push_acts : (desk party : List ℕ) → push_in setup desk party ≡ Some event → Acts chips setup event
  push_acts desk party = through (numbered is_issuer setup desk) (λ d. numbered is_holder setup party gives λ p. Some (events.Push d p)) event (Acts chips setup)
      (λ d d_is. through (numbered is_holder setup party) (λ p. Some (events.Push d p)) event (Acts chips setup)
      (λ p p_is. some_is (Acts chips setup) (events.Push d p) event (record { later = λ today. refl; has = λ today some. some; chip = tt; fits = record { desk_is = numbered_is is_issuer setup desk d d_is; party_is = numbered_is is_holder setup party p p_is } })))

  send_acts : (from to bytes : List ℕ) → length bytes ≤ 4096 → send_in setup from to bytes ≡ Some event → Acts chips setup event
  send_acts from to bytes small = through (numbered is_any setup from) (λ f. numbered is_any setup to gives λ t. Some (events.Send f t bytes)) event (Acts chips setup)
      (λ f f_is. through (numbered is_any setup to) (λ t. Some (events.Send f t bytes)) event (Acts chips setup)
      (λ t t_is. some_is (Acts chips setup) (events.Send f t bytes) event (record { later = λ today. refl; has = λ today some. some; chip = tt; fits = record { sender = numbered_is is_any setup from f f_is; receiver = numbered_is is_any setup to t t_is; size = small } })))

  make_acts : (chip : Option ℕ) (authority : List ℕ) → IsBelow chips chip → make_in setup chip authority ≡ Some event → Acts chips setup event
  make_acts chip authority below = through chip (λ c. numbered is_authority setup authority gives λ a. Some (events.Make c a)) event (Acts chips setup)
      (λ c c_is. through (numbered is_authority setup authority) (λ a. Some (events.Make c a)) event (Acts chips setup)
      (λ a a_is. some_is (Acts chips setup) (events.Make c a) event (record { later = λ today. refl; has = λ today some. some; chip = subst (IsBelow chips) c_is below; fits = numbered_is is_authority setup authority a a_is })))

  present_acts : (chip : Option ℕ) (terminal : List ℕ) → IsBelow chips chip → present_in setup chip terminal ≡ Some event → Acts chips setup event
  present_acts chip terminal below = through chip (λ c. numbered is_inspection_system setup terminal gives λ t. Some (events.Present c t)) event (Acts chips setup)
      (λ c c_is. through (numbered is_inspection_system setup terminal) (λ t. Some (events.Present c t)) event (Acts chips setup)
      (λ t t_is. some_is (Acts chips setup) (events.Present c t) event (record { later = λ today. refl; has = λ today some. some; chip = subst (IsBelow chips) c_is below; fits = numbered_is is_inspection_system setup terminal t t_is })))

  import_acts : (chip : Option ℕ) (bytes : List ℕ) → IsBelow chips chip → length bytes ≤ 4096 → import_in chip bytes ≡ Some event → Acts chips setup event
  import_acts chip bytes below small = through chip (λ c. Some (events.Import c bytes)) event (Acts chips setup)
      (λ c c_is. some_is (Acts chips setup) (events.Import c bytes) event (record { later = λ today. refl; has = λ today some. some; chip = subst (IsBelow chips) c_is below; fits = small }))

  look_acts : (chip : Option ℕ) → IsBelow chips chip → look_in chip ≡ Some event → Acts chips setup event
  look_acts chip below = through chip (λ c. Some (events.Look c)) event (Acts chips setup)
      (λ c c_is. some_is (Acts chips setup) (events.Look c) event (record { later = λ today. refl; has = λ today some. some; chip = subst (IsBelow chips) c_is below; fits = tt }))

-- ---- any event

-- The day in force after the event is the one that it begins, or else stays; where no rule of order is broken it has a day
-- where it wants one; and it fits.
pub record Fits (chips : ℕ) (setup : SetupValue) (n : NamedEvent) (event : Event) : Type 0 where
  pub later : (today : Option ℕ) → later_day today event ≡ option_or (day_begun n) today
  pub has : (today : Option ℕ) → order_rule today (day_begun n) ≡ None → HasDay today event
  pub chip : HasChip chips event
  pub fits : FitsLine setup event

day_there : (today : Option ℕ) → order_rule today None ≡ None → IsSome today
day_there None fine = absurd (cc)
day_there (Some today) fine = refl

undated : (chips : ℕ) (setup : SetupValue) (n : NamedEvent) (event : Event) → day_begun n ≡ None → Acts chips setup event → Fits chips setup n event
undated chips setup n event none a = record {
  later = λ today. a.later today ∙ sym (ap (λ (begun : Option ℕ). option_or begun today) none);
  has = λ today fine. a.has today (day_there today (sym (ap (order_rule today) none) ∙ fine));
  chip = a.chip;
  fits = a.fits;
}

pub named_fits : (chips : ℕ) (setup : SetupValue) (n : NamedEvent) (event : Event) → IsWithin chips n → event_in setup n ≡ Some event → Fits chips setup n event
named_fits chips setup (named.Day day) event within is = some_is (Fits chips setup (named.Day day)) (events.Day day) event (record { later = λ today. refl; has = λ today fine. tt; chip = tt; fits = tt }) is
named_fits chips setup (named.Ask reference bytes) event within is = undated chips setup (named.Ask reference bytes) event refl (some_is (Acts chips setup) (events.Ask reference bytes) event (record { later = λ today. refl; has = λ today some. some; chip = tt; fits = within }) is)
named_fits chips setup (named.Found authority) event within is = undated chips setup (named.Found authority) event refl (found_acts chips setup event authority is)
named_fits chips setup (named.Link authority) event within is = undated chips setup (named.Link authority) event refl (link_acts chips setup event authority is)
named_fits chips setup (named.Trust party authority) event within is = undated chips setup (named.Trust party authority) event refl (trust_acts chips setup event party authority is)
named_fits chips setup (named.Apply holder authority root) event within is = undated chips setup (named.Apply holder authority root) event refl (apply_acts chips setup event holder authority root is)
named_fits chips setup (named.Fetch party desk) event within is = undated chips setup (named.Fetch party desk) event refl (fetch_acts chips setup event party desk is)
named_fits chips setup (named.Push desk party) event within is = undated chips setup (named.Push desk party) event refl (push_acts chips setup event desk party is)
named_fits chips setup (named.Send from to bytes) event within is = undated chips setup (named.Send from to bytes) event refl (send_acts chips setup event from to bytes within is)
named_fits chips setup (named.Deliver packet) event within is = undated chips setup (named.Deliver packet) event refl (some_is (Acts chips setup) (events.Deliver packet) event (record { later = λ today. refl; has = λ today some. some; chip = tt; fits = within }) is)
named_fits chips setup (named.Make chip authority) event within is = undated chips setup (named.Make chip authority) event refl (make_acts chips setup event chip authority within is)
named_fits chips setup (named.Present chip terminal) event within is = undated chips setup (named.Present chip terminal) event refl (present_acts chips setup event chip terminal within is)
named_fits chips setup (named.Import chip bytes) event within is = undated chips setup (named.Import chip bytes) event refl (import_acts chips setup event chip bytes within.0 within.1 is)
named_fits chips setup (named.Look chip) event within is = undated chips setup (named.Look chip) event refl (look_acts chips setup event chip within is)

-- a line that names no event here begins no day
pub none_begins : (setup : SetupValue) (n : NamedEvent) → event_in setup n ≡ None → day_begun n ≡ None
none_begins setup (named.Day day) none = absurd (cc)
none_begins setup (named.Ask reference bytes) none = refl
none_begins setup (named.Found authority) none = refl
none_begins setup (named.Link authority) none = refl
none_begins setup (named.Trust party authority) none = refl
none_begins setup (named.Apply holder authority root) none = refl
none_begins setup (named.Fetch party desk) none = refl
none_begins setup (named.Push desk party) none = refl
none_begins setup (named.Send from to bytes) none = refl
none_begins setup (named.Deliver packet) none = refl
none_begins setup (named.Make chip authority) none = refl
none_begins setup (named.Present chip terminal) none = refl
none_begins setup (named.Import chip bytes) none = refl
none_begins setup (named.Look chip) none = refl
