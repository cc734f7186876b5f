-- A founding certificate is carried by hand.
use Rattle.std.proofs.Common.{◌≡◌, ◌⊎◌, ℕ, List, [], ◌∷◌, ◌++◌, Bool, true, false, cond, Some, None, Ok, Err, inl, inr, refl, sym, ap, ◌∙◌, subst}
use Rattle.std.specs.Prelude.{◌&&◌, IfOk, IfSome, IsSome, is_ok, option_map}
use Rattle.std.specs.declared.option.Option.{Option}
use Rattle.std.specs.declared.result.Result.{Result}
use Rattle.std.specs.List.{find}
use Rattle.std.proofs.lemmas.List.Elements.{All-nil}
use Rattle.eac_base.specs.Telling.{Told}
use Rattle.eac_base.proofs.Tellings.{told_then, told_more}
use Rattle.signature_provider.specs.Provider.{Says, Holds}
use Rattle.policy_limits.specs.Setup.{SetupValue, party as party_of}
use Rattle.policy_limits.specs.declared.party.Party.{Party}
use Rattle.keeper.specs.declared.rows.Row.{Row}
use Rattle.keeper.specs.declared.rows.CaPart.{CaPart}
use Rattle.keeper.specs.declared.rows.Settled.{Settled}
use Rattle.keeper.specs.declared.rows.Part.{Part}
use Rattle.keeper.specs.declared.rows.Part.TheVariants as part
use Rattle.keeper.specs.declared.rows.Table.TheVariants as table
use Rattle.std.specs.Str.{bytes_eq}
use Rattle.eac_base.proofs.EqualBytes.{bytes_eq-true}
use Rattle.keeper.specs.Keeping.{IsAsked}
use Rattle.keeper.specs.Rows.{is_of, has_key, row_at}
use Rattle.issue_core.specs.Issuing.Rows.{AreReadable, ReadablePart, IsSettled}
use Rattle.holder_core.specs.Faults.{KeeperCaused}
use Rattle.holder_core.specs.Numbers.{numbered}
use Rattle.holder_core.specs.WritesOnce.{HasWritten}
use Rattle.holder_core.specs.Trusting.{Trusts, TrustCause, carried, trusted_row, trust_due, unwritten}
use Rattle.holder_core.specs.declared.ca_rule.CaRule.TheVariants as rule
use Rattle.holder_core.specs.declared.ca_rule.TakenCa.{TakenCa}
use Rattle.holder_core.specs.declared.ca_rule.TakenCa.TheVariants as taken
use Rattle.holder_core.specs.declared.fault.HolderFault.{HolderFault}
use Rattle.holder_core.proofs.Causes.{quiet_seen}
use Rattle.eac_net.specs.Acting.{founding_in, founding_reference, carried_in, trusted_as, TrustsRow, TrustRowAsked, TrustsFounding, TrustSays, TrustAsked, no_packet}
use Rattle.eac_net.specs.Answers.{Tells, Concludes, answer_by}
use Rattle.eac_net.specs.Objects.{Outside}
use Rattle.eac_net.specs.Packets.{IsBetween, AreBetween}
use Rattle.eac_net.specs.Parties.{holder_of}
use Rattle.eac_net.specs.Steps.{HasStepped}
use Rattle.eac_net.specs.declared.answer.Answer.TheVariants as answers
use Rattle.eac_net.specs.declared.answer.Happened.{Happened}
use Rattle.eac_net.specs.declared.answer.Trusted.{Trusted}
use Rattle.eac_net.specs.declared.answer.Trusted.TheVariants as trusted
use Rattle.eac_net.specs.declared.event.Event.TheVariants as events
use Rattle.eac_net.specs.declared.world.World.{World}
use Rattle.eac_net.proofs.Beside.{keeps_beside}
use Rattle.eac_net.proofs.Going.{KeepsRows, keeps_same}
use Rattle.eac_net.proofs.Keepings.{kept_steps}
use Rattle.eac_net.proofs.Writings.{writes_cases}

-- ---- the row is there

-- of the refusals `Full` alone comes
pub trusts_row : (party : ℕ) (reference : List ℕ) (ca : CaPart) (before after : List Row) (answer : TakenCa) → TrustCause party reference answer → Trusts party reference ca before after (Ok answer) →
    TrustsRow party reference ca before after (Ok (trusted_as answer))
trusts_row party reference ca before after (taken.Stored r) cause h = h
trusts_row party reference ca before after (taken.Held r) cause h = h
trusts_row party reference ca before after (taken.Refused k) cause h = subst (λ (x : _). Trusts party reference ca before after (Ok (taken.Refused x))) cause h

pub row_asked : (party : ℕ) (reference : List ℕ) (answer : TakenCa) → TrustCause party reference answer → TrustRowAsked party reference (trusted_as answer)
row_asked party reference (taken.Stored r) cause = cause
row_asked party reference (taken.Held r) cause = cause
row_asked party reference (taken.Refused k) cause = tt

-- the same where rows may be told or not
pub told_trusts : (party : ℕ) (reference : List ℕ) (x : Option CaPart) (a b : Option (List Row)) (answer : TakenCa) (said : Trusted) → TrustCause party reference answer → said ≡ trusted_as answer →
    Told a b (λ before after. IfSome x (λ ca. Trusts party reference ca before after (Ok answer))) → Told a b (λ before after. IfSome x (λ ca. TrustsRow party reference ca before after (Ok said)))
told_trusts party reference None a b answer said cause is told = told
told_trusts party reference (Some ca) a b answer said cause is told =
    told_more (λ before after. Trusts party reference ca before after (Ok answer)) (λ before after. TrustsRow party reference ca before after (Ok said)) a b told
    (λ before after h. subst (λ (t : Trusted). TrustsRow party reference ca before after (Ok t)) (sym is) (trusts_row party reference ca before after answer cause h))

pub row_asked_as : (party : ℕ) (reference : List ℕ) (answer : TakenCa) (said : Trusted) → TrustCause party reference answer → said ≡ trusted_as answer → TrustRowAsked party reference said
row_asked_as party reference answer said cause is = subst (λ (t : Trusted). TrustRowAsked party reference t) (sym is) (row_asked party reference answer cause)

-- ---- the row is looked for

-- its reference, by the party that the setup has
pub founding_named : (setup : SetupValue) (authority : ℕ) (p : Party) (reference : List ℕ) → Some p ≡ party_of setup authority → reference ≡ numbered p.holder 1 → reference ≡ founding_reference setup authority
founding_named setup authority p reference is at = at ∙ ap (λ (x : Option Party). numbered (holder_of x) 1) is

pub told_named : (setup : SetupValue) (authority : ℕ) (a b : Option (List Row)) (reference : List ℕ) (found : Option Row) → reference ≡ founding_reference setup authority →
    Told a b (λ before after. (after ≡ before) × (found ≡ row_at table.Own authority reference before)) →
    Told a b (λ before after. (after ≡ before) × (found ≡ row_at table.Own authority (founding_reference setup authority) before))
told_named setup authority a b reference found is told =
    subst (λ (r : List ℕ). Told a b (λ before after. (after ≡ before) × (found ≡ row_at table.Own authority r before))) is told

pub asked_named : (setup : SetupValue) (authority : ℕ) (reference : List ℕ) (found : Option Row) → reference ≡ founding_reference setup authority → IfSome found (IsAsked table.Own authority reference) → IfSome found (IsAsked table.Own authority (founding_reference setup authority))
asked_named setup authority reference found is asked = subst (λ (r : List ℕ). IfSome found (IsAsked table.Own authority r)) is asked

-- one that was looked for leaves the count
pub cause_after : {A T : Type 0} (k0 k1 k2 : ℕ) (x : A) (r : Result T HolderFault) → KeeperCaused {T = A} k0 k1 (Ok x) → KeeperCaused k1 k2 r → KeeperCaused k0 k2 r
cause_after k0 k1 k2 x r seen h = subst (λ (n : ℕ). KeeperCaused n k2 r) (quiet_seen k0 k1 x (Ok x) refl seen) h

key_both : (a b : Bool) → a && b ≡ true → b ≡ true
key_both true b e = e
key_both false b e = absurd (cc)

pub asked_reference : (authority : ℕ) (reference : List ℕ) (row : Row) → IsAsked table.Own authority reference row → row.reference ≡ reference
asked_reference authority reference row asked =
    bytes_eq-true row.reference reference (key_both (is_of table.Own authority row) (bytes_eq row.reference reference) asked.0)

module _ (setup : SetupValue) (party authority : ℕ) (a b : Option (List Row)) where
  abbrev Looked : Option Row → List Row → List Row → Type 0
  Looked found before after = (after ≡ before) × (found ≡ row_at table.Own authority (founding_reference setup authority) before)

  -- there is none that has its certificate
  pub told_unfounded : (found : Option Row) → carried_in found ≡ None → Told a b (Looked found) → Told a b (λ before after. TrustsFounding setup party authority before after (Ok trusted.Unfounded))
  told_unfounded found none told = told_more (Looked found) (λ before after. TrustsFounding setup party authority before after (Ok trusted.Unfounded)) a b told
      (λ before after h. inl (refl, ap carried_in (sym h.1) ∙ none, h.0))

  -- it couldn't be looked for
  pub told_unread : (f : HolderFault) (r : Result Trusted HolderFault) → r ≡ Err f → Told a b (λ before after. (after ≡ before) × Unit {0}) → Told a b (λ before after. TrustsFounding setup party authority before after r)
  told_unread f r is told = told_more (λ (before after : List Row). (after ≡ before) × Unit {0}) (λ before after. TrustsFounding setup party authority before after r) a b told (λ before after h. inr (inl (ap is_ok is, h.0)))

  carries : (row : Row) (x : Option CaPart) → carried row.part ≡ x → row.reference ≡ founding_reference setup authority → (before mid after : List Row) (result : Result Trusted HolderFault) → IsSome x → Looked (Some row) before mid →
      IfSome x (λ ca. TrustsRow party row.reference ca mid after result) → TrustsFounding setup party authority before after result
  carries row None is named before mid after result some h t = absurd (cc)
  carries row (Some ca) is named before mid after result some h t = inr (inr (record {
    ca = ca;
    there = ap carried_in (sym h.1) ∙ is;
    trusts = subst (λ (x : List ℕ × List Row). TrustsRow party x.0 ca x.1 after result) (λ j. (named j, h.0 j)) t;
  }))

  pub told_founded : (c : Option (List Row)) (found : Option Row) (row : Row) (result : Result Trusted HolderFault) → found ≡ Some row → IsSome (carried row.part) → IfSome found (IsAsked table.Own authority (founding_reference setup authority)) →
      Told a b (Looked found) → Told b c (λ before after. IfSome (carried row.part) (λ ca. TrustsRow party row.reference ca before after result)) →
      Told a c (λ before after. TrustsFounding setup party authority before after result)
  told_founded c found row result is some asked looked trusts =
      let named : IsAsked table.Own authority (founding_reference setup authority) row = subst (λ (x : Option Row). IfSome x (IsAsked table.Own authority (founding_reference setup authority))) is asked in
      let seen : Told a b (Looked (Some row)) = subst (λ (x : Option Row). Told a b (Looked x)) is looked in
      told_then (Looked (Some row)) (λ before after. IfSome (carried row.part) (λ ca. TrustsRow party row.reference ca before after result)) (λ before after. TrustsFounding setup party authority before after result) a b c seen trusts
      (λ before mid after h t. carries row (carried row.part) refl (asked_reference authority (founding_reference setup authority) row named) before mid after result some h t)

-- ---- and for every keeper

asked_carried : (party : ℕ) (reference named : List ℕ) (x : Option CaPart) (answer : Trusted) → IsSome x → reference ≡ named → TrustRowAsked party reference answer → TrustSays party named x answer
asked_carried party reference named None answer some same h = absurd (cc)
asked_carried party reference named (Some ca) answer some same h = subst (λ (r : List ℕ). TrustRowAsked party r answer) same h

one_asked : (setup : SetupValue) (party authority : ℕ) (row : Row) (answer : Trusted) → IsSome (carried row.part) → IsAsked table.Own authority (founding_reference setup authority) row →
    TrustRowAsked party row.reference answer → TrustAsked setup party authority answer
one_asked setup party authority row answer some asked h = record {
  found = Some row;
  asked = asked;
  says = asked_carried party row.reference (founding_reference setup authority) (carried row.part) answer some (asked_reference authority (founding_reference setup authority) row asked) h;
}

pub founded_asked : (setup : SetupValue) (party authority : ℕ) (found : Option Row) (row : Row) (result : Result Trusted HolderFault) → found ≡ Some row → IsSome (carried row.part) →
    IfSome found (IsAsked table.Own authority (founding_reference setup authority)) → IfOk result (TrustRowAsked party row.reference) → IfOk result (TrustAsked setup party authority)
founded_asked setup party authority found row (Ok answer) is some asked h =
    one_asked setup party authority row answer some (subst (λ (x : Option Row). IfSome x (IsAsked table.Own authority (founding_reference setup authority))) is asked) h
founded_asked setup party authority found row (Err f) is some asked h = tt

pub unfounded_asked : (setup : SetupValue) (party authority : ℕ) (found : Option Row) → carried_in found ≡ None → IfSome found (IsAsked table.Own authority (founding_reference setup authority)) → TrustAsked setup party authority trusted.Unfounded
unfounded_asked setup party authority found none asked = record {
  found = found;
  asked = asked;
  says = subst (λ (x : Option CaPart). TrustSays party (founding_reference setup authority) x trusted.Unfounded) (sym none) refl;
}

-- ---- what it leaves of rows

found_readable : (test : Row → Bool) (rows : List Row) (row : Row) → AreReadable rows → find test rows ≡ Some row → ReadablePart row.reference row.part
found_readable test [] row reads is = absurd (cc)
found_readable test (x ∷ rows) row reads is = by (found_readable test rows row reads.1) (test x) is
  where
    by : (find test rows ≡ Some row → ReadablePart row.reference row.part) → (b : Bool) → cond b (Some x) (find test rows) ≡ Some row → ReadablePart row.reference row.part
    by later true e = let same : x ≡ row = cc in subst (λ (y : Row). ReadablePart y.reference y.part) same reads.0
    by later false e = later e

some_is : (x y : CaPart) → Some x ≡ Some y → x ≡ y
some_is x y e = cc

carried_settled : (reference : List ℕ) (p : Part) (ca : CaPart) → ReadablePart reference p → carried p ≡ Some ca → IsSettled ca.settled
carried_settled reference (part.Own own) ca reads is = by own.settled reads is
  where
    by : (s : Option Settled) → IfSome s IsSettled → option_map (λ settled. record { key = own.key; settled = settled }) s ≡ Some ca → IsSettled ca.settled
    by (Some s) h e = let same : s ≡ ca.settled = ap (λ (c : CaPart). c.settled) (some_is (record { key = own.key; settled = s }) ca e) in subst IsSettled same h
    by None h e = absurd (cc)
carried_settled reference (part.Register request day) ca reads is = absurd (cc)
carried_settled reference (part.Issued p) ca reads is = absurd (cc)
carried_settled reference (part.Ca p) ca reads is = absurd (cc)

in_readable : (found : Option Row) (ca : CaPart) → IfSome found (λ row. ReadablePart row.reference row.part) → carried_in found ≡ Some ca → IsSettled ca.settled
in_readable (Some row) ca reads is = carried_settled row.reference row.part ca reads is
in_readable None ca reads is = absurd (cc)

at_readable : (test : Row → Bool) (rows : List Row) → AreReadable rows → (found : Option Row) → find test rows ≡ found → IfSome found (λ row. ReadablePart row.reference row.part)
at_readable test rows reads (Some row) is = found_readable test rows row reads is
at_readable test rows reads None is = tt

founding_readable : (setup : SetupValue) (authority : ℕ) (rows : List Row) (ca : CaPart) → AreReadable rows → founding_in setup authority rows ≡ Some ca → IsSettled ca.settled
founding_readable setup authority rows ca reads is =
    let found : Option Row = row_at table.Own authority (founding_reference setup authority) rows in
    in_readable found ca (at_readable (has_key table.Own authority (founding_reference setup authority)) rows reads found refl) is

module _ (setup : SetupValue) (party authority : ℕ) (says : Says) (holds : Holds) where
  Left : List Row → List Row → Type 0
  Left before after = KeepsRows setup says says holds holds before after

  left_same : (before after : List Row) → after ≡ before → Left before after
  unfolding Left
  left_same before after is = subst (KeepsRows setup says says holds holds before) (sym is) (keeps_same setup says says holds holds before (λ key message signature h. h) (λ key h. h))

  left_row : (before after : List Row) (ca : CaPart) → founding_in setup authority before ≡ Some ca → after ≡ before ++ trusted_row party (founding_reference setup authority) ca ∷ [] → Left before after
  unfolding Left
  left_row before after ca there is = subst (KeepsRows setup says says holds holds before) (sym is)
      (keeps_beside setup says says holds holds (λ key message signature h. h) (λ key h. h) before (trusted_row party (founding_reference setup authority) ca)
      (record { owns = λ desk. refl; part = refl; made = λ at named of. refl }) (λ l. founding_readable setup authority before ca l.readable there))

  left_once : (before after : List Row) (ca : CaPart) → founding_in setup authority before ≡ Some ca → (result : Result TakenCa HolderFault) → Trusts party (founding_reference setup authority) ca before after result → Left before after
  left_once before after ca there result h =
      go (writes_cases (unwritten (trust_due party (founding_reference setup authority) before)) None None
      (λ answer rows. (answer ≡ taken.Stored (founding_reference setup authority)) × (rows ≡ before ++ trusted_row party (founding_reference setup authority) ca ∷ [])) before after result h)
    where
      go : (after ≡ before) ⊎ ((answer : TakenCa) × HasWritten (unwritten (trust_due party (founding_reference setup authority) before)) None None
          (λ answer rows. (answer ≡ taken.Stored (founding_reference setup authority)) × (rows ≡ before ++ trusted_row party (founding_reference setup authority) ca ∷ [])) after answer) → Left before after
      go (inl e) = left_same before after e
      go (inr x) = left_row before after ca there x.1.written.1

  left_carried : (before after : List Row) (ca : CaPart) → founding_in setup authority before ≡ Some ca → (result : Result Trusted HolderFault) → TrustsRow party (founding_reference setup authority) ca before after result → Left before after
  left_carried before after ca there (Ok (trusted.Stored r)) h = left_once before after ca there (Ok (taken.Stored r)) h
  left_carried before after ca there (Ok (trusted.Held r)) h = left_once before after ca there (Ok (taken.Held r)) h
  left_carried before after ca there (Ok trusted.Full) h = left_once before after ca there (Ok (taken.Refused rule.Full)) h
  left_carried before after ca there (Ok trusted.Unfounded) h = absurd h
  left_carried before after ca there (Err f) h = left_once before after ca there (Err f) h

  pub trusting_keeps : (before after : List Row) (result : Result Trusted HolderFault) → TrustsFounding setup party authority before after result → KeepsRows setup says says holds holds before after
  unfolding Left
  trusting_keeps before after result (inl h) = left_same before after h.2
  trusting_keeps before after result (inr (inl h)) = left_same before after h.1
  trusting_keeps before after result (inr (inr h)) = left_carried before after h.ca h.there result h.trusts

-- ---- the event

pub trust_steps : {E F : Type 0} (setup : SetupValue) (party authority : ℕ) (w w' : World) (beside : Outside) (rows rows' : Option (List Row)) (before now : ℕ) (result : Result Trusted HolderFault)
    (happened : Result Happened E) (r : Result (Unit {0}) F) (line line' : List ℕ) → KeeperCaused before now result → Concludes happened r w w' line line' →
    Tells happened (answer_by answers.Trusted result) [] → Told rows rows' (λ before after. TrustsFounding setup party authority before after result) → IfOk result (TrustAsked setup party authority) →
    AreBetween setup w.packets → HasStepped setup (events.Trust party authority) r (w, line) (w', line') (record beside { rows = rows; keeper_faults = before }) (record beside { rows = rows'; keeper_faults = now })
trust_steps setup party authority w w' beside rows rows' before now result happened r line line' cause c t told asked was =
    kept_steps setup (events.Trust party authority) (λ packets. answer_by answers.Trusted) no_packet (TrustsFounding setup party authority) (λ result. IfOk result (TrustAsked setup party authority))
    (λ m s s' answer h. h) (λ m s s' answer h. h) (trusting_keeps setup party authority) (λ result. All-nil (IsBetween setup)) (λ i x. x)
    w w' beside rows rows' before now result cause happened r line line' c t told asked was
