-- What the images read as while one slot is written that isn't the newest one's.
use Rattle.std.proofs.Common.{◌≡◌, ◌≢◌, ◌⊎◌, inl, inr, ℕ, ◌+◌, ◌*◌, ◌/◌, ◌%◌, ◌<◌, ◌≤◌, List, [], ◌∷◌, length, take, drop, get_or, Some, None, Bool, true, false, cond, refl, sym, ◌∙◌, ap, subst, arith, ⊎_elim, length-take, length-drop, get_or-take, get_or-drop}
use Rattle.std.proofs.lemmas.Bool.{cases_lt}
use Rattle.std.proofs.lemmas.Bool.Decides.{nat_tests}
use Rattle.std.proofs.lemmas.List.{ext_get_or}
use Rattle.std.specs.Prelude.{slice_index}
use Rattle.chip_verify.specs.Trust.{Trust}
use Rattle.chip_slots.specs.Slot.{record_of}
use Rattle.chip_slots.proofs.Records.{record_place}
use Rattle.chip_slots.specs.Image.{Reading, gate, behind_gate, is_open, slot_says, greatest, slots_in, is_memory, reads}
use Rattle.chip_slots.specs.Ready.{IsApart, IsMore, IsSpare}
use Rattle.chip_slots.specs.Crash.{Standing, Crash, is_among, Writes}
use Rattle.chip_slots.proofs.Greatest.{Placed, shut, stays, opened}

-- ---- images that differ in one slot alone

module _ (c b : List ℕ) (size : length c ≡ length b) where
  -- records that agree byte by byte
  pub same_record : (slot : ℕ) → ((n : ℕ) → 8192 * slot + 1 ≤ n → n < 8192 * slot + 8192 → slice_index c n ≡ slice_index b n) → behind_gate c slot ≡ behind_gate b slot
  same_record slot same = ext_get_or 0 (behind_gate c slot) (behind_gate b slot) sizes each
    where
      sizes : length (take 8191 (drop (8192 * slot + 1) c)) ≡ length (take 8191 (drop (8192 * slot + 1) b))
      sizes = simp (length-take, length-drop) (omega (arith, size))

      each : (i : ℕ) → i < length (take 8191 (drop (8192 * slot + 1) c)) → get_or (take 8191 (drop (8192 * slot + 1) c)) i 0 ≡ get_or (take 8191 (drop (8192 * slot + 1) b)) i 0
      each i h =
          let short : i < 8191 = omega (arith, length-take 8191 (drop (8192 * slot + 1) c), h) in
          get_or-take 8191 (drop (8192 * slot + 1) c) i 0 short ∙ get_or-drop (8192 * slot + 1) c i 0
          ∙ same (8192 * slot + 1 + i) (omega arith) (omega (arith, short))
          ∙ sym (get_or-take 8191 (drop (8192 * slot + 1) b) i 0 short ∙ get_or-drop (8192 * slot + 1) b i 0)

  same_slot : (slots slot : ℕ) → ((n : ℕ) → 8192 * slot ≤ n → n < 8192 * slot + 8192 → slice_index c n ≡ slice_index b n) → slot_says slots c slot ≡ slot_says slots b slot
  same_slot slots slot same =
      let gates : gate c slot ≡ gate b slot = same (8192 * slot) (omega arith) (omega arith) in
      let records = same_record slot (λ n from to. same n (omega (arith, from)) to) in
      λ i. cond (is_open (gates i)) (record_of slots slot (records i)) None

  pub other_slot : (slots slot j : ℕ) → ((n : ℕ) → (n < 8192 * slot) ⊎ (8192 * slot + 8192 ≤ n) → slice_index c n ≡ slice_index b n) → j ≢ slot → slot_says slots c j ≡ slot_says slots b j
  other_slot slots slot j same ne = same_slot slots j (λ n from to. ⊎_elim
      (λ (lt : j < slot). same n (inl (omega (arith, to, lt))))
      (λ (ge : slot ≤ j). same n (inr (omega (arith, from, ge, ne))))
      (cases_lt j slot))

  module _ (slot : ℕ) (same : (n : ℕ) → (n < 8192 * slot) ⊎ (8192 * slot + 8192 ≤ n) → slice_index c n ≡ slice_index b n) (placed : Placed (slot_says (slots_in b) b) (slots_in b)) where
    others : (j : ℕ) → j < slots_in b → j ≢ slot → slot_says (slots_in b) c j ≡ slot_says (slots_in b) b j
    others j lt ne = other_slot (slots_in b) slot j same ne

    -- what is read of an image of the same size
    read_of : (r : Reading) → greatest (slot_says (slots_in b) c) (slots_in b) ≡ r → reads c ≡ cond (is_memory (length b)) r None
    read_of r is = ap (λ (n : ℕ). cond (is_memory n) (greatest (slot_says (n / 8192) c) (n / 8192)) None) size ∙ ap (λ (q : Reading). cond (is_memory (length b)) q None) is

    same_read : (memory : Bool) (old : Reading) (r : Reading) → (memory ≡ true → r ≡ old) → (memory ≡ false → None ≡ old) → cond memory r None ≡ old
    same_read true old r yes_is no_is = yes_is refl
    same_read false old r yes_is no_is = no_is refl

    module _ (memory : is_memory (length b) ≡ true) (old : Reading) (is : reads b ≡ old) where
      greatest_is : greatest (slot_says (slots_in b) b) (slots_in b) ≡ old
      greatest_is = ap (λ (t : Bool). cond t (greatest (slot_says (slots_in b) b) (slots_in b)) None) (sym memory) ∙ is

      seen : (r : Reading) → greatest (slot_says (slots_in b) c) (slots_in b) ≡ r → reads c ≡ r
      seen r e = read_of r e ∙ ap (λ (t : Bool). cond t r None) memory

      -- the slot says nothing now
      pub read_shut : IsApart old (slots_in b) slot → slot_says (slots_in b) c slot ≡ None → reads c ≡ old
      read_shut apart none = seen old (shut (slot_says (slots_in b) b) (slot_says (slots_in b) c) (slots_in b) placed slot others old greatest_is apart none)

      -- it says what it said
      pub read_same : slot_says (slots_in b) c slot ≡ slot_says (slots_in b) b slot → reads c ≡ old
      read_same here = seen old (stays (slot_says (slots_in b) b) (slot_says (slots_in b) c) (slots_in b) placed slot others here ∙ greatest_is)

      -- it says a greater generation
      pub read_opened : (y : Trust × ℕ) → IsMore old y → slot < slots_in b → slot_says (slots_in b) c slot ≡ Some y → reads c ≡ Some y
      read_opened y more below here = seen (Some y) (opened (slot_says (slots_in b) b) (slot_says (slots_in b) c) (slots_in b) placed slot others old y greatest_is more below here)

-- ---- the places that one write leaves alone

outside : (n at size : ℕ) → (n < at) ⊎ (at + size ≤ n) → is_among n ((at, size) ∷ []) ≡ false
outside n at size (inl below) = grind (arith, nat_tests)
outside n at size (inr above) = grind (arith, nat_tests)

pub written : (s old : Standing) (at : ℕ) (bytes c : List ℕ) (ok : Bool) → old.pending ≡ [] → Writes at bytes ok old s → Crash s c → (n : ℕ) → (n < at) ⊎ (at + length bytes ≤ n) → slice_index c n ≡ slice_index old.bytes n
written s old at bytes c ok clean w crash n out =
    let off = outside n at (length bytes) out in
    crash.same n (subst (λ (p : List (ℕ × ℕ)). is_among n p ≡ false) (sym (w.pending ∙ ap (λ (p : List (ℕ × ℕ)). (at, length bytes) ∷ p) clean)) off)
    ∙ w.elsewhere n off

pub written_size : (s old : Standing) (at : ℕ) (bytes c : List ℕ) (ok : Bool) → Writes at bytes ok old s → Crash s c → length c ≡ length old.bytes
written_size s old at bytes c ok w crash = crash.size ∙ w.size

-- ---- the three writes of a new state

pub placed_of : (b : List ℕ) → Placed (slot_says (slots_in b) b) (slots_in b)
placed_of b j y lt e = go (is_open (gate b j)) e
  where
    go : (t : Bool) → cond t (record_of (slots_in b) j (behind_gate b j)) None ≡ Some y → y.1 % slots_in b ≡ j
    go true is = record_place (slots_in b) j (behind_gate b j) y is
    go false is = absurd (cc (is))

module _ (slot : ℕ) (old : Reading) (before s : Standing) (c : List ℕ) (spare : IsSpare slot old before) (ok : Bool) (crash : Crash s c) where
  same_slots : length c ≡ length before.bytes → slots_in c ≡ slots_in before.bytes
  same_slots size = ap (λ (n : ℕ). n / 8192) size

  -- a write of the gate's byte alone
  module _ (byte : ℕ) (wrote : Writes (8192 * slot) (byte ∷ []) ok before s) where
    gate_size : length c ≡ length before.bytes
    gate_size = written_size s before (8192 * slot) (byte ∷ []) c ok wrote crash

    gate_off : (n : ℕ) → (n < 8192 * slot) ⊎ (8192 * slot + 1 ≤ n) → slice_index c n ≡ slice_index before.bytes n
    gate_off n out = written s before (8192 * slot) (byte ∷ []) c ok spare.clean wrote crash n out

    gate_others : (n : ℕ) → (n < 8192 * slot) ⊎ (8192 * slot + 8192 ≤ n) → slice_index c n ≡ slice_index before.bytes n
    gate_others n = ⊎_elim (λ (below : n < 8192 * slot). gate_off n (inl below)) (λ (above : 8192 * slot + 8192 ≤ n). gate_off n (inr (omega (arith, above))))

    gate_record : behind_gate c slot ≡ behind_gate before.bytes slot
    gate_record = same_record c before.bytes gate_size slot (λ n from to. gate_off n (inr from))

    gate_says : (t : Bool) → is_open (gate c slot) ≡ t → slot_says (slots_in before.bytes) c slot ≡ cond t (record_of (slots_in before.bytes) slot (behind_gate before.bytes slot)) None
    gate_says t is = λ i. cond (is i) (record_of (slots_in before.bytes) slot (gate_record i)) None

    -- an open gate is closed: whatever its byte is, the slot says what it said or nothing
    pub closing : is_open (gate before.bytes slot) ≡ true → reads c ≡ old
    closing was = go (is_open (gate c slot)) refl
      where
        go : (t : Bool) → is_open (gate c slot) ≡ t → reads c ≡ old
        go true is = read_same c before.bytes gate_size slot gate_others (placed_of before.bytes) spare.memory old spare.read (gate_says true is ∙ sym (λ i. cond (was i) (record_of (slots_in before.bytes) slot (behind_gate before.bytes slot)) None))
        go false is = read_shut c before.bytes gate_size slot gate_others (placed_of before.bytes) spare.memory old spare.read spare.apart (gate_says false is)

    -- the gate before a record is opened: it is seen closed or open
    module _ (y : Trust × ℕ) (filled : record_of (slots_in before.bytes) slot (behind_gate before.bytes slot) ≡ Some y) (more : IsMore old y) where
      pub seen_open : is_open (gate c slot) ≡ true → reads c ≡ Some y
      seen_open is = read_opened c before.bytes gate_size slot gate_others (placed_of before.bytes) spare.memory old spare.read y more spare.inside (gate_says true is ∙ filled)

      pub opening : (reads c ≡ old) ⊎ (reads c ≡ Some y)
      opening = go (is_open (gate c slot)) refl
        where
          go : (t : Bool) → is_open (gate c slot) ≡ t → (reads c ≡ old) ⊎ (reads c ≡ Some y)
          go true is = inr (seen_open is)
          go false is = inl (read_shut c before.bytes gate_size slot gate_others (placed_of before.bytes) spare.memory old spare.read spare.apart (gate_says false is))

  -- a record is written behind a closed gate
  module _ (bytes : List ℕ) (short : length bytes ≤ 8191) (wrote : Writes (8192 * slot + 1) bytes ok before s) (closed : is_open (gate before.bytes slot) ≡ false) where
    record_size : length c ≡ length before.bytes
    record_size = written_size s before (8192 * slot + 1) bytes c ok wrote crash

    record_off : (n : ℕ) → (n < 8192 * slot + 1) ⊎ (8192 * slot + 1 + length bytes ≤ n) → slice_index c n ≡ slice_index before.bytes n
    record_off n out = written s before (8192 * slot + 1) bytes c ok spare.clean wrote crash n out

    record_others : (n : ℕ) → (n < 8192 * slot) ⊎ (8192 * slot + 8192 ≤ n) → slice_index c n ≡ slice_index before.bytes n
    record_others n = ⊎_elim (λ (below : n < 8192 * slot). record_off n (inl (omega (arith, below)))) (λ (above : 8192 * slot + 8192 ≤ n). record_off n (inr (omega (arith, above, short))))

    pub still_closed : is_open (gate c slot) ≡ false
    still_closed = ap is_open (record_off (8192 * slot) (inl (omega arith))) ∙ closed

    pub filling : reads c ≡ old
    filling = read_shut c before.bytes record_size slot record_others (placed_of before.bytes) spare.memory old spare.read spare.apart (λ i. cond (still_closed i) (record_of (slots_in before.bytes) slot (behind_gate c slot)) None)
