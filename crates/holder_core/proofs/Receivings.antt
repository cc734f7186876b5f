-- Certificates one after another: one more, or a fault that ends them.
use Rattle.std.proofs.Common.{◌≡◌, inl, inr, ℕ, ◌+◌, ◌≤◌, length, List, [], ◌∷◌, ◌++◌, take, drop, Option, Some, None, Bool, true, false, refl, sym, ap, ◌∙◌, subst, arith}
use Rattle.std.specs.Prelude.{Result, Ok, Err, IfSome, is_some, slice_get}
use Rattle.std.proofs.lemmas.Bool.{false≢true}
use Rattle.std.proofs.lemmas.List.{append-nil, append_assoc, take_more, take-append-drop}
use Rattle.std.proofs.lemmas.Option.{slice_get_within, slice_get_cases, get_or_from_slice_get}
use Rattle.std.proofs.Math.Seq.{take-length}
use Rattle.eac_base.specs.Telling.{Told}
use Rattle.eac_base.proofs.Tellings.{told_then, told_more, told_same}
use Rattle.signature_provider.specs.Provider.{Says}
use Rattle.cvc_grammar.specs.declared.certificate.Cert.{Cert}
use Rattle.cvc_grammar.specs.declared.refusal.CvcRefusal.{CvcRefusal}
use Rattle.keeper.specs.declared.rows.Row.{Row}
use Rattle.keeper.specs.declared.rows.OwnPart.{OwnPart}
use Rattle.keeper.specs.declared.rows.Table.TheVariants as table
use Rattle.keeper.specs.Keeping.{IsAsked}
use Rattle.holder_core.specs.Readings.{cert_of}
use Rattle.holder_core.specs.OwnRows.{own_in, own_at, IsOwnAsked}
use Rattle.holder_core.specs.declared.fault.HolderFault.{HolderFault}
use Rattle.holder_core.specs.declared.received.Item.{Item}
use Rattle.holder_core.specs.Receiving.{own_named, is_mine, LookedFor, LooksMine, Question, questions_of, TakesItem, NextAsked, Receives, ItemCause, ReceivedAsked}

-- ---- where a certificate goes

mine_in : (party : ℕ) (bytes : List ℕ) (c : Cert) (own : Option OwnPart) (mine : Bool) (b : List Row) → cert_of bytes ≡ Ok c → mine ≡ is_some own → own ≡ own_at party c.body.holder b → mine ≡ is_mine party bytes b
mine_in party bytes c own mine b read is at = is ∙ ap is_some at ∙ (λ i. is_some (own_named party b (sym read i)))

pub told_mine : (o o' : Option (List Row)) (party : ℕ) (bytes : List ℕ) (c : Cert) (own : Option OwnPart) (mine : Bool) → cert_of bytes ≡ Ok c → mine ≡ is_some own → Told o o' (λ b a. (a ≡ b) × (own ≡ own_at party c.body.holder b)) → Told o o' (λ b a. (a ≡ b) × (mine ≡ is_mine party bytes b))
told_mine o o' party bytes c own mine read is t =
    told_more (λ b a. (a ≡ b) × (own ≡ own_at party c.body.holder b)) (λ b a. (a ≡ b) × (mine ≡ is_mine party bytes b)) o o' t
    (λ b a s. (s.0, mine_in party bytes c own mine b read is s.1))

pub told_unread : (o : Option (List Row)) (party : ℕ) (bytes : List ℕ) (e : CvcRefusal) → cert_of bytes ≡ Err e → Told o o (λ b a. (a ≡ b) × (false ≡ is_mine party bytes b))
told_unread o party bytes e read = told_same (λ b a. (a ≡ b) × (false ≡ is_mine party bytes b)) o (λ b. (refl, λ i. is_some (own_named party b (sym read i))))

row_asked : (party : ℕ) (reference : List ℕ) (own : Option OwnPart) (row : Option Row) → IfSome row (IsAsked table.Own party reference) → own ≡ own_in row → true ≡ is_some own → (r : Row) × IsAsked table.Own party reference r
row_asked party reference own (Some r) asked is mine = (r, asked)
row_asked party reference own None asked is mine = absurd (false≢true (sym (mine ∙ ap is_some is)))

pub looks_mine : (party : ℕ) (bytes : List ℕ) (c : Cert) (own : Option OwnPart) (mine : Bool) → cert_of bytes ≡ Ok c → mine ≡ is_some own → IsOwnAsked party c.body.holder own → LooksMine party bytes mine
looks_mine party bytes c own true read is asked = subst (λ (x : Result Cert CvcRefusal). LookedFor party x) (sym read) (row_asked party c.body.holder own asked.row asked.asked asked.own_is is)
looks_mine party bytes c own false read is asked = tt

module _ (said : Says) (party : ℕ) where
  -- ---- over rows

  pub receives_more : (certs : List (List ℕ)) (bytes : List ℕ) (items : List Item) (i : Item) (b m a : List Row) (asked : List Question) → Receives said party certs b m items None asked → TakesItem said party bytes m a (Ok i) → Receives said party (certs ++ bytes ∷ []) b a (items ++ i ∷ []) None (asked ++ questions_of party bytes m)
  receives_more [] bytes [] i b m a asked h t =
      (a, [], subst (λ (x : List Row). TakesItem said party bytes x a (Ok i)) h.0 t, (refl, refl), ap (λ (x : List Question). x ++ questions_of party bytes m) h.1 ∙ (λ j. questions_of party bytes (h.0 j)) ∙ sym (append-nil (questions_of party bytes b)))
  receives_more [] bytes (x ∷ items) i b m a asked h t = absurd h
  receives_more (c ∷ certs) bytes [] i b m a asked h t = absurd h
  receives_more (c ∷ certs) bytes (x ∷ items) i b m a asked h t =
      (h.0, h.1 ++ questions_of party bytes m, h.2, receives_more certs bytes items i h.0 m a h.1 h.3 t, ap (λ (y : List Question). y ++ questions_of party bytes m) h.4 ∙ append_assoc (questions_of party c b) h.1 (questions_of party bytes m))

  pub receives_broken : (certs : List (List ℕ)) (bytes : List ℕ) (rest : List (List ℕ)) (items : List Item) (f : HolderFault) (b m a : List Row) (asked : List Question) → Receives said party certs b m items None asked → TakesItem said party bytes m a (Err f) → Receives said party (certs ++ bytes ∷ rest) b a items (Some f) (asked ++ questions_of party bytes m)
  receives_broken [] bytes rest [] f b m a asked h t =
      (subst (λ (x : List Row). TakesItem said party bytes x a (Err f)) h.0 t, ap (λ (x : List Question). x ++ questions_of party bytes m) h.1 ∙ (λ j. questions_of party bytes (h.0 j)))
  receives_broken [] bytes rest (x ∷ items) f b m a asked h t = absurd h
  receives_broken (c ∷ certs) bytes rest [] f b m a asked h t = absurd h
  receives_broken (c ∷ certs) bytes rest (x ∷ items) f b m a asked h t =
      (h.0, h.1 ++ questions_of party bytes m, h.2, receives_broken certs bytes rest items f h.0 m a h.1 h.3 t, ap (λ (y : List Question). y ++ questions_of party bytes m) h.4 ∙ append_assoc (questions_of party c b) h.1 (questions_of party bytes m))

  -- ---- for every keeper

  pub asked_more : (certs : List (List ℕ)) (bytes : List ℕ) (items : List Item) (i : Item) → ReceivedAsked said party certs items None → ItemCause said party bytes i → ReceivedAsked said party (certs ++ bytes ∷ []) (items ++ i ∷ []) None
  asked_more [] bytes [] i h t = (t, tt)
  asked_more [] bytes (x ∷ items) i h t = absurd h
  asked_more (c ∷ certs) bytes [] i h t = absurd h
  asked_more (c ∷ certs) bytes (x ∷ items) i h t = (h.0, asked_more certs bytes items i h.1 t)

  pub asked_broken : (certs : List (List ℕ)) (bytes : List ℕ) (rest : List (List ℕ)) (items : List Item) (f : HolderFault) → ReceivedAsked said party certs items None → ReceivedAsked said party (certs ++ bytes ∷ rest) items (Some f)
  asked_broken [] bytes rest [] f h = tt
  asked_broken [] bytes rest (x ∷ items) f h = absurd h
  asked_broken (c ∷ certs) bytes rest [] f h = absurd h
  asked_broken (c ∷ certs) bytes rest (x ∷ items) f h = (h.0, asked_broken certs bytes rest items f h.1)

  -- ---- told or not

  -- what came of these certificates so far
  abbrev pub SoFar : List (List ℕ) → List Item → List Row → List Row → Type 0
  SoFar certs items b a = (asked : List Question) × Receives said party certs b a items None asked

  pub told_none : (o : Option (List Row)) → Told o o (SoFar [] [])
  told_none o = told_same (SoFar [] []) o (λ b. ([], (refl, refl)))

-- ---- the next of a list

pub next_taken : (certs : List (List ℕ)) (at : ℕ) (bytes : List ℕ) → slice_get certs at ≡ Some bytes → take (at + 1) certs ≡ take at certs ++ bytes ∷ []
next_taken certs at bytes e = take_more certs at [] (slice_get_within certs at bytes e) ∙ ap (λ (x : List ℕ). take at certs ++ x ∷ []) (get_or_from_slice_get certs at bytes [] e)

pub next_split : (certs : List (List ℕ)) (at : ℕ) (bytes : List ℕ) → slice_get certs at ≡ Some bytes → take at certs ++ bytes ∷ drop (at + 1) certs ≡ certs
next_split certs at bytes e = sym (append_assoc (take at certs) (bytes ∷ []) (drop (at + 1) certs)) ∙ ap (λ (x : List (List ℕ)). x ++ drop (at + 1) certs) (sym (next_taken certs at bytes e)) ∙ take-append-drop (at + 1) certs

-- where no next one is there, all were taken
pub all_taken : (certs : List (List ℕ)) (at : ℕ) → at ≤ length certs → slice_get certs at ≡ None → take at certs ≡ certs
all_taken certs at within e =
    elim (slice_get_cases certs at).1 [
      | inl x ↦ absurd (some_none (slice_get certs at) x.0 x.2 e)
      | inr x ↦ let same : at ≡ length certs = omega (arith, x.0) in ap (λ (n : ℕ). take n certs) same ∙ take-length certs
    ]
  where
    some_none : (o : Option (List ℕ)) (x : List ℕ) → o ≡ Some x → o ≡ None → ⊥
    some_none o x p q = absurd (cc)

-- ---- one turn

module _ (said then_said : Says) (party : ℕ) (same : then_said ≡ said) (certs : List (List ℕ)) (at : ℕ) (bytes : List ℕ) (found : slice_get certs at ≡ Some bytes) where
  abbrev Taken : List Item → List Item → List Row → List Row → Type 0
  Taken items more b a = (i : Item) × (more ≡ items ++ i ∷ []) × TakesItem then_said party bytes b a (Ok i)

  abbrev Failed : List Item → List Item → HolderFault → List Row → List Row → Type 0
  Failed items more f b a = (more ≡ items) × TakesItem then_said party bytes b a (Err f)

  more_in : (items more : List Item) (b m a : List Row) → SoFar said party (take at certs) items b m → Taken items more m a → SoFar said party (take (at + 1) certs) more b a
  more_in items more b m a s w =
      subst (λ (x : List (List ℕ)). SoFar said party x more b a) (sym (next_taken certs at bytes found))
      (subst (λ (x : List Item). SoFar said party (take at certs ++ bytes ∷ []) x b a) (sym w.1)
      (s.0 ++ questions_of party bytes m, receives_more said party (take at certs) bytes items w.0 b m a s.0 s.1 (subst (λ (x : Says). TakesItem x party bytes m a (Ok w.0)) same w.2)))

  pub told_next : (items more : List Item) (o o' o'' : Option (List Row)) → Told o o' (SoFar said party (take at certs) items) → Told o' o'' (Taken items more) → Told o o'' (SoFar said party (take (at + 1) certs) more)
  told_next items more o o' o'' t w =
      told_then (SoFar said party (take at certs) items) (Taken items more) (SoFar said party (take (at + 1) certs) more) o o' o'' t w
      (λ b m a s q. more_in items more b m a s q)

  abbrev Broken : List Item → HolderFault → List Row → List Row → Type 0
  Broken items f b a = (asked : List Question) × Receives said party certs b a items (Some f) asked

  broken_in : (items more : List Item) (f : HolderFault) (b m a : List Row) → SoFar said party (take at certs) items b m → Failed items more f m a → Broken items f b a
  broken_in items more f b m a s w =
      subst (λ (x : List (List ℕ)). (asked : List Question) × Receives said party x b a items (Some f) asked) (next_split certs at bytes found)
      (s.0 ++ questions_of party bytes m, receives_broken said party (take at certs) bytes (drop (at + 1) certs) items f b m a s.0 s.1 (subst (λ (x : Says). TakesItem x party bytes m a (Err f)) same w.1))

  pub told_broken : (items more final : List Item) (f : HolderFault) (o o' o'' : Option (List Row)) → final ≡ items → Told o o' (SoFar said party (take at certs) items) → Told o' o'' (Failed items more f) → Told o o'' (Broken final f)
  told_broken items more final f o o' o'' is t w =
      subst (λ (x : List Item). Told o o'' (Broken x f)) (sym is)
      (told_then (SoFar said party (take at certs) items) (Failed items more f) (Broken items f) o o' o'' t w
      (λ b m a s q. broken_in items more f b m a s q))

  pub next_asked : (items more : List Item) → ReceivedAsked said party (take at certs) items None → NextAsked then_said party bytes items more → ReceivedAsked said party (take (at + 1) certs) more None
  next_asked items more h w =
      subst (λ (x : List (List ℕ)). ReceivedAsked said party x more None) (sym (next_taken certs at bytes found))
      (subst (λ (x : List Item). ReceivedAsked said party (take at certs ++ bytes ∷ []) x None) (sym w.1)
      (asked_more said party (take at certs) bytes items w.0 h (subst (λ (x : Says). ItemCause x party bytes w.0) same w.2)))

  pub broken_asked : (items final : List Item) (f : HolderFault) → final ≡ items → ReceivedAsked said party (take at certs) items None → ReceivedAsked said party certs final (Some f)
  broken_asked items final f is h =
      subst (λ (x : List (List ℕ)). ReceivedAsked said party x final (Some f)) (next_split certs at bytes found)
      (subst (λ (x : List Item). ReceivedAsked said party (take at certs ++ bytes ∷ drop (at + 1) certs) x (Some f)) (sym is)
      (asked_broken said party (take at certs) bytes (drop (at + 1) certs) items f h))

-- ---- the end

pub told_all : (said : Says) (party : ℕ) (certs : List (List ℕ)) (at : ℕ) (items final : List Item) (o o' : Option (List Row)) → take at certs ≡ certs → final ≡ items → Told o o' (SoFar said party (take at certs) items) → Told o o' (SoFar said party certs final)
told_all said party certs at items final o o' all is t = subst (λ (x : List Item). Told o o' (SoFar said party certs x)) (sym is) (subst (λ (x : List (List ℕ)). Told o o' (SoFar said party x items)) all t)

pub all_asked : (said : Says) (party : ℕ) (certs : List (List ℕ)) (at : ℕ) (items final : List Item) → take at certs ≡ certs → final ≡ items → ReceivedAsked said party (take at certs) items None → ReceivedAsked said party certs final None
all_asked said party certs at items final all is h = subst (λ (x : List Item). ReceivedAsked said party certs x None) (sym is) (subst (λ (x : List (List ℕ)). ReceivedAsked said party x items None) all h)
