-- What is read of an object is what was written, and the other way round.
use Rattle.std.proofs.Common.{◌≡◌, ℕ, ◌/◌, ◌%◌, ◌<◌, ◌≤◌, false, cond, List, [], ◌∷◌, ◌++◌, length, take, drop, Ok, Err, refl, sym, ap, ◌∙◌, append_assoc, arith}
use Rattle.std.specs.Prelude.{IsTrue}
use Rattle.std.proofs.lemmas.List.{take_at, drop_at, length-append, length-take, take-append-drop}
use Rattle.std.proofs.lemmas.List.{append-nil}
use Rattle.std.proofs.Common.{ltb, eqb, Result, inl, inr}
use Rattle.std.proofs.lemmas.Bool.{le-ltb, ltb-true, eqb-true, ltb-false}
use Rattle.tlv_core.specs.declared.TlvRefusal.{TlvRefusal}
use Rattle.eac_base.specs.Bytes.{AreBytes}
use Rattle.eac_base.specs.Answers.{◌>>=◌}
use Rattle.tlv_core.specs.declared.TlvRefusal.TheVariants.{Truncated}
use Rattle.tlv_core.specs.Object.{is_tag, tag_bytes, length_bytes, object, tag_at, length_at, one_byte_length, two_byte_length, first_object, First}
use Rattle.eac_base.proofs.Steps.{bind_ok, chosen, ok_is}
use Rattle.tlv_core.specs.Laws.{OneSpelling, OneObject, NoProperPrefix, WriteAfterRead}

pub tag_again : (t : ℕ) (rest : List ℕ) → IsTrue (is_tag t) → tag_at (tag_bytes t ++ rest) ≡ Ok (t, rest)
tag_again t rest h = grind arith

pub length_again : (n : ℕ) (rest : List ℕ) → n < 65536 → length_at (length_bytes n ++ rest) ≡ Ok (n, rest)
length_again n rest h = grind arith

regrouped : (t : ℕ) (c rest : List ℕ) → object t c ++ rest ≡ tag_bytes t ++ (length_bytes (length c) ++ (c ++ rest))
regrouped t c rest = append_assoc (tag_bytes t ++ length_bytes (length c)) c rest ∙ append_assoc (tag_bytes t) (length_bytes (length c)) (c ++ rest)

enough : (c rest : List ℕ) → ltb (length (c ++ rest)) (length c) ≡ false
enough c rest = le-ltb _ _ (omega (arith, length-append c rest))

-- An object that was written is read, whatever follows.
pub object_again : (t : ℕ) (c rest : List ℕ) → IsTrue (is_tag t) → length c < 65536 → first_object (object t c ++ rest) ≡ Ok (record { tag = t; content = c; rest = rest })
object_again t c rest known short =
    ap first_object (regrouped t c rest)
    ∙ rw (tag_again t (length_bytes (length c) ++ (c ++ rest)) known, length_again (length c) (c ++ rest) short, enough c rest, take_at c rest (length c) refl, drop_at c rest (length c) refl) refl

one_reading : (s t : ℕ) (c d more others : List ℕ) → IsTrue (is_tag s) → length c < 65536 → IsTrue (is_tag t) → length d < 65536
    → object s c ++ more ≡ object t d ++ others → (s ≡ t) × (c ≡ d) × (more ≡ others)
one_reading s t c d more others ks cs kt ds e =
    let same = ok_is _ _ (sym (object_again s c more ks cs) ∙ ap first_object e ∙ object_again t d others kt ds) in
    (ap (λ (o : First). o.tag) same, ap (λ (o : First). o.content) same, ap (λ (o : First). o.rest) same)

pub one_spelling : OneSpelling
one_spelling tag content one other p q = p.spelling ∙ sym q.spelling

pub one_object : OneObject
one_object s t c d bytes p q =
    let same = one_reading s t c d [] [] p.tag_known p.content_fits q.tag_known q.content_fits
    (append-nil (object s c) ∙ sym p.spelling ∙ q.spelling ∙ sym (append-nil (object t d))) in
    (same.0, same.1)

pub no_proper_prefix : NoProperPrefix
no_proper_prefix s t c d bytes more p q =
    (one_reading s t c d more [] p.tag_known p.content_fits q.tag_known q.content_fits
    (ap (λ (b : List ℕ). b ++ more) (sym p.spelling) ∙ q.spelling ∙ sym (append-nil (object t d)))).2

-- ---- what is read stands there

pub tag_stands : (bytes : List ℕ) (t : ℕ) (rest : List ℕ) → AreBytes bytes → tag_at bytes ≡ Ok (t, rest) → IsTrue (is_tag t) × (bytes ≡ tag_bytes t ++ rest) × AreBytes rest
tag_stands [] t rest b e = absurd cc
tag_stands (f ∷ []) t rest b e = grind arith
tag_stands (f ∷ g ∷ more) t rest b e = grind arith

one_stands : (bytes : List ℕ) (n : ℕ) (rest : List ℕ) → AreBytes bytes → one_byte_length bytes ≡ Ok (n, rest) → (128 ≤ n) × (n < 256) × (bytes ≡ n ∷ rest) × AreBytes rest
one_stands [] n rest b e = absurd cc
one_stands (f ∷ more) n rest b e = grind arith

two_stands : (bytes : List ℕ) (n : ℕ) (rest : List ℕ) → AreBytes bytes → two_byte_length bytes ≡ Ok (n, rest) → (256 ≤ n) × (n < 65536) × (bytes ≡ (n / 256) ∷ (n % 256) ∷ rest) × AreBytes rest
two_stands [] n rest b e = absurd cc
two_stands (f ∷ []) n rest b e = absurd cc
two_stands (f ∷ g ∷ more) n rest b e = grind arith

abbrev Stands : List ℕ → ℕ → List ℕ → Type 0
Stands bytes n rest = (n < 65536) × (bytes ≡ length_bytes n ++ rest) × AreBytes rest

long_stands : (f : ℕ) (more : List ℕ) (n : ℕ) (rest : List ℕ) → AreBytes more → f ≡ 0x81 → one_byte_length more ≡ Ok (n, rest) → Stands (f ∷ more) n rest
long_stands f more n rest b h e = let s = one_stands more n rest b e in grind arith

longer_stands : (f : ℕ) (more : List ℕ) (n : ℕ) (rest : List ℕ) → AreBytes more → f ≡ 0x82 → two_byte_length more ≡ Ok (n, rest) → Stands (f ∷ more) n rest
longer_stands f more n rest b h e = let s = two_stands more n rest b e in grind arith

short_stands : (f : ℕ) (more : List ℕ) (n : ℕ) (rest : List ℕ) → AreBytes more → f < 0x80 → (let r : Result (ℕ × List ℕ) TlvRefusal = Ok (f, more) in r) ≡ Ok (n, rest) → Stands (f ∷ more) n rest
short_stands f more n rest b h e = grind arith

pub length_stands : (bytes : List ℕ) (n : ℕ) (rest : List ℕ) → AreBytes bytes → length_at bytes ≡ Ok (n, rest) → Stands bytes n rest
length_stands [] n rest b e = absurd cc
length_stands (f ∷ more) n rest b e =
    elim (chosen (ltb f 0x80) _ _ _ e) [
      | inl p ↦ short_stands f more n rest b.1 (ltb-true f 0x80 p.0) p.1
      | inr q ↦ elim (chosen (eqb f 0x80) _ _ _ q.1) [
        | inl p ↦ absurd (let no = p.1 in cc)
        | inr r ↦ elim (chosen (eqb f 0x81) _ _ _ r.1) [
          | inl p ↦ long_stands f more n rest b.1 (eqb-true f 0x81 p.0) p.1
          | inr s ↦ elim (chosen (eqb f 0x82) _ _ _ s.1) [
            | inl p ↦ longer_stands f more n rest b.1 (eqb-true f 0x82 p.0) p.1
            | inr t ↦ absurd (let no = t.1 in cc)
          ]
        ]
      ]
    ]

abbrev pub cut : ℕ → ℕ × List ℕ → Result First TlvRefusal
cut tag size = cond (ltb (length size.1) size.0) (Err Truncated) (Ok (record { tag = tag; content = take size.0 size.1; rest = drop size.0 size.1 }))

cut_stands : (tag : ℕ) (size : ℕ × List ℕ) (o : First) → cut tag size ≡ Ok o → (o.tag ≡ tag) × (length o.content ≡ size.0) × (size.1 ≡ o.content ++ o.rest)
cut_stands tag size o e =
    elim (chosen (ltb (length size.1) size.0) _ _ _ e) [
      | inl p ↦ absurd (let no = p.1 in cc)
      | inr q ↦
          let same = ok_is _ o q.1 in
          let long = ltb-false (length size.1) size.0 q.0 in
          rw (← same) (refl, omega (arith, length-take size.0 size.1), sym (take-append-drop size.0 size.1))
    ]

joined : (bytes x y : List ℕ) (t n : ℕ) (o : First) → bytes ≡ tag_bytes t ++ x → x ≡ length_bytes n ++ y → y ≡ o.content ++ o.rest → o.tag ≡ t → length o.content ≡ n
    → bytes ≡ object o.tag o.content ++ o.rest
joined bytes x y t n o p q r st sn = rw (p, q, r, ← st, ← sn) (sym (regrouped o.tag o.content o.rest))

known : (s t : ℕ) → s ≡ t → IsTrue (is_tag t) → IsTrue (is_tag s)
known s t e h = ap is_tag e ∙ h

pub reads_what_stands : (bytes : List ℕ) (o : First) → AreBytes bytes → first_object bytes ≡ Ok o
    → IsTrue (is_tag o.tag) × (length o.content < 65536) × (bytes ≡ object o.tag o.content ++ o.rest)
reads_what_stands bytes o b e =
    let t = bind_ok (tag_at bytes) (λ tag. length_at tag.1 >>= cut tag.0) o e in
    let n = bind_ok (length_at t.0.1) (cut t.0.0) o t.2 in
    let ts = tag_stands bytes t.0.0 t.0.1 b t.1 in
    let ns = length_stands t.0.1 n.0.0 n.0.1 ts.2 n.1 in
    let cs = cut_stands t.0.0 n.0 o n.2 in
    (known o.tag t.0.0 cs.0 ts.0, omega (arith, ns.0, cs.1), joined bytes t.0.1 n.0.1 t.0.0 n.0.0 o ts.1 ns.1 cs.2 cs.0 cs.1)

pub write_after_read : WriteAfterRead
write_after_read bytes o b e =
    let s = reads_what_stands bytes o b e in
    record { tag_known = s.0; content_fits = s.1; spelling = s.2 }
