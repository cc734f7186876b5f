-- What was read stands there, in the text that is written.
use Rattle.std.proofs.Common.{◌≡◌, ℕ, ◌<◌, ◌≤◌, eqb, List, [], ◌∷◌, ◌++◌, length, Option, Some, None, Result, Ok, Err, refl, sym, ap, subst, ◌∙◌, arith, append-nil}
use Rattle.std.specs.Prelude.{IsTrue, IfSome, IfOk}
use Rattle.std.specs.Result.{result_ok}
use Rattle.std.proofs.lemmas.Bool.{eqb-true}
use Rattle.eac_base.specs.Bytes.{AreBytes, is_empty}
use Rattle.eac_base.proofs.Steps.{empty_is, AreBytes-front, AreBytes-back}
use Rattle.tlv_core.specs.Object.{object, tag_bytes, length_bytes, First, first_object}
use Rattle.tlv_core.specs.declared.TlvRefusal.{TlvRefusal}
use Rattle.tlv_core.proofs.Objects.{reads_what_stands}
use Rattle.holder_reference.specs.Reference.{is_reference, is_holder}
use Rattle.cv_dates.specs.Calendar.{date_of, read_date}
use Rattle.cv_dates.proofs.DateLaws.{read_is_the_text}
use Rattle.chat_rights.specs.Template.{template_text, read_template}
use Rattle.chat_rights.proofs.Templates.{template_stands}
use Rattle.signature_provider.specs.declared.key.Algorithm.{Algorithm}
use Rattle.signature_provider.specs.declared.key.Key.{Key}
use Rattle.signature_provider.specs.Key.{is_algorithm}
use Rattle.keeper.specs.declared.rows.Part.{Part}
use Rattle.keeper.specs.declared.rows.Part.TheVariants as parts
use Rattle.keeper.specs.declared.rows.Table.{Table}
use Rattle.keeper.specs.declared.rows.Table.TheVariants as tables
use Rattle.keeper.specs.declared.rows.Settled.{Settled}
use Rattle.keeper.specs.Rows.{IsStorableKey, IsStorableSettled}
use Rattle.keeper_sqlite.specs.StoredRow.{key_text, settled_text, if_settled, IsLegalSettled, IsStored}
use Rattle.keeper_sqlite.specs.ReadingOrder.{tagged, content_at, last_content, algorithm_in, key_in, reference_in, holder_in, settled_in, settled_or_none, register_in, issued_in, own_in, ca_in, read_stored}
use Rattle.keeper_sqlite.proofs.Options.{some_gives, some_is, some_if, ok_of, mapped_is}
use Rattle.keeper_sqlite.proofs.Texts.{four_in_row, five_in_row}
use Rattle.keeper_sqlite.proofs.Again.{again}

-- ---- objects

record Stood (tag : ℕ) (bytes c rest : List ℕ) : Type 0 where
  text : bytes ≡ object tag c ++ rest
  short : length c < 65536
  content_bytes : AreBytes c
  rest_bytes : AreBytes rest

along : (xs ys : List ℕ) → xs ≡ ys → AreBytes xs → AreBytes ys
along xs ys e b = subst AreBytes e b

stood_of : (bytes : List ℕ) (o : First) → AreBytes bytes → first_object bytes ≡ Ok o → Stood o.tag bytes o.content o.rest
stood_of bytes o b e =
    let s = reads_what_stands bytes o b e in
    let whole = along bytes (object o.tag o.content ++ o.rest) s.2 b in
    let head = tag_bytes o.tag ++ length_bytes (length o.content) in
    record {
      text = s.2;
      short = s.1;
      content_bytes = AreBytes-back head o.content (AreBytes-front (object o.tag o.content) o.rest whole);
      rest_bytes = AreBytes-back (object o.tag o.content) o.rest whole;
    }

tagged_stands : (tag : ℕ) (bytes : List ℕ) (r : Result First TlvRefusal) (o : List ℕ × List ℕ) → AreBytes bytes → first_object bytes ≡ r → tagged tag r ≡ Some o → Stood tag bytes o.0 o.1
tagged_stands tag bytes (Err e) o b is h = absurd cc
tagged_stands tag bytes (Ok f) o b is h =
    let p = some_if (eqb f.tag tag) (f.content, f.rest) o h in
    subst (λ (q : List ℕ × List ℕ). Stood tag bytes q.0 q.1) p.1 (subst (λ t. Stood t bytes f.content f.rest) (eqb-true f.tag tag p.0) (stood_of bytes f b is))

content_stands : (tag : ℕ) (bytes : List ℕ) (o : List ℕ × List ℕ) → AreBytes bytes → content_at tag bytes ≡ Some o → Stood tag bytes o.0 o.1
content_stands tag bytes o b h = tagged_stands tag bytes (first_object bytes) o b refl h

record StoodLast (tag : ℕ) (bytes c : List ℕ) : Type 0 where
  text : bytes ≡ object tag c
  short : length c < 65536
  content_bytes : AreBytes c

last_stands : (tag : ℕ) (bytes c : List ℕ) → AreBytes bytes → last_content tag bytes ≡ Some c → StoodLast tag bytes c
last_stands tag bytes c b h =
    let o = some_gives (content_at tag bytes) _ c h in
    let s = content_stands tag bytes o.0 b o.1 in
    let p = some_if (is_empty o.0.1) o.0.0 c o.2 in
    subst (StoodLast tag bytes) p.1 (record { text = s.text ∙ ap (λ (r : List ℕ). object tag o.0.0 ++ r) (empty_is o.0.1 p.0) ∙ append-nil (object tag o.0.0); short = s.short; content_bytes = s.content_bytes })

within : (n : ℕ) → n < 65536 → n ≤ 65535
within n h = omega (arith, h)

-- ---- keys

algorithm_stands : (a : List ℕ) (x : Algorithm) → algorithm_in a ≡ Some x → (a ≡ x.arc ∷ x.last ∷ []) × IsTrue (is_algorithm x)
algorithm_stands [] x h = absurd cc
algorithm_stands (arc ∷ []) x h = absurd cc
algorithm_stands (arc ∷ last ∷ []) x h =
    let read : Algorithm = record { arc = arc; last = last } in
    let p = some_if (is_algorithm read) read x h in
    (ap (λ (y : Algorithm). y.arc ∷ y.last ∷ []) p.1, subst (λ (y : Algorithm). IsTrue (is_algorithm y)) p.1 p.0)
algorithm_stands (arc ∷ last ∷ other ∷ more) x h = absurd cc

record KeyStands (bytes : List ℕ) (k : Key) (rest : List ℕ) : Type 0 where
  storable : IsStorableKey k
  text : bytes ≡ key_text k ++ rest
  rest_bytes : AreBytes rest

key_stands : (bytes : List ℕ) (o : Key × List ℕ) → AreBytes bytes → key_in bytes ≡ Some o → KeyStands bytes o.0 o.1
key_stands bytes o b h =
    let a = some_gives (content_at 0x81 bytes) _ o h in
    let d = some_gives (content_at 0x82 a.0.1) _ o a.2 in
    let p = some_gives (content_at 0x83 d.0.1) _ o d.2 in
    let c = some_gives (content_at 0x84 p.0.1) _ o p.2 in
    let x = some_gives (algorithm_in a.0.0) _ o c.2 in
    let sa = content_stands 0x81 bytes a.0 b a.1 in
    let sd = content_stands 0x82 a.0.1 d.0 sa.rest_bytes d.1 in
    let sp = content_stands 0x83 d.0.1 p.0 sd.rest_bytes p.1 in
    let sc = content_stands 0x84 p.0.1 c.0 sp.rest_bytes c.1 in
    let sx = algorithm_stands a.0.0 x.0 x.1 in
    let read : Key = record { algorithm = x.0; domain = d.0.0; point = p.0.0; cofactor = c.0.0 } in
    subst (λ (q : Key × List ℕ). KeyStands bytes q.0 q.1) (some_is (read, c.0.1) o x.2) (record {
      storable = record { algorithm = sx.1; domain = within (length d.0.0) sd.short; point = within (length p.0.0) sp.short; cofactor = within (length c.0.0) sc.short };
      text = four_in_row bytes (object 0x81 (x.0.arc ∷ x.0.last ∷ [])) a.0.1 (object 0x82 d.0.0) d.0.1 (object 0x83 p.0.0) p.0.1 (object 0x84 c.0.0) c.0.1 (sa.text ∙ ap (λ (l : List ℕ). object 0x81 l ++ a.0.1) sx.0) sd.text sp.text sc.text;
      rest_bytes = sc.rest_bytes;
    })

-- ---- certificates

record SettledStands (bytes : List ℕ) (s : Settled) : Type 0 where
  storable : IsStorableSettled s
  legal : IsLegalSettled s
  text : bytes ≡ settled_text s

settled_stands : (bytes : List ℕ) (s : Settled) → AreBytes bytes → settled_in bytes ≡ Some s → SettledStands bytes s
settled_stands bytes s b h =
    let c = some_gives (content_at 0x86 bytes) _ s h in
    let i = some_gives (content_at 0x87 c.0.1) _ s c.2 in
    let t = some_gives (content_at 0x88 i.0.1) _ s i.2 in
    let f = some_gives (content_at 0x89 t.0.1) _ s t.2 in
    let u = some_gives (last_content 0x8a f.0.1) _ s f.2 in
    let issuer = some_gives (reference_in i.0.0) _ s u.2 in
    let template = some_gives (result_ok (read_template t.0.0)) _ s issuer.2 in
    let from = some_gives (result_ok (read_date f.0.0)) _ s template.2 in
    let until = some_gives (result_ok (read_date u.0)) _ s from.2 in
    let sc = content_stands 0x86 bytes c.0 b c.1 in
    let si = content_stands 0x87 c.0.1 i.0 sc.rest_bytes i.1 in
    let st = content_stands 0x88 i.0.1 t.0 si.rest_bytes t.1 in
    let sf = content_stands 0x89 t.0.1 f.0 st.rest_bytes f.1 in
    let su = last_stands 0x8a f.0.1 u.0 sf.rest_bytes u.1 in
    let pi = some_if (is_reference i.0.0) i.0.0 issuer.0 issuer.1 in
    let pt = template_stands template.0 t.0.0 st.content_bytes (ok_of (read_template t.0.0) template.0 template.1) in
    let pf = read_is_the_text f.0.0 from.0 (ok_of (read_date f.0.0) from.0 from.1) in
    let pu = read_is_the_text u.0 until.0 (ok_of (read_date u.0) until.0 until.1) in
    let read : Settled = record { certificate = c.0.0; issuer = issuer.0; template = template.0; from = from.0; until = until.0 } in
    subst (SettledStands bytes) (some_is read s until.2) (record {
      storable = within (length c.0.0) sc.short;
      legal = record { issuer = subst (λ (r : List ℕ). IsTrue (is_reference r)) pi.1 pi.0; template = pt.fit; from = pf.0; until = pu.0 };
      text = five_in_row bytes (object 0x86 c.0.0) c.0.1 (object 0x87 issuer.0) i.0.1 (object 0x88 (template_text template.0)) t.0.1 (object 0x89 (date_of from.0)) f.0.1 (object 0x8a (date_of until.0))
          sc.text
          (si.text ∙ ap (λ (r : List ℕ). object 0x87 r ++ i.0.1) pi.1)
          (st.text ∙ ap (λ (r : List ℕ). object 0x88 r ++ t.0.1) pt.spelling)
          (sf.text ∙ ap (λ (r : List ℕ). object 0x89 r ++ f.0.1) pf.1)
          (su.text ∙ ap (λ (r : List ℕ). object 0x8a r) pu.1);
    })

record IfSettledStands (bytes : List ℕ) (o : Option Settled) : Type 0 where
  storable : IfSome o IsStorableSettled
  legal : IfSome o IsLegalSettled
  text : bytes ≡ if_settled o

some_stands : (bytes : List ℕ) (s : Settled) → SettledStands bytes s → IfSettledStands bytes (Some s)
some_stands bytes s h = record { storable = h.storable; legal = h.legal; text = h.text }

if_settled_stands : (bytes : List ℕ) (o : Option Settled) → AreBytes bytes → settled_or_none bytes ≡ Some o → IfSettledStands bytes o
if_settled_stands [] o b h = subst (IfSettledStands []) (some_is None o h) (record { storable = tt; legal = tt; text = refl })
if_settled_stands (x ∷ bytes) o b h =
    let m = mapped_is (λ (s : Settled). Some s) (settled_in (x ∷ bytes)) o h in
    subst (IfSettledStands (x ∷ bytes)) m.2 (some_stands (x ∷ bytes) m.0 (settled_stands (x ∷ bytes) m.0 b m.1))

-- ---- parts

register_stands : (body : List ℕ) (part : Part) → AreBytes body → register_in body ≡ Some part → IsStored tables.Register part body
register_stands body part b h =
    let r = some_gives (content_at 0x80 body) _ part h in
    let d = some_gives (last_content 0x8b r.0.1) _ part r.2 in
    let p = some_if (eqb (length d.0) 6) (parts.Register r.0.0 d.0) part d.2 in
    let sr = content_stands 0x80 body r.0 b r.1 in
    let sd = last_stands 0x8b r.0.1 d.0 sr.rest_bytes d.1 in
    subst (λ (q : Part). IsStored tables.Register q body) p.1 (record {
      table_is = refl;
      storable = within (length r.0.0) sr.short;
      legal = eqb-true (length d.0) 6 p.0;
      spelling = sr.text ∙ ap (λ (x : List ℕ). object 0x80 r.0.0 ++ x) sd.text;
    })

issued_stands : (body : List ℕ) (part : Part) → AreBytes body → issued_in body ≡ Some part → IsStored tables.Issued part body
issued_stands body part b h =
    let r = some_gives (content_at 0x80 body) _ part h in
    let k = some_gives (key_in r.0.1) _ part r.2 in
    let s = some_gives (settled_in k.0.1) _ part k.2 in
    let sr = content_stands 0x80 body r.0 b r.1 in
    let sk = key_stands r.0.1 k.0 sr.rest_bytes k.1 in
    let ss = settled_stands k.0.1 s.0 sk.rest_bytes s.1 in
    subst (λ (q : Part). IsStored tables.Issued q body) (some_is _ part s.2) (record {
      table_is = refl;
      storable = record { request = within (length r.0.0) sr.short; key = sk.storable; settled = ss.storable };
      legal = ss.legal;
      spelling = sr.text ∙ ap (λ (x : List ℕ). object 0x80 r.0.0 ++ x) (sk.text ∙ ap (λ (x : List ℕ). key_text k.0.0 ++ x) ss.text);
    })

own_stands : (body : List ℕ) (part : Part) → AreBytes body → own_in body ≡ Some part → IsStored tables.Own part body
own_stands body part b h =
    let r = some_gives (content_at 0x80 body) _ part h in
    let k = some_gives (key_in r.0.1) _ part r.2 in
    let a = some_gives (content_at 0x85 k.0.1) _ part k.2 in
    let holder = some_gives (holder_in a.0.0) _ part a.2 in
    let s = some_gives (settled_or_none a.0.1) _ part holder.2 in
    let sr = content_stands 0x80 body r.0 b r.1 in
    let sk = key_stands r.0.1 k.0 sr.rest_bytes k.1 in
    let sa = content_stands 0x85 k.0.1 a.0 sk.rest_bytes a.1 in
    let ph = some_if (is_holder a.0.0) a.0.0 holder.0 holder.1 in
    let ss = if_settled_stands a.0.1 s.0 sa.rest_bytes s.1 in
    subst (λ (q : Part). IsStored tables.Own q body) (some_is _ part s.2) (record {
      table_is = refl;
      storable = record { request = within (length r.0.0) sr.short; key = sk.storable; settled = ss.storable };
      legal = record { authority = subst (λ (x : List ℕ). IsTrue (is_holder x)) ph.1 ph.0; settled = ss.legal };
      spelling = sr.text ∙ ap (λ (x : List ℕ). object 0x80 r.0.0 ++ x) (sk.text ∙ ap (λ (x : List ℕ). key_text k.0.0 ++ x)
          (sa.text ∙ ap (λ (x : List ℕ). object 0x85 x ++ a.0.1) ph.1 ∙ ap (λ (x : List ℕ). object 0x85 holder.0 ++ x) ss.text));
    })

ca_stands : (body : List ℕ) (part : Part) → AreBytes body → ca_in body ≡ Some part → IsStored tables.Ca part body
ca_stands body part b h =
    let k = some_gives (key_in body) _ part h in
    let s = some_gives (settled_in k.0.1) _ part k.2 in
    let sk = key_stands body k.0 b k.1 in
    let ss = settled_stands k.0.1 s.0 sk.rest_bytes s.1 in
    subst (λ (q : Part). IsStored tables.Ca q body) (some_is _ part s.2) (record {
      table_is = refl;
      storable = record { key = sk.storable; settled = ss.storable };
      legal = ss.legal;
      spelling = sk.text ∙ ap (λ (x : List ℕ). key_text k.0.0 ++ x) ss.text;
    })

pub stands : (table : Table) (body : List ℕ) (part : Part) → AreBytes body → read_stored table body ≡ Some part → IsStored table part body
stands tables.Register body part b h = register_stands body part b h
stands tables.Issued body part b h = issued_stands body part b h
stands tables.Own body part b h = own_stands body part b h
stands tables.Ca body part b h = ca_stands body part b h

-- ---- what a reader answers

pub stored_read : (table : Table) (body : List ℕ) (part : Part) → IsStored table part body → read_stored table body ≡ Some part
stored_read table body part is = subst (λ t. read_stored t body ≡ Some part) is.table_is (ap (read_stored _) is.spelling ∙ again part is.storable is.legal)

if_stands : (table : Table) (body : List ℕ) (o : Option Part) → AreBytes body → o ≡ read_stored table body → IfSome o (λ part. IsStored table part body)
if_stands table body None b e = tt
if_stands table body (Some part) b e = stands table body part b (sym e)

pub found : {E : Type 0} (table : Table) (body : List ℕ) (r : Result (Option Part) E) → AreBytes body → IfOk r (λ p. p ≡ read_stored table body) → IfOk r (λ p. IfSome p (λ part. IsStored table part body))
found table body (Ok o) b e = if_stands table body o b e
found table body (Err x) b e = tt

pub only : {E : Type 0} (table : Table) (body : List ℕ) (r : Result (Option Part) E) (part : Part) → IsStored table part body → IfOk r (λ p. p ≡ read_stored table body) → IfOk r (λ p. p ≡ Some part)
only table body (Ok o) part is e = e ∙ stored_read table body part is
only table body (Err x) part is e = tt
