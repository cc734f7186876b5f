-- Rows stay where some are added or one is settled, and what was traced to them stays traced.
use Rattle.std.proofs.Common.{◌≡◌, ◌⊎◌, ℕ, List, ◌++◌, Some, None, true, false, true≢false, refl, sym, ap, ◌∙◌, subst, inl, inr, ⊎_elim}
use Rattle.std.specs.Prelude.{Contains, is_some, IfSome}
use Rattle.std.specs.declared.option.Option.{Option}
use Rattle.std.specs.List.{All}
use Rattle.std.proofs.lemmas.List.Elements.{All-weaker, Contains-append_left}
use Rattle.signature_provider.specs.Provider.{PublicKey, Signed}
use Rattle.cvc_grammar.specs.declared.certificate.CertBody.{CertBody}
use Rattle.keeper.specs.declared.rows.Row.{Row}
use Rattle.keeper.specs.declared.rows.Settled.{Settled}
use Rattle.keeper.specs.declared.rows.OwnPart.{OwnPart}
use Rattle.keeper.specs.declared.rows.Part.{Part}
use Rattle.keeper.specs.declared.rows.Part.TheVariants as part
use Rattle.keeper.specs.Rows.{is_settled, settled_part, with_settled}
use Rattle.issue_core.specs.Issuing.Signed.{Pair}
use Rattle.eac_net.specs.Tracing.{IsOwnKey, Keeps, IsKept, Stay, Traced, AllTraced, IsTracedYes}
use Rattle.eac_net.specs.Verdicts.{Verdict}

pub same_stay : (rows : List Row) → Stay rows rows
same_stay rows row c = inl c

pub more_stay : (before more : List Row) → Stay before (before ++ more)
more_stay before more row c = inl (Contains-append_left before more row c)

-- ---- what keeps a certificate stays

settled_own : (settled : Settled) (p : Part) (own : OwnPart) → p ≡ part.Own own → settled_part settled p ≡ part.Own (record own { settled = Some settled })
settled_own settled p own is = ap (settled_part settled) is

pub own_stays : (before after : List Row) (desk : ℕ) (reference : List ℕ) (key : PublicKey) → Stay before after → IsOwnKey before desk reference key → IsOwnKey after desk reference key
own_stays before after desk reference key stay is = go (stay is.row is.among)
  where
    go : Contains after is.row ⊎ ((settled : Settled) × (is_settled is.row.part ≡ false) × Contains after (with_settled settled is.row)) → IsOwnKey after desk reference key
    go (inl there) = record { row = is.row; own = is.own; among = there; desk_is = is.desk_is; reference_is = is.reference_is; part_is = is.part_is; key_is = is.key_is }
    go (inr now) = record {
      row = with_settled now.0 is.row;
      own = record is.own { settled = Some now.0 };
      among = now.2;
      desk_is = is.desk_is;
      reference_is = is.reference_is;
      part_is = settled_own now.0 is.row.part is.own is.part_is;
      key_is = is.key_is;
    }

keeps_settled : (p : Part) (bytes : List ℕ) → Keeps p bytes → is_settled p ≡ true
keeps_settled (part.Issued p) bytes k = refl
keeps_settled (part.Own own) bytes k = ap (λ (o : Option Settled). is_some o) k.settled_is
keeps_settled (part.Register r d) bytes k = absurd k
keeps_settled (part.Ca p) bytes k = absurd k

kept_stays : (before after : List Row) (key : PublicKey) (body : CertBody) → Stay before after → IsKept before key body → IsKept after key body
kept_stays before after key body stay is = go (stay is.row is.among)
  where
    go : Contains after is.row ⊎ ((settled : Settled) × (is_settled is.row.part ≡ false) × Contains after (with_settled settled is.row)) → IsKept after key body
    go (inl there) = record {
      row = is.row;
      bytes = is.bytes;
      cert = is.cert;
      among = there;
      kept = is.kept;
      text = is.text;
      body_is = is.body_is;
      signer = own_stays before after is.row.desk body.authority key stay is.signer;
    }
    go (inr now) = absurd (true≢false (sym (keeps_settled is.row.part is.bytes is.kept) ∙ now.1))

-- ---- what was traced stays so

pub traced_stays : (before after : List Row) (lost more : List Pair) (pair : Pair) → Stay before after → ((x : Pair) → Contains lost x → Contains more x) → Traced before lost pair → Traced after more pair
traced_stays before after lost more pair stay grows traced cert bytes is text =
    ⊎_elim
    (λ (kept : IsKept before pair.0 cert.body). inl (kept_stays before after pair.0 cert.body stay kept))
    (λ (there : Contains lost pair). inr (grows pair there))
    (traced cert bytes is text)

pub all_traced_stay : (before after : List Row) (lost more pairs : List Pair) → Stay before after → ((x : Pair) → Contains lost x → Contains more x) → AllTraced before lost pairs → AllTraced after more pairs
all_traced_stay before after lost more pairs stay grows all =
    All-weaker (Traced before lost) (Traced after more) (λ pair traced. traced_stays before after lost more pair stay grows traced) pairs all

pub yes_stay : (before after : List Row) (lost more : List Pair) (verdicts : List Verdict) → Stay before after → ((x : Pair) → Contains lost x → Contains more x) →
    All (IsTracedYes before lost) verdicts → All (IsTracedYes after more) verdicts
yes_stay before after lost more verdicts stay grows all =
    All-weaker (IsTracedYes before lost) (IsTracedYes after more)
    (λ v f yes. traced_stays before after lost more (v.question.key, v.question.message) stay grows (f yes)) verdicts all

-- nothing was signed
pub unsigned_traced : (before after : List Row) (lost : List Pair) (signed signed' : Signed) → Stay before after → signed' ≡ signed →
    IfSome signed (λ pairs. AllTraced before lost pairs) → IfSome signed' (λ pairs. AllTraced after lost pairs)
unsigned_traced before after lost signed signed' stay same all =
    subst (λ (x : Signed). IfSome x (λ pairs. AllTraced after lost pairs)) (sym same) (go signed all)
  where
    go : (x : Signed) → IfSome x (λ pairs. AllTraced before lost pairs) → IfSome x (λ pairs. AllTraced after lost pairs)
    go None h = tt
    go (Some pairs) h = all_traced_stay before after lost lost pairs stay (λ x c. c) h
