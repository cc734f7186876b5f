use Rattle.std.proofs.Common.{◌≡◌, ◌+◌, [], ◌∷◌, ◌++◌, List, ℕ, length, ap, ◌∙◌, arith}
use Rattle.signature_provider.specs.Provider.{PublicKey, public_key}
use Rattle.signature_provider.specs.Instruments.{table_signature}
use Rattle.signature_provider.proofs.Tables.{table_signs, table_grows, table_honest}
use Rattle.signature_provider.proofs.table.add_row.Goals as goal

pub returns-clause-made : goal.returns-clause-made
returns-clause-made c =
    let rows = c.args.rows.now.items in
    let number : c.len.result + 1 ≡ length rows + 1 = omega arith in
    let key : c.in_ok-of.field-0 ≡ public_key c.args.key.now = c.in_ok-of.ensures ∙ c.view.ensures in
    let row : (c.in_ok-of.field-0, c.in_ok-from_slice.field-0) ≡ (public_key c.args.key.now, c.args.message.now) = λ i. (key i, c.in_ok-from_slice.ensures i) in
    let added = c.in_ok-push.ensures.items ∙ ap (λ (r : PublicKey × List ℕ). rows ++ r ∷ []) row in
    let spelt = c.in_ok-signature.ensures ∙ c.signature_of.ensures ∙ ap table_signature number in
    table_signs rows c.push.new.self.items (public_key c.args.key.now) c.args.message.now c.in_ok-signature.signature added spelt

pub returns-clause-says : goal.returns-clause-says
returns-clause-says c = table_grows c.args.rows.now.items c.push.new.self.items _ c.in_ok-push.ensures.items

pub returns-clause-honest : goal.returns-clause-honest
returns-clause-honest c = λ _. table_honest c.push.new.self.items
