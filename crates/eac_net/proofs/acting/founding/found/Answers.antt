use Rattle.cvca_desk.specs.Founding.{Founds, SignsFounding, AsksFounding}
use Rattle.std.proofs.Common.{refl}
use Rattle.eac_net.specs.Objects.{Outside, outside}
use Rattle.eac_net.proofs.Authorities.{authority_of, at_terms, some_terms, told_at_terms, found_steps}
use Rattle.eac_net.proofs.Signings.{still_says}
use Rattle.eac_net.proofs.acting.founding.found.Goals as goal

pub found-came-requires : goal.found-came-requires
found-came-requires g c = some_terms c.args.setup.now c.args.authority c.requires.authority

pub returns-clause-steps : goal.returns-clause-steps
returns-clause-steps g c disks =
    let setup = c.args.setup.now in
    let desk = c.args.authority in
    let day = c.unwrap-day.result in
    let a = authority_of setup desk c.requires.authority in
    let o : Outside = outside g.B.Keeper g.P.SignatureProvider disks c.args.keeper.now c.args.provider.now in
    let o' : Outside = outside g.B.Keeper g.P.SignatureProvider disks c.found-came.new.keeper c.found-came.new.provider in
    let result = c.found-came.result in
    found_steps setup desk a _ _ o o' refl day c.unwrap-day.ensures (still_says o.says o'.says o.holds o'.holds o.signed o'.signed c.found-came.ensures.provider) c.requires.parties
    c.founded.result c.conclude.result _ _ result c.conclude.ensures c.founded.ensures c.found-came.ensures.cause
    (told_at_terms setup desk a (λ t before after. Founds o.holds o'.holds desk day t o'.says before after result) (λ t before after. SignsFounding o.holds o'.holds desk day t (o.signed, o'.signed) before after result) o.rows o'.rows c.found-came.ensures.founds c.found-came.ensures.signed)
    (at_terms setup desk a (λ t. AsksFounding o.holds o'.holds day t o'.says (o.signed, o'.signed) result) c.found-came.ensures.asked)
