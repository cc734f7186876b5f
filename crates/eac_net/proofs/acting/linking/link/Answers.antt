use Rattle.holder_core.specs.Faults.{HolderCause}
use Rattle.std.proofs.Common.{refl}
use Rattle.cvca_desk.specs.Linking.{Links, LinksExactly, AsksLink, MissesLink}
use Rattle.eac_net.specs.Objects.{Outside, outside}
use Rattle.eac_net.proofs.Authorities.{authority_of, at_terms, some_terms, told_at_terms, link_steps}
use Rattle.eac_net.proofs.Signings.{still_says}
use Rattle.eac_net.proofs.acting.linking.link.Goals as goal

pub new_link-came-requires : goal.new_link-came-requires
new_link-came-requires g c = some_terms c.args.setup.now c.args.authority c.requires.authority

pub returns-clause-steps : goal.returns-clause-steps
returns-clause-steps g c disks =
    let setup = c.args.setup.now in
    let desk = c.args.authority in
    let day = c.unwrap-day.result in
    let a = authority_of setup desk c.requires.authority in
    let o : Outside = outside g.B.Keeper g.P.SignatureProvider disks c.args.keeper.now c.args.provider.now in
    let o' : Outside = outside g.B.Keeper g.P.SignatureProvider disks c.new_link-came.new.keeper c.new_link-came.new.provider in
    let result = c.new_link-came.result in
    link_steps setup desk a _ _ o o' refl day c.unwrap-day.ensures (still_says o.says o'.says o.holds o'.holds o.signed o'.signed c.new_link-came.ensures.provider) c.requires.parties
    c.linked.result c.conclude.result _ _ result c.conclude.ensures c.linked.ensures
    (at_terms setup desk a (λ t. HolderCause (MissesLink o.holds desk day t) (o.keeper_faults, o'.keeper_faults) (o.provider_faults, o'.provider_faults) result) c.new_link-came.ensures.cause)
    (told_at_terms setup desk a (λ t before after. Links o.holds o'.holds desk day t o'.says before after result) (λ t before after. LinksExactly o.holds o'.holds desk day t o'.says (o.signed, o'.signed) before after result) o.rows o'.rows c.new_link-came.ensures.links c.new_link-came.ensures.exact)
    (at_terms setup desk a (λ t. AsksLink o.holds o'.holds desk day t o'.says (o.signed, o'.signed) result) c.new_link-came.ensures.asked)
