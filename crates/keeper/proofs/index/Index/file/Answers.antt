use Rattle.std.proofs.Common.{cond, Some, ap, ◌∙◌}
use Rattle.std.specs.BTreeMap.{get}
use Rattle.keeper.specs.declared.index.KeyPlaces.{KeyPlaces}
use Rattle.keeper.specs.Headings.{heading_cmp, is_under}
use Rattle.keeper.proofs.Indexes.{index_more, index_undone}
use Rattle.keeper.proofs.index.Index.file.Goals as goal

pub returns-in-Ok-clause-filed : goal.returns-in-Ok-clause-filed
returns-in-Ok-clause-filed c = λ rows e none is.
    index_more c.args.self.now (record { keys = c.enter.new.self; desks = c.file_lists.new.self.desks; holders = c.file_lists.new.self.holders }) rows c.args.row.now c.args.place e none
    (λ q. c.in-Ok.ensures.entered q ∙ (λ i. cond (is_under (c.key_of.ensures i) q) (Some c.args.place) (get heading_cmp (c.in_ok-file_lists.ensures.keys i).places q)))
    c.in_ok-file_lists.ensures.desks c.in_ok-file_lists.ensures.holders is

pub returns-in-Err-clause-kept : goal.returns-in-Err-clause-kept
returns-in-Err-clause-kept c =
    index_undone c.args.self.now (record { keys = c.enter.new.self; desks = c.file_lists.new.self.desks; holders = c.file_lists.new.self.holders }) c.unfile_lists.new.self c.args.row.now c.args.place
    (λ q. c.in-Err.ensures.kept q ∙ ap (λ (k : KeyPlaces). get heading_cmp k.places q) c.in_ok-file_lists.ensures.keys) c.unfile_lists.ensures.keys
    c.in_ok-file_lists.ensures.desks c.in_ok-file_lists.ensures.holders c.unfile_lists.ensures.desks c.unfile_lists.ensures.holders
