use Rattle.cvc_grammar.specs.RequestViews.{seen_request}
use Rattle.issue_core.specs.Issuing.Looks.{IsSeen}
use Rattle.issue_core.proofs.IssuingDesk.Caused.{err_is}
use Rattle.issue_core.proofs.IssuingDesk.Still.{still, still_unseen}
use Rattle.issue_core.proofs.issuing.looking.gather.Goals as goal

pub returns-in_err-count-clause-told : goal.returns-in_err-count-clause-told
returns-in_err-count-clause-told g c = still_unseen _ _ (λ seen rows. IsSeen c.args.desk c.args.day (seen_request c.args.view.now) c.args.registration.now rows seen) _ _ (err_is _ _ c.from_residual-in_err-count.ensures.1)
    (still _ _ _ _ _ (still _ _ _ _ _ (still _ _ _ _ _ c.find_signer.ensures.told c.find_outer.ensures.told) c.find_held.ensures.told) c.find_count.ensures.told)
