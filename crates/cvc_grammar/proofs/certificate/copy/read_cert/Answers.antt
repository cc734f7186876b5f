use Rattle.std.proofs.Common.{subst}
use Rattle.eac_base.specs.Answers.{Answers}
use Rattle.cvc_grammar.specs.Views.{refused_cvc}
use Rattle.cvc_grammar.proofs.CertAgain.{read_after_write}
use Rattle.cvc_grammar.proofs.Views.{cert_of}
use Rattle.cvc_grammar.proofs.certificate.copy.read_cert.Goals as goal

pub returns-clause-found : goal.returns-clause-found
returns-clause-found c = cert_of c.args.bytes.now c.own_view.result c.are_bytes.ensures c.own_view.ensures.exact

pub returns-clause-only : goal.returns-clause-only
returns-clause-only c d is = subst (λ s. Answers (λ x. x) refused_cvc c.own_view.result s) (read_after_write d c.args.bytes.now is) c.own_view.ensures.exact
