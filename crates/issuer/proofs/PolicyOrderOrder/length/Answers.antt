-- How long the call is (`length_policy`).
use Rattle.issuer.proofs.Cases.{length_policy}
use Rattle.issuer.proofs.PolicyOrderOrder.length.Goals as goal

pub returns-clause-meant : goal.returns-clause-meant
returns-clause-meant c = λ i. length_policy i _
