-- How long the call is (`length_path`).
use Rattle.issuer.proofs.Cases.{length_path}
use Rattle.issuer.proofs.PathOrderOrder.length.Goals as goal

pub returns-clause-meant : goal.returns-clause-meant
returns-clause-meant c = λ i. length_path i _
