-- How long the call is (`length_post`).
use Rattle.issuer.proofs.Cases.{length_post}
use Rattle.issuer.proofs.PostOrderOrder.length.Goals as goal

pub returns-clause-meant : goal.returns-clause-meant
returns-clause-meant c = λ i. length_post i _
