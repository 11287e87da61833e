-- How long the call is (`length_close`).
use Rattle.issuer.proofs.Cases.{length_close}
use Rattle.issuer.proofs.CloseOrderOrder.length.Goals as goal

pub returns-clause-meant : goal.returns-clause-meant
returns-clause-meant c = λ i. length_close i _
