-- How long the call is (`length_puk`).
use Rattle.issuer.proofs.Cases.{length_puk}
use Rattle.issuer.proofs.PukOrderOrder.length.Goals as goal

pub returns-clause-meant : goal.returns-clause-meant
returns-clause-meant c = λ i. length_puk i _
