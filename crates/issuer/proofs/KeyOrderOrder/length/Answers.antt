-- How long the call is (`length_key`).
use Rattle.issuer.proofs.Cases.{length_key}
use Rattle.issuer.proofs.KeyOrderOrder.length.Goals as goal

pub returns-clause-meant : goal.returns-clause-meant
returns-clause-meant c = λ i. length_key i _

pub returns-then-self-gt-LONGEST_CALL-clause-meant : goal.returns-then-self-gt-LONGEST_CALL-clause-meant
returns-then-self-gt-LONGEST_CALL-clause-meant c = λ i. length_key i _
