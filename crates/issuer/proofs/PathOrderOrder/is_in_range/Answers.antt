-- What each call ensures, put together, is the statement clause by clause.
use Rattle.issuer.proofs.Cases.{says}
use Rattle.issuer.proofs.PathOrderOrder.is_in_range.Goals as goal

pub returns : goal.returns
returns c =
    says (rw (
      c.is_ready.ensures,
      c.has_certificates.ensures,
      c.is_id.ensures,
      c.has_length-public_fits.ensures,
      c.from.ensures,
    ))
