-- Field by field.
use Rattle.store_session.specs.Decoded.{decoded}
use Rattle.store_session.proofs.decode.Goals as goal

pub returns : goal.returns
unfolding decoded
returns c = λ j. record { state = c.byte_at.ensures j; next = c.number_at.ensures j; own = c.four_at.ensures j; session = c.four_at-2.ensures j; serverlength = c.byte_at-2.ensures j; server = c.block_of-server.ensures j; clientlength = c.byte_at-3.ensures j; client = c.block_of-client.ensures j; key = c.block_of-key.ensures j; counter = c.number_at-2.ensures j; limit = c.number_at-3.ensures j; privacy = c.byte_at-4.ensures j; managed = c.byte_at-5.ensures j; time = c.four_at-3.ensures j; life = c.four_at-4.ensures j }
