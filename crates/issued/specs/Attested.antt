-- attested: status 0 to a call of 10 or 3 that was built so leaves an attestation in the reply to which the issuer's check, at the counter
-- of the call, says yes: for 10 with the public key that the chip made.
use Rattle.std.specs.Prelude.{◌≡◌, List, ℕ}
use Rattle.paper.specs.Limits.{mac_bytes}
use Rattle.paper.specs.Bytes.{part, string_at}
use Rattle.paper.specs.Form.{Fact}
use Rattle.paper.specs.Issuing.{Issuer, CloseOrder, close_call, KeyOrder, key_call, key_attests, close_attests}
use Rattle.paper.specs.Answer.{answer}
use Rattle.issued.specs.Meant.{close_meant, key_meant}
use Rattle.issued.specs.NeverThree.{Stands}

-- The attestation of a reply.
abbrev pub attestation_in : List ℕ → List ℕ
attestation_in reply = part 5 mac_bytes reply

pub record Attested : Type 0 where
  pub closes : (i : Issuer) (o : CloseOrder) (s chip reply : List ℕ) → Fact (close_meant i o) → Stands i s
      → (answer s (close_call i o) chip reply).status ≡ 0
      → Fact (close_attests i.key i.counter o.nonce (attestation_in (answer s (close_call i o) chip reply).reply))
  pub keys : (i : Issuer) (o : KeyOrder) (s chip reply : List ℕ) → Fact (key_meant i o) → Stands i s
      → (answer s (key_call i o) chip reply).status ≡ 0
      → Fact (key_attests i.key i.counter o.id (string_at 0 chip) (attestation_in (answer s (key_call i o) chip reply).reply))
