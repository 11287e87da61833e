-- Status 0 of a method with a MAC means that the MAC of the call is the one its session makes, all 32 bytes of it.
use Rattle.std.specs.Prelude.{◌≡◌, List, ℕ}
use Rattle.paper.specs.Form.{Rec}
use Rattle.paper.specs.Records.{by_value, records, SESSION, PUK, POLICY, KEY, at}
use Rattle.paper.specs.Calls.{method, subject, close_in, puk_in, policy_in, key_in, path_in, post_in}
use Rattle.paper.specs.Mac.{mac, close_data, puk_data, policy_data, key_data, path_data, post_data}
use Rattle.paper.specs.Answer.{answer}
use Rattle.rule.specs.Refusals.{Taken}

-- The session that a call names, and an object of that session.
abbrev pub caller : List ℕ → List ℕ → Rec
caller s c = at SESSION (subject c) (subject c) (records s)

abbrev pub object : List ℕ → List ℕ → ℕ → ℕ → Rec
object s c k h = at k h (subject c) (records s)

-- The call is of method m, and is answered 0.
pub record Accepted (m : ℕ) (s c chip reply : List ℕ) : Type 0 where
  pub taken : Taken s c reply
  pub is : method c ≡ m
  pub zero : (answer s c chip reply).status ≡ 0

pub record Checked : Type 0 where
  pub closes : (s c chip reply : List ℕ) → Accepted 3 s c chip reply
      → (close_in c).mac ≡ mac (by_value (caller s c)) "closeProvisioningSession" (close_data (by_value (caller s c)) (close_in c))
  pub puks : (s c chip reply : List ℕ) → Accepted 8 s c chip reply
      → (puk_in c chip).mac ≡ mac (by_value (caller s c)) "createPUKPolicy" (puk_data (puk_in c chip))
  pub policies : (s c chip reply : List ℕ) → Accepted 9 s c chip reply
      → (policy_in c).mac ≡ mac (by_value (caller s c)) "createPINPolicy" (policy_data (policy_in c) (object s c PUK (policy_in c).puk))
  pub keys : (s c chip reply : List ℕ) → Accepted 10 s c chip reply
      → (key_in c chip).mac ≡ mac (by_value (caller s c)) "createKeyEntry" (key_data (key_in c chip) (object s c POLICY (key_in c chip).policy))
  pub paths : (s c chip reply : List ℕ) → Accepted 12 s c chip reply
      → (path_in c).mac ≡ mac (by_value (caller s c)) "setCertificatePath" (path_data (object s c KEY (path_in c).key) (path_in c))
  pub deletions : (s c chip reply : List ℕ) → Accepted 50 s c chip reply
      → (post_in c chip).mac ≡ mac (by_value (caller s c)) "postDeleteKey" (post_data (post_in c chip))
  pub unlockings : (s c chip reply : List ℕ) → Accepted 51 s c chip reply
      → (post_in c chip).mac ≡ mac (by_value (caller s c)) "postUnlockKey" (post_data (post_in c chip))
