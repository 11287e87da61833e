-- Status 0 of a method with a MAC means that the session's MAC counter moved by the call's uses of it.
use Rattle.std.specs.Prelude.{◌≡◌, true, List, [], ◌∷◌, ℕ, ◌+◌}
use Rattle.paper.specs.Bytes.{all_within}
use Rattle.paper.specs.Form.{Fact}
use Rattle.paper.specs.Records.{records, mac_counter}
use Rattle.paper.specs.Calls.{subject, one_of}
use Rattle.paper.specs.Mac.{uses}
use Rattle.paper.specs.Closing.{has_key}
use Rattle.paper.specs.Answer.{answer}
use Rattle.rule.specs.Checked.{caller, Accepted}

-- A call's bytes are at most 255.
pub record Counted : Type 0 where
  -- 8, 9, 12, 50, 51 use it once, 10 twice
  pub moved : (m : ℕ) (s c chip reply : List ℕ) → all_within 0 255 c ≡ true → Accepted m s c chip reply
      → Fact (one_of (8 ∷ 9 ∷ 10 ∷ 12 ∷ 50 ∷ 51 ∷ []) m)
      → mac_counter (caller (answer s c chip reply).store c) ≡ mac_counter (caller s c) + uses m
  -- close twice, where the session has a key and so stays
  pub closed : (s c chip reply : List ℕ) → all_within 0 255 c ≡ true → Accepted 3 s c chip reply → Fact (has_key (subject c) (records s))
      → mac_counter (caller (answer s c chip reply).store c) ≡ mac_counter (caller s c) + uses 3
