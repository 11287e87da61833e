-- What each status leaves behind: the paper's table, "left behind", row by row.
use Rattle.std.specs.Prelude.{◌≡◌, true, false, List, ◌∷◌, ◌++◌, map, ◌⊎◌, ℕ, ◌≤◌, ◌<◌, length}
use Rattle.paper.specs.Limits.{reply_bytes}
use Rattle.paper.specs.Bytes.{enc4, over}
use Rattle.paper.specs.Form.{Fact, only}
use Rattle.paper.specs.Records.{records, joined, bears, zeros}
use Rattle.paper.specs.Sound.{sound}
use Rattle.paper.specs.Calls.{method, subject, is_session_call, is_user_call, known}
use Rattle.paper.specs.Pin.{pin_missed, puk_missed}
use Rattle.paper.specs.Posting.{target}
use Rattle.paper.specs.Users.{policy_of, puk_of}
use Rattle.paper.specs.Act.{no_attestation}
use Rattle.paper.specs.Answer.{answer, is_open}

-- A session is removed with all its records, and no other record is touched.
abbrev pub without : ℕ → List ℕ → List ℕ
without t s = joined (map (only (bears t) (λ r. zeros)) (records s))

-- One error count more: of the key that a user call names, or of its PUK.
abbrev pub pin_counted : ℕ → List ℕ → List ℕ
pin_counted k s = joined (map (pin_missed (target k (records s))) (records s))

abbrev pub puk_counted : ℕ → List ℕ → List ℕ
puk_counted k s = joined (map (puk_missed (puk_of (policy_of (target k (records s)) (records s)) (records s))) (records s))

-- The call gets past 21, 19, the first 16 and 5.
pub record Taken (s c reply : List ℕ) : Type 0 where
  pub long : reply_bytes ≤ length reply
  pub sound : sound s ≡ true
  pub known : Fact (known c)
  pub opened : Fact (is_session_call c) → Fact (is_open (subject c) (records s))

pub record Refusals : Type 0 where
  -- 21: same, and nothing written to the reply
  pub short : (s c chip reply : List ℕ) → length reply < reply_bytes → answer s c chip reply ≡ record { status = 21; store = s; reply = reply }
  -- 19, the first 16, 5: same
  pub unsound : (s c chip reply : List ℕ) → reply_bytes ≤ length reply → sound s ≡ false
      → ((answer s c chip reply).status ≡ 19) × ((answer s c chip reply).store ≡ s)
  pub unknown : (s c chip reply : List ℕ) → reply_bytes ≤ length reply → sound s ≡ true → (Fact (known c) → ⊥)
      → ((answer s c chip reply).status ≡ 16) × ((answer s c chip reply).store ≡ s)
  pub unopened : (s c chip reply : List ℕ) → reply_bytes ≤ length reply → sound s ≡ true → Fact (known c)
      → Fact (is_session_call c) → (Fact (is_open (subject c) (records s)) → ⊥)
      → ((answer s c chip reply).status ≡ 5) × ((answer s c chip reply).store ≡ s)
  -- A: a session call removes its session with all its records
  pub session : (s c chip reply : List ℕ) → Taken s c reply → Fact (is_session_call c)
      → 1 ≤ (answer s c chip reply).status → (answer s c chip reply).store ≡ without (subject c) s
  -- method 2 changes nothing
  pub create : (s c chip reply : List ℕ) → Taken s c reply → method c ≡ 2
      → 1 ≤ (answer s c chip reply).status → (answer s c chip reply).store ≡ s
  -- a user call changes nothing, but for one error count with status 1
  pub user : (s c chip reply : List ℕ) → Taken s c reply → Fact (is_user_call c) → 1 ≤ (answer s c chip reply).status
      → ((answer s c chip reply).store ≡ s)
      ⊎ (((answer s c chip reply).status ≡ 1)
      × (((answer s c chip reply).store ≡ pin_counted (subject c) s) ⊎ ((answer s c chip reply).store ≡ puk_counted (subject c) s)))
  -- the reply: status, a handle and an attestation, both zero with a refusal; later bytes stay
  pub replied : (s c chip reply : List ℕ) → reply_bytes ≤ length reply → 1 ≤ (answer s c chip reply).status
      → (answer s c chip reply).reply ≡ over 0 ((answer s c chip reply).status ∷ (enc4 0 ++ no_attestation)) reply
