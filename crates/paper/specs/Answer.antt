-- The answer: from store, call, chip bytes and reply to status, store afterwards and reply afterwards, for all inputs; and format's.
use Rattle.std.specs.Prelude.{cond, List, [], ◌∷◌, ◌++◌, ℕ, ◌-◌, ◌/◌, length, replicate, eqb, ltb}
use Rattle.paper.specs.Limits.{record_bytes, bytes_from, reply_bytes}
use Rattle.paper.specs.Bytes.{enc4, over, zeros_of}
use Rattle.paper.specs.Form.{Rec, Form, ◌equals◌, say, no, ◌and◌, test, Fault, ◌gives◌, settle}
use Rattle.paper.specs.Records.{records, joined, SESSION, COUNTER, OPEN, at, state, block, zeros}
use Rattle.paper.specs.Sound.{length_fits, sound}
use Rattle.paper.specs.Calls.{method, subject, is_session_call, known, post_in}
use Rattle.paper.specs.Act.{Out, no_attestation, Act, perform}
use Rattle.paper.specs.Objects.{make_puk, make_policy, make_key, set_path}
use Rattle.paper.specs.Posting.{Look, look, post_delete, post_unlock}
use Rattle.paper.specs.Sessions.{create_session, close_session, abort_session}
use Rattle.paper.specs.Users.{delete_key, unlock_key, change_pin, use_key}

-- What a session call comes to, by what it sees: its session's own records, and one look at the key that 50 and 51 name.
unfoldable pub session_act : List ℕ → List ℕ → List Rec → Look → Act
session_act c chip blk l =
    let m = method c in
    cond (eqb m 3) (close_session c chip blk)
    (cond (eqb m 5) (abort_session c chip)
    (cond (eqb m 8) (make_puk c chip blk)
    (cond (eqb m 9) (make_policy c chip blk)
    (cond (eqb m 10) (make_key c chip blk)
    (cond (eqb m 12) (set_path c chip blk)
    (cond (eqb m 50) (post_delete c chip blk l)
    (post_unlock c chip blk l)))))))

unfoldable pub session_step : List ℕ → List ℕ → List Rec → Out
session_step c chip rs =
    let s = subject c in
    perform s (session_act c chip (block s rs) (look (post_in c chip).key rs)) rs

unfoldable pub user_step : List ℕ → List ℕ → List Rec → Out
user_step c chip rs =
    let m = method c in
    cond (eqb m 80) (delete_key c chip rs)
    (cond (eqb m 82) (unlock_key c chip rs)
    (cond (eqb m 83) (change_pin c chip rs)
    (use_key c chip rs)))

unfoldable pub step : List ℕ → List ℕ → List Rec → Out
step c chip rs =
    cond (test (is_session_call c)) (session_step c chip rs)
    (cond (eqb (method c) 2) (create_session c chip rs) (user_step c chip rs))

-- What comes before the method's own refusals, and leaves the store as it is.
abbrev pub is_open : ℕ → List Rec → Form
is_open s rs = state (at SESSION s s rs) equals OPEN

abbrev pub early_faults : List ℕ → List ℕ → List Fault
early_faults s c =
    (no (say (sound s)) gives 19)
    ∷ (no (known c) gives 16)
    ∷ (is_session_call c and no (is_open (subject c) (records s)) gives 5)
    ∷ []

-- What the caller sees, and the store's bytes afterwards.
pub record Judged : Type 0 where
  pub status : ℕ
  pub handle : ℕ
  pub attestation : List ℕ
  pub store : List ℕ

abbrev pub told : Out → Judged
told o = record { status = o.status; handle = o.handle; attestation = o.attestation; store = joined o.store }

unfoldable pub judged : List ℕ → List ℕ → List ℕ → Judged
judged s c chip =
    settle (early_faults s c) (λ n. record { status = n; handle = 0; attestation = no_attestation; store = s })
    (told (step c chip (records s)))

-- The reply: status, handle, attestation; later bytes stay unchanged.
unfoldable pub written : Judged → List ℕ → List ℕ
written j reply = over 0 (j.status ∷ (enc4 j.handle ++ j.attestation)) reply

pub record Answer : Type 0 where
  pub status : ℕ
  pub store : List ℕ
  pub reply : List ℕ

unfoldable pub answer : List ℕ → List ℕ → List ℕ → List ℕ → Answer
answer s c chip reply =
    let j = judged s c chip in
    cond (ltb (length reply) reply_bytes) (record { status = 21; store = s; reply = reply })
    (record { status = j.status; store = j.store; reply = written j reply })

-- Format: the counter at 1 in the first place and all else free, or 19.
unfoldable pub fresh_counter : Rec
fresh_counter = (COUNTER ∷ zeros_of 3) ++ enc4 1 ++ zeros_of (bytes_from 8)

pub record Formatted : Type 0 where
  pub status : ℕ
  pub store : List ℕ

unfoldable pub formatted : List ℕ → Formatted
formatted s =
    cond (length_fits s)
    (record { status = 0; store = joined (fresh_counter ∷ replicate (length s / record_bytes - 1) zeros) })
    (record { status = 19; store = s })
