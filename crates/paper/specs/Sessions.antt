-- Methods 2, 3 and 5: a session is made, closed or aborted.
use Rattle.std.specs.Prelude.{cond, List, [], ◌∷◌, ◌++◌, map, ℕ, ◌+◌, length, eqb}
use Rattle.std.proofs.Math.Option.{none}
use Rattle.hmac.specs.Same.{same}
use Rattle.paper.specs.Limits.{bytes_from, longest_id, most_sessions}
use Rattle.paper.specs.Bytes.{enc2, enc4, padded_text, over, zeros_of, ascii}
use Rattle.paper.specs.Form.{Rec, Form, ◌equals◌, ◌=<◌, say, no, ◌and◌, ◌or◌, some, only, seek, Fault, ◌gives◌, settle}
use Rattle.paper.specs.Records.{kind, SESSION, KEY, PENDING, COUNTER, OPEN, SessionValue, handle, client_id, next_session, path_set, is_stale, zeros, room, insert}
use Rattle.paper.specs.Sound.{childless}
use Rattle.paper.specs.Calls.{Create, create_in, create_form, Close, close_in, close_form, abort_form}
use Rattle.paper.specs.Mac.{uses, mac, attestation, close_data, close_attested}
use Rattle.paper.specs.Objects.{differs}
use Rattle.paper.specs.Act.{Out, plain, no_attestation, Act, refuse, inside, close, passes_limit, itself, flat}

-- 2 createProvisioningSession. The counter tells the next session number.
abbrev pub counter : List Rec → Rec
counter rs = seek (λ r. kind r equals COUNTER) rs

abbrev pub client_taken : List ℕ → List Rec → Form
client_taken name rs = some rs (λ r. kind r equals SESSION and say (same (client_id r) name))

abbrev pub create_faults : List ℕ → List ℕ → Create → List Rec → List Fault
create_faults c chip q rs =
    (no (create_form c chip) gives 16)
    ∷ (differs q.algorithm (ascii "http://xmlns.webpki.org/sks/algorithm#session.1") gives 8)
    ∷ (q.limit equals 0 gives 17)
    ∷ (client_taken q.client rs gives 17)
    ∷ (no (next_session (counter rs) =< most_sessions) gives 2)
    ∷ (no (room rs) gives 2)
    ∷ []

-- 1 if a KeyManagementKey was given
abbrev pub given : List ℕ → ℕ
given v = cond (eqb (length v) 0) 0 1

unfoldable pub session_record : ℕ → Create → Rec
session_record h q =
    flat ((SESSION ∷ []) ∷ (OPEN ∷ []) ∷ enc2 1 ∷ enc4 h ∷ enc4 h ∷ enc4 0 ∷ padded_text longest_id q.server ∷ padded_text longest_id q.client
    ∷ q.key ∷ enc2 0 ∷ enc2 q.limit ∷ (q.privacy ∷ []) ∷ (given q.management ∷ []) ∷ q.times ∷ zeros_of (bytes_from 128) ∷ [])

unfoldable pub counted : Rec → Rec
counted = only (λ r. kind r equals COUNTER) (λ r. over 4 (enc4 (next_session r + 1)) r)

unfoldable pub create_session : List ℕ → List ℕ → List Rec → Out
create_session c chip rs =
    let h = handle (next_session (counter rs)) 0 in
    settle (create_faults c chip (create_in c chip) rs) (λ n. plain n rs)
    (record {
      status = 0;
      handle = h;
      attestation = no_attestation;
      store = insert (session_record h (create_in c chip)) (map counted rs);
    })

-- 3 closeProvisioningSession: a key lacks its path, a policy has no child, or a pending is stale.
abbrev pub unfit : List Rec → Form
unfit blk =
    some blk (λ r. kind r equals KEY and path_set r equals 0)
    or some blk (childless blk)
    or some blk (λ r. kind r equals PENDING and is_stale r equals 1)

abbrev pub close_rules : List ℕ → List ℕ → SessionValue → List Fault
close_rules c chip x = (no (close_form c chip) gives 16) ∷ (passes_limit (uses 3) x gives 17) ∷ []

abbrev pub close_seal : Close → SessionValue → List Rec → List Fault
close_seal q x blk =
    (differs q.mac (mac x "closeProvisioningSession" (close_data x q)) gives 3)
    ∷ (unfit blk gives 6)
    ∷ []

abbrev pub close_faults : List ℕ → List ℕ → Close → SessionValue → List Rec → List Fault
close_faults c chip q x blk = close_rules c chip x ++ close_seal q x blk

unfoldable pub close_by : SessionValue → List ℕ → List ℕ → List Rec → Act
close_by x c chip blk = settle (close_faults c chip (close_in c) x blk) refuse (close (attestation x (close_attested (close_in c))))

abbrev pub close_session : List ℕ → List ℕ → List Rec → Act
close_session c chip blk = close_by (itself c blk) c chip blk

-- 5 abortProvisioningSession: the session and all its records are gone.
abbrev pub abort_faults : List ℕ → List ℕ → List Fault
abort_faults c chip = (no (abort_form c chip) gives 16) ∷ []

unfoldable pub abort_session : List ℕ → List ℕ → Act
abort_session c chip = settle (abort_faults c chip) refuse (inside 0 no_attestation (λ r. zeros) none)
