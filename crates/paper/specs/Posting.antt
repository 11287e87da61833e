-- Methods 50 and 51: a session asks for the removal or the unlocking of a key of a closed session, and holds it from then on.
use Rattle.std.specs.Prelude.{Bool, List, [], ◌∷◌, ◌++◌, ℕ}
use Rattle.std.proofs.Math.Option.{some as just}
use Prim.Native.String.{String}
use Rattle.paper.specs.Limits.{bytes_from}
use Rattle.paper.specs.Bytes.{enc4, zeros_of}
use Rattle.paper.specs.Form.{Rec, Form, ◌equals◌, say, no, ◌and◌, some, test, Fault, ◌gives◌, settle}
use Rattle.paper.specs.Records.{kind, SESSION, KEY, PENDING, CLOSED, at, session_of, parent, state, key_management, SessionValue}
use Rattle.paper.specs.Closing.{held}
use Rattle.paper.specs.Calls.{subject, Post, post_in, post_form}
use Rattle.paper.specs.Mac.{uses, mac, post_data}
use Rattle.paper.specs.Objects.{differs}
use Rattle.paper.specs.Act.{Act, refuse, inside, no_attestation, advance, passes_limit, objects_used_up, fresh, itself, flat}

-- The key of this handle, and the session that it belongs to.
abbrev pub target : ℕ → List Rec → Rec
target k rs = at KEY k (session_of k) rs

abbrev pub home : ℕ → List Rec → Rec
home k rs = at SESSION (session_of k) (session_of k) rs

-- A key of a closed session.
abbrev pub is_target : ℕ → List Rec → Form
is_target k rs = kind (target k rs) equals KEY and state (home k rs) equals CLOSED

-- All that a session call sees of the key it names in another session.
pub record Look : Type 0 where
  pub there : Bool
  pub managed : Bool
  pub pinned : Bool

unfoldable pub look : ℕ → List Rec → Look
look k rs =
    record {
      there = test (is_target k rs);
      managed = test (key_management (home k rs) equals 1);
      pinned = test (no (parent (target k rs) equals 0));
    }

-- No such key; a target without KeyManagementKey, already pending in this session, or (51) without PIN.
abbrev pub post_rules : ℕ → List ℕ → List ℕ → Post → SessionValue → List Rec → Look → List Fault
post_rules op c chip q x blk l =
    (no (post_form c chip) gives 16)
    ∷ (no (say l.there) gives 7)
    ∷ (no (say l.managed) gives 17)
    ∷ (some blk (held (subject c) q.key) gives 17)
    ∷ (op equals 51 and no (say l.pinned) gives 17)
    ∷ (passes_limit (uses 50) x gives 17)
    ∷ []

abbrev pub post_seal : String → Post → SessionValue → List Fault
post_seal name q x =
    (differs q.mac (mac x name (post_data q)) gives 3)
    ∷ (q.verified equals 0 gives 4)
    ∷ (objects_used_up x gives 2)
    ∷ []

abbrev pub post_faults : ℕ → String → List ℕ → List ℕ → Post → SessionValue → List Rec → Look → List Fault
post_faults op name c chip q x blk l = post_rules op c chip q x blk l ++ post_seal name q x

unfoldable pub pending_record : ℕ → ℕ → ℕ → SessionValue → Rec
pending_record op s k x =
    flat ((PENDING ∷ []) ∷ (op ∷ []) ∷ (0 ∷ []) ∷ (0 ∷ []) ∷ enc4 (fresh s x) ∷ enc4 s ∷ enc4 k ∷ zeros_of (bytes_from 16) ∷ [])

unfoldable pub post_by : ℕ → String → SessionValue → List ℕ → List ℕ → List Rec → Look → Act
post_by op name x c chip blk l =
    let s = subject c in
    let q = post_in c chip in
    settle (post_faults op name c chip q x blk l) refuse
    (inside 0 no_attestation (advance s 1 (uses 50)) (just (pending_record op s q.key x)))

abbrev pub post_as : ℕ → String → List ℕ → List ℕ → List Rec → Look → Act
post_as op name c chip blk l = post_by op name (itself c blk) c chip blk l

abbrev pub post_delete : List ℕ → List ℕ → List Rec → Look → Act
post_delete c chip blk l = post_as 50 "postDeleteKey" c chip blk l

abbrev pub post_unlock : List ℕ → List ℕ → List Rec → Look → Act
post_unlock c chip blk l = post_as 51 "postUnlockKey" c chip blk l
