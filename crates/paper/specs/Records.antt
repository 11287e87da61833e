-- Records: kinds, fields by name, handles, look-ups, the lowest free place. The fields' ranges are in Table.antt.
use Rattle.std.specs.Prelude.{Bool, cond, List, [], ◌∷◌, ◌++◌, ℕ, zero, suc, ◌+◌, ◌*◌, ◌/◌, length, take, drop}
use Rattle.hmac.specs.Same.{same}
use Rattle.paper.specs.Limits.{record_bytes, handle_step, key_bytes}
use Rattle.paper.specs.Bytes.{byte, two, four, part, zeros_of, text_at}
use Rattle.paper.specs.Form.{Rec, Form, ◌equals◌, say, ◌and◌, some, seek, keep}

-- The store is its records one after another.
unfoldable pub records_of : ℕ → List ℕ → List Rec
records_of zero s = []
records_of (suc n) s = take record_bytes s ∷ records_of n (drop record_bytes s)

unfoldable pub records : List ℕ → List Rec
records s = records_of (length s / record_bytes) s

unfoldable pub joined : List Rec → List ℕ
joined [] = []
joined (r ∷ rs) = r ++ joined rs

-- Byte 0 is the kind.
abbrev pub FREE : ℕ
FREE = 0

abbrev pub SESSION : ℕ
SESSION = 1

abbrev pub PUK : ℕ
PUK = 2

abbrev pub POLICY : ℕ
POLICY = 3

abbrev pub KEY : ℕ
KEY = 4

abbrev pub PENDING : ℕ
PENDING = 5

abbrev pub COUNTER : ℕ
COUNTER = 6

abbrev pub kind : Rec → ℕ
kind r = byte 0 r

-- 4-7 the own handle, 8-11 the session's handle, 12-15 a parent handle (0: none), 16 on the ID.
abbrev pub own : Rec → ℕ
own r = four 4 r

abbrev pub session : Rec → ℕ
session r = four 8 r

abbrev pub parent : Rec → ℕ
parent r = four 12 r

abbrev pub id : Rec → List ℕ
id r = text_at 16 r

-- 1 session
abbrev pub OPEN : ℕ
OPEN = 1

abbrev pub CLOSED : ℕ
CLOSED = 2

abbrev pub state : Rec → ℕ
state r = byte 1 r

abbrev pub next_object : Rec → ℕ
next_object r = two 2 r

abbrev pub client_id : Rec → List ℕ
client_id r = text_at 49 r

abbrev pub session_key : Rec → List ℕ
session_key r = part 82 key_bytes r

abbrev pub mac_counter : Rec → ℕ
mac_counter r = two 114 r

abbrev pub key_limit : Rec → ℕ
key_limit r = two 116 r

abbrev pub key_management : Rec → ℕ
key_management r = byte 119 r

-- What a call sees of its own session: the record's fields by value.
pub record SessionValue : Type 0 where
  pub key : List ℕ
  pub client : List ℕ
  pub counter : ℕ
  pub limit : ℕ
  pub next : ℕ

abbrev pub by_value : Rec → SessionValue
by_value r = record { key = session_key r; client = client_id r; counter = mac_counter r; limit = key_limit r; next = next_object r }

-- 2 PUK and 3 PIN policy
abbrev pub format : Rec → ℕ
format r = byte 1 r

abbrev pub retry_limit : Rec → ℕ
retry_limit r = byte 2 r

abbrev pub puk_errors : Rec → ℕ
puk_errors r = byte 3 r

abbrev pub grouping : Rec → ℕ
grouping r = byte 3 r

abbrev pub user_defined : Rec → ℕ
user_defined r = byte 49 r

abbrev pub user_modifiable : Rec → ℕ
user_modifiable r = byte 50 r

abbrev pub patterns : Rec → ℕ
patterns r = byte 51 r

abbrev pub min_length : Rec → ℕ
min_length r = byte 52 r

abbrev pub max_length : Rec → ℕ
max_length r = byte 53 r

-- 4 key; the value of a PUK, too, stands at 49 on
abbrev pub path_set : Rec → ℕ
path_set r = byte 1 r

abbrev pub key_errors : Rec → ℕ
key_errors r = byte 2 r

abbrev pub delete_protection : Rec → ℕ
delete_protection r = byte 3 r

abbrev pub value_length : Rec → ℕ
value_length r = byte 49 r

abbrev pub value : Rec → List ℕ
value r = text_at 49 r

abbrev pub public_key : Rec → List ℕ
public_key r = text_at 82 r

abbrev pub certificate_digest : Rec → List ℕ
certificate_digest r = part 179 32 r

-- 5 pending
abbrev pub operation : Rec → ℕ
operation r = byte 1 r

abbrev pub is_stale : Rec → ℕ
is_stale r = byte 2 r

-- 6 counter: 4-7 are the next session number
abbrev pub next_session : Rec → ℕ
next_session r = four 4 r

-- Handle = session number × 65,536 + object number; a session has object number 0.
abbrev pub handle : ℕ → ℕ → ℕ
handle number object = number * handle_step + object

abbrev pub session_of : ℕ → ℕ
session_of h = h / handle_step * handle_step

-- A look-up goes by kind, own handle and session, so that the counter's number is never taken for a handle.
abbrev pub is : ℕ → ℕ → ℕ → Rec → Form
is k o s r = kind r equals k and own r equals o and session r equals s

unfoldable pub at : ℕ → ℕ → ℕ → List Rec → Rec
at k o s rs = seek (is k o s) rs

-- The session's own records: all that bear its handle.
abbrev pub bears : ℕ → Rec → Form
bears s r = session r equals s

unfoldable pub block : ℕ → List Rec → List Rec
block s rs = keep (bears s) rs

-- A freed record is all zero; a new one takes the lowest free place.
unfoldable pub zeros : Rec
zeros = zeros_of record_bytes

unfoldable pub is_free : Rec → Bool
is_free r = same r zeros

abbrev pub room : List Rec → Form
room rs = some rs (λ r. say (is_free r))

abbrev pub insert : Rec → List Rec → List Rec
insert r [] = []
insert r (x ∷ xs) = cond (is_free x) (r ∷ xs) (x ∷ insert r xs)
