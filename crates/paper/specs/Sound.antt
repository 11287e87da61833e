-- When a store is sound, clause by clause in the paper's order. Each clause is of one record, of a pair of records, or says that
-- some record is there; none looks a record up. Whoever stands under another also bears the same session.
use Rattle.std.specs.Prelude.{Bool, ◌&&◌, List, ℕ, suc, ◌+◌, ◌*◌, ◌/◌, ◌%◌, length, eqb}
use Rattle.hmac.specs.Same.{same}
use Rattle.paper.specs.Limits.{record_bytes, fewest_records, most_records, handle_step, most_objects, pin_width, id_width}
use Rattle.paper.specs.Bytes.{part, within}
use Rattle.paper.specs.Form.{Rec, Form, ◌equals◌, ◌=<◌, say, no, ◌and◌, ◌or◌, ◌then◌, each, some, apart, test}
use Rattle.paper.specs.Records.{records, kind, SESSION, PUK, POLICY, KEY, PENDING, COUNTER, OPEN, CLOSED, own, session, parent, is, session_of, state, next_object, next_session, mac_counter, key_limit, key_management, session_key, retry_limit, puk_errors, grouping, min_length, max_length, path_set, value_length, key_errors, delete_protection, certificate_digest, operation, is_stale}
use Rattle.paper.specs.Table.{obeys_table, is_blank}

-- Its length fits.
unfoldable pub length_fits : List ℕ → Bool
length_fits s = eqb (length s % record_bytes) 0 && within fewest_records most_records (length s / record_bytes)

-- Kinds 2 to 5 are objects; handles are those of kinds 1 to 5; kinds 2 to 4 have an ID. A pending is stale, or has a target.
abbrev pub is_object : Rec → Form
is_object r = PUK =< kind r and kind r =< PENDING

abbrev pub has_handle : Rec → Form
has_handle r = SESSION =< kind r and kind r =< PENDING

abbrev pub has_id : Rec → Form
has_id r = PUK =< kind r and kind r =< KEY

abbrev pub parentless : Rec → Form
parentless r = parent r equals 0

-- Records obey the table.
abbrev pub tabled : Rec → Form
tabled r = say (obeys_table r)

-- One counter stands in it: one is there, and no two.
abbrev pub has_counter : List Rec → Form
has_counter rs = some rs (λ r. kind r equals COUNTER)

abbrev pub one_counter : Rec → Rec → Form
one_counter x y = kind x equals COUNTER then no (kind y equals COUNTER)

-- Handles are distinct,
abbrev pub handles_differ : Rec → Rec → Form
handles_differ x y = has_handle x then has_handle y then no (own x equals own y)

-- carry their session's number (from 1)
abbrev pub session_carries : Rec → Form
session_carries r = kind r equals SESSION then own r equals session r and handle_step =< own r and own r % handle_step equals 0

abbrev pub object_carries : Rec → Form
object_carries r = is_object r then suc (session r) =< own r and own r =< session r + most_objects

-- and are below the next numbers.
abbrev pub below_next : Rec → Rec → Form
below_next x y = kind x equals SESSION then is_object y then session y equals own x then suc (own y) =< own x + next_object x

abbrev pub below_counter : Rec → Rec → Form
below_counter x y = kind x equals COUNTER then kind y equals SESSION then suc (own y) =< next_session x * handle_step

-- Object IDs differ within a session, ClientSessionIDs over the store.
abbrev pub ids_differ : Rec → Rec → Form
ids_differ x y = has_id x then has_id y then session x equals session y then no (say (same (part 16 id_width x) (part 16 id_width y)))

abbrev pub clients_differ : Rec → Rec → Form
clients_differ x y = kind x equals SESSION then kind y equals SESSION then no (say (same (part 49 id_width x) (part 49 id_width y)))

-- Each object's session exists;
abbrev pub is_in : List Rec → ℕ → ℕ → ℕ → Form
is_in rs k o s = some rs (is k o s)

abbrev pub session_there : List Rec → Rec → Form
session_there rs y = is_object y then is_in rs SESSION (session y) (session y)

-- a PIN's PUK and a key's PIN policy exist in the same session;
abbrev pub puk_there : List Rec → Rec → Form
puk_there rs y = kind y equals POLICY then no (parentless y) then is_in rs PUK (parent y) (session y)

abbrev pub policy_there : List Rec → Rec → Form
policy_there rs y = kind y equals KEY then no (parentless y) then is_in rs POLICY (parent y) (session y)

-- a key has a PIN exactly if it has a policy, and no errors without one; DeleteProtection 1 has a PIN, 2 a PUK;
abbrev pub bare_key : Rec → Form
bare_key r =
    kind r equals KEY then parentless r then
    value_length r equals 0 and key_errors r equals 0 and no (delete_protection r equals 1) and no (delete_protection r equals 2)

abbrev pub pinned_key : Rec → Form
pinned_key r = kind r equals KEY then no (parentless r) then no (value_length r equals 0)

-- the policy x is that of the key y
abbrev pub governs : Rec → Rec → Form
governs x y = kind x equals POLICY and kind y equals KEY and parent y equals own x and session y equals session x

abbrev pub puk_for_protection : Rec → Rec → Form
puk_for_protection x y = governs x y then delete_protection y equals 2 then no (parentless x)

-- error counts are at most the retry limit (0 where a PUK's limit is 0);
abbrev pub key_counts : Rec → Rec → Form
key_counts x y = governs x y then key_errors y =< retry_limit x

abbrev pub puk_counts : Rec → Form
puk_counts r = kind r equals PUK then puk_errors r =< retry_limit r

-- the MAC counter is at most its limit. Of the field ranges, two speak of two fields: min ≤ max, and no digest without path.
abbrev pub mac_counts : Rec → Form
mac_counts r = kind r equals SESSION then mac_counter r =< key_limit r

abbrev pub lengths_rise : Rec → Form
lengths_rise r = kind r equals POLICY then min_length r =< max_length r

abbrev pub no_digest : Rec → Form
no_digest r = kind r equals KEY then path_set r equals 0 then say (is_blank (certificate_digest r))

-- A closed session has a key, all its keys have paths, no policy in it lacks a child, and its SessionKey is zero.
abbrev pub closed : Rec → Form
closed x = kind x equals SESSION and state x equals CLOSED

abbrev pub key_there : List Rec → Rec → Form
key_there rs x = closed x then some rs (λ y. kind y equals KEY and session y equals own x)

abbrev pub paths_set : Rec → Rec → Form
paths_set x y = closed x then kind y equals KEY then session y equals own x then path_set y equals 1

-- A PUK's children are PIN policies, a PIN policy's are keys.
abbrev pub child : List Rec → ℕ → Rec → Form
child rs k p = some rs (λ x. kind x equals k and parent x equals own p and session x equals session p)

abbrev pub childless : List Rec → Rec → Form
childless rs y = (kind y equals PUK and no (child rs POLICY y)) or (kind y equals POLICY and no (child rs KEY y))

abbrev pub policies_used : List Rec → Rec → Rec → Form
policies_used rs x y = closed x then session y equals own x then no (childless rs y)

abbrev pub key_wiped : Rec → Form
key_wiped x = closed x then say (is_blank (session_key x))

-- A pending belongs to an open session;
abbrev pub pending_open : Rec → Rec → Form
pending_open x y = kind x equals SESSION then kind y equals PENDING then session y equals own x then state x equals OPEN

-- it has no target exactly if it is stale;
abbrev pub target_unless_stale : Rec → Form
target_unless_stale r = kind r equals PENDING then (is_stale r equals 1 then parentless r) and (parentless r then is_stale r equals 1)

-- an unstale one targets a key of a closed session that has a KeyManagementKey (and, for 51, a PIN policy);
abbrev pub target_there : List Rec → Rec → Form
target_there rs y = kind y equals PENDING then no (parentless y) then is_in rs KEY (parent y) (session_of (parent y))

abbrev pub target_managed : Rec → Rec → Form
target_managed x y =
    kind x equals SESSION then kind y equals PENDING then no (parentless y) then own x equals session_of (parent y) then
    state x equals CLOSED and key_management x equals 1

abbrev pub target_pinned : Rec → Rec → Form
target_pinned x y = kind x equals KEY then kind y equals PENDING then parent y equals own x then operation y equals 51 then no (parentless x)

-- one session has at most one unstale pending per key;
abbrev pub one_pending : Rec → Rec → Form
one_pending x y = kind x equals PENDING then kind y equals PENDING then session x equals session y then parent x equals parent y then parentless x

-- keys under a shared policy have equal PINs.
abbrev pub pins_shared : List Rec → Rec → Form
pins_shared rs p =
    kind p equals POLICY then grouping p equals 1 then
    each rs (λ x. governs p x then each rs (λ y. governs p y then say (same (part 49 pin_width x) (part 49 pin_width y))))

-- The clauses together: of one record, of two at different places, of one and another, and of what must be there.
abbrev pub alone : Rec → Form
alone r =
    tabled r and session_carries r and object_carries r and bare_key r and pinned_key r and puk_counts r and mac_counts r
    and lengths_rise r and no_digest r and key_wiped r and target_unless_stale r

abbrev pub distinct : Rec → Rec → Form
distinct x y = one_counter x y and handles_differ x y and ids_differ x y and clients_differ x y and one_pending x y

abbrev pub related : Rec → Rec → Form
related x y =
    below_next x y and below_counter x y and puk_for_protection x y and key_counts x y and paths_set x y and pending_open x y
    and target_managed x y and target_pinned x y

abbrev pub housed : List Rec → Rec → Form
housed rs r = session_there rs r and puk_there rs r and policy_there rs r and key_there rs r and target_there rs r

abbrev pub Sound : List Rec → Form
Sound rs =
    has_counter rs and each rs alone and apart rs distinct and each rs (λ x. each rs (related x))
    and each rs (housed rs) and each rs (λ x. each rs (policies_used rs x)) and each rs (pins_shared rs)

unfoldable pub sound : List ℕ → Bool
sound s = length_fits s && test (Sound (records s))
