-- The issuer's half: what an issuer orders, the range of an order, and the bytes of the call that it means. An order has the fields of the
-- call without MAC and chip bytes, and what the store would find behind its handles: ClientSessionID, IDs, who sets a PIN, a public key. The MAC
-- is over the same data as the store's (Mac). A field is out of range where the store would answer 16; what the store refuses by another
-- number is written as ordered.
use Rattle.std.specs.Prelude.{List, [], ◌∷◌, ◌++◌, ℕ, ◌+◌, length, eqb}
use Prim.Native.String.{String}
use Rattle.hmac.specs.Same.{same}
use Rattle.paper.specs.Limits.{longest_call, longest_id, longest_public_key, key_bytes, mac_bytes, last_count, longest_nonce, longest_encrypted, longest_pin_value, longest_seed, longest_name, longest_parameters, longest_authorization}
use Rattle.paper.specs.Bytes.{enc2, enc4, string, string_at, behind, over, ascii}
use Rattle.paper.specs.Form.{Form, ◌equals◌, ◌=<◌, say, no, ◌and◌, ◌or◌, Fault, ◌gives◌, settle}
use Rattle.paper.specs.Table.{printable}
use Rattle.paper.specs.Calls.{Close, Puk, Policy, Key, Path, Post, strings, filled_at, behind_strings}
use Rattle.paper.specs.Mac.{mac_under, uses, name_or, close_data_of, puk_data, policy_data_of, key_data_of, path_data_of, post_name, post_data, key_attested_of}

-- What an issuer knows of its session: its handle, its SessionKey, and the MAC counter before the call.
pub record Issuer : Type 0 where
  pub session : ℕ
  pub key : List ℕ
  pub counter : ℕ

-- The MAC that an issuer makes.
abbrev pub seal_of : Issuer → String → List ℕ → List ℕ
seal_of i name text = mac_under i.key (ascii name) i.counter text

-- A SessionKey of 32 bytes, and a counter with room for the call's uses.
abbrev pub ready : ℕ → Issuer → Form
ready m i = length i.key equals key_bytes and i.counter + uses m =< last_count

abbrev pub has_length : ℕ → ℕ → List ℕ → Form
has_length lo hi v = lo =< length v and length v =< hi

abbrev pub is_id : List ℕ → Form
is_id v = has_length 1 longest_id v and say (printable v)

-- A call starts with its method and session.
abbrev pub head_of : ℕ → Issuer → List ℕ
head_of m i = m ∷ enc4 i.session

-- What is answered: a field out of range or a call that is too long, then a buffer that is too short, both leave the buffer as it is;
-- else the call stands in front, and the bytes behind it are as they were.
pub record Issued : Type 0 where
  pub status : ℕ
  pub written : ℕ
  pub out : List ℕ

abbrev pub issue_faults : Form → List ℕ → List ℕ → List Fault
issue_faults ordered call out =
    (no (ordered and length call =< longest_call) gives 16)
    ∷ (no (length call =< length out) gives 21)
    ∷ []

unfoldable pub issued : Form → List ℕ → List ℕ → Issued
issued ordered call out =
    settle (issue_faults ordered call out) (λ n. record { status = n; written = 0; out = out })
    (record { status = 0; written = length call; out = over 0 call out })

-- 3 closeProvisioningSession
pub record CloseOrder : Type 0 where
  -- the session's ClientSessionID
  pub client : List ℕ
  pub nonce : List ℕ

abbrev pub close_ordered : Issuer → CloseOrder → Form
close_ordered i o = ready 3 i and is_id o.client and has_length 1 longest_nonce o.nonce

-- The order as the call's fields, with a MAC; so for the others, with chip bytes where the method has them.
abbrev pub close_as : CloseOrder → List ℕ → Close
close_as o m = record { nonce = o.nonce; mac = m }

abbrev pub close_mac : Issuer → CloseOrder → List ℕ
close_mac i o = seal_of i "closeProvisioningSession" (close_data_of o.client (close_as o []))

unfoldable pub close_call : Issuer → CloseOrder → List ℕ
close_call i o = head_of 3 i ++ string o.nonce ++ close_mac i o

-- 8 createPUKPolicy
pub record PukOrder : Type 0 where
  pub id : List ℕ
  pub encrypted : List ℕ
  pub format : ℕ
  pub retry : ℕ

abbrev pub puk_ordered : Issuer → PukOrder → Form
puk_ordered i o = ready 8 i and is_id o.id and has_length 1 longest_encrypted o.encrypted

abbrev pub puk_as : PukOrder → List ℕ → List ℕ → Puk
puk_as o m chip =
    record { id = o.id; encrypted = o.encrypted; format = o.format; retry = o.retry; mac = m; value = chip }

abbrev pub puk_mac : Issuer → PukOrder → List ℕ
puk_mac i o = seal_of i "createPUKPolicy" (puk_data (puk_as o [] []))

unfoldable pub puk_call : Issuer → PukOrder → List ℕ
puk_call i o = head_of 8 i ++ string o.id ++ string o.encrypted ++ (o.format ∷ o.retry ∷ []) ++ puk_mac i o

-- 9 createPINPolicy
pub record PolicyOrder : Type 0 where
  pub id : List ℕ
  pub puk : ℕ
  -- the PUK's ID; not looked at where the handle is 0
  pub puk_id : List ℕ
  pub defined : ℕ
  pub modifiable : ℕ
  pub format : ℕ
  pub retry : ℕ
  pub grouping : ℕ
  pub patterns : ℕ
  pub min_length : ℕ
  pub max_length : ℕ
  pub input : ℕ

abbrev pub policy_ordered : Issuer → PolicyOrder → Form
policy_ordered i o =
    ready 9 i and is_id o.id and (o.puk equals 0 or is_id o.puk_id) and o.defined =< 1 and o.modifiable =< 1

abbrev pub policy_as : PolicyOrder → List ℕ → Policy
policy_as o m =
    record {
      id = o.id;
      puk = o.puk;
      defined = o.defined;
      modifiable = o.modifiable;
      format = o.format;
      retry = o.retry;
      grouping = o.grouping;
      patterns = o.patterns;
      min_length = o.min_length;
      max_length = o.max_length;
      input = o.input;
      mac = m;
    }

abbrev pub policy_mac : Issuer → PolicyOrder → List ℕ
policy_mac i o = seal_of i "createPINPolicy" (policy_data_of (policy_as o []) (name_or o.puk o.puk_id))

abbrev pub policy_rule_bytes : PolicyOrder → List ℕ
policy_rule_bytes o =
    o.defined ∷ o.modifiable ∷ o.format ∷ o.retry ∷ o.grouping ∷ o.patterns ∷ o.min_length ∷ o.max_length ∷ o.input ∷ []

unfoldable pub policy_call : Issuer → PolicyOrder → List ℕ
policy_call i o = head_of 9 i ++ string o.id ++ enc4 o.puk ++ policy_rule_bytes o ++ policy_mac i o

-- 10 createKeyEntry. Who sets the PIN: nobody, without a policy; else the user or the issuer, as the policy says.
abbrev pub no_pin : ℕ
no_pin = 0

abbrev pub user_pin : ℕ
user_pin = 1

abbrev pub issuer_pin : ℕ
issuer_pin = 2

pub record KeyOrder : Type 0 where
  pub id : List ℕ
  pub entry_algorithm : List ℕ
  pub seed : List ℕ
  pub policy : ℕ
  -- the policy's ID, not looked at where the handle is 0, and who sets its PINs
  pub policy_id : List ℕ
  pub pin_kind : ℕ
  pub pin_value : List ℕ
  pub caching : ℕ
  pub biometric : ℕ
  pub export : ℕ
  pub deletion : ℕ
  pub usage : ℕ
  pub friendly : List ℕ
  pub key_algorithm : List ℕ
  pub parameters : List ℕ
  pub endorsed : ℕ

abbrev pub pin_ordered : KeyOrder → Form
pin_ordered o =
    (o.policy equals 0 and o.pin_kind equals no_pin)
    or (no (o.policy equals 0) and (o.pin_kind equals user_pin or o.pin_kind equals issuer_pin) and is_id o.policy_id)

abbrev pub key_ordered : Issuer → KeyOrder → Form
key_ordered i o =
    ready 10 i and is_id o.id and has_length 0 longest_seed o.seed and pin_ordered o
    and has_length 0 longest_pin_value o.pin_value and o.caching =< 1 and has_length 0 longest_name o.friendly
    and has_length 0 longest_parameters o.parameters

abbrev pub key_as : KeyOrder → List ℕ → List ℕ → Key
key_as o m chip =
    record {
      id = o.id;
      entry_algorithm = o.entry_algorithm;
      seed = o.seed;
      policy = o.policy;
      pin_value = o.pin_value;
      caching = o.caching;
      biometric = o.biometric;
      export = o.export;
      deletion = o.deletion;
      usage = o.usage;
      friendly = o.friendly;
      key_algorithm = o.key_algorithm;
      parameters = o.parameters;
      endorsed = o.endorsed;
      mac = m;
      public = string_at 0 chip;
      opened = string_at (behind 0 chip) chip;
    }

abbrev pub key_mac : Issuer → KeyOrder → List ℕ
key_mac i o =
    seal_of i "createKeyEntry" (key_data_of (key_as o [] []) (name_or o.policy o.policy_id) (eqb o.pin_kind issuer_pin))

abbrev pub key_flag_bytes : KeyOrder → List ℕ
key_flag_bytes o = o.caching ∷ o.biometric ∷ o.export ∷ o.deletion ∷ o.usage ∷ []

unfoldable pub key_call : Issuer → KeyOrder → List ℕ
key_call i o =
    head_of 10 i ++ string o.id ++ string o.entry_algorithm ++ string o.seed ++ enc4 o.policy ++ string o.pin_value
    ++ key_flag_bytes o ++ string o.friendly ++ string o.key_algorithm ++ string o.parameters ++ enc2 o.endorsed
    ++ key_mac i o

-- 12 setCertificatePath. The certificates come as they stand in the call: each with its length before it.
pub record PathOrder : Type 0 where
  pub key : ℕ
  -- the key's ID and public key
  pub key_id : List ℕ
  pub public : List ℕ
  pub count : ℕ
  pub certificates : List ℕ

abbrev pub certificates_ordered : PathOrder → Form
certificates_ordered o =
    1 =< o.count and filled_at o.count 0 o.certificates
    and behind_strings o.count 0 o.certificates equals length o.certificates

abbrev pub path_ordered : Issuer → PathOrder → Form
path_ordered i o = ready 12 i and is_id o.key_id and has_length 1 longest_public_key o.public and certificates_ordered o

abbrev pub path_as : PathOrder → List ℕ → Path
path_as o m =
    record {
      key = o.key;
      certificates = strings o.count 0 o.certificates;
      first = string_at 0 o.certificates;
      mac = m;
    }

abbrev pub path_mac : Issuer → PathOrder → List ℕ
path_mac i o = seal_of i "setCertificatePath" (path_data_of o.key_id o.public (path_as o []))

unfoldable pub path_call : Issuer → PathOrder → List ℕ
path_call i o = head_of 12 i ++ enc4 o.key ++ (o.count ∷ []) ++ o.certificates ++ path_mac i o

-- 50 postDeleteKey, 51 postUnlockKey
pub record PostOrder : Type 0 where
  pub method : ℕ
  pub key : ℕ
  pub authorization : List ℕ

abbrev pub post_ordered : Issuer → PostOrder → Form
post_ordered i o =
    ready 50 i and (o.method equals 50 or o.method equals 51) and has_length 1 longest_authorization o.authorization

abbrev pub post_as : PostOrder → List ℕ → ℕ → Post
post_as o m verified = record { key = o.key; authorization = o.authorization; mac = m; verified = verified }

abbrev pub post_mac : Issuer → PostOrder → List ℕ
post_mac i o = seal_of i (post_name o.method) (post_data (post_as o [] 0))

unfoldable pub post_call : Issuer → PostOrder → List ℕ
post_call i o = head_of o.method i ++ enc4 o.key ++ string o.authorization ++ post_mac i o

-- The two attestations, checked with the counter of the call that they answer: they are made at the next, which must exist.
abbrev pub attests : List ℕ → ℕ → List ℕ → List ℕ → Form
attests key counter text given =
    length key equals key_bytes and length given equals mac_bytes and counter + 1 =< last_count
    and say (same given (mac_under key (ascii "Device Attestation") (counter + 1) text))

abbrev pub key_attests : List ℕ → ℕ → List ℕ → List ℕ → List ℕ → Form
key_attests key counter name public given = attests key counter (key_attested_of name public) given

abbrev pub close_attests : List ℕ → ℕ → List ℕ → List ℕ → Form
close_attests key counter nonce given = attests key counter (string nonce) given
