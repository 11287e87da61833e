-- Calls: where each field of the thirteen methods stands, the fields by name, and the form that a call and its chip bytes have.
-- A field is read wherever it would stand; the form is one statement about them. Its last clause, that the fields end where the
-- call ends, puts every field inside the call: nothing is missing and nothing left over.
use Rattle.std.specs.Prelude.{true, false, List, [], ◌∷◌, ℕ, zero, suc, ◌+◌, length}
use Rattle.paper.specs.Limits.{shortest_call, longest_call, longest_id, longest_pin, longest_public_key, key_bytes, mac_bytes, longest_server_key, longest_management_key, longest_uri, longest_nonce, longest_encrypted, longest_pin_value, longest_seed, longest_name, longest_parameters, longest_authorization}
use Rattle.paper.specs.Bytes.{byte, two, four, part, string_at, behind}
use Rattle.paper.specs.Form.{Form, ◌equals◌, ◌=<◌, say, ◌and◌, ◌or◌}
use Rattle.paper.specs.Table.{printable}

-- Byte 0 is the method. Session calls start with the session handle, user calls with a key handle.
abbrev pub method : List ℕ → ℕ
method c = byte 0 c

abbrev pub subject : List ℕ → ℕ
subject c = four 1 c

abbrev pub one_of : List ℕ → ℕ → Form
one_of [] m = say false
one_of (n ∷ ns) m = m equals n or one_of ns m

abbrev pub session_methods : List ℕ
session_methods = 3 ∷ 5 ∷ 8 ∷ 9 ∷ 10 ∷ 12 ∷ 50 ∷ 51 ∷ []

abbrev pub user_methods : List ℕ
user_methods = 80 ∷ 82 ∷ 83 ∷ 100 ∷ []

abbrev pub is_session_call : List ℕ → Form
is_session_call c = one_of session_methods (method c)

abbrev pub is_user_call : List ℕ → Form
is_user_call c = one_of user_methods (method c)

-- The first 16: the method is known and the length fits.
abbrev pub known : List ℕ → Form
known c =
    shortest_call =< length c and length c =< longest_call and (method c equals 2 or is_session_call c or is_user_call c)

-- The forms of single fields at place k.
abbrev pub flag_at : ℕ → List ℕ → Form
flag_at k c = byte k c =< 1

abbrev pub length_at : ℕ → ℕ → ℕ → List ℕ → Form
length_at lo hi k c = lo =< two k c and two k c =< hi

abbrev pub id_at : ℕ → List ℕ → Form
id_at k c = length_at 1 longest_id k c and say (printable (string_at k c))

abbrev pub no_chip : List ℕ → Form
no_chip chip = length chip equals 0

-- 2 createProvisioningSession
abbrev pub privacy_at : List ℕ → ℕ
privacy_at c = behind 1 c

abbrev pub server_at : List ℕ → ℕ
server_at c = privacy_at c + 1

abbrev pub ephemeral_at : List ℕ → ℕ
ephemeral_at c = behind (server_at c) c

abbrev pub issuer_at : List ℕ → ℕ
issuer_at c = behind (ephemeral_at c) c

abbrev pub management_at : List ℕ → ℕ
management_at c = behind (issuer_at c) c

abbrev pub times_at : List ℕ → ℕ
times_at c = behind (management_at c) c

pub record Create : Type 0 where
  pub algorithm : List ℕ
  pub privacy : ℕ
  pub server : List ℕ
  pub management : List ℕ
  pub times : List ℕ
  pub limit : ℕ
  -- chip
  pub key : List ℕ
  pub client : List ℕ

abbrev pub create_in : List ℕ → List ℕ → Create
create_in c chip =
    record {
      algorithm = string_at 1 c;
      privacy = byte (privacy_at c) c;
      server = string_at (server_at c) c;
      management = string_at (management_at c) c;
      times = part (times_at c) 8 c;
      limit = two (times_at c + 8) c;
      key = part 0 key_bytes chip;
      client = string_at key_bytes chip;
    }

abbrev pub create_form : List ℕ → List ℕ → Form
create_form c chip =
    flag_at (privacy_at c) c and id_at (server_at c) c
    and length_at 1 longest_server_key (ephemeral_at c) c and length_at 1 longest_uri (issuer_at c) c
    and length_at 0 longest_management_key (management_at c) c and times_at c + 10 equals length c
    and id_at key_bytes chip and behind key_bytes chip equals length chip

-- 3 closeProvisioningSession
pub record Close : Type 0 where
  pub nonce : List ℕ
  pub mac : List ℕ

abbrev pub close_in : List ℕ → Close
close_in c = record { nonce = string_at 5 c; mac = part (behind 5 c) mac_bytes c }

abbrev pub close_form : List ℕ → List ℕ → Form
close_form c chip = length_at 1 longest_nonce 5 c and behind 5 c + mac_bytes equals length c and no_chip chip

-- 5 abortProvisioningSession: nothing more
abbrev pub abort_form : List ℕ → List ℕ → Form
abort_form c chip = length c equals 5 and no_chip chip

-- 8 createPUKPolicy. In 8, 9 and 10 the ID stands at 5.
abbrev pub behind_id : List ℕ → ℕ
behind_id c = behind 5 c

abbrev pub puk_rules_at : List ℕ → ℕ
puk_rules_at c = behind (behind_id c) c

pub record Puk : Type 0 where
  pub id : List ℕ
  pub encrypted : List ℕ
  pub format : ℕ
  pub retry : ℕ
  pub mac : List ℕ
  -- chip: the opened value
  pub value : List ℕ

abbrev pub puk_in : List ℕ → List ℕ → Puk
puk_in c chip =
    record {
      id = string_at 5 c;
      encrypted = string_at (behind_id c) c;
      format = byte (puk_rules_at c) c;
      retry = byte (puk_rules_at c + 1) c;
      mac = part (puk_rules_at c + 2) mac_bytes c;
      value = chip;
    }

abbrev pub puk_form : List ℕ → List ℕ → Form
puk_form c chip =
    id_at 5 c and length_at 1 longest_encrypted (behind_id c) c and puk_rules_at c + 2 + mac_bytes equals length c
    and 1 =< length chip and length chip =< longest_pin

-- 9 createPINPolicy
pub record Policy : Type 0 where
  pub id : List ℕ
  pub puk : ℕ
  pub defined : ℕ
  pub modifiable : ℕ
  pub format : ℕ
  pub retry : ℕ
  pub grouping : ℕ
  pub patterns : ℕ
  pub min_length : ℕ
  pub max_length : ℕ
  pub input : ℕ
  pub mac : List ℕ

abbrev pub policy_in : List ℕ → Policy
policy_in c =
    record {
      id = string_at 5 c;
      puk = four (behind_id c) c;
      defined = byte (behind_id c + 4) c;
      modifiable = byte (behind_id c + 5) c;
      format = byte (behind_id c + 6) c;
      retry = byte (behind_id c + 7) c;
      grouping = byte (behind_id c + 8) c;
      patterns = byte (behind_id c + 9) c;
      min_length = byte (behind_id c + 10) c;
      max_length = byte (behind_id c + 11) c;
      input = byte (behind_id c + 12) c;
      mac = part (behind_id c + 13) mac_bytes c;
    }

abbrev pub policy_form : List ℕ → List ℕ → Form
policy_form c chip =
    id_at 5 c and flag_at (behind_id c + 4) c and flag_at (behind_id c + 5) c
    and behind_id c + 13 + mac_bytes equals length c and no_chip chip

-- 10 createKeyEntry
abbrev pub seed_at : List ℕ → ℕ
seed_at c = behind (behind_id c) c

abbrev pub policy_at : List ℕ → ℕ
policy_at c = behind (seed_at c) c

abbrev pub flags_at : List ℕ → ℕ
flags_at c = behind (policy_at c + 4) c

abbrev pub friendly_at : List ℕ → ℕ
friendly_at c = flags_at c + 5

abbrev pub key_algorithm_at : List ℕ → ℕ
key_algorithm_at c = behind (friendly_at c) c

abbrev pub parameters_at : List ℕ → ℕ
parameters_at c = behind (key_algorithm_at c) c

abbrev pub endorsed_at : List ℕ → ℕ
endorsed_at c = behind (parameters_at c) c

pub record Key : Type 0 where
  pub id : List ℕ
  pub entry_algorithm : List ℕ
  pub seed : List ℕ
  pub policy : ℕ
  pub pin_value : List ℕ
  pub caching : ℕ
  pub biometric : ℕ
  pub export : ℕ
  pub deletion : ℕ
  pub usage : ℕ
  pub friendly : List ℕ
  pub key_algorithm : List ℕ
  pub parameters : List ℕ
  pub endorsed : ℕ
  pub mac : List ℕ
  -- chip
  pub public : List ℕ
  pub opened : List ℕ

abbrev pub key_in : List ℕ → List ℕ → Key
key_in c chip =
    record {
      id = string_at 5 c;
      entry_algorithm = string_at (behind_id c) c;
      seed = string_at (seed_at c) c;
      policy = four (policy_at c) c;
      pin_value = string_at (policy_at c + 4) c;
      caching = byte (flags_at c) c;
      biometric = byte (flags_at c + 1) c;
      export = byte (flags_at c + 2) c;
      deletion = byte (flags_at c + 3) c;
      usage = byte (flags_at c + 4) c;
      friendly = string_at (friendly_at c) c;
      key_algorithm = string_at (key_algorithm_at c) c;
      parameters = string_at (parameters_at c) c;
      endorsed = two (endorsed_at c) c;
      mac = part (endorsed_at c + 2) mac_bytes c;
      public = string_at 0 chip;
      opened = string_at (behind 0 chip) chip;
    }

abbrev pub key_form : List ℕ → List ℕ → Form
key_form c chip =
    id_at 5 c and length_at 0 longest_seed (seed_at c) c and length_at 0 longest_pin_value (policy_at c + 4) c
    and flag_at (flags_at c) c and length_at 0 longest_name (friendly_at c) c and length_at 0 longest_parameters (parameters_at c) c
    and endorsed_at c + 2 + mac_bytes equals length c
    and length_at 1 longest_public_key 0 chip and length_at 0 longest_pin (behind 0 chip) chip
    and behind (behind 0 chip) chip equals length chip

-- 12 setCertificatePath: a count byte, then that many strings.
abbrev pub strings : ℕ → ℕ → List ℕ → List (List ℕ)
strings zero k c = []
strings (suc n) k c = string_at k c ∷ strings n (behind k c) c

abbrev pub behind_strings : ℕ → ℕ → List ℕ → ℕ
behind_strings zero k c = k
behind_strings (suc n) k c = behind_strings n (behind k c) c

-- each of n strings from place k on has at least one byte
abbrev pub filled_at : ℕ → ℕ → List ℕ → Form
filled_at zero k c = say true
filled_at (suc n) k c = 1 =< two k c and filled_at n (behind k c) c

abbrev pub path_end : List ℕ → ℕ
path_end c = behind_strings (byte 9 c) 10 c

pub record Path : Type 0 where
  pub key : ℕ
  pub certificates : List (List ℕ)
  -- the end-entity certificate: the first
  pub first : List ℕ
  pub mac : List ℕ

abbrev pub path_in : List ℕ → Path
path_in c =
    record {
      key = four 5 c;
      certificates = strings (byte 9 c) 10 c;
      first = string_at 10 c;
      mac = part (path_end c) mac_bytes c;
    }

abbrev pub path_form : List ℕ → List ℕ → Form
path_form c chip =
    1 =< byte 9 c and filled_at (byte 9 c) 10 c and path_end c + mac_bytes equals length c and no_chip chip

-- 50 postDeleteKey, 51 postUnlockKey
pub record Post : Type 0 where
  pub key : ℕ
  pub authorization : List ℕ
  pub mac : List ℕ
  -- chip: 1 if the signature verified
  pub verified : ℕ

abbrev pub post_in : List ℕ → List ℕ → Post
post_in c chip =
    record {
      key = four 5 c;
      authorization = string_at 9 c;
      mac = part (behind 9 c) mac_bytes c;
      verified = byte 0 chip;
    }

abbrev pub post_form : List ℕ → List ℕ → Form
post_form c chip =
    length_at 1 longest_authorization 9 c and behind 9 c + mac_bytes equals length c
    and length chip equals 1 and flag_at 0 chip

-- 80 delete: Authorization; 82 unlock: PUK; 83 change: PIN and new PIN; 100 use: PIN
abbrev pub typed : List ℕ → List ℕ
typed c = string_at 5 c

abbrev pub typed_new : List ℕ → List ℕ
typed_new c = string_at (behind 5 c) c

abbrev pub typed_form : List ℕ → List ℕ → Form
typed_form c chip = length_at 0 longest_pin 5 c and behind 5 c equals length c and no_chip chip

abbrev pub change_form : List ℕ → List ℕ → Form
change_form c chip =
    length_at 0 longest_pin 5 c and length_at 0 longest_pin (behind 5 c) c
    and behind (behind 5 c) c equals length c and no_chip chip
