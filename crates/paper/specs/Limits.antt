-- The limits of document 01, each said once. Later files cite them by name.
use Rattle.std.specs.Prelude.{ℕ, suc, ◌+◌, ◌-◌}

-- the store
abbrev pub record_bytes : ℕ
record_bytes = 256

abbrev pub fewest_records : ℕ
fewest_records = 2

abbrev pub most_records : ℕ
most_records = 256

-- how many bytes a record has from byte k on
abbrev pub bytes_from : ℕ → ℕ
bytes_from k = record_bytes - k

-- handles: a session's number is below 65,536, an object's at most 999
abbrev pub handle_step : ℕ
handle_step = 65536

abbrev pub most_sessions : ℕ
most_sessions = 65535

abbrev pub most_objects : ℕ
most_objects = 999

-- strings in records
abbrev pub longest_id : ℕ
longest_id = 32

-- an ID in a record: its length and its bytes
abbrev pub id_width : ℕ
id_width = suc longest_id

abbrev pub longest_pin : ℕ
longest_pin = 16

-- a PIN or PUK in a record: its length and its bytes
abbrev pub pin_width : ℕ
pin_width = suc longest_pin

-- the byte behind it: it stands at 49
abbrev pub pin_end : ℕ
pin_end = 49 + pin_width

abbrev pub longest_public_key : ℕ
longest_public_key = 96

abbrev pub key_bytes : ℕ
key_bytes = 32

abbrev pub mac_bytes : ℕ
mac_bytes = 32

-- the MAC counter's last number
abbrev pub last_count : ℕ
last_count = 65535

-- calls, and the strings in them that no record keeps
abbrev pub shortest_call : ℕ
shortest_call = 5

abbrev pub longest_call : ℕ
longest_call = 16384

abbrev pub longest_server_key : ℕ
longest_server_key = 512

abbrev pub longest_management_key : ℕ
longest_management_key = 512

abbrev pub longest_uri : ℕ
longest_uri = 1000

abbrev pub longest_nonce : ℕ
longest_nonce = 64

abbrev pub longest_encrypted : ℕ
longest_encrypted = 64

abbrev pub longest_pin_value : ℕ
longest_pin_value = 64

abbrev pub longest_seed : ℕ
longest_seed = 64

abbrev pub longest_name : ℕ
longest_name = 100

abbrev pub longest_parameters : ℕ
longest_parameters = 8

abbrev pub longest_authorization : ℕ
longest_authorization = 512

-- replies
abbrev pub reply_bytes : ℕ
reply_bytes = 37

-- field ranges
abbrev pub last_format : ℕ
last_format = 3

abbrev pub last_grouping : ℕ
last_grouping = 1

abbrev pub last_patterns : ℕ
last_patterns = 7

abbrev pub last_protection : ℕ
last_protection = 3
