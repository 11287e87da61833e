-- A session's record by value, and the record that a value stands for.
use Rattle.std.specs.Prelude.{List, [], ◌∷◌, ◌++◌, ℕ, length, take, drop}
use Rattle.paper.specs.Bytes.{byte, four, part, enc2, enc4, zeros_of}
use Rattle.paper.specs.Form.{Rec}
use Rattle.paper.specs.Records.{SESSION, SessionValue, state, next_object, own, session, mac_counter, key_limit, key_management}
use Rattle.paper.specs.Act.{flat}
use Rattle.store_draft.specs.Drafts.{laid}
use Rattle.store_session.specs.declared.Session.{Session}

-- 32 bytes from place k on; past the end zeros
unfoldable pub block : ℕ → Rec → List ℕ
block k r = part k 32 r ++ drop (length (part k 32 r)) (zeros_of 32)

unfoldable pub decoded : Rec → Session
decoded r =
    record {
      state = state r;
      next = next_object r;
      own = own r;
      session = session r;
      serverlength = byte 16 r;
      server = block 17 r;
      clientlength = byte 49 r;
      client = block 50 r;
      key = block 82 r;
      counter = mac_counter r;
      limit = key_limit r;
      privacy = byte 118 r;
      managed = key_management r;
      time = four 120 r;
      life = four 124 r;
    }

-- what a call sees of its session, read off the value
abbrev pub value_of : Session → SessionValue
value_of x = record { key = x.key; client = take x.clientlength x.client; counter = x.counter; limit = x.limit; next = x.next }

-- the fields before the IDs, the IDs and the key, the fields behind them
abbrev pub front : Session → List ℕ
front x = flat ((SESSION ∷ []) ∷ (x.state ∷ []) ∷ enc2 x.next ∷ enc4 x.own ∷ enc4 x.session ∷ zeros_of 4 ∷ [])

abbrev pub ids : Session → List ℕ
ids x = flat ((x.serverlength ∷ []) ∷ x.server ∷ (x.clientlength ∷ []) ∷ x.client ∷ [])

abbrev pub names : Session → List ℕ
names x = flat ((x.serverlength ∷ []) ∷ x.server ∷ (x.clientlength ∷ []) ∷ x.client ∷ x.key ∷ [])

abbrev pub back : Session → List ℕ
back x =
    flat (enc2 x.counter ∷ enc2 x.limit ∷ (x.privacy ∷ []) ∷ (x.managed ∷ []) ∷ enc4 x.time ∷ enc4 x.life
    ∷ zeros_of 128 ∷ [])

-- 256 bytes, as the arrays of a value are 32 bytes long
unfoldable pub encoded : Session → Rec
encoded x = laid (front x ++ (names x ++ back x))
