-- How the worked stores are written: bytes in hexadecimal, and one step of a story.
use Rattle.std.specs.Prelude.{◌≡◌, cond, List, [], ◌∷◌, ◌++◌, ℕ, ◌+◌, ◌-◌, ◌*◌, length, get_or, leb}
use Prim.Native.Char.{code}
use Prim.Native.String.{String}
use Prim.Native.String as S
use Rattle.paper.specs.Limits.{record_bytes, reply_bytes}
use Rattle.paper.specs.Bytes.{zeros_of}
use Rattle.paper.specs.Form.{Rec}
use Rattle.paper.specs.Records.{joined}
use Rattle.paper.specs.Answer.{answer}

abbrev pub digit : ℕ → ℕ
digit n = cond (leb n 57) (n - 48) (n - 87)

abbrev pub hex : String → List ℕ
hex S.[] = []
hex (S.◌∷◌ a S.[]) = []
hex (S.◌∷◌ a (S.◌∷◌ b t)) = (digit (code a) * 16 + digit (code b)) ∷ hex t

-- A record, its last zeros left out.
abbrev pub row : String → Rec
row t = hex t ++ zeros_of (record_bytes - length (hex t))

-- To a call with its chip bytes, on a clear reply buffer, the paper's answer is this reply, its first byte the status, and these records.
abbrev pub answers : List Rec → String → String → String → List Rec → Type 0
answers before call chip reply after =
    answer (joined before) (hex call) (hex chip) (zeros_of reply_bytes)
    ≡ record { status = get_or (hex reply) 0 0; store = joined after; reply = hex reply }
