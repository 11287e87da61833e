-- What the code returns and leaves, as the paper's records.
use Rattle.std.specs.Prelude.{List, ◌∷◌, ◌++◌, ℕ}
use Rattle.paper.specs.Bytes.{enc4}
use Rattle.paper.specs.Answer.{Judged, Answer, Formatted}
use Rattle.method_acts.specs.declared.Reply.{Reply}

-- A status, the store and the reply after a call.
abbrev pub told : ℕ → List ℕ → List ℕ → Answer
told n s b = record { status = n; store = s; reply = b }

-- A status and the store after format.
abbrev pub made : ℕ → List ℕ → Formatted
made n s = record { status = n; store = s }

-- What a method answers, and the store afterwards; the bytes of the reply.
abbrev pub known : Reply → List ℕ → Judged
known r s = record { status = r.status; handle = r.handle; attestation = r.attestation; store = s }

abbrev pub line : Reply → List ℕ
line r = r.status ∷ (enc4 r.handle ++ r.attestation)
