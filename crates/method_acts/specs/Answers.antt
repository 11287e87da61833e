-- What a method answers, as the code keeps it: the paper's outcome without its store, which stands in the lent bytes.
use Rattle.std.specs.Prelude.{◌≡◌, List, ℕ}
use Rattle.paper.specs.Act.{Out, no_attestation}
use Rattle.store_records.specs.View.{Becomes}
use Rattle.method_acts.specs.declared.Reply.{Reply}

-- A status and nothing else.
abbrev pub bare_reply : ℕ → Reply
bare_reply n = record { status = n; handle = 0; attestation = no_attestation }

abbrev pub said : Out → Reply
said o = record { status = o.status; handle = o.handle; attestation = o.attestation }

-- The reply r and the store t, which was s before, are what the paper's outcome says.
pub record Answers (o : Out) (r : Reply) (s t : List ℕ) : Type 0 where
  pub reply : r ≡ said o
  pub store : Becomes o.store s t
