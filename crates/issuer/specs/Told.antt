-- Orders and answers as the code has them: an order by its parameters, in their order, and an answer by the status that is returned, the
-- length that is told and the buffer that is lent. And a call that was written.
use Rattle.std.specs.Prelude.{◌≡◌, ◌⊎◌, Bool, true, List, ℕ, ◌+◌, ◌<◌, length}
use Rattle.paper.specs.Bytes.{over}
use Rattle.paper.specs.Limits.{longest_call}
use Rattle.paper.specs.Form.{Form, test, Fact}
use Rattle.paper.specs.Issuing.{Issuer, Issued, issued, CloseOrder, close_ordered, close_call, PukOrder, puk_ordered, puk_call, PolicyOrder, policy_ordered, policy_call, KeyOrder, key_ordered, key_call, PathOrder, path_ordered, path_call, PostOrder, post_ordered, post_call}
use Rattle.issuer.specs.declared.Issuer.{Issuer as IssuerHeld}
use Rattle.issuer.specs.declared.CloseOrder.{CloseOrder as CloseHeld}
use Rattle.issuer.specs.declared.PukOrder.{PukOrder as PukHeld}
use Rattle.issuer.specs.declared.PolicyOrder.{PolicyOrder as PolicyHeld}
use Rattle.issuer.specs.declared.KeyOrder.{KeyOrder as KeyHeld}
use Rattle.issuer.specs.declared.PathOrder.{PathOrder as PathHeld}
use Rattle.issuer.specs.declared.PostOrder.{PostOrder as PostHeld}

abbrev pub told : ℕ → ℕ → List ℕ → Issued
told status written out = record { status = status; written = written; out = out }

abbrev pub issuer_of : ℕ → List ℕ → ℕ → Issuer
issuer_of session key counter = record { session = session; key = key; counter = counter }

abbrev pub close_of : List ℕ → List ℕ → CloseOrder
close_of client nonce = record { client = client; nonce = nonce }

abbrev pub puk_of : List ℕ → List ℕ → ℕ → ℕ → PukOrder
puk_of name encrypted format retry = record { id = name; encrypted = encrypted; format = format; retry = retry }

abbrev pub policy_of : List ℕ → ℕ → List ℕ → ℕ → ℕ → ℕ → ℕ → ℕ → ℕ → ℕ → ℕ → ℕ → PolicyOrder
policy_of name puk puk_id defined modifiable format retry grouping patterns min max input =
    record {
      id = name;
      puk = puk;
      puk_id = puk_id;
      defined = defined;
      modifiable = modifiable;
      format = format;
      retry = retry;
      grouping = grouping;
      patterns = patterns;
      min_length = min;
      max_length = max;
      input = input;
    }

abbrev pub key_of : List ℕ → List ℕ → List ℕ → ℕ → List ℕ → ℕ → List ℕ → ℕ → ℕ → ℕ → ℕ → ℕ → List ℕ → List ℕ → List ℕ → ℕ → KeyOrder
key_of name entry seed policy policy_id kind pin caching biometric export deletion usage friendly algorithm parameters endorsed =
    record {
      id = name;
      entry_algorithm = entry;
      seed = seed;
      policy = policy;
      policy_id = policy_id;
      pin_kind = kind;
      pin_value = pin;
      caching = caching;
      biometric = biometric;
      export = export;
      deletion = deletion;
      usage = usage;
      friendly = friendly;
      key_algorithm = algorithm;
      parameters = parameters;
      endorsed = endorsed;
    }

abbrev pub path_of : ℕ → List ℕ → List ℕ → ℕ → List ℕ → PathOrder
path_of key name public count certificates =
    record { key = key; key_id = name; public = public; count = count; certificates = certificates }

abbrev pub post_of : ℕ → ℕ → List ℕ → PostOrder
post_of method key authorization = record { method = method; key = key; authorization = authorization }

-- The issuer and the orders as the code holds them, each in a struct of its parameters.
abbrev pub issuer_held : IssuerHeld → Issuer
issuer_held i = issuer_of i.session i.key.now i.counter

abbrev pub close_held : CloseHeld → CloseOrder
close_held o = close_of o.client.now o.nonce.now

abbrev pub puk_held : PukHeld → PukOrder
puk_held o = puk_of o.id.now o.encrypted.now o.format o.retry

abbrev pub policy_held : PolicyHeld → PolicyOrder
policy_held o =
    policy_of o.id.now o.puk o.puk_id.now o.defined o.modifiable o.format o.retry o.grouping o.patterns o.min o.max o.input

abbrev pub key_held : KeyHeld → KeyOrder
key_held o =
    key_of o.id.now o.entry.now o.seed.now o.policy o.policy_id.now o.pin_kind o.pin.now o.caching o.biometric o.export o.deletion
    o.usage o.friendly.now o.algorithm.now o.parameters.now o.endorsed

abbrev pub path_held : PathHeld → PathOrder
path_held o = path_of o.key_handle o.key_id.now o.public_key.now o.count o.certificates.now

abbrev pub post_held : PostHeld → PostOrder
post_held o = post_of o.method o.key_handle o.authorization.now

-- What each order is answered with.
abbrev pub close_issued : Issuer → CloseOrder → List ℕ → Issued
close_issued i o out = issued (close_ordered i o) (close_call i o) out

abbrev pub puk_issued : Issuer → PukOrder → List ℕ → Issued
puk_issued i o out = issued (puk_ordered i o) (puk_call i o) out

abbrev pub policy_issued : Issuer → PolicyOrder → List ℕ → Issued
policy_issued i o out = issued (policy_ordered i o) (policy_call i o) out

abbrev pub key_issued : Issuer → KeyOrder → List ℕ → Issued
key_issued i o out = issued (key_ordered i o) (key_call i o) out

abbrev pub path_issued : Issuer → PathOrder → List ℕ → Issued
path_issued i o out = issued (path_ordered i o) (path_call i o) out

abbrev pub post_issued : Issuer → PostOrder → List ℕ → Issued
post_issued i o out = issued (post_ordered i o) (post_call i o) out

-- The answer of a test: it is that of the statement, and where it is yes the statement holds.
pub record Says (r : Bool) (φ : Form) : Type 0 where
  pub answer : r ≡ test φ
  pub holds : r ≡ true → Fact φ

-- A text was written into the buffer from place k on, n is the place behind it, and the other bytes are as they were.
pub record Wrote (text : List ℕ) (k n : ℕ) (before after : List ℕ) : Type 0 where
  pub place : n ≡ k + length text
  pub bytes : after ≡ over k text before

-- A length that was told: it is that of the call, or both are past the longest call.
abbrev pub LongAs : ℕ → ℕ → Type 0
LongAs n size = (n ≡ size) ⊎ ((longest_call < n) × (longest_call < size))
