-- Methods 8, 9, 10 and 12: a session makes PUKs, PIN policies and keys, and gives keys their paths. For each its refusals in the
-- paper's order, and what it does when none applies. `blk` are the session's own records, `x` is the session itself.
use Rattle.std.specs.Prelude.{cond, List, [], ◌∷◌, ◌++◌, ℕ, ◌-◌, length, eqb}
use Rattle.std.proofs.Math.Option.{none, some as just}
use Rattle.sha256.specs.Sha256.{SHA256}
use Rattle.hmac.specs.Same.{same}
use Rattle.paper.specs.Limits.{bytes_from, pin_end, longest_id, longest_pin, longest_public_key, last_format, last_grouping, last_patterns, last_protection}
use Rattle.paper.specs.Bytes.{enc4, padded_text, over, zeros_of, ascii}
use Rattle.paper.specs.Form.{Rec, Form, ◌equals◌, ◌=<◌, say, no, ◌and◌, ◌or◌, some, only, Fault, ◌gives◌, settle}
use Rattle.paper.specs.Records.{kind, PUK, POLICY, KEY, is, at, parent, id, value, SessionValue, grouping, path_set}
use Rattle.paper.specs.Sound.{has_id, governs}
use Rattle.paper.specs.Text.{format_fits, pin_fits}
use Rattle.paper.specs.Calls.{subject, Puk, puk_in, puk_form, Policy, policy_in, policy_form, Key, key_in, key_form, Path, path_in, path_form}
use Rattle.paper.specs.Mac.{uses, mac, attestation, puk_data, policy_data, key_data, issuer_sets, path_data, key_attested}
use Rattle.paper.specs.Act.{Act, refuse, inside, no_attestation, advance, passes_limit, objects_used_up, fresh, itself, flat}

-- An ID taken: by a PUK, a PIN policy or a key of this session.
abbrev pub taken : List ℕ → List Rec → Form
taken name blk = some blk (λ r. has_id r and say (same (id r) name))

-- MAC differs.
abbrev pub differs : List ℕ → List ℕ → Form
differs given made = no (say (same given made))

-- A nonzero handle that isn't such a policy of this session.
abbrev pub not_there : ℕ → Rec → ℕ → Form
not_there k found handle = no (handle equals 0) and no (kind found equals k)

-- What every call that makes an object is asked last: its MAC, and an object number.
abbrev pub sealed_by : List ℕ → List ℕ → SessionValue → List Fault
sealed_by given made x = (differs given made gives 3) ∷ (objects_used_up x gives 2) ∷ []

-- 8 createPUKPolicy. `v` is the PUK's value.
abbrev pub puk_rules : List ℕ → List ℕ → Puk → List ℕ → SessionValue → List Rec → List Fault
puk_rules c chip q v x blk =
    (no (puk_form c chip) gives 16)
    ∷ (taken q.id blk gives 17)
    ∷ (no (q.format =< last_format) gives 17)
    ∷ (no (say (format_fits q.format v)) gives 17)
    ∷ (passes_limit (uses 8) x gives 17)
    ∷ []

abbrev pub puk_seal : Puk → SessionValue → List Fault
puk_seal q x = sealed_by q.mac (mac x "createPUKPolicy" (puk_data q)) x

abbrev pub puk_faults : List ℕ → List ℕ → Puk → List ℕ → SessionValue → List Rec → List Fault
puk_faults c chip q v x blk = puk_rules c chip q v x blk ++ puk_seal q x

unfoldable pub puk_record : ℕ → Puk → List ℕ → SessionValue → Rec
puk_record s q v x =
    flat ((PUK ∷ []) ∷ (q.format ∷ []) ∷ (q.retry ∷ []) ∷ (0 ∷ []) ∷ enc4 (fresh s x) ∷ enc4 s ∷ enc4 0
    ∷ padded_text longest_id q.id ∷ padded_text longest_pin v ∷ zeros_of (bytes_from pin_end) ∷ [])

unfoldable pub make_puk_by : SessionValue → List ℕ → List ℕ → List Rec → Act
make_puk_by x c chip blk =
    let s = subject c in
    let q = puk_in c chip in
    settle (puk_faults c chip q q.value x blk) refuse
    (inside (fresh s x) no_attestation (advance s 1 (uses 8)) (just (puk_record s q q.value x)))

abbrev pub make_puk : List ℕ → List ℕ → List Rec → Act
make_puk c chip blk = make_puk_by (itself c blk) c chip blk

-- 9 createPINPolicy
abbrev pub policy_names : List ℕ → List ℕ → Policy → Rec → List Rec → List Fault
policy_names c chip q puk blk =
    (no (policy_form c chip) gives 16)
    ∷ (taken q.id blk gives 17)
    ∷ (not_there PUK puk q.puk gives 17)
    ∷ []

abbrev pub policy_numbers : Policy → SessionValue → List Fault
policy_numbers q x =
    (no (q.format =< last_format) gives 17)
    ∷ (q.retry equals 0 gives 17)
    ∷ (no (q.grouping =< last_grouping) gives 17)
    ∷ (no (q.patterns =< last_patterns) gives 17)
    ∷ (no (1 =< q.min_length and q.min_length =< q.max_length and q.max_length =< longest_pin) gives 17)
    ∷ (no (q.input equals 0) gives 17)
    ∷ (passes_limit (uses 9) x gives 17)
    ∷ []

abbrev pub policy_seal : Policy → Rec → SessionValue → List Fault
policy_seal q puk x = sealed_by q.mac (mac x "createPINPolicy" (policy_data q puk)) x

abbrev pub policy_faults : List ℕ → List ℕ → Policy → Rec → SessionValue → List Rec → List Fault
policy_faults c chip q puk x blk = policy_names c chip q puk blk ++ policy_numbers q x ++ policy_seal q puk x

unfoldable pub policy_record : ℕ → Policy → SessionValue → Rec
policy_record s q x =
    flat ((POLICY ∷ []) ∷ (q.format ∷ []) ∷ (q.retry ∷ []) ∷ (q.grouping ∷ []) ∷ enc4 (fresh s x) ∷ enc4 s ∷ enc4 q.puk
    ∷ padded_text longest_id q.id ∷ (q.defined ∷ []) ∷ (q.modifiable ∷ []) ∷ (q.patterns ∷ []) ∷ (q.min_length ∷ [])
    ∷ (q.max_length ∷ []) ∷ zeros_of (bytes_from 54) ∷ [])

unfoldable pub make_policy_by : SessionValue → List ℕ → List ℕ → List Rec → Act
make_policy_by x c chip blk =
    let s = subject c in
    let q = policy_in c in
    settle (policy_faults c chip q (at PUK q.puk s blk) x blk) refuse
    (inside (fresh s x) no_attestation (advance s 1 (uses 9)) (just (policy_record s q x)))

abbrev pub make_policy : List ℕ → List ℕ → List Rec → Act
make_policy c chip blk = make_policy_by (itself c blk) c chip blk

-- 10 createKeyEntry. The PIN: none without policy, PINValue if the user defines it, else the value that the chip opened.
abbrev pub pin_of : Key → Rec → List ℕ
pin_of q pol = cond (eqb q.policy 0) [] (cond (issuer_sets q pol) q.opened q.pin_value)

-- A PIN or PINValue given where none belongs; an issuer-set PINValue that is empty.
abbrev pub misplaced : Key → Rec → Form
misplaced q pol =
    (q.policy equals 0 and no (length q.pin_value equals 0))
    or (no (say (issuer_sets q pol)) and no (length q.opened equals 0))
    or (say (issuer_sets q pol) and length q.pin_value equals 0)

-- `v` is the PIN.
abbrev pub breaks_rule : Key → List ℕ → Rec → Form
breaks_rule q v pol = no (q.policy equals 0) and no (say (pin_fits pol v))

-- Under grouping 1 a PIN unlike that of the policy's other keys.
abbrev pub unlike : List ℕ → Rec → List Rec → Form
unlike v pol blk = grouping pol equals 1 and some blk (λ x. governs pol x and no (say (same (value x) v)))

-- DeleteProtection 1 without PIN, 2 without PUK.
abbrev pub unprotected : Key → Rec → Form
unprotected q pol = (q.deletion equals 1 and q.policy equals 0) or (q.deletion equals 2 and parent pol equals 0)

abbrev pub key_names : List ℕ → List ℕ → Key → Rec → List Rec → List Fault
key_names c chip q pol blk =
    (no (key_form c chip) gives 16)
    ∷ (differs q.entry_algorithm (ascii "http://xmlns.webpki.org/sks/algorithm#key.1") gives 8)
    ∷ (differs q.key_algorithm (ascii "urn:oid:1.2.840.10045.3.1.7") gives 8)
    ∷ (no (q.endorsed equals 0) gives 8)
    ∷ (taken q.id blk gives 17)
    ∷ (not_there POLICY pol q.policy gives 17)
    ∷ []

abbrev pub key_numbers : Key → List Fault
key_numbers q =
    (no (q.biometric equals 0) gives 17)
    ∷ (no (q.export =< last_protection) gives 17)
    ∷ (no (q.deletion =< last_protection) gives 17)
    ∷ (no (length q.parameters equals 0) gives 17)
    ∷ []

abbrev pub key_pin : Key → List ℕ → Rec → SessionValue → List Rec → List Fault
key_pin q v pol x blk =
    (misplaced q pol gives 17)
    ∷ (breaks_rule q v pol gives 17)
    ∷ (unlike v pol blk gives 17)
    ∷ (unprotected q pol gives 17)
    ∷ (passes_limit (uses 10) x gives 17)
    ∷ []

abbrev pub key_seal : Key → Rec → SessionValue → List Fault
key_seal q pol x = sealed_by q.mac (mac x "createKeyEntry" (key_data q pol)) x

abbrev pub key_faults : List ℕ → List ℕ → Key → List ℕ → Rec → SessionValue → List Rec → List Fault
key_faults c chip q v pol x blk = key_names c chip q pol blk ++ key_numbers q ++ key_pin q v pol x blk ++ key_seal q pol x

unfoldable pub key_record : ℕ → Key → List ℕ → SessionValue → Rec
key_record s q v x =
    flat ((KEY ∷ []) ∷ (0 ∷ []) ∷ (0 ∷ []) ∷ (q.deletion ∷ []) ∷ enc4 (fresh s x) ∷ enc4 s ∷ enc4 q.policy
    ∷ padded_text longest_id q.id ∷ padded_text longest_pin v ∷ zeros_of (82 - pin_end) ∷ padded_text longest_public_key q.public ∷ zeros_of 32
    ∷ (q.caching ∷ []) ∷ (q.export ∷ []) ∷ (q.usage ∷ []) ∷ zeros_of (bytes_from 214) ∷ [])

unfoldable pub make_key_by : SessionValue → List ℕ → List ℕ → List Rec → Act
make_key_by x c chip blk =
    let s = subject c in
    let q = key_in c chip in
    let pol = at POLICY q.policy s blk in
    let v = pin_of q pol in
    settle (key_faults c chip q v pol x blk) refuse
    (inside (fresh s x) (attestation x (key_attested q)) (advance s 1 (uses 10)) (just (key_record s q v x)))

abbrev pub make_key : List ℕ → List ℕ → List Rec → Act
make_key c chip blk = make_key_by (itself c blk) c chip blk

-- 12 setCertificatePath: no such key in this session; a path set twice.
abbrev pub path_rules : List ℕ → List ℕ → Rec → SessionValue → List Fault
path_rules c chip k x =
    (no (path_form c chip) gives 16)
    ∷ (no (kind k equals KEY) gives 7)
    ∷ (path_set k equals 1 gives 17)
    ∷ (passes_limit (uses 12) x gives 17)
    ∷ []

abbrev pub path_seal : Path → Rec → SessionValue → List Fault
path_seal q k x = (differs q.mac (mac x "setCertificatePath" (path_data k q)) gives 3) ∷ []

abbrev pub path_faults : List ℕ → List ℕ → Path → Rec → SessionValue → List Fault
path_faults c chip q k x = path_rules c chip k x ++ path_seal q k x

-- The key now has a path, and the digest of its end-entity certificate.
unfoldable pub certified : List ℕ → Rec → Rec
certified d r = over 1 (1 ∷ []) (over 179 d r)

unfoldable pub set_path_by : SessionValue → List ℕ → List ℕ → List Rec → Act
set_path_by x c chip blk =
    let s = subject c in
    let q = path_in c in
    settle (path_faults c chip q (at KEY q.key s blk) x) refuse
    (inside 0 no_attestation (λ r. only (is KEY q.key s) (certified (SHA256 q.first)) (advance s 0 (uses 12) r)) none)

abbrev pub set_path : List ℕ → List ℕ → List Rec → Act
set_path c chip blk = set_path_by (itself c blk) c chip blk
