-- MACs and attestations: key, name, counter and data. Data speaks of the call's fields by name, never of places. What a handle stands for
-- is an argument: the store takes it from its records, the issuer from its order (Issuing).
use Rattle.std.specs.Prelude.{Bool, false, cond, ◌||◌, List, [], ◌∷◌, ◌++◌, ℕ, ◌+◌, eqb}
use Prim.Native.String.{String}
use Rattle.hmac.specs.Hmac.{HMAC}
use Rattle.paper.specs.Bytes.{enc2, string, ascii}
use Rattle.paper.specs.Form.{Rec}
use Rattle.paper.specs.Records.{SessionValue, id, public_key, user_defined}
use Rattle.paper.specs.Calls.{Close, Puk, Policy, Key, Path, Post}

-- HMAC-SHA256 with key SessionKey, the name as plain bytes, and the counter joined.
unfoldable pub mac_under : List ℕ → List ℕ → ℕ → List ℕ → List ℕ
mac_under secret name counter text = HMAC (secret ++ name ++ enc2 counter) text

-- The MAC of a call is made at the session's counter; an attestation, the second use of a call that makes one, at the next.
abbrev pub mac : SessionValue → String → List ℕ → List ℕ
mac x name text = mac_under x.key (ascii name) x.counter text

abbrev pub attestation : SessionValue → List ℕ → List ℕ
attestation x text = mac_under x.key (ascii "Device Attestation") (x.counter + 1) text

-- How often a call uses the counter: 10 and 3 twice, the other calls with a MAC once, calls without a MAC never.
abbrev pub uses : ℕ → ℕ
uses m =
    cond (eqb m 3 || eqb m 10) 2
    (cond (eqb m 8 || (eqb m 9 || (eqb m 12 || (eqb m 50 || eqb m 51)))) 1 0)

-- A policy handle becomes the policy's ID, or `#N/A` if 0.
abbrev pub not_applicable : List ℕ
not_applicable = ascii "#N/A"

abbrev pub name_or : ℕ → List ℕ → List ℕ
name_or handle name = cond (eqb handle 0) not_applicable name

abbrev pub id_or : ℕ → Rec → List ℕ
id_or handle policy = name_or handle (id policy)

-- 3: ClientSessionID and Nonce
abbrev pub close_data_of : List ℕ → Close → List ℕ
close_data_of client q = string client ++ string q.nonce

abbrev pub close_data : SessionValue → Close → List ℕ
close_data x q = close_data_of x.client q

-- 8: the fields from ID up to the MAC
abbrev pub puk_data : Puk → List ℕ
puk_data q = string q.id ++ string q.encrypted ++ (q.format ∷ q.retry ∷ [])

-- 9: the same, with the PUK's ID
abbrev pub policy_data_of : Policy → List ℕ → List ℕ
policy_data_of q puk =
    string q.id ++ string puk
    ++ (q.defined ∷ q.modifiable ∷ q.format ∷ q.retry ∷ q.grouping ∷ q.patterns ∷ q.min_length ∷ q.max_length ∷ q.input ∷ [])

abbrev pub policy_data : Policy → Rec → List ℕ
policy_data q puk = policy_data_of q (id_or q.puk puk)

-- 10: with the policy's ID; PINValue becomes `#N/A` if UserDefined or without policy; EndorsedAlgorithms is left out
abbrev pub issuer_sets : Key → Rec → Bool
issuer_sets q policy = cond (eqb q.policy 0) false (eqb (user_defined policy) 0)

abbrev pub pin_value_if : Bool → Key → List ℕ
pin_value_if sets q = cond sets q.pin_value not_applicable

abbrev pub pin_value_or : Key → Rec → List ℕ
pin_value_or q policy = pin_value_if (issuer_sets q policy) q

abbrev pub key_data_of : Key → List ℕ → Bool → List ℕ
key_data_of q policy sets =
    string q.id ++ string q.entry_algorithm ++ string q.seed ++ string policy
    ++ string (pin_value_if sets q) ++ (q.caching ∷ q.biometric ∷ q.export ∷ q.deletion ∷ q.usage ∷ [])
    ++ string q.friendly ++ string q.key_algorithm ++ string q.parameters

abbrev pub key_data : Key → Rec → List ℕ
key_data q policy = key_data_of q (id_or q.policy policy) (issuer_sets q policy)

-- 12: the key's ID, its public key and the certificates
abbrev pub each_string : List (List ℕ) → List ℕ
each_string [] = []
each_string (v ∷ vs) = string v ++ each_string vs

abbrev pub path_data_of : List ℕ → List ℕ → Path → List ℕ
path_data_of name public q = string name ++ string public ++ each_string q.certificates

abbrev pub path_data : Rec → Path → List ℕ
path_data k q = path_data_of (id k) (public_key k) q

-- 50, 51: Authorization, under the name that the method tells
abbrev pub post_name : ℕ → String
post_name op = cond (eqb op 51) "postUnlockKey" "postDeleteKey"

abbrev pub post_data : Post → List ℕ
post_data q = string q.authorization

-- Attestations: 10 over ID and public key, close over Nonce.
abbrev pub key_attested_of : List ℕ → List ℕ → List ℕ
key_attested_of name public = string name ++ string public

abbrev pub key_attested : Key → List ℕ
key_attested q = key_attested_of q.id q.public

abbrev pub close_attested : Close → List ℕ
close_attested q = string q.nonce
