-- The issuer's half, not for want of such orders: every call with a MAC in the stories `Life` and `Conflict` of crate `worked`, whose bytes come
-- from Python, is the call of an order in range, on a store that has what the order says. So each premise of reads-back, never-3 and
-- attested can be met, for each method. And the counter's premise is needed: the same PUK, ordered at the next counter, does meet 3.
use mathlib.Core.Path.{◌≡◌, refl, sym, ap, subst, ◌∙◌}
use mathlib.Core.Bool.{true}
use mathlib.Core.List.{List}
use Prim.Native.Nat.{ℕ}
use Rattle.sha256.specs.Sha256.{zeros_for, padded, initial, word_at, mixed, next_word, schedule, T1, T2, round, rounds, sums, compressed, after, SHA256}
use Rattle.hmac.specs.Hmac.{filled, key_block, xored, HMAC}
use Rattle.hmac.specs.Same.{same}
use Rattle.paper.specs.Limits.{reply_bytes}
use Rattle.paper.specs.Bytes.{byte, two, four, part, string_at, behind, text_at, all_within, zeros_of, ascii}
use Rattle.paper.specs.Form.{Form, ◌and◌, test, Fact}
use Rattle.paper.specs.Records.{records_of, records, joined, at, block, id, public_key, client_id, PUK, POLICY, KEY, user_defined}
use Rattle.paper.specs.Table.{obeys_table}
use Rattle.paper.specs.Sound.{length_fits, sound}
use Rattle.paper.specs.Text.{format_fits}
use Rattle.paper.specs.Mac.{mac_under}
use Rattle.paper.specs.Act.{perform}
use Rattle.paper.specs.Objects.{make_puk_by}
use Rattle.paper.specs.Posting.{look}
use Rattle.paper.specs.Answer.{Answer, answer, judged, step, session_step, session_act}
use Rattle.paper.specs.Issuing.{Issuer, PukOrder, puk_ordered, puk_call, PolicyOrder, policy_ordered, policy_call, KeyOrder, key_ordered, key_call, PathOrder, path_ordered, path_call, PostOrder, post_ordered, post_call, CloseOrder, close_ordered, close_call, key_attests, close_attests}
use Rattle.paper.proofs.Forms.{both}
use Rattle.worked.specs.Hex.{hex}
use Rattle.worked.proofs.Life as life
use Rattle.worked.proofs.Conflict as conflict
use Rattle.issued.specs.Meant.{fits_four, not_too_long, puk_sized, policy_sized, key_sized, path_sized, post_sized, puk_meant, policy_meant, key_meant, path_meant, post_meant, close_meant}
use Rattle.issued.specs.ReadsBack.{PukReads, PolicyReads, KeyReads, PathReads, PostReads, CloseReads}
use Rattle.issued.specs.NeverThree.{Stands, session_in, named, Never3}
use Rattle.issued.specs.Attested.{attestation_in}
use Rattle.issued.proofs.ReadsBack.{reads_back}
use Rattle.issued.proofs.NeverThree.{never_3}
use Rattle.issued.proofs.Attested.{attested}

-- The issuer of `Life` and those of `Conflict`, at a counter.
abbrev one : ℕ → Issuer
one n = record { session = 65536; key = hex "000102030405060708090a0b0c0d0e0f101112131415161718191a1b1c1d1e1f"; counter = n }

abbrev remover : Issuer
remover = record { session = 131072; key = hex "000102030405060708090a0b0c0d0e0f101112131415161718191a1b1c1d1e1f"; counter = 0 }

abbrev unlocker : Issuer
unlocker = record { session = 196608; key = hex "6465666768696a6b6c6d6e6f707172737475767778797a7b7c7d7e7f80818283"; counter = 0 }

-- an order's statement about its call, asked of bytes that the call is
meant : (f g : Form) (c d : List ℕ) → c ≡ d → test (f and g and not_too_long d) ≡ true → Fact (f and g and not_too_long c)
meant f g c d e h = (both (f and g and not_too_long c)).0 (subst (λ (x : List ℕ). test (f and g and not_too_long x) ≡ true) (sym e) h)

-- 8 createPUKPolicy
abbrev puk : PukOrder
puk = record { id = ascii "puk"; encrypted = ascii "PUKPUK"; format = 0; retry = 3 }

puk_call_lem : puk_call (one 0) puk ≡ hex life.call_2
unfolding zeros_for padded initial word_at mixed next_word schedule T1 T2 round rounds sums compressed after SHA256 filled key_block xored HMAC mac_under puk_call
puk_call_lem = refl

puk_meant_lem : Fact (puk_meant (one 0) puk)
unfolding all_within byte two behind
puk_meant_lem = meant (puk_sized (one 0) puk) (puk_ordered (one 0) puk) (puk_call (one 0) puk) (hex life.call_2) puk_call_lem refl

puk_stands : Stands (one 0) (joined life.store_1)
unfolding records_of records joined at byte two four part
puk_stands = record { key = refl; counter = refl }

puk_reads : PukReads (one 0) puk (hex "3132333435363738")
puk_reads = reads_back.puks (one 0) puk puk_meant_lem (hex "3132333435363738")

puk_never_3 : Never3 (joined life.store_1) (puk_call (one 0) puk)
puk_never_3 = never_3.puks (one 0) puk (joined life.store_1) puk_meant_lem puk_stands

-- 9 createPINPolicy, under that PUK
abbrev policy : PolicyOrder
policy = record {
  id = ascii "pol";
  puk = 65537;
  puk_id = ascii "puk";
  defined = 1;
  modifiable = 1;
  format = 0;
  retry = 3;
  grouping = 0;
  patterns = 0;
  min_length = 4;
  max_length = 8;
  input = 0;
}

policy_call_lem : policy_call (one 1) policy ≡ hex life.call_3
unfolding zeros_for padded initial word_at mixed next_word schedule T1 T2 round rounds sums compressed after SHA256 filled key_block xored HMAC mac_under policy_call
policy_call_lem = refl

policy_meant_lem : Fact (policy_meant (one 1) policy)
unfolding all_within byte two behind
policy_meant_lem = meant (policy_sized (one 1) policy) (policy_ordered (one 1) policy) (policy_call (one 1) policy) (hex life.call_3) policy_call_lem refl

policy_stands : Stands (one 1) (joined life.store_2)
unfolding records_of records joined at byte two four part
policy_stands = record { key = refl; counter = refl }

named_puk : id (named (one 1) PUK 65537 (joined life.store_2)) ≡ ascii "puk"
unfolding records_of records joined at byte two four part text_at
named_puk = refl

policy_reads : PolicyReads (one 1) policy (hex "")
policy_reads = reads_back.policies (one 1) policy policy_meant_lem (hex "")

policy_never_3 : Never3 (joined life.store_2) (policy_call (one 1) policy)
policy_never_3 = never_3.policies (one 1) policy (joined life.store_2) policy_meant_lem policy_stands (λ z. named_puk)

-- 10 createKeyEntry, under that policy, whose PINs the user sets
abbrev key : KeyOrder
key = record {
  id = ascii "key";
  entry_algorithm = ascii "http://xmlns.webpki.org/sks/algorithm#key.1";
  seed = hex "";
  policy = 65538;
  policy_id = ascii "pol";
  pin_kind = 1;
  pin_value = ascii "1245";
  caching = 0;
  biometric = 0;
  export = 0;
  deletion = 2;
  usage = 0;
  friendly = hex "";
  key_algorithm = ascii "urn:oid:1.2.840.10045.3.1.7";
  parameters = hex "";
  endorsed = 0;
}

key_call_lem : key_call (one 2) key ≡ hex life.call_4
unfolding zeros_for padded initial word_at mixed next_word schedule T1 T2 round rounds sums compressed after SHA256 filled key_block xored HMAC mac_under key_call
key_call_lem = refl

key_meant_lem : Fact (key_meant (one 2) key)
unfolding all_within byte two behind
key_meant_lem = meant (key_sized (one 2) key) (key_ordered (one 2) key) (key_call (one 2) key) (hex life.call_4) key_call_lem refl

key_stands : Stands (one 2) (joined life.store_3)
unfolding records_of records joined at byte two four part
key_stands = record { key = refl; counter = refl }

named_policy : id (named (one 2) POLICY 65538 (joined life.store_3)) ≡ ascii "pol"
unfolding records_of records joined at byte two four part text_at
named_policy = refl

user_sets : user_defined (named (one 2) POLICY 65538 (joined life.store_3)) ≡ 1
unfolding records_of records joined at byte two four part text_at
user_sets = refl

key_reads : KeyReads (one 2) key (hex "000e5055424c49432d4b45592d4f4e450000")
key_reads = reads_back.keys (one 2) key key_meant_lem (hex "000e5055424c49432d4b45592d4f4e450000")

key_never_3 : Never3 (joined life.store_3) (key_call (one 2) key)
key_never_3 = never_3.keys (one 2) key (joined life.store_3) key_meant_lem key_stands (λ z. named_policy) (λ z. user_sets)

-- its answer, whose status is 0 in `Life`
abbrev key_answer : Answer
key_answer = answer (joined life.store_3) (key_call (one 2) key) (hex "000e5055424c49432d4b45592d4f4e450000") (zeros_of reply_bytes)

key_done : key_answer.status ≡ 0
key_done =
    ap (λ (c : List ℕ). (answer (joined life.store_3) c (hex "000e5055424c49432d4b45592d4f4e450000") (zeros_of reply_bytes)).status) key_call_lem
    ∙ ap (λ (x : Answer). x.status) life.step_4

key_attested : Fact (key_attests (one 2).key 2 (ascii "key") (string_at 0 (hex "000e5055424c49432d4b45592d4f4e450000")) (attestation_in key_answer.reply))
key_attested = attested.keys (one 2) key (joined life.store_3) (hex "000e5055424c49432d4b45592d4f4e450000") (zeros_of reply_bytes) key_meant_lem key_stands key_done

-- 12 setCertificatePath, of two certificates
abbrev path : PathOrder
path = record {
  key = 65539;
  key_id = ascii "key";
  public = ascii "PUBLIC-KEY-ONE";
  count = 2;
  certificates = hex "000b434552544946494341544500024341";
}

path_call_lem : path_call (one 4) path ≡ hex life.call_5
unfolding zeros_for padded initial word_at mixed next_word schedule T1 T2 round rounds sums compressed after SHA256 filled key_block xored HMAC mac_under path_call string_at part two byte behind
path_call_lem = refl

path_meant_lem : Fact (path_meant (one 4) path)
unfolding all_within byte two behind
path_meant_lem = meant (path_sized (one 4) path) (path_ordered (one 4) path) (path_call (one 4) path) (hex life.call_5) path_call_lem refl

path_stands : Stands (one 4) (joined life.store_4)
unfolding records_of records joined at byte two four part
path_stands = record { key = refl; counter = refl }

named_key : id (named (one 4) KEY 65539 (joined life.store_4)) ≡ ascii "key"
unfolding records_of records joined at byte two four part text_at
named_key = refl

public_key_lem : public_key (named (one 4) KEY 65539 (joined life.store_4)) ≡ ascii "PUBLIC-KEY-ONE"
unfolding records_of records joined at byte two four part text_at
public_key_lem = refl

path_reads : PathReads (one 4) path (hex "")
path_reads = reads_back.paths (one 4) path path_meant_lem (hex "")

path_never_3 : Never3 (joined life.store_4) (path_call (one 4) path)
path_never_3 = never_3.paths (one 4) path (joined life.store_4) path_meant_lem path_stands named_key public_key_lem

-- 3 closeProvisioningSession
abbrev close : CloseOrder
close = record { client = ascii "C1"; nonce = ascii "N" }

close_call_lem : close_call (one 5) close ≡ hex life.call_6
unfolding zeros_for padded initial word_at mixed next_word schedule T1 T2 round rounds sums compressed after SHA256 filled key_block xored HMAC mac_under close_call
close_call_lem = refl

close_meant_lem : Fact (close_meant (one 5) close)
unfolding all_within byte two behind
close_meant_lem = meant (fits_four (one 5).session) (close_ordered (one 5) close) (close_call (one 5) close) (hex life.call_6) close_call_lem refl

close_stands : Stands (one 5) (joined life.store_5)
unfolding records_of records joined at byte two four part
close_stands = record { key = refl; counter = refl }

client : client_id (session_in (one 5) (joined life.store_5)) ≡ ascii "C1"
unfolding records_of records joined at byte two four part text_at
client = refl

close_reads : CloseReads (one 5) close (hex "")
close_reads = reads_back.closes (one 5) close close_meant_lem (hex "")

close_never_3 : Never3 (joined life.store_5) (close_call (one 5) close)
close_never_3 = never_3.closes (one 5) close (joined life.store_5) close_meant_lem close_stands client

-- its answer, whose status is 0 in `Life`
abbrev close_answer : Answer
close_answer = answer (joined life.store_5) (close_call (one 5) close) (hex "") (zeros_of reply_bytes)

close_done : close_answer.status ≡ 0
close_done =
    ap (λ (c : List ℕ). (answer (joined life.store_5) c (hex "") (zeros_of reply_bytes)).status) close_call_lem
    ∙ ap (λ (x : Answer). x.status) life.step_6

close_attested : Fact (close_attests (one 5).key 5 (ascii "N") (attestation_in close_answer.reply))
close_attested = attested.closes (one 5) close (joined life.store_5) (hex "") (zeros_of reply_bytes) close_meant_lem close_stands close_done

-- 50 postDeleteKey
abbrev removal : PostOrder
removal = record { method = 50; key = 65539; authorization = ascii "AUTH" }

removal_call : post_call remover removal ≡ hex conflict.call_1
unfolding zeros_for padded initial word_at mixed next_word schedule T1 T2 round rounds sums compressed after SHA256 filled key_block xored HMAC mac_under post_call
removal_call = refl

removal_meant : Fact (post_meant remover removal)
unfolding all_within byte two behind
removal_meant = meant (post_sized remover removal) (post_ordered remover removal) (post_call remover removal) (hex conflict.call_1) removal_call refl

removal_stands : Stands remover (joined conflict.store_0)
unfolding records_of records joined at byte two four part
removal_stands = record { key = refl; counter = refl }

removal_reads : PostReads remover removal (hex "01")
removal_reads = reads_back.posts remover removal removal_meant (hex "01")

removal_never_3 : Never3 (joined conflict.store_0) (post_call remover removal)
removal_never_3 = never_3.posts remover removal (joined conflict.store_0) removal_meant removal_stands

-- 51 postUnlockKey
abbrev unlocking : PostOrder
unlocking = record { method = 51; key = 65539; authorization = ascii "AUTH" }

unlocking_call : post_call unlocker unlocking ≡ hex conflict.call_2
unfolding zeros_for padded initial word_at mixed next_word schedule T1 T2 round rounds sums compressed after SHA256 filled key_block xored HMAC mac_under post_call
unlocking_call = refl

unlocking_meant : Fact (post_meant unlocker unlocking)
unfolding all_within byte two behind
unlocking_meant = meant (post_sized unlocker unlocking) (post_ordered unlocker unlocking) (post_call unlocker unlocking) (hex conflict.call_2) unlocking_call refl

unlocking_stands : Stands unlocker (joined conflict.store_1)
unfolding records_of records joined at byte two four part
unlocking_stands = record { key = refl; counter = refl }

unlocking_reads : PostReads unlocker unlocking (hex "01")
unlocking_reads = reads_back.posts unlocker unlocking unlocking_meant (hex "01")

unlocking_never_3 : Never3 (joined conflict.store_1) (post_call unlocker unlocking)
unlocking_never_3 = never_3.posts unlocker unlocking (joined conflict.store_1) unlocking_meant unlocking_stands

-- The PUK once more, ordered at the counter behind: the store finds the MAC wrong.
late : (answer (joined life.store_1) (puk_call (one 1) puk) (hex "3132333435363738") (zeros_of reply_bytes)).status ≡ 3
unfolding zeros_for padded initial word_at mixed next_word schedule T1 T2 round rounds sums compressed after SHA256 filled key_block xored HMAC mac_under puk_call same records_of records joined at block byte two four part string_at behind text_at all_within obeys_table length_fits sound format_fits perform make_puk_by look answer judged step session_step session_act
late = refl
