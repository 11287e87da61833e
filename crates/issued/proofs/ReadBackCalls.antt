-- Each call that an issuer writes reads back as ordered: its fields from left to right, each at the place where the store looks for it.
-- For each method: the pieces of its call, then what they read.
use mathlib.Core.Path.{◌≡◌, refl}
use mathlib.Core.Bool.{true}
use mathlib.Core.List.{List, [], ◌∷◌}
use mathlib.Core.Logic.{◌⊎◌, inl, inr}
use Prim.Native.Nat.{ℕ}
use Rattle.paper.specs.Bytes.{byte, enc2, enc4, string, string_at, behind}
use Rattle.paper.specs.Form.{Fact, test}
use Rattle.paper.specs.Calls.{one_of, session_methods}
use Rattle.paper.specs.Issuing.{Issuer, CloseOrder, close_mac, close_call, PukOrder, puk_mac, puk_call, PolicyOrder, policy_mac, policy_rule_bytes, policy_call, KeyOrder, key_mac, key_flag_bytes, key_call, PathOrder, path_mac, path_call, PostOrder, post_mac, post_call}
use Rattle.issued.specs.Meant.{fits_four, close_meant, puk_meant, policy_meant, key_meant, path_meant, post_meant}
use Rattle.issued.specs.ReadsBack.{CloseReads, PukReads, PolicyReads, KeyReads, PathReads, PostReads}
use Rattle.issued.proofs.Reading.{passed, together, read_byte, read_first, read_two, read_four, strung, same-strings, sealed, length_seal, Headed, headed, is_known}

-- 3 closeProvisioningSession
close_head : (i : Issuer) (o : CloseOrder) → Fact (fits_four i.session) → Headed 3 i (close_call i o) (string o.nonce ∷ []) (close_mac i o)
unfolding close_call
close_head i o h = headed 3 i _ _ h

pub close_reads : (i : Issuer) (o : CloseOrder) → Fact (close_meant i o) → (chip : List ℕ) → CloseReads i o chip
close_reads i o (session, ((_, (_, size)), short)) chip =
    let head = close_head i o session in
    let nonce = strung o.nonce short head.next in
    let mac = sealed nonce.next (length_seal _ _ _ _) in
    record {
      method = head.method;
      session = head.session;
      fields = λ t. record { nonce = nonce.is t; mac = mac.is t };
      known = is_known head short refl;
      formed = λ none. (rw nonce.size size, (mac.end, none));
    }

-- 8 createPUKPolicy
puk_head : (i : Issuer) (o : PukOrder) → Fact (fits_four i.session)
    → Headed 8 i (puk_call i o) (string o.id ∷ string o.encrypted ∷ (o.format ∷ o.retry ∷ []) ∷ []) (puk_mac i o)
unfolding puk_call
puk_head i o h = headed 8 i _ _ h

pub puk_reads : (i : Issuer) (o : PukOrder) → Fact (puk_meant i o) → (chip : List ℕ) → PukReads i o chip
puk_reads i o ((session, _), ((_, (is_id, size)), short)) chip =
    let head = puk_head i o session in
    let id = strung o.id short head.next in
    let encrypted = strung o.encrypted short id.next in
    let rules = encrypted.next in
    let mac = sealed (passed rules) (length_seal _ _ _ _) in
    record {
      method = head.method;
      session = head.session;
      fields = λ t.
          record {
            id = id.is t;
            encrypted = encrypted.is t;
            format = read_first rules t;
            retry = read_byte 1 rules t;
            mac = mac.is t;
            value = chip;
          };
      known = is_known head short refl;
      formed = λ value. (rw (id.size, id.is) is_id, (rw encrypted.size size, (mac.end, value)));
    }

-- 9 createPINPolicy
policy_head : (i : Issuer) (o : PolicyOrder) → Fact (fits_four i.session)
    → Headed 9 i (policy_call i o) (string o.id ∷ enc4 o.puk ∷ policy_rule_bytes o ∷ []) (policy_mac i o)
unfolding policy_call
policy_head i o h = headed 9 i _ _ h

pub policy_reads : (i : Issuer) (o : PolicyOrder) → Fact (policy_meant i o) → (chip : List ℕ) → PolicyReads i o chip
policy_reads i o ((session, (puk, _)), ((_, (is_id, (_, (defined, modifiable)))), short)) chip =
    let head = policy_head i o session in
    let id = strung o.id short head.next in
    let rules = together id.next in
    let mac = sealed (passed rules) (length_seal _ _ _ _) in
    record {
      method = head.method;
      session = head.session;
      fields = λ t.
          record {
            id = id.is t;
            puk = read_four rules refl puk t;
            defined = read_byte 4 rules t;
            modifiable = read_byte 5 rules t;
            format = read_byte 6 rules t;
            retry = read_byte 7 rules t;
            grouping = read_byte 8 rules t;
            patterns = read_byte 9 rules t;
            min_length = read_byte 10 rules t;
            max_length = read_byte 11 rules t;
            input = read_byte 12 rules t;
            mac = mac.is t;
          };
      known = is_known head short refl;
      formed = λ none.
          (rw (id.size, id.is) is_id, (rw (read_byte 4 rules) defined, (rw (read_byte 5 rules) modifiable, (mac.end, none))));
    }

-- 10 createKeyEntry
key_head : (i : Issuer) (o : KeyOrder) → Fact (fits_four i.session) → Headed 10 i (key_call i o) (
    string o.id ∷ string o.entry_algorithm ∷ string o.seed ∷ enc4 o.policy ∷ string o.pin_value ∷ key_flag_bytes o
    ∷ string o.friendly ∷ string o.key_algorithm ∷ string o.parameters ∷ enc2 o.endorsed ∷ []) (key_mac i o)
unfolding key_call
key_head i o h = headed 10 i _ _ h

pub key_reads : (i : Issuer) (o : KeyOrder) → Fact (key_meant i o) → (chip : List ℕ) → KeyReads i o chip
key_reads i o (
  (session, (policy_width, (_, (_, (_, (_, endorsed_width)))))),
  ((_, (is_id, (seed_size, (_, (pin_size, (is_flag, (friendly_size, parameters_size))))))), short),
) chip =
    let head = key_head i o session in
    let id = strung o.id short head.next in
    let entry = strung o.entry_algorithm short id.next in
    let seed = strung o.seed short entry.next in
    let policy = seed.next in
    let pin_value = strung o.pin_value short (passed policy) in
    let flags = pin_value.next in
    let friendly = strung o.friendly short (passed flags) in
    let algorithm = strung o.key_algorithm short friendly.next in
    let parameters = strung o.parameters short algorithm.next in
    let endorsed = parameters.next in
    let mac = sealed (passed endorsed) (length_seal _ _ _ _) in
    record {
      method = head.method;
      session = head.session;
      fields = λ t.
          record {
            id = id.is t;
            entry_algorithm = entry.is t;
            seed = seed.is t;
            policy = read_four policy refl policy_width t;
            pin_value = pin_value.is t;
            caching = read_first flags t;
            biometric = read_byte 1 flags t;
            export = read_byte 2 flags t;
            deletion = read_byte 3 flags t;
            usage = read_byte 4 flags t;
            friendly = friendly.is t;
            key_algorithm = algorithm.is t;
            parameters = parameters.is t;
            endorsed = read_two endorsed refl endorsed_width t;
            mac = mac.is t;
            public = string_at 0 chip;
            opened = string_at (behind 0 chip) chip;
          };
      known = is_known head short refl;
      formed = λ made. (
        rw (id.size, id.is) is_id,
        (
          rw seed.size seed_size,
          (
            rw pin_value.size pin_size,
            (
              rw (read_first flags) is_flag,
              (rw friendly.size friendly_size, (rw parameters.size parameters_size, (mac.end, made))),
            ),
          ),
        ),
      );
    }

-- 12 setCertificatePath
path_head : (i : Issuer) (o : PathOrder) → Fact (fits_four i.session)
    → Headed 12 i (path_call i o) (enc4 o.key ∷ (o.count ∷ []) ∷ o.certificates ∷ []) (path_mac i o)
unfolding path_call
path_head i o h = headed 12 i _ _ h

pub path_reads : (i : Issuer) (o : PathOrder) → Fact (path_meant i o) → (chip : List ℕ) → PathReads i o chip
path_reads i o ((session, (key, _)), ((_, (_, (_, (some, (filled, ends))))), short)) chip =
    let head = path_head i o session in
    let count = read_byte 4 head.next in
    let certificates = same-strings o.count 0 o.certificates ends (passed (passed head.next)) in
    let mac = sealed certificates.next (length_seal _ _ _ _) in
    record {
      method = head.method;
      session = head.session;
      fields = rw count (λ t.
          record { key = read_four head.next refl key t; certificates = certificates.are t; first = certificates.first some t; mac = mac.is t });
      known = is_known head short refl;
      formed = λ none. rw count (some, (certificates.filled filled, (mac.end, none)));
    }

-- 50 postDeleteKey, 51 postUnlockKey
post_head : (i : Issuer) (o : PostOrder) → Fact (fits_four i.session)
    → Headed o.method i (post_call i o) (enc4 o.key ∷ string o.authorization ∷ []) (post_mac i o)
unfolding post_call
post_head i o h = headed o.method i _ _ h

is_post_lem : (m : ℕ) → (m ≡ 50) ⊎ (m ≡ 51) → test (one_of session_methods m) ≡ true
is_post_lem m (inl e) = rw e
is_post_lem m (inr e) = rw e

pub post_reads : (i : Issuer) (o : PostOrder) → Fact (post_meant i o) → (chip : List ℕ) → PostReads i o chip
post_reads i o ((session, key), ((_, (is_post, size)), short)) chip =
    let head = post_head i o session in
    let authorization = strung o.authorization short (passed head.next) in
    let mac = sealed authorization.next (length_seal _ _ _ _) in
    record {
      method = head.method;
      session = head.session;
      fields = λ t.
          record { key = read_four head.next refl key t; authorization = authorization.is t; mac = mac.is t; verified = byte 0 chip };
      known = is_known head short (is_post_lem o.method is_post);
      formed = λ verified. (rw authorization.size size, (mac.end, verified));
    }
