-- attested: a call of 10 or 3 that is answered 0 comes to an act that bears its attestation, and bytes 5 to 36 of the reply are that. Its
-- key and counter are the session's, and so the issuer's.
use mathlib.Core.Path.{◌≡◌, refl, sym, ap, ap₂, subst, ◌∙◌}
use mathlib.Core.Bool.{true}
use mathlib.Core.List.{List, ◌∷◌}
use mathlib.Core.Option.{Option}
use Prim.Native.Nat.{ℕ, suc, ◌+◌, ◌≤◌, ◌<◌}
use native.Mathlib.Omega.{arith}
use native.Mathlib.Nat.{zero-add}
use lib.ListN.{length}
use Rattle.hmac.proofs.Sameness.{eq_same}
use Rattle.paper.specs.Limits.{mac_bytes, reply_bytes}
use Rattle.paper.specs.Bytes.{byte, part, over, ascii, string_at}
use Rattle.paper.specs.Form.{Rec, Fact, Fault, settle}
use Rattle.paper.specs.Records.{records, SessionValue, POLICY, at}
use Rattle.paper.specs.Calls.{subject, is_session_call, close_in, Key, key_in}
use Rattle.paper.specs.Mac.{mac_under, attestation, close_attested, key_attested}
use Rattle.paper.specs.Objects.{pin_of, key_faults, make_key_by}
use Rattle.paper.specs.Sessions.{close_faults, close_by}
use Rattle.paper.specs.Act.{Out, Act, refuse, inside, close, fits_in, wiped, perform, itself}
use Rattle.paper.specs.Answer.{answer, Judged, written, step, session_step, session_act}
use Rattle.paper.specs.Issuing.{Issuer, ready, CloseOrder, close_call, KeyOrder, key_call, attests, key_attests, close_attests}
use Rattle.laws.proofs.Bytes.{length_over, byte-over-same, length_part, byte-part, list_same}
use Rattle.laws.proofs.CallStrings.{length-mac}
use Rattle.laws.proofs.Choice.{chosen}
use Rattle.laws.proofs.Methods.{is-session, numbered, settled_by_number, close_act, key_act}
use Rattle.rule.proofs.Refusals.{session-step}
use Rattle.rule.proofs.Checked.{refused}
use Rattle.rule.proofs.Answers.{answer-is, stepped}
use Rattle.issued.specs.Meant.{close_meant, key_meant}
use Rattle.issued.specs.NeverThree.{Stands}
use Rattle.issued.specs.Attested.{attestation_in, Attested}
use Rattle.issued.proofs.ReadsBack.{reads_back}
use Rattle.issued.proofs.Three.{blk, seen}
use Rattle.issued.proofs.NeverThree.{key_is, counter-is}

-- ---- the attestation in the reply

-- bytes written behind five others
behind_five : (a b c d e : ℕ) (v s : List ℕ) → 5 + length v ≤ length s → part 5 (length v) (over 0 (a ∷ b ∷ c ∷ d ∷ e ∷ v) s) ≡ v
behind_five a b c d e v s l =
    list_same v (part 5 (length v) w) (length_part 5 (length v) w (rw (length_over 0 (a ∷ b ∷ c ∷ d ∷ e ∷ v) s) l))
    (λ j h. byte-part 5 (length v) j w h ∙ same j h)
  where
    w : List ℕ
    w = over 0 (a ∷ b ∷ c ∷ d ∷ e ∷ v) s

    shifted : (j n : ℕ) → n ≡ suc (suc (suc (suc (suc j)))) → byte n (a ∷ b ∷ c ∷ d ∷ e ∷ v) ≡ byte j v
    shifted j n i = rw i (unfold byte in refl)

    same : (j : ℕ) → j < length v → byte (5 + j) w ≡ byte j v
    same j h =
        ap (λ (n : ℕ). byte n w) (sym (zero-add (5 + j)))
        ∙ byte-over-same 0 (5 + j) (a ∷ b ∷ c ∷ d ∷ e ∷ v) s (omega arith) (omega arith) ∙ shifted j (5 + j) (omega arith)

in_reply : (j : Judged) (reply v : List ℕ) → j.attestation ≡ v → length v ≡ mac_bytes → reply_bytes ≤ length reply → attestation_in (written j reply) ≡ v
unfolding written
in_reply j reply v e n l = rw (e, sym n) (behind_five _ _ _ _ _ v reply (omega arith))

length-attestation : (x : SessionValue) (text : List ℕ) → length (attestation x text) ≡ mac_bytes
unfolding mac_under
length-attestation x text = length-mac _ text

-- an outcome of status 0 bears this attestation
abbrev Bears : List ℕ → Out → Type 0
Bears v o = o.status ≡ 0 → o.attestation ≡ v

close_bears : (t : ℕ) (rs : List Rec) (v : List ℕ) → Bears v (perform t (close v) rs)
unfolding perform
close_bears t rs v z = refl

inside_bears : (t : ℕ) (rs : List Rec) (h : ℕ) (v : List ℕ) (g : Rec → Rec) (new : Option Rec) → Bears v (perform t (inside h v g new) rs)
unfolding perform
inside_bears t rs h v g new = chosen (Bears v) (fits_in new rs) _ (wiped t 2 rs) (λ e z. refl) (λ e z. absurd (omega arith))

replied : (s c chip reply : List ℕ) (fs : List Fault) (b : Act) (v : List ℕ) → numbered fs ≡ true → Fact (is_session_call c)
    → session_act c chip (blk s c) (seen s c chip) ≡ settle fs refuse b → Bears v (perform (subject c) b (records s)) → length v ≡ mac_bytes
    → (answer s c chip reply).status ≡ 0 → attestation_in (answer s c chip reply).reply ≡ v
unfolding session_step
replied s c chip reply fs b v f h act done n =
    answer-is (λ a. a.status ≡ 0 → attestation_in a.reply ≡ v) s c chip reply (λ m r l z. absurd (omega arith))
    (λ T z. in_reply (stepped s c chip) reply v (bears z) n T.long)
  where
    t : ℕ
    t = subject c

    rs : List Rec
    rs = records s

    bears : Bears v (step c chip rs)
    bears =
        subst (Bears v) (sym (session-step c chip rs h ∙ ap (λ (x : Act). perform t x rs) act))
        (settled_by_number (λ x. Bears v (perform t x rs)) fs refuse b f (λ m l z. absurd (refused t m rs l z)) (λ k. done))

-- ---- the issuer's check

module _ (i : Issuer) (s c : List ℕ) (S : Stands i s) (e : subject c ≡ i.session) where
  abbrev x : SessionValue
  x = itself c (blk s c)

  -- 3 and 10 leave room for a second use of the counter
  says_yes : (chip reply : List ℕ) (fs : List Fault) (b : Act) → Fact (ready 10 i) → numbered fs ≡ true → Fact (is_session_call c)
      → session_act c chip (blk s c) (seen s c chip) ≡ settle fs refuse b → {Q : Type 0} (text_of : Q → List ℕ) (read meant : Q)
      → Bears (attestation x (text_of read)) (perform (subject c) b (records s)) → read ≡ meant → (answer s c chip reply).status ≡ 0
      → Fact (attests i.key i.counter (text_of meant) (attestation_in (answer s c chip reply).reply))
  says_yes chip reply fs b (wide, room) f h act {Q = Q} text_of read meant done fields z =
      let given : attestation_in (answer s c chip reply).reply ≡ attestation x (text_of read) =
      replied s c chip reply fs b (attestation x (text_of read)) f h act done (length-attestation x (text_of read)) z in
      let made : attestation x (text_of read) ≡ mac_under i.key (ascii "Device Attestation") (i.counter + 1) (text_of meant) =
      ap (λ (q : Q). attestation x (text_of q)) fields
      ∙ ap₂ (λ (k : List ℕ) (n : ℕ). mac_under k (ascii "Device Attestation") (n + 1) (text_of meant)) (key_is i s c S e) (counter-is i s c S e) in
      (wide, (ap length given ∙ length-attestation x (text_of read), (omega arith, eq_same _ _ (given ∙ made))))

closes : (i : Issuer) (o : CloseOrder) (s chip reply : List ℕ) → Fact (close_meant i o) → Stands i s
    → (answer s (close_call i o) chip reply).status ≡ 0
    → Fact (close_attests i.key i.counter o.nonce (attestation_in (answer s (close_call i o) chip reply).reply))
unfolding close_by
closes i o s chip reply M S =
    let c : List ℕ = close_call i o in
    let R = reads_back.closes i o M chip in
    says_yes i s c S R.session chip reply (close_faults c chip (close_in c) (itself c (blk s c)) (blk s c)) _ M.1.0.0 refl
    (is-session c R.method refl) (close_act c chip (blk s c) (seen s c chip) R.method)
    close_attested (close_in c) _ (close_bears (subject c) (records s) _) R.fields

keys : (i : Issuer) (o : KeyOrder) (s chip reply : List ℕ) → Fact (key_meant i o) → Stands i s
    → (answer s (key_call i o) chip reply).status ≡ 0
    → Fact (key_attests i.key i.counter o.id (string_at 0 chip) (attestation_in (answer s (key_call i o) chip reply).reply))
unfolding make_key_by
keys i o s chip reply M S =
    let c : List ℕ = key_call i o in
    let q : Key = key_in c chip in
    let its : Rec = at POLICY q.policy (subject c) (blk s c) in
    let R = reads_back.keys i o M chip in
    says_yes i s c S R.session chip reply (key_faults c chip q (pin_of q its) its (itself c (blk s c)) (blk s c)) _ M.1.0.0 refl
    (is-session c R.method refl) (key_act c chip (blk s c) (seen s c chip) R.method)
    key_attested q _ (inside_bears (subject c) (records s) _ _ _ _) R.fields

pub attested : Attested
attested = record { closes = closes; keys = keys }
