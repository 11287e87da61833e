-- never-3: the MAC that the issuer made is the one that the store makes. The fields are read as ordered (reads-back), the session's key and
-- counter are the issuer's, and the store's data are those of the order, since what its handles name has the names that the order gives.
use mathlib.Core.Path.{◌≡◌, refl, sym, ap, ap₂, ◌∙◌}
use mathlib.Core.Bool.{true, false, cond}
use mathlib.Core.List.{List, []}
use mathlib.Core.Logic.{◌⊎◌, inl, inr}
use Prim.Native.Nat.{ℕ}
use Prim.Native.String.{String}
use lib.Dec.{eqb}
use borrow.Author.Tests.{eq-eqb}
use Rattle.hmac.proofs.Sameness.{eq_same}
use Rattle.paper.specs.Bytes.{ascii}
use Rattle.paper.specs.Form.{Rec, ◌equals◌, say, ◌or◌, test, Fact, Fault, settle}
use Rattle.paper.specs.Records.{records, SESSION, PUK, POLICY, KEY, at, id, client_id, session_key, mac_counter, user_defined, public_key, SessionValue}
use Rattle.paper.specs.Calls.{subject, one_of, session_methods, is_session_call, close_in, puk_in, Policy, policy_in, Key, key_in, Path, path_in, post_in}
use Rattle.paper.specs.Mac.{mac_under, mac, name_or, close_data_of, close_data, puk_data, policy_data_of, policy_data, key_data_of, key_data, path_data_of, path_data, post_name, post_data}
use Rattle.paper.specs.Act.{Act, refuse, itself}
use Rattle.paper.specs.Objects.{differs, pin_of, puk_faults, policy_faults, key_faults, path_faults, make_puk_by, make_policy_by, make_key_by, set_path_by}
use Rattle.paper.specs.Posting.{post_faults, post_by}
use Rattle.paper.specs.Sessions.{close_faults, close_by}
use Rattle.paper.specs.Answer.{answer, session_act}
use Rattle.paper.specs.Issuing.{Issuer, seal_of, user_pin, issuer_pin, CloseOrder, close_as, close_call, PukOrder, puk_call, PolicyOrder, policy_as, policy_call, KeyOrder, pin_ordered, key_as, key_call, PathOrder, path_as, path_call, PostOrder, post_as, post_call}
use Rattle.paper.proofs.Forms.{cases, contrary}
use Rattle.laws.proofs.Choice.{fails}
use Rattle.laws.proofs.Lists.{at_block}
use Rattle.laws.proofs.Methods.{is-session, close_act, puk_act, policy_act, key_act, path_act, delete_act, unlock_act}
use Rattle.issued.specs.Meant.{close_meant, puk_meant, policy_meant, key_meant, path_meant, post_meant}
use Rattle.issued.specs.ReadsBack.{PostReads}
use Rattle.issued.specs.NeverThree.{session_in, named, Stands, Never3, NeverThree}
use Rattle.issued.proofs.ReadsBack.{reads_back}
use Rattle.issued.proofs.Three.{applies, Not3, blk, seen, not_3, close_3, inside_3}

-- ---- what the store sees is what the issuer knows

module _ (i : Issuer) (s c : List ℕ) (S : Stands i s) (e : subject c ≡ i.session) where
  abbrev x : SessionValue
  x = itself c (blk s c)

  found : (k h : ℕ) → at k h (subject c) (blk s c) ≡ named i k h s
  found k h = at_block k h (subject c) (records s) ∙ ap (λ (t : ℕ). at k h t (records s)) e

  session-is : at SESSION (subject c) (subject c) (blk s c) ≡ session_in i s
  session-is = found SESSION (subject c) ∙ ap (λ (h : ℕ). named i SESSION h s) e

  pub key_is : x.key ≡ i.key
  key_is = ap session_key session-is ∙ S.key

  pub counter-is : x.counter ≡ i.counter
  counter-is = ap mac_counter session-is ∙ S.counter

  -- the MAC that the issuer made over its data is the one that the session makes over what it reads
  right : (name : String) (text : List ℕ) {Q : Type 0} (given text_of : Q → List ℕ) (read meant : Q) → read ≡ meant
      → given meant ≡ seal_of i name text → text ≡ text_of meant → given read ≡ mac x name (text_of read)
  right name text given text_of read meant fields made same =
      ap given fields ∙ made ∙ sym (ap₂ (λ (k : List ℕ) (n : ℕ). mac_under k (ascii name) n text) key_is counter-is)
      ∙ ap (mac x name) (same ∙ ap text_of (sym fields))

  -- so a method whose list says 3 of that MAC alone does not answer 3
  never : (chip : List ℕ) (fs : List Fault) (b : Act) → Fact (is_session_call c) → session_act c chip (blk s c) (seen s c chip) ≡ settle fs refuse b
      → Not3 (subject c) (records s) b → (name : String) {Q : Type 0} (given text_of : Q → List ℕ) (read meant : Q)
      → applies 3 fs ≡ (differs (given read) (mac x name (text_of read)) or say false)
      → read ≡ meant → (text : List ℕ) → given meant ≡ seal_of i name text → text ≡ text_of meant
      → (reply : List ℕ) → (answer s c chip reply).status ≡ 3 → ⊥
  never chip fs b h act done name given text_of read meant alone fields text made same =
      not_3 s c chip fs b h act done (λ p. agree (rw alone at p))
    where
      agree : Fact (differs (given read) (mac x name (text_of read)) or say false) → ⊥
      agree (inl d) = d (eq_same (given read) (mac x name (text_of read)) (right name text given text_of read meant fields made same))
      agree (inr f) = contrary (sym f)

-- what a handle stands for, where the names agree for a handle that is not 0
name_same : (handle : ℕ) (a b : List ℕ) → ((handle ≡ 0 → ⊥) → a ≡ b) → name_or handle a ≡ name_or handle b
name_same handle a b f = cases (handle equals 0) (λ e. rw (eq-eqb handle 0 e)) (λ n. ap (name_or handle) (f n))

-- who sets the PIN, by the order and by the policy
sets_same : (o : KeyOrder) (defined : ℕ) → Fact (pin_ordered o) → ((o.policy ≡ 0 → ⊥) → defined ≡ cond (eqb o.pin_kind user_pin) 1 0)
    → eqb o.pin_kind issuer_pin ≡ cond (eqb o.policy 0) false (eqb defined 0)
sets_same o defined (inl w) f = rw (w.0, w.1)
sets_same o defined (inr (n, (inl k, w))) f = rw (fails (o.policy equals 0) n, f n, k)
sets_same o defined (inr (n, (inr k, w))) f = rw (fails (o.policy equals 0) n, f n, k)

-- ---- method by method

closes : (i : Issuer) (o : CloseOrder) (s : List ℕ) → Fact (close_meant i o) → Stands i s
    → client_id (session_in i s) ≡ o.client → Never3 s (close_call i o)
unfolding close_by
closes i o s M S client chip =
    let c : List ℕ = close_call i o in
    let v : SessionValue = itself c (blk s c) in
    let R = reads_back.closes i o M chip in
    never i s c S R.session chip (close_faults c chip (close_in c) v (blk s c)) _ (is-session c R.method refl)
    (close_act c chip (blk s c) (seen s c chip) R.method) (close_3 (subject c) (records s) _)
    "closeProvisioningSession" (λ q. q.mac) (close_data v) (close_in c) _ refl R.fields _ refl
    (ap (λ (w : List ℕ). close_data_of w (close_as o [])) (sym (ap client_id (session-is i s c S R.session) ∙ client)))

puks : (i : Issuer) (o : PukOrder) (s : List ℕ) → Fact (puk_meant i o) → Stands i s → Never3 s (puk_call i o)
unfolding make_puk_by
puks i o s M S chip =
    let c : List ℕ = puk_call i o in
    let R = reads_back.puks i o M chip in
    never i s c S R.session chip (puk_faults c chip (puk_in c chip) (puk_in c chip).value (itself c (blk s c)) (blk s c)) _
    (is-session c R.method refl) (puk_act c chip (blk s c) (seen s c chip) R.method) (inside_3 (subject c) (records s) _ _ _ _)
    "createPUKPolicy" (λ q. q.mac) puk_data (puk_in c chip) _ refl R.fields _ refl refl

policies : (i : Issuer) (o : PolicyOrder) (s : List ℕ) → Fact (policy_meant i o) → Stands i s
    → ((o.puk ≡ 0 → ⊥) → id (named i PUK o.puk s) ≡ o.puk_id) → Never3 s (policy_call i o)
unfolding make_policy_by
policies i o s M S puk chip =
    let c : List ℕ = policy_call i o in
    let its : Policy → Rec = λ q. at PUK q.puk (subject c) (blk s c) in
    let R = reads_back.policies i o M chip in
    never i s c S R.session chip (policy_faults c chip (policy_in c) (its (policy_in c)) (itself c (blk s c)) (blk s c)) _
    (is-session c R.method refl) (policy_act c chip (blk s c) (seen s c chip) R.method) (inside_3 (subject c) (records s) _ _ _ _)
    "createPINPolicy" (λ q. q.mac) (λ q. policy_data q (its q)) (policy_in c) _ refl R.fields _ refl
    (ap (policy_data_of (policy_as o [])) (name_same o.puk o.puk_id _ (λ n. sym (ap id (found i s c S R.session PUK o.puk) ∙ puk n))))

keys : (i : Issuer) (o : KeyOrder) (s : List ℕ) → Fact (key_meant i o) → Stands i s
    → ((o.policy ≡ 0 → ⊥) → id (named i POLICY o.policy s) ≡ o.policy_id)
    → ((o.policy ≡ 0 → ⊥) → user_defined (named i POLICY o.policy s) ≡ cond (eqb o.pin_kind user_pin) 1 0)
    → Never3 s (key_call i o)
unfolding make_key_by
keys i o s M S policy defined chip =
    let c : List ℕ = key_call i o in
    let q : Key = key_in c chip in
    let its : Key → Rec = λ q. at POLICY q.policy (subject c) (blk s c) in
    let R = reads_back.keys i o M chip in
    let e = found i s c S R.session POLICY o.policy in
    let pin : Fact (pin_ordered o) = search in
    never i s c S R.session chip (key_faults c chip q (pin_of q (its q)) (its q) (itself c (blk s c)) (blk s c)) _
    (is-session c R.method refl) (key_act c chip (blk s c) (seen s c chip) R.method) (inside_3 (subject c) (records s) _ _ _ _)
    "createKeyEntry" (λ q. q.mac) (λ q. key_data q (its q)) q _ refl R.fields _ refl
    (ap₂ (key_data_of (key_as o [] [])) (name_same o.policy o.policy_id _ (λ n. sym (ap id e ∙ policy n)))
    (sets_same o (user_defined (at POLICY o.policy (subject c) (blk s c))) pin (λ n. ap user_defined e ∙ defined n)))

paths : (i : Issuer) (o : PathOrder) (s : List ℕ) → Fact (path_meant i o) → Stands i s
    → id (named i KEY o.key s) ≡ o.key_id → public_key (named i KEY o.key s) ≡ o.public → Never3 s (path_call i o)
unfolding set_path_by
paths i o s M S name public chip =
    let c : List ℕ = path_call i o in
    let its : Path → Rec = λ q. at KEY q.key (subject c) (blk s c) in
    let R = reads_back.paths i o M chip in
    let e = found i s c S R.session KEY o.key in
    never i s c S R.session chip (path_faults c chip (path_in c) (its (path_in c)) (itself c (blk s c))) _
    (is-session c R.method refl) (path_act c chip (blk s c) (seen s c chip) R.method) (inside_3 (subject c) (records s) _ _ _ _)
    "setCertificatePath" (λ q. q.mac) (λ q. path_data (its q) q) (path_in c) _ refl R.fields _ refl
    (ap₂ (λ (a b : List ℕ). path_data_of a b (path_as o [])) (sym (ap id e ∙ name)) (sym (ap public_key e ∙ public)))

posts : (i : Issuer) (o : PostOrder) (s : List ℕ) → Fact (post_meant i o) → Stands i s → Never3 s (post_call i o)
unfolding post_by
posts i o s M S chip = by_method (search)
  where
    c : List ℕ
    c = post_call i o

    v : SessionValue
    v = itself c (blk s c)

    R : PostReads i o chip
    R = reads_back.posts i o M chip

    -- under the name that the method tells
    posted : (op : ℕ) → o.method ≡ op → test (one_of session_methods op) ≡ true
        → session_act c chip (blk s c) (seen s c chip) ≡ post_by op (post_name op) v c chip (blk s c) (seen s c chip)
        → (reply : List ℕ) → (answer s c chip reply).status ≡ 3 → ⊥
    posted op e h act =
        never i s c S R.session chip (post_faults op (post_name op) c chip (post_in c chip) v (blk s c) (seen s c chip)) _
        (is-session c (R.method ∙ e) h) act (inside_3 (subject c) (records s) _ _ _ _)
        (post_name op) (λ q. q.mac) post_data (post_in c chip) _ refl R.fields _
        (ap (λ (m : ℕ). seal_of i (post_name m) (post_data (post_as o [] 0))) e) refl

    by_method : (o.method ≡ 50) ⊎ (o.method ≡ 51) → (reply : List ℕ) → (answer s c chip reply).status ≡ 3 → ⊥
    by_method (inl e) = posted 50 e refl (delete_act c chip (blk s c) (seen s c chip) (R.method ∙ e))
    by_method (inr e) = posted 51 e refl (unlock_act c chip (blk s c) (seen s c chip) (R.method ∙ e))

pub never_3 : NeverThree
never_3 = record { closes = closes; puks = puks; policies = policies; keys = keys; paths = paths; posts = posts }
