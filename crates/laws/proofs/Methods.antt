-- The methods by name. What holds of each method holds of every call: of what a session call comes to, of what a user call leaves,
-- and of a step.
use mathlib.Core.Path.{◌≡◌, refl, sym, subst}
use mathlib.Core.Bool.{Bool, true, ◌&&◌}
use mathlib.Core.List.{List, [], ◌∷◌, map}
use mathlib.Core.Logic.{◌⊎◌, inl, inr}
use mathlib.Core.Option.{none, some as just}
use Prim.Native.Nat.{ℕ, ◌≤◌}
use Prim.Native.String.{String}
use lib.Dec.{leb, lit≤}
use borrow.Author.Tests.{leb-true}
use Rattle.sha256.specs.Sha256.{SHA256}
use Rattle.paper.specs.Form.{Rec, ◌equals◌, test, Fact, only, Fault, ◌gives◌, settle}
use Rattle.paper.specs.Records.{SessionValue, PUK, POLICY, KEY, at, is, parent, delete_protection, retry_limit, key_errors, puk_errors, zeros}
use Rattle.paper.specs.Calls.{method, subject, one_of, session_methods, is_session_call, close_in, Puk, puk_in, Policy, policy_in, Key, key_in, Path, path_in, Post, post_in, typed, typed_new}
use Rattle.paper.specs.Mac.{attestation, close_attested, key_attested}
use Rattle.paper.specs.Pin.{pin_check, puk_check, pin_missed, pin_hit, puk_missed, puk_hit}
use Rattle.paper.specs.Act.{Out, plain, no_attestation, Act, refuse, inside, close as closes, advance, fresh, itself}
use Rattle.paper.specs.Objects.{pin_of, puk_faults, puk_record, make_puk, make_puk_by, policy_faults, policy_record, make_policy, make_policy_by, key_faults, key_record, make_key, make_key_by, path_faults, certified, set_path, set_path_by}
use Rattle.paper.specs.Posting.{target, is_target, Look, post_faults, pending_record, post_delete, post_unlock, post_by}
use Rattle.paper.specs.Sessions.{create_session, close_faults, close_session, close_by, abort_faults, abort_session}
use Rattle.paper.specs.Users.{policy_of, puk_of, tried, removed, unlocked, changed, delete_faults, delete_key, unlock_faults, unlock_key, change_faults, change_pin, use_faults, use_key}
use Rattle.paper.specs.Answer.{session_act, session_step, user_step, step}
use Rattle.paper.proofs.Forms.{both, contrary, settled, Clear}
use Rattle.laws.proofs.Bytes.{split}
use Rattle.laws.proofs.Choice.{choose, holds}
use Rattle.laws.proofs.Verdicts.{locked_at, tried_pin, tried_puk}

-- ---- numbers of a list

infixr 20 ◌&◌
pub data EachOf (P : ℕ → Type 0) : List ℕ → Type 0 where
  none_left : EachOf P []
  ◌&◌ : {n : ℕ} {ns : List ℕ} → P n → EachOf P ns → EachOf P (n ∷ ns)

-- what holds of each number of a list holds of one of them
pub one_of_lem : {P : ℕ → Type 0} {ns : List ℕ} → EachOf P ns → (m : ℕ) → Fact (one_of ns m) → P m
one_of_lem none_left m h = contrary (sym h)
one_of_lem {P} (p & w) m (inl e) = subst P (sym e) p
one_of_lem (p & w) m (inr h) = one_of_lem w m h

-- a method of which the number is known
pub is-session : (c : List ℕ) {m : ℕ} → method c ≡ m → test (one_of session_methods m) ≡ true → Fact (is_session_call c)
is-session c {m} e t = (both (is_session_call c)).0 (rw e t)

-- a session call by its method
pub record ByMethod (c : List ℕ) (P : Type 0) : Type 0 where
  pub close : method c ≡ 3 → P
  pub abort : method c ≡ 5 → P
  pub puk : method c ≡ 8 → P
  pub policy : method c ≡ 9 → P
  pub key : method c ≡ 10 → P
  pub path : method c ≡ 12 → P
  pub delete : method c ≡ 50 → P
  pub unlock : method c ≡ 51 → P

pub by_method : (c : List ℕ) {P : Type 0} → ByMethod c P → Fact (is_session_call c) → P
by_method c {P} w h =
    one_of_lem {P = λ m. method c ≡ m → P} (w.close & w.abort & w.puk & w.policy & w.key & w.path & w.delete & w.unlock & none_left) (method c) h refl

-- ---- a list of refusals, each with its number

abbrev pub numbered : List Fault → Bool
numbered [] = true
numbered ((φ gives n) ∷ fs) = leb 1 n && numbered fs

pub settled_by_number : {A : Type 0} (P : A → Type 0) (fs : List Fault) (a : ℕ → A) (b : A) → numbered fs ≡ true
    → ((n : ℕ) → 1 ≤ n → P (a n)) → (Clear fs → P b) → P (settle fs a b)
settled_by_number P [] a b e refused done = done tt
settled_by_number P ((φ gives n) ∷ fs) a b e refused done =
    let w = split (leb 1 n) (numbered fs) e in
    choose P φ (a n) (settle fs a b) (λ p. refused n (leb-true 1 n w.0)) (λ m. settled_by_number P fs a b w.1 refused (λ k. done (m, k)))

-- ---- what a session call comes to

module _ (c chip : List ℕ) (blk : List Rec) (l : Look) where
  abbrev t : ℕ
  t = subject c

  abbrev x : SessionValue
  x = itself c blk

  abbrev p : Puk
  p = puk_in c chip

  abbrev q : Policy
  q = policy_in c

  abbrev u : Rec
  u = at PUK q.puk t blk

  abbrev k : Key
  k = key_in c chip

  abbrev pol : Rec
  pol = at POLICY k.policy t blk

  abbrev z : Path
  z = path_in c

  abbrev d : Post
  d = post_in c chip

  -- a refusal, or what the method does where none of its refusals applies
  pub record ByAct (P : Act → Type 0) : Type 0 where
    pub refused : (n : ℕ) → 1 ≤ n → P (refuse n)
    pub close : method c ≡ 3 → Clear (close_faults c chip (close_in c) x blk) → P (closes (attestation x (close_attested (close_in c))))
    pub abort : method c ≡ 5 → P (inside 0 no_attestation (λ r. zeros) none)
    pub puk : method c ≡ 8 → Clear (puk_faults c chip p p.value x blk)
        → P (inside (fresh t x) no_attestation (advance t 1 1) (just (puk_record t p p.value x)))
    pub policy : method c ≡ 9 → Clear (policy_faults c chip q u x blk)
        → P (inside (fresh t x) no_attestation (advance t 1 1) (just (policy_record t q x)))
    pub key : method c ≡ 10 → Clear (key_faults c chip k (pin_of k pol) pol x blk)
        → P (inside (fresh t x) (attestation x (key_attested k)) (advance t 1 2) (just (key_record t k (pin_of k pol) x)))
    pub path : method c ≡ 12 → Clear (path_faults c chip z (at KEY z.key t blk) x)
        → P (inside 0 no_attestation (λ r. only (is KEY z.key t) (certified (SHA256 z.first)) (advance t 0 1 r)) none)
    -- 50 and 51; that it is 51 is known of session calls only
    pub post : (op : ℕ) (name : String) → 50 ≤ op → op ≤ 51 → (Fact (is_session_call c) → method c ≡ op)
        → Clear (post_faults op name c chip d x blk l) → P (inside 0 no_attestation (advance t 1 1) (just (pending_record op t d.key x)))

  pub by_act : (P : Act → Type 0) → ByAct P → P (session_act c chip blk l)
  unfolding session_act close_by abort_session make_puk_by make_policy_by make_key_by set_path_by post_by
  by_act P w =
      choose P (method c equals 3) (close_session c chip blk) _ (λ e. list (close_faults c chip (close_in c) x blk) _ refl (w.close e)) (λ n3.
      choose P (method c equals 5) (abort_session c chip) _ (λ e. list (abort_faults c chip) _ refl (λ g. w.abort e)) (λ n5.
      choose P (method c equals 8) (make_puk c chip blk) _ (λ e. list (puk_faults c chip p p.value x blk) _ refl (w.puk e)) (λ n8.
      choose P (method c equals 9) (make_policy c chip blk) _ (λ e. list (policy_faults c chip q u x blk) _ refl (w.policy e)) (λ n9.
      choose P (method c equals 10) (make_key c chip blk) _ (λ e. list (key_faults c chip k (pin_of k pol) pol x blk) _ refl (w.key e)) (λ n10.
      choose P (method c equals 12) (set_path c chip blk) _ (λ e. list (path_faults c chip z (at KEY z.key t blk) x) _ refl (w.path e)) (λ n12.
      choose P (method c equals 50) (post_delete c chip blk l) (post_unlock c chip blk l)
      (λ e. list (post_faults 50 "postDeleteKey" c chip d x blk l) _ refl (w.post 50 "postDeleteKey" (lit≤ tt) (lit≤ tt) (λ h. e)))
      (λ n50. list (post_faults 51 "postUnlockKey" c chip d x blk l) _ refl (w.post 51 "postUnlockKey" (lit≤ tt) (lit≤ tt)
      (by_method c
      (record {
        close = λ e. absurd (n3 e);
        abort = λ e. absurd (n5 e);
        puk = λ e. absurd (n8 e);
        policy = λ e. absurd (n9 e);
        key = λ e. absurd (n10 e);
        path = λ e. absurd (n12 e);
        delete = λ e. absurd (n50 e);
        unlock = λ e. e;
      }))))))))))
    where
      list : (fs : List Fault) (b : Act) → numbered fs ≡ true → (Clear fs → P b) → P (settle fs refuse b)
      list fs b e done = settled_by_number P fs refuse b e w.refused done

  -- what a method of which the number is known comes to
  pub close_act : method c ≡ 3 → session_act c chip blk l ≡ close_session c chip blk
  unfolding session_act
  close_act e = rw e

  pub puk_act : method c ≡ 8 → session_act c chip blk l ≡ make_puk c chip blk
  unfolding session_act
  puk_act e = rw e

  pub policy_act : method c ≡ 9 → session_act c chip blk l ≡ make_policy c chip blk
  unfolding session_act
  policy_act e = rw e

  pub key_act : method c ≡ 10 → session_act c chip blk l ≡ make_key c chip blk
  unfolding session_act
  key_act e = rw e

  pub path_act : method c ≡ 12 → session_act c chip blk l ≡ set_path c chip blk
  unfolding session_act
  path_act e = rw e

  pub delete_act : method c ≡ 50 → session_act c chip blk l ≡ post_delete c chip blk l
  unfolding session_act
  delete_act e = rw e

  pub unlock_act : method c ≡ 51 → session_act c chip blk l ≡ post_unlock c chip blk l
  unfolding session_act
  unlock_act e = rw e

-- ---- what a user call leaves

module _ (c chip : List ℕ) (rs : List Rec) where
  abbrev h : ℕ
  h = subject c

  abbrev key : Rec
  key = target h rs

  abbrev policy : Rec
  policy = policy_of key rs

  abbrev its_puk : Rec
  its_puk = puk_of policy rs

  pub record ByUser (P : Out → Type 0) : Type 0 where
    pub stays : (n : ℕ) → P (plain n rs)
    -- a PIN is asked of a key that has one: it has a policy, or it is there and its DeleteProtection is 1
    pub pin_wrong : (Fact (is_target h rs) × (delete_protection key ≡ 1)) ⊎ (parent key ≡ 0 → ⊥) → (Fact (locked_at (retry_limit policy) (key_errors key)) → ⊥)
        → P (plain 1 (map (pin_missed key) rs))
    pub puk_wrong : (Fact (locked_at (retry_limit its_puk) (puk_errors its_puk)) → ⊥) → P (plain 1 (map (puk_missed its_puk) rs))
    pub removes : P (plain 0 (removed h rs))
    pub removes_by_puk : P (plain 0 (removed h (map (puk_hit its_puk) rs)))
    pub unlocks : P (plain 0 (unlocked h rs))
    pub changes : Clear (change_faults c chip key policy rs) → P (plain 0 (map (changed key policy (typed_new c) rs) rs))
    pub uses : P (plain 0 (map (pin_hit key) rs))

  pub by_user : (P : Out → Type 0) → ByUser P → P (user_step c chip rs)
  unfolding user_step delete_key unlock_key change_pin use_key
  by_user P w =
      choose P (method c equals 80) (delete_key c chip rs) _ (λ e.
      settled P (delete_faults c chip key rs) (λ n. plain n rs) _ w.stays (λ g.
      choose P (delete_protection key equals 0) (plain 0 (removed h rs)) _ (λ e. w.removes) (λ n.
      choose P (delete_protection key equals 1) _ _ (λ e. pin (removed h rs) (inl (holds (is_target h rs) (search), e)) w.removes)
      (λ m. puk (removed h (map (puk_hit its_puk) rs)) w.removes_by_puk)))) (λ n80.
      choose P (method c equals 82) (unlock_key c chip rs) _ (λ e.
      settled P (unlock_faults c chip key policy its_puk rs) (λ n. plain n rs) _ w.stays (λ g. puk (unlocked h rs) w.unlocks)) (λ n82.
      choose P (method c equals 83) (change_pin c chip rs) (use_key c chip rs) (λ e.
      settled P (change_faults c chip key policy rs) (λ n. plain n rs) _ w.stays (λ g.
      pin (map (changed key policy (typed_new c) rs) rs) (inr (search)) (w.changes g))) (λ n83.
      settled P (use_faults c chip key policy rs) (λ n. plain n rs) _ w.stays (λ g.
      choose P (parent key equals 0) (plain 0 rs) _ (λ e. w.stays 0) (λ n. pin (map (pin_hit key) rs) (inr n) w.uses)))))
    where
      pin : (done : List Rec) → (Fact (is_target h rs) × (delete_protection key ≡ 1)) ⊎ (parent key ≡ 0 → ⊥) → P (plain 0 done)
          → P (tried (pin_check policy key (typed c)) rs (map (pin_missed key) rs) done)
      pin done a b = tried_pin P rs (map (pin_missed key) rs) done (w.stays 1) policy key (typed c) (w.pin_wrong a) (λ n. b)

      puk : (done : List Rec) → P (plain 0 done) → P (tried (puk_check its_puk (typed c)) rs (map (puk_missed its_puk) rs) done)
      puk done b = tried_puk P rs (map (puk_missed its_puk) rs) done (w.stays 1) its_puk (typed c) w.puk_wrong (λ n. b)

  -- ---- a step

  pub record ByStep (P : Out → Type 0) : Type 0 where
    pub session : Fact (is_session_call c) → P (session_step c chip rs)
    pub create : P (create_session c chip rs)
    pub user : P (user_step c chip rs)

  pub by_step : (P : Out → Type 0) → ByStep P → P (step c chip rs)
  unfolding step
  by_step P w =
      choose P (is_session_call c) (session_step c chip rs) _ w.session (λ n.
      choose P (method c equals 2) (create_session c chip rs) (user_step c chip rs) (λ e. w.create) (λ m. w.user))
