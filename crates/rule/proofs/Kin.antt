-- An edited record is kin to what it was: the fields by which records refer to each other are the same.
use mathlib.Core.Path.{◌≡◌, refl}
use mathlib.Core.Logic.{◌⊎◌, inl, inr}
use mathlib.Core.Bool.{Bool, false}
use Prim.Native.Nat.{ℕ, ◌≤◌}
use native.Mathlib.Omega.{arith}
use Rattle.paper.specs.Limits.{id_width}
use Rattle.paper.specs.Bytes.{part}
use Rattle.paper.specs.Form.{Rec}
use Rattle.paper.specs.Records.{kind, SESSION, PUK, POLICY, KEY, PENDING, COUNTER, CLOSED, own, session, parent, state, next_object, key_management, delete_protection, operation}
use Rattle.laws.proofs.Places.{Same, hit, four_kept, part_kept}

pub record Kin (x x' : Rec) : Type 0 where
  pub kind= : kind x' ≡ kind x
  -- the counter's number, which is no handle, may grow
  pub own= : kind x ≤ PENDING → own x' ≡ own x
  pub more : own x ≤ own x'
  pub session= : session x' ≡ session x
  pub id= : part 16 id_width x' ≡ part 16 id_width x
  pub client= : kind x ≡ SESSION → part 49 id_width x' ≡ part 49 id_width x
  pub managed= : kind x ≡ SESSION → key_management x' ≡ key_management x
  pub next≤ : kind x ≡ SESSION → next_object x ≤ next_object x'
  pub stays_closed : kind x ≡ SESSION → state x ≡ CLOSED → state x' ≡ CLOSED
  pub policy= : kind x ≡ POLICY → x' ≡ x
  pub parent= : kind x ≡ KEY → parent x' ≡ parent x
  pub protection= : kind x ≡ KEY → delete_protection x' ≡ delete_protection x
  pub operation= : kind x ≡ PENDING → operation x' ≡ operation x
  -- a pending keeps its target or becomes stale
  pub target= : kind x ≡ PENDING → (parent x' ≡ parent x) ⊎ (parent x' ≡ 0)

pub kin_same : (x x' : Rec) → x' ≡ x → Kin x x'
kin_same x x' e =
    rw e (record {
      kind= = refl;
      own= = λ k. refl;
      more = omega arith;
      session= = refl;
      id= = refl;
      client= = λ k. refl;
      managed= = λ k. refl;
      next≤ = λ k. omega arith;
      stays_closed = λ k h. h;
      policy= = λ k. refl;
      parent= = λ k. refl;
      protection= = λ k. refl;
      operation= = λ k. refl;
      target= = λ k. inl refl;
    })

-- by the places that an edit touches: kind, session and ID are never among them
module _ (touched : ℕ → Bool)
    (x x' : Rec) (same : Same touched x x') (head : touched 0 ≡ false) (sess : hit touched 8 4 ≡ false) (name : hit touched 16 33 ≡ false) where
  -- what the record's kind asks besides
  made : (own x ≤ own x') → (kind x ≤ PENDING → own x' ≡ own x)
      → (kind x ≡ SESSION → (part 49 id_width x' ≡ part 49 id_width x) × (key_management x' ≡ key_management x) × (next_object x ≤ next_object x') × (state x ≡ CLOSED → state x' ≡ CLOSED))
      → (kind x ≡ POLICY → x' ≡ x)
      → (kind x ≡ KEY → (parent x' ≡ parent x) × (delete_protection x' ≡ delete_protection x))
      → (kind x ≡ PENDING → (operation x' ≡ operation x) × (parent x' ≡ 0))
      → Kin x x'
  made more own= session policy key pending =
      record {
        kind= = same.at 0 head;
        own= = own=;
        more = more;
        session= = four_kept touched x x' same 8 sess;
        id= = part_kept touched x x' same 16 33 name;
        client= = λ k. (session k).0;
        managed= = λ k. (session k).1;
        next≤ = λ k. (session k).2;
        stays_closed = λ k. (session k).3;
        policy= = policy;
        parent= = λ k. (key k).0;
        protection= = λ k. (key k).1;
        operation= = λ k. (pending k).0;
        target= = λ k. inr (pending k).1;
      }

  module _ (handle : hit touched 4 4 ≡ false) where
    own_kept : own x' ≡ own x
    own_kept = four_kept touched x x' same 4 handle

    not_less : own x ≤ own x'
    not_less = rw own_kept (omega arith)

    pub kin_key : kind x ≡ KEY → hit touched 12 4 ≡ false → touched 3 ≡ false → Kin x x'
    kin_key k p d =
        made not_less (λ h. own_kept) (λ a. absurd (omega arith)) (λ a. absurd (omega arith))
        (λ a. (four_kept touched x x' same 12 p, same.at 3 d)) (λ a. absurd (omega arith))

    pub kin_puk : kind x ≡ PUK → Kin x x'
    kin_puk k =
        made not_less (λ h. own_kept) (λ a. absurd (omega arith)) (λ a. absurd (omega arith)) (λ a. absurd (omega arith)) (λ a. absurd (omega arith))

    pub kin_pending : kind x ≡ PENDING → touched 1 ≡ false → parent x' ≡ 0 → Kin x x'
    kin_pending k t p =
        made not_less (λ h. own_kept) (λ a. absurd (omega arith)) (λ a. absurd (omega arith)) (λ a. absurd (omega arith))
        (λ a. (same.at 1 t, p))

    pub kin_session : kind x ≡ SESSION → hit touched 49 33 ≡ false → touched 119 ≡ false
        → next_object x ≤ next_object x' → (state x ≡ CLOSED → state x' ≡ CLOSED) → Kin x x'
    kin_session k c m n t =
        made not_less (λ h. own_kept) (λ a. (part_kept touched x x' same 49 33 c, same.at 119 m, n, t))
        (λ a. absurd (omega arith)) (λ a. absurd (omega arith)) (λ a. absurd (omega arith))

  pub kin_counter : kind x ≡ COUNTER → own x ≤ own x' → Kin x x'
  kin_counter k o =
      made o (λ h. absurd (omega arith)) (λ a. absurd (omega arith)) (λ a. absurd (omega arith)) (λ a. absurd (omega arith))
      (λ a. absurd (omega arith))
