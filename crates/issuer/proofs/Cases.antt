-- What an order is answered with, by cases, and how long its call is. Each builder cites these.
use mathlib.Core.Path.{◌≡◌, sym, ◌∙◌}
use mathlib.Core.Bool.{Bool, false}
use mathlib.Core.List.{List}
use Prim.Native.Nat.{ℕ, ◌+◌, ◌≤◌, ◌<◌}
use native.Mathlib.Omega.{arith}
use mathlib.Core.Logic.{inl, inr}
use lib.ListN.{length, length-append}
use borrow.Author.Tests.{le-leb, lt-leb}
use Rattle.paper.specs.Form.{Form, test, Fact}
use Rattle.paper.specs.Mac.{mac_under}
use Rattle.paper.specs.Issuing.{Issuer, issued, CloseOrder, close_call, PukOrder, puk_call, PolicyOrder, policy_call, KeyOrder, key_call, PathOrder, path_call, PostOrder, post_call}
use Rattle.paper.proofs.Forms.{both}
use Rattle.laws.proofs.CallStrings.{length-mac}
use Rattle.issuer.specs.Told.{told, LongAs, Says, Wrote}

-- a test that gives the right answer says what holds
pub says : {r : Bool} {φ : Form} → r ≡ test φ → Says r φ
says {r} {φ} e = record { answer = e; holds = λ h. (both φ).0 (sym e ∙ h) }

module _ (ordered : Form) (call out : List ℕ) where
  pub out_of_range : test ordered ≡ false → told 16 0 out ≡ issued ordered call out
  unfolding issued
  out_of_range h = rw h

  module _ {n : ℕ} (size : length call ≡ n) (f : Fact ordered) where
    pub too_long : 16384 < n → told 16 0 out ≡ issued ordered call out
    unfolding issued
    too_long l = rw ((both ordered).1 f, size, lt-leb n 16384 l)

    pub no_room : n ≤ 16384 → length out < n → told 21 0 out ≡ issued ordered call out
    unfolding issued
    no_room l s = rw ((both ordered).1 f, size, le-leb n 16384 l, lt-leb n (length out) s)

    pub written : {k : ℕ} {t : List ℕ} → n ≤ 16384 → n ≤ length out → Wrote call 0 k out t → told 0 k t ≡ issued ordered call out
    unfolding issued
    written {k} l s w =
        let e : k ≡ n = omega (arith, w.place) in
        rw ((both ordered).1 f, size, le-leb n 16384 l, le-leb n (length out) s) (λ j. told 0 (e j) (w.bytes j))

-- a length that was told, where it is past the longest call, and where it is not
pub longer : {n size : ℕ} → LongAs n size → 16384 < n → 16384 < size
longer (inl e) l = omega (arith, e, l)
longer (inr both) l = both.1

pub exact : {n size : ℕ} → LongAs n size → n ≤ 16384 → n ≡ size
exact (inl e) l = e
exact (inr both) l = omega (arith, both.0, l)

-- ---- how long a call is: head, fields and MAC

length_seal : (secret name : List ℕ) (counter : ℕ) (text : List ℕ) → length (mac_under secret name counter text) ≡ 32
unfolding mac_under
length_seal secret name counter text = length-mac _ _

pub length_close : (i : Issuer) (o : CloseOrder) → length (close_call i o) ≡ 39 + length o.nonce
unfolding close_call
length_close i o = simp (length-append, length_seal) (omega arith)

pub length_puk : (i : Issuer) (o : PukOrder) → length (puk_call i o) ≡ 43 + length o.id + length o.encrypted
unfolding puk_call
length_puk i o = simp (length-append, length_seal) (omega arith)

pub length_policy : (i : Issuer) (o : PolicyOrder) → length (policy_call i o) ≡ 52 + length o.id
unfolding policy_call
length_policy i o = simp (length-append, length_seal) (omega arith)

pub length_key : (i : Issuer) (o : KeyOrder)
    → length (key_call i o) ≡ 62 + length o.id + length o.entry_algorithm + length o.seed + length o.pin_value + length o.friendly
    + length o.key_algorithm + length o.parameters
unfolding key_call
length_key i o = simp (length-append, length_seal) (omega arith)

pub length_path : (i : Issuer) (o : PathOrder) → length (path_call i o) ≡ 42 + length o.certificates
unfolding path_call
length_path i o = simp (length-append, length_seal) (omega arith)

pub length_post : (i : Issuer) (o : PostOrder) → length (post_call i o) ≡ 43 + length o.authorization
unfolding post_call
length_post i o = simp (length-append, length_seal) (omega arith)
