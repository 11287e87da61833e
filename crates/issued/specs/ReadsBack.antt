-- reads-back: what the issuer writes, the store reads: the method, the session, each field as ordered, the MAC that was made, and a form
-- that is refused by neither 16. So no length is wrong, and no field stands where the store would not look for it.
use Rattle.std.specs.Prelude.{◌≡◌, List, ℕ, length}
use Rattle.paper.specs.Limits.{longest_pin, longest_public_key}
use Rattle.paper.specs.Bytes.{byte, behind}
use Rattle.paper.specs.Form.{Form, ◌equals◌, ◌=<◌, ◌and◌, Fact}
use Rattle.paper.specs.Calls.{method as method_of, subject, known as known_call, flag_at, length_at, no_chip, close_in, close_form, puk_in, puk_form, policy_in, policy_form, key_in, key_form, path_in, path_form, post_in, post_form}
use Rattle.paper.specs.Issuing.{Issuer, CloseOrder, close_as, close_mac, close_call, PukOrder, puk_as, puk_mac, puk_call, PolicyOrder, policy_as, policy_mac, policy_call, KeyOrder, key_as, key_mac, key_call, PathOrder, path_as, path_mac, path_call, PostOrder, post_as, post_mac, post_call}
use Rattle.issued.specs.Meant.{close_meant, puk_meant, policy_meant, key_meant, path_meant, post_meant}

-- A call c of method m reads as meant. The form speaks of the chip bytes too, which the issuer does not write: where they have theirs,
-- the whole form holds.
pub record Reads (m : ℕ) (i : Issuer) (c : List ℕ) (A : Type 0) (read meant : A) (chip form : Form) : Type 0 where
  pub method : method_of c ≡ m
  pub session : subject c ≡ i.session
  pub fields : read ≡ meant
  pub known : Fact (known_call c)
  pub formed : Fact chip → Fact form

-- The chip bytes' own part of the forms of 8, 10, 50 and 51; the others have no chip bytes.
abbrev pub puk_chip : List ℕ → Form
puk_chip chip = 1 =< length chip and length chip =< longest_pin

abbrev pub key_chip : List ℕ → Form
key_chip chip =
    length_at 1 longest_public_key 0 chip and length_at 0 longest_pin (behind 0 chip) chip
    and behind (behind 0 chip) chip equals length chip

abbrev pub post_chip : List ℕ → Form
post_chip chip = length chip equals 1 and flag_at 0 chip

abbrev pub CloseReads : Issuer → CloseOrder → List ℕ → Type 0
CloseReads i o chip =
    let c = close_call i o in
    Reads 3 i c _ (close_in c) (close_as o (close_mac i o)) (no_chip chip) (close_form c chip)

abbrev pub PukReads : Issuer → PukOrder → List ℕ → Type 0
PukReads i o chip =
    let c = puk_call i o in
    Reads 8 i c _ (puk_in c chip) (puk_as o (puk_mac i o) chip) (puk_chip chip) (puk_form c chip)

abbrev pub PolicyReads : Issuer → PolicyOrder → List ℕ → Type 0
PolicyReads i o chip =
    let c = policy_call i o in
    Reads 9 i c _ (policy_in c) (policy_as o (policy_mac i o)) (no_chip chip) (policy_form c chip)

abbrev pub KeyReads : Issuer → KeyOrder → List ℕ → Type 0
KeyReads i o chip =
    let c = key_call i o in
    Reads 10 i c _ (key_in c chip) (key_as o (key_mac i o) chip) (key_chip chip) (key_form c chip)

abbrev pub PathReads : Issuer → PathOrder → List ℕ → Type 0
PathReads i o chip =
    let c = path_call i o in
    Reads 12 i c _ (path_in c) (path_as o (path_mac i o)) (no_chip chip) (path_form c chip)

abbrev pub PostReads : Issuer → PostOrder → List ℕ → Type 0
PostReads i o chip =
    let c = post_call i o in
    Reads o.method i c _ (post_in c chip) (post_as o (post_mac i o) (byte 0 chip)) (post_chip chip) (post_form c chip)

pub record ReadsBack : Type 0 where
  pub closes : (i : Issuer) (o : CloseOrder) → Fact (close_meant i o) → (chip : List ℕ) → CloseReads i o chip
  pub puks : (i : Issuer) (o : PukOrder) → Fact (puk_meant i o) → (chip : List ℕ) → PukReads i o chip
  pub policies : (i : Issuer) (o : PolicyOrder) → Fact (policy_meant i o) → (chip : List ℕ) → PolicyReads i o chip
  pub keys : (i : Issuer) (o : KeyOrder) → Fact (key_meant i o) → (chip : List ℕ) → KeyReads i o chip
  pub paths : (i : Issuer) (o : PathOrder) → Fact (path_meant i o) → (chip : List ℕ) → PathReads i o chip
  pub posts : (i : Issuer) (o : PostOrder) → Fact (post_meant i o) → (chip : List ℕ) → PostReads i o chip
