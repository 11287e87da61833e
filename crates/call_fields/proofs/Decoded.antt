-- An object by a call's own fields is the paper's object of that call.
use mathlib.Core.Path.{◌≡◌, refl}
use mathlib.Core.List.{List}
use Prim.Native.Nat.{ℕ}
use Rattle.paper.specs.Calls.{puk_in, policy_in, key_in}
use Rattle.call_fields.specs.Fields.{puk_fields, puk_of, policy_fields, policy_of, key_fields, key_of}

pub puk_decoded : (c chip : List ℕ) → puk_of (puk_fields c) c chip ≡ puk_in c chip
puk_decoded c chip = refl

pub policy_decoded : (c : List ℕ) → policy_of (policy_fields c) c ≡ policy_in c
policy_decoded c = refl

pub key_decoded : (c chip : List ℕ) → key_of (key_fields c) c chip ≡ key_in c chip
key_decoded c chip = refl
