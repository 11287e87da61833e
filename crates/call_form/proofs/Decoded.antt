-- The form by a call's own fields is the paper's form of that call.
use mathlib.Core.Path.{◌≡◌, refl}
use mathlib.Core.List.{List}
use Prim.Native.Nat.{ℕ}
use Rattle.paper.specs.Calls.{create_form, close_form, puk_form, policy_form, key_form, path_form, post_form}
use Rattle.call_fields.specs.Fields.{create_fields, close_fields, puk_fields, policy_fields, key_fields, path_fields, post_fields}
use Rattle.call_form.specs.Forms.{create_form_of, close_form_of, puk_form_of, policy_form_of, key_form_of, path_form_of, post_form_of}

module _ (c chip : List ℕ) where
  pub create_decoded : create_form_of (create_fields c) c chip ≡ create_form c chip
  create_decoded = refl

  pub close_decoded : close_form_of (close_fields c) c chip ≡ close_form c chip
  close_decoded = refl

  pub puk_decoded : puk_form_of (puk_fields c) c chip ≡ puk_form c chip
  puk_decoded = refl

  pub policy_decoded : policy_form_of (policy_fields c) c chip ≡ policy_form c chip
  policy_decoded = refl

  pub key_decoded : key_form_of (key_fields c) c chip ≡ key_form c chip
  key_decoded = refl

  pub path_decoded : path_form_of (path_fields c) c chip ≡ path_form c chip
  path_decoded = refl

  pub post_decoded : post_form_of (post_fields c) c chip ≡ post_form c chip
  post_decoded = refl
