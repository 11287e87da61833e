-- The forms of the calls on a session over their decoded fields: of a call's own fields each is the paper's form (proofs/Decoded.antt).
use Rattle.std.specs.Prelude.{List, ℕ, length}
use Rattle.paper.specs.Limits.{longest_pin, longest_public_key, key_bytes, longest_server_key, longest_management_key, longest_uri, longest_nonce, longest_encrypted, longest_pin_value, longest_seed, longest_name, longest_parameters, longest_authorization}
use Rattle.paper.specs.Bytes.{behind}
use Rattle.paper.specs.Form.{Form, ◌equals◌, ◌=<◌, ◌and◌}
use Rattle.paper.specs.Calls.{flag_at, length_at, id_at, no_chip, filled_at}
use Rattle.call_fields.specs.declared.CreateFields.{CreateFields}
use Rattle.call_fields.specs.declared.CloseFields.{CloseFields}
use Rattle.call_fields.specs.declared.PukFields.{PukFields}
use Rattle.call_fields.specs.declared.PolicyFields.{PolicyFields}
use Rattle.call_fields.specs.declared.KeyFields.{KeyFields}
use Rattle.call_fields.specs.declared.PathFields.{PathFields}
use Rattle.call_fields.specs.declared.PostFields.{PostFields}

abbrev pub create_form_of : CreateFields → List ℕ → List ℕ → Form
create_form_of q c chip =
    q.privacy =< 1 and id_at q.server c
    and length_at 1 longest_server_key q.ephemeral c and length_at 1 longest_uri q.issuer c
    and length_at 0 longest_management_key q.management c and q.end equals length c
    and id_at key_bytes chip and behind key_bytes chip equals length chip

abbrev pub close_form_of : CloseFields → List ℕ → List ℕ → Form
close_form_of q c chip = length_at 1 longest_nonce 5 c and q.end equals length c and no_chip chip

abbrev pub puk_form_of : PukFields → List ℕ → List ℕ → Form
puk_form_of q c chip =
    id_at 5 c and length_at 1 longest_encrypted q.encrypted c and q.end equals length c
    and 1 =< length chip and length chip =< longest_pin

abbrev pub policy_form_of : PolicyFields → List ℕ → List ℕ → Form
policy_form_of q c chip =
    id_at 5 c and q.defined =< 1 and q.modifiable =< 1
    and q.end equals length c and no_chip chip

-- The clauses of method 10 that speak of the chip bytes alone.
abbrev pub key_chip : List ℕ → Form
key_chip chip =
    length_at 1 longest_public_key 0 chip and length_at 0 longest_pin (behind 0 chip) chip
    and behind (behind 0 chip) chip equals length chip

abbrev pub key_form_of : KeyFields → List ℕ → List ℕ → Form
key_form_of q c chip =
    id_at 5 c and length_at 0 longest_seed q.seed c and length_at 0 longest_pin_value q.pin c
    and q.caching =< 1 and length_at 0 longest_name q.friendly c and length_at 0 longest_parameters q.parameters c
    and q.end equals length c and key_chip chip

abbrev pub path_form_of : PathFields → List ℕ → List ℕ → Form
path_form_of q c chip = 1 =< q.count and filled_at q.count 10 c and q.end equals length c and no_chip chip

abbrev pub post_form_of : PostFields → List ℕ → List ℕ → Form
post_form_of q c chip =
    length_at 1 longest_authorization 9 c and q.end equals length c
    and length chip equals 1 and flag_at 0 chip
