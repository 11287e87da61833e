-- A decoded call as the code keeps it: the paper's numbers, and the paper's places of strings, by value. `end` is where the
-- fields end, which the call's form compares with its length.
use Rattle.std.specs.Prelude.{List, [], ℕ, ◌+◌}
use Rattle.paper.specs.Limits.{mac_bytes}
use Rattle.paper.specs.Bytes.{byte, part, string_at, behind}
use Rattle.paper.specs.Calls.{server_at, ephemeral_at, issuer_at, management_at, times_at, behind_id, puk_rules_at, seed_at, policy_at, friendly_at, key_algorithm_at, parameters_at, endorsed_at, path_end, create_in, Puk, puk_in, Policy, policy_in, Key, key_in, path_in, post_in}
use Rattle.call_fields.specs.declared.CreateFields.{CreateFields}
use Rattle.call_fields.specs.declared.CloseFields.{CloseFields}
use Rattle.call_fields.specs.declared.PukFields.{PukFields}
use Rattle.call_fields.specs.declared.PolicyFields.{PolicyFields}
use Rattle.call_fields.specs.declared.KeyFields.{KeyFields}
use Rattle.call_fields.specs.declared.PathFields.{PathFields}
use Rattle.call_fields.specs.declared.PostFields.{PostFields}
use Rattle.call_fields.specs.declared.TypedFields.{TypedFields}

abbrev pub create_fields : List ℕ → CreateFields
create_fields c =
    record {
      privacy = (create_in c []).privacy;
      server = server_at c;
      ephemeral = ephemeral_at c;
      issuer = issuer_at c;
      management = management_at c;
      times = times_at c;
      limit = (create_in c []).limit;
      end = times_at c + 10;
    }

abbrev pub close_fields : List ℕ → CloseFields
close_fields c = record { mac = behind 5 c; end = behind 5 c + mac_bytes }

abbrev pub puk_fields : List ℕ → PukFields
puk_fields c =
    record {
      encrypted = behind_id c;
      format = (puk_in c []).format;
      retry = (puk_in c []).retry;
      mac = puk_rules_at c + 2;
      end = puk_rules_at c + 2 + mac_bytes;
    }

-- The PUK of method 8 by its decoded fields: of `puk_fields c` it is `puk_in c chip`.
abbrev pub puk_of : PukFields → List ℕ → List ℕ → Puk
puk_of q c chip =
    record {
      id = (puk_in c chip).id;
      encrypted = string_at q.encrypted c;
      format = q.format;
      retry = q.retry;
      mac = part q.mac mac_bytes c;
      value = chip;
    }

abbrev pub policy_fields : List ℕ → PolicyFields
policy_fields c =
    record {
      puk = (policy_in c).puk;
      defined = (policy_in c).defined;
      modifiable = (policy_in c).modifiable;
      format = (policy_in c).format;
      retry = (policy_in c).retry;
      grouping = (policy_in c).grouping;
      patterns = (policy_in c).patterns;
      min = (policy_in c).min_length;
      max = (policy_in c).max_length;
      input = (policy_in c).input;
      mac = behind_id c + 13;
      end = behind_id c + 13 + mac_bytes;
    }

-- The same for the policy of method 9.
abbrev pub policy_of : PolicyFields → List ℕ → Policy
policy_of q c =
    record {
      id = (policy_in c).id;
      puk = q.puk;
      defined = q.defined;
      modifiable = q.modifiable;
      format = q.format;
      retry = q.retry;
      grouping = q.grouping;
      patterns = q.patterns;
      min_length = q.min;
      max_length = q.max;
      input = q.input;
      mac = part q.mac mac_bytes c;
    }

abbrev pub key_fields : List ℕ → KeyFields
key_fields c =
    record {
      entry = behind_id c;
      seed = seed_at c;
      policy = (key_in c []).policy;
      pin = policy_at c + 4;
      caching = (key_in c []).caching;
      biometric = (key_in c []).biometric;
      export = (key_in c []).export;
      deletion = (key_in c []).deletion;
      usage = (key_in c []).usage;
      friendly = friendly_at c;
      algorithm = key_algorithm_at c;
      parameters = parameters_at c;
      endorsed = (key_in c []).endorsed;
      mac = endorsed_at c + 2;
      end = endorsed_at c + 2 + mac_bytes;
    }

-- The same for the key of method 10.
abbrev pub key_of : KeyFields → List ℕ → List ℕ → Key
key_of q c chip =
    record {
      id = (key_in c chip).id;
      entry_algorithm = string_at q.entry c;
      seed = string_at q.seed c;
      policy = q.policy;
      pin_value = string_at q.pin c;
      caching = q.caching;
      biometric = q.biometric;
      export = q.export;
      deletion = q.deletion;
      usage = q.usage;
      friendly = string_at q.friendly c;
      key_algorithm = string_at q.algorithm c;
      parameters = string_at q.parameters c;
      endorsed = q.endorsed;
      mac = part q.mac mac_bytes c;
      public = (key_in c chip).public;
      opened = (key_in c chip).opened;
    }

abbrev pub path_fields : List ℕ → PathFields
path_fields c = record { key = (path_in c).key; count = byte 9 c; mac = path_end c; end = path_end c + mac_bytes }

abbrev pub post_fields : List ℕ → PostFields
post_fields c = record { key = (post_in c []).key; mac = behind 9 c; end = behind 9 c + mac_bytes }

abbrev pub typed_fields : List ℕ → TypedFields
typed_fields c = record { second = behind 5 c; end = behind (behind 5 c) c }
