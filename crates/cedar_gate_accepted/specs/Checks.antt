-- What is asked of environments one by one.
-- Rule: the acceptance rules; impossible policies (docs/RULES.md).
use Rattle.std.specs.Prelude.{◌&&◌, ◌||◌, Bool, not}
use Rattle.cedar_expr_model.specs.Table.{Table}
use Rattle.cedar_expr_names.specs.Views.{type_name_of, uid_of}
use Rattle.cedar_schema_model.specs.Environment.{Environment}
use Rattle.cedar_schema_model.specs.Schema.{Schema}
use Rattle.cedar_store_model.specs.Policy.{Policy}
use Rattle.cedar_store_parts.specs.declared.request_type.RequestType.{RequestType as CodeKind}
use Rattle.cedar_store_policies.specs.Policies.{policy_of}
use Rattle.cedar_store_policies.specs.declared.policy.Policy.{Policy as CodePolicy}
use Rattle.cedar_typechecker_model.specs.Verdicts.{RequestType, is_false, fits, is_of_request, condition_type}

-- the types of a request
abbrev pub kind_asked : CodeKind → RequestType
kind_asked k = record { principal = type_name_of k.principal; action = uid_of k.action; resource = type_name_of k.resource }

-- the environment doesn't fit, or isn't of the request's types, or gives False
abbrev pub is_excused_for : RequestType → Schema → Table → Policy → Environment → Bool
is_excused_for r s x p e = not (fits p e && is_of_request r e) || is_false (condition_type s x p e)

-- by the schema that is asked, of a policy for requests of these types
abbrev pub is_excused : {S : Type 0} → (S → Schema) → (S → Table) → S → CodeKind → CodePolicy → Environment → Bool
is_excused schema table s k p = is_excused_for (kind_asked k) (schema s) (table s) (policy_of p)
