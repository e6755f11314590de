-- What a call asks of a function's signature.
-- Rule: typing (docs/RULES.md).
use Rattle.std.specs.Prelude.{List, map, Bool, Option, option_map}
use Rattle.cedar_expr_model.specs.Tree.{CoreType}
use Rattle.cedar_expr_model.specs.Table.{Signature, is_constructor}
use Rattle.cedar_expr_values.specs.Types.{core_of}
use Rattle.cedar_typechecker_environments.specs.declared.setting.FunctionSignature.{FunctionSignature}

-- the types of its parameters, whether further arguments may follow, whether it constructs of one text, and the type of its result
pub record CallSignature : Type 0 where
  pub parameters : List CoreType
  pub is_variadic : Bool
  pub is_constructor : Bool
  pub result : Option CoreType

abbrev pub call_signature : Signature → CallSignature
call_signature f = record { parameters = f.parameters; is_variadic = f.is_variadic; is_constructor = is_constructor f; result = f.result }

abbrev pub signature_seen : FunctionSignature → CallSignature
signature_seen f = record { parameters = map core_of f.arg_types.now; is_variadic = f.is_variadic; is_constructor = f.is_constructor; result = option_map (λ t. core_of t.now) f.return_type }
