use Rattle.std.proofs.Common.{◌≡◌, map}
use Rattle.cedar_expr_model.specs.Lists.{first_found}
use Rattle.cedar_expr_names.specs.Views.{type_name_of}
use Rattle.cedar_schema_built.specs.Views.{schema_kept}
use Rattle.cedar_schema_model.specs.Unsound.{type_fault}
use Rattle.cedar_schema_sound.proofs.actions.undeclared_of.Given as goal

abbrev pub invariant-loop-ty : goal.invariant-loop-ty
invariant-loop-ty l = first_found (type_fault (schema_kept l.schema)) (map type_name_of l.ty-iterator) ≡ first_found (type_fault (schema_kept l.schema)) (map type_name_of l.fn.types)
