use Rattle.std.proofs.Common.{◌≡◌, map}
use Rattle.cedar_expr_names.specs.Views.{type_name_of}
use Rattle.cedar_schema_model.specs.Join.{names_of_both}
use Rattle.cedar_schema_types.specs.Unions.{members_of}
use Rattle.cedar_schema_types.proofs.entity_lub.EntityLUB.union.Given as goal

abbrev pub invariant-loop-ty : goal.invariant-loop-ty
invariant-loop-ty l = names_of_both (map type_name_of l.ty-iterator.iter) (map type_name_of l.lub_elements.keys) ≡ names_of_both (members_of l.self) (members_of l.other)
