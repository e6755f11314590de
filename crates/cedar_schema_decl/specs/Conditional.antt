-- Names that may stand for one of several.
-- Rule: references (docs/RULES.md).
use Rattle.std.specs.Prelude.{List, Option}
use Rattle.std.specs.List.{flat_map}
use Rattle.std.specs.declared.result.Result.{Result}
use Rattle.std.specs.declared.result.Result.TheVariants.{Ok}
use Rattle.cedar_expr_model.specs.Name.{Name}
use Rattle.cedar_expr_model.specs.Names.{possibilities}
use Rattle.cedar_schema_model.specs.Reference.{ReferenceKind, to_entity, to_common, to_either, Meant, meant_at}
use Rattle.cedar_expr_leaves.specs.Views.{possible_names, written_name, referred}
use Rattle.cedar_expr_leaves.specs.declared.conditional_name.ConditionalName.{ConditionalName}
use Rattle.cedar_expr_leaves.specs.declared.conditional_name.ReferenceType.{ReferenceType}
use Rattle.cedar_expr_leaves.specs.declared.conditional_name.ReferenceType.TheVariants.{Common, Entity, CommonOrEntity}

-- A name as it is written, the names that it may stand for, in order, and what is due where it stands.
pub record Conditional : Type 0 where
  pub written : Name
  pub names : List Name
  pub kind : ReferenceKind

-- what is due
abbrev pub kind_of : ReferenceType → ReferenceKind
kind_of Common = to_common
kind_of Entity = to_entity
kind_of CommonOrEntity = to_either

abbrev pub conditional_of : ConditionalName → Conditional
conditional_of c = record { written = written_name c; names = possible_names c; kind = kind_of (referred c) }

-- the name that is written in a namespace, if there is one, where this is due
abbrev pub conditional_in : Option Name → ReferenceKind → Name → Conditional
conditional_in space k n = record { written = n; names = possibilities space n; kind = k }

-- no name is refused there
abbrev pub qualifying : Option Name → ReferenceKind → Name → Result Conditional Conditional
qualifying space k n = Ok (conditional_in space k n)

-- what it may mean, in order
abbrev pub may_mean : Conditional → List Meant
may_mean c = flat_map (meant_at c.kind) c.names
