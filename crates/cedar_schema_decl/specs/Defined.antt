-- What is declared, as three sets, and what a name means by them.
-- Rule: references (docs/RULES.md).
use Rattle.std.specs.Prelude.{List, [], ◌∷◌, map, Bool, Option, Some, None, find}
use Rattle.std.specs.List.{list_any}
use Rattle.std.specs.Option.{option_map_or}
use Rattle.std.specs.Ordering.{match_ordering}
use Rattle.std.specs.declared.result.Result.{Result}
use Rattle.std.specs.declared.result.Result.TheVariants.{Ok, Err}
use Rattle.cedar_expr_model.specs.Name.{Name, name_eq}
use Rattle.cedar_expr_model.specs.UidOrder.{uid_cmp}
use Rattle.cedar_expr_model.specs.Uid.{Uid, uid_eq}
use Rattle.cedar_expr_names.specs.Views.{name_of, uid_of}
use Rattle.cedar_schema_model.specs.Join.{name_inserted}
use Rattle.cedar_schema_model.specs.Reference.{ReferenceKind, Meant, meant_common, meant_entity, meant_at}
use Rattle.cedar_schema_decl.specs.Conditional.{Conditional, may_mean}
use Rattle.cedar_schema_decl.specs.declared.all_defs.AllDefs.{AllDefs}

-- The names of the common types and of the entity types, and the actions. Each rises, so none is repeated.
pub record Defined : Type 0 where
  pub commons : List Name
  pub entities : List Name
  pub actions : List Uid

abbrev pub defined_of : AllDefs → Defined
defined_of d = record { commons = map name_of d.common_defs.keys; entities = map name_of d.entity_defs.keys; actions = map uid_of d.action_defs.keys }

abbrev pub nothing_defined : Defined
nothing_defined = record { commons = []; entities = []; actions = [] }

-- whether this is declared
abbrev pub is_defined : Defined → Meant → Bool
is_defined d (meant_common n) = list_any (name_eq n) d.commons
is_defined d (meant_entity n) = list_any (name_eq n) d.entities

abbrev pub is_defined_action : Defined → Uid → Bool
is_defined_action d u = list_any (uid_eq u) d.actions

-- whether a type of this name is declared, of the kind that is due
abbrev pub tells : Defined → ReferenceKind → Name → Bool
tells d k n = list_any (is_defined d) (meant_at k n)

-- What a name means: the first of what it may mean that is declared.
abbrev pub meant_by : Defined → Conditional → Option Meant
meant_by d c = find (is_defined d) (may_mean c)

abbrev pub meant_name : Meant → Name
meant_name (meant_common n) = n
meant_name (meant_entity n) = n

-- the name that is meant; a name that means nothing is refused
abbrev pub resolved : Defined → Conditional → Result Name Conditional
resolved d c = option_map_or (λ m. Ok (meant_name m)) (meant_by d c) (Err c)

-- the name that is meant, whatever is due, as a name tells what is due itself; a name that means nothing is refused
abbrev pub resolving : Defined → ReferenceKind → Conditional → Result Name Conditional
resolving d k c = resolved d c

-- the uids with one more, in its place
abbrev pub uid_inserted : Uid → List Uid → List Uid
uid_inserted u [] = u ∷ []
uid_inserted u (v ∷ vs) = match_ordering (uid_cmp u v) (u ∷ v ∷ vs) (v ∷ vs) (v ∷ uid_inserted u vs)

-- what is declared, with one more common type, entity type or action
abbrev pub with_common : Name → Defined → Defined
with_common n d = record d { commons = name_inserted n d.commons }

abbrev pub with_entity : Name → Defined → Defined
with_entity n d = record d { entities = name_inserted n d.entities }

abbrev pub with_action : Uid → Defined → Defined
with_action u d = record d { actions = uid_inserted u d.actions }
