-- What is left to the iterators over a schema.
-- Rule: schemas (docs/RULES.md).
use Rattle.std.specs.Prelude.{◌++◌, List, [], map, not}
use Rattle.std.specs.List.{filter}
use Rattle.std.specs.Option.{option_map_or}
use Rattle.std.specs.Slice.Iter.{iter_rest}
use Rattle.cedar_expr_model.specs.Name.{Name}
use Rattle.cedar_expr_model.specs.Uid.{Uid}
use Rattle.cedar_expr_model.specs.Lists.{is_nil}
use Rattle.cedar_expr_names.specs.Views.{type_name_of}
use Rattle.cedar_schema_entries.specs.Views.{entity_type_seen, action_seen}
use Rattle.cedar_schema_model.specs.Kept.{applies_to, Elsewhere, types_elsewhere, actions_elsewhere}
use Rattle.cedar_schema_built.specs.declared.iterators.Ancestors.{Ancestors}
use Rattle.cedar_schema_built.specs.declared.iterators.ActionGroups.{ActionGroups}
use Rattle.cedar_schema_built.specs.declared.iterators.ActionsFor.{ActionsFor}
use Rattle.cedar_schema_built.specs.declared.unresolved.UnresolvedDeclarations.{UnresolvedDeclarations}

abbrev pub ancestors_left : Ancestors → List Name
ancestors_left i = option_map_or (λ r. map type_name_of (iter_rest r)) i.row []

abbrev pub groups_left : ActionGroups → List Uid
groups_left i = map (λ a. a.uid) (filter (λ a. not (is_nil a.descendants)) (map action_seen i.actions))

abbrev pub actions_left : ActionsFor → List Uid
actions_left i = map (λ a. a.uid) (filter (applies_to (type_name_of i.principal.now) (type_name_of i.resource.now)) (map action_seen i.actions))

abbrev pub unresolved_left : UnresolvedDeclarations → List Elsewhere
unresolved_left i = types_elsewhere (map entity_type_seen i.types) ++ actions_elsewhere (map action_seen i.actions)
