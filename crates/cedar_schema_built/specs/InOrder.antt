-- What is kept of a schema stands in order, each once.
-- Rule: schemas; environments (docs/RULES.md).
use Rattle.std.specs.Prelude.{◌≡◌, map, true}
use Rattle.std.specs.List.{list_all}
use Rattle.std.specs.Ordering.{ordering_then}
use Rattle.std.specs.declared.cmp.Ordering.{Ordering}
use Rattle.cedar_expr_model.specs.UidOrder.{name_cmp, uid_cmp}
use Rattle.cedar_expr_model.specs.Lists.{rises}
use Rattle.cedar_schema_model.specs.Kept.{Kept, RequestKind}
use Rattle.cedar_schema_entries.specs.InOrder.{type_in_order, action_in_order}

-- The entity types stand in the order of their names, and the actions in that of their uids; so does what each of them lists.
pub record IsInOrder (k : Kept) : Type 0 where
  pub types : rises name_cmp (map (λ t. t.name) k.types) ≡ true
  pub each_type : list_all type_in_order k.types ≡ true
  pub actions : rises uid_cmp (map (λ a. a.uid) k.actions) ≡ true
  pub each_action : list_all action_in_order k.actions ≡ true

-- environments by their actions, then by the types of principals, then by those of resources
abbrev pub kind_cmp : RequestKind → RequestKind → Ordering
kind_cmp r s = ordering_then (uid_cmp r.action s.action) (ordering_then (name_cmp r.principal s.principal) (name_cmp r.resource s.resource))
