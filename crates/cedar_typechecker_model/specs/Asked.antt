-- What is asked of what is kept: whether one descends from another, which types of actions descend from which, and the environments.
-- Rule: descent; environments (docs/RULES.md).
use Rattle.std.specs.Prelude.{List, map, Bool, false, ◌&&◌, not, None}
use Rattle.std.specs.List.{list_any, filter, flat_map}
use Rattle.std.specs.Option.{option_map_or}
use Rattle.cedar_expr_model.specs.Name.{Name, name_eq}
use Rattle.cedar_expr_model.specs.Uid.{Uid, uid_eq}
use Rattle.cedar_schema_model.specs.Environment.{Environment}
use Rattle.cedar_schema_model.specs.Kept.{KeptAction, Kept, kept_type, kept_action, kept_ancestors}
use Rattle.cedar_typechecker_model.specs.Seen.{context_of}

-- the first is one of those that descend from the second
abbrev pub type_is_below : Kept → Name → Name → Bool
type_is_below k m n = option_map_or (λ t. list_any (name_eq m) t.descendants) (kept_type k n) false

abbrev pub action_is_below : Kept → Uid → Uid → Bool
action_is_below k u v = option_map_or (λ a. list_any (uid_eq u) a.descendants) (kept_action k v) false

-- the types of an action and of one that it descends from
pub record KindPair : Type 0 where
  pub below : Name
  pub above : Name

abbrev pub pairs_of : KeptAction → List KindPair
pairs_of a = map (λ u. record { below = u.kind; above = a.uid.kind }) a.descendants

abbrev pub is_pair : Name → Name → KindPair → Bool
is_pair m n p = name_eq m p.below && name_eq n p.above

-- among these actions one of the first type descends from one of the second
abbrev pub kind_is_below : List KeptAction → Name → Name → Bool
kind_is_below as_ m n = list_any (is_pair m n) (flat_map pairs_of as_)

-- one of these actions is of the type
abbrev pub is_kind : List KeptAction → Name → Bool
is_kind as_ n = list_any (λ a. name_eq n a.uid.kind) as_

-- the other entity types that one descends from
abbrev pub others_above : Kept → Name → List Name
others_above k n = filter (λ m. not (name_eq m n)) (kept_ancestors k n)

-- the environments of an action: each of its types of principals with each of its types of resources
abbrev pub environment_kept : KeptAction → Name → Name → Environment
environment_kept a p r = record { principal = p; action = a.uid; resource = r; context = context_of a.context; principal_slot = None; resource_slot = None }

abbrev pub environments_with : KeptAction → Name → List Environment
environments_with a p = map (environment_kept a p) a.applied.resources

abbrev pub environments_kept : KeptAction → List Environment
environments_kept a = flat_map (environments_with a) a.applied.principals
