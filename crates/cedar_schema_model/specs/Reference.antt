-- References: names as they are written in declarations, and what they may mean.
-- Rule: references (docs/RULES.md).
use Rattle.std.specs.Prelude.{List, [], ◌∷◌, map, if◌then◌else◌, codes}
use Rattle.std.specs.List.{flat_map}
use Rattle.cedar_expr_model.specs.Name.{Text, Name}
use Rattle.cedar_expr_model.specs.Uid.{Uid}
use Rattle.cedar_expr_model.specs.Names.{is_unqualified}

-- A namespace: the parts of its name. The empty one has none.
abbrev pub Namespace : Type 0
Namespace = List Text

-- what is declared in a namespace under a word
abbrev pub name_in : Namespace → Text → Name
name_in ns word = record { path = ns; base = word }

-- the last name of the type of every action
abbrev pub action_word : Text
action_word = codes "Action"

-- the action of a namespace with this id
abbrev pub action_in : Namespace → Text → Uid
action_in ns id = record { kind = name_in ns action_word; id = id }

-- Where a reference stands: an entity type is due, a common type, or either.
pub data ReferenceKind : Type 0 where
  to_entity to_common to_either : ReferenceKind

-- A reference: the namespace that it is written in, what is due, and the name as it is written.
pub record Reference : Type 0 where
  pub namespace : Namespace
  pub kind : ReferenceKind
  pub name : Name

-- What a reference may mean: a common type or an entity type.
pub data Meant : Type 0 where
  meant_common meant_entity : Name → Meant

-- The names that are tried, in order: with a namespace the name itself; without one the name in its own namespace, and then
-- that in the empty one.
abbrev pub places : Namespace → Name → List Name
places ns n = if is_unqualified n then name_in ns n.base ∷ n ∷ [] else n ∷ []

-- what is tried at a name: where either may stand, the common type first
abbrev pub meant_at : ReferenceKind → Name → List Meant
meant_at to_entity n = meant_entity n ∷ []
meant_at to_common n = meant_common n ∷ []
meant_at to_either n = meant_common n ∷ meant_entity n ∷ []

abbrev pub candidates : Reference → List Meant
candidates r = flat_map (meant_at r.kind) (places r.namespace r.name)

-- the actions that are tried for a parent
abbrev pub action_candidates : Namespace → Uid → List Uid
action_candidates ns u = map (λ n. record { kind = n; id = u.id }) (places ns u.kind)
