-- Which pairs of entity types there are.
-- Rule: descent (docs/RULES.md).
use Rattle.std.specs.Prelude.{Bool, false, ◌≡◌, ◌&&◌, ◌||◌, List}
use Rattle.std.specs.BTreeMap.{get}
use Rattle.std.specs.BTreeSet.{contains}
use Rattle.std.specs.Cmp.Lexicographic.{slice_cmp}
use Rattle.std.specs.List.{list_any}
use Rattle.std.specs.Option.{option_map_or}
use Rattle.std.specs.Ordering.{nat_cmp}
use Rattle.std.specs.declared.cmp.Ordering.{Ordering}
use Rattle.cedar_expr_model.specs.Name.{name_eq}
use Rattle.cedar_expr_names.specs.Views.{name_bytes, type_name_of}
use Rattle.cedar_expr_names.specs.declared.entity.EntityType.{EntityType}
use Rattle.cedar_typechecker.specs.declared.type_pairs.TypePairs.{TypePairs}
use Rattle.cedar_typechecker_model.specs.Asked.{KindPair, is_pair}

-- the order of entity types in a map
abbrev pub types_by : EntityType → EntityType → Ordering
types_by s t = slice_cmp nat_cmp (name_bytes s.0.internal) (name_bytes t.0.internal)

-- the second stands under the first
abbrev pub has_pair : TypePairs → EntityType → EntityType → Bool
has_pair p q r = option_map_or (λ row. contains types_by row r) (get types_by p.rows q) false

-- The pairs gain those that the test finds.
abbrev pub GainsPairs : (EntityType → EntityType → Bool) → TypePairs → TypePairs → Type 0
GainsPairs test old new = (q r : EntityType) → has_pair new q r ≡ (test q r || has_pair old q r)

-- whether the types are these two, and whether they are a pair of these
abbrev pub are_types : EntityType → EntityType → EntityType → EntityType → Bool
are_types first second q r = name_eq (type_name_of q) (type_name_of first) && name_eq (type_name_of r) (type_name_of second)

abbrev pub are_among : List KindPair → EntityType → EntityType → Bool
are_among ps q r = list_any (is_pair (type_name_of q) (type_name_of r)) ps
