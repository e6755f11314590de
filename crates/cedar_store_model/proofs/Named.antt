-- Names for steps of the meaning that proofs take apart.
use Rattle.std.proofs.Common.{List, Option, Bool, map}
use Rattle.std.specs.Prelude.{Some, option_map, ◌==◌}
use Rattle.std.specs.Option.{option_map_or}
use Rattle.cedar_expr_model.specs.Name.{Text, Name}
use Rattle.cedar_expr_model.specs.Uid.{Uid}
use Rattle.cedar_expr_model.specs.Value.{V, prim, entity}
use Rattle.cedar_expr_model.specs.Tree.{Tree, Trees, lit, principal, resource, SlotId, principal_slot, resource_slot}
use Rattle.cedar_expr_model.specs.Builder.{trees}
use Rattle.cedar_expr_model.specs.Shape.{slot_rank}
use Rattle.cedar_store_model.specs.Policy.{Policy, scope_tree}
use Rattle.cedar_expr_model.specs.Table.{Table, Signature}
use Rattle.cedar_store_model.specs.Outcome.{Res, val, err, no_function}
use Rattle.cedar_expr_model.specs.ValueParts.{Part}
use Rattle.cedar_store_model.specs.World.{World, Entity}
use Rattle.cedar_store_model.specs.Reads.{part_read, part_tested, tag_asked}
use Rattle.cedar_store_model.specs.Operators.{called_with}

-- the value that is there, and the uid
abbrev pub bound_value : Option V → Option (Res V)
bound_value o = option_map val o

abbrev pub known_uid : Option Uid → Option (Res V)
known_uid o = option_map (λ u. val (prim (entity u))) o

-- the two lists of an entity
abbrev pub attributes_of : Entity V → List (Text × Part V)
attributes_of e = e.attributes

abbrev pub tags_of : Entity V → List (Text × Part V)
tags_of e = e.tags

-- a tag that is read, and one that is asked for
abbrev pub tag_read : World → V → V → Option (Res V)
tag_read w v x = tag_asked (part_read tags_of) w v x

abbrev pub tag_tested : World → V → V → Option (Res V)
tag_tested w v x = tag_asked (part_tested tags_of) w v x

-- a call of a function that the table has or has not
abbrev pub called_of : Table → (Text → Option V) → Name → List V → Option Signature → Option (Res V)
called_of x unknowns f vs o = option_map_or (called_with x unknowns f vs) o (Some (err no_function))

-- the parts of a scope as expressions
abbrev pub principal_tree : Policy → Tree
principal_tree p = scope_tree principal principal_slot p.principal

abbrev pub resource_tree : Policy → Tree
resource_tree p = scope_tree resource resource_slot p.resource

abbrev pub uid_trees : List Uid → Trees
uid_trees us = trees (map (λ u. lit (entity u)) us)

-- whether two slots are the same
abbrev pub slot_eq : SlotId → SlotId → Bool
slot_eq s r = slot_rank s == slot_rank r
