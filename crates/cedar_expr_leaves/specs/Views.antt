-- What names of a schema hold before they are resolved, as the model's names.
use Rattle.std.specs.Prelude.{List, map, Option}
use Rattle.cedar_expr_model.specs.Name as model
use Rattle.cedar_expr_names.specs.Views.{name_of, name_loc}
use Rattle.cedar_expr_names.specs.declared.loc.Loc.{Loc}
use Rattle.cedar_expr_leaves.specs.declared.raw_name.RawName.{RawName}
use Rattle.cedar_expr_leaves.specs.declared.conditional_name.ConditionalName.{ConditionalName}
use Rattle.cedar_expr_leaves.specs.declared.conditional_name.ReferenceType.{ReferenceType}

-- the name as it is written, and its place
abbrev pub raw_name_of : RawName → model.Name
raw_name_of n = name_of n.0

abbrev pub raw_name_loc : RawName → Option Loc
raw_name_loc n = name_loc n.0

-- what a conditional name may stand for, in order, and with which places
abbrev pub possible_names : ConditionalName → List model.Name
possible_names c = map name_of c.possibilities.items

abbrev pub possible_places : ConditionalName → List (Option Loc)
possible_places c = map name_loc c.possibilities.items

-- the name as it is written, its place, and what it refers to
abbrev pub written_name : ConditionalName → model.Name
written_name c = raw_name_of c.raw

abbrev pub written_place : ConditionalName → Option Loc
written_place c = raw_name_loc c.raw

abbrev pub referred : ConditionalName → ReferenceType
referred c = c.reference_type
