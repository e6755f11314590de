-- Names with and without a namespace, and names that hold no reserved part.
-- Rule: identifiers and names (docs/RULES.md).
use Rattle.std.specs.Prelude.{List, [], ◌∷◌, ◌++◌, Bool, Option, Some, None, if◌then◌else◌}
use Rattle.std.specs.Option.{option_map_or}
use Rattle.cedar_expr_model.specs.Name.{Text, Name, reserved, is_reserved, name_read, name_of_parts}
use Rattle.cedar_expr_model.specs.Lists.{is_nil}

-- whether a name is of one identifier
abbrev pub is_unqualified : Name → Bool
is_unqualified n = is_nil n.path

-- the name of one identifier
abbrev pub unqualified : Text → Name
unqualified base = record { path = []; base = base }

-- the namespace of a name, if it has one
abbrev pub namespace_of : Name → Option Name
namespace_of n = name_of_parts [] n.path

-- the name of this base in a namespace
abbrev pub within : Name → Text → Name
within space base = record { path = space.path ++ space.base ∷ []; base = base }

-- The name in a namespace, if there is one: a name that has a namespace already stays as it is.
abbrev pub qualified : Option Name → Name → Name
qualified None n = n
qualified (Some space) n = if is_unqualified n then within space n.base else n

-- what a name that is written in a namespace may stand for, in order: itself in that namespace, and then itself
abbrev pub possibilities : Option Name → Name → List Name
possibilities None n = n ∷ []
possibilities (Some space) n = if is_unqualified n then within space n.base ∷ n ∷ [] else n ∷ []

-- the name `__cedar`
abbrev pub cedar_name : Name
cedar_name = unqualified reserved

-- What a text gives where a name without a reserved part is due: the name, the reserved name that it writes, or neither.
pub data NameRead : Type 0 where
  name_given reserved_given : Name → NameRead
  nothing_given : NameRead

-- what a text gives where a name without a reserved part is due
abbrev pub unreserved_read : Text → NameRead
unreserved_read text = option_map_or (λ n. if is_reserved n then reserved_given n else name_given n) (name_read text) nothing_given
