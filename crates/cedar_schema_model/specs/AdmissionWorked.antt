-- The functions and expressions of the worked examples on restricted expressions.
-- Rule: values of a type; restricted expressions (docs/RULES.md).
use Rattle.std.specs.Prelude.{pos, List, [], ◌∷◌, codes, Bool, true, false, Some, None}
use Rattle.cedar_expr_model.specs.Name.{Text, Name}
use Rattle.cedar_expr_model.specs.Table.{Signature, function_style}
use Rattle.cedar_expr_model.specs.Tree.{string_core, extension_core, long_core, Tree, lit, unknown, call, set_literal, record_literal, no_trees, tree, no_tree_fields, tree_field}
use Rattle.cedar_expr_model.specs.Value.{long, text}
use Rattle.cedar_schema_model.specs.TypeWorked.{plain_name, decimal}

-- `decimal` makes decimals of texts, and `size` a number
abbrev pub functions : List Signature
functions =
    record { name = decimal; style = function_style; parameters = string_core ∷ []; is_variadic = false; result = Some (extension_core decimal) }
    ∷ record { name = plain_name (codes "size"); style = function_style; parameters = string_core ∷ []; is_variadic = false; result = Some long_core } ∷ []

abbrev pub called_on_text : Name → Tree
called_on_text f = call f (tree (lit (text (codes "1.5"))) no_trees)

abbrev pub a_decimal : Tree
a_decimal = called_on_text decimal

abbrev pub a_size : Tree
a_size = called_on_text (plain_name (codes "size"))

-- a function that isn't there
abbrev pub stray_name : Name
stray_name = plain_name (codes "ip")

abbrev pub stray : Tree
stray = called_on_text stray_name

abbrev pub one_tree : Tree
one_tree = lit (long (pos 1))

abbrev pub an_unknown : Tree
an_unknown = unknown (codes "u") (Some long_core)

abbrev pub pair_of : Tree → Tree → Tree
pair_of e f = set_literal (tree e (tree f no_trees))

abbrev pub empty_set : Tree
empty_set = set_literal no_trees

abbrev pub just : Text → Tree → Tree
just a e = record_literal (tree_field a e no_tree_fields)

abbrev pub empty_record : Tree
empty_record = record_literal no_tree_fields
