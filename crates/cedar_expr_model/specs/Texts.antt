-- The texts of operators, variables, core types, features and patterns.
-- Rule: texts (docs/RULES.md).
use Rattle.std.specs.Prelude.{◌==◌, [], ◌∷◌, ◌++◌, codes, if◌then◌else◌}
use Rattle.std.specs.List.{flat_map}
use Rattle.cedar_expr_model.specs.Name.{Text, name_text}
use Rattle.cedar_expr_model.specs.Uid.{escaped}
use Rattle.cedar_expr_model.specs.Pattern.{Pattern, Element, character, wildcard}
use Rattle.cedar_expr_model.specs.Restricted.{Feature, variables, template_slots, if_then_else, and_operator, or_operator, unary_operator, binary_operator, attribute_accesses, has_test, like_test, is_test}
use Rattle.cedar_expr_model.specs.Tree.{Var, principal, action, resource, context, CoreType, bool_core, long_core, string_core, set_core, record_core, entity_core, extension_core, UnaryOp, negation, minus, is_empty, BinaryOp, equal, less, less_or_equal, plus, difference, times, remainder, is_in, contains, contains_all, contains_any, get_tag, has_tag}

-- a variable is its name
abbrev pub var_text : Var → Text
var_text principal = codes "principal"
var_text action = codes "action"
var_text resource = codes "resource"
var_text context = codes "context"

-- operators as they are written, and those of methods by their names
abbrev pub unary_text : UnaryOp → Text
unary_text negation = codes "!"
unary_text minus = codes "-"
unary_text is_empty = codes "isEmpty"

abbrev pub binary_text : BinaryOp → Text
binary_text equal = codes "=="
binary_text less = codes "<"
binary_text less_or_equal = codes "<="
binary_text plus = codes "+"
binary_text difference = codes "-"
binary_text times = codes "*"
binary_text remainder = codes "%"
binary_text is_in = codes "in"
binary_text contains = codes "contains"
binary_text contains_all = codes "containsAll"
binary_text contains_any = codes "containsAny"
binary_text get_tag = codes "getTag"
binary_text has_tag = codes "hasTag"

-- an entity's type says so; an extension type is its name
abbrev pub core_text : CoreType → Text
core_text bool_core = codes "bool"
core_text long_core = codes "long"
core_text string_core = codes "string"
core_text set_core = codes "set"
core_text record_core = codes "record"
core_text (entity_core n) = codes "(entity of type `" ++ (name_text n ++ codes "`)")
core_text (extension_core n) = name_text n

-- what a restricted expression has not, as a refusal names it
abbrev pub feature_text : Feature → Text
feature_text variables = codes "variables"
feature_text template_slots = codes "template slots"
feature_text if_then_else = codes "if-then-else"
feature_text and_operator = codes "&&"
feature_text or_operator = codes "||"
feature_text (unary_operator o) = unary_text o
feature_text (binary_operator o) = binary_text o
feature_text attribute_accesses = codes "attribute accesses"
feature_text has_test = codes "'has'"
feature_text like_test = codes "'like'"
feature_text is_test = codes "'is'"

-- A pattern's text: `*` for a wildcard, a backslash before the character `*`, and any other character escaped as in a uid.
abbrev pub element_text : Element → Text
element_text wildcard = 42 ∷ []
element_text (character c) = if c == 42 then 92 ∷ 42 ∷ [] else escaped c

-- the text of a pattern, element by element
abbrev pub pattern_text : Pattern → Text
pattern_text p = flat_map element_text p
