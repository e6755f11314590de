-- Reading expressions: each is what the builder makes of what is written.
-- Rule: what a bundle reads as; expressions (docs/RULES.md).
use Rattle.std.specs.Prelude.{List, [], ◌∷◌, map, codes, Option, Some, None, option_map}
use Rattle.std.specs.List.{flat_map}
use Rattle.std.specs.Str.{chars}
use Rattle.serde_json.specs.Data.{Data, null, boolean, number, string, array, object, Items, no_items, item, Members, no_members, member}
use Rattle.serde_json.specs.Find.{as_str, as_i64}
use Rattle.cedar_expr_model.specs.Name.{Text}
use Rattle.cedar_expr_model.specs.Value.{truth, long, text, entity}
use Rattle.cedar_expr_model.specs.Pattern.{Pattern, Element, character, wildcard}
use Rattle.cedar_expr_model.specs.Tree.{Var, principal, action, resource, context, SlotId, principal_slot, resource_slot, negation, minus, is_empty, equal, less, less_or_equal, plus, difference, times, remainder, is_in, contains, contains_all, contains_any, get_tag, has_tag, Tree, lit, var, slot, unknown, choice, unary, binary, call, get_attr, like, is_type, set_literal, record_literal, Trees, TreeFields, no_tree_fields, tree_field}
use Rattle.cedar_expr_model.specs.Builder.{conjunction, disjunction, path_test, trees}
use Rattle.cedar_gate_model.specs.Reading.{given, list_of}
use Rattle.cedar_gate_model.specs.ReadingForms.{word_of}
use Rattle.cedar_gate_model.specs.ReadingName.{plain_name_read, uid_from, annotation_read}
use Rattle.cedar_expr_model.specs.Lists.{all_given}

-- The version of a bundle. The second adds the operator `rem`.
pub data Version : Type 0 where
  first second : Version

-- A part of a list: its JSON; the expression that it is read as, if it is one; and, if it is an object of expressions, its fields.
pub record Part : Type 0 where
  pub json : Data
  pub tree : Option Tree
  pub fields : Option TreeFields

abbrev pub var_words : List (Text × Var)
var_words = (codes "principal", principal) ∷ (codes "action", action) ∷ (codes "resource", resource) ∷ (codes "context", context) ∷ []

abbrev pub slot_words : List (Text × SlotId)
slot_words = (codes "?principal", principal_slot) ∷ (codes "?resource", resource_slot) ∷ []

-- what may be an element of a pattern: a text, which is its characters, or null, which is a wildcard
abbrev pub elements_read : Data → Option (List Element)
elements_read null = Some (wildcard ∷ [])
elements_read (string s) = Some (map character (chars s))
elements_read d = None

abbrev pub pattern_read : Data → Option Pattern
pattern_read d = option_map (flat_map (λ es. es)) (list_of elements_read d)

-- the expressions that the parts are
abbrev pub trees_in : List Part → Option Trees
trees_in xs = option_map trees (all_given (λ x. x.tree) xs)

-- one part, read so
abbrev pub of_part : {A : Type 0} → (A → Tree) → (Part → Option A) → List Part → Option Tree
of_part make read (x ∷ []) = option_map make (read x)
of_part make read xs = None

-- one expression, two or three, of which this is made
abbrev pub of_one : (Tree → Tree) → List Part → Option Tree
of_one make xs = of_part make (λ x. x.tree) xs

abbrev pub of_two : (Tree → Tree → Tree) → List Part → Option Tree
of_two make (x ∷ y ∷ []) = given x.tree (λ a. option_map (make a) y.tree)
of_two make xs = None

abbrev pub of_three : (Tree → Tree → Tree → Tree) → List Part → Option Tree
of_three make (x ∷ y ∷ z ∷ []) = given x.tree (λ a. given y.tree (λ b. option_map (make a b) z.tree))
of_three make xs = None

-- an expression and something else
abbrev pub of_tree_and : {A : Type 0} → (Tree → A → Tree) → (Data → Option A) → List Part → Option Tree
of_tree_and make read (x ∷ y ∷ []) = given x.tree (λ t. option_map (make t) (read y.json))
of_tree_and make read xs = None

-- one word
abbrev pub of_word : {A : Type 0} → (A → Tree) → List (Text × A) → List Part → Option Tree
of_word make words xs = of_part make (λ x. word_of words x.json) xs

-- a type and an id
abbrev pub uid_form : List Part → Option Tree
uid_form (x ∷ y ∷ []) = option_map (λ u. lit (entity u)) (uid_from (plain_name_read x.json) (as_str y.json))
uid_form xs = None

-- a name, which is any text, and a type or none
abbrev pub unknown_form : List Part → Option Tree
unknown_form (x ∷ []) = option_map (λ n. unknown n None) (as_str x.json)
unknown_form (x ∷ y ∷ []) = given (as_str x.json) (λ n. option_map (λ a. unknown n (Some a)) (annotation_read y.json))
unknown_form xs = None

-- the name of a function, and its arguments
abbrev pub call_form : List Part → Option Tree
call_form (x ∷ xs) = given (plain_name_read x.json) (λ f. option_map (call f) (trees_in xs))
call_form [] = None

-- an expression, and one attribute or more
abbrev pub has_form : List Part → Option Tree
has_form (x ∷ y ∷ more) = given x.tree (λ t. given (as_str y.json) (λ a. option_map (path_test t a) (all_given (λ z. as_str z.json) more)))
has_form xs = None

-- The words that a list may begin with in both versions, and what follows each.
abbrev pub common_forms : List (Text × (List Part → Option Tree))
common_forms = (codes "uid", uid_form) ∷ (codes "var", of_word var var_words) ∷ (codes "slot", of_word slot slot_words) ∷ (codes "unknown", unknown_form)
    ∷ (codes "if", of_three choice) ∷ (codes "and", of_two conjunction) ∷ (codes "or", of_two disjunction)
    ∷ (codes "not", of_one (unary negation)) ∷ (codes "neg", of_one (unary minus)) ∷ (codes "isEmpty", of_one (unary is_empty))
    ∷ (codes "eq", of_two (binary equal)) ∷ (codes "less", of_two (binary less)) ∷ (codes "lesseq", of_two (binary less_or_equal))
    ∷ (codes "add", of_two (binary plus)) ∷ (codes "sub", of_two (binary difference)) ∷ (codes "mul", of_two (binary times))
    ∷ (codes "in", of_two (binary is_in)) ∷ (codes "contains", of_two (binary contains))
    ∷ (codes "containsAll", of_two (binary contains_all)) ∷ (codes "containsAny", of_two (binary contains_any))
    ∷ (codes "getTag", of_two (binary get_tag)) ∷ (codes "hasTag", of_two (binary has_tag)) ∷ (codes "call", call_form)
    ∷ (codes "get", of_tree_and get_attr as_str) ∷ (codes "has", has_form) ∷ (codes "like", of_tree_and like pattern_read)
    ∷ (codes "is", of_tree_and is_type plain_name_read) ∷ (codes "set", λ xs. option_map set_literal (trees_in xs)) ∷ (codes "record", of_part record_literal (λ x. x.fields)) ∷ []

-- the words of a version
abbrev pub forms : Version → List (Text × (List Part → Option Tree))
forms first = common_forms
forms second = (codes "rem", of_two (binary remainder)) ∷ common_forms

-- a list that begins with one of them
abbrev pub form_read : Version → List Part → Option Tree
form_read v [] = None
form_read v (w ∷ xs) = given (word_of (forms v) w.json) (λ form. form xs)

-- An expression: a truth value, a whole number, a text, or a list that begins with a word.
abbrev mutual
  pub expression_read : Version → Data → Option Tree
  expression_read v null = None
  expression_read v (boolean b) = Some (lit (truth b))
  expression_read v (number n) = option_map (λ z. lit (long z)) (as_i64 n)
  expression_read v (string s) = Some (lit (text s))
  expression_read v (array ds) = form_read v (parts_in v ds)
  expression_read v (object ms) = None

  pub parts_in : Version → Items → List Part
  parts_in v no_items = []
  parts_in v (item d ds) = record { json = d; tree = expression_read v d; fields = fields_read v d } ∷ parts_in v ds

  -- an object of expressions, in the order of its keys
  pub fields_read : Version → Data → Option TreeFields
  fields_read v (object ms) = fields_in v ms
  fields_read v d = None

  pub fields_in : Version → Members → Option TreeFields
  fields_in v no_members = Some no_tree_fields
  fields_in v (member k d ms) = given (expression_read v d) (λ t. option_map (tree_field k t) (fields_in v ms))
