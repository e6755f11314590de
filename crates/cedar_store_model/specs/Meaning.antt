-- The meaning of expressions, as a relation between world, expression and outcome, and as the function of that shape. Children are
-- taken in order, the fields of a record in the order of their names, and the first error is the outcome. Where the meaning needs
-- something that isn't known there is no outcome.
-- Rule: the meaning (docs/RULES.md).
use Rattle.std.specs.Prelude.{List, [], ◌∷◌, true, false, not, Option, Some, option_map, ◌+ℤ◌, ◌-ℤ◌, ◌*ℤ◌}
use Rattle.std.specs.Option.{option_map_or}
use Rattle.std.specs.Ordering.{is_lt, is_le}
use Rattle.cedar_expr_model.specs.Name.{Text}
use Rattle.cedar_expr_model.specs.Uid.{Uid}
use Rattle.cedar_expr_model.specs.Value.{truth, entity, V, prim, record_of, Fields, no_fields, field, truth_value}
use Rattle.cedar_expr_model.specs.Order.{value_eq}
use Rattle.cedar_expr_model.specs.Canonical.{set_made, is_subset, is_disjoint}
use Rattle.cedar_expr_model.specs.Tree.{Var, principal, action, resource, context, BinaryOp, equal, less, less_or_equal, plus, difference, times, remainder, is_in, contains, contains_all, contains_any, get_tag, has_tag, Tree, lit, var, slot, unknown, choice, both, either, unary, binary, call, get_attr, has_attr, has_path, like, is_type, set_literal, record_literal, Trees, no_trees, tree, TreeFields, no_tree_fields, tree_field}
use Rattle.cedar_store_model.specs.Outcome.{Res, val, err, wrong_type, unlinked_slot, Then, Is, Gives, bind}
use Rattle.cedar_store_model.specs.World.{World}
use Rattle.cedar_store_model.specs.Operators.{in_range, says, applied, ordered, calculated, remains, of_sets, among_members, like_pattern, of_type, called}
use Rattle.cedar_store_model.specs.Reads.{part_read, part_tested, attribute_read, attribute_tested, tag_asked, within}

-- what a variable of the request means
abbrev pub variable : World → Var → Option (Res V)
variable w principal = option_map (λ u. val (prim (entity u))) w.principal
variable w action = option_map (λ u. val (prim (entity u))) w.action
variable w resource = option_map (λ u. val (prim (entity u))) w.resource
variable w context = option_map val w.context

-- what a slot means: the uid that is bound to it
abbrev pub slot_value : Option Uid → Res V
slot_value bound = option_map_or (λ u. val (prim (entity u))) bound (err unlinked_slot)

-- an operator of two operands at their values
abbrev pub combined : World → BinaryOp → V → V → Option (Res V)
combined w equal v v' = Some (says (value_eq v v'))
combined w less v v' = Some (ordered w.table is_lt v v')
combined w less_or_equal v v' = Some (ordered w.table is_le v v')
combined w plus v v' = Some (calculated (λ m n. in_range (m +ℤ n)) v v')
combined w difference v v' = Some (calculated (λ m n. in_range (m -ℤ n)) v v')
combined w times v v' = Some (calculated (λ m n. in_range (m *ℤ n)) v v')
combined w remainder v v' = Some (calculated remains v v')
combined w is_in v v' = within w v v'
combined w contains v v' = Some (among_members v v')
combined w contains_all v v' = Some (of_sets (λ vs ws. is_subset ws vs) v v')
combined w contains_any v v' = Some (of_sets (λ vs ws. not (is_disjoint vs ws)) v v')
combined w get_tag v v' = tag_asked (part_read (λ e. e.tags)) w v v'
combined w has_tag v v' = tag_asked (part_tested (λ e. e.tags)) w v v'

-- a truth value is asked for
abbrev pub truth_asked : V → Res V
truth_asked (prim (truth b)) = val (truth_value b)
truth_asked v = err wrong_type

-- A truth value picks what comes next; any other value is a type error.
abbrev pub Picks : (Res V → Type 0) → (Res V → Type 0) → V → Res V → Type 0
Picks on_true on_false (prim (truth true)) = on_true
Picks on_true on_false (prim (truth false)) = on_false
Picks on_true on_false v = Is (err wrong_type)

-- the outcome that comes next by a truth value; a type error of any other value
abbrev pub picked : Option (Res V) → Option (Res V) → V → Option (Res V)
picked on_true on_false (prim (truth true)) = on_true
picked on_true on_false (prim (truth false)) = on_false
picked on_true on_false v = Some (err wrong_type)

-- A path of attributes: false at the first that is missing; of the last one its presence alone is asked.
abbrev pub path_tested : World → Text → List Text → V → Option (Res V)
path_tested w a [] v = attribute_tested w a v
path_tested w a (b ∷ bs) v = bind (attribute_tested w a v) (picked (bind (attribute_read w a v) (path_tested w b bs)) (Some (says false)))

-- What an expression means in a world.
abbrev mutual
  pub Means : World → Tree → Res V → Type 0
  Means w (lit p) = Is (val (prim p))
  Means w (var x) = Gives (variable w x)
  Means w (slot s) = Is (slot_value (w.slots s))
  Means w (unknown n a) = Gives (option_map val (w.unknowns n))
  Means w (choice t a b) = Then (Means w t) (Picks (Means w a) (Means w b))
  Means w (both a b) = Then (Means w a) (Picks (Then (Means w b) (λ v. Is (truth_asked v))) (Is (says false)))
  Means w (either a b) = Then (Means w a) (Picks (Is (says true)) (Then (Means w b) (λ v. Is (truth_asked v))))
  Means w (unary o a) = Then (Means w a) (λ v. Is (applied o v))
  Means w (binary o a b) = Then (Means w a) (λ v. Then (Means w b) (λ v'. Gives (combined w o v v')))
  Means w (call f ts) = Then (Mean w ts) (λ vs. Gives (called w.table w.unknowns f vs))
  Means w (get_attr t a) = Then (Means w t) (λ v. Gives (attribute_read w a v))
  Means w (has_attr t a) = Then (Means w t) (λ v. Gives (attribute_tested w a v))
  Means w (has_path t a bs) = Then (Means w t) (λ v. Gives (path_tested w a bs v))
  Means w (like t p) = Then (Means w t) (λ v. Is (like_pattern p v))
  Means w (is_type t n) = Then (Means w t) (λ v. Is (of_type n v))
  Means w (set_literal ts) = Then (Mean w ts) (λ vs. Is (val (set_made vs)))
  Means w (record_literal fs) = Then (FieldsMean w fs) (λ vs. Is (val (record_of vs)))

  -- what expressions mean, one after the other
  pub Mean : World → Trees → Res (List V) → Type 0
  Mean w no_trees = Is (val [])
  Mean w (tree t ts) = Then (Means w t) (λ v. Then (Mean w ts) (λ vs. Is (val (v ∷ vs))))

  -- what the fields of a record mean
  pub FieldsMean : World → TreeFields → Res Fields → Type 0
  FieldsMean w no_tree_fields = Is (val no_fields)
  FieldsMean w (tree_field a t fs) = Then (Means w t) (λ v. Then (FieldsMean w fs) (λ vs. Is (val (field a v vs))))

-- What expressions and the fields of a record mean, as functions; none where something isn't known.
abbrev mutual
  pub outcome_of : World → Tree → Option (Res V)
  outcome_of w (lit p) = Some (val (prim p))
  outcome_of w (var x) = variable w x
  outcome_of w (slot s) = Some (slot_value (w.slots s))
  outcome_of w (unknown n a) = option_map val (w.unknowns n)
  outcome_of w (choice t a b) = bind (outcome_of w t) (picked (outcome_of w a) (outcome_of w b))
  outcome_of w (both a b) = bind (outcome_of w a) (picked (bind (outcome_of w b) (λ v. Some (truth_asked v))) (Some (says false)))
  outcome_of w (either a b) = bind (outcome_of w a) (picked (Some (says true)) (bind (outcome_of w b) (λ v. Some (truth_asked v))))
  outcome_of w (unary o a) = bind (outcome_of w a) (λ v. Some (applied o v))
  outcome_of w (binary o a b) = bind (outcome_of w a) (λ v. bind (outcome_of w b) (combined w o v))
  outcome_of w (call f ts) = bind (outcomes_of w ts) (called w.table w.unknowns f)
  outcome_of w (get_attr t a) = bind (outcome_of w t) (attribute_read w a)
  outcome_of w (has_attr t a) = bind (outcome_of w t) (attribute_tested w a)
  outcome_of w (has_path t a bs) = bind (outcome_of w t) (path_tested w a bs)
  outcome_of w (like t p) = bind (outcome_of w t) (λ v. Some (like_pattern p v))
  outcome_of w (is_type t n) = bind (outcome_of w t) (λ v. Some (of_type n v))
  outcome_of w (set_literal ts) = bind (outcomes_of w ts) (λ vs. Some (val (set_made vs)))
  outcome_of w (record_literal fs) = bind (field_outcomes_of w fs) (λ vs. Some (val (record_of vs)))

  pub outcomes_of : World → Trees → Option (Res (List V))
  outcomes_of w no_trees = Some (val [])
  outcomes_of w (tree t ts) = bind (outcome_of w t) (λ v. bind (outcomes_of w ts) (λ vs. Some (val (v ∷ vs))))

  pub field_outcomes_of : World → TreeFields → Option (Res Fields)
  field_outcomes_of w no_tree_fields = Some (val no_fields)
  field_outcomes_of w (tree_field a t fs) = bind (outcome_of w t) (λ v. bind (field_outcomes_of w fs) (λ vs. Some (val (field a v vs))))
