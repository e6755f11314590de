-- What typing says of the operators by what it says of their operands.
-- Rule: typing (docs/RULES.md).
use Rattle.std.specs.Prelude.{◌≡◌, List, map, Option, option_map, option_and_then}
use Rattle.std.specs.Rc.{rc_str_bytes}
use Rattle.std.specs.declared.alloc.Global.{Global}
use Rattle.std.specs.declared.rc.RcStr.{RcStr}
use Rattle.std.specs.declared.vec.Vec.{Vec}
use Rattle.cedar_expr_leaves.specs.Operators.{binary_op_of}
use Rattle.cedar_expr_leaves.specs.declared.non_empty.NonEmpty.{NonEmpty}
use Rattle.cedar_expr_leaves.specs.declared.ops.BinaryOp.{BinaryOp}
use Rattle.cedar_expr_model.specs.Builder.{trees}
use Rattle.cedar_expr_model.specs.Lists.{all_given}
use Rattle.cedar_expr_model.specs.Table.{Table}
use Rattle.cedar_expr_model.specs.Tree.{Tree, has_path}
use Rattle.cedar_expr_names.specs.Views.{plain_name_of}
use Rattle.cedar_expr_names.specs.declared.name.Name.{Name}
use Rattle.cedar_expr_trees.specs.Trees.{tree_of}
use Rattle.cedar_expr_trees.specs.declared.expr.Expr.{Expr}
use Rattle.cedar_schema_model.specs.Schema.{Schema}
use Rattle.cedar_schema_model.specs.Types.{Ty}
use Rattle.cedar_schema_types.specs.Types.{type_of}
use Rattle.cedar_schema_types.specs.declared.types.Type.{«Type» as CodeType}
use Rattle.cedar_typechecker_answers.specs.Answers.{seen}
use Rattle.cedar_typechecker_answers.specs.Nodes.{by_two}
use Rattle.cedar_typechecker_answers.specs.declared.answer.TypecheckAnswer.{TypecheckAnswer}
use Rattle.cedar_typechecker_environments.specs.Facts.{facts_of}
use Rattle.cedar_typechecker_environments.specs.Settings.{setting_of}
use Rattle.cedar_typechecker_environments.specs.declared.facts.CapabilitySet.{CapabilitySet}
use Rattle.cedar_typechecker_environments.specs.declared.setting.World.{World}
use Rattle.cedar_typechecker_model.specs.Facts.{attribute_part, tag_part}
use Rattle.cedar_typechecker_model.specs.Rules.{call_type, get_type, has_type, get_tag_type, has_tag_type}
use Rattle.cedar_typechecker_model.specs.Typed.{Typed, typed, typed_row, binary_typed, get_typed, has_typed, path_typed, call_typed}
use Rattle.cedar_typechecker_model.specs.Typing.{Judgement, tested, path_judged, binary_judged}
use Rattle.cedar_typechecker_operators.specs.Rows.{row_found, type_at}

-- the test of a path
abbrev pub path_test : {T : Type 0} → Expr T → NonEmpty (RcStr Global) → Tree
path_test e p = has_path (tree_of e) (rc_str_bytes p.head) (map rc_str_bytes p.tail.items)

module _ {S : Type 0} (schema : S → Schema) (table : S → Table) where
  -- The answer is what typing says of the expression, where these facts are known; and the row, of expressions in a row.
  abbrev pub IsAnswer : World S → CapabilitySet → Tree → TypecheckAnswer → Type 0
  IsAnswer w known t a = seen a ≡ typed (setting_of schema table w) (facts_of known) t

  abbrev pub IsRow : {T : Type 0} → World S → CapabilitySet → List (Expr T) → Option (Vec (Expr (Option CodeType)) Global) → Type 0
  IsRow w known es r = row_found r ≡ typed_row (setting_of schema table w) (facts_of known) (trees (map tree_of es))

  -- a binary operator: by the answers of its operands, its judgement by these, and its judgement by their types
  abbrev pub binary_by : {T : Type 0} → World S → CapabilitySet → BinaryOp → Expr T → Expr T → TypecheckAnswer → TypecheckAnswer → Option Typed
  binary_by w known op a b first second = by_two (binary_typed (setting_of schema table w) (facts_of known) (binary_op_of op) (tree_of a) (tree_of b)) first second

  abbrev pub binary_judged_by : {T : Type 0} → World S → CapabilitySet → BinaryOp → Expr T → Expr T → TypecheckAnswer → TypecheckAnswer → Option Judgement
  binary_judged_by w known op a b first second =
      option_and_then (λ x. option_and_then (λ y. binary_judged (setting_of schema table w) (facts_of known) (binary_op_of op) (tree_of a) (tree_of b) x.type y.type) (seen second)) (seen first)

  abbrev pub binary_judged_of : {T : Type 0} → World S → CapabilitySet → BinaryOp → Expr T → Expr T → CodeType → CodeType → Option Judgement
  binary_judged_of w known op a b t u = binary_judged (setting_of schema table w) (facts_of known) (binary_op_of op) (tree_of a) (tree_of b) (type_of t) (type_of u)

  -- the type of a tag that is one of the facts, and the judgement of a test of a tag
  abbrev pub known_tag : {T : Type 0} → World S → CapabilitySet → Expr T → Expr T → CodeType → CodeType → Option Ty
  known_tag w known a b t u = get_tag_type (setting_of schema table w) (facts_of known) (tree_of a) (tree_of b) (type_of t) (type_of u)

  abbrev pub tag_tested : {T : Type 0} → World S → Expr T → Expr T → CodeType → CodeType → Option Judgement
  tag_tested w a b t u = option_map (tested (tree_of a) (tag_part (tree_of b))) (has_tag_type (setting_of schema table w) (type_of t) (type_of u))

  -- an attribute by the answer of what has it, its type if it is declared and required or one of the facts
  abbrev pub attribute_by : {T : Type 0} → World S → CapabilitySet → Expr T → RcStr Global → TypecheckAnswer → Option Typed
  attribute_by w known e attr a = option_and_then (get_typed (setting_of schema table w) (facts_of known) (tree_of e) (rc_str_bytes attr)) (seen a)

  abbrev pub known_attribute : {T : Type 0} → World S → CapabilitySet → Expr T → CodeType → RcStr Global → Option Ty
  known_attribute w known e t attr = get_type (setting_of schema table w) (facts_of known) (tree_of e) (type_of t) (rc_str_bytes attr)

  -- a test of an attribute by the answer of what may have it, and its judgement by the type of that
  abbrev pub has_by : {T : Type 0} → World S → Expr T → RcStr Global → TypecheckAnswer → Option Typed
  has_by w e attr a = option_and_then (has_typed (setting_of schema table w) (tree_of e) (rc_str_bytes attr)) (seen a)

  abbrev pub attribute_tested : {T : Type 0} → World S → Expr T → CodeType → RcStr Global → Option Judgement
  attribute_tested w e t attr = option_map (tested (tree_of e) (attribute_part (rc_str_bytes attr))) (has_type (setting_of schema table w) (type_of t) (rc_str_bytes attr))

  -- a test of a path by the answer of what may have its first attribute, and its judgement by the type of that
  abbrev pub path_by : {T : Type 0} → World S → Expr T → NonEmpty (RcStr Global) → TypecheckAnswer → Option Typed
  path_by w e p a = option_and_then (path_typed (setting_of schema table w) (tree_of e) (rc_str_bytes p.head) (map rc_str_bytes p.tail.items)) (seen a)

  abbrev pub path_judged_of : {T : Type 0} → World S → Expr T → CodeType → RcStr Global → List (RcStr Global) → Option Judgement
  path_judged_of w e t attr further = path_judged (setting_of schema table w) (rc_str_bytes attr) (map rc_str_bytes further) (tree_of e) (type_of t)

  -- a call by its arguments in a row, and its type by theirs, if each has one
  abbrev pub call_by : {T : Type 0} → World S → Name → List (Expr T) → Option (Vec (Expr (Option CodeType)) Global) → Option Typed
  call_by w f args row = option_and_then (call_typed (setting_of schema table w) (plain_name_of f) (trees (map tree_of args))) (row_found row)

  abbrev pub call_type_by : {T : Type 0} → World S → Name → List (Expr T) → List (Expr (Option CodeType)) → Option (Option Ty)
  call_type_by w f args row = option_map (call_type (setting_of schema table w) (plain_name_of f) (trees (map tree_of args))) (all_given type_at row)
