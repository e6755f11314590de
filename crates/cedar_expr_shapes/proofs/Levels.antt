-- One level of an expression: the tree that it gives, and what the derived equality makes of two.
use denote.Hole.Carrier
use denote.RattleType.{RattleType}
use mir.Syntax.{Dict}
use Rattle.std.proofs.Common.{◌≡◌, ◌&&◌, Bool, false, map, sym, ap, ◌∙◌}
use Rattle.std.specs.Rc.{rc_str_bytes}
use Rattle.std.specs.Str.{bytes_eq}
use Rattle.std.specs.Cmp.Lexicographic.{pointwise}
use Rattle.std.specs.declared.cmp.PartialEq as PartialEq
use Rattle.std.specs.contracts.cmp.PartialEq.TheBound as PartialEqLaws
use Rattle.cedar_expr_names.specs.Views.{plain_name_of, type_name_of}
use Rattle.cedar_expr_names.specs.contracts.entity.EntityTypePartialEq.TheImpl as type_equality
use Rattle.cedar_expr_names.specs.contracts.name.NamePartialEq.TheImpl as name_equality
use Rattle.cedar_expr_leaves.specs.Literals.{literal_of}
use Rattle.cedar_expr_leaves.specs.Operators.{unary_op_of, binary_op_of}
use Rattle.cedar_expr_leaves.specs.Patterns.{pattern_of}
use Rattle.cedar_expr_leaves.specs.Slots.{slot_of}
use Rattle.cedar_expr_leaves.specs.Variables.{var_of}
use Rattle.cedar_expr_leaves.specs.contracts.literal.LiteralPartialEq.TheImpl as literal_equality
use Rattle.cedar_expr_leaves.specs.contracts.ops.BinaryOpPartialEq.TheImpl as binary_equality
use Rattle.cedar_expr_leaves.specs.contracts.ops.UnaryOpPartialEq.TheImpl as unary_equality
use Rattle.cedar_expr_leaves.specs.contracts.pattern.PatternPartialEq.TheImpl as pattern_equality
use Rattle.cedar_expr_leaves.specs.contracts.slot.SlotIdPartialEq.TheImpl as slot_equality
use Rattle.cedar_expr_leaves.specs.contracts.var.VarPartialEq.TheImpl as var_equality
use Rattle.cedar_expr_model.specs.Builder.{trees, tree_fields}
use Rattle.cedar_expr_model.specs.Tree.{Tree, lit, var, slot, unknown, choice, both, either, unary, binary, call, get_attr, has_attr, has_path, like, is_type, set_literal, record_literal}
use Rattle.cedar_expr_trees.specs.Trees.{tree_of, kind_tree, named}
use Rattle.cedar_expr_trees.specs.Unknowns.{unknown_of}
use Rattle.cedar_expr_trees.specs.contracts.expr.ExprPartialEq.TheImpl as expr_equality
use Rattle.cedar_expr_trees.specs.contracts.expr.ExprKindPartialEq.TheImpl as kind_equality
use Rattle.cedar_expr_trees.specs.contracts.expr.ExprKindPartialEq.TheImpl.Laws as kind_laws
use Rattle.cedar_expr_trees.specs.contracts.expr.UnknownPartialEq.TheImpl as unknown_equality
use Rattle.cedar_expr_trees.specs.declared.expr.Expr.{Expr}
use Rattle.cedar_expr_trees.specs.declared.expr.ExprKind.{ExprKind, ExprKind-F, out-ExprKind, roll-ExprKind, roll-out-ExprKind, Lit, Var, Slot, Unknown, If', And', Or', UnaryApp', BinaryApp', ExtensionFunctionApp', GetAttr', HasAttr', ExtHasAttr', Like', Is', Set', Record'}
use Rattle.cedar_expr_trees.specs.declared.expr.ExprKind.TheVariants.{rolls-Lit, rolls-Var, rolls-Slot, rolls-Unknown, rolls-If, rolls-And, rolls-Or, rolls-UnaryApp, rolls-BinaryApp, rolls-ExtensionFunctionApp, rolls-GetAttr, rolls-HasAttr, rolls-ExtHasAttr, rolls-Like, rolls-Is, rolls-Set, rolls-Record}
use Rattle.cedar_expr_trees.proofs.Trees.{call_tree, set_tree, record_tree}

-- the tree of a level, by those of the expressions in it
abbrev pub level_tree : {T K E : Type 0} → (E → Tree) → ExprKind-F T K E → Tree
level_tree V (ExprKind-F.Lit l) = lit (literal_of l)
level_tree V (ExprKind-F.Var x) = var (var_of x)
level_tree V (ExprKind-F.Slot s) = slot (slot_of s)
level_tree V (ExprKind-F.Unknown u) = unknown (unknown_of u).name (unknown_of u).annotation
level_tree V (ExprKind-F.If a b c) = choice (V a.value) (V b.value) (V c.value)
level_tree V (ExprKind-F.And a b) = both (V a.value) (V b.value)
level_tree V (ExprKind-F.Or a b) = either (V a.value) (V b.value)
level_tree V (ExprKind-F.UnaryApp o a) = unary (unary_op_of o) (V a.value)
level_tree V (ExprKind-F.BinaryApp o a b) = binary (binary_op_of o) (V a.value) (V b.value)
level_tree V (ExprKind-F.ExtensionFunctionApp f es) = call (plain_name_of f) (trees (map V es.value.items))
level_tree V (ExprKind-F.GetAttr a n) = get_attr (V a.value) (rc_str_bytes n)
level_tree V (ExprKind-F.HasAttr a n) = has_attr (V a.value) (rc_str_bytes n)
level_tree V (ExprKind-F.ExtHasAttr a ns) = has_path (V a.value) (rc_str_bytes ns.value.head) (map rc_str_bytes ns.value.tail.items)
level_tree V (ExprKind-F.Like a p) = like (V a.value) (pattern_of p)
level_tree V (ExprKind-F.Is a n) = is_type (V a.value) (type_name_of n)
level_tree V (ExprKind-F.Set es) = set_literal (trees (map V es.value.items))
level_tree V (ExprKind-F.Record m) = record_literal (tree_fields (named (map (λ e. (e.0, V e.1)) m.value.entries)))

-- two levels, by an equality of the expressions in them
abbrev pub level_eq : {T K E : Type 0} → (E → E → Bool) → ExprKind-F T K E → ExprKind-F T K E → Bool
level_eq R (ExprKind-F.Lit p) (ExprKind-F.Lit q) = (literal_equality.ghosts).eq p q
level_eq R (ExprKind-F.Var x) (ExprKind-F.Var y) = (var_equality.ghosts).eq x y
level_eq R (ExprKind-F.Slot s) (ExprKind-F.Slot t) = (slot_equality.ghosts).eq s t
level_eq R (ExprKind-F.Unknown u) (ExprKind-F.Unknown v) = (unknown_equality.ghosts).eq u v
level_eq R (ExprKind-F.If a b c) (ExprKind-F.If d e f) = R a.value d.value && (R b.value e.value && R c.value f.value)
level_eq R (ExprKind-F.And a b) (ExprKind-F.And d e) = R a.value d.value && R b.value e.value
level_eq R (ExprKind-F.Or a b) (ExprKind-F.Or d e) = R a.value d.value && R b.value e.value
level_eq R (ExprKind-F.UnaryApp o a) (ExprKind-F.UnaryApp p b) = (unary_equality.ghosts).eq o p && R a.value b.value
level_eq R (ExprKind-F.BinaryApp o a b) (ExprKind-F.BinaryApp p d e) = (binary_equality.ghosts).eq o p && (R a.value d.value && R b.value e.value)
level_eq R (ExprKind-F.ExtensionFunctionApp f es) (ExprKind-F.ExtensionFunctionApp g ds) = (name_equality.ghosts).eq f g && pointwise R es.value.items ds.value.items
level_eq R (ExprKind-F.GetAttr a n) (ExprKind-F.GetAttr b m) = R a.value b.value && bytes_eq (rc_str_bytes n) (rc_str_bytes m)
level_eq R (ExprKind-F.HasAttr a n) (ExprKind-F.HasAttr b m) = R a.value b.value && bytes_eq (rc_str_bytes n) (rc_str_bytes m)
level_eq R (ExprKind-F.ExtHasAttr a ns) (ExprKind-F.ExtHasAttr b ms) =
    R a.value b.value && (bytes_eq (rc_str_bytes ns.value.head) (rc_str_bytes ms.value.head) && pointwise (λ p q. bytes_eq (rc_str_bytes p) (rc_str_bytes q)) ns.value.tail.items ms.value.tail.items)
level_eq R (ExprKind-F.Like a p) (ExprKind-F.Like b q) = R a.value b.value && (pattern_equality.ghosts).eq p q
level_eq R (ExprKind-F.Is a n) (ExprKind-F.Is b m) = R a.value b.value && (type_equality.ghosts).eq n m
level_eq R (ExprKind-F.Set es) (ExprKind-F.Set ds) = pointwise R es.value.items ds.value.items
level_eq R (ExprKind-F.Record m) (ExprKind-F.Record n) = pointwise (λ p q. bytes_eq (rc_str_bytes p.0) (rc_str_bytes q.0) && R p.1 q.1) m.value.entries n.value.entries
level_eq R k l = false

-- the tree of a kind is that of its level
pub kind_rolled : {T : Type 0} (x : ExprKind-F T (ExprKind T) (Expr T)) → kind_tree (roll-ExprKind T x) ≡ level_tree tree_of x
kind_rolled (ExprKind-F.Lit l) = ap kind_tree (rolls-Lit l)
kind_rolled (ExprKind-F.Var x) = ap kind_tree (rolls-Var x)
kind_rolled (ExprKind-F.Slot s) = ap kind_tree (rolls-Slot s)
kind_rolled (ExprKind-F.Unknown u) = ap kind_tree (rolls-Unknown u)
kind_rolled (ExprKind-F.If a b c) = ap kind_tree (rolls-If a b c)
kind_rolled (ExprKind-F.And a b) = ap kind_tree (rolls-And a b)
kind_rolled (ExprKind-F.Or a b) = ap kind_tree (rolls-Or a b)
kind_rolled (ExprKind-F.UnaryApp o a) = ap kind_tree (rolls-UnaryApp o a)
kind_rolled (ExprKind-F.BinaryApp o a b) = ap kind_tree (rolls-BinaryApp o a b)
kind_rolled {T} (ExprKind-F.ExtensionFunctionApp f es) = ap kind_tree (rolls-ExtensionFunctionApp f es) ∙ call_tree {T = T} f es
kind_rolled (ExprKind-F.GetAttr a n) = ap kind_tree (rolls-GetAttr a n)
kind_rolled (ExprKind-F.HasAttr a n) = ap kind_tree (rolls-HasAttr a n)
kind_rolled (ExprKind-F.ExtHasAttr a ns) = ap kind_tree (rolls-ExtHasAttr a ns)
kind_rolled (ExprKind-F.Like a p) = ap kind_tree (rolls-Like a p)
kind_rolled (ExprKind-F.Is a n) = ap kind_tree (rolls-Is a n)
kind_rolled {T} (ExprKind-F.Set es) = ap kind_tree (rolls-Set es) ∙ set_tree {T = T} es
kind_rolled {T} (ExprKind-F.Record m) = ap kind_tree (rolls-Record m) ∙ record_tree {T = T} m

pub kind_seen : {T : Type 0} (k : ExprKind T) → kind_tree k ≡ level_tree tree_of (out-ExprKind T k)
kind_seen {T} k = ap kind_tree (sym (roll-out-ExprKind T k)) ∙ kind_rolled (out-ExprKind T k)

module _ (T : RattleType) (eq : PartialEq.Ghosts T.Denot) (eq_dict : Dict) where
  -- the derived equalities
  abbrev pub expr_by : Expr T.Denot → Expr T.Denot → Bool
  expr_by = (expr_equality.ghosts T eq eq_dict).eq

  abbrev pub kind_by : ExprKind T.Denot → ExprKind T.Denot → Bool
  kind_by = (kind_equality.ghosts T eq eq_dict).eq

  -- kinds are compared level by level
  pub kind_is : PartialEqLaws.Lawful T eq eq_dict → (k l : ExprKind T.Denot) → kind_by k l ≡ level_eq expr_by (out-ExprKind T.Denot k) (out-ExprKind T.Denot l)
  unfolding out-ExprKind Carrier.out
  kind_is eq_laws (Lit p) (Lit q) = kind_laws.is T eq eq_dict eq_laws (Lit p) (Lit q)
  kind_is eq_laws (Var x) (Var y) = kind_laws.is T eq eq_dict eq_laws (Var x) (Var y)
  kind_is eq_laws (Slot s) (Slot t) = kind_laws.is T eq eq_dict eq_laws (Slot s) (Slot t)
  kind_is eq_laws (Unknown u) (Unknown v) = kind_laws.is T eq eq_dict eq_laws (Unknown u) (Unknown v)
  kind_is eq_laws (If' p k l d q m n e r s u f) (If' p' k' l' d' q' m' n' e' r' s' u' f') = kind_laws.is T eq eq_dict eq_laws (If' p k l d q m n e r s u f) (If' p' k' l' d' q' m' n' e' r' s' u' f')
  kind_is eq_laws (And' p k l d q m n e) (And' p' k' l' d' q' m' n' e') = kind_laws.is T eq eq_dict eq_laws (And' p k l d q m n e) (And' p' k' l' d' q' m' n' e')
  kind_is eq_laws (Or' p k l d q m n e) (Or' p' k' l' d' q' m' n' e') = kind_laws.is T eq eq_dict eq_laws (Or' p k l d q m n e) (Or' p' k' l' d' q' m' n' e')
  kind_is eq_laws (UnaryApp' o p k l d) (UnaryApp' o' p' k' l' d') = kind_laws.is T eq eq_dict eq_laws (UnaryApp' o p k l d) (UnaryApp' o' p' k' l' d')
  kind_is eq_laws (BinaryApp' o p k l d q m n e) (BinaryApp' o' p' k' l' d' q' m' n' e') = kind_laws.is T eq eq_dict eq_laws (BinaryApp' o p k l d q m n e) (BinaryApp' o' p' k' l' d' q' m' n' e')
  kind_is eq_laws (ExtensionFunctionApp' f p s r) (ExtensionFunctionApp' g p' s' r') = kind_laws.is T eq eq_dict eq_laws (ExtensionFunctionApp' f p s r) (ExtensionFunctionApp' g p' s' r')
  kind_is eq_laws (GetAttr' p k l d a) (GetAttr' p' k' l' d' b) = kind_laws.is T eq eq_dict eq_laws (GetAttr' p k l d a) (GetAttr' p' k' l' d' b)
  kind_is eq_laws (HasAttr' p k l d a) (HasAttr' p' k' l' d' b) = kind_laws.is T eq eq_dict eq_laws (HasAttr' p k l d a) (HasAttr' p' k' l' d' b)
  kind_is eq_laws (ExtHasAttr' p k l d as_) (ExtHasAttr' p' k' l' d' bs) = kind_laws.is T eq eq_dict eq_laws (ExtHasAttr' p k l d as_) (ExtHasAttr' p' k' l' d' bs)
  kind_is eq_laws (Like' p k l d q) (Like' p' k' l' d' r) = kind_laws.is T eq eq_dict eq_laws (Like' p k l d q) (Like' p' k' l' d' r)
  kind_is eq_laws (Is' p k l d n) (Is' p' k' l' d' m) = kind_laws.is T eq eq_dict eq_laws (Is' p k l d n) (Is' p' k' l' d' m)
  kind_is eq_laws (Set' p s r) (Set' p' s' r') = kind_laws.is T eq eq_dict eq_laws (Set' p s r) (Set' p' s' r')
  kind_is eq_laws (Record' p s r) (Record' p' s' r') = kind_laws.is T eq eq_dict eq_laws (Record' p s r) (Record' p' s' r')
  kind_is eq_laws k l = kind_laws.is T eq eq_dict eq_laws k l
