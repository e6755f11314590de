-- Which uids an expression looks up in a world: the left side of `in`, and the entity that an attribute or a tag is asked of.
-- Rule: the meaning (docs/RULES.md).
use Rattle.std.specs.Prelude.{◌≡◌, List, [], ◌∷◌, Bool, true, false, Some}
use Rattle.std.proofs.Common.{◌⊎◌}
use Rattle.cedar_expr_model.specs.Name.{Text}
use Rattle.cedar_expr_model.specs.Uid.{Uid}
use Rattle.cedar_expr_model.specs.Value.{text, entity, V, prim, truth_value}
use Rattle.cedar_expr_model.specs.Tree.{BinaryOp, is_in, get_tag, has_tag, Tree, choice, both, either, unary, binary, call, get_attr, has_attr, has_path, like, is_type, set_literal, record_literal, Trees, no_trees, tree, TreeFields, no_tree_fields, tree_field}
use Rattle.cedar_store_model.specs.Outcome.{Res, val}
use Rattle.cedar_store_model.specs.World.{World}
use Rattle.cedar_store_model.specs.Reads.{attribute_read}
use Rattle.cedar_store_model.specs.Meaning.{Means}

-- what an operator looks up at the values of its operands
abbrev pub CombinedLooks : BinaryOp → V → V → Uid → Type 0
CombinedLooks is_in v v' u = v ≡ prim (entity u)
CombinedLooks get_tag v v' u = (v ≡ prim (entity u)) × ((s : Text) × (v' ≡ prim (text s)))
CombinedLooks has_tag v v' u = (v ≡ prim (entity u)) × ((s : Text) × (v' ≡ prim (text s)))
CombinedLooks o v v' u = ⊥

-- what a path of attributes looks up from a value
abbrev pub PathLooks : World → Text → List Text → V → Uid → Type 0
PathLooks w a [] v u = v ≡ prim (entity u)
PathLooks w a (b ∷ bs) v u = (v ≡ prim (entity u)) ⊎ ((v' : V) × (attribute_read w a v ≡ Some (val v')) × PathLooks w b bs v' u)

-- the expression means a value, of which this holds
abbrev pub WithValue : (Res V → Type 0) → (V → Type 0) → Type 0
WithValue means holds = (v : V) × means (val v) × holds v

-- the uid is looked up
abbrev mutual
  pub Looks : World → Tree → Uid → Type 0
  Looks w (choice t a b) u = Looks w t u ⊎ ((Means w t (val (truth_value true)) × Looks w a u) ⊎ (Means w t (val (truth_value false)) × Looks w b u))
  Looks w (both a b) u = Looks w a u ⊎ (Means w a (val (truth_value true)) × Looks w b u)
  Looks w (either a b) u = Looks w a u ⊎ (Means w a (val (truth_value false)) × Looks w b u)
  Looks w (unary o a) u = Looks w a u
  Looks w (binary o a b) u = Looks w a u ⊎ WithValue (Means w a) (λ v. Looks w b u ⊎ WithValue (Means w b) (λ v'. CombinedLooks o v v' u))
  Looks w (call f ts) u = AnyLooks w ts u
  Looks w (get_attr t a) u = Looks w t u ⊎ WithValue (Means w t) (λ v. v ≡ prim (entity u))
  Looks w (has_attr t a) u = Looks w t u ⊎ WithValue (Means w t) (λ v. v ≡ prim (entity u))
  Looks w (has_path t a bs) u = Looks w t u ⊎ WithValue (Means w t) (λ v. PathLooks w a bs v u)
  Looks w (like t p) u = Looks w t u
  Looks w (is_type t n) u = Looks w t u
  Looks w (set_literal ts) u = AnyLooks w ts u
  Looks w (record_literal fs) u = AnyFieldLooks w fs u
  Looks w t u = ⊥

  pub AnyLooks : World → Trees → Uid → Type 0
  AnyLooks w no_trees u = ⊥
  AnyLooks w (tree t ts) u = Looks w t u ⊎ WithValue (Means w t) (λ v. AnyLooks w ts u)

  pub AnyFieldLooks : World → TreeFields → Uid → Type 0
  AnyFieldLooks w no_tree_fields u = ⊥
  AnyFieldLooks w (tree_field a t fs) u = Looks w t u ⊎ WithValue (Means w t) (λ v. AnyFieldLooks w fs u)

-- whether the operator looks up its left operand
abbrev pub looks_up : BinaryOp → Bool
looks_up is_in = true
looks_up get_tag = true
looks_up has_tag = true
looks_up o = false
