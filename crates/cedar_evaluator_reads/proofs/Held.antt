-- What is read of an entity that isn't loaded.
use Rattle.std.proofs.Common.{◌≡◌, sym, ap, ◌∙◌, subst}
use Rattle.cedar_expr_model.specs.Name.{Text}
use Rattle.cedar_expr_model.specs.Uid.{Uid}
use Rattle.cedar_expr_model.specs.Made.{Made, made_prim}
use Rattle.cedar_expr_model.specs.Tree.{Tree, get_attr}
use Rattle.cedar_expr_model.specs.Value.{entity}
use Rattle.cedar_expr_trees.specs.Trees.{tree_of}
use Rattle.cedar_expr_trees.specs.declared.expr.Expr.{Expr}
use Rattle.cedar_store_model.specs.Outcome.{missing_entity}
use Rattle.cedar_store_model.specs.Store.{stand_in}
use Rattle.cedar_store_model.specs.World.{Found, not_loaded, by_found}
use Rattle.cedar_store_entities.specs.declared.entity.Entity.{Entity}
use Rattle.cedar_store_entities.specs.declared.entities.Dereference.{Dereference}
use Rattle.cedar_store_entities.specs.declared.entities.Dereference.TheVariants as found
use Rattle.cedar_evaluator_model.specs.Scope.{Scope, Left, residual}
use Rattle.cedar_evaluator_model.specs.Steps.{errs, part_left, part_or_missing, attribute_of}
use Rattle.cedar_evaluator_reads.specs.Seen.{IsFound}

-- what the store answers for the uid, of a look-up of one that equals it
pub unloaded_at : (store : Uid → Found Made) (u w : Uid) → w ≡ u → (d : Dereference Entity) → IsFound (store w) w d → (e : Expr Unit) → d ≡ found.Residual e → (store u ≡ not_loaded) × (tree_of e ≡ stand_in u)
unloaded_at store u w same d h e is = subst (λ v. (store v ≡ not_loaded) × (tree_of {T = Unit} e ≡ stand_in v)) same (subst (λ x. IsFound (store w) w x) is h)

-- an attribute of an entity
pub attribute_unloaded : (s : Scope) (a : Text) (u : Uid) (t : Tree) → (s.store u ≡ not_loaded) × (t ≡ stand_in u) → attribute_of s a (made_prim (entity u)) ≡ residual (get_attr t a)
attribute_unloaded s a u t h = ap from_entity h.0 ∙ ap (λ t. residual (get_attr t a)) (sym h.1)
  where
    from_entity : Found Made → Left
    from_entity f = by_found (λ e. part_or_missing (part_left s) a e.attributes) (errs (missing_entity u)) (residual (get_attr (stand_in u) a)) f
