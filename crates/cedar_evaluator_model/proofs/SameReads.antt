-- What is read of a world at the values of operands doesn't ask for its slots and unknowns.
use Rattle.std.proofs.Common.{◌≡◌, List, [], ◌∷◌, refl}
use Rattle.std.specs.Prelude.{Option, Some, false}
use Rattle.cedar_expr_model.specs.Name.{Text}
use Rattle.cedar_expr_model.specs.Uid.{Uid}
use Rattle.cedar_expr_model.specs.Value.{text, entity, V, prim}
use Rattle.cedar_expr_model.specs.Tree.{SlotId, Var, principal, action, resource, context, BinaryOp, is_in, get_tag, has_tag}
use Rattle.cedar_store_model.specs.World.{World}
use Rattle.cedar_store_model.specs.Outcome.{bind}
use Rattle.cedar_store_model.specs.Operators.{says}
use Rattle.cedar_store_model.specs.Reads.{attribute_read, attribute_tested, within}
use Rattle.cedar_store_model.specs.Meaning.{variable, combined, picked, path_tested}
use Rattle.cedar_store_model.proofs.Named.{tag_read, tag_tested}

module _ (w : World) (y : SlotId → Option Uid) (z : Text → Option V) where
  pub same_variable : (x : Var) → variable (record w { slots = y; unknowns = z }) x ≡ variable w x
  same_variable principal = refl
  same_variable action = refl
  same_variable resource = refl
  same_variable context = refl

  pub same_read : (a : Text) (v : V) → attribute_read (record w { slots = y; unknowns = z }) a v ≡ attribute_read w a v
  same_read a (prim (entity u)) = refl
  same_read a v = refl

  pub same_tested : (a : Text) (v : V) → attribute_tested (record w { slots = y; unknowns = z }) a v ≡ attribute_tested w a v
  same_tested a (prim (entity u)) = refl
  same_tested a v = refl

  pub same_path : (a : Text) (bs : List Text) (v : V) → path_tested (record w { slots = y; unknowns = z }) a bs v ≡ path_tested w a bs v
  same_path a [] v = same_tested a v
  same_path a (b ∷ bs) v = λ i. bind (same_tested a v i) (picked (bind (same_read a v i) (λ x. same_path b bs x i)) (Some (says false)))

  same_tag_read : (v x : V) → tag_read (record w { slots = y; unknowns = z }) v x ≡ tag_read w v x
  same_tag_read (prim (entity u)) (prim (text a)) = refl
  same_tag_read v x = refl

  same_tag_tested : (v x : V) → tag_tested (record w { slots = y; unknowns = z }) v x ≡ tag_tested w v x
  same_tag_tested (prim (entity u)) (prim (text a)) = refl
  same_tag_tested v x = refl

  same_within : (v x : V) → within (record w { slots = y; unknowns = z }) v x ≡ within w v x
  same_within (prim (entity u)) x = refl
  same_within v x = refl

  pub same_combined : (o : BinaryOp) (v x : V) → combined (record w { slots = y; unknowns = z }) o v x ≡ combined w o v x
  same_combined is_in v x = same_within v x
  same_combined get_tag v x = same_tag_read v x
  same_combined has_tag v x = same_tag_tested v x
  same_combined o v x = refl
