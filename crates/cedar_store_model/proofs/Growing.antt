-- A world that knows more looks up what is looked up by less.
use Rattle.std.proofs.Common.{List, [], ◌∷◌, inl, inr}
use Rattle.cedar_expr_model.specs.Name.{Text}
use Rattle.cedar_expr_model.specs.Uid.{Uid}
use Rattle.cedar_expr_model.specs.Value.{V}
use Rattle.cedar_expr_model.specs.Tree.{Tree, lit, var, slot, unknown, choice, both, either, unary, binary, call, get_attr, has_attr, has_path, like, is_type, set_literal, record_literal, Trees, no_trees, tree, TreeFields, no_tree_fields, tree_field}
use Rattle.cedar_store_model.specs.Outcome.{val}
use Rattle.cedar_store_model.specs.World.{World}
use Rattle.cedar_store_model.specs.Reads.{attribute_read}
use Rattle.cedar_store_model.specs.Looks.{PathLooks, Looks, AnyLooks, AnyFieldLooks}
use Rattle.cedar_store_model.specs.OfLaws.Extends.{Extends}
use Rattle.cedar_store_model.proofs.Extends.{keeps_outcome, keeps_attribute, more_keeps}

path_grows : (k w : World) → Extends k w → (a : Text) (bs : List Text) (v : V) (u : Uid) → PathLooks k a bs v u → PathLooks w a bs v u
path_grows k w h a [] v u l = l
path_grows k w h a (b ∷ bs) v u (inl l) = inl l
path_grows k w h a (b ∷ bs) v u (inr (x, e, l)) = inr (x, keeps_outcome (attribute_read k a v) (attribute_read w a v) (val x) (keeps_attribute k w h a v) e, path_grows k w h b bs x u l)

mutual
  pub looks_grow : (k w : World) → Extends k w → (t : Tree) (u : Uid) → Looks k t u → Looks w t u
  looks_grow k w h (lit p) u l = l
  looks_grow k w h (var x) u l = l
  looks_grow k w h (slot s) u l = l
  looks_grow k w h (unknown n a) u l = l
  looks_grow k w h (choice t a b) u (inl l) = inl (looks_grow k w h t u l)
  looks_grow k w h (choice t a b) u (inr (inl l)) = inr (inl (more_keeps k w h t _ l.0, looks_grow k w h a u l.1))
  looks_grow k w h (choice t a b) u (inr (inr l)) = inr (inr (more_keeps k w h t _ l.0, looks_grow k w h b u l.1))
  looks_grow k w h (both a b) u (inl l) = inl (looks_grow k w h a u l)
  looks_grow k w h (both a b) u (inr l) = inr (more_keeps k w h a _ l.0, looks_grow k w h b u l.1)
  looks_grow k w h (either a b) u (inl l) = inl (looks_grow k w h a u l)
  looks_grow k w h (either a b) u (inr l) = inr (more_keeps k w h a _ l.0, looks_grow k w h b u l.1)
  looks_grow k w h (unary o a) u l = looks_grow k w h a u l
  looks_grow k w h (binary o a b) u (inl l) = inl (looks_grow k w h a u l)
  looks_grow k w h (binary o a b) u (inr (v, m, inl l)) = inr (v, more_keeps k w h a _ m, inl (looks_grow k w h b u l))
  looks_grow k w h (binary o a b) u (inr (v, m, inr l)) = inr (v, more_keeps k w h a _ m, inr (l.0, more_keeps k w h b _ l.1, l.2))
  looks_grow k w h (call f ts) u l = any_grow k w h ts u l
  looks_grow k w h (get_attr t a) u (inl l) = inl (looks_grow k w h t u l)
  looks_grow k w h (get_attr t a) u (inr l) = inr (l.0, more_keeps k w h t _ l.1, l.2)
  looks_grow k w h (has_attr t a) u (inl l) = inl (looks_grow k w h t u l)
  looks_grow k w h (has_attr t a) u (inr l) = inr (l.0, more_keeps k w h t _ l.1, l.2)
  looks_grow k w h (has_path t a bs) u (inl l) = inl (looks_grow k w h t u l)
  looks_grow k w h (has_path t a bs) u (inr l) = inr (l.0, more_keeps k w h t _ l.1, path_grows k w h a bs l.0 u l.2)
  looks_grow k w h (like t p) u l = looks_grow k w h t u l
  looks_grow k w h (is_type t n) u l = looks_grow k w h t u l
  looks_grow k w h (set_literal ts) u l = any_grow k w h ts u l
  looks_grow k w h (record_literal fs) u l = fields_grow k w h fs u l

  any_grow : (k w : World) → Extends k w → (ts : Trees) (u : Uid) → AnyLooks k ts u → AnyLooks w ts u
  any_grow k w h no_trees u l = l
  any_grow k w h (tree t ts) u (inl l) = inl (looks_grow k w h t u l)
  any_grow k w h (tree t ts) u (inr l) = inr (l.0, more_keeps k w h t _ l.1, any_grow k w h ts u l.2)

  fields_grow : (k w : World) → Extends k w → (fs : TreeFields) (u : Uid) → AnyFieldLooks k fs u → AnyFieldLooks w fs u
  fields_grow k w h no_tree_fields u l = l
  fields_grow k w h (tree_field a t fs) u (inl l) = inl (looks_grow k w h t u l)
  fields_grow k w h (tree_field a t fs) u (inr l) = inr (l.0, more_keeps k w h t _ l.1, fields_grow k w h fs u l.2)
