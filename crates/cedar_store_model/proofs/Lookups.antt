-- Only what is looked up is read of a store.
use Rattle.std.proofs.Common.{◌≡◌, true, false, List, [], ◌∷◌, refl, sym, ap, ◌∙◌, inl, inr}
use Rattle.std.specs.Prelude.{Option, Some, None, is_some}
use Rattle.std.specs.Option.{option_map_or}
use Rattle.std.specs.Map.{lookup}
use Rattle.std.specs.Str.{bytes_eq}
use Rattle.cedar_expr_model.specs.Name.{Text}
use Rattle.cedar_expr_model.specs.Uid.{Uid}
use Rattle.cedar_expr_model.specs.Value.{V, prim, truth, long, text, entity, set_of, record_of, extension, field_of, truth_value}
use Rattle.cedar_expr_model.specs.Tree.{Tree, lit, var, slot, unknown, choice, both, either, unary, binary, call, get_attr, has_attr, has_path, like, is_type, set_literal, record_literal, Trees, no_trees, tree, TreeFields, no_tree_fields, tree_field, BinaryOp, is_in, get_tag, has_tag}
use Rattle.cedar_store_model.specs.Outcome.{Res, val, err, missing_field, bind}
use Rattle.cedar_expr_model.specs.ValueParts.{Part, known, left}
use Rattle.cedar_store_model.specs.World.{World, Found, held, missing, not_loaded}
use Rattle.cedar_store_model.specs.Operators.{says}
use Rattle.cedar_store_model.specs.Reads.{part_value, part_read, part_tested, attribute_read, attribute_tested, found_in, within}
use Rattle.cedar_store_model.specs.Meaning.{Means, combined, picked, truth_asked, outcome_of, outcomes_of, field_outcomes_of, path_tested}
use Rattle.cedar_store_model.specs.Looks.{CombinedLooks, PathLooks, Looks, AnyLooks, AnyFieldLooks}
use Rattle.cedar_store_model.proofs.Meaning.{means_outcome}
use Rattle.cedar_store_model.proofs.Named.{attributes_of, tags_of, tag_read, tag_tested}

-- a look-up that isn't loaded leaves no outcome
none_attribute : (w : World) (a : Text) (u : Uid) → w.store u ≡ not_loaded → (v : V) → v ≡ prim (entity u) → attribute_read w a v ≡ None
none_attribute w a u e v h = ap (attribute_read w a) h ∙ ap (part_read attributes_of u a) e

none_has : (w : World) (a : Text) (u : Uid) → w.store u ≡ not_loaded → (v : V) → v ≡ prim (entity u) → attribute_tested w a v ≡ None
none_has w a u e v h = ap (attribute_tested w a) h ∙ ap (part_tested attributes_of u a) e

none_combined : (w : World) (o : BinaryOp) (u : Uid) → w.store u ≡ not_loaded → (v x : V) → CombinedLooks o v x u → combined w o v x ≡ None
none_combined w is_in u e v x h = ap (λ y. within w y x) h ∙ ap (found_in u x) e
none_combined w get_tag u e v x h = ap (λ y. tag_read w y x) h.0 ∙ ap (tag_read w (prim (entity u))) h.1.1 ∙ ap (part_read tags_of u h.1.0) e
none_combined w has_tag u e v x h = ap (λ y. tag_tested w y x) h.0 ∙ ap (tag_tested w (prim (entity u))) h.1.1 ∙ ap (part_tested tags_of u h.1.0) e
none_combined w o u e v x h = absurd h

none_first : {A B : Type 0} (o : Option (Res A)) (f : A → Option (Res B)) → o ≡ None → bind o f ≡ None
none_first o f e = ap (λ x. bind x f) e

none_next : {A B : Type 0} (o : Option (Res A)) (f : A → Option (Res B)) (v : A) → o ≡ Some (val v) → f v ≡ None → bind o f ≡ None
none_next o f v e n = ap (λ x. bind x f) e ∙ n

-- an attribute that is read is there
part_there : (p : Option (Part V)) (x : V) → part_value p ≡ Some (val x) → is_some p ≡ true
part_there None x e = cc
part_there (Some (known v)) x e = refl
part_there (Some (left t)) x e = cc

found_there : (u : Uid) (a : Text) (f : Found V) (x : V) → part_read attributes_of u a f ≡ Some (val x) → part_tested attributes_of u a f ≡ Some (says true)
found_there u a (held d) x e = ap (λ b. Some (says b)) (part_there (lookup (bytes_eq a) d.attributes) x e)
found_there u a missing x e = cc
found_there u a not_loaded x e = cc

field_there : (o : Option V) (x : V) → ◌≡◌ {A = Option (Res V)} (Some (option_map_or val o (err missing_field))) (Some (val x)) → is_some o ≡ true
field_there None x e = cc
field_there (Some v) x e = refl

read_there : (w : World) (a : Text) (v x : V) → attribute_read w a v ≡ Some (val x) → attribute_tested w a v ≡ Some (says true)
read_there w a (prim (entity u)) x e = found_there u a (w.store u) x e
read_there w a (record_of fs) x e = ap (λ b. Some (says b)) (field_there (field_of a fs) x e)
read_there w a (prim (truth b)) x e = cc
read_there w a (prim (long n)) x e = cc
read_there w a (prim (text s)) x e = cc
read_there w a (set_of vs) x e = cc
read_there w a (extension n k) x e = cc

none_path : (w : World) (a : Text) (bs : List Text) (u : Uid) → w.store u ≡ not_loaded → (v : V) → PathLooks w a bs v u → path_tested w a bs v ≡ None
none_path w a [] u e v h = none_has w a u e v h
none_path w a (b ∷ bs) u e v (inl h) = none_first (attribute_tested w a v) _ (none_has w a u e v h)
none_path w a (b ∷ bs) u e v (inr h) =
    none_next (attribute_tested w a v) (picked (bind (attribute_read w a v) (path_tested w b bs)) (Some (says false))) (truth_value true) (read_there w a v h.0 h.1)
    (none_next (attribute_read w a v) (path_tested w b bs) h.0 h.1 (none_path w b bs u e h.0 h.2))

mutual
  pub none_looked : (w : World) (u : Uid) → w.store u ≡ not_loaded → (t : Tree) → Looks w t u → outcome_of w t ≡ None
  none_looked w u e (lit p) h = absurd h
  none_looked w u e (var x) h = absurd h
  none_looked w u e (slot s) h = absurd h
  none_looked w u e (unknown n a) h = absurd h
  none_looked w u e (choice t a b) (inl h) = none_first (outcome_of w t) _ (none_looked w u e t h)
  none_looked w u e (choice t a b) (inr (inl h)) = none_next (outcome_of w t) (picked (outcome_of w a) (outcome_of w b)) (truth_value true) (means_outcome w t _ h.0) (none_looked w u e a h.1)
  none_looked w u e (choice t a b) (inr (inr h)) = none_next (outcome_of w t) (picked (outcome_of w a) (outcome_of w b)) (truth_value false) (means_outcome w t _ h.0) (none_looked w u e b h.1)
  none_looked w u e (both a b) (inl h) = none_first (outcome_of w a) _ (none_looked w u e a h)
  none_looked w u e (both a b) (inr h) = none_next (outcome_of w a) (picked (bind (outcome_of w b) (λ v. Some (truth_asked v))) (Some (says false))) (truth_value true) (means_outcome w a _ h.0) (none_first (outcome_of w b) _ (none_looked w u e b h.1))
  none_looked w u e (either a b) (inl h) = none_first (outcome_of w a) _ (none_looked w u e a h)
  none_looked w u e (either a b) (inr h) = none_next (outcome_of w a) (picked (Some (says true)) (bind (outcome_of w b) (λ v. Some (truth_asked v)))) (truth_value false) (means_outcome w a _ h.0) (none_first (outcome_of w b) _ (none_looked w u e b h.1))
  none_looked w u e (unary o a) h = none_first (outcome_of w a) _ (none_looked w u e a h)
  none_looked w u e (binary o a b) (inl h) = none_first (outcome_of w a) _ (none_looked w u e a h)
  none_looked w u e (binary o a b) (inr (v, m, inl h)) = none_next (outcome_of w a) (λ v. bind (outcome_of w b) (combined w o v)) v (means_outcome w a _ m) (none_first (outcome_of w b) _ (none_looked w u e b h))
  none_looked w u e (binary o a b) (inr (v, m, inr h)) = none_next (outcome_of w a) (λ v. bind (outcome_of w b) (combined w o v)) v (means_outcome w a _ m) (none_next (outcome_of w b) (combined w o v) h.0 (means_outcome w b _ h.1) (none_combined w o u e v h.0 h.2))
  none_looked w u e (call f ts) h = none_first (outcomes_of w ts) _ (none_any w u e ts h)
  none_looked w u e (get_attr t a) (inl h) = none_first (outcome_of w t) _ (none_looked w u e t h)
  none_looked w u e (get_attr t a) (inr h) = none_next (outcome_of w t) (attribute_read w a) h.0 (means_outcome w t _ h.1) (none_attribute w a u e h.0 h.2)
  none_looked w u e (has_attr t a) (inl h) = none_first (outcome_of w t) _ (none_looked w u e t h)
  none_looked w u e (has_attr t a) (inr h) = none_next (outcome_of w t) (attribute_tested w a) h.0 (means_outcome w t _ h.1) (none_has w a u e h.0 h.2)
  none_looked w u e (has_path t a bs) (inl h) = none_first (outcome_of w t) _ (none_looked w u e t h)
  none_looked w u e (has_path t a bs) (inr h) = none_next (outcome_of w t) (path_tested w a bs) h.0 (means_outcome w t _ h.1) (none_path w a bs u e h.0 h.2)
  none_looked w u e (like t p) h = none_first (outcome_of w t) _ (none_looked w u e t h)
  none_looked w u e (is_type t n) h = none_first (outcome_of w t) _ (none_looked w u e t h)
  none_looked w u e (set_literal ts) h = none_first (outcomes_of w ts) _ (none_any w u e ts h)
  none_looked w u e (record_literal fs) h = none_first (field_outcomes_of w fs) _ (none_field w u e fs h)

  none_any : (w : World) (u : Uid) → w.store u ≡ not_loaded → (ts : Trees) → AnyLooks w ts u → outcomes_of w ts ≡ None
  none_any w u e no_trees h = absurd h
  none_any w u e (tree t ts) (inl h) = none_first (outcome_of w t) _ (none_looked w u e t h)
  none_any w u e (tree t ts) (inr h) = none_next (outcome_of w t) _ h.0 (means_outcome w t _ h.1) (none_first (outcomes_of w ts) _ (none_any w u e ts h.2))

  none_field : (w : World) (u : Uid) → w.store u ≡ not_loaded → (fs : TreeFields) → AnyFieldLooks w fs u → field_outcomes_of w fs ≡ None
  none_field w u e no_tree_fields h = absurd h
  none_field w u e (tree_field a t fs) (inl h) = none_first (outcome_of w t) _ (none_looked w u e t h)
  none_field w u e (tree_field a t fs) (inr h) = none_next (outcome_of w t) _ h.0 (means_outcome w t _ h.1) (none_first (field_outcomes_of w fs) _ (none_field w u e fs h.2))

pub looks_are_loaded : (w : World) (t : Tree) (r : Res V) → Means w t r → (u : Uid) → Looks w t u → w.store u ≡ not_loaded → ⊥
looks_are_loaded w t r m u h e = let k = sym (none_looked w u e t h) ∙ means_outcome w t r m in cc
