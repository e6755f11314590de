-- Where everything is known each expression has an outcome.
use Rattle.std.proofs.Common.{◌≡◌, Bool, true, false, cond, List, [], ◌∷◌, refl}
use Rattle.std.specs.Prelude.{Option, Some, None, length, IsSome}
use Rattle.std.specs.List.{list_all}
use Rattle.std.specs.Str.{bytes_eq}
use Rattle.std.specs.Map.{lookup}
use Rattle.cedar_expr_model.specs.Name.{Text, Name}
use Rattle.cedar_expr_model.specs.Uid.{Uid}
use Rattle.cedar_expr_model.specs.Value.{V, prim, truth, text, entity, field}
use Rattle.cedar_expr_model.specs.Tree.{Tree, lit, var, slot, unknown, choice, both, either, unary, binary, call, get_attr, has_attr, has_path, like, is_type, set_literal, record_literal, Trees, no_trees, tree, TreeFields, no_tree_fields, tree_field, Var, principal, action, resource, context, BinaryOp, is_in, get_tag, has_tag}
use Rattle.cedar_expr_model.specs.Table.{Table, Signature, Called, gives, fails, leaves, signature_of, takes_count, are_of_types}
use Rattle.cedar_expr_model.proofs.Lists.{both_hold}
use Rattle.cedar_store_model.specs.Outcome.{Res, val, err, bind}
use Rattle.cedar_expr_model.specs.ValueParts.{Part, known, left}
use Rattle.cedar_store_model.specs.World.{World, Entity, Found, held, missing, not_loaded}
use Rattle.cedar_store_model.specs.Operators.{says, answered}
use Rattle.cedar_store_model.specs.Reads.{part_value, part_read, part_tested, attribute_read, attribute_tested, found_in, within}
use Rattle.cedar_store_model.specs.Meaning.{Means, variable, combined, picked, truth_asked, outcome_of, outcomes_of, field_outcomes_of, path_tested}
use Rattle.cedar_store_model.specs.Knowledge.{is_known, holds_values, IsSettled, IsWhole}
use Rattle.cedar_store_model.proofs.Meaning.{outcome_means}
use Rattle.cedar_store_model.proofs.Named.{called_of, attributes_of, tags_of, tag_read, tag_tested, bound_value, known_uid}

there_bind : {A B : Type 0} (o : Option (Res A)) (f : A → Option (Res B)) → IsSome o → ((v : A) → IsSome (f v)) → IsSome (bind o f)
there_bind None f h n = h
there_bind (Some (val v)) f h n = n v
there_bind (Some (err e)) f h n = refl

there_uid : (o : Option Uid) → IsSome o → IsSome (known_uid o)
there_uid None h = h
there_uid (Some u) h = refl

there_bound : (o : Option V) → IsSome o → IsSome (bound_value o)
there_bound None h = h
there_bound (Some v) h = refl

there_variable : (w : World) → IsWhole w → (x : Var) → IsSome (variable w x)
there_variable w h principal = there_uid w.principal h.principal
there_variable w h action = there_uid w.action h.action
there_variable w h resource = there_uid w.resource h.resource
there_variable w h context = there_bound w.context h.context

-- parts that are values alone
abbrev are_known : List (Text × Part V) → Bool
are_known ps = list_all (λ p. is_known p.1) ps

value_case : (b : Bool) (p : Part V) (o : Option (Part V)) → is_known p ≡ true → IsSome (part_value o) → IsSome (part_value (cond b (Some p) o))
value_case true (known v) o e h = refl
value_case true (left t) o e h = cc
value_case false p o e h = h

there_value : (a : Text) (ps : List (Text × Part V)) → are_known ps ≡ true → IsSome (part_value (lookup (bytes_eq a) ps))
there_value a [] h = refl
there_value a (p ∷ ps) h = let k = both_hold (is_known p.1) (are_known ps) h in value_case (bytes_eq a p.0) p.1 (lookup (bytes_eq a) ps) k.0 (there_value a ps k.1)

-- what is read of a settled uid
there_read : (parts : Entity V → List (Text × Part V)) → ((e : Entity V) → holds_values e ≡ true → are_known (parts e) ≡ true) → (u : Uid) (a : Text) (f : Found V) → IsSettled f → IsSome (part_read parts u a f)
there_read parts each u a (held e) h = there_value a (parts e) (each e h)
there_read parts each u a missing h = refl
there_read parts each u a not_loaded h = absurd h

there_tested : (parts : Entity V → List (Text × Part V)) (u : Uid) (a : Text) (f : Found V) → IsSettled f → IsSome (part_tested parts u a f)
there_tested parts u a (held e) h = refl
there_tested parts u a missing h = refl
there_tested parts u a not_loaded h = absurd h

there_in : (u : Uid) (v : V) (f : Found V) → IsSettled f → IsSome (found_in u v f)
there_in u v (held e) h = refl
there_in u v missing h = refl
there_in u v not_loaded h = absurd h

attributes_known : (e : Entity V) → holds_values e ≡ true → are_known (attributes_of e) ≡ true
attributes_known e h = (both_hold (are_known e.attributes) (are_known e.tags) h).0

tags_known : (e : Entity V) → holds_values e ≡ true → are_known (tags_of e) ≡ true
tags_known e h = (both_hold (are_known e.attributes) (are_known e.tags) h).1

there_attribute : (w : World) → IsWhole w → (a : Text) (v : V) → IsSome (attribute_read w a v)
there_attribute w h a (prim (entity u)) = there_read attributes_of attributes_known u a (w.store u) (h.store u)
there_attribute w h a v = refl

there_has : (w : World) → IsWhole w → (a : Text) (v : V) → IsSome (attribute_tested w a v)
there_has w h a (prim (entity u)) = there_tested attributes_of u a (w.store u) (h.store u)
there_has w h a v = refl

there_tag : (w : World) → IsWhole w → (v x : V) → IsSome (tag_read w v x)
there_tag w h (prim (entity u)) (prim (text a)) = there_read tags_of tags_known u a (w.store u) (h.store u)
there_tag w h v x = refl

there_has_tag : (w : World) → IsWhole w → (v x : V) → IsSome (tag_tested w v x)
there_has_tag w h (prim (entity u)) (prim (text a)) = there_tested tags_of u a (w.store u) (h.store u)
there_has_tag w h v x = refl

there_within : (w : World) → IsWhole w → (v x : V) → IsSome (within w v x)
there_within w h (prim (entity u)) x = there_in u x (w.store u) (h.store u)
there_within w h v x = refl

-- paths
there_picked : (a b : Option (Res V)) → IsSome a → IsSome b → (v : V) → IsSome (picked a b v)
there_picked a b h k (prim (truth true)) = h
there_picked a b h k (prim (truth false)) = k
there_picked a b h k v = refl

there_path : (w : World) → IsWhole w → (a : Text) (bs : List Text) (v : V) → IsSome (path_tested w a bs v)
there_path w h a [] v = there_has w h a v
there_path w h a (b ∷ bs) v =
    there_bind (attribute_tested w a v) _ (there_has w h a v)
    (there_picked _ (Some (says false)) (there_bind (attribute_read w a v) (path_tested w b bs) (there_attribute w h a v) (λ x. there_path w h b bs x)) refl)

-- calls
there_answered : (m : Text → Option V) → ((x : Text) → IsSome (m x)) → (c : Called) → IsSome (answered m c)
there_answered m h (gives v) = refl
there_answered m h (fails e) = refl
there_answered m h (leaves x) = there_bound (m x) (h x)

there_if : {A : Type 0} (b : Bool) (o p : Option A) → IsSome o → IsSome p → IsSome (cond b o p)
there_if true o p h k = h
there_if false o p h k = k

there_called : (x : Table) (m : Text → Option V) → ((y : Text) → IsSome (m y)) → (f : Name) (vs : List V) (s : Option Signature) → IsSome (called_of x m f vs s)
there_called x m h f vs None = refl
there_called x m h f vs (Some s) = there_if (takes_count s (length vs)) _ _ (there_if (are_of_types s.parameters vs) _ _ (there_answered m h (x.answers f vs)) refl) refl

there_combined : (w : World) → IsWhole w → (o : BinaryOp) (v x : V) → IsSome (combined w o v x)
there_combined w h is_in v x = there_within w h v x
there_combined w h get_tag v x = there_tag w h v x
there_combined w h has_tag v x = there_has_tag w h v x
there_combined w h o v x = refl

there_truth : (o : Option (Res V)) → IsSome o → IsSome (bind o (λ v. Some (truth_asked v)))
there_truth o h = there_bind o (λ v. Some (truth_asked v)) h (λ v. refl)

mutual
  pub there : (w : World) → IsWhole w → (t : Tree) → IsSome (outcome_of w t)
  there w h (lit p) = refl
  there w h (var x) = there_variable w h x
  there w h (slot s) = refl
  there w h (unknown n a) = there_bound (w.unknowns n) (h.unknowns n)
  there w h (choice t a b) = there_bind (outcome_of w t) _ (there w h t) (there_picked (outcome_of w a) (outcome_of w b) (there w h a) (there w h b))
  there w h (both a b) = there_bind (outcome_of w a) _ (there w h a) (there_picked _ _ (there_truth (outcome_of w b) (there w h b)) refl)
  there w h (either a b) = there_bind (outcome_of w a) _ (there w h a) (there_picked _ _ refl (there_truth (outcome_of w b) (there w h b)))
  there w h (unary o a) = there_bind (outcome_of w a) _ (there w h a) (λ v. refl)
  there w h (binary o a b) = let right = there w h b in there_bind (outcome_of w a) _ (there w h a) (λ v. there_bind (outcome_of w b) (combined w o v) right (λ x. there_combined w h o v x))
  there w h (call f ts) = there_bind (outcomes_of w ts) _ (there_all w h ts) (λ vs. there_called w.table w.unknowns h.unknowns f vs (signature_of w.table f))
  there w h (get_attr t a) = there_bind (outcome_of w t) _ (there w h t) (λ v. there_attribute w h a v)
  there w h (has_attr t a) = there_bind (outcome_of w t) _ (there w h t) (λ v. there_has w h a v)
  there w h (has_path t a bs) = there_bind (outcome_of w t) _ (there w h t) (λ v. there_path w h a bs v)
  there w h (like t p) = there_bind (outcome_of w t) _ (there w h t) (λ v. refl)
  there w h (is_type t n) = there_bind (outcome_of w t) _ (there w h t) (λ v. refl)
  there w h (set_literal ts) = there_bind (outcomes_of w ts) _ (there_all w h ts) (λ vs. refl)
  there w h (record_literal fs) = there_bind (field_outcomes_of w fs) _ (there_fields w h fs) (λ vs. refl)

  there_all : (w : World) → IsWhole w → (ts : Trees) → IsSome (outcomes_of w ts)
  there_all w h no_trees = refl
  there_all w h (tree t ts) = let rest = there_all w h ts in there_bind (outcome_of w t) _ (there w h t) (λ v. there_bind (outcomes_of w ts) (λ vs. Some (val (v ∷ vs))) rest (λ vs. refl))

  there_fields : (w : World) → IsWhole w → (fs : TreeFields) → IsSome (field_outcomes_of w fs)
  there_fields w h no_tree_fields = refl
  there_fields w h (tree_field a t fs) = let rest = there_fields w h fs in there_bind (outcome_of w t) _ (there w h t) (λ v. there_bind (field_outcomes_of w fs) (λ vs. Some (val (field a v vs))) rest (λ vs. refl))

pub what_is_there : {A : Type 0} (o : Option A) → IsSome o → (a : A) × (o ≡ Some a)
what_is_there None h = cc
what_is_there (Some a) h = (a, refl)

pub an_outcome : (w : World) → IsWhole w → (t : Tree) → (r : Res V) × Means w t r
an_outcome w h t = let k = what_is_there (outcome_of w t) (there w h t) in (k.0, outcome_means w t k.0 k.1)
