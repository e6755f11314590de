-- A world that knows more gives the same outcomes.
use Rattle.std.proofs.Common.{◌≡◌, Bool, true, false, cond, List, [], ◌∷◌, refl, sym, ap, ◌∙◌, subst}
use Rattle.std.specs.Prelude.{Option, Some, None, is_some, length}
use Rattle.std.specs.Map.{lookup}
use Rattle.std.specs.Str.{bytes_eq}
use Rattle.cedar_expr_model.specs.Name.{Text, Name}
use Rattle.cedar_expr_model.specs.Uid.{Uid}
use Rattle.cedar_expr_model.specs.Value.{V, prim, truth, text, entity, field}
use Rattle.cedar_expr_model.specs.Tree.{Tree, lit, var, slot, unknown, choice, both, either, unary, binary, call, get_attr, has_attr, has_path, like, is_type, set_literal, record_literal, Trees, no_trees, tree, TreeFields, no_tree_fields, tree_field, Var, principal, action, resource, context, BinaryOp, less, less_or_equal, is_in, get_tag, has_tag}
use Rattle.cedar_expr_model.specs.Table.{Table, Signature, Called, gives, fails, leaves, signature_of, takes_count, are_of_types}
use Rattle.cedar_store_model.specs.Outcome.{Res, val, err, bind}
use Rattle.cedar_expr_model.specs.ValueParts.{Part, known, left}
use Rattle.cedar_store_model.specs.World.{World, Entity, Found, held, missing, not_loaded}
use Rattle.cedar_store_model.specs.Operators.{says, answered, called}
use Rattle.cedar_store_model.specs.Reads.{part_value, part_read, part_tested, attribute_read, attribute_tested, found_in, within, uids_in, is_in_some}
use Rattle.cedar_store_model.specs.Meaning.{Means, variable, slot_value, combined, picked, truth_asked, outcome_of, outcomes_of, field_outcomes_of, path_tested}
use Rattle.cedar_store_model.specs.OfLaws.Extends.{Keeps, KeepsPart, KeepsParts, KeepsEntity, KeepsFound, Extends}
use Rattle.cedar_store_model.proofs.Meaning.{means_outcome, outcome_means}
use Rattle.cedar_store_model.proofs.Named.{called_of, attributes_of, tags_of, tag_read, tag_tested, bound_value, known_uid}

pub keeps_same : {A : Type 0} (o p : Option A) → p ≡ o → Keeps o p
keeps_same None p e = tt
keeps_same (Some a) p e = e

pub keeps_outcome : {A : Type 0} (o p : Option A) (r : A) → Keeps o p → o ≡ Some r → p ≡ Some r
keeps_outcome None p r h e = cc
keeps_outcome (Some a) p r h e = h ∙ e

pub keeps_bind : {A B : Type 0} (o p : Option (Res A)) (f g : A → Option (Res B)) → Keeps o p → ((v : A) → Keeps (f v) (g v)) → Keeps (bind o f) (bind p g)
keeps_bind None p f g h n = tt
keeps_bind (Some (val v)) p f g h n = subst (λ x. Keeps (f v) (bind x g)) (sym h) (n v)
keeps_bind (Some (err e)) p f g h n = ap (λ x. bind x g) h

keeps_if : {A : Type 0} (b : Bool) (o p : Option A) (e : Option A) → Keeps o p → Keeps (cond b o e) (cond b p e)
keeps_if true o p e h = h
keeps_if false o p e h = keeps_same e e refl

keeps_uid : (o p : Option Uid) → Keeps o p → Keeps (known_uid o) (known_uid p)
keeps_uid None p h = tt
keeps_uid (Some u) p h = ap known_uid h

keeps_bound : (o p : Option V) → Keeps o p → Keeps (bound_value o) (bound_value p)
keeps_bound None p h = tt
keeps_bound (Some v) p h = ap bound_value h

keeps_variable : (k w : World) → Extends k w → (x : Var) → Keeps (variable k x) (variable w x)
keeps_variable k w h principal = keeps_uid k.principal w.principal h.principal
keeps_variable k w h action = keeps_uid k.action w.action h.action
keeps_variable k w h resource = keeps_uid k.resource w.resource h.resource
keeps_variable k w h context = keeps_bound k.context w.context h.context

-- parts
keeps_value : (o p : Option (Part V)) → KeepsPart o p → Keeps (part_value o) (part_value p)
keeps_value None p h = ap part_value h
keeps_value (Some (known v)) p h = ap part_value h
keeps_value (Some (left t)) p h = tt

same_there : (o p : Option (Part V)) → KeepsPart o p → is_some p ≡ is_some o
same_there None p h = ap is_some h
same_there (Some (known v)) p h = ap is_some h
same_there (Some (left t)) p h = h

-- what is read of an entity
keeps_read : (parts : Entity V → List (Text × Part V)) → ((e d : Entity V) → KeepsEntity e d → KeepsParts (parts e) (parts d)) → (u : Uid) (a : Text) (f g : Found V) → KeepsFound f g → Keeps (part_read parts u a f) (part_read parts u a g)
keeps_read parts same u a (held e) g h = subst (λ x. Keeps (part_read parts u a (held e)) (part_read parts u a x)) (sym h.1) (keeps_value (lookup (bytes_eq a) (parts e)) (lookup (bytes_eq a) (parts h.0)) (same e h.0 h.2 a))
keeps_read parts same u a missing g h = ap (part_read parts u a) h
keeps_read parts same u a not_loaded g h = tt

keeps_tested : (parts : Entity V → List (Text × Part V)) → ((e d : Entity V) → KeepsEntity e d → KeepsParts (parts e) (parts d)) → (u : Uid) (a : Text) (f g : Found V) → KeepsFound f g → Keeps (part_tested parts u a f) (part_tested parts u a g)
keeps_tested parts same u a (held e) g h = ap (part_tested parts u a) h.1 ∙ ap (λ b. Some (says b)) (same_there (lookup (bytes_eq a) (parts e)) (lookup (bytes_eq a) (parts h.0)) (same e h.0 h.2 a))
keeps_tested parts same u a missing g h = ap (part_tested parts u a) h
keeps_tested parts same u a not_loaded g h = tt

keeps_in : (u : Uid) (v : V) (f g : Found V) → KeepsFound f g → Keeps (found_in u v f) (found_in u v g)
keeps_in u v (held e) g h = ap (found_in u v) h.1 ∙ ap (λ us. Some (is_in_some us u (uids_in v))) (h.2).ancestors
keeps_in u v missing g h = ap (found_in u v) h
keeps_in u v not_loaded g h = tt

attributes_same : (e d : Entity V) → KeepsEntity e d → KeepsParts (attributes_of e) (attributes_of d)
attributes_same e d h = h.attributes

tags_same : (e d : Entity V) → KeepsEntity e d → KeepsParts (tags_of e) (tags_of d)
tags_same e d h = h.tags

pub keeps_attribute : (k w : World) → Extends k w → (a : Text) (v : V) → Keeps (attribute_read k a v) (attribute_read w a v)
keeps_attribute k w h a (prim (entity u)) = keeps_read attributes_of attributes_same u a (k.store u) (w.store u) (h.store u)
keeps_attribute k w h a v = refl

keeps_has : (k w : World) → Extends k w → (a : Text) (v : V) → Keeps (attribute_tested k a v) (attribute_tested w a v)
keeps_has k w h a (prim (entity u)) = keeps_tested attributes_of attributes_same u a (k.store u) (w.store u) (h.store u)
keeps_has k w h a v = refl

keeps_tag : (k w : World) → Extends k w → (v x : V) → Keeps (tag_read k v x) (tag_read w v x)
keeps_tag k w h (prim (entity u)) (prim (text a)) = keeps_read tags_of tags_same u a (k.store u) (w.store u) (h.store u)
keeps_tag k w h v x = refl

keeps_has_tag : (k w : World) → Extends k w → (v x : V) → Keeps (tag_tested k v x) (tag_tested w v x)
keeps_has_tag k w h (prim (entity u)) (prim (text a)) = keeps_tested tags_of tags_same u a (k.store u) (w.store u) (h.store u)
keeps_has_tag k w h v x = refl

keeps_within : (k w : World) → Extends k w → (v x : V) → Keeps (within k v x) (within w v x)
keeps_within k w h (prim (entity u)) x = keeps_in u x (k.store u) (w.store u) (h.store u)
keeps_within k w h v x = refl

-- paths
keeps_picked : (a b c d : Option (Res V)) → Keeps a b → Keeps c d → (v : V) → Keeps (picked a c v) (picked b d v)
keeps_picked a b c d h n (prim (truth true)) = h
keeps_picked a b c d h n (prim (truth false)) = n
keeps_picked a b c d h n v = refl

keeps_path : (k w : World) → Extends k w → (a : Text) (bs : List Text) (v : V) → Keeps (path_tested k a bs v) (path_tested w a bs v)
keeps_path k w h a [] v = keeps_has k w h a v
keeps_path k w h a (b ∷ bs) v =
    keeps_bind (attribute_tested k a v) (attribute_tested w a v) _ _ (keeps_has k w h a v)
    (keeps_picked _ _ (Some (says false)) (Some (says false))
    (keeps_bind (attribute_read k a v) (attribute_read w a v) (path_tested k b bs) (path_tested w b bs) (keeps_attribute k w h a v) (λ x. keeps_path k w h b bs x)) refl)

-- calls
keeps_answered : (m n : Text → Option V) → ((x : Text) → Keeps (m x) (n x)) → (c : Called) → Keeps (answered m c) (answered n c)
keeps_answered m n h (gives v) = refl
keeps_answered m n h (fails e) = refl
keeps_answered m n h (leaves x) = keeps_bound (m x) (n x) (h x)

keeps_called_with : (x : Table) (m n : Text → Option V) → ((y : Text) → Keeps (m y) (n y)) → (f : Name) (vs : List V) (s : Option Signature) → Keeps (called_of x m f vs s) (called_of x n f vs s)
keeps_called_with x m n h f vs None = refl
keeps_called_with x m n h f vs (Some s) =
    keeps_if (takes_count s (length vs)) _ _ _ (keeps_if (are_of_types s.parameters vs) _ _ _ (keeps_answered m n h (x.answers f vs)))

keeps_called : (k w : World) → Extends k w → (f : Name) (vs : List V) → Keeps (called k.table k.unknowns f vs) (called w.table w.unknowns f vs)
keeps_called k w h f vs = subst (λ x. Keeps (called k.table k.unknowns f vs) (called x w.unknowns f vs)) (sym h.table) (keeps_called_with k.table k.unknowns w.unknowns h.unknowns f vs (signature_of k.table f))

keeps_combined : (k w : World) → Extends k w → (o : BinaryOp) (v x : V) → Keeps (combined k o v x) (combined w o v x)
keeps_combined k w h less v x = ap (λ y. combined (record k { table = y }) less v x) h.table
keeps_combined k w h less_or_equal v x = ap (λ y. combined (record k { table = y }) less_or_equal v x) h.table
keeps_combined k w h is_in v x = keeps_within k w h v x
keeps_combined k w h get_tag v x = keeps_tag k w h v x
keeps_combined k w h has_tag v x = keeps_has_tag k w h v x
keeps_combined k w h o v x = refl

keeps_truth : (o p : Option (Res V)) → Keeps o p → Keeps (bind o (λ v. Some (truth_asked v))) (bind p (λ v. Some (truth_asked v)))
keeps_truth o p h = keeps_bind o p (λ v. Some (truth_asked v)) (λ v. Some (truth_asked v)) h (λ v. refl)

mutual
  pub keeps : (k w : World) → Extends k w → (t : Tree) → Keeps (outcome_of k t) (outcome_of w t)
  keeps k w h (lit p) = refl
  keeps k w h (var x) = keeps_variable k w h x
  keeps k w h (slot s) = ap (λ o. Some (slot_value o)) (h.slots s)
  keeps k w h (unknown n a) = keeps_bound (k.unknowns n) (w.unknowns n) (h.unknowns n)
  keeps k w h (choice t a b) = keeps_bind (outcome_of k t) (outcome_of w t) _ _ (keeps k w h t) (keeps_picked (outcome_of k a) (outcome_of w a) (outcome_of k b) (outcome_of w b) (keeps k w h a) (keeps k w h b))
  keeps k w h (both a b) = keeps_bind (outcome_of k a) (outcome_of w a) _ _ (keeps k w h a) (keeps_picked _ _ (Some (says false)) (Some (says false)) (keeps_truth (outcome_of k b) (outcome_of w b) (keeps k w h b)) refl)
  keeps k w h (either a b) = keeps_bind (outcome_of k a) (outcome_of w a) _ _ (keeps k w h a) (keeps_picked (Some (says true)) (Some (says true)) _ _ refl (keeps_truth (outcome_of k b) (outcome_of w b) (keeps k w h b)))
  keeps k w h (unary o a) = keeps_bind (outcome_of k a) (outcome_of w a) _ _ (keeps k w h a) (λ v. refl)
  keeps k w h (binary o a b) =
      let right = keeps k w h b in
      keeps_bind (outcome_of k a) (outcome_of w a) _ _ (keeps k w h a) (λ v. keeps_bind (outcome_of k b) (outcome_of w b) (combined k o v) (combined w o v) right (λ x. keeps_combined k w h o v x))
  keeps k w h (call f ts) = keeps_bind (outcomes_of k ts) (outcomes_of w ts) _ _ (keeps_all k w h ts) (λ vs. keeps_called k w h f vs)
  keeps k w h (get_attr t a) = keeps_bind (outcome_of k t) (outcome_of w t) _ _ (keeps k w h t) (λ v. keeps_attribute k w h a v)
  keeps k w h (has_attr t a) = keeps_bind (outcome_of k t) (outcome_of w t) _ _ (keeps k w h t) (λ v. keeps_has k w h a v)
  keeps k w h (has_path t a bs) = keeps_bind (outcome_of k t) (outcome_of w t) _ _ (keeps k w h t) (λ v. keeps_path k w h a bs v)
  keeps k w h (like t p) = keeps_bind (outcome_of k t) (outcome_of w t) _ _ (keeps k w h t) (λ v. refl)
  keeps k w h (is_type t n) = keeps_bind (outcome_of k t) (outcome_of w t) _ _ (keeps k w h t) (λ v. refl)
  keeps k w h (set_literal ts) = keeps_bind (outcomes_of k ts) (outcomes_of w ts) _ _ (keeps_all k w h ts) (λ vs. refl)
  keeps k w h (record_literal fs) = keeps_bind (field_outcomes_of k fs) (field_outcomes_of w fs) _ _ (keeps_fields k w h fs) (λ vs. refl)

  keeps_all : (k w : World) → Extends k w → (ts : Trees) → Keeps (outcomes_of k ts) (outcomes_of w ts)
  keeps_all k w h no_trees = refl
  keeps_all k w h (tree t ts) =
      let rest = keeps_all k w h ts in
      keeps_bind (outcome_of k t) (outcome_of w t) _ _ (keeps k w h t) (λ v. keeps_bind (outcomes_of k ts) (outcomes_of w ts) (λ vs. Some (val (v ∷ vs))) (λ vs. Some (val (v ∷ vs))) rest (λ vs. refl))

  keeps_fields : (k w : World) → Extends k w → (fs : TreeFields) → Keeps (field_outcomes_of k fs) (field_outcomes_of w fs)
  keeps_fields k w h no_tree_fields = refl
  keeps_fields k w h (tree_field a t fs) =
      let rest = keeps_fields k w h fs in
      keeps_bind (outcome_of k t) (outcome_of w t) _ _ (keeps k w h t) (λ v. keeps_bind (field_outcomes_of k fs) (field_outcomes_of w fs) (λ vs. Some (val (field a v vs))) (λ vs. Some (val (field a v vs))) rest (λ vs. refl))

pub more_keeps : (k w : World) → Extends k w → (t : Tree) (r : Res V) → Means k t r → Means w t r
more_keeps k w h t r m = outcome_means w t r (keeps_outcome (outcome_of k t) (outcome_of w t) r (keeps k w h t) (means_outcome k t r m))
