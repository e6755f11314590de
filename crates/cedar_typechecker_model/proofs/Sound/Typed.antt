-- In Strict every type of an expression is simple.
use Rattle.std.proofs.Common.{◌≡◌, ◌&&◌, ◌||◌, Bool, true, false, List, [], ◌∷◌, Option, Some, None, IfSome, refl, subst}
use Rattle.std.specs.Prelude.{option_map, option_and_then, if◌then◌else◌, is_none, length}
use Rattle.cedar_expr_model.specs.Name.{Text, Name, name_eq}
use Rattle.cedar_expr_model.specs.Uid.{Uid}
use Rattle.cedar_expr_model.specs.Value.{Literal, truth, long, text, entity}
use Rattle.cedar_expr_model.specs.Tree.{Var, principal, action, resource, context, SlotId, principal_slot, resource_slot, CoreType, bool_core, long_core, string_core, extension_core, UnaryOp, negation, minus, is_empty, BinaryOp, equal, less, less_or_equal, plus, difference, times, remainder, is_in, contains, contains_all, contains_any, get_tag, has_tag, Tree, lit, var, slot, unknown, choice, both, either, unary, binary, call, get_attr, has_attr, has_path, like, is_type, set_literal, record_literal, Trees, no_trees, tree, TreeFields, no_tree_fields, tree_field}
use Rattle.cedar_expr_model.specs.Table.{Table, Signature, signature_of, is_ordered, takes_count}
use Rattle.cedar_expr_model.proofs.Lists.{both_hold, hold_both, contains_none, contains_cases}
use Rattle.cedar_schema_model.specs.Types.{BoolType, any_bool, only_true, only_false, Ty, bool_type, long_type, string_type, any_entity, entity_types, any_set, set_type, record_type, extension_type, Attributes, no_attributes, attribute, Declared, attribute_named, is_closed, strict, permissive}
use Rattle.cedar_schema_model.specs.Schema.{EntityKind, standard, EntityType, Schema, type_named, declares_type, declares_action}
use Rattle.cedar_schema_model.specs.Environment.{Environment}
use Rattle.cedar_schema_model.specs.Join.{join, are_disjoint, reduce_to_join}
use Rattle.cedar_schema_model.specs.Lookup.{lookup_attribute, declared_of, declared_by_all}
use Rattle.cedar_typechecker_model.specs.Facts.{Facts, union, intersection, Part, attribute_part, tag_part}
use Rattle.cedar_typechecker_model.specs.Rules.{Setting, literal_type, var_type, slot_type, unary_type, written_uid, written_equal, if_there, order_type, number_type, member_type, is_set_type, sets_type, entity_kinds, entity_or_set_kinds, written_action, written_actions, within_kinds, binary_type, like_type, is_type_type, has_type, get_type, attribute_type, tags_of, tag_type, is_string_type, has_tag_type, get_tag_type, set_literal_type, has_names_once, record_literal_type, core_as_type, arguments_fit, takes_literal, signature_type}
use Rattle.cedar_typechecker_model.specs.Typing.{Judgement, judged, plain, tested, conjoined, disjoined, chosen, step_type, path_judged, binary_judged, Types, EachTyped, and_judged, or_judged, choice_judged, judgement, judgements, field_judgements}
use Rattle.cedar_typechecker_model.specs.OfLaws.Simple.{is_simple, are_simple, is_simple_tag, is_simple_kind, IsOrderly}
use Rattle.cedar_typechecker_model.specs.Verdicts.{strictly}
use Rattle.cedar_typechecker_model.proofs.Exact.{of_parts}
use Rattle.cedar_typechecker_model.proofs.Typing.{exact, exact_each}
use Rattle.cedar_typechecker_model.proofs.Sound.Joins.{join_keeps, AreSimple, reduction_keeps, simple_at}
use Rattle.cedar_typechecker_model.proofs.Named.{Kinds, result_type, bound_type}
use Rattle.cedar_expr_model.specs.Lists.{all_given}
use Rattle.cedar_schema_model.specs.Conforming.{of_kind, tags_at, attributes_at}

abbrev SimpleIf : Option Ty → Type 0
SimpleIf o = IfSome o (λ t. is_simple t ≡ true)

abbrev SimpleOf : Option Judgement → Type 0
SimpleOf o = IfSome o (λ j. is_simple j.type ≡ true)

simple_plain : (o : Option Ty) → SimpleIf o → SimpleOf (plain o)
simple_plain None h = tt
simple_plain (Some t) h = h

simple_then : (o : Option Judgement) (step : Ty → Facts → Option Judgement) → SimpleOf o → ((t : Ty) (f : Facts) → is_simple t ≡ true → SimpleOf (step t f)) → SimpleOf (option_and_then (λ j. step j.type j.facts) o)
simple_then None step h n = tt
simple_then (Some j) step h n = n j.type j.facts h

simple_found : {A : Type 0} (o : Option A) (step : A → Option Judgement) → ((a : A) → SimpleOf (step a)) → SimpleOf (option_and_then step o)
simple_found None step n = tt
simple_found (Some a) step n = n a

simple_if : (b : Bool) (o p : Option Ty) → SimpleIf o → SimpleIf p → SimpleIf (if b then o else p)
simple_if true o p h k = h
simple_if false o p h k = k

simple_where : {A : Type 0} (o : Option A) → SimpleIf (if_there o)
simple_where None = tt
simple_where (Some a) = refl

-- leaves
simple_literal : (s : Setting) (p : Literal) → SimpleIf (literal_type s p)
simple_literal s (truth b) = refl
simple_literal s (long n) = refl
simple_literal s (text t) = refl
simple_literal s (entity u) = simple_if (declares_type s.schema u.kind || declares_action s.schema u) _ None refl tt

simple_bound : (o : Option Name) → is_simple (bound_type o) ≡ true
simple_bound None = refl
simple_bound (Some n) = refl

simple_slot : (s : Setting) (x : SlotId) → is_simple (slot_type s x) ≡ true
simple_slot s principal_slot = simple_bound s.env.principal_slot
simple_slot s resource_slot = simple_bound s.env.resource_slot

simple_var : (s : Setting) → are_simple s.env.context ≡ true → (x : Var) → is_simple (var_type s x) ≡ true
simple_var s c principal = refl
simple_var s c action = refl
simple_var s c resource = refl
simple_var s c context = c

-- operators
simple_unary : (o : UnaryOp) (t : Ty) → SimpleIf (unary_type o t)
simple_unary negation (bool_type b) = refl
simple_unary minus long_type = refl
simple_unary is_empty any_set = refl
simple_unary is_empty (set_type t) = refl
simple_unary o t = tt

simple_written : (s : Setting) (u v : Option Uid) (t t' : Ty) → s.mode ≡ strict → SimpleIf (written_equal s u v t t')
simple_written s (Some u) (Some v) t t' e = refl
simple_written s u v t t' e = rw e (simple_where (join strict t t'))

simple_order : (s : Setting) (t u : Ty) → SimpleIf (order_type s t u)
simple_order s long_type long_type = refl
simple_order s (extension_type m) (extension_type n) = simple_if (name_eq m n && is_ordered s.table m) _ None refl tt
simple_order s t u = tt

simple_number : (t u : Ty) → SimpleIf (number_type t u)
simple_number long_type long_type = refl
simple_number t u = tt

simple_member : (s : Setting) (t u : Ty) → SimpleIf (member_type s t u)
simple_member s any_set u = refl
simple_member s (set_type t) u = simple_where (join s.mode t u)
simple_member s t u = tt

simple_sets : (s : Setting) (t u : Ty) → SimpleIf (sets_type s t u)
simple_sets s t u = simple_if (is_set_type t && is_set_type u) _ None (simple_where (join s.mode t u)) tt

simple_within : (s : Setting) (u : Option Uid) (us : Option (List Uid)) (k l : Kinds) → is_simple (within_kinds s u us k l) ≡ true
simple_within s (Some u) (Some us) k l = refl
simple_within s u us k l = refl

simple_in : (s : Setting) (a b : Tree) (k l : Option Kinds) → SimpleIf (option_and_then (λ x. option_map (within_kinds s (written_action s a) (written_actions s b) x) l) k)
simple_in s a b None l = tt
simple_in s a b (Some k) None = tt
simple_in s a b (Some k) (Some l) = simple_within s (written_action s a) (written_actions s b) k l

simple_binary : (s : Setting) (o : BinaryOp) (a b : Tree) (t u : Ty) → s.mode ≡ strict → SimpleIf (binary_type s o a b t u)
simple_binary s equal a b t u e = simple_if (are_disjoint t u) _ (written_equal s (written_uid s a) (written_uid s b) t u) refl (simple_written s (written_uid s a) (written_uid s b) t u e)
simple_binary s less a b t u e = simple_order s t u
simple_binary s less_or_equal a b t u e = simple_order s t u
simple_binary s plus a b t u e = simple_number t u
simple_binary s difference a b t u e = simple_number t u
simple_binary s times a b t u e = simple_number t u
simple_binary s remainder a b t u e = simple_number t u
simple_binary s is_in a b t u e = simple_in s a b (entity_kinds t) (entity_or_set_kinds u)
simple_binary s contains a b t u e = simple_member s t u
simple_binary s contains_all a b t u e = simple_sets s t u
simple_binary s contains_any a b t u e = simple_sets s t u
simple_binary s o a b t u e = tt

simple_like : (t : Ty) → SimpleIf (like_type t)
simple_like string_type = refl
simple_like t = tt

simple_is : (n : Name) (t : Ty) → SimpleIf (is_type_type n t)
simple_is n any_entity = refl
simple_is n (entity_types ns) = refl
simple_is n t = tt

simple_tested : (e : Tree) (p : Part) (b : BoolType) → is_simple (tested e p b).type ≡ true
simple_tested e p any_bool = refl
simple_tested e p b = refl

simple_test : (e : Tree) (p : Part) (o : Option BoolType) → SimpleOf (option_map (tested e p) o)
simple_test e p None = tt
simple_test e p (Some b) = simple_tested e p b

-- what the schema declares
kind_attributes : (k : EntityKind) → is_simple_kind k ≡ true → are_simple (attributes_at (of_kind k)) ≡ true
kind_attributes (standard as_ tags) h = (both_hold (are_simple as_) (is_simple_tag tags) h).0
kind_attributes k h = refl

kind_tag : (k : EntityKind) → is_simple_kind k ≡ true → SimpleIf (tags_at (of_kind k))
kind_tag (standard as_ None) h = tt
kind_tag (standard as_ (Some t)) h = (both_hold (are_simple as_) (is_simple t) h).1
kind_tag k h = tt

simple_declared : (o : Option EntityType) (a : Text) → ((t : EntityType) → o ≡ Some t → is_simple_kind t.kind ≡ true) → (d : Declared) → option_and_then (λ e. attribute_named a (attributes_at (of_kind e.kind))) o ≡ Some d → is_simple d.type ≡ true
simple_declared None a h d e = cc
simple_declared (Some t) a h d e = simple_at (attributes_at (of_kind t.kind)) (kind_attributes t.kind (h t refl)) a d e

simple_tags : (o : Option EntityType) → ((t : EntityType) → o ≡ Some t → is_simple_kind t.kind ≡ true) → SimpleIf (option_and_then (λ e. tags_at (of_kind e.kind)) o)
simple_tags None h = tt
simple_tags (Some t) h = kind_tag t.kind (h t refl)

one_declared : (o : Option Declared) → ((d : Declared) → o ≡ Some d → is_simple d.type ≡ true) → (d : Declared) → option_and_then declared_by_all (option_and_then (λ c. Some (c ∷ [])) o) ≡ Some d → is_simple d.type ≡ true
one_declared None h d e = cc
one_declared (Some c) h d e = let q : c.type ≡ d.type = cc in subst (λ t. is_simple t ≡ true) q (h c refl)

pub simple_lookup : (s : Schema) → IsOrderly s → (t : Ty) (a : Text) (d : Declared) → is_simple t ≡ true → lookup_attribute s t a ≡ Some d → is_simple d.type ≡ true
simple_lookup s o (record_type as_ p) a d h e = simple_at as_ h a d e
simple_lookup s o (entity_types (n ∷ [])) a d h e = one_declared (declared_of s a n) (simple_declared (type_named s n) a (o.types n)) d e
simple_lookup s o (entity_types []) a d h e = cc
simple_lookup s o (entity_types (n ∷ m ∷ ns)) a d h e = cc
simple_lookup s o t a d h e = cc

simple_attribute : (b : Bool) (o : Option Declared) → ((d : Declared) → o ≡ Some d → is_simple d.type ≡ true) → SimpleIf (attribute_type b o)
simple_attribute b None h = tt
simple_attribute b (Some d) h = simple_if (d.is_required || b) (Some d.type) None (h d refl) tt

simple_get : (s : Setting) → IsOrderly s.schema → (known : Facts) (e : Tree) (t : Ty) (a : Text) → is_simple t ≡ true → SimpleIf (get_type s known e t a)
simple_get s o known e t a h = simple_attribute (known e (attribute_part a)) (lookup_attribute s.schema t a) (λ d q. simple_lookup s.schema o t a d h q)

one_tag : (o : Option Ty) → SimpleIf o → SimpleIf (option_and_then (reduce_to_join permissive) (option_and_then (λ a. Some (a ∷ [])) o))
one_tag None h = tt
one_tag (Some t) h = h

simple_tag : (s : Setting) → IsOrderly s.schema → (t : Ty) → is_simple t ≡ true → SimpleIf (tag_type s t)
simple_tag s o (entity_types (n ∷ [])) h = one_tag (tags_of s.schema n) (simple_tags (type_named s.schema n) (o.types n))
simple_tag s o (entity_types []) h = cc
simple_tag s o (entity_types (n ∷ m ∷ ns)) h = cc
simple_tag s o t h = tt

simple_judged : (s : Setting) → IsOrderly s.schema → s.mode ≡ strict → (known : Facts) (o : BinaryOp) (a b : Tree) (t u : Ty) → is_simple t ≡ true → SimpleOf (binary_judged s known o a b t u)
simple_judged s w e known get_tag a b t u h = simple_plain (get_tag_type s known a b t u) (simple_if (is_string_type u && known a (tag_part b)) (tag_type s t) None (simple_tag s w t h) tt)
simple_judged s w e known has_tag a b t u h = simple_test a (tag_part b) (has_tag_type s t u)
simple_judged s w e known o a b t u h = simple_plain (binary_type s o a b t u) (simple_binary s o a b t u e)

-- sets, records and calls
simple_set : (ts : List Ty) → AreSimple ts → SimpleIf (set_literal_type strict ts)
simple_set [] h = tt
simple_set (t ∷ ts) h = joined (reduce_to_join strict (t ∷ ts)) (λ j e. (reduction_keeps (t ∷ ts) j h e).simple)
  where
    joined : (o : Option Ty) → ((j : Ty) → o ≡ Some j → is_simple j ≡ true) → SimpleIf (option_map set_type o)
    joined None f = tt
    joined (Some j) f = f j refl

-- the types of the fields are simple
abbrev pub fields_simple : Attributes → Bool
fields_simple no_attributes = true
fields_simple (attribute n t r as_) = is_simple t && fields_simple as_

once_simple : (as_ : Attributes) → fields_simple as_ ≡ true → has_names_once as_ ≡ true → are_simple as_ ≡ true
once_simple no_attributes h k = refl
once_simple (attribute n t r as_) h k =
    let p = both_hold (is_simple t) (fields_simple as_) h in
    let q = both_hold (is_none (attribute_named n as_)) (has_names_once as_) k in
    hold_both (is_simple t) _ p.0 (hold_both (is_none (attribute_named n as_)) _ q.0 (once_simple as_ p.1 q.1))

simple_record : (as_ : Attributes) → fields_simple as_ ≡ true → SimpleIf (record_literal_type as_)
simple_record as_ h = by (has_names_once as_) (once_simple as_ h)
  where
    by : (b : Bool) → (b ≡ true → are_simple as_ ≡ true) → SimpleIf (if b then Some (record_type as_ is_closed) else None)
    by true f = f refl
    by false f = tt

simple_core : (c : CoreType) → SimpleIf (core_as_type c)
simple_core bool_core = refl
simple_core long_core = refl
simple_core string_core = refl
simple_core (extension_core n) = refl
simple_core c = tt

simple_result : (o : Option CoreType) → SimpleIf (option_and_then core_as_type o)
simple_result None = tt
simple_result (Some c) = simple_core c

simple_signature : (s : Setting) (es : Trees) (ts : List Ty) (f : Signature) (ps : Option (List Ty)) → SimpleIf (option_and_then (λ ps. if takes_count f (length ts) && (arguments_fit ps ts && takes_literal s.mode f es) then result_type f else None) ps)
simple_signature s es ts f None = tt
simple_signature s es ts f (Some ps) = simple_if (takes_count f (length ts) && (arguments_fit ps ts && takes_literal s.mode f es)) (result_type f) None (simple_result f.result) tt

simple_call : (s : Setting) (es : Trees) (ts : List Ty) (o : Option Signature) → SimpleIf (option_and_then (signature_type s es ts) o)
simple_call s es ts None = tt
simple_call s es ts (Some f) = simple_signature s es ts f (all_given core_as_type f.parameters)

-- conjunctions, disjunctions, choices, paths
simple_conjoined : (b : BoolType) (f : Facts) (t : Ty) (g : Facts) → SimpleOf (conjoined b f t g)
simple_conjoined b f (bool_type only_false) g = refl
simple_conjoined only_true f (bool_type only_true) g = refl
simple_conjoined b f (bool_type c) g = refl
simple_conjoined b f t g = tt

simple_disjoined : (b : BoolType) (f : Facts) (t : Ty) (g : Facts) → SimpleOf (disjoined b f t g)
simple_disjoined b f (bool_type only_true) g = refl
simple_disjoined only_false f (bool_type c) g = refl
simple_disjoined b f (bool_type only_false) g = refl
simple_disjoined b f (bool_type c) g = refl
simple_disjoined b f t g = tt

simple_and : (r : Facts → Option Judgement) (t : Ty) (f : Facts) → SimpleOf (and_judged r t f)
simple_and r (bool_type only_false) f = refl
simple_and r (bool_type b) f = simple_found (r f) _ (λ j. simple_conjoined b f j.type j.facts)
simple_and r t f = tt

simple_or : (r : Option Judgement) (t : Ty) (f : Facts) → SimpleOf (or_judged r t f)
simple_or r (bool_type only_true) f = refl
simple_or r (bool_type b) f = simple_found r _ (λ j. simple_disjoined b f j.type j.facts)
simple_or r t f = tt

simple_chosen : (t u : Ty) (f g : Facts) → is_simple t ≡ true → is_simple u ≡ true → SimpleOf (option_map (λ j. of_parts j (intersection f g)) (join strict t u))
simple_chosen t u f g h k = by (join strict t u) (λ j e. (join_keeps t u j h k e).simple)
  where
    by : (o : Option Ty) → ((j : Ty) → o ≡ Some j → is_simple j ≡ true) → SimpleOf (option_map (λ j. of_parts j (intersection f g)) o)
    by None n = tt
    by (Some j) n = n j refl

simple_choice : (s : Setting) (r : Facts → Option Judgement) (q : Option Judgement) → s.mode ≡ strict → ((f : Facts) → SimpleOf (r f)) → SimpleOf q → (t : Ty) (f : Facts) → SimpleOf (choice_judged s r q t f)
simple_choice s r q e n m (bool_type only_true) f = simple_then (r f) (λ t g. judged t (union f g)) (n f) (λ t g h. h)
simple_choice s r q e n m (bool_type only_false) f = m
simple_choice s r q e n m (bool_type any_bool) f =
    simple_then (r f) (λ t h. option_and_then (λ k. chosen s t (union f h) k.type k.facts) q) (n f)
    (λ t h i. simple_then q (chosen s t (union f h)) m (λ u g j. rw e (simple_chosen t u (union f h) g i j)))
simple_choice s r q e n m t f = tt

simple_path : (s : Setting) (a : Text) (bs : List Text) (e : Tree) (t : Ty) → SimpleOf (path_judged s a bs e t)
simple_path s a [] e t = simple_test e (attribute_part a) (has_type s t a)
simple_path s a (b ∷ bs) e t = simple_found (option_map (tested e (attribute_part a)) (has_type s t a)) _ (λ j. simple_and (λ f. option_and_then (path_judged s b bs (get_attr e a)) (step_type s t a)) j.type j.facts)

each_simple : (o : Option Judgement) (p : Option (List Ty)) → SimpleOf o → IfSome p AreSimple → IfSome (option_and_then (λ (j : Judgement). option_map (λ ts. j.type ∷ ts) p) o) AreSimple
each_simple None p h k = tt
each_simple (Some j) None h k = tt
each_simple (Some j) (Some ts) h k = λ t i. contains_cases (is_simple t ≡ true) j.type ts t i (λ e. subst (λ x. is_simple x ≡ true) e h) (k t)

each_field_simple : (a : Text) (o : Option Judgement) (p : Option Attributes) → SimpleOf o → IfSome p (λ as_. fields_simple as_ ≡ true) → IfSome (option_and_then (λ (j : Judgement). option_map (λ bs. attribute a j.type true bs) p) o) (λ as_. fields_simple as_ ≡ true)
each_field_simple a None p h k = tt
each_field_simple a (Some j) None h k = tt
each_field_simple a (Some j) (Some bs) h k = hold_both (is_simple j.type) (fields_simple bs) h k

plain_found : {A : Type 0} (P : A → Type 0) (o : Option A) (rule : A → Option Ty) → IfSome o P → ((a : A) → P a → SimpleIf (rule a)) → SimpleOf (option_and_then (λ a. plain (rule a)) o)
plain_found P None rule h n = tt
plain_found P (Some a) rule h n = simple_plain (rule a) (n a h)

module _ (s : Schema) (x : Table) (e : Environment) (w : IsOrderly s) (c : are_simple e.context ≡ true) where
  mutual
    pub simple_judgement : (known : Facts) (t : Tree) → SimpleOf (judgement (strictly s x e) known t)
    simple_judgement known (lit p) = simple_plain _ (simple_literal (strictly s x e) p)
    simple_judgement known (var y) = simple_var (strictly s x e) c y
    simple_judgement known (slot y) = simple_slot (strictly s x e) y
    simple_judgement known (unknown n a) = tt
    simple_judgement known (choice t a b) =
        simple_then (judgement (strictly s x e) known t) (choice_judged (strictly s x e) (λ f. judgement (strictly s x e) (union known f) a) (judgement (strictly s x e) known b)) (simple_judgement known t)
        (λ u f h. simple_choice (strictly s x e) (λ g. judgement (strictly s x e) (union known g) a) (judgement (strictly s x e) known b) refl (λ g. simple_judgement (union known g) a) (simple_judgement known b) u f)
    simple_judgement known (both a b) = simple_found (judgement (strictly s x e) known a) _ (λ j. simple_and (λ f. judgement (strictly s x e) (union known f) b) j.type j.facts)
    simple_judgement known (either a b) = simple_found (judgement (strictly s x e) known a) _ (λ j. simple_or (judgement (strictly s x e) known b) j.type j.facts)
    simple_judgement known (unary o a) = simple_found (judgement (strictly s x e) known a) _ (λ j. simple_plain (unary_type o j.type) (simple_unary o j.type))
    simple_judgement known (binary o a b) =
        simple_then (judgement (strictly s x e) known a) (λ t f. option_and_then (λ k. binary_judged (strictly s x e) known o a b t k.type) (judgement (strictly s x e) known b)) (simple_judgement known a)
        (λ t f h. simple_found (judgement (strictly s x e) known b) _ (λ k. simple_judged (strictly s x e) w refl known o a b t k.type h))
    simple_judgement known (call n ts) = simple_found (judgements (strictly s x e) known ts) _ (λ us. simple_plain _ (simple_call (strictly s x e) ts us (signature_of x n)))
    simple_judgement known (get_attr t a) = simple_then (judgement (strictly s x e) known t) (λ u f. plain (get_type (strictly s x e) known t u a)) (simple_judgement known t) (λ u f h. simple_plain _ (simple_get (strictly s x e) w known t u a h))
    simple_judgement known (has_attr t a) = simple_found (judgement (strictly s x e) known t) _ (λ j. simple_test t (attribute_part a) (has_type (strictly s x e) j.type a))
    simple_judgement known (has_path t a bs) = simple_found (judgement (strictly s x e) known t) _ (λ j. simple_path (strictly s x e) a bs t j.type)
    simple_judgement known (like t p) = simple_found (judgement (strictly s x e) known t) _ (λ j. simple_plain (like_type j.type) (simple_like j.type))
    simple_judgement known (is_type t n) = simple_found (judgement (strictly s x e) known t) _ (λ j. simple_plain (is_type_type n j.type) (simple_is n j.type))
    simple_judgement known (set_literal ts) = plain_found AreSimple (judgements (strictly s x e) known ts) (set_literal_type strict) (simple_each known ts) simple_set
    simple_judgement known (record_literal fs) = plain_found (λ as_. fields_simple as_ ≡ true) (field_judgements (strictly s x e) known fs) record_literal_type (simple_fields known fs) simple_record

    pub simple_each : (known : Facts) (ts : Trees) → IfSome (judgements (strictly s x e) known ts) AreSimple
    simple_each known no_trees = λ t i. absurd (contains_none t i)
    simple_each known (tree t ts) = each_simple (judgement (strictly s x e) known t) (judgements (strictly s x e) known ts) (simple_judgement known t) (simple_each known ts)

    pub simple_fields : (known : Facts) (fs : TreeFields) → IfSome (field_judgements (strictly s x e) known fs) (λ as_. fields_simple as_ ≡ true)
    simple_fields known no_tree_fields = refl
    simple_fields known (tree_field a t fs) = each_field_simple a (judgement (strictly s x e) known t) (field_judgements (strictly s x e) known fs) (simple_judgement known t) (simple_fields known fs)

  pub types_are_simple : (known : Facts) (t : Tree) (ty : Ty) (out : Facts) → Types (strictly s x e) known t ty out → is_simple ty ≡ true
  types_are_simple known t ty out d =
      let q : judgement (strictly s x e) known t ≡ Some (of_parts ty out) = (exact (strictly s x e) known t).only ty out d in
      subst (λ o. SimpleOf o) q (simple_judgement known t)

  pub each_typed_simple : (known : Facts) (ts : Trees) (us : List Ty) → EachTyped (strictly s x e) known ts us → AreSimple us
  each_typed_simple known ts us d =
      let q : judgements (strictly s x e) known ts ≡ Some us = (exact_each (strictly s x e) known ts).only us d in
      subst (λ o. IfSome o AreSimple) q (simple_each known ts)
