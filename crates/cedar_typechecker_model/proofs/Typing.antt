-- The typing relation and the function give the same.
use Rattle.std.proofs.Common.{◌≡◌, ◌↔◌, List, [], ◌∷◌, Option, Some, None, sym, ap, ◌∙◌}
use Rattle.std.specs.Prelude.{option_map, option_and_then, true}
use Rattle.cedar_expr_model.specs.Tree.{Tree, lit, var, slot, unknown, choice, both, either, unary, binary, call, get_attr, has_attr, has_path, like, is_type, set_literal, record_literal, Trees, no_trees, tree, TreeFields, no_tree_fields, tree_field}
use Rattle.cedar_schema_model.specs.Types.{any_bool, only_true, only_false, Ty, bool_type, Attributes, no_attributes, attribute}
use Rattle.cedar_typechecker_model.specs.Facts.{Facts, no_facts, union, attribute_part}
use Rattle.cedar_typechecker_model.specs.Rules.{Setting, literal_type, var_type, slot_type, unary_type, like_type, is_type_type, has_type, get_type, set_literal_type, record_literal_type, call_type}
use Rattle.cedar_typechecker_model.specs.Typing.{Judgement, judged, plain, tested, conjoined, disjoined, chosen, path_judged, binary_judged, Gives, Sub, AndTyped, OrTyped, ChoiceTyped, Types, EachTyped, FieldsTyped, and_judged, or_judged, choice_judged, judgement, judgements, field_judgements, type_of}
use Rattle.cedar_typechecker_model.proofs.Exact.{Exact, ExactAt, of_parts, exact_gives, exact_sub, exact_found, exact_at, exact_next, same_type, same_facts}

pub exact_and : (right : Facts → Ty → Facts → Type 0) (r : Facts → Option Judgement) → ((f : Facts) → Exact (right f) (r f)) → (t : Ty) (f : Facts) → Exact (AndTyped right t f) (and_judged r t f)
exact_and right r h (bool_type only_false) f = exact_gives _
exact_and right r h (bool_type b) f = exact_sub (right f) (λ u g. Gives (conjoined b f u g)) (r f) (conjoined b f) (h f) (λ u g. exact_gives (conjoined b f u g))
exact_and right r h t f = exact_gives None

exact_or : (right : Ty → Facts → Type 0) (r : Option Judgement) → Exact right r → (t : Ty) (f : Facts) → Exact (OrTyped right t f) (or_judged r t f)
exact_or right r h (bool_type only_true) f = exact_gives _
exact_or right r h (bool_type b) f = exact_sub right (λ u g. Gives (disjoined b f u g)) r (disjoined b f) h (λ u g. exact_gives (disjoined b f u g))
exact_or right r h t f = exact_gives None

exact_choice : (s : Setting) (first : Facts → Ty → Facts → Type 0) (second : Ty → Facts → Type 0) (r : Facts → Option Judgement) (q : Option Judgement) → ((f : Facts) → Exact (first f) (r f)) → Exact second q → (t : Ty) (f : Facts) → Exact (ChoiceTyped s first second t f) (choice_judged s r q t f)
exact_choice s first second r q h k (bool_type only_true) f = exact_sub (first f) (λ u g. Gives (judged u (union f g))) (r f) (λ u g. judged u (union f g)) (h f) (λ u g. exact_gives (judged u (union f g)))
exact_choice s first second r q h k (bool_type only_false) f = k
exact_choice s first second r q h k (bool_type any_bool) f =
    exact_sub (first f) (λ u g. Sub second (λ v i. Gives (chosen s u (union f g) v i))) (r f) (λ u g. option_and_then (λ p. chosen s u (union f g) p.type p.facts) q) (h f)
    (λ u g. exact_sub second (λ v i. Gives (chosen s u (union f g) v i)) q (chosen s u (union f g)) k (λ v i. exact_gives (chosen s u (union f g) v i)))
exact_choice s first second r q h k t f = exact_gives None

-- a rule on the type of one part
exact_one : (R : Ty → Facts → Type 0) (r : Option Judgement) → Exact R r → (rule : Ty → Option Judgement) → Exact (Sub R (λ t f. Gives (rule t))) (option_and_then (λ j. rule j.type) r)
exact_one R r h rule = exact_sub R (λ t f. Gives (rule t)) r (λ t f. rule t) h (λ t f. exact_gives (rule t))

-- typing and the function agree
mutual
  pub exact : (s : Setting) (known : Facts) (t : Tree) → Exact (Types s known t) (judgement s known t)
  exact s known (lit p) = exact_gives (plain (literal_type s p))
  exact s known (var x) = exact_gives (plain (Some (var_type s x)))
  exact s known (slot x) = exact_gives (plain (Some (slot_type s x)))
  exact s known (unknown n a) = exact_gives None
  exact s known (choice t a b) =
      exact_sub (Types s known t) (ChoiceTyped s (λ f. Types s (union known f) a) (Types s known b)) (judgement s known t) (choice_judged s (λ f. judgement s (union known f) a) (judgement s known b)) (exact s known t)
      (exact_choice s (λ f. Types s (union known f) a) (Types s known b) (λ f. judgement s (union known f) a) (judgement s known b) (λ f. exact s (union known f) a) (exact s known b))
  exact s known (both a b) =
      exact_sub (Types s known a) (AndTyped (λ f. Types s (union known f) b)) (judgement s known a) (and_judged (λ f. judgement s (union known f) b)) (exact s known a)
      (exact_and (λ f. Types s (union known f) b) (λ f. judgement s (union known f) b) (λ f. exact s (union known f) b))
  exact s known (either a b) =
      exact_sub (Types s known a) (OrTyped (Types s known b)) (judgement s known a) (or_judged (judgement s known b)) (exact s known a)
      (exact_or (Types s known b) (judgement s known b) (exact s known b))
  exact s known (unary o a) = exact_one (Types s known a) (judgement s known a) (exact s known a) (λ t. plain (unary_type o t))
  exact s known (binary o a b) =
      exact_sub (Types s known a) (λ t f. Sub (Types s known b) (λ u g. Gives (binary_judged s known o a b t u))) (judgement s known a)
      (λ t f. option_and_then (λ k. binary_judged s known o a b t k.type) (judgement s known b)) (exact s known a)
      (λ t f. exact_one (Types s known b) (judgement s known b) (exact s known b) (binary_judged s known o a b t))
  exact s known (call n ts) = exact_found (EachTyped s known ts) (judgements s known ts) (λ us. plain (call_type s n ts us)) (exact_each s known ts)
  exact s known (get_attr e a) = exact_one (Types s known e) (judgement s known e) (exact s known e) (λ t. plain (get_type s known e t a))
  exact s known (has_attr e a) = exact_one (Types s known e) (judgement s known e) (exact s known e) (λ t. option_map (tested e (attribute_part a)) (has_type s t a))
  exact s known (has_path e a bs) = exact_one (Types s known e) (judgement s known e) (exact s known e) (path_judged s a bs e)
  exact s known (like e p) = exact_one (Types s known e) (judgement s known e) (exact s known e) (λ t. plain (like_type t))
  exact s known (is_type e n) = exact_one (Types s known e) (judgement s known e) (exact s known e) (λ t. plain (is_type_type n t))
  exact s known (set_literal ts) = exact_found (EachTyped s known ts) (judgements s known ts) (λ us. plain (set_literal_type s.mode us)) (exact_each s known ts)
  exact s known (record_literal fs) = exact_found (FieldsTyped s known fs) (field_judgements s known fs) (λ as_. plain (record_literal_type as_)) (exact_fields s known fs)

  pub exact_each : (s : Setting) (known : Facts) (ts : Trees) → ExactAt (EachTyped s known ts) (judgements s known ts)
  exact_each s known no_trees = exact_at []
  exact_each s known (tree e es) = exact_next (Types s known e) (EachTyped s known es) (judgement s known e) (judgements s known es) (λ t ts. t ∷ ts) (exact s known e) (exact_each s known es)

  pub exact_fields : (s : Setting) (known : Facts) (fs : TreeFields) → ExactAt (FieldsTyped s known fs) (field_judgements s known fs)
  exact_fields s known no_tree_fields = exact_at no_attributes
  exact_fields s known (tree_field a e fs) = exact_next (Types s known e) (FieldsTyped s known fs) (judgement s known e) (field_judgements s known fs) (λ t bs. attribute a t true bs) (exact s known e) (exact_fields s known fs)

pub typing_is_a_function : (s : Setting) (known : Facts) (t : Tree) (ty : Ty) (out : Facts) → Types s known t ty out ↔ (judgement s known t ≡ Some (record { type = ty; facts = out }))
typing_is_a_function s known t ty out = ((exact s known t).only ty out, (exact s known t).gives ty out)

pub lists_are_typed : (s : Setting) (known : Facts) (ts : Trees) (us : List Ty) → EachTyped s known ts us ↔ (judgements s known ts ≡ Some us)
lists_are_typed s known ts us = ((exact_each s known ts).only us, (exact_each s known ts).gives us)

pub fields_are_typed : (s : Setting) (known : Facts) (fs : TreeFields) (as_ : Attributes) → FieldsTyped s known fs as_ ↔ (field_judgements s known fs ≡ Some as_)
fields_are_typed s known fs as_ = ((exact_fields s known fs).only as_, (exact_fields s known fs).gives as_)

pub one_judgement : (s : Setting) (known : Facts) (t : Tree) (a b : Ty) (f g : Facts) → Types s known t a f → Types s known t b g → (a ≡ b) × (f ≡ g)
one_judgement s known t a b f g h k =
    let p = (exact s known t).only a f h in
    let q = (exact s known t).only b g k in
    let e = sym p ∙ q in
    (same_type (of_parts a f) (of_parts b g) e, same_facts (of_parts a f) (of_parts b g) e)

-- what a type without facts says
judged_type : (found : Option Judgement) (ty : Ty) → option_map (λ (j : Judgement). j.type) found ≡ Some ty → (f : Facts) × (found ≡ Some (of_parts ty f))
judged_type None ty e = cc
judged_type (Some j) ty e = let q : j.type ≡ ty = cc in (j.facts, λ i. Some (of_parts (q i) j.facts))

pub has_its_type : (s : Setting) (t : Tree) (ty : Ty) → type_of s t ≡ Some ty → (f : Facts) × Types s no_facts t ty f
has_its_type s t ty e = let r = judged_type (judgement s no_facts t) ty e in (r.0, (exact s no_facts t).gives ty r.0 r.1)

pub type_is : (s : Setting) (t : Tree) (ty : Ty) (f : Facts) → Types s no_facts t ty f → type_of s t ≡ Some ty
type_is s t ty f h = ap (option_map (λ (j : Judgement). j.type)) ((exact s no_facts t).only ty f h)
