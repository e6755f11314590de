-- Typing: a relation between setting, prior facts, expression, type and later facts, and the function of that shape.
-- Rule: typing (docs/RULES.md).
use Rattle.std.specs.Prelude.{◌≡◌, List, [], ◌∷◌, true, Option, Some, None, option_map, option_and_then}
use Rattle.cedar_expr_model.specs.Name.{Text}
use Rattle.cedar_expr_model.specs.Tree.{BinaryOp, get_tag, has_tag, Tree, lit, var, slot, unknown, choice, both, either, unary, binary, call, get_attr, has_attr, has_path, like, is_type, set_literal, record_literal, Trees, no_trees, tree, TreeFields, no_tree_fields, tree_field}
use Rattle.cedar_schema_model.specs.Types.{BoolType, any_bool, only_true, only_false, Ty, bool_type, Attributes, no_attributes, attribute}
use Rattle.cedar_schema_model.specs.Join.{join}
use Rattle.cedar_schema_model.specs.Lookup.{lookup_attribute}
use Rattle.cedar_typechecker_model.specs.Facts.{Facts, no_facts, fact, union, intersection, Part, attribute_part, tag_part}
use Rattle.cedar_typechecker_model.specs.Rules.{Setting, literal_type, var_type, slot_type, unary_type, binary_type, like_type, is_type_type, has_type, get_type, has_tag_type, get_tag_type, set_literal_type, record_literal_type, call_type}

-- a type, and the facts that hold where the expression is true
pub record Judgement : Type 0 where
  pub type : Ty
  pub facts : Facts

abbrev pub judged : Ty → Facts → Option Judgement
judged t f = Some (record { type = t; facts = f })

-- a type, if a rule gives one, and no facts
abbrev pub plain : Option Ty → Option Judgement
plain found = option_map (λ t. record { type = t; facts = no_facts }) found

-- a test of a part: where it isn't decided it gives the fact that the part is there
abbrev pub tested : Tree → Part → BoolType → Judgement
tested e p any_bool = record { type = bool_type any_bool; facts = fact e p }
tested e p b = record { type = bool_type b; facts = no_facts }

-- A conjunction by the type of its right side, where the left isn't False.
abbrev pub conjoined : BoolType → Facts → Ty → Facts → Option Judgement
conjoined left f (bool_type only_false) g = judged (bool_type only_false) no_facts
conjoined only_true f (bool_type only_true) g = judged (bool_type only_true) (union f g)
conjoined left f (bool_type right) g = judged (bool_type any_bool) (union f g)
conjoined left f t g = None

-- A disjunction by the type of its right side, where the left isn't True.
abbrev pub disjoined : BoolType → Facts → Ty → Facts → Option Judgement
disjoined left f (bool_type only_true) g = judged (bool_type only_true) g
disjoined only_false f (bool_type right) g = judged (bool_type right) g
disjoined left f (bool_type only_false) g = judged (bool_type left) f
disjoined left f (bool_type right) g = judged (bool_type any_bool) (intersection f g)
disjoined left f t g = None

-- a choice between branches of these types: what holds after each
abbrev pub chosen : Setting → Ty → Facts → Ty → Facts → Option Judgement
chosen s t f u g = option_map (λ j. record { type = j; facts = intersection f g }) (join s.mode t u)

-- The attribute of a path's next step, which is known to be there.
abbrev pub step_type : Setting → Ty → Text → Option Ty
step_type s t a = option_map (λ d. d.type) (lookup_attribute s.schema t a)

-- a conjunction by the type of its left side: behind False the right side isn't typed
abbrev pub and_judged : (Facts → Option Judgement) → Ty → Facts → Option Judgement
and_judged right (bool_type only_false) f = judged (bool_type only_false) no_facts
and_judged right (bool_type left) f = option_and_then (λ r. conjoined left f r.type r.facts) (right f)
and_judged right t f = None

-- A path of attributes from an expression of this type, as the conjunction of its tests.
abbrev pub path_judged : Setting → Text → List Text → Tree → Ty → Option Judgement
path_judged s a [] e t = option_map (tested e (attribute_part a)) (has_type s t a)
path_judged s a (b ∷ bs) e t =
    option_and_then (λ j. and_judged (λ f. option_and_then (path_judged s b bs (get_attr e a)) (step_type s t a)) j.type j.facts) (option_map (tested e (attribute_part a)) (has_type s t a))

-- a tag, or the test of one; another operator of two operands
abbrev pub binary_judged : Setting → Facts → BinaryOp → Tree → Tree → Ty → Ty → Option Judgement
binary_judged s known get_tag a b t u = plain (get_tag_type s known a b t u)
binary_judged s known has_tag a b t u = option_map (tested a (tag_part b)) (has_tag_type s t u)
binary_judged s known o a b t u = plain (binary_type s o a b t u)

-- this judgement, if a rule gives one
abbrev pub Gives : Option Judgement → Ty → Facts → Type 0
Gives None t out = ⊥
Gives (Some j) t out = (t ≡ j.type) × (out ≡ j.facts)

-- a part's type and facts, and then what follows from them
abbrev pub Sub : (Ty → Facts → Type 0) → (Ty → Facts → Ty → Facts → Type 0) → Ty → Facts → Type 0
Sub first next t out = (u : Ty) × (f : Facts) × first u f × next u f t out

-- A conjunction by the type of its left side: behind False the right side isn't typed.
abbrev pub AndTyped : (Facts → Ty → Facts → Type 0) → Ty → Facts → Ty → Facts → Type 0
AndTyped right (bool_type only_false) f = Gives (judged (bool_type only_false) no_facts)
AndTyped right (bool_type left) f = Sub (right f) (λ u g. Gives (conjoined left f u g))
AndTyped right t f = Gives None

-- A disjunction by the type of its left side: behind True the right side isn't typed.
abbrev pub OrTyped : (Ty → Facts → Type 0) → Ty → Facts → Ty → Facts → Type 0
OrTyped right (bool_type only_true) f = Gives (judged (bool_type only_true) f)
OrTyped right (bool_type left) f = Sub right (λ u g. Gives (disjoined left f u g))
OrTyped right t f = Gives None

-- A choice by the type of its test: behind True and False the branch that is taken alone is typed.
abbrev pub ChoiceTyped : Setting → (Facts → Ty → Facts → Type 0) → (Ty → Facts → Type 0) → Ty → Facts → Ty → Facts → Type 0
ChoiceTyped s first second (bool_type only_true) f = Sub (first f) (λ u g. Gives (judged u (union f g)))
ChoiceTyped s first second (bool_type only_false) f = second
ChoiceTyped s first second (bool_type any_bool) f = Sub (first f) (λ u g. Sub second (λ v h. Gives (chosen s u (union f g) v h)))
ChoiceTyped s first second t f = Gives None

-- In this setting, with these facts known, the expression has this type, and these facts hold where it is true.
abbrev mutual
  pub Types : Setting → Facts → Tree → Ty → Facts → Type 0
  Types s known (lit p) = Gives (plain (literal_type s p))
  Types s known (var x) = Gives (plain (Some (var_type s x)))
  Types s known (slot x) = Gives (plain (Some (slot_type s x)))
  Types s known (unknown n a) = Gives None
  Types s known (choice t a b) = Sub (Types s known t) (ChoiceTyped s (λ f. Types s (union known f) a) (Types s known b))
  Types s known (both a b) = Sub (Types s known a) (AndTyped (λ f. Types s (union known f) b))
  Types s known (either a b) = Sub (Types s known a) (OrTyped (Types s known b))
  Types s known (unary o a) = Sub (Types s known a) (λ t f. Gives (plain (unary_type o t)))
  Types s known (binary o a b) = Sub (Types s known a) (λ t f. Sub (Types s known b) (λ u g. Gives (binary_judged s known o a b t u)))
  Types s known (call n ts) = λ t out. (us : List Ty) × EachTyped s known ts us × Gives (plain (call_type s n ts us)) t out
  Types s known (get_attr e a) = Sub (Types s known e) (λ t f. Gives (plain (get_type s known e t a)))
  Types s known (has_attr e a) = Sub (Types s known e) (λ t f. Gives (option_map (tested e (attribute_part a)) (has_type s t a)))
  Types s known (has_path e a bs) = Sub (Types s known e) (λ t f. Gives (path_judged s a bs e t))
  Types s known (like e p) = Sub (Types s known e) (λ t f. Gives (plain (like_type t)))
  Types s known (is_type e n) = Sub (Types s known e) (λ t f. Gives (plain (is_type_type n t)))
  Types s known (set_literal ts) = λ t out. (us : List Ty) × EachTyped s known ts us × Gives (plain (set_literal_type s.mode us)) t out
  Types s known (record_literal fs) = λ t out. (as_ : Attributes) × FieldsTyped s known fs as_ × Gives (plain (record_literal_type as_)) t out

  -- the types of expressions, one after the other
  pub EachTyped : Setting → Facts → Trees → List Ty → Type 0
  EachTyped s known no_trees us = us ≡ []
  EachTyped s known (tree e es) us = (t : Ty) × (f : Facts) × Types s known e t f × (ts : List Ty) × EachTyped s known es ts × (us ≡ t ∷ ts)

  -- the attributes that the fields of a record give, each of them required
  pub FieldsTyped : Setting → Facts → TreeFields → Attributes → Type 0
  FieldsTyped s known no_tree_fields as_ = as_ ≡ no_attributes
  FieldsTyped s known (tree_field a e fs) as_ = (t : Ty) × (f : Facts) × Types s known e t f × (bs : Attributes) × FieldsTyped s known fs bs × (as_ ≡ attribute a t true bs)

-- What the rules of types judge of expressions, as functions of what they judge of the parts; none where there is no type.
abbrev pub or_judged : Option Judgement → Ty → Facts → Option Judgement
or_judged right (bool_type only_true) f = judged (bool_type only_true) f
or_judged right (bool_type left) f = option_and_then (λ r. disjoined left f r.type r.facts) right
or_judged right t f = None

abbrev pub choice_judged : Setting → (Facts → Option Judgement) → Option Judgement → Ty → Facts → Option Judgement
choice_judged s first second (bool_type only_true) f = option_and_then (λ r. judged r.type (union f r.facts)) (first f)
choice_judged s first second (bool_type only_false) f = second
choice_judged s first second (bool_type any_bool) f = option_and_then (λ r. option_and_then (λ q. chosen s r.type (union f r.facts) q.type q.facts) second) (first f)
choice_judged s first second t f = None

abbrev mutual
  pub judgement : Setting → Facts → Tree → Option Judgement
  judgement s known (lit p) = plain (literal_type s p)
  judgement s known (var x) = plain (Some (var_type s x))
  judgement s known (slot x) = plain (Some (slot_type s x))
  judgement s known (unknown n a) = None
  judgement s known (choice t a b) = option_and_then (λ j. choice_judged s (λ f. judgement s (union known f) a) (judgement s known b) j.type j.facts) (judgement s known t)
  judgement s known (both a b) = option_and_then (λ j. and_judged (λ f. judgement s (union known f) b) j.type j.facts) (judgement s known a)
  judgement s known (either a b) = option_and_then (λ j. or_judged (judgement s known b) j.type j.facts) (judgement s known a)
  judgement s known (unary o a) = option_and_then (λ j. plain (unary_type o j.type)) (judgement s known a)
  judgement s known (binary o a b) = option_and_then (λ j. option_and_then (λ k. binary_judged s known o a b j.type k.type) (judgement s known b)) (judgement s known a)
  judgement s known (call n ts) = option_and_then (λ us. plain (call_type s n ts us)) (judgements s known ts)
  judgement s known (get_attr e a) = option_and_then (λ j. plain (get_type s known e j.type a)) (judgement s known e)
  judgement s known (has_attr e a) = option_and_then (λ j. option_map (tested e (attribute_part a)) (has_type s j.type a)) (judgement s known e)
  judgement s known (has_path e a bs) = option_and_then (λ j. path_judged s a bs e j.type) (judgement s known e)
  judgement s known (like e p) = option_and_then (λ j. plain (like_type j.type)) (judgement s known e)
  judgement s known (is_type e n) = option_and_then (λ j. plain (is_type_type n j.type)) (judgement s known e)
  judgement s known (set_literal ts) = option_and_then (λ us. plain (set_literal_type s.mode us)) (judgements s known ts)
  judgement s known (record_literal fs) = option_and_then (λ as_. plain (record_literal_type as_)) (field_judgements s known fs)

  pub judgements : Setting → Facts → Trees → Option (List Ty)
  judgements s known no_trees = Some []
  judgements s known (tree e es) = option_and_then (λ j. option_map (λ ts. j.type ∷ ts) (judgements s known es)) (judgement s known e)

  pub field_judgements : Setting → Facts → TreeFields → Option Attributes
  field_judgements s known no_tree_fields = Some no_attributes
  field_judgements s known (tree_field a e fs) = option_and_then (λ j. option_map (λ bs. attribute a j.type true bs) (field_judgements s known fs)) (judgement s known e)

-- the type of an expression, these facts being known
abbrev pub type_under : Setting → Facts → Tree → Option Ty
type_under s known t = option_map (λ j. j.type) (judgement s known t)

-- the type of an expression where nothing is known before
abbrev pub type_of : Setting → Tree → Option Ty
type_of s t = type_under s no_facts t
