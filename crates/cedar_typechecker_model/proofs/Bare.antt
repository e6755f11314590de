-- Only an expression of the type of both truth values has facts.
use Rattle.std.proofs.Common.{◌≡◌, ◌&&◌, Bool, true, false, List, [], ◌∷◌, Option, Some, None, refl, ap, ◌∙◌}
use Rattle.std.specs.Prelude.{option_map, option_and_then}
use Rattle.cedar_expr_model.specs.Name.{Text}
use Rattle.cedar_expr_model.specs.Tree.{BinaryOp, get_tag, has_tag, Tree, lit, var, slot, unknown, choice, both, either, unary, binary, call, get_attr, has_attr, has_path, like, is_type, set_literal, record_literal}
use Rattle.cedar_schema_model.specs.Types.{BoolType, any_bool, only_true, only_false, Ty, bool_type, never, Mode}
use Rattle.cedar_schema_model.specs.Join.{join}
use Rattle.cedar_typechecker_model.specs.Facts.{Facts, no_facts, union, intersection, Part, attribute_part, tag_part}
use Rattle.cedar_typechecker_model.specs.Rules.{Setting, literal_type, var_type, slot_type, unary_type, binary_type, like_type, is_type_type, has_type, get_type, has_tag_type, get_tag_type, set_literal_type, record_literal_type, call_type}
use Rattle.cedar_typechecker_model.specs.Typing.{Judgement, judged, plain, tested, conjoined, disjoined, chosen, step_type, path_judged, binary_judged, Types, and_judged, or_judged, choice_judged, judgement, judgements, field_judgements}
use Rattle.cedar_typechecker_model.proofs.Exact.{of_parts}
use Rattle.cedar_typechecker_model.proofs.Typing.{exact}

-- no facts, but for the type of both truth values
abbrev pub Bare : Ty → Facts → Type 0
Bare (bool_type any_bool) f = Unit {0}
Bare t f = f ≡ no_facts

abbrev pub BareOf : Option Judgement → Type 0
BareOf None = Unit {0}
BareOf (Some j) = Bare j.type j.facts

bare_none : (t : Ty) → Bare t no_facts
bare_none (bool_type any_bool) = tt
bare_none t = refl

bare_plain : (o : Option Ty) → BareOf (plain o)
bare_plain None = tt
bare_plain (Some t) = bare_none t

bare_then : (o : Option Judgement) (step : Ty → Facts → Option Judgement) → BareOf o → ((t : Ty) (f : Facts) → Bare t f → BareOf (step t f)) → BareOf (option_and_then (λ j. step j.type j.facts) o)
bare_then None step h n = tt
bare_then (Some j) step h n = n j.type j.facts h

bare_found : {A : Type 0} (o : Option A) (step : A → Option Judgement) → ((a : A) → BareOf (step a)) → BareOf (option_and_then step o)
bare_found None step n = tt
bare_found (Some a) step n = n a

bare_tested : (e : Tree) (p : Part) (b : BoolType) → Bare (tested e p b).type (tested e p b).facts
bare_tested e p any_bool = tt
bare_tested e p b = refl

bare_test : (e : Tree) (p : Part) (o : Option BoolType) → BareOf (option_map (tested e p) o)
bare_test e p None = tt
bare_test e p (Some b) = bare_tested e p b

bare_union : (f g : Facts) → f ≡ no_facts → g ≡ no_facts → union f g ≡ no_facts
bare_union f g p q = λ i. union (p i) (q i)

and_false : (b : Bool) → (b && false) ≡ false
and_false true = refl
and_false false = refl

bare_intersection : (f g : Facts) → g ≡ no_facts → intersection f g ≡ no_facts
bare_intersection f g q = ap (intersection f) q ∙ (λ i e p. and_false (f e p) i)

bare_conjoined : (b : BoolType) (f : Facts) (t : Ty) (g : Facts) → Bare (bool_type b) f → Bare t g → BareOf (conjoined b f t g)
bare_conjoined b f (bool_type only_false) g h k = refl
bare_conjoined only_true f (bool_type only_true) g h k = bare_union f g h k
bare_conjoined b f (bool_type c) g h k = tt
bare_conjoined b f t g h k = tt

bare_disjoined : (b : BoolType) (f : Facts) (t : Ty) (g : Facts) → Bare (bool_type b) f → Bare t g → BareOf (disjoined b f t g)
bare_disjoined b f (bool_type only_true) g h k = k
bare_disjoined only_false f (bool_type c) g h k = k
bare_disjoined b f (bool_type only_false) g h k = h
bare_disjoined b f (bool_type c) g h k = tt
bare_disjoined b f t g h k = tt

-- a join of which the second type has no facts
bare_kept : (j : Option Ty) (f g : Facts) → g ≡ no_facts → BareOf (option_map (λ t. record { type = t; facts = intersection f g }) j)
bare_kept None f g q = tt
bare_kept (Some (bool_type any_bool)) f g q = tt
bare_kept (Some t) f g q = bare_intersection f g q

-- a type joins with that of both truth values to that type alone
bare_joined : (m : Mode) (t : Ty) (f : Facts) → BareOf (option_map (λ u. record { type = u; facts = f }) (join m t (bool_type any_bool)))
bare_joined m never f = tt
bare_joined m (bool_type any_bool) f = tt
bare_joined m (bool_type only_true) f = tt
bare_joined m (bool_type only_false) f = tt
bare_joined m t f = tt

bare_chosen : (s : Setting) (t : Ty) (f : Facts) (u : Ty) (g : Facts) → Bare u g → BareOf (chosen s t f u g)
bare_chosen s t f (bool_type any_bool) g k = bare_joined s.mode t (intersection f g)
bare_chosen s t f u g k = bare_kept (join s.mode t u) f g k

bare_and : (r : Facts → Option Judgement) → ((f : Facts) → BareOf (r f)) → (t : Ty) (f : Facts) → Bare t f → BareOf (and_judged r t f)
bare_and r n (bool_type only_false) f h = refl
bare_and r n (bool_type b) f h = bare_then (r f) (conjoined b f) (n f) (λ t g k. bare_conjoined b f t g h k)
bare_and r n t f h = tt

bare_or : (r : Option Judgement) → BareOf r → (t : Ty) (f : Facts) → Bare t f → BareOf (or_judged r t f)
bare_or r n (bool_type only_true) f h = h
bare_or r n (bool_type b) f h = bare_then r (disjoined b f) n (λ t g k. bare_disjoined b f t g h k)
bare_or r n t f h = tt

bare_both : (t : Ty) (f g : Facts) → f ≡ no_facts → Bare t g → Bare t (union f g)
bare_both (bool_type any_bool) f g p q = tt
bare_both t f g p q = bare_union f g p q

bare_choice : (s : Setting) (r : Facts → Option Judgement) (q : Option Judgement) → ((f : Facts) → BareOf (r f)) → BareOf q → (t : Ty) (f : Facts) → Bare t f → BareOf (choice_judged s r q t f)
bare_choice s r q n m (bool_type only_true) f h = bare_then (r f) (λ t g. judged t (union f g)) (n f) (λ t g k. bare_both t f g h k)
bare_choice s r q n m (bool_type only_false) f h = m
bare_choice s r q n m (bool_type any_bool) f h = bare_found (r f) (λ j. option_and_then (λ k. chosen s j.type (union f j.facts) k.type k.facts) q) (λ j. bare_then q (chosen s j.type (union f j.facts)) m (λ u g k. bare_chosen s j.type (union f j.facts) u g k))
bare_choice s r q n m t f h = tt

bare_binary : (s : Setting) (known : Facts) (o : BinaryOp) (a b : Tree) (t u : Ty) → BareOf (binary_judged s known o a b t u)
bare_binary s known get_tag a b t u = bare_plain (get_tag_type s known a b t u)
bare_binary s known has_tag a b t u = bare_test a (tag_part b) (has_tag_type s t u)
bare_binary s known o a b t u = bare_plain (binary_type s o a b t u)

-- a path
bare_path : (s : Setting) (a : Text) (bs : List Text) (e : Tree) (t : Ty) → BareOf (path_judged s a bs e t)
bare_path s a [] e t = bare_test e (attribute_part a) (has_type s t a)
bare_path s a (b ∷ bs) e t =
    bare_then (option_map (tested e (attribute_part a)) (has_type s t a)) (and_judged (λ f. option_and_then (path_judged s b bs (get_attr e a)) (step_type s t a))) (bare_test e (attribute_part a) (has_type s t a))
    (bare_and (λ f. option_and_then (path_judged s b bs (get_attr e a)) (step_type s t a)) (λ f. bare_found (step_type s t a) _ (bare_path s b bs (get_attr e a))))

pub bare : (s : Setting) (known : Facts) (t : Tree) → BareOf (judgement s known t)
bare s known (lit p) = bare_plain (literal_type s p)
bare s known (var x) = bare_none (var_type s x)
bare s known (slot x) = bare_none (slot_type s x)
bare s known (unknown n a) = tt
bare s known (choice t a b) =
    bare_then (judgement s known t) (choice_judged s (λ f. judgement s (union known f) a) (judgement s known b)) (bare s known t)
    (bare_choice s (λ f. judgement s (union known f) a) (judgement s known b) (λ f. bare s (union known f) a) (bare s known b))
bare s known (both a b) = bare_then (judgement s known a) (and_judged (λ f. judgement s (union known f) b)) (bare s known a) (bare_and (λ f. judgement s (union known f) b) (λ f. bare s (union known f) b))
bare s known (either a b) = bare_then (judgement s known a) (or_judged (judgement s known b)) (bare s known a) (bare_or (judgement s known b) (bare s known b))
bare s known (unary o a) = bare_found (judgement s known a) _ (λ j. bare_plain (unary_type o j.type))
bare s known (binary o a b) = bare_found (judgement s known a) _ (λ j. bare_found (judgement s known b) _ (λ k. bare_binary s known o a b j.type k.type))
bare s known (call n ts) = bare_found (judgements s known ts) _ (λ us. bare_plain (call_type s n ts us))
bare s known (get_attr e a) = bare_found (judgement s known e) _ (λ j. bare_plain (get_type s known e j.type a))
bare s known (has_attr e a) = bare_found (judgement s known e) _ (λ j. bare_test e (attribute_part a) (has_type s j.type a))
bare s known (has_path e a bs) = bare_found (judgement s known e) _ (λ j. bare_path s a bs e j.type)
bare s known (like e p) = bare_found (judgement s known e) _ (λ j. bare_plain (like_type j.type))
bare s known (is_type e n) = bare_found (judgement s known e) _ (λ j. bare_plain (is_type_type n j.type))
bare s known (set_literal ts) = bare_found (judgements s known ts) _ (λ us. bare_plain (set_literal_type s.mode us))
bare s known (record_literal fs) = bare_found (field_judgements s known fs) _ (λ as_. bare_plain (record_literal_type as_))

not_bool : (t : Ty) (f : Facts) → Bare t f → (t ≡ bool_type any_bool → ⊥) → f ≡ no_facts
not_bool (bool_type any_bool) f h n = absurd (n refl)
not_bool t f h n = h

pub facts_are_of_bool : (s : Setting) (known : Facts) (t : Tree) (ty : Ty) (out : Facts) → Types s known t ty out → (ty ≡ bool_type any_bool → ⊥) → out ≡ no_facts
facts_are_of_bool s known t ty out d n =
    let e : judgement s known t ≡ Some (of_parts ty out) = (exact s known t).only ty out d in
    let h : BareOf (Some (of_parts ty out)) = rw e at (bare s known t) in
    not_bool ty out h n

pub truth_has_no_facts : (s : Setting) (known : Facts) (t : Tree) (out : Facts) → judgement s known t ≡ Some (record { type = bool_type only_true; facts = out }) → out ≡ no_facts
truth_has_no_facts s known t out e = let h : BareOf (Some (of_parts (bool_type only_true) out)) = rw e at (bare s known t) in h
