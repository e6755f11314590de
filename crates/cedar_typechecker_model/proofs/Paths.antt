-- The test of a path is typed as the conjunction of its tests.
use Rattle.std.proofs.Common.{◌≡◌, ◌||◌, Bool, true, false, List, [], ◌∷◌, Option, Some, None, refl, sym, ap, ◌∙◌}
use Rattle.std.specs.Prelude.{option_map, option_and_then, if◌then◌else◌}
use Rattle.cedar_expr_model.specs.Name.{Text}
use Rattle.cedar_expr_model.specs.Tree.{Tree, get_attr, has_path}
use Rattle.cedar_expr_model.proofs.Lists.{hold_both, hold_left, hold_right}
use Rattle.cedar_schema_model.specs.Types.{BoolType, any_bool, only_true, only_false, Openness, Ty, bool_type, never, long_type, string_type, any_entity, entity_types, any_set, set_type, record_type, extension_type, Declared, attribute_named}
use Rattle.cedar_schema_model.specs.Lookup.{lookup_attribute, may_have_attribute}
use Rattle.cedar_typechecker_model.specs.Facts.{Facts, no_facts, fact, union, attribute_part}
use Rattle.cedar_typechecker_model.specs.Rules.{Setting, has_type, has_field, get_type, attribute_type}
use Rattle.cedar_typechecker_model.specs.Typing.{Judgement, plain, tested, conjoined, step_type, path_judged, and_judged, judgement}
use Rattle.cedar_typechecker_model.specs.Laws.{FactsAmong, path_unfolded}
use Rattle.cedar_typechecker_model.proofs.Itself.{tree_same, bytes_same}
use Rattle.cedar_typechecker_model.proofs.More.{more}

-- what is declared of an attribute whose test is True is required
required_field : (o : Openness) (d e : Declared) → has_field o (Some d) ≡ only_true → Some d ≡ Some e → e.is_required ≡ true
required_field o d e h k = let q : d ≡ e = cc in ap (λ (x : Declared). x.is_required) (sym q) ∙ fits d.is_required h
  where
    fits : (r : Bool) → (if r then only_true else any_bool) ≡ only_true → r ≡ true
    fits true h = refl
    fits false h = cc

declared_required : (o : Openness) (found : Option Declared) (d : Declared) → Some (has_field o found) ≡ Some only_true → found ≡ Some d → d.is_required ≡ true
declared_required o None d h e = cc
declared_required o (Some c) d h e = let q : has_field o (Some c) ≡ only_true = cc in required_field o c d q e

never_true : (b : Bool) → Some (if b then any_bool else only_false) ≡ Some only_true → ⊥
never_true true h = cc
never_true false h = cc

required : (s : Setting) (t : Ty) (a : Text) (d : Declared) → has_type s t a ≡ Some only_true → lookup_attribute s.schema t a ≡ Some d → d.is_required ≡ true
required s (record_type as_ o) a d h e = declared_required o (attribute_named a as_) d h e
required s any_entity a d h e = cc
required s (entity_types ns) a d h e = absurd (never_true (may_have_attribute s.schema (entity_types ns) a) h)
required s never a d h e = cc
required s (bool_type b) a d h e = cc
required s long_type a d h e = cc
required s string_type a d h e = cc
required s any_set a d h e = cc
required s (set_type t) a d h e = cc
required s (extension_type n) a d h e = cc

union_more : (f g : Facts) → FactsAmong f (union f g)
union_more f g e p h = hold_left (f e p) (g e p) h

known_now : (known : Facts) (e : Tree) (a : Text) → (union known (fact e (attribute_part a))) e (attribute_part a) ≡ true
known_now known e a = hold_right (known e (attribute_part a)) _ (hold_both _ _ (tree_same e) (bytes_same a))

-- an attribute that is there has its declared type
there_required : (is_known : Bool) (d : Declared) → (d.is_required || is_known) ≡ true → attribute_type is_known (Some d) ≡ Some d.type
there_required k d h = rw h refl

-- what follows an expression without a type has none
none_follows : (s : Setting) (known : Facts) (e : Tree) (a : Text) (bs : List Text) → judgement s known e ≡ None → judgement s known (path_unfolded e a bs) ≡ None
none_follows s known e a [] h = rw h refl
none_follows s known e a (b ∷ bs) h = rw h refl

-- The next step of a path that goes on: the attribute is there, and then the rest.
module _ (s : Setting) (known : Facts) (e : Tree) (a b : Text) (bs : List Text) (j : Judgement) (f : Facts)
    (typed : judgement s (union known f) e ≡ Some j)
    (rest : (d : Ty) → judgement s (union known f) (get_attr e a) ≡ Some (record { type = d; facts = no_facts }) → judgement s (union known f) (path_unfolded (get_attr e a) b bs) ≡ path_judged s b bs (get_attr e a) d)
    (there : (d : Declared) → lookup_attribute s.schema j.type a ≡ Some d → (d.is_required || union known f e (attribute_part a)) ≡ true)
  where
    got : (found : Option Declared) → lookup_attribute s.schema j.type a ≡ found → judgement s (union known f) (get_attr e a) ≡ plain (attribute_type (union known f e (attribute_part a)) found)
    got found h = ap (option_and_then (λ k. plain (get_type s (union known f) e k.type a))) typed ∙ ap (λ x. plain (attribute_type (union known f e (attribute_part a)) x)) h

    goes_on : (found : Option Declared) → lookup_attribute s.schema j.type a ≡ found → judgement s (union known f) (path_unfolded (get_attr e a) b bs) ≡ option_and_then (path_judged s b bs (get_attr e a)) (option_map (λ (d : Declared). d.type) found)
    goes_on None h = none_follows s (union known f) (get_attr e a) b bs (got None h)
    goes_on (Some d) h = rest d.type (got (Some d) h ∙ ap plain (there_required _ d (there d h)))

    after_step : (left : BoolType) →
        option_and_then (λ r. conjoined left f r.type r.facts) (judgement s (union known f) (path_unfolded (get_attr e a) b bs))
        ≡ option_and_then (λ r. conjoined left f r.type r.facts) (option_and_then (path_judged s b bs (get_attr e a)) (step_type s j.type a))
    after_step left = ap (option_and_then (λ r. conjoined left f r.type r.facts)) (goes_on (lookup_attribute s.schema j.type a) refl)

-- a path of two steps or more, by its first test
module _ (s : Setting) (known : Facts) (e : Tree) (a b : Text) (bs : List Text) (j : Judgement)
    (typed : (f : Facts) → judgement s (union known f) e ≡ Some j)
    (rest : (f : Facts) (d : Ty) → judgement s (union known f) (get_attr e a) ≡ Some (record { type = d; facts = no_facts }) → judgement s (union known f) (path_unfolded (get_attr e a) b bs) ≡ path_judged s b bs (get_attr e a) d)
  where
    by_first : (found : Option BoolType) → has_type s j.type a ≡ found →
        option_and_then (λ k. and_judged (λ f. judgement s (union known f) (path_unfolded (get_attr e a) b bs)) k.type k.facts) (option_map (tested e (attribute_part a)) found)
        ≡ option_and_then (λ k. and_judged (λ f. option_and_then (path_judged s b bs (get_attr e a)) (step_type s j.type a)) k.type k.facts) (option_map (tested e (attribute_part a)) found)
    by_first None q = refl
    by_first (Some only_false) q = refl
    by_first (Some any_bool) q = after_step s known e a b bs j (fact e (attribute_part a)) (typed _) (rest _) (λ d k. hold_right d.is_required _ (known_now known e a)) any_bool
    by_first (Some only_true) q = after_step s known e a b bs j no_facts (typed _) (rest _) (λ d k. hold_left d.is_required _ (required s j.type a d q k)) only_true

pub path_unfolds : (s : Setting) (known : Facts) (a : Text) (bs : List Text) (e : Tree) (j : Judgement) → judgement s known e ≡ Some j → judgement s known (path_unfolded e a bs) ≡ path_judged s a bs e j.type
path_unfolds s known a [] e j h = rw h refl
path_unfolds s known a (b ∷ bs) e j h =
    ap (λ o. option_and_then (λ k. and_judged (λ f. judgement s (union known f) (path_unfolded (get_attr e a) b bs)) k.type k.facts) (option_and_then (λ k. option_map (tested e (attribute_part a)) (has_type s k.type a)) o)) h
    ∙ by_first s known e a b bs j (λ f. (more s known (union known f) (union_more known f) e).stays j h)
    (λ f d q. path_unfolds s (union known f) b bs (get_attr e a) (record { type = d; facts = no_facts }) q) (has_type s j.type a) refl

pub paths_are_conjunctions : (s : Setting) (known : Facts) (e : Tree) (a : Text) (bs : List Text) → judgement s known (has_path e a bs) ≡ judgement s known (path_unfolded e a bs)
paths_are_conjunctions s known e a bs = by (judgement s known e) refl
  where
    by : (o : Option Judgement) → judgement s known e ≡ o → judgement s known (has_path e a bs) ≡ judgement s known (path_unfolded e a bs)
    by None h = ap (option_and_then (λ j. path_judged s a bs e j.type)) h ∙ sym (none_follows s known e a bs h)
    by (Some j) h = ap (option_and_then (λ j. path_judged s a bs e j.type)) h ∙ sym (path_unfolds s known a bs e j h)
