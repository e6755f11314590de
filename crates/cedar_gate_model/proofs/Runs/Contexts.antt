-- What was bound stays bound, and what a context was by then it stays.
use Rattle.std.proofs.Common.{◌≡◌, ◌∙◌, Bool, true, false, cond, not, ◌&&◌, ◌||◌, is_some, List, ◌++◌, Option, Some, None, codes, refl, sym, ap, subst}
use Rattle.std.specs.Prelude.{unwrap_or, option_and_then}
use Rattle.std.specs.Option.{option_map_or}
use Rattle.std.specs.Str.{bytes_eq}
use Rattle.std.proofs.lemmas.List.Folds.{list_any-append}
use Rattle.std.proofs.lemmas.Slice.Eq.{bytes_eq-Decides}
use Rattle.cedar_expr_model.specs.Name.{Text, Name}
use Rattle.cedar_expr_model.specs.Uid.{Uid}
use Rattle.cedar_expr_model.specs.Tree.{CoreType, Tree, lit, unknown, call, set_literal, record_literal, Trees, no_trees, tree, TreeFields, no_tree_fields, tree_field}
use Rattle.cedar_expr_model.specs.Builder.{Builder, built, built_list, built_fields, tree_builder, trees, tree_fields}
use Rattle.cedar_expr_model.specs.Made.{Made}
use Rattle.cedar_expr_model.specs.Parts.{subexpressions, subexpressions_among, subexpressions_in_fields, unknown_here}
use Rattle.cedar_expr_model.specs.Restricted.{is_restricted, offence}
use Rattle.cedar_expr_model.specs.Substitution.{Bindings, substituted}
use Rattle.cedar_expr_model.specs.Unknowns.{has_unknown, EachUnknown}
use Rattle.cedar_store_model.specs.OfLaws.Extends.{Keeps}
use Rattle.cedar_evaluator_model.specs.Known.{known_entry, known_context}
use Rattle.cedar_evaluator_model.specs.Reauthorize.{context_from}
use Rattle.cedar_evaluator_model.specs.Scope.{Entry, uid, unknown_uid, Context, closed, residual_fields, unknown_context, Left, value_left, residual, stopped}
use Rattle.cedar_evaluator_model.specs.Functions.{Functions, left_of_restricted}
use Rattle.cedar_gate_model.specs.Session.{Setup, State, value_of, uid_in, context_left, entry_now, context_now, is_open_name, is_open_entry, entry_named, is_open_context, with_bound, BindRefusal, BindFault, not_open}
use Rattle.cedar_gate_model.specs.RunsAsk.{IsMadeContext}
use Rattle.cedar_evaluator_model.proofs.Restricted.{Clean, evaluated_clean, none_is, no_feature_split, feature_of, some_unknown, substituted_restricted}
use Rattle.cedar_expr_model.proofs.Gathering.{EachIn, EachAmong, EachInFields, each_in}
use Rattle.cedar_expr_model.proofs.Building.{builder_with}
use Rattle.cedar_expr_model.proofs.Substituting.{bound_or, placed, makes_same}

-- Each value of the first stands in the second.
abbrev pub Grows : Bindings → Bindings → Type 0
Grows e f = (n : Text) (m : Made) → e n ≡ Some m → f n ≡ Some m

-- an open name has no value yet
open_unvalued : (o : Option Made) (b : Bool) → (not (is_some o) && b) ≡ true → o ≡ None
open_unvalued None b e = refl
open_unvalued (Some m) b e = cc

is_true : (b : Bool) → (b ≡ false → ⊥) → b ≡ true
is_true true h = refl
is_true false h = absurd (h refl)

pub was_open : (x : Setup) (s : State) (n : Text) (m : Made) → ((f : BindRefusal) → BindFault x s n m f → ⊥) → value_of s n ≡ None
was_open x s n m h = open_unvalued (value_of s n) (is_open_entry (entry_named x.start n) || is_open_context x.start.context n) (is_true (is_open_name x.start s n) (h not_open))

pub binding_grows : (s : State) (n : Text) (m : Made) → value_of s n ≡ None → Grows (value_of s) (value_of (with_bound s n m))
binding_grows s n m none k v e = by_test (bytes_eq k n) refl
  where
    by_test : (t : Bool) → bytes_eq k n ≡ t → value_of (with_bound s n m) k ≡ Some v
    by_test true q = let same = (bytes_eq-Decides k n).0 q in let c : Some v ≡ None = sym e ∙ ap (value_of s) same ∙ none in cc
    by_test false q = ap (λ t. cond t (Some m) (value_of s k)) q ∙ e

-- Where no unknown is left in its place, each unknown has a value.
neither : (a b : Bool) → (a || b) ≡ false → (a ≡ false) × (b ≡ false)
neither true b e = cc
neither false b e = (refl, e)

pub no_unknown_split : (xs ys : List Tree) → some_unknown (xs ++ ys) ≡ false → (some_unknown xs ≡ false) × (some_unknown ys ≡ false)
no_unknown_split xs ys e = neither (some_unknown xs) (some_unknown ys) (sym (list_any-append (λ e. is_some (unknown_here e)) xs ys) ∙ e)

module _ (env : Bindings) where
  abbrev pub HasValue : Text → Option CoreType → Type 0
  HasValue n a = (m : Made) × (env n ≡ Some m)

  abbrev pub puts : Builder Tree
  puts = builder_with (placed env)

  valued : (n : Text) (a : Option CoreType) (o : Option Made) → env n ≡ o → has_unknown (bound_or tree_builder n a o) ≡ false → HasValue n a
  valued n a (Some m) q e = (m, q)
  valued n a None q e = cc

  mutual
    all_valued : (t : Tree) → offence t ≡ None → has_unknown (substituted env t) ≡ false → EachIn HasValue t
    all_valued (lit p) r e = tt
    all_valued (unknown n a) r e = valued n a (env n) refl e
    all_valued (call f ts) r e = all_valued_among ts r e
    all_valued (set_literal ts) r e = all_valued_among ts r e
    all_valued (record_literal fs) r e = all_valued_fields fs r e
    all_valued t r e = cc

    all_valued_among : (ts : Trees) → feature_of (subexpressions_among ts) ≡ None → some_unknown (subexpressions_among (trees (built_list puts ts))) ≡ false → EachAmong HasValue ts
    all_valued_among no_trees r e = tt
    all_valued_among (tree t ts) r e =
        let p = no_feature_split (subexpressions t) (subexpressions_among ts) r in
        let q = no_unknown_split (subexpressions (built puts t)) (subexpressions_among (trees (built_list puts ts))) e in
        (all_valued t p.0 q.0, all_valued_among ts p.1 q.1)

    all_valued_fields : (fs : TreeFields) → feature_of (subexpressions_in_fields fs) ≡ None → some_unknown (subexpressions_in_fields (tree_fields (built_fields puts fs))) ≡ false → EachInFields HasValue fs
    all_valued_fields no_tree_fields r e = tt
    all_valued_fields (tree_field a t fs) r e =
        let p = no_feature_split (subexpressions t) (subexpressions_in_fields fs) r in
        let q = no_unknown_split (subexpressions (built puts t)) (subexpressions_in_fields (tree_fields (built_fields puts fs))) e in
        (all_valued t p.0 q.0, all_valued_fields fs p.1 q.1)

  -- then more values change nothing
  more_is_same : (f : Bindings) → Grows env f → (t : Tree) → EachUnknown HasValue t → substituted f t ≡ substituted env t
  more_is_same f grows t h =
      makes_same (placed f) (placed env) t
      ((each_in (λ n a. placed f n a ≡ placed env n a) t).0 (λ u c. let k = h u c in ap (bound_or tree_builder u.name u.annotation) (grows u.name k.0 k.1 ∙ sym k.1)))

-- where a value is left of a restricted expression, each of its unknowns has a value
pub value_is_valued : (x : Functions) (env : Bindings) (t : Tree) → is_restricted t ≡ true → (m : Made) → left_of_restricted x (substituted env t) ≡ value_left m → EachUnknown (HasValue env) t
value_is_valued x env t r m e =
    let none = none_is (offence t) r in
    let clean : Clean (substituted env t) (value_left m) = subst (Clean (substituted env t)) e (evaluated_clean x 512 (substituted env t) (substituted_restricted env t none)) in
    (each_in (HasValue env) t).1 (all_valued env t none clean)

-- What is known stays known.
kept_itself : {A : Type 0} (o : Option A) → Keeps o o
kept_itself None = tt
kept_itself (Some a) = refl

kept_same : {A : Type 0} (o p : Option A) → p ≡ o → Keeps o p
kept_same o p e = subst (Keeps o) (sym e) (kept_itself o)

pub entry_value : (k : Option Name) (o : Option Uid) → known_entry (option_map_or uid o (unknown_uid k)) ≡ o
entry_value k None = refl
entry_value k (Some u) = refl

unknown_entry_kept : (k : Option Name) (o p : Option Made) → ((m : Made) → o ≡ Some m → p ≡ Some m) → Keeps (known_entry (option_map_or uid (uid_in o) (unknown_uid k))) (known_entry (option_map_or uid (uid_in p) (unknown_uid k)))
unknown_entry_kept k None p h = tt
unknown_entry_kept k (Some m) p h = kept_same _ _ (ap (λ q. known_entry (option_map_or uid (uid_in q) (unknown_uid k))) (h m refl))

pub entry_kept : (s t : State) → Grows (value_of s) (value_of t) → (n : Text) (e : Entry) → Keeps (known_entry (entry_now s n e)) (known_entry (entry_now t n e))
entry_kept s t grows n (uid u) = refl
entry_kept s t grows n (unknown_uid k) = unknown_entry_kept k (value_of s n) (value_of t n) (grows n)

abbrev pub bound_context : Option Made → Context
bound_context o = unwrap_or (option_and_then (λ m. context_from (value_left m)) o) unknown_context

unknown_context_kept : (o p : Option Made) → ((m : Made) → o ≡ Some m → p ≡ Some m) → Keeps (known_context (bound_context o)) (known_context (bound_context p))
unknown_context_kept None p h = tt
unknown_context_kept (Some m) p h = kept_same _ _ (ap (λ q. known_context (bound_context q)) (h m refl))

-- the context that is left of fields
abbrev pub left_context : Left → Context
left_context l = unwrap_or (context_from l) unknown_context

pub residual_unknown : (r : Tree) → known_context (left_context (residual r)) ≡ None
residual_unknown (record_literal fs) = refl
residual_unknown r = refl

left_context_kept : (l k : Left) → ((m : Made) → l ≡ value_left m → k ≡ l) → Keeps (known_context (left_context l)) (known_context (left_context k))
left_context_kept (value_left m) k h = kept_same _ _ (ap (λ z. known_context (left_context z)) (h m refl))
left_context_kept (residual r) k h = subst (λ o. Keeps o (known_context (left_context k))) (sym (residual_unknown r)) tt
left_context_kept (stopped why) k h = tt

pub context_kept : (x : Setup) (s t : State) → Grows (value_of s) (value_of t) → (c : Context) → IsMadeContext c → Keeps (known_context (context_now x.functions s c)) (known_context (context_now x.functions t c))
context_kept x s t grows (closed fs) h = refl
context_kept x s t grows (residual_fields fs) h =
    left_context_kept (context_left x.functions s fs) (context_left x.functions t fs)
    (λ m e. ap (left_of_restricted x.functions) (more_is_same (value_of s) (value_of t) grows (record_literal fs) (value_is_valued x.functions (value_of s) (record_literal fs) h.1 m e)))
context_kept x s t grows unknown_context h = unknown_context_kept (value_of s (codes "context")) (value_of t (codes "context")) (grows (codes "context"))
