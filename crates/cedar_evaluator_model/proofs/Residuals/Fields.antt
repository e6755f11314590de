-- Attributes of residual records: what their fields mean, and that of a record that may be projected no field errs.
use Rattle.std.proofs.Common.{◌≡◌, Bool, true, false, cond, ◌∷◌, refl, sym, ap, subst}
use Rattle.std.specs.Prelude.{Option, Some, None, is_some}
use Rattle.std.specs.Option.{option_map_or}
use Rattle.std.specs.List.{list_all}
use Rattle.std.specs.Str.{bytes_eq}
use Rattle.cedar_expr_model.specs.Name.{Text}
use Rattle.cedar_expr_model.specs.Uid.{Uid}
use Rattle.cedar_expr_model.specs.Value.{V, record_of, Fields, no_fields, field, field_of}
use Rattle.cedar_expr_model.specs.Canonical.{set_made}
use Rattle.cedar_expr_model.specs.Tree.{CoreType, Tree, lit, var, slot, unknown, choice, both, either, unary, binary, call, get_attr, has_attr, has_path, like, is_type, set_literal, record_literal, Trees, no_trees, tree, TreeFields, no_tree_fields, tree_field, Var, principal, action, resource, context}
use Rattle.cedar_expr_model.specs.Parts.{is_projectable, may_project, subexpressions, subexpressions_among, subexpressions_in_fields}
use Rattle.cedar_expr_model.proofs.Gathering.{EachIn, EachInFields, all_split}
use Rattle.cedar_store_model.specs.Outcome.{Fault, Res, val, err, bind, missing_field}
use Rattle.cedar_store_model.specs.World.{World}
use Rattle.cedar_store_model.specs.Operators.{says}
use Rattle.cedar_store_model.proofs.Named.{bound_value, known_uid}
use Rattle.cedar_store_model.specs.Reads.{attribute_read, attribute_tested}
use Rattle.cedar_store_model.specs.Meaning.{variable, outcome_of, outcomes_of, field_outcomes_of}
use Rattle.cedar_evaluator_model.specs.Scope.{Left, residual}
use Rattle.cedar_evaluator_model.specs.Steps.{errs, truth_left}
use Rattle.cedar_evaluator_model.specs.Evaluation.{tree_named, get_of_residual, has_of_residual}
use Rattle.cedar_evaluator_model.specs.Completion.{Fits}
use Rattle.cedar_evaluator_model.proofs.Named.{FitsIn}
use Rattle.cedar_evaluator_model.proofs.Residuals.Stands.{Alike, Stands, alike_same, alike_bind, stands_unasked}

-- it is no error
abbrev IsNoError : {A : Type 0} → Option (Res A) → Type 0
IsNoError None = Unit {0}
IsNoError (Some (val v)) = Unit {0}
IsNoError (Some (err f)) = ⊥

no_error_bind : {A B : Type 0} (o : Option (Res A)) (f : A → Option (Res B)) → IsNoError o → ((v : A) → IsNoError (f v)) → IsNoError (bind o f)
no_error_bind None f h n = tt
no_error_bind (Some (val v)) f h n = n v
no_error_bind (Some (err e)) f h n = h

no_error_uid : (o : Option Uid) → IsNoError (known_uid o)
no_error_uid None = tt
no_error_uid (Some u) = tt

no_error_bound : (o : Option V) → IsNoError (bound_value o)
no_error_bound None = tt
no_error_bound (Some v) = tt

no_error_variable : (w : World) (x : Var) → IsNoError (variable w x)
no_error_variable w principal = no_error_uid w.principal
no_error_variable w action = no_error_uid w.action
no_error_variable w resource = no_error_uid w.resource
no_error_variable w context = no_error_bound w.context

-- what may be projected doesn't err
mutual
  never_errs : (w : World) (t : Tree) → is_projectable t ≡ true → IsNoError (outcome_of w t)
  never_errs w (lit p) h = tt
  never_errs w (var x) h = no_error_variable w x
  never_errs w (slot s) h = cc
  never_errs w (unknown n a) h = no_error_bound (w.unknowns n)
  never_errs w (choice t a b) h = cc
  never_errs w (both a b) h = cc
  never_errs w (either a b) h = cc
  never_errs w (unary o a) h = cc
  never_errs w (binary o a b) h = cc
  never_errs w (call f ts) h = cc
  never_errs w (get_attr t a) h = cc
  never_errs w (has_attr t a) h = cc
  never_errs w (has_path t a bs) h = cc
  never_errs w (like t p) h = cc
  never_errs w (is_type t n) h = cc
  never_errs w (set_literal ts) h = no_error_bind (outcomes_of w ts) (λ vs. Some (val (set_made vs))) (none_err w ts h) (λ vs. tt)
  never_errs w (record_literal fs) h = no_error_bind (field_outcomes_of w fs) (λ vs. Some (val (record_of vs))) (no_field_errs w fs h) (λ vs. tt)

  none_err : (w : World) (ts : Trees) → list_all may_project (subexpressions_among ts) ≡ true → IsNoError (outcomes_of w ts)
  none_err w no_trees h = tt
  none_err w (tree t ts) h =
      let k = all_split may_project (subexpressions t) (subexpressions_among ts) h in
      let rest = none_err w ts k.1 in
      no_error_bind (outcome_of w t) (λ v. bind (outcomes_of w ts) (λ vs. Some (val (v ∷ vs)))) (never_errs w t k.0)
      (λ v. no_error_bind (outcomes_of w ts) (λ vs. Some (val (v ∷ vs))) rest (λ vs. tt))

  no_field_errs : (w : World) (fs : TreeFields) → list_all may_project (subexpressions_in_fields fs) ≡ true → IsNoError (field_outcomes_of w fs)
  no_field_errs w no_tree_fields h = tt
  no_field_errs w (tree_field a t fs) h =
      let k = all_split may_project (subexpressions t) (subexpressions_in_fields fs) h in
      let rest = no_field_errs w fs k.1 in
      no_error_bind (outcome_of w t) (λ v. bind (field_outcomes_of w fs) (λ vs. Some (val (field a v vs)))) (never_errs w t k.0)
      (λ v. no_error_bind (field_outcomes_of w fs) (λ vs. Some (val (field a v vs))) rest (λ vs. tt))

not_both : {A : Type 0} (o : Option (Res A)) (f : Fault) → IsNoError o → o ≡ Some (err f) → ⊥
not_both o f h e = subst IsNoError e h

-- where what comes next gives a value there was one before
bind_value : {A B : Type 0} (o : Option (Res A)) (f : A → Option (Res B)) (y : B) → bind o f ≡ Some (val y) → (x : A) × (o ≡ Some (val x)) × (f x ≡ Some (val y))
bind_value None f y e = cc
bind_value (Some (val x)) f y e = (x, refl, e)
bind_value (Some (err g)) f y e = cc

-- the field of a name: it means the value of that name, or there is none
abbrev NamedMeans : World → Option Tree → Option V → Type 0
NamedMeans w None q = q ≡ None
NamedMeans w (Some t) q = (v : V) × (q ≡ Some v) × (outcome_of w t ≡ Some (val v))

named_case : (w : World) (b : Bool) (t : Tree) (v : V) (o : Option Tree) (q : Option V) → outcome_of w t ≡ Some (val v) → NamedMeans w o q → NamedMeans w (cond b (Some t) o) (cond b (Some v) q)
named_case w true t v o q e h = (v, refl, e)
named_case w false t v o q e h = h

named_means : (w : World) (a : Text) (fs : TreeFields) (vs : Fields) → field_outcomes_of w fs ≡ Some (val vs) → NamedMeans w (tree_named a fs) (field_of a vs)
named_means w a no_tree_fields vs e = let same : vs ≡ no_fields = cc in ap (field_of a) same
named_means w a (tree_field b t fs) vs e =
    let k = bind_value (outcome_of w t) (λ v. bind (field_outcomes_of w fs) (λ gs. Some (val (field b v gs)))) vs e in
    let r = bind_value (field_outcomes_of w fs) (λ gs. Some (val (field b k.0 gs))) vs k.2 in
    let same : field b k.0 r.0 ≡ vs = cc in
    subst (λ x. NamedMeans w (tree_named a (tree_field b t fs)) (field_of a x)) same
    (named_case w (bytes_eq a b) t k.0 (tree_named a fs) (field_of a r.0) k.1 (named_means w a fs r.0 r.1))

-- what holds of the unknowns of a record holds of those of a field
abbrev EachNamed : (Text → Option CoreType → Type 0) → Option Tree → Type 0
EachNamed P None = Unit {0}
EachNamed P (Some t) = EachIn P t

each_case : (P : Text → Option CoreType → Type 0) (b : Bool) (t : Tree) (o : Option Tree) → EachIn P t → EachNamed P o → EachNamed P (cond b (Some t) o)
each_case P true t o h k = h
each_case P false t o h k = k

each_named : (P : Text → Option CoreType → Type 0) (a : Text) (fs : TreeFields) → EachInFields P fs → EachNamed P (tree_named a fs)
each_named P a no_tree_fields h = tt
each_named P a (tree_field b t fs) h = each_case P (bytes_eq a b) t (tree_named a fs) h.0 (each_named P a fs h.1)

-- the access stays
get_stays : (w : World) (a : Text) (r : Tree) (o : Option (Res V)) → FitsIn w r → Alike o (outcome_of w r) → Stands w (bind o (attribute_read w a)) (residual (get_attr r a))
get_stays w a r o f h = (alike_bind o (outcome_of w r) (attribute_read w a) (attribute_read w a) h (λ v. alike_same (attribute_read w a v)), f)

has_stays : (w : World) (a : Text) (r : Tree) (o : Option (Res V)) → FitsIn w r → Alike o (outcome_of w r) → Stands w (bind o (attribute_tested w a)) (residual (has_attr r a))
has_stays w a r o f h = (alike_bind o (outcome_of w r) (attribute_tested w a) (attribute_tested w a) h (λ v. alike_same (attribute_tested w a v)), f)

-- a value that a record has for its outcome is the record of what its fields mean
record_value : (w : World) (fs : TreeFields) (v : V) → outcome_of w (record_literal fs) ≡ Some (val v) → (vs : Fields) × (field_outcomes_of w fs ≡ Some (val vs)) × (record_of vs ≡ v)
record_value w fs v e =
    let k = bind_value (field_outcomes_of w fs) (λ vs. Some (val (record_of vs))) v e in
    let same : record_of k.0 ≡ v = cc in
    (k.0, k.1, same)

-- the field of a record that is read, and of a residual one that is projected
abbrev field_read : Option V → Option (Res V)
field_read q = Some (option_map_or val q (err missing_field))

abbrev projected : (Tree → Left) → Text → TreeFields → Bool → Option Tree → Left
projected go a fs may o = option_map_or (λ t. cond may (go t) (residual (get_attr (record_literal fs) a))) o (errs missing_field)

module _ (w : World) (go : Tree → Left) (deeper : (t : Tree) → FitsIn w t → Stands w (outcome_of w t) (go t)) where
  projected_value : (a : Text) (fs : TreeFields) (vs : Fields) (may : Bool) (o : Option Tree) → EachNamed (λ n b. Fits b (w.unknowns n)) o → NamedMeans w o (field_of a vs)
      → Stands w (field_read (field_of a vs)) (residual (get_attr (record_literal fs) a)) → Stands w (field_read (field_of a vs)) (projected go a fs may o)
  projected_value a fs vs may None f h s = subst (λ q. Stands w (field_read q) (projected go a fs may None)) (sym h) tt
  projected_value a fs vs true (Some t) f h s =
      let one : Stands w (Some (val h.0)) (go t) = subst (λ o. Stands w o (go t)) h.2 (deeper t f) in
      subst (λ q. Stands w (field_read q) (go t)) (sym h.1) one
  projected_value a fs vs false (Some t) f h s = s

  projected_unasked : (a : Text) (fs : TreeFields) (may : Bool) (o : Option Tree) → EachNamed (λ n b. Fits b (w.unknowns n)) o → FitsIn w (record_literal fs)
      → Stands w None (projected go a fs may o)
  projected_unasked a fs may None f h = tt
  projected_unasked a fs true (Some t) f h = stands_unasked w (outcome_of w t) (go t) (deeper t f)
  projected_unasked a fs false (Some t) f h = (tt, h)

  projected_error : (a : Text) (fs : TreeFields) (e : Fault) (may : Bool) (o : Option Tree) → is_projectable (record_literal fs) ≡ may → Alike (Some (err e)) (outcome_of w (record_literal fs))
      → FitsIn w (record_literal fs) → Stands w (Some (err e)) (projected go a fs may o)
  projected_error a fs e may None k h f = tt
  projected_error a fs e true (Some t) k h f = absurd (not_both (outcome_of w (record_literal fs)) h.0 (never_errs w (record_literal fs) k) h.1)
  projected_error a fs e false (Some t) k h f = get_stays w a (record_literal fs) (Some (err e)) f h

  get_of_record : (a : Text) (fs : TreeFields) (o : Option (Res V)) → FitsIn w (record_literal fs) → Alike o (outcome_of w (record_literal fs))
      → Stands w (bind o (attribute_read w a)) (projected go a fs (is_projectable (record_literal fs)) (tree_named a fs))
  get_of_record a fs None f h = projected_unasked a fs (is_projectable (record_literal fs)) (tree_named a fs) (each_named _ a fs f) f
  get_of_record a fs (Some (val v)) f h =
      let k = record_value w fs v h in
      let s = subst (λ x. Stands w (attribute_read w a x) (residual (get_attr (record_literal fs) a))) (sym k.2) (get_stays w a (record_literal fs) (Some (val v)) f h) in
      subst (λ x. Stands w (attribute_read w a x) (projected go a fs (is_projectable (record_literal fs)) (tree_named a fs))) k.2
      (projected_value a fs k.0 (is_projectable (record_literal fs)) (tree_named a fs) (each_named _ a fs f) (named_means w a fs k.0 k.1) s)
  get_of_record a fs (Some (err e)) f h = projected_error a fs e (is_projectable (record_literal fs)) (tree_named a fs) refl h f

  pub stands_get : (a : Text) (r : Tree) (o : Option (Res V)) → FitsIn w r → Alike o (outcome_of w r) → Stands w (bind o (attribute_read w a)) (get_of_residual go a r)
  stands_get a (record_literal fs) o f h = get_of_record a fs o f h
  stands_get a r o f h = get_stays w a r o f h

-- whether a residual record has a field
named_there : (w : World) (o : Option Tree) (q : Option V) → NamedMeans w o q → is_some o ≡ is_some q
named_there w None q h = ap is_some (sym h)
named_there w (Some t) q h = ap is_some (sym h.1)

decided_has : (w : World) (a : Text) (fs : TreeFields) (o : Option (Res V)) → is_projectable (record_literal fs) ≡ true → Alike o (outcome_of w (record_literal fs))
    → Stands w (bind o (attribute_tested w a)) (truth_left (is_some (tree_named a fs)))
decided_has w a fs None k h = (tt, tt)
decided_has w a fs (Some (val v)) k h =
    let r = record_value w fs v h in
    let same = named_there w (tree_named a fs) (field_of a r.0) (named_means w a fs r.0 r.1) in
    subst (λ x. Stands w (attribute_tested w a x) (truth_left (is_some (tree_named a fs)))) r.2 (ap (λ b. Some (says b)) same, tt)
decided_has w a fs (Some (err e)) k h = absurd (not_both (outcome_of w (record_literal fs)) h.0 (never_errs w (record_literal fs) k) h.1)

has_case : (w : World) (a : Text) (fs : TreeFields) (o : Option (Res V)) (may : Bool) → (may ≡ true → Stands w (bind o (attribute_tested w a)) (truth_left (is_some (tree_named a fs))))
    → Stands w (bind o (attribute_tested w a)) (residual (has_attr (record_literal fs) a))
    → Stands w (bind o (attribute_tested w a)) (cond may (truth_left (is_some (tree_named a fs))) (residual (has_attr (record_literal fs) a)))
has_case w a fs o true h k = h refl
has_case w a fs o false h k = k

pub stands_has : (w : World) (a : Text) (r : Tree) (o : Option (Res V)) → FitsIn w r → Alike o (outcome_of w r) → Stands w (bind o (attribute_tested w a)) (has_of_residual a r)
stands_has w a (record_literal fs) o f h = has_case w a fs o (is_projectable (record_literal fs)) (λ k. decided_has w a fs o k h) (has_stays w a (record_literal fs) o f h)
stands_has w a r o f h = has_stays w a r o f h
