-- Where nothing is unknown evaluation is the meaning.
use Rattle.std.proofs.Common.{◌≡◌, ℕ, ◌≤◌, Bool, true, false, cond, List, [], ◌∷◌, sym, ap, ◌∙◌, subst, find}
use Rattle.std.specs.Prelude.{Option, Some, map, is_some, IsSome}
use Rattle.std.specs.List.{list_all}
use Rattle.cedar_expr_model.specs.Name.{Text, Name, name_eq}
use Rattle.cedar_expr_model.specs.Value.{V}
use Rattle.cedar_expr_model.specs.Tree.{CoreType, Tree, nesting}
use Rattle.cedar_expr_model.specs.Made.{bare}
use Rattle.cedar_expr_model.specs.Table.{Table, Signature, leaves, all_typed}
use Rattle.cedar_expr_model.specs.OfLaws.Fair.{IsAnswer, IsFair}
use Rattle.cedar_expr_model.specs.Unknowns.{EachUnknown}
use Rattle.cedar_expr_model.proofs.Lists.{both_hold}
use Rattle.cedar_store_model.specs.Outcome.{Res, val, err}
use Rattle.cedar_store_model.specs.Meaning.{Means, outcome_of}
use Rattle.cedar_store_model.proofs.Known.{what_is_there}
use Rattle.cedar_store_model.proofs.Meaning.{outcome_means}
use Rattle.cedar_evaluator_model.specs.Scope.{Scope, fault, Left, value_left, residual, stopped}
use Rattle.cedar_evaluator_model.specs.OfLaws.Calls.{bare_called, Agrees}
use Rattle.cedar_evaluator_model.specs.Evaluation.{evaluated}
use Rattle.cedar_evaluator_model.specs.Known.{known_world}
use Rattle.cedar_evaluator_model.specs.OfLaws.Whole.{NothingUnknown, AllLoaded, BoundTo, AllBoundTo, LeavesNothing}
use Rattle.cedar_evaluator_model.specs.Completion.{Fits, FitsAnnotations}
use Rattle.cedar_evaluator_model.specs.OfLaws.Standing.{IsOutcome, LeavesUnbound}
use Rattle.cedar_evaluator_model.specs.Laws.{IsExact}
use Rattle.cedar_evaluator_model.proofs.Settled.{settled_there}
use Rattle.cedar_evaluator_model.proofs.Owed.{owed}

-- tables
typed_case : (b : Bool) (s g : Signature) (o : Option Signature) → cond b (Some s) o ≡ Some g → is_some s.result ≡ true → (o ≡ Some g → is_some g.result ≡ true) → is_some g.result ≡ true
typed_case true s g o q i r = let same : s ≡ g = cc in subst (λ x. is_some x.result ≡ true) same i
typed_case false s g o q i r = r q

typed_among : (f : Name) (ss : List Signature) (g : Signature) → find (λ (x : Signature). name_eq f x.name) ss ≡ Some g → list_all (λ s. is_some s.result) ss ≡ true → is_some g.result ≡ true
typed_among f [] g e h = cc
typed_among f (s ∷ ss) g e h =
    let k = both_hold (is_some s.result) (list_all (λ s. is_some s.result) ss) h in
    typed_case (name_eq f s.name) s g (find (λ (x : Signature). name_eq f x.name) ss) e k.0 (λ q. typed_among f ss g q k.1)

pub typed_tables_leave_nothing : (x : Table) → IsFair x → all_typed x ≡ true → LeavesNothing x
typed_tables_leave_nothing x fair typed f vs n t e =
    let answer : IsAnswer t.0 (leaves n) = subst (IsAnswer t.0) e (fair f t.0 vs t.1 t.2 t.3) in
    let result = typed_among f x.functions t.0 t.1 typed in
    let none : is_some (t.0).result ≡ false = ap is_some answer in
    cc

pub leaves_unbound : (s : Scope) → Agrees s → LeavesNothing s.table → LeavesUnbound s
leaves_unbound s agrees nothing f ms n t e = absurd (nothing f (map bare ms) n t (sym (agrees f ms t) ∙ ap bare_called e))

-- bindings
there_bound : (s : Scope) (n : Text) (a : Option CoreType) → BoundTo s n a → IsSome ((known_world s).unknowns n)
there_bound s n a h = ap is_some h.1

fits_bound : (s : Scope) (n : Text) (a : Option CoreType) → BoundTo s n a → Fits a ((known_world s).unknowns n)
fits_bound s n a h = subst (Fits a) (sym h.1) h.2

pub all_there : (s : Scope) (t : Tree) → AllBoundTo s t → EachUnknown (λ n a. IsSome ((known_world s).unknowns n)) t
all_there s t h = λ u c. there_bound s u.name u.annotation (h u c)

pub all_fit : (s : Scope) (t : Tree) → AllBoundTo s t → FitsAnnotations (known_world s) t
all_fit s t h = λ u c. fits_bound s u.name u.annotation (h u c)

-- outcomes
pub grounded : (s : Scope) → NothingUnknown s → AllLoaded s → (t : Tree) → AllBoundTo s t → (r : Res V) × Means (known_world s) t r
grounded s k l t h =
    let o = what_is_there (outcome_of (known_world s) t) (settled_there (known_world s) k.calls k.principal k.action k.resource k.context l t (all_there s t h)) in
    (o.0, outcome_means (known_world s) t o.0 o.1)

-- what is left is one outcome alone
same_outcome : (r q : Res V) (l : Left) → IsOutcome r l → IsOutcome q l → r ≡ q
same_outcome (val v) (val w) l h k =
    let e : value_left h.0 ≡ value_left k.0 = sym h.1 ∙ k.1 in
    let same : h.0 ≡ k.0 = cc in
    ap val (sym h.2 ∙ ap bare same ∙ k.2)
same_outcome (val v) (err f) l h k = let e : value_left h.0 ≡ stopped (fault f) = sym h.1 ∙ k in cc
same_outcome (err f) (val w) l h k = let e : stopped (fault f) ≡ value_left k.0 = sym h ∙ k.1 in cc
same_outcome (err f) (err g) l h k = let e : stopped (fault f) ≡ stopped (fault g) = sym h ∙ k in let same : f ≡ g = cc in ap err same

pub exact : (s : Scope) → Agrees s → NothingUnknown s → AllLoaded s → (n : ℕ) (t : Tree) → AllBoundTo s t → nesting t ≤ n → IsExact s n t
exact s agrees k l n t h d =
    let o = grounded s k l t h in
    let gives : (r : Res V) → Means (known_world s) t r → IsOutcome r (evaluated s n t) = owed s agrees (leaves_unbound s agrees k.calls) n t (all_fit s t h) d in
    record {
      grounded = o;
      exact = λ r. (gives r, λ m. subst (Means (known_world s) t) (same_outcome o.0 r (evaluated s n t) (gives o.0 o.1) m) o.1);
    }

-- what is left is an outcome, so it is no residual and not the limit
pub outcome_no_residual : (q : Res V) (l : Left) (r : Tree) → IsOutcome q l → l ≡ residual r → ⊥
outcome_no_residual (val v) l r h e = let k : value_left h.0 ≡ residual r = sym h.1 ∙ e in cc
outcome_no_residual (err f) l r h e = let k : stopped (fault f) ≡ residual r = sym h ∙ e in cc

pub no_residual : (s : Scope) → Agrees s → NothingUnknown s → AllLoaded s → (n : ℕ) (t : Tree) → AllBoundTo s t → nesting t ≤ n → (r : Tree) → evaluated s n t ≡ residual r → ⊥
no_residual s agrees k l n t h d r e =
    let x = exact s agrees k l n t h d in
    let o = x.grounded in
    outcome_no_residual o.0 (evaluated s n t) r ((x.exact o.0).0 o.1) e
