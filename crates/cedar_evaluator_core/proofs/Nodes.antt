-- One level of an expression, by what is left of its parts.
use Rattle.std.proofs.Common.{◌≡◌, ℕ, Bool, true, false, List, refl, sym, ap, ◌∙◌, subst}
use Rattle.std.specs.Prelude.{Result, Ok, Err, Option}
use Rattle.std.specs.Result.{IsErrAnd}
use Rattle.std.specs.Option.{option_map_or}
use Rattle.cedar_expr_model.specs.Name.{Text, Name}
use Rattle.cedar_expr_model.specs.Builder.{conjunction, disjunction}
use Rattle.cedar_expr_model.specs.Made.{Made, made_prim}
use Rattle.cedar_expr_model.specs.Table.{Table, Called}
use Rattle.cedar_expr_model.specs.Tree.{Var, SlotId, CoreType, Tree, lit, var, slot, unknown, choice, both, either}
use Rattle.cedar_expr_model.specs.Value.{Literal, entity, V}
use Rattle.cedar_expr_values.specs.declared.extension.ExtValue.{ExtValue}
use Rattle.cedar_expr_trees.specs.Trees.{tree_of}
use Rattle.cedar_expr_trees.specs.declared.expr.Expr.{Expr}
use Rattle.cedar_expr_partial.specs.declared.partial_value.PartialValue.{PartialValue}
use Rattle.cedar_store_model.specs.Outcome.{unlinked_slot}
use Rattle.cedar_evaluator_model.specs.Scope.{Scope, MadeCalled, Stop, Left, value_left, residual, stopped}
use Rattle.cedar_evaluator_model.specs.Steps.{errs, truth_left, on_value, best, picks, mapped}
use Rattle.cedar_evaluator_model.specs.Evaluation.{evaluated, variable_left, right_left}
use Rattle.cedar_evaluator_errors.specs.Outcomes.{Leaves, IsTree, is_memory, stop_or}
use Rattle.cedar_evaluator_errors.specs.declared.err.EvaluationError.{EvaluationError}
use Rattle.cedar_evaluator_reads.specs.Scopes.{scope_seen}
use Rattle.cedar_evaluator_reads.specs.declared.knowledge.Knowledge.{Knowledge}
use Rattle.cedar_evaluator_errors.specs.Calls.{Functions}
use Rattle.cedar_evaluator_operators.specs.Scopes.{scope_of}
use Rattle.cedar_evaluator_core.specs.Walked.{LeavesWithin, LeavesLevel, BestWithin}

abbrev pub Answer : Type 0
Answer = Result (PartialValue ExtValue) EvaluationError

-- it stopped so, unless memory is wanting
abbrev pub Stops : Left → EvaluationError → Type 0
Stops l e = (other : Stop) → is_memory e ≡ false → l ≡ stopped (stop_or other e)

-- an error is handed on
pub stops : (f : Left → Left) (l : Left) (e : EvaluationError) (r : Answer) → ((z : Stop) → f (stopped z) ≡ stopped z) → IsErrAnd r (λ y. y ≡ e) → Stops l e → Leaves (f l) r
stops f l e (Ok p) k i h = absurd i
stops f l e (Err y) k i h = λ other m. ap f (h other (subst (λ z. is_memory z ≡ false) i m)) ∙ k (stop_or other e) ∙ ap (λ z. stopped (stop_or other z)) (sym i)

-- what is left of a part decides
pub after : (f : Left → Left) (l x : Left) (r : Answer) → l ≡ x → Leaves (f x) r → Leaves (f l) r
after f l x r h k = subst (λ y. Leaves (f y) r) (sym h) k

-- what is left of the part is this
abbrev pub IsLeft : Answer → Left → Type 0
IsLeft part l = (m : Left) → Leaves m part → m ≡ l

-- whatever a truth value would pick, it stops so
abbrev pub Stopped : Answer → EvaluationError → Type 0
Stopped part e = (l : Left) → Leaves l part → (x y : Left) (other : Tree → Left) → Leaves (on_value l (picks x y) other) (Err e)

-- out of memory says nothing
pub says_nothing : (l : Left) (e : EvaluationError) → is_memory e ≡ true → Leaves l (Err e)
says_nothing l e h = λ other m. absurd (cc)

-- a truth value that is wanted is itself
wanted_truth : (join : Tree → Tree → Tree) (x b : Bool) → right_left join x (truth_left b) ≡ truth_left b
wanted_truth join x true = refl
wanted_truth join x false = refl

-- the right side of `and` and `or` is a truth value
pub right_known : (join : Tree → Tree → Tree) (x b : Bool) (l : Left) (r : Answer) → l ≡ truth_left b → Leaves (truth_left b) r → Leaves (right_left join x l) r
right_known join x b l r e h = subst (λ m. Leaves m r) (sym (ap (right_left join x) e ∙ wanted_truth join x b)) h

module _ {T : Type 0} (table : T → (Name → List V → Called) → Table) (answers_as : T → (Name → List Made → MadeCalled) → Type 0) (k : Knowledge T) (n : ℕ) where
  abbrev pub Part : Tree → Answer → Type 0
  Part t r = LeavesWithin table answers_as k n t r

  abbrev pub Says : Tree → Answer → Type 0
  Says t r = LeavesLevel table answers_as k n t r

  abbrev pub scope : Functions → Scope
  scope fs = scope_of table fs k

  abbrev pub go : Functions → Tree → Left
  go fs = evaluated (scope_of table fs k) n

  -- an equal expression
  pub in_tree : (t u : Tree) (r : Answer) → t ≡ u → Says u r → Says t r
  in_tree t u r e h = subst (λ s. Says s r) (sym e) h

  -- leaves
  module _ (r : Answer) where
    pub literal_says : (p : Literal) → Leaves (value_left (made_prim p)) r → Says (lit p) r
    literal_says p h = record { leaves = λ fs s. h }

    pub variable_says : (x : Var) → Leaves (variable_left (scope_seen k) x) r → Says (var x) r
    unfolding scope_of
    variable_says x h = record { leaves = λ fs s. h }

    pub slot_says : (x : SlotId) → Leaves (option_map_or (λ u. value_left (made_prim (entity u))) ((scope_seen k).slots x) (errs unlinked_slot)) r → Says (slot x) r
    unfolding scope_of
    slot_says x h = record { leaves = λ fs s. h }

    pub unknown_says : (m : Text) (a : Option CoreType) → Leaves (mapped m a ((scope_seen k).values m)) r → Says (unknown m a) r
    unfolding scope_of
    unknown_says m a h = record { leaves = λ fs s. h }

  -- `if`
  module _ (x a b : Tree) (part : Answer) (h : Part x part) where
    abbrev choice_step : Functions → Left → Left
    choice_step fs l = on_value l (picks (go fs a) (go fs b)) (λ t. residual (choice t (best a (go fs a)) (best b (go fs b))))

    pub choice_stops : (e : EvaluationError) → Stopped part e → Says (choice x a b) (Err e)
    choice_stops e t = record { leaves = λ fs s. t (go fs x) (h.leaves fs s) (go fs a) (go fs b) (λ u. residual (choice u (best a (go fs a)) (best b (go fs b)))) }

    module _ (r : Answer) where
      choice_of : (l : Left) → IsLeft part l → ((fs : Functions) → answers_as k.table.now fs.calls → Leaves (choice_step fs l) r) → Says (choice x a b) r
      choice_of l t f = record { leaves = λ fs s. subst (λ m. Leaves (choice_step fs m) r) (sym (t (go fs x) (h.leaves fs s))) (f fs s) }

      pub choice_holds : IsLeft part (truth_left true) → Part a r → Says (choice x a b) r
      choice_holds t w = choice_of (truth_left true) t (λ fs s. w.leaves fs s)

      pub choice_fails : IsLeft part (truth_left false) → Part b r → Says (choice x a b) r
      choice_fails t w = choice_of (truth_left false) t (λ fs s. w.leaves fs s)

      pub choice_open : (t first : Expr Unit) → IsLeft part (residual (tree_of {T = Unit} t)) → BestWithin table answers_as k n a (Ok first) → (last : Result (Expr Unit) EvaluationError) → BestWithin table answers_as k n b last → ((u : Tree) → IsTree u last → Leaves (residual (choice (tree_of {T = Unit} t) (tree_of {T = Unit} first) u)) r) → Says (choice x a b) r
      choice_open t first o f last l w = choice_of (residual (tree_of {T = Unit} t)) o (λ fs s. subst (λ u. Leaves (residual (choice (tree_of {T = Unit} t) u (best b (go fs b)))) r) (f.leaves fs s) (w (best b (go fs b)) (l.leaves fs s)))

    pub choice_given_up : (t : Expr Unit) (e : EvaluationError) → IsLeft part (residual (tree_of {T = Unit} t)) → BestWithin table answers_as k n a (Err e) → Says (choice x a b) (Err e)
    choice_given_up t e o f = choice_of (Err e) (residual (tree_of {T = Unit} t)) o (λ fs s. says_nothing _ e (f.leaves fs s))

  -- `and` and `or`: the second part is asked where the first is so, and else the first decides
  module _ (a b : Tree) (part : Answer) (h : Part a part) where
    abbrev both_step : Functions → Left → Left
    both_step fs l = on_value l (picks (right_left conjunction true (go fs b)) (truth_left false)) (λ t. residual (conjunction t (best b (go fs b))))

    pub both_stops : (e : EvaluationError) → Stopped part e → Says (both a b) (Err e)
    both_stops e t = record { leaves = λ fs s. t (go fs a) (h.leaves fs s) (right_left conjunction true (go fs b)) (truth_left false) (λ u. residual (conjunction u (best b (go fs b)))) }

    abbrev either_step : Functions → Left → Left
    either_step fs l = on_value l (picks (truth_left true) (right_left disjunction false (go fs b))) (λ t. residual (disjunction t (best b (go fs b))))

    pub either_stops : (e : EvaluationError) → Stopped part e → Says (either a b) (Err e)
    either_stops e t = record { leaves = λ fs s. t (go fs a) (h.leaves fs s) (truth_left true) (right_left disjunction false (go fs b)) (λ u. residual (disjunction u (best b (go fs b)))) }

    module _ (r : Answer) where
      both_of : (l : Left) → IsLeft part l → ((fs : Functions) → answers_as k.table.now fs.calls → Leaves (both_step fs l) r) → Says (both a b) r
      both_of l t f = record { leaves = λ fs s. subst (λ m. Leaves (both_step fs m) r) (sym (t (go fs a) (h.leaves fs s))) (f fs s) }

      pub both_holds : IsLeft part (truth_left true) → (q : Answer) → Part b q → ((l : Left) → Leaves l q → Leaves (right_left conjunction true l) r) → Says (both a b) r
      both_holds t q w l = both_of (truth_left true) t (λ fs s. l (go fs b) (w.leaves fs s))

      pub both_fails : IsLeft part (truth_left false) → Leaves (truth_left false) r → Says (both a b) r
      both_fails t w = both_of (truth_left false) t (λ fs s. w)

      pub both_open : (t : Expr Unit) → IsLeft part (residual (tree_of {T = Unit} t)) → (q : Result (Expr Unit) EvaluationError) → BestWithin table answers_as k n b q → ((u : Tree) → IsTree u q → Leaves (residual (conjunction (tree_of {T = Unit} t) u)) r) → Says (both a b) r
      both_open t o q l w = both_of (residual (tree_of {T = Unit} t)) o (λ fs s. w (best b (go fs b)) (l.leaves fs s))

      either_of : (l : Left) → IsLeft part l → ((fs : Functions) → answers_as k.table.now fs.calls → Leaves (either_step fs l) r) → Says (either a b) r
      either_of l t f = record { leaves = λ fs s. subst (λ m. Leaves (either_step fs m) r) (sym (t (go fs a) (h.leaves fs s))) (f fs s) }

      pub either_holds : IsLeft part (truth_left true) → Leaves (truth_left true) r → Says (either a b) r
      either_holds t w = either_of (truth_left true) t (λ fs s. w)

      pub either_fails : IsLeft part (truth_left false) → (q : Answer) → Part b q → ((l : Left) → Leaves l q → Leaves (right_left disjunction false l) r) → Says (either a b) r
      either_fails t q w l = either_of (truth_left false) t (λ fs s. l (go fs b) (w.leaves fs s))

      pub either_open : (t : Expr Unit) → IsLeft part (residual (tree_of {T = Unit} t)) → (q : Result (Expr Unit) EvaluationError) → BestWithin table answers_as k n b q → ((u : Tree) → IsTree u q → Leaves (residual (disjunction (tree_of {T = Unit} t) u)) r) → Says (either a b) r
      either_open t o q l w = either_of (residual (tree_of {T = Unit} t)) o (λ fs s. w (best b (go fs b)) (l.leaves fs s))
