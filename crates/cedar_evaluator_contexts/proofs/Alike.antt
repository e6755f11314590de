-- What is left of a restricted expression depends on the functions alone.
use Rattle.std.proofs.Common.{◌≡◌, ◌∙◌, ℕ, zero, suc, true, List, None, refl, sym, ap}
use Rattle.std.specs.Map.{keys_of, values_of}
use Rattle.cedar_expr_model.specs.Name.{Text, Name}
use Rattle.cedar_expr_model.specs.Builder.{trees}
use Rattle.cedar_expr_model.specs.Made.{Made, made_set}
use Rattle.cedar_expr_model.specs.Parts.{subexpressions, subexpressions_among, subexpressions_in_fields, listed, listed_fields}
use Rattle.cedar_expr_model.specs.Restricted.{is_restricted, offence}
use Rattle.cedar_expr_model.specs.Tree.{Tree, lit, unknown, call, set_literal, record_literal, Trees, no_trees, tree, TreeFields, no_tree_fields, tree_field}
use Rattle.cedar_evaluator_model.specs.Scope.{Scope, MadeCalled, Left, value_left}
use Rattle.cedar_evaluator_model.specs.Steps.{mapped, called_left, made_members, Pieces, with_piece, from_pieces, record_left}
use Rattle.cedar_evaluator_model.specs.Evaluation.{pieces_of, node, evaluated}
use Rattle.cedar_evaluator_model.specs.Reauthorize.{restricted_left}
use Rattle.cedar_evaluator_errors.specs.Calls.{called_by}
use Rattle.cedar_evaluator_model.proofs.Restricted.{no_feature_split, feature_of, none_is}

module _ (s u : Scope) (tabled : s.table ≡ u.table) (answered : s.calls ≡ u.calls) (s_none : (n : Text) → s.values n ≡ None) (u_none : (n : Text) → u.values n ≡ None) where
  abbrev Same : (Tree → Left) → (Tree → Left) → Type 0
  Same go on = (t : Tree) → offence t ≡ None → go t ≡ on t

  pieces_same : (go on : Tree → Left) → Same go on → (ts : Trees) → feature_of (subexpressions_among ts) ≡ None → pieces_of go (listed ts) ≡ pieces_of on (listed ts)
  pieces_same go on h no_trees e = refl
  pieces_same go on h (tree t ts) e =
      let p = no_feature_split (subexpressions t) (subexpressions_among ts) e in
      ap (λ l. with_piece l (pieces_of go (listed ts))) (h t p.0) ∙ ap (with_piece (on t)) (pieces_same go on h ts p.1)

  fields_same : (go on : Tree → Left) → Same go on → (fs : TreeFields) → feature_of (subexpressions_in_fields fs) ≡ None → pieces_of go (values_of (listed_fields fs)) ≡ pieces_of on (values_of (listed_fields fs))
  fields_same go on h no_tree_fields e = refl
  fields_same go on h (tree_field a t fs) e =
      let p = no_feature_split (subexpressions t) (subexpressions_in_fields fs) e in
      ap (λ l. with_piece l (pieces_of go (values_of (listed_fields fs)))) (h t p.0) ∙ ap (with_piece (on t)) (fields_same go on h fs p.1)

  call_same : (f : Name) (rebuilt : List Tree → Tree) (ps qs : Pieces) → ps ≡ qs → from_pieces (called_left s f) rebuilt ps ≡ from_pieces (called_left u f) rebuilt qs
  call_same f rebuilt ps qs e =
      ap (λ x. from_pieces (λ ms. called_by x s.calls f ms) rebuilt ps) tabled
      ∙ ap (λ (c : Name → List Made → MadeCalled). from_pieces (λ ms. called_by u.table c f ms) rebuilt ps) answered
      ∙ ap (from_pieces (called_left u f) rebuilt) e

  node_same : (go on : Tree → Left) → Same go on → Same (node s go) (node u on)
  node_same go on h (lit p) e = refl
  node_same go on h (unknown n a) e = ap (mapped n a) (s_none n ∙ sym (u_none n))
  node_same go on h (call f ts) e = call_same f (λ us. call f (trees us)) _ _ (pieces_same go on h ts e)
  node_same go on h (set_literal ts) e = ap (from_pieces (λ ms. value_left (made_set (made_members ms))) (λ us. set_literal (trees us))) (pieces_same go on h ts e)
  node_same go on h (record_literal fs) e = ap (record_left (keys_of (listed_fields fs))) (fields_same go on h fs e)
  node_same go on h t e = cc

  evaluated_same : (n : ℕ) → Same (evaluated s n) (evaluated u n)
  evaluated_same zero t e = refl
  evaluated_same (suc n) t e = node_same (evaluated s n) (evaluated u n) (evaluated_same n) t e

-- a scope with the functions, in which no unknown has a value
pub left_same : (s k : Scope) (t : Tree) → k.table ≡ s.table → k.calls ≡ s.calls → ((n : Text) → k.values n ≡ None) → is_restricted t ≡ true → evaluated k 512 t ≡ restricted_left s t
left_same s k t a b c r = evaluated_same k (record s { slots = λ x. None; values = λ n. None }) a b c (λ n. refl) 512 t (none_is (offence t) r)
