-- A restricted expression without unknowns is left open by no call of a fair table; so a context is a value exactly once all in it is bound.
use Rattle.std.proofs.Common.{◌≡◌, ◌∙◌, ℕ, zero, suc, Bool, true, false, cond, List, [], ◌∷◌, map, length, Option, Some, None, refl, sym, ap, option_map}
use Rattle.std.specs.Option.{option_map_or}
use Rattle.cedar_expr_model.specs.Name.{Text, Name}
use Rattle.cedar_expr_model.specs.Tree.{Tree, lit, unknown, call, set_literal, record_literal, TreeFields}
use Rattle.cedar_expr_model.specs.Builder.{trees, tree_fields}
use Rattle.cedar_expr_model.specs.Made.{Made, MadeFields, made_set, made_record, bare}
use Rattle.cedar_expr_model.specs.Parts.{subexpressions, listed}
use Rattle.cedar_expr_model.specs.Restricted.{offence}
use Rattle.cedar_expr_model.specs.Table.{Signature, signature_of, takes_count, are_of_types}
use Rattle.cedar_expr_model.specs.OfLaws.Fair.{IsTaken}
use Rattle.cedar_expr_model.specs.Unknowns.{has_unknown}
use Rattle.cedar_expr_model.specs.ValueParts.{all_known, part_tree}
use Rattle.cedar_store_model.specs.Outcome.{wrong_type, wrong_count}
use Rattle.cedar_evaluator_model.specs.Scope.{Scope, MadeCalled, makes, faults, leaves_unknown, Left, value_left, residual, stopped}
use Rattle.cedar_evaluator_model.specs.Steps.{errs, answer_left, called_left, made_members, Pieces, pieces, halted, with_piece, from_pieces}
use Rattle.cedar_evaluator_model.specs.Evaluation.{pieces_of, node, evaluated}
use Rattle.cedar_evaluator_model.proofs.GivenReads.{length_bare}
use Rattle.cedar_evaluator_model.proofs.Named.{call_of, field_names, field_trees, fields_named}
use Rattle.cedar_evaluator_model.proofs.Restricted.{no_feature_split, feature_of, some_unknown, parts_of, listed_same, fields_same}
use Rattle.cedar_gate_model.proofs.Runs.Contexts.{no_unknown_split}
use Rattle.std.specs.Prelude.{zip}

none_map : {A B : Type 0} (f : A → B) (o : Option A) → option_map f o ≡ None → o ≡ None
none_map f None e = refl
none_map f (Some a) e = cc

module _ (s : Scope) (leaves : (f : Name) (ms : List Made) (n : Text) → IsTaken s.table f (map bare ms) → s.calls f ms ≡ leaves_unknown n → ⊥) where
  -- what is left is no residual
  abbrev pub IsShut : Left → Type 0
  IsShut (value_left m) = Unit {0}
  IsShut (residual r) = ⊥
  IsShut (stopped why) = Unit {0}

  abbrev AllShut : Pieces → Type 0
  AllShut (pieces qs) = all_known qs ≡ None → ⊥
  AllShut (halted why) = Unit {0}

  abbrev Shuts : (Tree → Left) → Type 0
  Shuts go = (t : Tree) → offence t ≡ None → has_unknown t ≡ false → IsShut (go t)

  one_more : (l : Left) (ps : Pieces) → IsShut l → AllShut ps → AllShut (with_piece l ps)
  one_more (stopped why) ps h k = tt
  one_more (value_left m) (halted why) h k = tt
  one_more (residual r) (halted why) h k = tt
  one_more (residual r) (pieces qs) h k = absurd h
  one_more (value_left m) (pieces qs) h k = λ e. k (none_map (λ ns. m ∷ ns) (all_known qs) e)

  all_shut : (go : Tree → Left) → Shuts go → (ts : List Tree) → feature_of (parts_of ts) ≡ None → some_unknown (parts_of ts) ≡ false → AllShut (pieces_of go ts)
  all_shut go h [] r e = λ k. cc
  all_shut go h (t ∷ ts) r e =
      let p = no_feature_split (subexpressions t) (parts_of ts) r in
      let q = no_unknown_split (subexpressions t) (parts_of ts) e in
      one_more (go t) (pieces_of go ts) (h t p.0 q.0) (all_shut go h ts p.1 q.1)

  from_shut : (next : List Made → Left) (rebuilt : List Tree → Tree) (ps : Pieces) → AllShut ps → ((ms : List Made) → IsShut (next ms)) → IsShut (from_pieces next rebuilt ps)
  from_shut next rebuilt (halted why) h k = tt
  from_shut next rebuilt (pieces qs) h k = by_all (all_known qs) refl
    where
      by_all : (o : Option (List Made)) → all_known qs ≡ o → IsShut (option_map_or next o (residual (rebuilt (map part_tree qs))))
      by_all None q = absurd (h q)
      by_all (Some ms) q = k ms

  -- calls
  answer_shut : (c : MadeCalled) → ((n : Text) → c ≡ leaves_unknown n → ⊥) → IsShut (answer_left c)
  answer_shut (makes m) h = tt
  answer_shut (faults n) h = tt
  answer_shut (leaves_unknown n) h = h n refl

  guarded : (count types : Bool) (l : Left) → (count ≡ true → types ≡ true → IsShut l) → IsShut (cond count (cond types l (errs wrong_type)) (errs wrong_count))
  guarded true true l h = h refl refl
  guarded true false l h = tt
  guarded false types l h = tt

  call_shut : (f : Name) (ms : List Made) (g : Option Signature) → signature_of s.table f ≡ g → IsShut (call_of s f ms g)
  call_shut f ms None q = tt
  call_shut f ms (Some g) q =
      guarded (takes_count g (length ms)) (are_of_types g.parameters (map bare ms)) (answer_left (s.calls f ms))
      (λ c t. answer_shut (s.calls f ms) (λ n e. leaves f ms n (g, q, ap (takes_count g) (length_bare ms) ∙ c, t) e))

  node_shut : (go : Tree → Left) → Shuts go → Shuts (node s go)
  node_shut go h (lit p) r e = tt
  node_shut go h (unknown n a) r e = cc
  node_shut go h (call f ts) r e =
      from_shut (called_left s f) (λ us. call f (trees us)) (pieces_of go (listed ts))
      (all_shut go h (listed ts) (ap feature_of (sym (listed_same ts)) ∙ r) (ap some_unknown (sym (listed_same ts)) ∙ e))
      (λ ms. call_shut f ms (signature_of s.table f) refl)
  node_shut go h (set_literal ts) r e =
      from_shut (λ ms. value_left (made_set (made_members ms))) (λ us. set_literal (trees us)) (pieces_of go (listed ts))
      (all_shut go h (listed ts) (ap feature_of (sym (listed_same ts)) ∙ r) (ap some_unknown (sym (listed_same ts)) ∙ e))
      (λ ms. tt)
  node_shut go h (record_literal fs) r e =
      from_shut (λ ms. value_left (made_record (fields_named (field_names fs) ms))) (λ us. record_literal (tree_fields (zip (field_names fs) us))) (pieces_of go (field_trees fs))
      (all_shut go h (field_trees fs) (ap feature_of (sym (fields_same fs)) ∙ r) (ap some_unknown (sym (fields_same fs)) ∙ e))
      (λ ms. tt)
  node_shut go h t r e = cc

  pub evaluated_shut : (n : ℕ) → Shuts (evaluated s n)
  evaluated_shut zero t r e = tt
  evaluated_shut (suc n) t r e = node_shut (evaluated s n) (evaluated_shut n) t r e

-- a record is a record
module _ (s : Scope) where
  record_case : (fs : TreeFields) (ps : Pieces) (m : Made) → from_pieces (λ ms. value_left (made_record (fields_named (field_names fs) ms))) (λ us. record_literal (tree_fields (zip (field_names fs) us))) ps ≡ value_left m
      → (gs : MadeFields) × (made_record gs ≡ m)
  record_case fs (halted why) m e = cc
  record_case fs (pieces qs) m e = by_all (all_known qs) e
    where
      by_all : (o : Option (List Made)) → option_map_or (λ ms. value_left (made_record (fields_named (field_names fs) ms))) o (residual (record_literal (tree_fields (zip (field_names fs) (map part_tree qs))))) ≡ value_left m → (gs : MadeFields) × (made_record gs ≡ m)
      by_all None k = cc
      by_all (Some ms) k = (fields_named (field_names fs) ms, cc)

  pub record_evaluated : (n : ℕ) (fs : TreeFields) (m : Made) → evaluated s n (record_literal fs) ≡ value_left m → (gs : MadeFields) × (made_record gs ≡ m)
  record_evaluated zero fs m e = cc
  record_evaluated (suc n) fs m e = record_case fs (pieces_of (evaluated s n) (field_trees fs)) m e
