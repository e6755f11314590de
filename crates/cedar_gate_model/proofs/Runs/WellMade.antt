-- The value that is left of a restricted expression is as it is written, where the calls make such values.
use Rattle.std.proofs.Common.{◌≡◌, ◌∙◌, ℕ, zero, suc, Bool, true, false, cond, List, [], ◌∷◌, map, length, Option, Some, None, refl, sym, ap, subst}
use Rattle.std.specs.Prelude.{zip}
use Rattle.cedar_expr_model.specs.Name.{Text, Name}
use Rattle.cedar_expr_model.specs.Builder.{trees, tree_fields}
use Rattle.cedar_expr_model.specs.Made.{Made, made_prim, made_set, made_record, bare}
use Rattle.cedar_expr_model.specs.Parts.{subexpressions, listed}
use Rattle.cedar_expr_model.specs.Restricted.{offence}
use Rattle.cedar_expr_model.specs.Table.{Signature, signature_of, takes_count, are_of_types}
use Rattle.cedar_expr_model.specs.OfLaws.Fair.{IsTaken}
use Rattle.cedar_expr_model.specs.Tree.{Tree, lit, unknown, call, set_literal, record_literal}
use Rattle.cedar_expr_model.specs.ValueParts.{all_known}
use Rattle.cedar_store_model.specs.Outcome.{wrong_type, wrong_count}
use Rattle.cedar_evaluator_model.specs.Evaluation.{pieces_of, node, evaluated}
use Rattle.cedar_evaluator_model.specs.Known.{known_world}
use Rattle.cedar_evaluator_model.specs.Scope.{Scope, MadeCalled, makes, faults, leaves_unknown, Left, value_left, residual, stopped}
use Rattle.cedar_evaluator_model.specs.Steps.{errs, mapped, answer_left, called_left, made_members, Pieces, pieces, halted, with_piece}
use Rattle.cedar_evaluator_model.specs.OfLaws.WellMade.{IsWellMade}
use Rattle.cedar_evaluator_model.proofs.Represented.{well_of_represented}
use Rattle.cedar_evaluator_model.proofs.GivenReads.{length_bare}
use Rattle.cedar_evaluator_model.proofs.Named.{call_of, field_names, field_trees, fields_named}
use Rattle.cedar_evaluator_model.proofs.Residuals.Lists.{EachWellMade, stands_set, fields_well}
use Rattle.cedar_evaluator_model.specs.Functions.{Functions}
use Rattle.cedar_gate_model.specs.RunsAnswer.{MakeFairly}
use Rattle.cedar_evaluator_model.proofs.Restricted.{no_feature_split, feature_of, parts_of, listed_same, fields_same}
use Rattle.cedar_gate_model.proofs.Runs.Restricted.{mapped_some, comes_of}

pub makes_well : (x : Functions) → MakeFairly x → (f : Name) (ms : List Made) (m : Made) → IsTaken x.table f (map bare ms) → x.calls f ms ≡ makes m → IsWellMade x.table m
makes_well x h f ms m t e = well_of_represented x.table m (h.values f ms m e) ((h.answers).represented f ms m t e)

module _ (s : Scope) (none : (n : Text) → s.values n ≡ None) (well : (f : Name) (ms : List Made) (m : Made) → IsTaken s.table f (map bare ms) → s.calls f ms ≡ makes m → IsWellMade s.table m) where
  abbrev IsWell : Left → Type 0
  IsWell l = (m : Made) → l ≡ value_left m → IsWellMade s.table m

  abbrev Wells : (Tree → Left) → Type 0
  Wells go = (t : Tree) → offence t ≡ None → IsWell (go t)

  abbrev AllWell : Pieces → Type 0
  AllWell (pieces qs) = (ms : List Made) → all_known qs ≡ Some ms → EachWellMade s.table ms
  AllWell (halted why) = Unit {0}

  one_more : (l : Left) (ps : Pieces) → IsWell l → AllWell ps → AllWell (with_piece l ps)
  one_more (stopped why) ps h k = tt
  one_more (value_left m) (halted why) h k = tt
  one_more (residual r) (halted why) h k = tt
  one_more (residual r) (pieces qs) h k = λ ms e. cc
  one_more (value_left m) (pieces qs) h k = λ ms e. (let r = mapped_some (λ ns. m ∷ ns) (all_known qs) ms e in subst (EachWellMade s.table) r.2 (h m refl, k r.0 r.1))

  all_well : (go : Tree → Left) → Wells go → (ts : List Tree) → feature_of (parts_of ts) ≡ None → AllWell (pieces_of go ts)
  all_well go h [] r = λ ms e. (let q : [] ≡ ms = cc in subst (EachWellMade s.table) q tt)
  all_well go h (t ∷ ts) r = let p = no_feature_split (subexpressions t) (parts_of ts) r in one_more (go t) (pieces_of go ts) (h t p.0) (all_well go h ts p.1)

  answer_well : (c : MadeCalled) → ((m : Made) → c ≡ makes m → IsWellMade s.table m) → IsWell (answer_left c)
  answer_well (makes k) h m e = let q : k ≡ m = cc in h m (ap makes q)
  answer_well (faults n) h m e = cc
  answer_well (leaves_unknown n) h m e = cc

  guarded : (count types : Bool) (l : Left) → (count ≡ true → types ≡ true → IsWell l) → IsWell (cond count (cond types l (errs wrong_type)) (errs wrong_count))
  guarded true true l h m e = h refl refl m e
  guarded true false l h m e = cc
  guarded false types l h m e = cc

  call_well : (f : Name) (ms : List Made) (g : Option Signature) → signature_of s.table f ≡ g → IsWell (call_of s f ms g)
  call_well f ms None q m e = cc
  call_well f ms (Some g) q m e =
      guarded (takes_count g (length ms)) (are_of_types g.parameters (map bare ms)) (answer_left (s.calls f ms))
      (λ c t. answer_well (s.calls f ms) (λ k i. well f ms k (g, q, ap (takes_count g) (length_bare ms) ∙ c, t) i)) m e

  node_well : (go : Tree → Left) → Wells go → Wells (node s go)
  node_well go h (lit p) r m e = let q : made_prim p ≡ m = cc in subst (IsWellMade s.table) q tt
  node_well go h (unknown n a) r m e = let k : residual (unknown n a) ≡ value_left m = ap (mapped n a) (sym (none n)) ∙ e in cc
  node_well go h (call f ts) r m e =
      let k = comes_of (called_left s f) (λ us. call f (trees us)) (pieces_of go (listed ts)) m e in
      call_well f k.2.0 (signature_of s.table f) refl m k.2.2
  node_well go h (set_literal ts) r m e =
      let k = comes_of (λ ms. value_left (made_set (made_members ms))) (λ us. set_literal (trees us)) (pieces_of go (listed ts)) m e in
      let parts = subst AllWell k.1 (all_well go h (listed ts) (ap feature_of (sym (listed_same ts)) ∙ r)) k.2.0 k.2.1 in
      let q : made_set (made_members k.2.0) ≡ m = (let z = k.2.2 in cc) in
      subst (IsWellMade s.table) q (stands_set (known_world s) k.2.0 parts).1
  node_well go h (record_literal fs) r m e =
      let k = comes_of (λ ms. value_left (made_record (fields_named (field_names fs) ms))) (λ us. record_literal (tree_fields (zip (field_names fs) us))) (pieces_of go (field_trees fs)) m e in
      let parts = subst AllWell k.1 (all_well go h (field_trees fs) (ap feature_of (sym (fields_same fs)) ∙ r)) k.2.0 k.2.1 in
      let q : made_record (fields_named (field_names fs) k.2.0) ≡ m = (let z = k.2.2 in cc) in
      subst (IsWellMade s.table) q (fields_well s.table (field_names fs) k.2.0 parts)
  node_well go h t r m e = cc

  pub evaluated_well : (n : ℕ) → Wells (evaluated s n)
  evaluated_well zero t r m e = cc
  evaluated_well (suc n) t r m e = node_well (evaluated s n) (evaluated_well n) t r m e
