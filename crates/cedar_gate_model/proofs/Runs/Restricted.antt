-- The value that is left of a restricted expression is what it means, whatever else is known.
use Rattle.std.proofs.Common.{◌≡◌, ◌∙◌, ℕ, zero, suc, Bool, true, false, cond, List, [], ◌∷◌, map, length, Option, Some, None, refl, sym, ap, subst, option_map}
use Rattle.std.specs.Prelude.{zip}
use Rattle.std.specs.Option.{option_map_or}
use Rattle.cedar_expr_model.specs.Name.{Text, Name}
use Rattle.cedar_expr_model.specs.Value.{V, set_of, record_of, field}
use Rattle.cedar_expr_model.specs.Canonical.{set_made}
use Rattle.cedar_expr_model.specs.Tree.{Tree, lit, unknown, call, set_literal, record_literal, Trees, no_trees, tree, TreeFields, no_tree_fields, tree_field}
use Rattle.cedar_expr_model.specs.Builder.{trees, tree_fields}
use Rattle.cedar_expr_model.specs.Made.{Made, made_prim, made_set, made_record, bare, bare_fields}
use Rattle.cedar_expr_model.specs.Parts.{subexpressions, subexpressions_among, subexpressions_in_fields, listed}
use Rattle.cedar_expr_model.specs.Restricted.{offence}
use Rattle.cedar_expr_model.specs.Table.{Signature, signature_of, takes_count, are_of_types}
use Rattle.cedar_expr_model.specs.OfLaws.Fair.{IsTaken}
use Rattle.cedar_expr_model.specs.ValueParts.{Part, all_known, part_tree}
use Rattle.cedar_store_model.specs.Outcome.{Res, val, err, bind, wrong_type, wrong_count}
use Rattle.cedar_store_model.specs.World.{World}
use Rattle.cedar_store_model.specs.Operators.{answered, called}
use Rattle.cedar_store_model.specs.Meaning.{outcome_of, outcomes_of, field_outcomes_of}
use Rattle.cedar_store_model.proofs.Named.{called_of}
use Rattle.cedar_evaluator_model.specs.Scope.{Scope, MadeCalled, makes, faults, leaves_unknown, Left, value_left, residual, stopped}
use Rattle.cedar_evaluator_model.specs.OfLaws.Calls.{Agrees, bare_called}
use Rattle.cedar_evaluator_model.specs.Steps.{errs, mapped, answer_left, called_left, made_members, Pieces, pieces, halted, with_piece, from_pieces}
use Rattle.cedar_evaluator_model.specs.Evaluation.{pieces_of, node, evaluated}
use Rattle.cedar_evaluator_model.proofs.GivenLists.{bare_members}
use Rattle.cedar_evaluator_model.proofs.GivenReads.{length_bare}
use Rattle.cedar_evaluator_model.proofs.Named.{call_of, field_names, field_trees, fields_named}
use Rattle.cedar_evaluator_model.proofs.Restricted.{no_feature_split, feature_of}

pub mapped_some : {A B : Type 0} (f : A → B) (q : Option A) (y : B) → option_map f q ≡ Some y → (x : A) × (q ≡ Some x) × (f x ≡ y)
mapped_some f None y e = cc
mapped_some f (Some x) y e = let k : f x ≡ y = cc in (x, refl, k)

-- what is made of pieces is a value where each is one
abbrev pub ComesOf : (List Made → Left) → Pieces → Made → Type 0
ComesOf next ps m = (qs : List (Part Made)) × (ps ≡ pieces qs) × ((ms : List Made) × (all_known qs ≡ Some ms) × (next ms ≡ value_left m))

pub comes_of : (next : List Made → Left) (rebuilt : List Tree → Tree) (ps : Pieces) (m : Made) → from_pieces next rebuilt ps ≡ value_left m → ComesOf next ps m
comes_of next rebuilt (halted s) m e = cc
comes_of next rebuilt (pieces qs) m e = by_all (all_known qs) refl e
  where
    by_all : (o : Option (List Made)) → all_known qs ≡ o → option_map_or next o (residual (rebuilt (map part_tree qs))) ≡ value_left m → ComesOf next (pieces qs) m
    by_all None q k = cc
    by_all (Some ms) q k = (qs, refl, (ms, q, k))

module _ (s : Scope) (w : World) (agrees : Agrees s) (none : (n : Text) → s.values n ≡ None) (same : w.table ≡ s.table) where
  -- a value that is left of an expression is what it means
  abbrev IsMeant : Tree → Left → Type 0
  IsMeant t l = (m : Made) → l ≡ value_left m → outcome_of w t ≡ Some (val (bare m))

  abbrev Right : (Tree → Left) → Type 0
  Right go = (t : Tree) → offence t ≡ None → IsMeant t (go t)

  abbrev AllMeant : Trees → Pieces → Type 0
  AllMeant ts (pieces qs) = (ms : List Made) → all_known qs ≡ Some ms → outcomes_of w ts ≡ Some (val (map bare ms))
  AllMeant ts (halted s) = Unit {0}

  one_more : (t : Tree) (ts : Trees) (l : Left) (ps : Pieces) → IsMeant t l → AllMeant ts ps → AllMeant (tree t ts) (with_piece l ps)
  one_more t ts (stopped s) ps h k = tt
  one_more t ts (value_left m) (halted s) h k = tt
  one_more t ts (residual r) (halted s) h k = tt
  one_more t ts (residual r) (pieces qs) h k = λ ms e. cc
  one_more t ts (value_left m) (pieces qs) h k =
      λ ms e.
      let r = mapped_some (λ ns. m ∷ ns) (all_known qs) ms e in
      let here = h m refl in
      let rest = k r.0 r.1 in
      (λ i. bind (here i) (λ v. bind (rest i) (λ vs. Some (val (v ∷ vs))))) ∙ ap (λ ns. Some (val (map bare ns))) r.2

  all_meant : (go : Tree → Left) → Right go → (ts : Trees) → feature_of (subexpressions_among ts) ≡ None → AllMeant ts (pieces_of go (listed ts))
  all_meant go right no_trees e = λ ms k. let q : [] ≡ ms = cc in ap (λ ns. Some (val (map bare ns))) q
  all_meant go right (tree t ts) e =
      let p = no_feature_split (subexpressions t) (subexpressions_among ts) e in
      one_more t ts (go t) (pieces_of go (listed ts)) (right t p.0) (all_meant go right ts p.1)

  -- If all pieces of the fields of a record are known, they are the values that the fields mean. Nothing is said where a limit was met.
  abbrev FieldsMeant : TreeFields → Pieces → Type 0
  FieldsMeant fs (pieces qs) = (ms : List Made) → all_known qs ≡ Some ms → field_outcomes_of w fs ≡ Some (val (bare_fields (fields_named (field_names fs) ms)))
  FieldsMeant fs (halted s) = Unit {0}

  one_field_more : (a : Text) (t : Tree) (fs : TreeFields) (l : Left) (ps : Pieces) → IsMeant t l → FieldsMeant fs ps → FieldsMeant (tree_field a t fs) (with_piece l ps)
  one_field_more a t fs (stopped s) ps h k = tt
  one_field_more a t fs (value_left m) (halted s) h k = tt
  one_field_more a t fs (residual r) (halted s) h k = tt
  one_field_more a t fs (residual r) (pieces qs) h k = λ ms e. cc
  one_field_more a t fs (value_left m) (pieces qs) h k =
      λ ms e.
      let r = mapped_some (λ ns. m ∷ ns) (all_known qs) ms e in
      let here = h m refl in
      let rest = k r.0 r.1 in
      (λ i. bind (here i) (λ v. bind (rest i) (λ vs. Some (val (field a v vs))))) ∙ ap (λ ns. Some (val (bare_fields (fields_named (field_names (tree_field a t fs)) ns)))) r.2

  fields_meant : (go : Tree → Left) → Right go → (fs : TreeFields) → feature_of (subexpressions_in_fields fs) ≡ None → FieldsMeant fs (pieces_of go (field_trees fs))
  fields_meant go right no_tree_fields e = λ ms k. let q : [] ≡ ms = cc in ap (λ ns. Some (val (bare_fields (fields_named [] ns)))) q
  fields_meant go right (tree_field a t fs) e =
      let p = no_feature_split (subexpressions t) (subexpressions_in_fields fs) e in
      one_field_more a t fs (go t) (pieces_of go (field_trees fs)) (right t p.0) (fields_meant go right fs p.1)

  -- calls
  answer_meant : (c : MadeCalled) (m : Made) → answer_left c ≡ value_left m → answered w.unknowns (bare_called c) ≡ Some (val (bare m))
  answer_meant (makes k) m e = let q : k ≡ m = cc in ap (λ z. Some (val (bare z))) q
  answer_meant (faults n) m e = cc
  answer_meant (leaves_unknown n) m e = cc

  guarded : (count types : Bool) (l : Left) (o : Option (Res V)) (m : Made) → cond count (cond types l (errs wrong_type)) (errs wrong_count) ≡ value_left m
      → (count ≡ true → types ≡ true → l ≡ value_left m → o ≡ Some (val (bare m))) → cond count (cond types o (Some (err wrong_type))) (Some (err wrong_count)) ≡ Some (val (bare m))
  guarded true true l o m e h = h refl refl e
  guarded true false l o m e h = cc
  guarded false types l o m e h = cc

  call_meant : (f : Name) (ms : List Made) (m : Made) (g : Option Signature) → signature_of s.table f ≡ g → call_of s f ms g ≡ value_left m → called_of s.table w.unknowns f (map bare ms) g ≡ Some (val (bare m))
  call_meant f ms m None q e = cc
  call_meant f ms m (Some g) q e =
      let typed = are_of_types g.parameters (map bare ms) in
      let answer = answered w.unknowns (s.table.answers f (map bare ms)) in
      subst (λ k. cond (takes_count g k) (cond typed answer (Some (err wrong_type))) (Some (err wrong_count)) ≡ Some (val (bare m))) (sym (length_bare ms))
      (guarded (takes_count g (length ms)) typed (answer_left (s.calls f ms)) answer m e
      (λ c t k.
      let taken : IsTaken s.table f (map bare ms) = (g, q, ap (takes_count g) (length_bare ms) ∙ c, t) in
      ap (answered w.unknowns) (sym (agrees f ms taken)) ∙ answer_meant (s.calls f ms) m k))

  called_meant : (f : Name) (ms : List Made) (m : Made) → called_left s f ms ≡ value_left m → called w.table w.unknowns f (map bare ms) ≡ Some (val (bare m))
  called_meant f ms m e = ap (λ x. called x w.unknowns f (map bare ms)) same ∙ call_meant f ms m (signature_of s.table f) refl e

  node_meant : (go : Tree → Left) → Right go → Right (node s go)
  node_meant go right (lit p) r m e = let q : made_prim p ≡ m = cc in ap (λ z. Some (val (bare z))) q
  node_meant go right (unknown n a) r m e = let k : residual (unknown n a) ≡ value_left m = ap (mapped n a) (sym (none n)) ∙ e in cc
  node_meant go right (call f ts) r m e =
      let k = comes_of (called_left s f) (λ us. call f (trees us)) (pieces_of go (listed ts)) m e in
      let ms = k.2.0 in
      let parts = subst (AllMeant ts) k.1 (all_meant go right ts r) ms k.2.1 in
      ap (λ o. bind o (called w.table w.unknowns f)) parts ∙ called_meant f ms m k.2.2
  node_meant go right (set_literal ts) r m e =
      let k = comes_of (λ ms. value_left (made_set (made_members ms))) (λ us. set_literal (trees us)) (pieces_of go (listed ts)) m e in
      let ms = k.2.0 in
      let parts = subst (AllMeant ts) k.1 (all_meant go right ts r) ms k.2.1 in
      let q : made_set (made_members ms) ≡ m = let z = k.2.2 in cc in
      ap (λ o. bind o (λ vs. Some (val (set_made vs)))) parts ∙ ap (λ vs. Some (val (set_of vs))) (sym (bare_members ms)) ∙ ap (λ z. Some (val (bare z))) q
  node_meant go right (record_literal fs) r m e =
      let k = comes_of (λ ms. value_left (made_record (fields_named (field_names fs) ms))) (λ us. record_literal (tree_fields (zip (field_names fs) us))) (pieces_of go (field_trees fs)) m e in
      let ms = k.2.0 in
      let parts = subst (FieldsMeant fs) k.1 (fields_meant go right fs r) ms k.2.1 in
      let q : made_record (fields_named (field_names fs) ms) ≡ m = let z = k.2.2 in cc in
      ap (λ o. bind o (λ vs. Some (val (record_of vs)))) parts ∙ ap (λ z. Some (val (bare z))) q
  node_meant go right t r m e = cc

  pub value_is_meant : (n : ℕ) → Right (evaluated s n)
  value_is_meant zero t r m e = cc
  value_is_meant (suc n) t r m e = node_meant (evaluated s n) (value_is_meant n) t r m e
