-- Where nothing is unknown no evaluation within the limit meets it.
use Rattle.std.proofs.Common.{◌≡◌, ℕ, zero, suc, ◌≤◌, Bool, true, false, cond, ◌&&◌, List, [], ◌∷◌, refl, sym, ap, ◌∙◌, subst, zip}
use Rattle.std.specs.Prelude.{Option, Some, None, map, option_map, length, IsSome}
use Rattle.std.specs.List.{list_all}
use Rattle.cedar_expr_model.specs.Name.{Text, Name}
use Rattle.cedar_expr_model.specs.Uid.{Uid}
use Rattle.cedar_expr_model.specs.Value.{V}
use Rattle.cedar_expr_model.specs.Tree.{CoreType, Var, principal, action, resource, context, Tree, lit, var, slot, unknown, choice, both, either, unary, binary, call, get_attr, has_attr, has_path, like, is_type, set_literal, record_literal, Trees, no_trees, tree, TreeFields, no_tree_fields, tree_field, nesting, nestings, field_nestings}
use Rattle.cedar_expr_model.specs.Parts.{is_projectable, may_project, listed, subexpressions, subexpressions_among, subexpressions_in_fields}
use Rattle.cedar_expr_model.specs.Made.{Made, made_set, made_record, bare, written}
use Rattle.cedar_expr_model.specs.Substitution.{fits_annotation}
use Rattle.cedar_expr_model.specs.Table.{Signature, signature_of, takes_count, are_of_types}
use Rattle.cedar_expr_model.specs.OfLaws.Fair.{IsTaken}
use Rattle.cedar_expr_model.proofs.Lists.{both_hold}
use Rattle.cedar_store_model.specs.Outcome.{wrong_type, wrong_count}
use Rattle.cedar_expr_model.specs.ValueParts.{Part, known, left, all_known, part_tree}
use Rattle.cedar_store_model.specs.World.{Found, held, missing, not_loaded}
use Rattle.cedar_store_model.specs.Operators.{applied, like_pattern, of_type}
use Rattle.cedar_store_model.specs.Knowledge.{is_known}
use Rattle.cedar_evaluator_model.specs.Scope.{Scope, MadeCalled, makes, faults, leaves_unknown, Entry, uid, unknown_uid, Context, closed, residual_fields, unknown_context, fault, limit, Left, value_left, residual, stopped}
use Rattle.cedar_evaluator_model.specs.OfLaws.Calls.{bare_called, Agrees}
use Rattle.cedar_evaluator_model.specs.Steps.{errs, truth_left, best, mapped, attribute_of, test_of, path_of, combined_left, kind_of_value, kind_of_unknown, with_residual, answer_left, called_left, made_members, Pieces, pieces, halted, with_piece, from_pieces}
use Rattle.cedar_evaluator_model.specs.Evaluation.{entry_left, context_left, variable_left, get_of_residual, has_of_residual, pieces_of, node, evaluated}
use Rattle.cedar_evaluator_model.specs.Known.{known_entry, known_context, known_part, known_parts, known_found}
use Rattle.cedar_evaluator_model.specs.OfLaws.Whole.{NothingUnknown, HoldsValues, LeavesNothing, BoundTo, AllBoundTo}
use Rattle.cedar_evaluator_model.specs.OfLaws.Standing.{NoLimit}
use Rattle.cedar_evaluator_model.proofs.GivenReads.{length_bare}
use Rattle.cedar_evaluator_model.proofs.Owed.{left_within, right_within, less_one, nested}
use Rattle.cedar_evaluator_model.proofs.Sure.{Sure, sure_if, sure_value, sure_left, sure_picks, conjunction_left, disjunction_left, sure_and, sure_or, ValuesHeld, sure_attribute, sure_test, sure_path, sure_combined, sure_with_residual, sure_is, path_unprojectable, sure_get, sure_has}
use Rattle.std.proofs.lemmas.List.Folds.{list_all-append}
use Rattle.cedar_evaluator_model.proofs.Named.{call_of, field_names, field_trees, fields_named, slot_left}
use Rattle.std.specs.Option.{option_map_or}
use Rattle.cedar_expr_model.specs.Builder.{tree_fields, trees}
use Rattle.cedar_expr_model.proofs.Gathering.{EachAmong, EachIn, EachInFields, each_in}

-- several pieces: values, or what is rebuilt of them can't be projected
abbrev SureWhole : (List Tree → Bool) → List (Part Made) → Option (List Made) → Type 0
SureWhole test ps None = test (map part_tree ps) ≡ false
SureWhole test ps (Some ms) = Unit {0}

abbrev SurePieces : (List Tree → Bool) → Pieces → Type 0
SurePieces test (pieces ps) = SureWhole test ps (all_known ps)
SurePieces test (halted (fault f)) = Unit {0}
SurePieces test (halted limit) = ⊥

sure_made : (test : List Tree → Bool) (next : List Made → Left) (rebuilt : List Tree → Tree) (ps : List (Part Made)) (o : Option (List Made)) → SureWhole test ps o → ((ms : List Made) → Sure (next ms)) → ((ts : List Tree) → test ts ≡ false → is_projectable (rebuilt ts) ≡ false) → Sure (option_map_or next o (residual (rebuilt (map part_tree ps))))
sure_made test next rebuilt ps None h n r = r (map part_tree ps) h
sure_made test next rebuilt ps (Some ms) h n r = n ms

sure_from : (test : List Tree → Bool) (next : List Made → Left) (rebuilt : List Tree → Tree) (ps : Pieces) → SurePieces test ps → ((ms : List Made) → Sure (next ms)) → ((ts : List Tree) → test ts ≡ false → is_projectable (rebuilt ts) ≡ false) → Sure (from_pieces next rebuilt ps)
sure_from test next rebuilt (pieces ps) h n r = sure_made test next rebuilt ps (all_known ps) h n r
sure_from test next rebuilt (halted (fault f)) h n r = tt
sure_from test next rebuilt (halted limit) h n r = h

and_false : (a b : Bool) → b ≡ false → (a && b) ≡ false
and_false true b e = e
and_false false b e = refl

false_and : (a b : Bool) → a ≡ false → (a && b) ≡ false
false_and true b e = cc
false_and false b e = refl

module _ (test wider : List Tree → Bool) (step : (t : Tree) (ts : List Tree) → wider (t ∷ ts) ≡ (is_projectable t && test ts)) where
  sure_value_more : (m : Made) (ps : List (Part Made)) (o : Option (List Made)) → SureWhole test ps o → SureWhole wider (known m ∷ ps) (option_map (λ ms. m ∷ ms) o)
  sure_value_more m ps None h = step (written m) (map part_tree ps) ∙ and_false (is_projectable (written m)) (test (map part_tree ps)) h
  sure_value_more m ps (Some ms) h = tt

  sure_more : (l : Left) (ps : Pieces) → Sure l → SurePieces test ps → SurePieces wider (with_piece l ps)
  sure_more (stopped (fault f)) ps h k = tt
  sure_more (stopped limit) ps h k = h
  sure_more (value_left m) (pieces ps) h k = sure_value_more m ps (all_known ps) k
  sure_more (value_left m) (halted (fault f)) h k = tt
  sure_more (value_left m) (halted limit) h k = k
  sure_more (residual r) (pieces ps) h k = step r (map part_tree ps) ∙ false_and (is_projectable r) (test (map part_tree ps)) h
  sure_more (residual r) (halted (fault f)) h k = tt
  sure_more (residual r) (halted limit) h k = k

-- variables, slots and unknowns
sure_entry : (n : Text) (e : Entry) → IsSome (known_entry e) → Sure (entry_left n e)
sure_entry n (uid u) h = tt
sure_entry n (unknown_uid k) h = cc

sure_context : (c : Context) → IsSome (known_context c) → Sure (context_left c)
sure_context (closed fs) h = tt
sure_context (residual_fields fs) h = cc
sure_context unknown_context h = cc

sure_variable : (s : Scope) → NothingUnknown s → (x : Var) → Sure (variable_left s x)
sure_variable s k principal = sure_entry _ s.principal k.principal
sure_variable s k action = sure_entry _ s.action k.action
sure_variable s k resource = sure_entry _ s.resource k.resource
sure_variable s k context = sure_context s.context k.context

sure_slot : (o : Option Uid) → Sure (slot_left o)
sure_slot None = tt
sure_slot (Some u) = tt

sure_mapped : (n : Text) (a : Option CoreType) (o : Option Made) (v : V) → option_map bare o ≡ Some v → Sure (mapped n a o)
sure_mapped n a None v e = cc
sure_mapped n a (Some m) v e = sure_if (fits_annotation a (bare m)) (value_left m) (errs wrong_type) tt tt

-- the store
same_known : (p : Part Made) → is_known (known_part p) ≡ is_known p
same_known (known m) = refl
same_known (left t) = refl

parts_known : (ps : List (Text × Part Made)) → list_all (λ p. is_known p.1) (known_parts ps) ≡ list_all (λ p. is_known p.1) ps
parts_known [] = refl
parts_known (p ∷ ps) = λ i. same_known p.1 i && parts_known ps i

values_held : (f : Found Made) → HoldsValues (known_found f) → ValuesHeld f
values_held (held e) h =
    let k = both_hold (list_all (λ p. is_known p.1) (known_parts e.attributes)) (list_all (λ p. is_known p.1) (known_parts e.tags)) h in
    (sym (parts_known e.attributes) ∙ k.0, sym (parts_known e.tags) ∙ k.1)
values_held missing h = tt
values_held not_loaded h = tt

-- calls
sure_answer : (s : Scope) (f : Name) (ms : List Made) → Agrees s → LeavesNothing s.table → IsTaken s.table f (map bare ms) → (c : MadeCalled) → s.calls f ms ≡ c → Sure (answer_left c)
sure_answer s f ms agrees nothing t (makes m) e = tt
sure_answer s f ms agrees nothing t (faults x) e = tt
sure_answer s f ms agrees nothing t (leaves_unknown n) e = absurd (nothing f (map bare ms) n t (sym (agrees f ms t) ∙ ap bare_called e))

sure_guarded : (count types : Bool) (l : Left) → (count ≡ true → types ≡ true → Sure l) → Sure (cond count (cond types l (errs wrong_type)) (errs wrong_count))
sure_guarded true true l h = h refl refl
sure_guarded true false l h = tt
sure_guarded false types l h = tt

sure_call : (s : Scope) → Agrees s → LeavesNothing s.table → (f : Name) (ms : List Made) (g : Option Signature) → signature_of s.table f ≡ g → Sure (call_of s f ms g)
sure_call s agrees nothing f ms None q = tt
sure_call s agrees nothing f ms (Some g) q =
    sure_guarded (takes_count g (length ms)) (are_of_types g.parameters (map bare ms)) (answer_left (s.calls f ms))
    (λ c t. sure_answer s f ms agrees nothing (g, q, ap (takes_count g) (length_bare ms) ∙ c, t) (s.calls f ms) refl)

-- whether these may be projected, as fields with these names too
abbrev may_all : List Tree → Bool
may_all ts = is_projectable (set_literal (trees ts))

abbrev may_named : List Text → List Tree → Bool
may_named names ts = is_projectable (record_literal (tree_fields (zip names ts)))

all_first : (t : Tree) (ts : List Tree) → may_all (t ∷ ts) ≡ (is_projectable t && may_all ts)
all_first t ts = list_all-append may_project (subexpressions t) (subexpressions_among (trees ts))

named_first : (a : Text) (names : List Text) (t : Tree) (ts : List Tree) → may_named (a ∷ names) (t ∷ ts) ≡ (is_projectable t && may_named names ts)
named_first a names t ts = list_all-append may_project (subexpressions t) (subexpressions_in_fields (tree_fields (zip names ts)))

abbrev BoundIn : Scope → Tree → Type 0
BoundIn s t = EachIn (BoundTo s) t

-- one level, where what is a level deeper is sure
module _ (s : Scope) (agrees : Agrees s) (k : NothingUnknown s) (n : ℕ) (go : Tree → Left) (deeper : (t : Tree) → nesting t ≤ n → BoundIn s t → Sure (go t)) where
  holds : (u : Uid) → ValuesHeld (s.store u)
  holds u = values_held (s.store u) (k.store u)

  sure_all : (ts : Trees) → nestings ts ≤ n → EachAmong (BoundTo s) ts → SurePieces may_all (pieces_of go (listed ts))
  sure_all no_trees d f = tt
  sure_all (tree t ts) d f =
      sure_more may_all may_all all_first (go t) (pieces_of go (listed ts))
      (deeper t (left_within (nesting t) (nestings ts) n d) f.0) (sure_all ts (right_within (nesting t) (nestings ts) n d) f.1)

  sure_fields : (fs : TreeFields) → field_nestings fs ≤ n → EachInFields (BoundTo s) fs → SurePieces (may_named (field_names fs)) (pieces_of go (field_trees fs))
  sure_fields no_tree_fields d f = tt
  sure_fields (tree_field a t fs) d f =
      sure_more (may_named (field_names fs)) (may_named (a ∷ field_names fs)) (named_first a (field_names fs)) (go t) (pieces_of go (field_trees fs))
      (deeper t (left_within (nesting t) (field_nestings fs) n d) f.0) (sure_fields fs (right_within (nesting t) (field_nestings fs) n d) f.1)

  child : (t : Tree) → suc (nesting t) ≤ suc n → BoundIn s t → Sure (go t)
  child t d f = deeper t (less_one (nesting t) n d) f

  sure_node : (t : Tree) → nesting t ≤ suc n → BoundIn s t → Sure (node s go t)
  sure_node (lit p) d f = tt
  sure_node (var x) d f = sure_variable s k x
  sure_node (slot x) d f = sure_slot (s.slots x)
  sure_node (unknown x a) d f = sure_mapped x a (s.values x) f.0 f.1
  sure_node (choice t a b) d f =
      let e = less_one _ n d in
      let r = right_within (nesting t) _ n e in
      sure_value (go t) _ _ (deeper t (left_within (nesting t) _ n e) f.0)
      (sure_picks (go a) (go b) (deeper a (left_within (nesting a) (nesting b) n r) f.1) (deeper b (right_within (nesting a) (nesting b) n r) f.2)) (λ r h. refl)
  sure_node (both a b) d f =
      let e = less_one _ n d in
      let right = deeper b (right_within (nesting a) (nesting b) n e) f.1 in
      sure_value (go a) _ _ (deeper a (left_within (nesting a) (nesting b) n e) f.0) (sure_picks _ (truth_left false) (sure_and (go b) right) tt) (λ r h. conjunction_left r (best b (go b)) h)
  sure_node (either a b) d f =
      let e = less_one _ n d in
      let right = deeper b (right_within (nesting a) (nesting b) n e) f.1 in
      sure_value (go a) _ _ (deeper a (left_within (nesting a) (nesting b) n e) f.0) (sure_picks (truth_left true) _ tt (sure_or (go b) right)) (λ r h. disjunction_left r (best b (go b)) h)
  sure_node (unary o a) d f = sure_value (go a) _ _ (child a d f) (λ m. sure_left (applied o (bare m))) (λ r h. refl)
  sure_node (binary o a b) d f =
      let e = less_one _ n d in
      let right = deeper b (right_within (nesting a) (nesting b) n e) f.1 in
      sure_value (go a) _ _ (deeper a (left_within (nesting a) (nesting b) n e) f.0)
      (λ m. sure_value (go b) (combined_left s o m) _ right (λ x. sure_combined s holds o m x) (λ y h. sure_with_residual o (kind_of_value m) (kind_of_unknown y) (written m) y))
      (λ y h. sure_value (go b) (λ x. with_residual o (kind_of_unknown y) (kind_of_value x) y (written x)) (λ z. with_residual o (kind_of_unknown y) (kind_of_unknown z) y z) right
      (λ x. sure_with_residual o (kind_of_unknown y) (kind_of_value x) y (written x)) (λ z g. sure_with_residual o (kind_of_unknown y) (kind_of_unknown z) y z))
  sure_node (call g ts) d f = sure_from may_all (called_left s g) (λ us. call g (trees us)) (pieces_of go (listed ts)) (sure_all ts (less_one _ n d) f) (λ ms. sure_call s agrees k.calls g ms (signature_of s.table g) refl) (λ ts h. refl)
  sure_node (get_attr t a) d f = sure_value (go t) (attribute_of s a) (get_of_residual go a) (child t d f) (λ m. sure_attribute s holds a m) (λ r h. sure_get go a r h)
  sure_node (has_attr t a) d f = sure_value (go t) (test_of s a) (has_of_residual a) (child t d f) (λ m. sure_test s holds a m) (λ r h. sure_has a r h)
  sure_node (has_path t a bs) d f = sure_value (go t) (path_of s a bs) _ (child t d f) (λ m. sure_path s holds a bs m) (λ r h. path_unprojectable r a bs)
  sure_node (like t p) d f = sure_value (go t) _ _ (child t d f) (λ m. sure_left (like_pattern p (bare m))) (λ r h. refl)
  sure_node (is_type t x) d f = sure_value (go t) _ _ (child t d f) (λ m. sure_left (of_type x (bare m))) (λ r h. sure_is x r)
  sure_node (set_literal ts) d f = sure_from may_all (λ ms. value_left (made_set (made_members ms))) (λ us. set_literal (trees us)) (pieces_of go (listed ts)) (sure_all ts (less_one _ n d) f) (λ ms. tt) (λ ts h. h)
  sure_node (record_literal fs) d f =
      sure_from (may_named (field_names fs)) (λ ms. value_left (made_record (fields_named (field_names fs) ms))) (λ ts. record_literal (tree_fields (zip (field_names fs) ts))) (pieces_of go (field_trees fs)) (sure_fields fs (less_one _ n d) f)
      (λ ms. tt) (λ ts h. h)

pub sure : (s : Scope) → Agrees s → NothingUnknown s → (n : ℕ) (t : Tree) → nesting t ≤ n → BoundIn s t → Sure (evaluated s n t)
sure s agrees k zero t d f = absurd (nested t d)
sure s agrees k (suc n) t d f = sure_node s agrees k n (evaluated s n) (sure s agrees k n) t d f

pub no_limit : (s : Scope) → Agrees s → NothingUnknown s → (n : ℕ) (t : Tree) → AllBoundTo s t → nesting t ≤ n → NoLimit s n t
no_limit s agrees k n t f d e = subst Sure e (sure s agrees k n t d ((each_in (BoundTo s) t).0 f))
