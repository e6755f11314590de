-- What is read of a store, and what calls answer, beside what the world of what is known gives.
use Rattle.std.proofs.Common.{◌≡◌, suc, Bool, true, false, cond, List, [], ◌∷◌, refl, sym, ap, ◌∙◌, subst}
use Rattle.std.specs.Prelude.{Option, Some, None, option_map, map, length, is_some, not, ◌+ℤ◌, ◌-ℤ◌, ◌*ℤ◌}
use Rattle.std.specs.Ordering.{is_lt, is_le}
use Rattle.std.specs.Str.{bytes_eq}
use Rattle.cedar_expr_model.specs.Name.{Text, Name}
use Rattle.cedar_expr_model.specs.Uid.{Uid}
use Rattle.cedar_expr_model.specs.Value.{truth, text, entity, V, field_of, truth_value}
use Rattle.cedar_expr_model.specs.Order.{value_eq}
use Rattle.cedar_expr_model.specs.Tree.{CoreType, unknown, BinaryOp, equal, less, less_or_equal, plus, difference, times, remainder, is_in, contains, contains_all, contains_any, get_tag, has_tag}
use Rattle.cedar_expr_model.specs.Made.{Made, made_prim, made_record, MadeFields, no_made_fields, made_field, bare, bare_fields}
use Rattle.cedar_expr_model.specs.Table.{Signature, signature_of, takes_count, are_of_types}
use Rattle.cedar_expr_model.specs.OfLaws.Fair.{IsTaken}
use Rattle.cedar_expr_model.proofs.CoreTypes.{fits-Decides}
use Rattle.cedar_expr_model.specs.Canonical.{is_subset, is_disjoint}
use Rattle.cedar_store_model.specs.Outcome.{Res, val, err, wrong_type, wrong_count, bind, missing_attribute_or_tag, missing_field}
use Rattle.cedar_expr_model.specs.ValueParts.{Part, known, left}
use Rattle.cedar_store_model.specs.World.{Found, held, missing, not_loaded}
use Rattle.cedar_store_model.specs.Operators.{in_range, remains, says, answered}
use Rattle.cedar_store_model.proofs.Named.{attributes_of, tags_of, tag_read, tag_tested, bound_value, called_of}
use Rattle.cedar_store_model.specs.Reads.{part_value, part_read, part_tested, attribute_read, attribute_tested, uids_in, is_in_some, found_in, within}
use Rattle.cedar_store_model.specs.Meaning.{combined, path_tested, picked}
use Rattle.cedar_evaluator_model.specs.Scope.{Scope, MadeCalled, makes, faults, leaves_unknown, Left, value_left, residual}
use Rattle.cedar_evaluator_model.specs.OfLaws.Calls.{bare_called, Agrees}
use Rattle.cedar_evaluator_model.specs.Steps.{errs, truth_left, mapped, part_left, tag_left, part_or_missing, made_named, attribute_of, test_of, path_step, path_of, get_tag_found, has_tag_found, tag_of, in_found, in_of, combined_left, answer_left, call_left}
use Rattle.cedar_evaluator_model.specs.Known.{known_part, known_parts, known_found, known_world}
use Rattle.cedar_evaluator_model.specs.Completion.{Fits}
use Rattle.cedar_evaluator_model.specs.OfLaws.Standing.{LeavesUnbound}
use Rattle.cedar_evaluator_model.proofs.Given.{Given, given_value, given_literal, literal_ordered, literal_range, literal_remains, literal_calculated, literal_among, literal_sets, literal_in}
use Rattle.std.specs.Map.{lookup}
use Rattle.cedar_evaluator_model.proofs.Named.{attribute_found, test_found, path_found, call_of}
use Rattle.std.specs.Option.{option_map_or}

-- parts and fields by name
named_case : (b : Bool) (p : Part Made) (o : Option (Part Made)) (q : Option (Part V)) → q ≡ option_map known_part o → cond b (Some (known_part p)) q ≡ option_map known_part (cond b (Some p) o)
named_case true p o q e = refl
named_case false p o q e = e

pub named_known : (a : Text) (ps : List (Text × Part Made)) → lookup (bytes_eq a) (known_parts ps) ≡ option_map known_part (lookup (bytes_eq a) ps)
named_known a [] = refl
named_known a (p ∷ ps) = named_case (bytes_eq a p.0) p.1 (lookup (bytes_eq a) ps) (lookup (bytes_eq a) (known_parts ps)) (named_known a ps)

field_case : (b : Bool) (m : Made) (o : Option Made) (q : Option V) → q ≡ option_map bare o → cond b (Some (bare m)) q ≡ option_map bare (cond b (Some m) o)
field_case true m o q e = refl
field_case false m o q e = e

pub field_known : (a : Text) (fs : MadeFields) → field_of a (bare_fields fs) ≡ option_map bare (made_named a fs)
field_known a no_made_fields = refl
field_known a (made_field b m fs) = field_case (bytes_eq a b) m (made_named a fs) (field_of a (bare_fields fs)) (field_known a fs)

-- unknowns
pub given_mapped : (n : Text) (a : Option CoreType) (o : Option Made) → Fits a (option_map bare o) → Given (bound_value (option_map bare o)) (mapped n a o)
given_mapped n a None h = tt
given_mapped n a (Some m) h = subst (λ b. Given (Some (val (bare m))) (cond b (value_left m) (errs wrong_type))) (sym ((fits-Decides a (bare m)).1 h)) (given_value m)

-- attributes
given_part : (next : Part Made → Left) → ((m : Made) → next (known m) ≡ value_left m) → (o : Option (Part Made)) → Given (part_value (option_map known_part o)) (option_map_or next o (errs missing_attribute_or_tag))
given_part next h None = refl
given_part next h (Some (known m)) = subst (Given (Some (val (bare m)))) (sym (h m)) (given_value m)
given_part next h (Some (left t)) = tt

given_attribute_found : (s : Scope) (u : Uid) (a : Text) (f : Found Made) → Given (part_read attributes_of u a (known_found f)) (attribute_found s u a f)
given_attribute_found s u a (held e) = subst (λ o. Given (part_value o) (part_or_missing (part_left s) a e.attributes)) (sym (named_known a e.attributes)) (given_part (part_left s) (λ m. refl) (lookup (bytes_eq a) e.attributes))
given_attribute_found s u a missing = refl
given_attribute_found s u a not_loaded = tt

given_field : (o : Option Made) → Given (Some (option_map_or val (option_map bare o) (err missing_field))) (option_map_or value_left o (errs missing_field))
given_field None = refl
given_field (Some m) = given_value m

pub given_attribute : (s : Scope) (a : Text) (m : Made) → Given (attribute_read (known_world s) a (bare m)) (attribute_of s a m)
given_attribute s a (made_prim (entity u)) = given_attribute_found s u a (s.store u)
given_attribute s a (made_record fs) = subst (λ o. Given (Some (option_map_or val o (err missing_field))) (option_map_or value_left (made_named a fs) (errs missing_field))) (sym (field_known a fs)) (given_field (made_named a fs))
given_attribute s a m = refl

-- tests of attributes
given_there : (o : Option (Part Made)) → Given (Some (says (is_some (option_map known_part o)))) (truth_left (is_some o))
given_there None = given_value (made_prim (truth false))
given_there (Some p) = given_value (made_prim (truth true))

given_test_found : (u : Uid) (a : Text) (f : Found Made) → Given (part_tested attributes_of u a (known_found f)) (test_found u a f)
given_test_found u a (held e) = subst (λ o. Given (Some (says (is_some o))) (truth_left (is_some (lookup (bytes_eq a) e.attributes)))) (sym (named_known a e.attributes)) (given_there (lookup (bytes_eq a) e.attributes))
given_test_found u a missing = given_value (made_prim (truth false))
given_test_found u a not_loaded = tt

given_field_there : (o : Option Made) → Given (Some (says (is_some (option_map bare o)))) (truth_left (is_some o))
given_field_there None = given_value (made_prim (truth false))
given_field_there (Some m) = given_value (made_prim (truth true))

pub given_test : (s : Scope) (a : Text) (m : Made) → Given (attribute_tested (known_world s) a (bare m)) (test_of s a m)
given_test s a (made_prim (entity u)) = given_test_found u a (s.store u)
given_test s a (made_record fs) = subst (λ o. Given (Some (says (is_some o))) (truth_left (is_some (made_named a fs)))) (sym (field_known a fs)) (given_field_there (made_named a fs))
given_test s a m = refl

-- paths
module _ (f : V → Option (Res V)) (next : Made → Left) (h : (m : Made) → Given (f (bare m)) (next m)) (b : Text) (bs : List Text) where
  given_step : (o : Option (Part Made)) → Given (picked (bind (part_value (option_map known_part o)) f) (Some (says false)) (truth_value (is_some (option_map known_part o)))) (path_step next b bs o)
  given_step None = given_value (made_prim (truth false))
  given_step (Some (known m)) = h m
  given_step (Some (left t)) = tt

  given_path_found : (u : Uid) (a : Text) (g : Found Made) → Given (bind (part_tested attributes_of u a (known_found g)) (picked (bind (part_read attributes_of u a (known_found g)) f) (Some (says false)))) (path_found next u a b bs g)
  given_path_found u a (held e) = subst (λ o. Given (picked (bind (part_value o) f) (Some (says false)) (truth_value (is_some o))) (path_step next b bs (lookup (bytes_eq a) e.attributes))) (sym (named_known a e.attributes)) (given_step (lookup (bytes_eq a) e.attributes))
  given_path_found u a missing = given_value (made_prim (truth false))
  given_path_found u a not_loaded = tt

  given_path_field : (o : Option Made) → Given (picked (bind (Some (option_map_or val (option_map bare o) (err missing_field))) f) (Some (says false)) (truth_value (is_some (option_map bare o)))) (option_map_or next o (truth_left false))
  given_path_field None = given_value (made_prim (truth false))
  given_path_field (Some m) = h m

pub given_path : (s : Scope) (a : Text) (bs : List Text) (m : Made) → Given (path_tested (known_world s) a bs (bare m)) (path_of s a bs m)
given_path s a [] m = given_test s a m
given_path s a (b ∷ bs) (made_prim (entity u)) = given_path_found (path_tested (known_world s) b bs) (path_of s b bs) (given_path s b bs) b bs u a (s.store u)
given_path s a (b ∷ bs) (made_record fs) =
    subst (λ o. Given (picked (bind (Some (option_map_or val o (err missing_field))) (path_tested (known_world s) b bs)) (Some (says false)) (truth_value (is_some o))) (option_map_or (path_of s b bs) (made_named a fs) (truth_left false))) (sym (field_known a fs))
    (given_path_field (path_tested (known_world s) b bs) (path_of s b bs) (given_path s b bs) b bs (made_named a fs))
given_path s a (b ∷ bs) m = refl

-- tags
given_get_tag : (u : Uid) (a : Text) (f : Found Made) → Given (part_read tags_of u a (known_found f)) (get_tag_found u a f)
given_get_tag u a (held e) = subst (λ o. Given (part_value o) (part_or_missing tag_left a e.tags)) (sym (named_known a e.tags)) (given_part tag_left (λ m. refl) (lookup (bytes_eq a) e.tags))
given_get_tag u a missing = refl
given_get_tag u a not_loaded = tt

given_has_tag : (u : Uid) (a : Text) (f : Found Made) → Given (part_tested tags_of u a (known_found f)) (has_tag_found u a f)
given_has_tag u a (held e) = subst (λ o. Given (Some (says (is_some o))) (truth_left (is_some (lookup (bytes_eq a) e.tags)))) (sym (named_known a e.tags)) (given_there (lookup (bytes_eq a) e.tags))
given_has_tag u a missing = given_value (made_prim (truth false))
given_has_tag u a not_loaded = tt

given_tag_read : (s : Scope) (m n : Made) → Given (tag_read (known_world s) (bare m) (bare n)) (tag_of get_tag_found s m n)
given_tag_read s (made_prim (entity u)) (made_prim (text a)) = given_get_tag u a (s.store u)
given_tag_read s m n = refl

given_tag_tested : (s : Scope) (m n : Made) → Given (tag_tested (known_world s) (bare m) (bare n)) (tag_of has_tag_found s m n)
given_tag_tested s (made_prim (entity u)) (made_prim (text a)) = given_has_tag u a (s.store u)
given_tag_tested s m n = refl

-- the hierarchy
given_found_in : (u : Uid) (m : Made) (f : Found Made) → Given (found_in u (bare m) (known_found f)) (in_found u m f)
given_found_in u m (held e) = given_literal (is_in_some e.ancestors u (uids_in (bare m))) (literal_in e.ancestors u (uids_in (bare m)))
given_found_in u m missing = given_literal (is_in_some [] u (uids_in (bare m))) (literal_in [] u (uids_in (bare m)))
given_found_in u m not_loaded = tt

given_within : (s : Scope) (m n : Made) → Given (within (known_world s) (bare m) (bare n)) (in_of s m n)
given_within s (made_prim (entity u)) n = given_found_in u n (s.store u)
given_within s m n = refl

pub given_combined : (s : Scope) (o : BinaryOp) (m n : Made) → Given (combined (known_world s) o (bare m) (bare n)) (combined_left s o m n)
given_combined s equal m n = given_value (made_prim (truth (value_eq (bare m) (bare n))))
given_combined s less m n = given_literal _ (literal_ordered s.table is_lt (bare m) (bare n))
given_combined s less_or_equal m n = given_literal _ (literal_ordered s.table is_le (bare m) (bare n))
given_combined s plus m n = given_literal _ (literal_calculated (λ i j. in_range (i +ℤ j)) (λ i j. literal_range (i +ℤ j)) (bare m) (bare n))
given_combined s difference m n = given_literal _ (literal_calculated (λ i j. in_range (i -ℤ j)) (λ i j. literal_range (i -ℤ j)) (bare m) (bare n))
given_combined s times m n = given_literal _ (literal_calculated (λ i j. in_range (i *ℤ j)) (λ i j. literal_range (i *ℤ j)) (bare m) (bare n))
given_combined s remainder m n = given_literal _ (literal_calculated remains literal_remains (bare m) (bare n))
given_combined s is_in m n = given_within s m n
given_combined s contains m n = given_literal _ (literal_among (bare m) (bare n))
given_combined s contains_all m n = given_literal _ (literal_sets (λ vs ws. is_subset ws vs) (bare m) (bare n))
given_combined s contains_any m n = given_literal _ (literal_sets (λ vs ws. not (is_disjoint vs ws)) (bare m) (bare n))
given_combined s get_tag m n = given_tag_read s m n
given_combined s has_tag m n = given_tag_tested s m n

-- calls
given_answer : (s : Scope) (c : MadeCalled) → ((n : Text) → c ≡ leaves_unknown n → s.values n ≡ None) → Given (answered (known_world s).unknowns (bare_called c)) (answer_left c)
given_answer s (makes m) h = given_value m
given_answer s (faults e) h = refl
given_answer s (leaves_unknown n) h = subst (λ o. Given (bound_value (option_map bare o)) (residual (unknown n None))) (sym (h n refl)) tt

pub length_bare : (ms : List Made) → length (map bare ms) ≡ length ms
length_bare [] = refl
length_bare (m ∷ ms) = ap (λ n. suc n) (length_bare ms)

-- count and types are asked for first
given_guarded : (count types : Bool) (o : Option (Res V)) (l : Left) → (count ≡ true → types ≡ true → Given o l) → Given (cond count (cond types o (Some (err wrong_type))) (Some (err wrong_count))) (cond count (cond types l (errs wrong_type)) (errs wrong_count))
given_guarded true true o l h = h refl refl
given_guarded true false o l h = refl
given_guarded false types o l h = refl

pub given_call : (s : Scope) → Agrees s → LeavesUnbound s → (f : Name) (ms : List Made) (g : Option Signature) → signature_of s.table f ≡ g → Given (called_of s.table (known_world s).unknowns f (map bare ms) g) (call_of s f ms g)
given_call s agrees unbound f ms None q = refl
given_call s agrees unbound f ms (Some g) q =
    let typed = are_of_types g.parameters (map bare ms) in
    let known_answer = answered (known_world s).unknowns (s.table.answers f (map bare ms)) in
    subst (λ k. Given (cond (takes_count g k) (cond typed known_answer (Some (err wrong_type))) (Some (err wrong_count))) (call_left s f ms g)) (sym (length_bare ms))
    (given_guarded (takes_count g (length ms)) typed known_answer (answer_left (s.calls f ms))
    (λ c t.
    let taken : IsTaken s.table f (map bare ms) = (g, q, ap (takes_count g) (length_bare ms) ∙ c, t) in
    subst (λ x. Given (answered (known_world s).unknowns x) (answer_left (s.calls f ms))) (agrees f ms taken) (given_answer s (s.calls f ms) (λ n. unbound f ms n taken))))
