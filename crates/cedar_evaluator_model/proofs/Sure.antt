-- Where nothing is unknown, though entities may not be loaded: no evaluation within the limit meets it, since no residual can be
-- projected.
use Rattle.std.proofs.Common.{◌≡◌, Bool, true, false, cond, List, [], ◌∷◌, refl}
use Rattle.std.specs.Prelude.{Option, Some, None, is_some}
use Rattle.std.specs.List.{list_all}
use Rattle.std.specs.Str.{bytes_eq}
use Rattle.cedar_expr_model.specs.Name.{Text, Name}
use Rattle.cedar_expr_model.specs.Uid.{Uid}
use Rattle.cedar_expr_model.specs.Value.{truth, text, entity, V, prim}
use Rattle.cedar_expr_model.specs.Tree.{entity_core, BinaryOp, equal, less, less_or_equal, plus, difference, times, remainder, is_in, contains, contains_all, contains_any, get_tag, has_tag, Tree, lit, unknown, binary, has_attr, record_literal, TreeFields, get_attr}
use Rattle.cedar_expr_model.specs.Builder.{conjunction, disjunction, path_test}
use Rattle.cedar_expr_model.specs.Parts.{is_projectable}
use Rattle.cedar_expr_model.specs.Made.{Made, made_prim, made_record, bare}
use Rattle.cedar_expr_model.proofs.Lists.{both_hold}
use Rattle.cedar_store_model.specs.Outcome.{Res, val, err, missing_attribute_or_tag, missing_field}
use Rattle.cedar_expr_model.specs.ValueParts.{Part, known, left}
use Rattle.cedar_store_model.specs.World.{Found, held, missing, not_loaded}
use Rattle.cedar_store_model.specs.Reads.{is_in_some, uids_in}
use Rattle.cedar_store_model.specs.Knowledge.{is_known}
use Rattle.cedar_evaluator_model.specs.Scope.{Scope, fault, limit, Left, value_left, residual, stopped}
use Rattle.cedar_evaluator_model.specs.Steps.{truth_left, on_value, left_of, truth_wanted, picks, part_left, tag_left, made_named, attribute_of, test_of, path_step, path_of, get_tag_found, has_tag_found, tag_of, in_found, in_of, combined_left, differ, with_residual, errs}
use Rattle.cedar_evaluator_model.specs.Evaluation.{tree_named, get_of_residual, has_of_residual, right_left}
use Rattle.std.specs.Map.{lookup}
use Rattle.cedar_evaluator_model.proofs.Named.{attribute_found, test_found, path_found, is_of_residual}
use Rattle.std.specs.Option.{option_map_or}

-- a value, an error, or a residual that can't be projected
abbrev pub Sure : Left → Type 0
Sure (value_left m) = Unit {0}
Sure (residual r) = is_projectable r ≡ false
Sure (stopped (fault f)) = Unit {0}
Sure (stopped limit) = ⊥

pub sure_if : (b : Bool) (l r : Left) → Sure l → Sure r → Sure (cond b l r)
sure_if true l r h k = h
sure_if false l r h k = k

pub sure_value : (l : Left) (next : Made → Left) (other : Tree → Left) → Sure l → ((m : Made) → Sure (next m)) → ((r : Tree) → is_projectable r ≡ false → Sure (other r)) → Sure (on_value l next other)
sure_value (value_left m) next other h n o = n m
sure_value (residual r) next other h n o = o r h
sure_value (stopped (fault f)) next other h n o = tt
sure_value (stopped limit) next other h n o = h

pub sure_left : (r : Res V) → Sure (left_of r)
sure_left (val (prim p)) = tt
sure_left (val v) = tt
sure_left (err f) = tt

pub sure_picks : (l r : Left) → Sure l → Sure r → (m : Made) → Sure (picks l r m)
sure_picks l r h k (made_prim (truth true)) = h
sure_picks l r h k (made_prim (truth false)) = k
sure_picks l r h k m = tt

-- a conjunction or disjunction with a side that can't be projected
joined_right : (x : Tree → Tree → Tree) → ((a b : Tree) → is_projectable b ≡ false → is_projectable (x a b) ≡ false) → (b : Bool) (l : Left) → Sure l → Sure (right_left x b l)
joined_right x h b l k = sure_value l truth_wanted _ k wanted (λ r e. h (lit (truth b)) r e)
  where
    wanted : (m : Made) → Sure (truth_wanted m)
    wanted (made_prim (truth b)) = tt
    wanted m = tt

conjunction_right : (a b : Tree) → is_projectable b ≡ false → is_projectable (conjunction a b) ≡ false
conjunction_right (lit (truth x)) (lit (truth y)) e = cc
conjunction_right a b e = refl

pub conjunction_left : (a b : Tree) → is_projectable a ≡ false → is_projectable (conjunction a b) ≡ false
conjunction_left (lit (truth x)) (lit (truth y)) e = cc
conjunction_left a b e = refl

disjunction_right : (a b : Tree) → is_projectable b ≡ false → is_projectable (disjunction a b) ≡ false
disjunction_right (lit (truth x)) (lit (truth y)) e = cc
disjunction_right a b e = refl

pub disjunction_left : (a b : Tree) → is_projectable a ≡ false → is_projectable (disjunction a b) ≡ false
disjunction_left (lit (truth x)) (lit (truth y)) e = cc
disjunction_left a b e = refl

pub sure_and : (l : Left) → Sure l → Sure (right_left conjunction true l)
sure_and l h = joined_right conjunction conjunction_right true l h

pub sure_or : (l : Left) → Sure l → Sure (right_left disjunction false l)
sure_or l h = joined_right disjunction disjunction_right false l h

-- what is read of a store that holds values alone
abbrev pub AreKnown : List (Text × Part Made) → Type 0
AreKnown ps = list_all (λ p. is_known p.1) ps ≡ true

-- a part that is there is a value
abbrev IsValue : Option (Part Made) → Type 0
IsValue None = Unit {0}
IsValue (Some p) = is_known p ≡ true

value_case : (b : Bool) (p : Part Made) (o : Option (Part Made)) → is_known p ≡ true → IsValue o → IsValue (cond b (Some p) o)
value_case true p o h k = h
value_case false p o h k = k

value_named : (a : Text) (ps : List (Text × Part Made)) → AreKnown ps → IsValue (lookup (bytes_eq a) ps)
value_named a [] h = tt
value_named a (p ∷ ps) h =
    let k = both_hold (is_known p.1) (list_all (λ p. is_known p.1) ps) h in
    value_case (bytes_eq a p.0) p.1 (lookup (bytes_eq a) ps) k.0 (value_named a ps k.1)

-- an entity that is held holds values alone
abbrev pub ValuesHeld : Found Made → Type 0
ValuesHeld (held e) = AreKnown e.attributes × AreKnown e.tags
ValuesHeld f = Unit {0}

sure_part : (s : Scope) (o : Option (Part Made)) → IsValue o → Sure (option_map_or (part_left s) o (errs missing_attribute_or_tag))
sure_part s None h = tt
sure_part s (Some (known m)) h = tt
sure_part s (Some (left t)) h = cc

sure_tag : (o : Option (Part Made)) → IsValue o → Sure (option_map_or tag_left o (errs missing_attribute_or_tag))
sure_tag None h = tt
sure_tag (Some (known m)) h = tt
sure_tag (Some (left t)) h = cc

module _ (s : Scope) (holds : (u : Uid) → ValuesHeld (s.store u)) where
  sure_attribute_found : (u : Uid) (a : Text) (f : Found Made) → ValuesHeld f → Sure (attribute_found s u a f)
  sure_attribute_found u a (held e) h = sure_part s (lookup (bytes_eq a) e.attributes) (value_named a e.attributes h.0)
  sure_attribute_found u a missing h = tt
  sure_attribute_found u a not_loaded h = refl

  sure_field : (o : Option Made) → Sure (option_map_or value_left o (errs missing_field))
  sure_field None = tt
  sure_field (Some m) = tt

  pub sure_attribute : (a : Text) (m : Made) → Sure (attribute_of s a m)
  sure_attribute a (made_prim (entity u)) = sure_attribute_found u a (s.store u) (holds u)
  sure_attribute a (made_record fs) = sure_field (made_named a fs)
  sure_attribute a m = tt

  sure_test_found : (u : Uid) (a : Text) (f : Found Made) → Sure (test_found u a f)
  sure_test_found u a (held e) = tt
  sure_test_found u a missing = tt
  sure_test_found u a not_loaded = refl

  pub sure_test : (a : Text) (m : Made) → Sure (test_of s a m)
  sure_test a (made_prim (entity u)) = sure_test_found u a (s.store u)
  sure_test a (made_record fs) = tt
  sure_test a m = tt

  sure_step : (next : Made → Left) → ((m : Made) → Sure (next m)) → (b : Text) (bs : List Text) (o : Option (Part Made)) → IsValue o → Sure (path_step next b bs o)
  sure_step next n b bs None h = tt
  sure_step next n b bs (Some (known m)) h = n m
  sure_step next n b bs (Some (left t)) h = cc

  sure_path_found : (next : Made → Left) → ((m : Made) → Sure (next m)) → (u : Uid) (a b : Text) (bs : List Text) (f : Found Made) → ValuesHeld f → Sure (path_found next u a b bs f)
  sure_path_found next n u a b bs (held e) h = sure_step next n b bs (lookup (bytes_eq a) e.attributes) (value_named a e.attributes h.0)
  sure_path_found next n u a b bs missing h = tt
  sure_path_found next n u a b bs not_loaded h = refl

  sure_path_field : (next : Made → Left) → ((m : Made) → Sure (next m)) → (o : Option Made) → Sure (option_map_or next o (truth_left false))
  sure_path_field next n None = tt
  sure_path_field next n (Some m) = n m

  pub sure_path : (a : Text) (bs : List Text) (m : Made) → Sure (path_of s a bs m)
  sure_path a [] m = sure_test a m
  sure_path a (b ∷ bs) (made_prim (entity u)) = sure_path_found (path_of s b bs) (sure_path b bs) u a b bs (s.store u) (holds u)
  sure_path a (b ∷ bs) (made_record fs) = sure_path_field (path_of s b bs) (sure_path b bs) (made_named a fs)
  sure_path a (b ∷ bs) m = tt

  sure_get_tag : (u : Uid) (a : Text) (f : Found Made) → ValuesHeld f → Sure (get_tag_found u a f)
  sure_get_tag u a (held e) h = sure_tag (lookup (bytes_eq a) e.tags) (value_named a e.tags h.1)
  sure_get_tag u a missing h = tt
  sure_get_tag u a not_loaded h = refl

  sure_has_tag : (u : Uid) (a : Text) (f : Found Made) → Sure (has_tag_found u a f)
  sure_has_tag u a (held e) = tt
  sure_has_tag u a missing = tt
  sure_has_tag u a not_loaded = refl

  sure_tag_got : (m n : Made) → Sure (tag_of get_tag_found s m n)
  sure_tag_got (made_prim (entity u)) (made_prim (text a)) = sure_get_tag u a (s.store u) (holds u)
  sure_tag_got m n = tt

  sure_tag_tested : (m n : Made) → Sure (tag_of has_tag_found s m n)
  sure_tag_tested (made_prim (entity u)) (made_prim (text a)) = sure_has_tag u a (s.store u)
  sure_tag_tested m n = tt

  sure_found_in : (u : Uid) (m : Made) (f : Found Made) → Sure (in_found u m f)
  sure_found_in u m (held e) = sure_left (is_in_some e.ancestors u (uids_in (bare m)))
  sure_found_in u m missing = sure_left (is_in_some [] u (uids_in (bare m)))
  sure_found_in u m not_loaded = refl

  sure_in : (m n : Made) → Sure (in_of s m n)
  sure_in (made_prim (entity u)) n = sure_found_in u n (s.store u)
  sure_in m n = tt

  pub sure_combined : (o : BinaryOp) (m n : Made) → Sure (combined_left s o m n)
  sure_combined equal m n = tt
  sure_combined is_in m n = sure_in m n
  sure_combined get_tag m n = sure_tag_got m n
  sure_combined has_tag m n = sure_tag_tested m n
  sure_combined less m n = sure_left _
  sure_combined less_or_equal m n = sure_left _
  sure_combined plus m n = sure_left _
  sure_combined difference m n = sure_left _
  sure_combined times m n = sure_left _
  sure_combined remainder m n = sure_left _
  sure_combined contains m n = sure_left _
  sure_combined contains_all m n = sure_left _
  sure_combined contains_any m n = sure_left _

-- operators on residuals
pub sure_with_residual : (o : BinaryOp) (j k : Option Name) (a b : Tree) → Sure (with_residual o j k a b)
sure_with_residual equal j k a b = sure_if (differ j k) (truth_left false) (residual (binary equal a b)) tt refl
sure_with_residual o j k a b = refl

pub sure_is : (n : Name) (r : Tree) → Sure (is_of_residual n r)
sure_is n (unknown x (Some (entity_core k))) = tt
sure_is n r = refl

pub path_unprojectable : (t : Tree) (a : Text) (bs : List Text) → is_projectable (path_test t a bs) ≡ false
path_unprojectable t a [] = refl
path_unprojectable t a (b ∷ bs) = refl

-- fields of residual records that can't be projected
sure_kept : (go : Tree → Left) (a : Text) (fs : TreeFields) (b : Bool) (o : Option Tree) → b ≡ false → Sure (option_map_or (λ t. cond b (go t) (residual (get_attr (record_literal fs) a))) o (errs missing_field))
sure_kept go a fs b None e = tt
sure_kept go a fs true (Some t) e = cc
sure_kept go a fs false (Some t) e = refl

pub sure_get : (go : Tree → Left) (a : Text) (r : Tree) → is_projectable r ≡ false → Sure (get_of_residual go a r)
sure_get go a (record_literal fs) h = sure_kept go a fs (is_projectable (record_literal fs)) (tree_named a fs) h
sure_get go a r h = refl

pub sure_has : (a : Text) (r : Tree) → is_projectable r ≡ false → Sure (has_of_residual a r)
sure_has a (record_literal fs) h = sure_if (is_projectable (record_literal fs)) (truth_left (is_some (tree_named a fs))) (residual (has_attr (record_literal fs) a)) tt refl
sure_has a r h = refl
