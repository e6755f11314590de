-- What is read of a store, beside what a completion gives.
use Rattle.std.proofs.Common.{◌≡◌, Bool, true, false, cond, List, [], ◌∷◌, refl, sym, ap, ◌∙◌, subst}
use Rattle.std.specs.Prelude.{Option, Some, None, option_map, is_some, not, ◌+ℤ◌, ◌-ℤ◌, ◌*ℤ◌}
use Rattle.std.specs.Ordering.{is_lt, is_le}
use Rattle.std.specs.Str.{bytes_eq}
use Rattle.std.specs.Map.{lookup}
use Rattle.std.specs.Option.{option_map_or}
use Rattle.cedar_expr_model.specs.Name.{Text}
use Rattle.cedar_expr_model.specs.Uid.{Uid, uid_text}
use Rattle.cedar_expr_model.specs.Value.{text, entity, V, prim, field_of, truth_value}
use Rattle.cedar_expr_model.specs.Canonical.{is_subset, is_disjoint}
use Rattle.cedar_expr_model.specs.Tree.{CoreType, entity_core, Tree, unknown, binary, has_path, BinaryOp, equal, less, less_or_equal, plus, difference, times, remainder, is_in, contains, contains_all, contains_any, get_tag, has_tag}
use Rattle.cedar_expr_model.specs.Builder.{path_test}
use Rattle.cedar_expr_model.proofs.Gathering.{EachIn}
use Rattle.cedar_expr_model.specs.Made.{Made, made_prim, made_record, MadeFields, no_made_fields, made_field, bare, bare_fields, written}
use Rattle.cedar_expr_model.specs.Table.{Table}
use Rattle.cedar_expr_model.specs.ValueParts.{Part, known, left}
use Rattle.cedar_expr_model.specs.OfLaws.Represented.{HaveMade}
use Rattle.cedar_expr_model.proofs.CoreTypes.{fits-Decides}
use Rattle.cedar_store_model.specs.Outcome.{Res, val, err, wrong_type, missing_attribute_or_tag, missing_field, bind}
use Rattle.cedar_store_model.specs.World.{World, Found, held, missing, not_loaded}
use Rattle.cedar_store_model.specs.Operators.{in_range, remains, says, ordered}
use Rattle.cedar_store_model.proofs.Named.{bound_value, attributes_of, tags_of, tag_read, tag_tested}
use Rattle.cedar_store_model.specs.Reads.{part_value, part_read, part_tested, attribute_read, attribute_tested, uids_in, is_in_some, found_in, within}
use Rattle.cedar_store_model.specs.Meaning.{combined, outcome_of, path_tested, picked}
use Rattle.cedar_store_model.specs.OfLaws.Extends.{Keeps}
use Rattle.cedar_store_model.proofs.Meaning.{means_outcome}
use Rattle.cedar_store_model.specs.Store.{stand_in}
use Rattle.cedar_evaluator_model.specs.Scope.{Scope, Left, value_left, residual}
use Rattle.cedar_evaluator_model.specs.Steps.{errs, truth_left, mapped, part_left, tag_left, made_named, attribute_of, test_of, path_step, path_of, get_tag_found, has_tag_found, tag_of, in_found, in_of, left_of, combined_left}
use Rattle.cedar_evaluator_model.specs.OfLaws.WellMade.{IsWellMade, IsMadeWell, IsPartMadeWell, IsFoundMadeWell, AllMadeWell}
use Rattle.cedar_evaluator_model.specs.Completion.{Fits, PartIs}
use Rattle.cedar_evaluator_model.specs.OfLaws.Completing.{NameMeans, PartMeans, FoundMeans, Completes}
use Rattle.cedar_evaluator_model.proofs.Given.{literal_ordered, literal_range, literal_remains, literal_calculated, literal_among, literal_sets, literal_in}
use Rattle.cedar_evaluator_model.proofs.Named.{attribute_found, test_found, path_found, FitsIn, fits_in}
use Rattle.cedar_evaluator_model.proofs.GivenReads.{field_known}
use Rattle.cedar_evaluator_model.proofs.Written.{Rise}
use Rattle.cedar_evaluator_model.proofs.Residuals.Stands.{Alike, Stands, alike_same, written_alike, written_fits, stands_literal}

-- unknowns
pub stands_mapped : (w : World) (n : Text) (a : Option CoreType) (o : Option Made) → IsMadeWell w.table o → Keeps (option_map bare o) (w.unknowns n) → Fits a (w.unknowns n)
    → Stands w (bound_value (w.unknowns n)) (mapped n a o)
stands_mapped w n a None g k f = (alike_same (bound_value (w.unknowns n)), f)
stands_mapped w n a (Some m) g k f =
    let fits = (fits-Decides a (bare m)).1 (subst (Fits a) k f) in
    let same : Keeps (bound_value (w.unknowns n)) (Some (val (bare m))) = subst (λ q. Keeps (bound_value q) (Some (val (bare m)))) (sym k) refl in
    subst (λ b. Stands w (bound_value (w.unknowns n)) (cond b (value_left m) (errs wrong_type))) (sym fits) (same, g)

-- the unknown that stands for an entity
stand_in_means : (w : World) (u : Uid) → NameMeans w (uid_text u) u → outcome_of w (stand_in u) ≡ Some (val (prim (entity u)))
stand_in_means w u k = ap bound_value k

stand_in_fits : (w : World) (u : Uid) → NameMeans w (uid_text u) u → FitsIn w (stand_in u)
stand_in_fits w u k = subst (Fits (Some (entity_core u.kind))) (sym k) refl

asked_stand_in : (w : World) (u : Uid) (f : V → Option (Res V)) → NameMeans w (uid_text u) u → Alike (f (prim (entity u))) (bind (outcome_of w (stand_in u)) f)
asked_stand_in w u f k = subst (λ o. Alike (f (prim (entity u))) (bind o f)) (sym (stand_in_means w u k)) (alike_same (f (prim (entity u))))

-- parts
stands_known : (w : World) (m : Made) (q : Option (Part V)) → q ≡ Some (known (bare m)) → IsWellMade w.table m → Stands w (part_value q) (value_left m)
stands_known w m q h g = (subst (λ x. Keeps (part_value x) (Some (val (bare m)))) (sym h) refl, g)

stands_residual : (w : World) (t : Tree) (v : V) → PartIs w t v → Stands w (Some (val v)) (residual t)
stands_residual w t v h = (means_outcome w t (val v) (h.0 w.slots), fits_in w t h.1)

stands_left : (w : World) (s : Scope) → ((n : Text) → IsMadeWell w.table (s.values n)) → ((n : Text) → Keeps (option_map bare (s.values n)) (w.unknowns n)) → (t : Tree) (v : V) → PartIs w t v
    → Stands w (Some (val v)) (part_left s (left t))
stands_left w s g k (unknown n a) v h = subst (λ o. Stands w o (mapped n a (s.values n))) (h.0 w.slots) (stands_mapped w n a (s.values n) (g n) (k n) (fits_in w (unknown n a) h.1))
stands_left w s g k t v h = stands_residual w t v h

stands_part : (w : World) (next : Part Made → Left) → ((m : Made) → next (known m) ≡ value_left m) → ((t : Tree) (v : V) → PartIs w t v → Stands w (Some (val v)) (next (left t)))
    → (p : Option (Part Made)) (q : Option (Part V)) → PartMeans w p q → IsPartMadeWell w.table p → Stands w (part_value q) (option_map_or next p (errs missing_attribute_or_tag))
stands_part w next value other None q h g = subst (λ x. Stands w (part_value x) (errs missing_attribute_or_tag)) (sym h) tt
stands_part w next value other (Some (known m)) q h g = subst (Stands w (part_value q)) (sym (value m)) (stands_known w m q h g)
stands_part w next value other (Some (left t)) q h g = subst (λ x. Stands w (part_value x) (next (left t))) (sym h.1) (other t h.0 h.2)

part_there : (w : World) (p : Option (Part Made)) (q : Option (Part V)) → PartMeans w p q → is_some q ≡ is_some p
part_there w None q h = ap is_some h
part_there w (Some (known m)) q h = ap is_some h
part_there w (Some (left t)) q h = ap is_some h.1

stands_there : (w : World) (a b : Bool) → a ≡ b → Stands w (Some (says a)) (truth_left b)
stands_there w a b e = (ap (λ x. Some (says x)) (sym e), tt)

-- fields
named_case : (x : Table) (b : Bool) (m : Made) (o : Option Made) → IsWellMade x m → IsMadeWell x o → IsMadeWell x (cond b (Some m) o)
named_case x true m o h k = h
named_case x false m o h k = k

named_well : (x : Table) (a : Text) (fs : MadeFields) → HaveMade Rise x fs → IsMadeWell x (made_named a fs)
named_well x a no_made_fields h = tt
named_well x a (made_field b m fs) h = named_case x (bytes_eq a b) m (made_named a fs) h.0 (named_well x a fs h.1)

stands_field : (w : World) (o : Option Made) → IsMadeWell w.table o → Stands w (Some (option_map_or val (option_map bare o) (err missing_field))) (option_map_or value_left o (errs missing_field))
stands_field w None h = tt
stands_field w (Some m) h = (refl, h)

field_there : (o : Option Made) → is_some (option_map bare o) ≡ is_some o
field_there None = refl
field_there (Some m) = refl

-- a path that is asked of an expression
pub path_same : (w : World) (t : Tree) (a : Text) (bs : List Text) → outcome_of w (path_test t a bs) ≡ outcome_of w (has_path t a bs)
path_same w t a [] = refl
path_same w t a (b ∷ bs) = refl

pub path_fits : (P : Text → Option CoreType → Type 0) (t : Tree) (a : Text) (bs : List Text) → EachIn P t → EachIn P (path_test t a bs)
path_fits P t a [] h = h
path_fits P t a (b ∷ bs) h = h

path_left : (w : World) (t : Tree) (v : V) (b : Text) (bs : List Text) → PartIs w t v → Stands w (path_tested w b bs v) (residual (path_test t b bs))
path_left w t v b bs h =
    let e : outcome_of w (path_test t b bs) ≡ path_tested w b bs v = path_same w t b bs ∙ ap (λ o. bind o (path_tested w b bs)) (means_outcome w t (val v) (h.0 w.slots)) in
    (subst (Alike (path_tested w b bs v)) (sym e) (alike_same (path_tested w b bs v)), path_fits _ t b bs (fits_in w t h.1))

module _ (w : World) (s : Scope) (complete : Completes w s) (well : AllMadeWell s) where
  pub values_well : (n : Text) → IsMadeWell w.table (s.values n)
  values_well n = subst (λ x. IsMadeWell x (s.values n)) (sym complete.table) (well.values n)

  found_well : (u : Uid) → IsFoundMadeWell w.table (s.store u)
  found_well u = subst (λ x. IsFoundMadeWell x (s.store u)) (sym complete.table) (well.store u)

  -- attributes
  attribute_found_stands : (u : Uid) (a : Text) (f : Found Made) → FoundMeans w u f (w.store u) → IsFoundMadeWell w.table f
      → Stands w (part_read attributes_of u a (w.store u)) (attribute_found s u a f)
  attribute_found_stands u a (held e) h g =
      let d = h.0 in
      subst (λ x. Stands w (part_read attributes_of u a x) (attribute_found s u a (held e))) (sym h.1)
      (stands_part w (part_left s) (λ m. refl) (stands_left w s values_well complete.unknowns) (lookup (bytes_eq a) e.attributes) (lookup (bytes_eq a) d.attributes) ((h.2).attributes a) (g a).0)
  attribute_found_stands u a missing h g = subst (λ x. Stands w (part_read attributes_of u a x) (attribute_found s u a missing)) (sym h) tt
  attribute_found_stands u a not_loaded h g = (asked_stand_in w u (attribute_read w a) h, stand_in_fits w u h)

  pub stands_attribute : (a : Text) (m : Made) → IsWellMade w.table m → Stands w (attribute_read w a (bare m)) (attribute_of s a m)
  stands_attribute a (made_prim (entity u)) h = attribute_found_stands u a (s.store u) (complete.store u) (found_well u)
  stands_attribute a (made_record fs) h =
      subst (λ o. Stands w (Some (option_map_or val o (err missing_field))) (option_map_or value_left (made_named a fs) (errs missing_field))) (sym (field_known a fs))
      (stands_field w (made_named a fs) (named_well w.table a fs h))
  stands_attribute a m h = tt

  -- tests of attributes
  test_found_stands : (u : Uid) (a : Text) (f : Found Made) → FoundMeans w u f (w.store u) → Stands w (part_tested attributes_of u a (w.store u)) (test_found u a f)
  test_found_stands u a (held e) h =
      let d = h.0 in
      subst (λ x. Stands w (part_tested attributes_of u a x) (test_found u a (held e))) (sym h.1)
      (stands_there w (is_some (lookup (bytes_eq a) d.attributes)) (is_some (lookup (bytes_eq a) e.attributes))
      (part_there w (lookup (bytes_eq a) e.attributes) (lookup (bytes_eq a) d.attributes) ((h.2).attributes a)))
  test_found_stands u a missing h = subst (λ x. Stands w (part_tested attributes_of u a x) (test_found u a missing)) (sym h) (refl, tt)
  test_found_stands u a not_loaded h = (asked_stand_in w u (attribute_tested w a) h, stand_in_fits w u h)

  pub stands_test : (a : Text) (m : Made) → Stands w (attribute_tested w a (bare m)) (test_of s a m)
  stands_test a (made_prim (entity u)) = test_found_stands u a (s.store u) (complete.store u)
  stands_test a (made_record fs) = stands_there w (is_some (field_of a (bare_fields fs))) (is_some (made_named a fs)) (ap is_some (field_known a fs) ∙ field_there (made_named a fs))
  stands_test a m = tt

  -- paths
  module _ (b : Text) (bs : List Text) (next : Made → Left) (goes : (m : Made) → IsWellMade w.table m → Stands w (path_tested w b bs (bare m)) (next m)) where
    -- the rest of the path after a part that is looked up
    abbrev after_part : Option (Part V) → Option (Res V)
    after_part q = picked (bind (part_value q) (path_tested w b bs)) (Some (says false)) (truth_value (is_some q))

    step_stands : (p : Option (Part Made)) (q : Option (Part V)) → PartMeans w p q → IsPartMadeWell w.table p → Stands w (after_part q) (path_step next b bs p)
    step_stands None q h g = subst (λ x. Stands w (after_part x) (truth_left false)) (sym h) (refl, tt)
    step_stands (Some (known m)) q h g = subst (λ x. Stands w (after_part x) (next m)) (sym h) (goes m g)
    step_stands (Some (left t)) q h g = subst (λ x. Stands w (after_part x) (residual (path_test t b bs))) (sym h.1) (path_left w t h.0 b bs h.2)

    -- the rest of the path after an entity that is looked up
    abbrev after_found : Uid → Text → Found V → Option (Res V)
    after_found u a f = bind (part_tested attributes_of u a f) (picked (bind (part_read attributes_of u a f) (path_tested w b bs)) (Some (says false)))

    path_found_stands : (u : Uid) (a : Text) (f : Found Made) → FoundMeans w u f (w.store u) → IsFoundMadeWell w.table f → Stands w (after_found u a (w.store u)) (path_found next u a b bs f)
    path_found_stands u a (held e) h g =
        let d = h.0 in
        subst (λ x. Stands w (after_found u a x) (path_found next u a b bs (held e))) (sym h.1)
        (step_stands (lookup (bytes_eq a) e.attributes) (lookup (bytes_eq a) d.attributes) ((h.2).attributes a) (g a).0)
    path_found_stands u a missing h g = subst (λ x. Stands w (after_found u a x) (truth_left false)) (sym h) (refl, tt)
    path_found_stands u a not_loaded h g = (asked_stand_in w u (path_tested w a (b ∷ bs)) h, stand_in_fits w u h)

    -- the rest of the path after a field
    abbrev after_field : Option V → Option (Res V)
    after_field q = picked (bind (Some (option_map_or val q (err missing_field))) (path_tested w b bs)) (Some (says false)) (truth_value (is_some q))

    path_field_stands : (o : Option Made) → IsMadeWell w.table o → Stands w (after_field (option_map bare o)) (option_map_or next o (truth_left false))
    path_field_stands None h = (refl, tt)
    path_field_stands (Some m) h = goes m h

  pub stands_path : (a : Text) (bs : List Text) (m : Made) → IsWellMade w.table m → Stands w (path_tested w a bs (bare m)) (path_of s a bs m)
  stands_path a [] m h = stands_test a m
  stands_path a (b ∷ bs) (made_prim (entity u)) h = path_found_stands b bs (path_of s b bs) (stands_path b bs) u a (s.store u) (complete.store u) (found_well u)
  stands_path a (b ∷ bs) (made_record fs) h =
      subst (λ o. Stands w (after_field b bs (path_of s b bs) (stands_path b bs) o) (option_map_or (path_of s b bs) (made_named a fs) (truth_left false))) (sym (field_known a fs))
      (path_field_stands b bs (path_of s b bs) (stands_path b bs) (made_named a fs) (named_well w.table a fs h))
  stands_path a (b ∷ bs) m h = tt

  -- tags
  get_tag_stands : (u : Uid) (a : Text) (f : Found Made) → FoundMeans w u f (w.store u) → IsFoundMadeWell w.table f → Stands w (part_read tags_of u a (w.store u)) (get_tag_found u a f)
  get_tag_stands u a (held e) h g =
      let d = h.0 in
      subst (λ x. Stands w (part_read tags_of u a x) (get_tag_found u a (held e))) (sym h.1)
      (stands_part w tag_left (λ m. refl) (stands_residual w) (lookup (bytes_eq a) e.tags) (lookup (bytes_eq a) d.tags) ((h.2).tags a) (g a).1)
  get_tag_stands u a missing h g = subst (λ x. Stands w (part_read tags_of u a x) (get_tag_found u a missing)) (sym h) tt
  get_tag_stands u a not_loaded h g = (asked_stand_in w u (λ v. tag_read w v (prim (text a))) h, (stand_in_fits w u h, tt))

  has_tag_stands : (u : Uid) (a : Text) (f : Found Made) → FoundMeans w u f (w.store u) → Stands w (part_tested tags_of u a (w.store u)) (has_tag_found u a f)
  has_tag_stands u a (held e) h =
      let d = h.0 in
      subst (λ x. Stands w (part_tested tags_of u a x) (has_tag_found u a (held e))) (sym h.1)
      (stands_there w (is_some (lookup (bytes_eq a) d.tags)) (is_some (lookup (bytes_eq a) e.tags)) (part_there w (lookup (bytes_eq a) e.tags) (lookup (bytes_eq a) d.tags) ((h.2).tags a)))
  has_tag_stands u a missing h = subst (λ x. Stands w (part_tested tags_of u a x) (has_tag_found u a missing)) (sym h) (refl, tt)
  has_tag_stands u a not_loaded h = (asked_stand_in w u (λ v. tag_tested w v (prim (text a))) h, (stand_in_fits w u h, tt))

  stands_tag_read : (m n : Made) → Stands w (tag_read w (bare m) (bare n)) (tag_of get_tag_found s m n)
  stands_tag_read (made_prim (entity u)) (made_prim (text a)) = get_tag_stands u a (s.store u) (complete.store u) (found_well u)
  stands_tag_read m n = tt

  stands_tag_tested : (m n : Made) → Stands w (tag_tested w (bare m) (bare n)) (tag_of has_tag_found s m n)
  stands_tag_tested (made_prim (entity u)) (made_prim (text a)) = has_tag_stands u a (s.store u) (complete.store u)
  stands_tag_tested m n = tt

  -- the hierarchy
  in_stays : (u : Uid) (m : Made) → NameMeans w (uid_text u) u → IsWellMade w.table m → Stands w (within w (prim (entity u)) (bare m)) (residual (binary is_in (stand_in u) (written m)))
  in_stays u m h g =
      let e : outcome_of w (binary is_in (stand_in u) (written m)) ≡ within w (prim (entity u)) (bare m) =
      (λ i. bind (stand_in_means w u h i) (λ v. bind (outcome_of w (written m)) (within w v))) ∙ ap (λ o. bind o (within w (prim (entity u)))) (written_alike w (Some (val (bare m))) m refl g) in
      (subst (Alike (within w (prim (entity u)) (bare m))) (sym e) (alike_same (within w (prim (entity u)) (bare m))), (stand_in_fits w u h, written_fits w m))

  in_found_stands : (u : Uid) (m : Made) (f : Found Made) → IsWellMade w.table m → FoundMeans w u f (w.store u) → Stands w (found_in u (bare m) (w.store u)) (in_found u m f)
  in_found_stands u m (held e) g h =
      let d = h.0 in
      subst (λ x. Stands w (found_in u (bare m) x) (in_found u m (held e))) (sym h.1)
      (subst (λ us. Stands w (Some (is_in_some us u (uids_in (bare m)))) (in_found u m (held e))) (sym (h.2).ancestors)
      (stands_literal w (is_in_some e.ancestors u (uids_in (bare m))) (literal_in e.ancestors u (uids_in (bare m)))))
  in_found_stands u m missing g h =
      subst (λ x. Stands w (found_in u (bare m) x) (in_found u m missing)) (sym h) (stands_literal w (is_in_some [] u (uids_in (bare m))) (literal_in [] u (uids_in (bare m))))
  in_found_stands u m not_loaded g h = in_stays u m h g

  stands_within : (m n : Made) → IsWellMade w.table n → Stands w (within w (bare m) (bare n)) (in_of s m n)
  stands_within (made_prim (entity u)) n g = in_found_stands u n (s.store u) g (complete.store u)
  stands_within m n g = tt

  -- an operator of two operands at their values
  pub stands_combined : (c : BinaryOp) (m n : Made) → IsWellMade w.table n → Stands w (combined w c (bare m) (bare n)) (combined_left s c m n)
  stands_combined equal m n g = (refl, tt)
  stands_combined less m n g =
      subst (λ x. Stands w (combined w less (bare m) (bare n)) (left_of (ordered x is_lt (bare m) (bare n)))) complete.table
      (stands_literal w (ordered w.table is_lt (bare m) (bare n)) (literal_ordered w.table is_lt (bare m) (bare n)))
  stands_combined less_or_equal m n g =
      subst (λ x. Stands w (combined w less_or_equal (bare m) (bare n)) (left_of (ordered x is_le (bare m) (bare n)))) complete.table
      (stands_literal w (ordered w.table is_le (bare m) (bare n)) (literal_ordered w.table is_le (bare m) (bare n)))
  stands_combined plus m n g = stands_literal w _ (literal_calculated (λ i j. in_range (i +ℤ j)) (λ i j. literal_range (i +ℤ j)) (bare m) (bare n))
  stands_combined difference m n g = stands_literal w _ (literal_calculated (λ i j. in_range (i -ℤ j)) (λ i j. literal_range (i -ℤ j)) (bare m) (bare n))
  stands_combined times m n g = stands_literal w _ (literal_calculated (λ i j. in_range (i *ℤ j)) (λ i j. literal_range (i *ℤ j)) (bare m) (bare n))
  stands_combined remainder m n g = stands_literal w _ (literal_calculated remains literal_remains (bare m) (bare n))
  stands_combined is_in m n g = stands_within m n g
  stands_combined contains m n g = stands_literal w _ (literal_among (bare m) (bare n))
  stands_combined contains_all m n g = stands_literal w _ (literal_sets (λ vs ws. is_subset ws vs) (bare m) (bare n))
  stands_combined contains_any m n g = stands_literal w _ (literal_sets (λ vs ws. not (is_disjoint vs ws)) (bare m) (bare n))
  stands_combined get_tag m n g = stands_tag_read m n
  stands_combined has_tag m n g = stands_tag_tested m n
