-- The attributes of both that join, one after the other.
use Rattle.std.proofs.Common.{◌≡◌, ◌++◌, Bool, true, List, [], ◌∷◌, Option, Some, None, option_map, refl, sym, ap, ◌∙◌}
use Rattle.std.proofs.lemmas.List.{append-nil}
use Rattle.std.specs.Borrow.{Bor}
use Rattle.std.specs.List.Sorted.{IsStrictlySortedBy}
use Rattle.std.specs.Map.{keys_of}
use Rattle.std.specs.Ordering.{is_lt}
use Rattle.std.specs.Rc.{rc_str_bytes}
use Rattle.std.specs.declared.alloc.Global.{Global}
use Rattle.std.specs.declared.rc.RcStr.{RcStr}
use Rattle.std.specs.declared.cmp.Ordering.TheVariants.{Less}
use Rattle.cedar_expr_model.specs.Name.{Text}
use Rattle.cedar_expr_model.specs.Order.{text_cmp}
use Rattle.cedar_expr_model.specs.Records.{names_rise}
use Rattle.cedar_expr_model.proofs.Lists.{both_hold, hold_both}
use Rattle.cedar_expr_model.proofs.Linear.{text_total}
use Rattle.cedar_expr_model.proofs.Rising.{less_is, is_less}
use Rattle.cedar_schema_model.specs.Types.{Attributes, Declared, attribute_named, Mode}
use Rattle.cedar_schema_model.specs.Join.{join, joined_with, kept_attribute, attributes_join}
use Rattle.cedar_schema_types.specs.Types.{type_of, attribute_of}
use Rattle.cedar_schema_types.specs.AttributeLists.{attributes_from, declared_pair, declared_pairs}
use Rattle.cedar_schema_types.specs.declared.types.AttributeType.{AttributeType}
use Rattle.cedar_schema_types.proofs.InOrder.{entries_rise}

module _ (m : Mode) (others : Attributes) where
  -- one attribute, where it joins
  abbrev pub kept_pair : Text → Option Declared → List (Text × Declared) → List (Text × Declared)
  kept_pair n None ps = ps
  kept_pair n (Some d) ps = (n, d) ∷ ps

  abbrev pub joined_one : Text × Declared → Option Declared
  joined_one p = joined_with m p.1.is_required (join m p.1.type) (attribute_named p.0 others)

  abbrev pub joined_pairs : List (Text × Declared) → List (Text × Declared)
  joined_pairs [] = []
  joined_pairs (p ∷ ps) = kept_pair p.0 (joined_one p) (joined_pairs ps)

  kept_are : (n : Text) (o : Option Declared) (ps : List (Text × Declared)) → kept_attribute n o (attributes_from ps) ≡ attributes_from (kept_pair n o ps)
  kept_are n None ps = refl
  kept_are n (Some d) ps = refl

  pub joined_are : (ps : List (Text × Declared)) → attributes_join m (attributes_from ps) others ≡ attributes_from (joined_pairs ps)
  joined_are [] = refl
  joined_are (p ∷ ps) = ap (kept_attribute p.0 (joined_one p)) (joined_are ps) ∙ kept_are p.0 (joined_one p) (joined_pairs ps)

  -- their names rise where those of the first attributes do
  abbrev is_first : Text → List (Text × Declared) → Bool
  is_first a [] = true
  is_first a (p ∷ ps) = is_lt (text_cmp a p.0)

  rise_parts : (p : Text × Declared) (ps : List (Text × Declared)) → names_rise (p ∷ ps) ≡ true → (is_first p.0 ps ≡ true) × (names_rise ps ≡ true)
  rise_parts p [] h = (refl, refl)
  rise_parts p (q ∷ ps) h = both_hold (is_lt (text_cmp p.0 q.0)) (names_rise (q ∷ ps)) h

  rise_more : (p : Text × Declared) (ps : List (Text × Declared)) → is_first p.0 ps ≡ true → names_rise ps ≡ true → names_rise (p ∷ ps) ≡ true
  rise_more p [] f h = refl
  rise_more p (q ∷ ps) f h = hold_both (is_lt (text_cmp p.0 q.0)) (names_rise (q ∷ ps)) f h

  before_next : (a b : Text) (ps : List (Text × Declared)) → text_cmp a b ≡ Less → is_first b ps ≡ true → is_first a ps ≡ true
  before_next a b [] e f = refl
  before_next a b (p ∷ ps) e f = is_less (text_cmp a p.0) (text_total.trans a b p.0 e (less_is (text_cmp b p.0) f))

  kept_first : (a : Text) (p : Text × Declared) (o : Option Declared) (js : List (Text × Declared)) → is_lt (text_cmp a p.0) ≡ true → is_first a js ≡ true → is_first a (kept_pair p.0 o js) ≡ true
  kept_first a p None js e f = f
  kept_first a p (Some d) js e f = e

  joined_first : (a : Text) (ps : List (Text × Declared)) → is_first a ps ≡ true → names_rise ps ≡ true → is_first a (joined_pairs ps) ≡ true
  joined_first a [] f h = refl
  joined_first a (p ∷ ps) f h =
      let q = rise_parts p ps h in
      kept_first a p (joined_one p) (joined_pairs ps) f (joined_first a ps (before_next a p.0 ps (less_is (text_cmp a p.0) f) q.0) q.1)

  kept_rises : (p : Text × Declared) (o : Option Declared) (js : List (Text × Declared)) → is_first p.0 js ≡ true → names_rise js ≡ true → names_rise (kept_pair p.0 o js) ≡ true
  kept_rises p None js f h = h
  kept_rises p (Some d) js f h = rise_more (p.0, d) js f h

  pub joined_rises : (ps : List (Text × Declared)) → names_rise ps ≡ true → names_rise (joined_pairs ps) ≡ true
  joined_rises [] h = refl
  joined_rises (p ∷ ps) h =
      let q = rise_parts p ps h in
      kept_rises p (joined_one p) (joined_pairs ps) (joined_first p.0 ps q.0 q.1) (joined_rises ps q.1)

  -- a walk along the entries: those joined so far, and then those of what is left, are those of all
  abbrev pub of_entries : List (RcStr Global × AttributeType) → List (Text × Declared)
  of_entries es = joined_pairs (declared_pairs es)

  next_is : (rest later : List (RcStr Global × AttributeType)) (k : RcStr Global) (d : AttributeType) (o : Option (Bor AttributeType)) (j : Option AttributeType) → rest ≡ (k, d) ∷ later
      → option_map (λ x. attribute_of x.now) o ≡ attribute_named (rc_str_bytes k) others
      → option_map attribute_of j ≡ joined_with m d.is_required (join m (type_of d.attr_type)) (option_map (λ x. attribute_of x.now) o)
      → of_entries rest ≡ kept_pair (rc_str_bytes k) (option_map attribute_of j) (of_entries later)
  next_is rest later k d o j is found joined =
      ap of_entries is
      ∙ ap (λ x. kept_pair (rc_str_bytes k) (joined_with m d.is_required (join m (type_of d.attr_type)) x) (of_entries later)) (sym found)
      ∙ ap (λ x. kept_pair (rc_str_bytes k) x (of_entries later)) (sym joined)

  pub passes_over : (done rest later : List (RcStr Global × AttributeType)) (k : RcStr Global) (d : AttributeType) (o : Option (Bor AttributeType)) (j : Option AttributeType) (all : List (Text × Declared)) → (declared_pairs done ++ of_entries rest) ≡ all → rest ≡ (k, d) ∷ later
      → option_map (λ x. attribute_of x.now) o ≡ attribute_named (rc_str_bytes k) others
      → option_map attribute_of j ≡ joined_with m d.is_required (join m (type_of d.attr_type)) (option_map (λ x. attribute_of x.now) o)
      → j ≡ None → (declared_pairs done ++ of_entries later) ≡ all
  passes_over done rest later k d o j all h is found joined none =
      ap (λ x. declared_pairs done ++ kept_pair (rc_str_bytes k) (option_map attribute_of x) (of_entries later)) (sym none)
      ∙ ap (λ ps. declared_pairs done ++ ps) (sym (next_is rest later k d o j is found joined))
      ∙ h

  with_one : (done : List (RcStr Global × AttributeType)) (k c : RcStr Global) (x : AttributeType) (ps : List (Text × Declared)) → rc_str_bytes c ≡ rc_str_bytes k → (declared_pairs (done ++ (c, x) ∷ []) ++ ps) ≡ (declared_pairs done ++ (rc_str_bytes k, attribute_of x) ∷ ps)
  with_one [] k c x ps same = ap (λ n. (n, attribute_of x) ∷ ps) same
  with_one (e ∷ done) k c x ps same = ap (λ qs. declared_pair e ∷ qs) (with_one done k c x ps same)

  pub takes_one : (done more rest later : List (RcStr Global × AttributeType)) (k c : RcStr Global) (d x : AttributeType) (o : Option (Bor AttributeType)) (j : Option AttributeType) (all : List (Text × Declared)) → (declared_pairs done ++ of_entries rest) ≡ all → rest ≡ (k, d) ∷ later
      → option_map (λ x. attribute_of x.now) o ≡ attribute_named (rc_str_bytes k) others
      → option_map attribute_of j ≡ joined_with m d.is_required (join m (type_of d.attr_type)) (option_map (λ x. attribute_of x.now) o)
      → j ≡ Some x → more ≡ done ++ (c, x) ∷ [] → rc_str_bytes c ≡ rc_str_bytes k → (declared_pairs more ++ of_entries later) ≡ all
  takes_one done more rest later k c d x o j all h is found joined some made same =
      ap (λ es. declared_pairs es ++ of_entries later) made
      ∙ with_one done k c x (of_entries later) same
      ∙ ap (λ y. declared_pairs done ++ kept_pair (rc_str_bytes k) (option_map attribute_of y) (of_entries later)) (sym some)
      ∙ ap (λ ps. declared_pairs done ++ ps) (sym (next_is rest later k d o j is found joined))
      ∙ h

  pub all_taken : (done rest : List (RcStr Global × AttributeType)) (all : List (Text × Declared)) → (declared_pairs done ++ of_entries rest) ≡ all → rest ≡ [] → declared_pairs done ≡ all
  all_taken done rest all h is = sym (append-nil (declared_pairs done)) ∙ ap (λ es. declared_pairs done ++ of_entries es) (sym is) ∙ h

  pub taken_rise : (done es : List (RcStr Global × AttributeType)) → declared_pairs done ≡ of_entries es → IsStrictlySortedBy (λ a b. text_cmp (rc_str_bytes a) (rc_str_bytes b)) (keys_of es) → names_rise (declared_pairs done) ≡ true
  taken_rise done es h s = ap names_rise h ∙ joined_rises (declared_pairs es) (entries_rise es s)
