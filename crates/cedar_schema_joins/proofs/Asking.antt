-- Parts of an expression that are asked for a type, one after the other.
use Rattle.std.proofs.Common.{◌≡◌, ◌&&◌, ◌||◌, not, ℕ, ◌+◌, ◌<◌, ◌≤◌, Bool, true, false, cond, List, [], ◌∷◌, map, drop, length, get_or, Option, Some, option_map, is_some, refl, sym, ap, ◌∙◌}
use Rattle.std.proofs.lemmas.List.{drop_more, drop_all}
use Rattle.std.proofs.lemmas.Map.Text.{is_eq-slice_cmp}
use Rattle.std.specs.Borrow.{Bor}
use Rattle.std.specs.BTreeMap.{is_at}
use Rattle.std.specs.Map.{lookup}
use Rattle.std.specs.Ordering.{is_eq}
use Rattle.std.specs.Rc.{rc_str_bytes}
use Rattle.std.specs.Str.{bytes_eq}
use Rattle.std.specs.declared.alloc.Global.{Global}
use Rattle.std.specs.declared.rc.RcStr.{RcStr}
use Rattle.cedar_expr_model.specs.Name.{Text}
use Rattle.cedar_expr_model.specs.Builder.{trees, tree_fields}
use Rattle.cedar_expr_model.specs.Order.{text_cmp}
use Rattle.cedar_expr_model.specs.Table.{Signature}
use Rattle.cedar_expr_trees.specs.Trees.{tree_of, named, field_trees}
use Rattle.cedar_expr_trees.specs.declared.expr.Expr.{Expr}
use Rattle.cedar_expr_functions.specs.declared.err.ExtensionFunctionLookupError.{ExtensionFunctionLookupError}
use Rattle.cedar_expr_functions.specs.declared.err.ExtensionFunctionLookupError.TheVariants.{OutOfMemory, FuncDoesNotExist}
use Rattle.cedar_schema_model.specs.Types.{Ty, Openness, Attributes, attribute_named}
use Rattle.cedar_schema_types.specs.Types.{attribute_of}
use Rattle.cedar_schema_types.specs.AttributeLists.{attributes_from, declared_pairs}
use Rattle.cedar_schema_types.specs.declared.types.AttributeType.{AttributeType}
use Rattle.cedar_schema_model.specs.Restricted.{Asked, asked_truth, asked_next, asked_for, all_asked_for, field_asked, fields_asked_for, has_tree_field, has_required_fields}
use Rattle.cedar_schema_joins.specs.Answers.{RefusesAsked}

-- what is asked first and answers yes leaves what is asked next; another answer stays
yes_goes_on : (a d whole : Asked) (b : Bool) → asked_next a d ≡ whole → a ≡ asked_truth b → b ≡ true → d ≡ whole
yes_goes_on a d whole b h is so = sym (ap (λ x. asked_next x d) (is ∙ ap asked_truth so)) ∙ h

no_stays : (a d whole : Asked) (b : Bool) → asked_next a d ≡ whole → a ≡ asked_truth b → b ≡ false → whole ≡ asked_truth false
no_stays a d whole b h is so = sym h ∙ ap (λ x. asked_next x d) (is ∙ ap asked_truth so)

fault_stays : (a d whole : Asked) (e : ExtensionFunctionLookupError) → asked_next a d ≡ whole → RefusesAsked a e → RefusesAsked whole e
fault_stays a d whole OutOfMemory h r = tt
fault_stays a d whole (FuncDoesNotExist e) h r = sym h ∙ ap (λ x. asked_next x d) r

module _ {T : Type 0} (ss : List Signature) where
  -- the expressions that are left, and the next of them
  module _ (t : Ty) where
    abbrev pub left_to_ask : List (Expr T) → Asked
    left_to_ask es = all_asked_for ss (trees (map tree_of es)) t

    one_left : (es : List (Expr T)) (i : ℕ) (x : Expr T) (whole : Asked) → i < length es → x ≡ get_or es i x → left_to_ask (drop i es) ≡ whole → asked_next (asked_for ss (tree_of x) t) (left_to_ask (drop (i + 1) es)) ≡ whole
    one_left es i x whole below at h = ap left_to_ask (sym (drop_more es i x below ∙ ap (λ y. y ∷ drop (i + 1) es) (sym at))) ∙ h

    pub each_goes_on : (es : List (Expr T)) (i : ℕ) (x : Expr T) (b : Bool) (whole : Asked) → i < length es → x ≡ get_or es i x → left_to_ask (drop i es) ≡ whole → asked_for ss (tree_of x) t ≡ asked_truth b → b ≡ true → left_to_ask (drop (i + 1) es) ≡ whole
    each_goes_on es i x b whole below at h is so = yes_goes_on (asked_for ss (tree_of x) t) (left_to_ask (drop (i + 1) es)) whole b (one_left es i x whole below at h) is so

    pub each_stops : (es : List (Expr T)) (i : ℕ) (x : Expr T) (b : Bool) (whole : Asked) → i < length es → x ≡ get_or es i x → left_to_ask (drop i es) ≡ whole → asked_for ss (tree_of x) t ≡ asked_truth b → b ≡ false → whole ≡ asked_truth false
    each_stops es i x b whole below at h is so = no_stays (asked_for ss (tree_of x) t) (left_to_ask (drop (i + 1) es)) whole b (one_left es i x whole below at h) is so

    pub each_fails : (es : List (Expr T)) (i : ℕ) (x : Expr T) (e : ExtensionFunctionLookupError) (whole : Asked) → i < length es → x ≡ get_or es i x → left_to_ask (drop i es) ≡ whole → RefusesAsked (asked_for ss (tree_of x) t) e → RefusesAsked whole e
    each_fails es i x e whole below at h r = fault_stays (asked_for ss (tree_of x) t) (left_to_ask (drop (i + 1) es)) whole e (one_left es i x whole below at h) r

    pub each_ends : (es : List (Expr T)) (i : ℕ) (whole : Asked) → length es ≤ i → left_to_ask (drop i es) ≡ whole → whole ≡ asked_truth true
    each_ends es i whole past h = sym h ∙ ap left_to_ask (drop_all i es past)

  -- the fields that are left, and the next of them
  module _ (as_ : Attributes) (o : Openness) where
    abbrev pub fields_left : List (RcStr Global × Expr T) → Asked
    fields_left es = fields_asked_for ss as_ o (tree_fields (named (field_trees es)))

    field_left : (rest later : List (RcStr Global × Expr T)) (k : RcStr Global) (x : Expr T) (d : Option (Bor AttributeType)) (whole : Asked) → fields_left rest ≡ whole → rest ≡ (k, x) ∷ later
        → option_map (λ y. attribute_of y.now) d ≡ attribute_named (rc_str_bytes k) as_
        → asked_next (field_asked o (asked_for ss (tree_of x)) (option_map (λ y. attribute_of y.now) d)) (fields_left later) ≡ whole
    field_left rest later k x d whole h is found = ap (λ y. asked_next (field_asked o (asked_for ss (tree_of x)) y) (fields_left later)) found ∙ ap fields_left (sym is) ∙ h

    pub field_goes_on : (rest later : List (RcStr Global × Expr T)) (k : RcStr Global) (x : Expr T) (d : Option (Bor AttributeType)) (b : Bool) (whole : Asked) → fields_left rest ≡ whole → rest ≡ (k, x) ∷ later
        → option_map (λ y. attribute_of y.now) d ≡ attribute_named (rc_str_bytes k) as_
        → field_asked o (asked_for ss (tree_of x)) (option_map (λ y. attribute_of y.now) d) ≡ asked_truth b → b ≡ true → fields_left later ≡ whole
    field_goes_on rest later k x d b whole h is found tested so = yes_goes_on _ (fields_left later) whole b (field_left rest later k x d whole h is found) tested so

    pub field_stops : (rest later : List (RcStr Global × Expr T)) (k : RcStr Global) (x : Expr T) (d : Option (Bor AttributeType)) (b : Bool) (whole : Asked) → fields_left rest ≡ whole → rest ≡ (k, x) ∷ later
        → option_map (λ y. attribute_of y.now) d ≡ attribute_named (rc_str_bytes k) as_
        → field_asked o (asked_for ss (tree_of x)) (option_map (λ y. attribute_of y.now) d) ≡ asked_truth b → b ≡ false → whole ≡ asked_truth false
    field_stops rest later k x d b whole h is found tested so = no_stays _ (fields_left later) whole b (field_left rest later k x d whole h is found) tested so

    pub field_fails : (rest later : List (RcStr Global × Expr T)) (k : RcStr Global) (x : Expr T) (d : Option (Bor AttributeType)) (e : ExtensionFunctionLookupError) (whole : Asked) → fields_left rest ≡ whole → rest ≡ (k, x) ∷ later
        → option_map (λ y. attribute_of y.now) d ≡ attribute_named (rc_str_bytes k) as_
        → RefusesAsked (field_asked o (asked_for ss (tree_of x)) (option_map (λ y. attribute_of y.now) d)) e → RefusesAsked whole e
    field_fails rest later k x d e whole h is found r = fault_stays _ (fields_left later) whole e (field_left rest later k x d whole h is found) r

    pub fields_end : (rest : List (RcStr Global × Expr T)) (whole : Asked) → fields_left rest ≡ whole → rest ≡ [] → whole ≡ asked_truth true
    fields_end rest whole h is = sym h ∙ ap fields_left is

-- a field by its name
module _ {T : Type 0} where
  pub tree_field_there : (a : Text) (es : List (RcStr Global × Expr T)) → is_some (lookup (is_at (λ k. text_cmp a (rc_str_bytes k))) es) ≡ has_tree_field a (tree_fields (named (field_trees es)))
  tree_field_there a [] = refl
  tree_field_there a (e ∷ es) = go (is_eq (text_cmp a (rc_str_bytes e.0))) (bytes_eq a (rc_str_bytes e.0)) (is_eq-slice_cmp a (rc_str_bytes e.0)) (tree_field_there a es)
    where
      go : (s t : Bool) → s ≡ t → is_some (lookup (is_at (λ k. text_cmp a (rc_str_bytes k))) es) ≡ has_tree_field a (tree_fields (named (field_trees es)))
          → is_some (cond s (Some e.1) (lookup (is_at (λ k. text_cmp a (rc_str_bytes k))) es)) ≡ (t || has_tree_field a (tree_fields (named (field_trees es))))
      go s true same h = ap (λ b. is_some (cond b (Some e.1) (lookup (is_at (λ k. text_cmp a (rc_str_bytes k))) es))) same
      go s false same h = ap (λ b. is_some (cond b (Some e.1) (lookup (is_at (λ k. text_cmp a (rc_str_bytes k))) es))) same ∙ h

  -- required attributes that are left, and the next of them
  module _ (es : List (RcStr Global × Expr T)) where
    abbrev pub required_left : List (RcStr Global × AttributeType) → Bool
    required_left ds = has_required_fields (attributes_from (declared_pairs ds)) (tree_fields (named (field_trees es)))

    one_there : (r x : Bool) → (not r || x) ≡ not (r && not x)
    one_there true true = refl
    one_there true false = refl
    one_there false x = refl

    next_there : (rest later : List (RcStr Global × AttributeType)) (k : RcStr Global) (d : AttributeType) (lack whole : Bool) → required_left rest ≡ whole → rest ≡ (k, d) ∷ later
        → lack ≡ (d.is_required && not (has_tree_field (rc_str_bytes k) (tree_fields (named (field_trees es))))) → (not lack && required_left later) ≡ whole
    next_there rest later k d lack whole h is tested =
        ap (λ b. not b && required_left later) tested
        ∙ ap (λ b. b && required_left later) (sym (one_there d.is_required (has_tree_field (rc_str_bytes k) (tree_fields (named (field_trees es))))))
        ∙ ap required_left (sym is) ∙ h

    pub none_lacks : (rest later : List (RcStr Global × AttributeType)) (k : RcStr Global) (d : AttributeType) (lack whole : Bool) → required_left rest ≡ whole → rest ≡ (k, d) ∷ later
        → lack ≡ (d.is_required && not (has_tree_field (rc_str_bytes k) (tree_fields (named (field_trees es))))) → lack ≡ false → required_left later ≡ whole
    none_lacks rest later k d lack whole h is tested not_so = ap (λ b. not b && required_left later) (sym not_so) ∙ next_there rest later k d lack whole h is tested

    pub one_lacks : (rest later : List (RcStr Global × AttributeType)) (k : RcStr Global) (d : AttributeType) (lack whole : Bool) → required_left rest ≡ whole → rest ≡ (k, d) ∷ later
        → lack ≡ (d.is_required && not (has_tree_field (rc_str_bytes k) (tree_fields (named (field_trees es))))) → lack ≡ true → false ≡ whole
    one_lacks rest later k d lack whole h is tested so = ap (λ b. not b && required_left later) (sym so) ∙ next_there rest later k d lack whole h is tested

    pub required_end : (rest : List (RcStr Global × AttributeType)) (whole : Bool) → required_left rest ≡ whole → rest ≡ [] → true ≡ whole
    required_end rest whole h is = ap required_left (sym is) ∙ h
