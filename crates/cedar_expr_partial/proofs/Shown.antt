-- What expressions are as values, by their kinds, and what is gathered on the way.
use Rattle.std.proofs.Common.{◌≡◌, ℕ, suc, ◌+◌, ◌<◌, true, List, [], ◌∷◌, ◌++◌, map, length, take, drop, get_or, Option, Some, None, Result, Ok, Err, IfErr, refl, sym, subst, ap, ◌∙◌, append_assoc, arith}
use Rattle.std.proofs.Math.Seq.{take-suc, split_at}
use mathlib.Core.List.{append-nil}
use Rattle.std.proofs.lemmas.List.{map-append}
use Rattle.std.specs.Prelude.{option_map, option_and_then}
use Rattle.std.specs.Result.{IsErrAnd}
use Rattle.std.specs.List.Sorted.{IsStrictlySortedBy}
use Rattle.std.specs.Map.{keys_of}
use Rattle.std.specs.Rc.{rc_str_bytes}
use Rattle.std.specs.declared.alloc.Global.{Global}
use Rattle.std.specs.declared.rc.RcStr.{RcStr}
use Rattle.cedar_expr_model.specs.Name.{Text}
use Rattle.cedar_expr_model.specs.Value.{V, record_of, field}
use Rattle.cedar_expr_model.specs.Lists.{all_given, rises}
use Rattle.cedar_expr_model.specs.Order.{text_cmp}
use Rattle.cedar_expr_model.specs.Records.{fields, names_rise, record_made}
use Rattle.cedar_expr_model.specs.Canonical.{set_made, is_canonical}
use Rattle.cedar_expr_model.proofs.Lists.{both_hold, hold_both}
use Rattle.cedar_expr_values.specs.Extension.{Extension}
use Rattle.cedar_expr_values.specs.Values.{bare, bare_pair}
use Rattle.cedar_expr_values.specs.declared.value.Value.{Value}
use Rattle.cedar_expr_model.specs.Builder.{trees, tree_fields}
use Rattle.cedar_expr_model.specs.Tree.{set_literal, record_literal}
use Rattle.cedar_expr_model.specs.ValueParts.{value_of_tree, values_of_trees, fields_of_trees}
use Rattle.cedar_expr_model.proofs.Ordering.{in_order_stays}
use Rattle.cedar_expr_values.specs.Fields.{by_text}
use Rattle.cedar_expr_values.proofs.Ascending.{names_ascend}
use Rattle.cedar_expr_trees.specs.Trees.{tree_of, named, field_trees}
use Rattle.cedar_expr_trees.specs.declared.expr.Expr.{Expr}
use Rattle.cedar_expr_partial.specs.Parts.{value_shown, field_shown, IsNoValue}
use Rattle.cedar_expr_partial.specs.declared.err.NotValue.{NotValue as Fault}
use Rattle.cedar_expr_partial.specs.declared.err.NotValue.TheVariants.{OutOfMemory, NotValue}

-- the values of members, and the fields of a record
pub members_shown : {T : Type 0} (es : List (Expr T)) → values_of_trees (trees (map tree_of es)) ≡ all_given value_shown es
members_shown [] = refl
members_shown (e ∷ es) = ap (λ o. option_and_then (λ v. option_map (λ vs. v ∷ vs) o) (value_shown e)) (members_shown es)

one_field : (n : Text) (o : Option V) (ps : Option (List (Text × V))) → option_and_then (λ v. option_map (field n v) (option_map fields ps)) o ≡ option_map fields (option_and_then (λ y. option_map (λ ys. y ∷ ys) ps) (option_map (λ v. (n, v)) o))
one_field n None ps = refl
one_field n (Some v) None = refl
one_field n (Some v) (Some ps) = refl

pub fields_shown : {T : Type 0} (es : List (RcStr Global × Expr T)) → fields_of_trees (tree_fields (named (field_trees es))) ≡ option_map fields (all_given field_shown es)
fields_shown [] = refl
fields_shown (e ∷ es) = ap (λ o. option_and_then (λ v. option_map (field (rc_str_bytes e.0) v) o) (value_shown e.1)) (fields_shown es) ∙ one_field (rc_str_bytes e.0) (value_shown e.1) (all_given field_shown es)

-- the value of a set, and of a record
pub set_shown : {T : Type 0} (es : List (Expr T)) (vs : List V) → all_given value_shown es ≡ Some vs → value_of_tree (set_literal (trees (map tree_of es))) ≡ Some (set_made vs)
set_shown es vs h = ap (option_map set_made) (members_shown es ∙ h)

pub set_not_shown : {T : Type 0} (es : List (Expr T)) → all_given value_shown es ≡ None → value_of_tree (set_literal (trees (map tree_of es))) ≡ None
set_not_shown es h = ap (option_map set_made) (members_shown es ∙ h)

pub record_shown : {T : Type 0} (es : List (RcStr Global × Expr T)) (ps : List (Text × V)) → names_rise ps ≡ true → all_given field_shown es ≡ Some ps → value_of_tree (record_literal (tree_fields (named (field_trees es)))) ≡ Some (record_made ps)
record_shown es ps r h = ap (option_map record_of) (fields_shown es ∙ ap (option_map fields) h) ∙ ap (λ qs. Some (record_of (fields qs))) (sym (in_order_stays ps r))

pub record_not_shown : {T : Type 0} (es : List (RcStr Global × Expr T)) → all_given field_shown es ≡ None → value_of_tree (record_literal (tree_fields (named (field_trees es)))) ≡ None
record_not_shown es h = ap (option_map record_of) (fields_shown es ∙ ap (option_map fields) h)

-- a walk along a list
module _ {A B : Type 0} (f : A → Option B) where
  one_more : (xs : List A) (ys : List B) (x : A) (y : B) → all_given f xs ≡ Some ys → f x ≡ Some y → all_given f (xs ++ x ∷ []) ≡ Some (ys ++ y ∷ [])
  one_more [] ys x y h e = let n : [] ≡ ys = cc in ap (option_and_then (λ z. Some (z ∷ []))) e ∙ ap (λ zs. Some (zs ++ y ∷ [])) n
  one_more (z ∷ zs) ys x y h e = go (f z) (all_given f zs) refl h (λ ws k. one_more zs ws x y k e)
    where
      go : (o : Option B) (q : Option (List B)) → all_given f zs ≡ q → option_and_then (λ w. option_map (λ ws. w ∷ ws) q) o ≡ Some ys → ((ws : List B) → all_given f zs ≡ Some ws → all_given f (zs ++ x ∷ []) ≡ Some (ws ++ y ∷ [])) → option_and_then (λ w. option_map (λ ws. w ∷ ws) (all_given f (zs ++ x ∷ []))) o ≡ Some (ys ++ y ∷ [])
      go None q k l m = absurd (cc)
      go (Some w) None k l m = absurd (cc)
      go (Some w) (Some ws) k l m = let n : w ∷ ws ≡ ys = cc in ap (option_map (λ vs. w ∷ vs)) (m ws k) ∙ ap (λ vs. Some (vs ++ y ∷ [])) n

  none_here : (xs : List A) (x : A) (rest : List A) → f x ≡ None → all_given f (xs ++ x ∷ rest) ≡ None
  none_here [] x rest e = ap (option_and_then (λ z. option_map (λ zs. z ∷ zs) (all_given f rest))) e
  none_here (z ∷ zs) x rest e = ap (λ o. option_and_then (λ w. option_map (λ ws. w ∷ ws) o) (f z)) (none_here zs x rest e) ∙ go (f z)
    where
      go : (o : Option B) → option_and_then (λ w. option_map (λ ws. w ∷ ws) None) o ≡ None
      go None = refl
      go (Some w) = refl

  pub goes_on : (xs : List A) (i : ℕ) (x d : A) (ys : List B) (y : B) → i < length xs → x ≡ get_or xs i d → all_given f (take i xs) ≡ Some ys → f x ≡ Some y → all_given f (take (i + 1) xs) ≡ Some (ys ++ y ∷ [])
  goes_on xs i x d ys y below at h e =
      let next : i + 1 ≡ suc i = omega arith in
      ap (λ k. all_given f (take k xs)) next
      ∙ ap (all_given f) (take-suc xs i d below)
      ∙ one_more (take i xs) ys (get_or xs i d) y h (ap f (sym at) ∙ e)

  pub goes_wrong : (xs : List A) (i : ℕ) (x d : A) → i < length xs → x ≡ get_or xs i d → f x ≡ None → all_given f xs ≡ None
  goes_wrong xs i x d below at e = ap (all_given f) (split_at xs i d below) ∙ none_here (take i xs) (get_or xs i d) (drop (suc i) xs) (ap f (sym at) ∙ e)

  -- what is given of those before, and then of those that are left, is what is given of all
  abbrev pub after : List B → Option (List B) → Option (List B)
  after done o = option_map (λ ys. done ++ ys) o

  pub whole_start : (xs : List A) → all_given f xs ≡ after [] (all_given f xs)
  whole_start xs = go (all_given f xs)
    where
      go : (o : Option (List B)) → o ≡ after [] o
      go None = refl
      go (Some ys) = refl

  pub whole_on : (all rest later : List A) (done : List B) (x : A) (y : B) → all_given f all ≡ after done (all_given f rest) → rest ≡ x ∷ later → f x ≡ Some y → all_given f all ≡ after (done ++ y ∷ []) (all_given f later)
  whole_on all rest later done x y h e made =
      h
      ∙ ap (λ xs. after done (all_given f xs)) e
      ∙ ap (λ o. after done (option_and_then (λ z. option_map (λ zs. z ∷ zs) (all_given f later)) o)) made
      ∙ go (all_given f later)
    where
      go : (o : Option (List B)) → after done (option_map (λ zs. y ∷ zs) o) ≡ after (done ++ y ∷ []) o
      go None = refl
      go (Some zs) = ap Some (sym (append_assoc done (y ∷ []) zs))

  pub whole_wrong : (all rest later : List A) (done : List B) (x : A) → all_given f all ≡ after done (all_given f rest) → rest ≡ x ∷ later → f x ≡ None → all_given f all ≡ None
  whole_wrong all rest later done x h e wrong =
      h
      ∙ ap (λ xs. after done (all_given f xs)) e
      ∙ ap (λ o. after done (option_and_then (λ z. option_map (λ zs. z ∷ zs) (all_given f later)) o)) wrong

  pub whole_end : (all rest : List A) (done : List B) → all_given f all ≡ after done (all_given f rest) → rest ≡ [] → all_given f all ≡ Some done
  whole_end all rest done h e = h ∙ ap (λ xs. after done (all_given f xs)) e ∙ ap Some (append-nil done)

-- a refusal of a part is one of the whole
pub still_none : {A B C : Type 0} (o : Option A) (p : Option B) (r : Result C Fault) (e : Fault) → IsErrAnd r (λ y. y ≡ e) → IsNoValue o e → (o ≡ None → p ≡ None) → IfErr r (IsNoValue p)
still_none o p (Ok c) e h k l = tt
still_none o p (Err y) e h k l = subst (IsNoValue p) (sym h) (go e k)
  where
    go : (e : Fault) → IsNoValue o e → IsNoValue p e
    go OutOfMemory k = tt
    go (NotValue loc) k = l k

-- the names of what is read rise where those of the map do
pub read_rise : {A : Type 0} (es : List (RcStr Global × A)) (ps : List (Text × V)) → map (λ p. p.0) ps ≡ map (λ e. rc_str_bytes e.0) es → IsStrictlySortedBy (λ a b. text_cmp (rc_str_bytes a) (rc_str_bytes b)) (keys_of es) → names_rise ps ≡ true
read_rise es ps h s = ap (rises text_cmp) (h ∙ names_same es) ∙ names_ascend es s
  where
    names_same : {A : Type 0} (es : List (RcStr Global × A)) → map (λ e. rc_str_bytes e.0) es ≡ map (λ p. p.0) (map by_text es)
    names_same [] = refl
    names_same (e ∷ es) = ap (λ ns. rc_str_bytes e.0 ∷ ns) (names_same es)

-- one more of each that is read
module _ {X T : Type 0} (seen : X → Extension) where
  pub member_step : (es : List (Expr T)) (i : ℕ) (e d : Expr T) (done more : List (Value X)) (v : Value X) → i < length es → e ≡ get_or es i d → all_given value_shown (take i es) ≡ Some (map (bare seen) done) → value_shown e ≡ Some (bare seen v) → more ≡ done ++ v ∷ [] → all_given value_shown (take (i + 1) es) ≡ Some (map (bare seen) more)
  member_step es i e d done more v below at h s m =
      goes_on value_shown es i e d (map (bare seen) done) (bare seen v) below at h s
      ∙ ap Some (sym (map-append (bare seen) done (v ∷ [])))
      ∙ ap (λ vs. Some (map (bare seen) vs)) (sym m)

  pub field_step : (all rest later : List (RcStr Global × Expr T)) (done more : List (RcStr Global × Value X)) (k n : RcStr Global) (e : Expr T) (v : Value X) → all_given field_shown all ≡ after (field_shown {T = T}) (map (bare_pair seen) done) (all_given field_shown rest) → rest ≡ (k, e) ∷ later → more ≡ done ++ (n, v) ∷ [] → rc_str_bytes n ≡ rc_str_bytes k → value_shown e ≡ Some (bare seen v) → all_given field_shown all ≡ after (field_shown {T = T}) (map (bare_pair seen) more) (all_given field_shown later)
  field_step all rest later done more k n e v h r m a s =
      whole_on field_shown all rest later (map (bare_pair seen) done) (k, e) (rc_str_bytes n, bare seen v) h r (ap (option_map (λ w. (rc_str_bytes k, w))) s ∙ ap (λ b. Some (b, bare seen v)) (sym a))
      ∙ ap (λ ps. after (field_shown {T = T}) ps (all_given field_shown later)) (sym (map-append (bare_pair seen) done ((n, v) ∷ [])) ∙ ap (map (bare_pair seen)) (sym m))

  pub names_step : (all rest later : List (RcStr Global × Expr T)) (done more : List (RcStr Global × Value X)) (k n : RcStr Global) (e : Expr T) (v : Value X) → map (λ p. p.0) (map (bare_pair seen) done) ++ map (λ d. rc_str_bytes d.0) rest ≡ map (λ d. rc_str_bytes d.0) all → rest ≡ (k, e) ∷ later → more ≡ done ++ (n, v) ∷ [] → rc_str_bytes n ≡ rc_str_bytes k → map (λ p. p.0) (map (bare_pair seen) more) ++ map (λ d. rc_str_bytes d.0) later ≡ map (λ d. rc_str_bytes d.0) all
  names_step all rest later done more k n e v h r m a =
      ap (λ vs. map (λ p. p.0) (map (bare_pair seen) vs) ++ map (λ d. rc_str_bytes d.0) later) m
      ∙ go done
      ∙ ap (λ b. map (λ p. p.0) (map (bare_pair seen) done) ++ (b ∷ map (λ d. rc_str_bytes d.0) later)) a
      ∙ ap (λ ds. map (λ p. p.0) (map (bare_pair seen) done) ++ map (λ d. rc_str_bytes d.0) ds) (sym r)
      ∙ h
    where
      go : (ds : List (RcStr Global × Value X)) → map (λ p. p.0) (map (bare_pair seen) (ds ++ (n, v) ∷ [])) ++ map (λ d. rc_str_bytes d.0) later ≡ map (λ p. p.0) (map (bare_pair seen) ds) ++ (rc_str_bytes n ∷ map (λ d. rc_str_bytes d.0) later)
      go [] = refl
      go (d ∷ ds) = ap (λ ns. rc_str_bytes d.0 ∷ ns) (go ds)

-- the names of what is read, where nothing is left
pub names_end : {X T : Type 0} (seen : X → Extension) (es rest : List (RcStr Global × Expr T)) (done : List (RcStr Global × Value X)) → map (λ p. p.0) (map (bare_pair seen) done) ++ map (λ d. rc_str_bytes d.0) rest ≡ map (λ d. rc_str_bytes d.0) es → rest ≡ [] → IsStrictlySortedBy (λ a b. text_cmp (rc_str_bytes a) (rc_str_bytes b)) (keys_of es) → names_rise (map (bare_pair seen) done) ≡ true
names_end seen es rest done h n s =
    read_rise es (map (bare_pair seen) done) (sym (append-nil (map (λ p. p.0) (map (bare_pair seen) done))) ∙ ap (λ ds. map (λ p. p.0) (map (bare_pair seen) done) ++ map (λ d. rc_str_bytes d.0) ds) (sym n) ∙ h) s
