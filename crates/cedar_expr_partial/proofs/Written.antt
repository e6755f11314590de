-- What values are written as, by their kinds, and what is gathered on the way.
use Rattle.std.proofs.Common.{◌≡◌, true, List, [], ◌∷◌, ◌++◌, map, length, Result, Ok, Err, IfOk, refl, sym, ap, ◌∙◌, arith}
use mathlib.Core.List.{append-nil}
use Rattle.std.specs.List.Sorted.{IsStrictlySortedBy}
use Rattle.std.specs.Map.{keys_of}
use Rattle.std.specs.Rc.{rc_str_bytes}
use Rattle.std.specs.declared.alloc.Global.{Global}
use Rattle.std.specs.declared.collections.BTreeMap.{BTreeMap}
use Rattle.std.specs.declared.rc.Rc.{Rc}
use Rattle.std.specs.declared.rc.RcStr.{RcStr}
use Rattle.cedar_expr_model.specs.Name.{Text}
use Rattle.cedar_expr_model.specs.Made.{Made, Mades, written, writtens, written_fields}
use Rattle.cedar_expr_model.specs.Tree.{Tree, lit, call, set_literal, record_literal, tree, tree_field}
use Rattle.cedar_expr_model.specs.Builder.{trees, tree_fields}
use Rattle.cedar_expr_model.specs.Lists.{rises}
use Rattle.cedar_expr_model.specs.Order.{text_cmp}
use Rattle.cedar_expr_model.specs.Records.{in_order, names_rise}
use Rattle.cedar_expr_model.proofs.Ordering.{in_order_stays}
use Rattle.cedar_expr_leaves.specs.Literals.{literal_of}
use Rattle.cedar_expr_leaves.specs.declared.literal.Literal.{Literal}
use Rattle.cedar_expr_values.specs.Extension.{Extension}
use Rattle.cedar_expr_values.specs.Fields.{by_text}
use Rattle.cedar_expr_values.specs.Values.{made, mades, made_list, made_fields, made_pair}
use Rattle.cedar_expr_values.specs.declared.value.Value.{Value}
use Rattle.cedar_expr_values.proofs.Ascending.{names_ascend}
use Rattle.cedar_expr_values.specs.Members.{under, in_order_under}
use Rattle.cedar_expr_trees.specs.Trees.{tree_of, named, field_trees}
use Rattle.cedar_expr_trees.specs.declared.expr.Expr.{Expr}
use Rattle.cedar_expr_partial.specs.Parts.{written_pair}

module _ {X : Type 0} (seen : X → Extension) where
  -- the fields of a record
  pub fields_written : (es : List (RcStr Global × Value X)) → written_fields (made_fields (map (made_pair seen) es)) ≡ tree_fields (map (written_pair seen) es)
  fields_written [] = refl
  fields_written (e ∷ es) = ap (λ fs. tree_field (rc_str_bytes e.0) (written (made seen e.1)) fs) (fields_written es)

  -- the members of a set
  pub members_written : (vs : List (Value X)) → trees (map (λ v. written (made seen v)) vs) ≡ writtens (made_list (map (made seen) vs))
  members_written [] = refl
  members_written (v ∷ vs) = ap (λ ts. tree (written (made seen v)) ts) (members_written vs)

  pub members_end : (es : List Tree) (rest vs : List (Value X)) (ms : Mades) → length rest ≡ 0 → es ++ map (λ v. written (made seen v)) rest ≡ map (λ v. written (made seen v)) vs → ms ≡ made_list (map (made seen) vs) → trees es ≡ writtens ms
  members_end es [] vs ms n h e = ap trees (sym (append-nil es) ∙ h) ∙ members_written vs ∙ ap writtens (sym e)
  members_end es (v ∷ rest) vs ms n h e = absurd (omega (arith, n))

  -- the names of fields rise in a map
  names_kept : (es : List (RcStr Global × Value X)) → map (λ p. p.0) (map (written_pair seen) es) ≡ map (λ p. p.0) (map by_text es)
  names_kept [] = refl
  names_kept (e ∷ es) = ap (λ ns. rc_str_bytes e.0 ∷ ns) (names_kept es)

  written_rise : (es : List (RcStr Global × Value X)) → IsStrictlySortedBy (λ a b. text_cmp (rc_str_bytes a) (rc_str_bytes b)) (keys_of es) → names_rise (map (written_pair seen) es) ≡ true
  written_rise es s = ap (rises text_cmp) (names_kept es) ∙ names_ascend es s

-- the trees of fields, under their names
trees_under : (es : List (RcStr Global × Expr Unit)) → named (field_trees es) ≡ map (under tree_of) (named es)
trees_under [] = refl
trees_under (e ∷ es) = ap (λ ps. (rc_str_bytes e.0, tree_of e.1) ∷ ps) (trees_under es)

-- fields whose names rise are the fields of their map
stays_in_order : (es ps : List (RcStr Global × Expr Unit)) → names_rise (named (field_trees ps)) ≡ true → named es ≡ in_order (named ps) → named (field_trees es) ≡ named (field_trees ps)
stays_in_order es ps h e =
    trees_under es
    ∙ ap (map (under tree_of)) e
    ∙ sym (in_order_under tree_of (named ps))
    ∙ ap in_order (sym (trees_under ps))
    ∙ in_order_stays (named (field_trees ps)) h

-- where nothing is left
written_end : (es : List (RcStr Global × Expr Unit)) (rest ps : List (Text × Tree)) → rest ≡ [] → named (field_trees es) ++ rest ≡ ps → named (field_trees es) ≡ ps
written_end es rest ps n h = sym (append-nil (named (field_trees es))) ∙ ap (λ qs. named (field_trees es) ++ qs) (sym n) ∙ h

-- one more field behind those that are written, and one less of those that are left
pub field_goes : (done more : List (RcStr Global × Expr Unit)) (n : RcStr Global) (e : Expr Unit) (p : Text × Tree) (ps qs : List (Text × Tree)) → more ≡ done ++ (n, e) ∷ [] → (rc_str_bytes n, tree_of e) ≡ p → named (field_trees done) ++ (p ∷ ps) ≡ qs → named (field_trees more) ++ ps ≡ qs
field_goes done more n e p ps qs m s h = ap (λ es. named (field_trees es) ++ ps) m ∙ go done ∙ ap (λ q. named (field_trees done) ++ (q ∷ ps)) s ∙ h
  where
    go : (ds : List (RcStr Global × Expr Unit)) → named (field_trees (ds ++ (n, e) ∷ [])) ++ ps ≡ named (field_trees ds) ++ ((rc_str_bytes n, tree_of e) ∷ ps)
    go [] = refl
    go (d ∷ ds) = ap (λ es. (rc_str_bytes d.0, tree_of d.1) ∷ es) (go ds)

-- the map of the fields that are written
pub fields_end : {X E : Type 0} (seen : X → Extension) (es rest : List (RcStr Global × Value X)) (done : List (RcStr Global × Expr Unit)) (q : Result (BTreeMap (RcStr Global) (Expr Unit) Global) E)
    → rest ≡ []
    → named (field_trees done) ++ map (written_pair seen) rest ≡ map (written_pair seen) es
    → IsStrictlySortedBy (λ a b. text_cmp (rc_str_bytes a) (rc_str_bytes b)) (keys_of es)
    → IfOk q (λ m. named m.entries ≡ in_order (named done))
    → IfOk q (λ m. named (field_trees m.entries) ≡ map (written_pair seen) es)
fields_end seen es rest done (Ok m) n h s e =
    let all = written_end done (map (written_pair seen) rest) (map (written_pair seen) es) (ap (map (written_pair seen)) n) h in
    stays_in_order m.entries done (ap names_rise all ∙ written_rise seen es s) e ∙ all
fields_end seen es rest done (Err x) n h s e = tt

-- what was made is another expression that is the same
pub tree_other : {E : Type 0} (q : Result (Expr Unit) E) (t u : Tree) → t ≡ u → IfOk q (λ e. tree_of e ≡ t) → IfOk q (λ e. tree_of e ≡ u)
tree_other (Ok e) t u k h = h ∙ k
tree_other (Err x) t u k h = tt
