-- Reading an object of expressions member by member.
use Rattle.std.proofs.Common.{◌≡◌, List, [], ◌∷◌, ◌++◌, Option, Some, None, option_map, Global, string_bytes, refl, ap, ◌∙◌, ℕ, ◌≤◌, subst, arith}
use denote.Param.Weighed.{most}
use Rattle.std.specs.Rc.{rc_str_bytes}
use Rattle.std.specs.declared.rc.RcStr.{RcStr}
use Rattle.serde_json.proofs.Views.{Entry}
use Rattle.serde_json.specs.View.{view, members_view}
use Rattle.cedar_gate_model.specs.ReadingExpression.{Version, expression_read, fields_in}
use Rattle.cedar_expr_model.specs.Name.{Text}
use Rattle.cedar_expr_model.specs.Tree.{Tree, TreeFields, no_tree_fields, tree_field}
use Rattle.cedar_expr_model.specs.Builder.{tree_fields}
use Rattle.cedar_expr_trees.specs.declared.expr.Expr.{Expr}
use Rattle.cedar_expr_trees.specs.Trees.{tree_of, named, field_trees}

abbrev before_fields : List (Text × Tree) → TreeFields → TreeFields
before_fields [] fs = fs
before_fields (p ∷ ps) fs = tree_field p.0 p.1 (before_fields ps fs)

-- the fields that were read, before what is read of the rest
abbrev pub then_fields : List (Text × Tree) → Option TreeFields → Option TreeFields
then_fields ps rest = option_map (before_fields ps) rest

pub no_fields_before : (rest : Option TreeFields) → then_fields [] rest ≡ rest
no_fields_before None = refl
no_fields_before (Some fs) = refl

pub all_fields : (ps : List (Text × Tree)) → before_fields ps no_tree_fields ≡ tree_fields ps
all_fields [] = refl
all_fields (p ∷ ps) = ap (tree_field p.0 p.1) (all_fields ps)

before_one_more : (ps : List (Text × Tree)) (a : Text) (t : Tree) (fs : TreeFields) → before_fields (ps ++ (a, t) ∷ []) fs ≡ before_fields ps (tree_field a t fs)
before_one_more [] a t fs = refl
before_one_more (p ∷ ps) a t fs = ap (tree_field p.0 p.1) (before_one_more ps a t fs)

pub one_more_field : (ps : List (Text × Tree)) (a : Text) (t : Tree) (rest : Option TreeFields) → then_fields (ps ++ (a, t) ∷ []) rest ≡ then_fields ps (option_map (tree_field a t) rest)
one_more_field ps a t None = refl
one_more_field ps a t (Some fs) = ap Some (before_one_more ps a t fs)

pub start : {T : Type 0} (es : List (RcStr Global × Expr T)) (rest : Option TreeFields) → es ≡ [] → then_fields (named (field_trees es)) rest ≡ rest
start es rest e = rw e (no_fields_before rest)

pub named_more : {T : Type 0} (es : List (RcStr Global × Expr T)) (k : RcStr Global) (x : Expr T) → named (field_trees (es ++ (k, x) ∷ [])) ≡ named (field_trees es) ++ (rc_str_bytes k, tree_of x) ∷ []
named_more [] k x = refl
named_more (y ∷ es) k x = ap (λ zs. (rc_str_bytes y.0, tree_of y.1) ∷ zs) (named_more es k x)

pub next_field : {T : Type 0} (v : Version) (es : List (RcStr Global × Expr T)) (k : RcStr Global) (x : Expr T) (e : Entry) (left rest : List Entry) → rest ≡ e ∷ left → rc_str_bytes k ≡ string_bytes e.0 → expression_read v (view e.1) ≡ Some (tree_of x)
    → then_fields (named (field_trees (es ++ (k, x) ∷ []))) (fields_in v (members_view left)) ≡ then_fields (named (field_trees es)) (fields_in v (members_view rest))
next_field v es k x e left rest is h r =
    ap (λ ps. then_fields ps (fields_in v (members_view left))) (named_more es k x) ∙ one_more_field (named (field_trees es)) (rc_str_bytes k) (tree_of x) (fields_in v (members_view left)) ∙ rw (is, r, h)

-- what is left of a list weighs no more than the whole
pub within_all : {A : Type 0} (f : A → ℕ) (left whole : List A) → left ≡ whole → most f left ≤ most f whole
within_all f left whole e = rw e (omega arith)

pub still_within : {A : Type 0} (f : A → ℕ) (x : A) (rest left whole : List A) → left ≡ x ∷ rest → most f left ≤ most f whole → most f rest ≤ most f whole
still_within f x rest left whole e h =
    let g : most f (x ∷ rest) ≤ most f whole = subst (λ ys. most f ys ≤ most f whole) e h in
    omega arith
