-- Names that stand twice among pairs of names and expressions.
use Rattle.std.proofs.Common.{◌≡◌, List, [], ◌∷◌, map, IfErr, refl, sym, ap, ◌∙◌}
use Rattle.std.specs.Prelude.{Result, Ok, Err}
use Rattle.std.specs.Rc.{rc_str_bytes}
use Rattle.std.specs.Str.{bytes_eq}
use Rattle.std.specs.declared.alloc.Global.{Global}
use Rattle.std.specs.declared.rc.RcStr.{RcStr}
use Rattle.cedar_expr_model.specs.Name.{Text}
use Rattle.cedar_expr_model.specs.Repeats.{repeated, repeated_name}
use Rattle.cedar_expr_model.specs.Tree.{Tree}
use Rattle.cedar_expr_trees.specs.Refusals.{RefusesRecord}
use Rattle.cedar_expr_trees.specs.Trees.{named, field_trees}
use Rattle.cedar_expr_trees.specs.declared.err.ExpressionConstructionError.{ExpressionConstructionError}
use Rattle.cedar_expr_trees.specs.declared.err.ExpressionConstructionError.TheVariants.{OutOfMemory, DuplicateKey}
use Rattle.cedar_expr_trees.specs.declared.expr.Expr.{Expr}

names_kept : (es : List (RcStr Global × Expr Unit)) → map (λ (p : Text × Tree). p.0) (named (field_trees {T = Unit} es)) ≡ map (λ (p : Text × Expr Unit). p.0) (named es)
names_kept [] = refl
names_kept (e ∷ es) = ap (λ ns. rc_str_bytes e.0 ∷ ns) (names_kept es)

-- they are those of the pairs of names and trees
pub repeats_alike : (es : List (RcStr Global × Expr Unit)) (ps : List (Text × Tree)) → named (field_trees {T = Unit} es) ≡ ps → repeated_name ps ≡ repeated_name (named es)
repeats_alike es ps e = sym (ap repeated_name e) ∙ ap (repeated bytes_eq) (names_kept es)

alike : (es : List (RcStr Global × Expr Unit)) (ps : List (Text × Tree)) (x : ExpressionConstructionError) → named (field_trees {T = Unit} es) ≡ ps → RefusesRecord (named es) x → RefusesRecord ps x
alike es ps OutOfMemory e h = tt
alike es ps (DuplicateKey d) e h = (repeats_alike es ps e ∙ h.0, h.1)

-- what is refused of the one is refused of the other
pub refused_alike : {A : Type 0} (es : List (RcStr Global × Expr Unit)) (ps : List (Text × Tree)) (r : Result A ExpressionConstructionError) → named (field_trees {T = Unit} es) ≡ ps → IfErr r (RefusesRecord (named es)) → IfErr r (RefusesRecord ps)
refused_alike es ps (Ok a) e h = tt
refused_alike es ps (Err x) e h = alike es ps x e h
