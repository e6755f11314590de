-- The field of a name is looked for, and what is said of it is that of the first of that name.
use Rattle.std.proofs.Common.{◌≡◌, ◌<◌, ◌≤◌, ℕ, suc, List, [], ◌∷◌, Bool, true, false, Option, Some, None, length, cond, refl, sym, ap, ◌∙◌, arith}
use denote.Param.Weighed.{most}
use Rattle.std.specs.Prelude.{if◌then◌else◌}
use Rattle.std.specs.List.{IsAmong}
use Rattle.std.specs.Map.{lookup, values_of}
use Rattle.std.specs.Option.{option_map_or}
use Rattle.std.specs.Rc.{rc_str_bytes}
use Rattle.std.specs.Str.{bytes_eq}
use Rattle.std.specs.declared.alloc.Global.{Global}
use Rattle.std.specs.declared.rc.RcStr.{RcStr}
use Rattle.cedar_expr_model.specs.Name.{Text}
use Rattle.cedar_expr_trees.specs.declared.expr.Expr.{Expr, size-Expr}
use Rattle.cedar_schema_types.specs.declared.types.Type.{«Type» as CodeType}
use Rattle.cedar_typechecker_model.specs.Rules.{Setting}
use Rattle.cedar_typechecker_levels.specs.InRows.{Fields, steps_of, reached_of, steps_in, reached_in}

abbrev Typed : Type 0
Typed = Expr (Option CodeType)

-- the first of this name
module _ (a : Text) where
  abbrev pub at_name : Fields → Option Typed
  at_name es = lookup (λ k. bytes_eq a (rc_str_bytes k)) es

  pub record FoundFrom (all left : Fields) : Type 0 where
    pub is : at_name left ≡ at_name all

  pub found_on : (all left later : Fields) (k : RcStr Global) (e : Typed) → FoundFrom all left → left ≡ (k, e) ∷ later → bytes_eq a (rc_str_bytes k) ≡ false → FoundFrom all later
  found_on all left later k e was l b = record { is = sym (ap (λ (c : Bool). cond c (Some e) (at_name later)) b) ∙ ap at_name (sym l) ∙ was.is }

  pub found_here : (all left later : Fields) (k : RcStr Global) (e : Typed) → FoundFrom all left → left ≡ (k, e) ∷ later → bytes_eq a (rc_str_bytes k) ≡ true → Some e ≡ at_name all
  found_here all left later k e was l b = sym (ap (λ (c : Bool). cond c (Some e) (at_name later)) b) ∙ ap at_name (sym l) ∙ was.is

  pub found_end : (all left : Fields) → FoundFrom all left → left ≡ [] → None ≡ at_name all
  found_end all left was l = ap at_name (sym l) ∙ was.is

  -- it is one of the fields
  pub found_among : (es : Fields) (x : Typed) → Some x ≡ at_name es → IsAmong (values_of es) x
  found_among [] x h = absurd (cc)
  found_among (e ∷ es) x h = here (bytes_eq a (rc_str_bytes e.0)) h (found_among es x)
    where
      here : (b : Bool) → Some x ≡ cond b (Some e.1) (at_name es) → (Some x ≡ at_name es → IsAmong (values_of es) x) → IsAmong (e.1 ∷ values_of es) x
      here true is rest = (0, (omega arith, ap (λ o. option_map_or (λ (y : Typed). y) o x) is))
      here false is rest = let m = rest is in let below = m.1.0 in (suc m.0, (omega arith, m.1.1))

  -- what is said of the fields is what is said of it, or of none
  pub steps_found : (path : List Text) (es : Fields) (o : Option Typed) → o ≡ at_name es → option_map_or (steps_of path) o 0 ≡ steps_in a path es
  steps_found path [] o h = ap (λ p. option_map_or (steps_of path) p 0) h
  steps_found path (e ∷ es) o h = ap (λ p. option_map_or (steps_of path) p 0) h ∙ here (bytes_eq a (rc_str_bytes e.0)) (steps_found path es (at_name es) refl)
    where
      here : (b : Bool) → option_map_or (steps_of path) (at_name es) 0 ≡ steps_in a path es → option_map_or (steps_of path) (cond b (Some e.1) (at_name es)) 0 ≡ (if b then steps_of path e.1 else steps_in a path es)
      here true rest = refl
      here false rest = rest

  pub reached_found : (n : ℕ) (s : Setting) (path : List Text) (es : Fields) (o : Option Typed) → o ≡ at_name es → option_map_or (reached_of n s path) o [] ≡ reached_in n s a path es
  reached_found n s path [] o h = ap (λ p. option_map_or (reached_of n s path) p []) h
  reached_found n s path (e ∷ es) o h = ap (λ p. option_map_or (reached_of n s path) p []) h ∙ here (bytes_eq a (rc_str_bytes e.0)) (reached_found n s path es (at_name es) refl)
    where
      here : (b : Bool) → option_map_or (reached_of n s path) (at_name es) [] ≡ reached_in n s a path es → option_map_or (reached_of n s path) (cond b (Some e.1) (at_name es)) [] ≡ (if b then reached_of n s path e.1 else reached_in n s a path es)
      here true rest = refl
      here false rest = rest

-- what is left of fields holds nothing greater than all do
pub later_are_smaller : (all left later : Fields) (k : RcStr Global) (e : Typed) → most (size-Expr (Option CodeType)) (values_of left) ≤ most (size-Expr (Option CodeType)) (values_of all) → left ≡ (k, e) ∷ later → most (size-Expr (Option CodeType)) (values_of later) ≤ most (size-Expr (Option CodeType)) (values_of all)
later_are_smaller all left later k e h is = let same = ap (λ es. most (size-Expr (Option CodeType)) (values_of es)) is in omega arith

pub fewer : {A : Type 0} (left later : List A) (x : A) → left ≡ x ∷ later → length later < length left
fewer left later x is = let same = ap length is in omega arith
