-- The walk over the fields of a record: what was found so far, and then what the rest has.
use Rattle.std.proofs.Common.{◌≡◌, ℕ, List, [], ◌∷◌, ◌++◌, Bool, true, false, Option, refl, sym, ap, ◌∙◌, subst, append_assoc, append-nil}
use Rattle.std.specs.Prelude.{OnOk, Result, ◌&&◌, not, if◌then◌else◌}
use Rattle.std.specs.List.{flat_map}
use Rattle.std.specs.Map.{values_of}
use Rattle.std.specs.Rc.{rc_str_bytes}
use Rattle.std.specs.Str.{bytes_eq}
use Rattle.std.specs.declared.alloc.Global.{Global}
use Rattle.std.specs.declared.rc.RcStr.{RcStr}
use Rattle.cedar_expr_model.specs.Name.{Text}
use Rattle.cedar_expr_trees.specs.declared.expr.Expr.{Expr}
use Rattle.cedar_schema_types.specs.declared.types.Type.{«Type» as CodeType}
use Rattle.cedar_typechecker_model.specs.Levels.{Violation}
use Rattle.cedar_typechecker_model.specs.Rules.{Setting}
use Rattle.cedar_typechecker_levels.specs.InRows.{Fields, reported_of, others_in}

-- one part, and then another
pub goes_on : {V R E : Type 0} (r : Result R E) (old mid new us vs ws : List V) → mid ≡ old ++ us → us ++ vs ≡ ws → OnOk r (new ≡ mid ++ vs) → OnOk r (new ≡ old ++ ws)
goes_on r old mid new us vs ws m w h = subst (λ xs. OnOk r (new ≡ xs)) (ap (λ xs. xs ++ vs) m ∙ append_assoc old us vs ∙ ap (λ xs. old ++ xs) w) h

pub goes : {V R E : Type 0} (r : Result R E) (old new vs ws : List V) → vs ≡ ws → OnOk r (new ≡ old ++ vs) → OnOk r (new ≡ old ++ ws)
goes r old new vs ws w h = subst (λ xs. OnOk r (new ≡ old ++ xs)) w h

-- all fields are reported
module _ (n : ℕ) (s : Setting) where
  abbrev of_all : Fields → List Violation
  of_all es = flat_map (reported_of n s) (values_of es)

  pub fields_on : (whole : List Violation) (left later : Fields) (now new : List Violation) (k : RcStr Global) (e : Expr (Option CodeType)) → whole ≡ now ++ of_all left → left ≡ (k, e) ∷ later → new ≡ now ++ reported_of n s e → whole ≡ new ++ of_all later
  fields_on whole left later now new k e was l m =
      was ∙ ap (λ es. now ++ of_all es) l ∙ sym (append_assoc now (reported_of n s e) (of_all later)) ∙ ap (λ vs. vs ++ of_all later) (sym m)

  pub fields_end : (whole : List Violation) (left : Fields) (now : List Violation) → whole ≡ now ++ of_all left → left ≡ [] → now ≡ whole
  fields_end whole left now was l = sym (was ∙ ap (λ es. now ++ of_all es) l ∙ append-nil now)

module _ (n : ℕ) (s : Setting) (a : Text) where
  -- what is left of the fields but the first of this name, which may be past
  abbrev pub left_over : Bool → Fields → List Violation
  left_over true es = flat_map (reported_of n s) (values_of es)
  left_over false es = others_in n s a es

  pub record OthersSoFar (all : Fields) (old now : List Violation) (past : Bool) (left : Fields) : Type 0 where
    pub is : now ++ left_over past left ≡ old ++ others_in n s a all

  pub others_start : (all : Fields) (old : List Violation) → OthersSoFar all old old false all
  others_start all old = record { is = refl }

  -- the field of this name is passed over
  others_pass : (all left later : Fields) (old now : List Violation) (past : Bool) (k : RcStr Global) (e : Expr (Option CodeType)) → OthersSoFar all old now past left → past ≡ false → left ≡ (k, e) ∷ later → bytes_eq a (rc_str_bytes k) ≡ true → OthersSoFar all old now true later
  others_pass all left later old now past k e was p l b = record {
    is =
        ap (λ vs. now ++ vs) (sym (ap (λ (c : Bool). if c then flat_map (reported_of n s) (values_of later) else (reported_of n s e ++ others_in n s a later)) b))
        ∙ (λ i. now ++ left_over (sym p i) (sym l i))
        ∙ was.is;
  }

  -- any other is reported
  others_report : (all left later : Fields) (old now new : List Violation) (past : Bool) (k : RcStr Global) (e : Expr (Option CodeType)) → OthersSoFar all old now past left → past ≡ false → left ≡ (k, e) ∷ later → bytes_eq a (rc_str_bytes k) ≡ false → new ≡ now ++ reported_of n s e → OthersSoFar all old new past later
  others_report all left later old now new past k e was p l b m = record {
    is =
        (λ i. m i ++ left_over (p i) later)
        ∙ append_assoc now (reported_of n s e) (left_over false later)
        ∙ ap (λ vs. now ++ vs) (sym (ap (λ (c : Bool). if c then flat_map (reported_of n s) (values_of later) else (reported_of n s e ++ others_in n s a later)) b))
        ∙ (λ i. now ++ left_over (sym p i) (sym l i))
        ∙ was.is;
  }

  others_past : (all left later : Fields) (old now new : List Violation) (past : Bool) (k : RcStr Global) (e : Expr (Option CodeType)) → OthersSoFar all old now past left → past ≡ true → left ≡ (k, e) ∷ later → new ≡ now ++ reported_of n s e → OthersSoFar all old new past later
  others_past all left later old now new past k e was p l m = record {
    is =
        (λ i. m i ++ left_over (p i) later)
        ∙ append_assoc now (reported_of n s e) (left_over true later)
        ∙ (λ i. now ++ left_over (sym p i) (sym l i))
        ∙ was.is;
  }

  -- the first of this name is skipped, and each but that reported
  pub others_skip : (all left later : Fields) (old now : List Violation) (past : Bool) (k : RcStr Global) (e : Expr (Option CodeType)) → OthersSoFar all old now past left → left ≡ (k, e) ∷ later → (not past && bytes_eq a (rc_str_bytes k)) ≡ true → OthersSoFar all old now true later
  others_skip all left later old now true k e was l b = absurd (cc)
  others_skip all left later old now false k e was l b = others_pass all left later old now false k e was refl l b

  pub others_on : (all left later : Fields) (old now new : List Violation) (past : Bool) (k : RcStr Global) (e : Expr (Option CodeType)) → OthersSoFar all old now past left → left ≡ (k, e) ∷ later → (not past && bytes_eq a (rc_str_bytes k)) ≡ false → new ≡ now ++ reported_of n s e → OthersSoFar all old new past later
  others_on all left later old now new true k e was l b m = others_past all left later old now new true k e was refl l m
  others_on all left later old now new false k e was l b m = others_report all left later old now new false k e was refl l b m

  none_left : (past : Bool) → left_over past [] ≡ []
  none_left true = refl
  none_left false = refl

  pub others_end : (all left : Fields) (old now : List Violation) (past : Bool) → OthersSoFar all old now past left → left ≡ [] → now ≡ old ++ others_in n s a all
  others_end all left old now past was l = sym (append-nil now) ∙ ap (λ vs. now ++ vs) (sym (none_left past) ∙ ap (left_over past) (sym l)) ∙ was.is
