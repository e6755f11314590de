-- Rows of typed expressions and fields, by the types of each.
use Rattle.std.proofs.Common.{◌≡◌, ◌&&◌, Bool, true, false, List, [], ◌∷◌, map, Option, Some, None, option_map, option_and_then, is_none, Result, refl, sym, ap, ◌∙◌, subst}
use Rattle.std.specs.Prelude.{if◌then◌else◌, IfOk}
use Rattle.std.specs.Str.{bytes_eq}
use Rattle.std.specs.Ordering.{is_lt}
use Rattle.std.specs.declared.cmp.Ordering.TheVariants.{Less}
use Rattle.std.proofs.lemmas.Cmp.{tied_itself}
use Rattle.std.proofs.lemmas.Slice.Eq.{bytes_eq-Decides}
use Rattle.std.specs.Rc.{rc_str_bytes}
use Rattle.std.specs.declared.alloc.Global.{Global}
use Rattle.std.specs.declared.rc.RcStr.{RcStr}
use Rattle.cedar_expr_model.specs.Name.{Text}
use Rattle.cedar_expr_model.specs.Builder.{trees, tree_fields}
use Rattle.cedar_expr_model.specs.Lists.{all_given}
use Rattle.cedar_expr_model.specs.Tree.{Tree, record_literal}
use Rattle.cedar_expr_trees.specs.Trees.{tree_of, named, field_trees}
use Rattle.cedar_expr_names.specs.declared.loc.Loc.{Loc}
use Rattle.cedar_expr_trees.specs.declared.expr.Expr.{Expr}
use Rattle.cedar_expr_trees.specs.declared.expr.ExprKind.{ExprKind}
use Rattle.cedar_expr_model.specs.Lists.{rises}
use Rattle.cedar_expr_model.specs.Order.{text_cmp}
use Rattle.cedar_expr_model.specs.Records.{names_rise, in_order}
use Rattle.cedar_expr_model.proofs.Lists.{both_hold}
use Rattle.cedar_expr_model.proofs.Linear.{text_total}
use Rattle.cedar_expr_model.proofs.Ordering.{in_order_stays}
use Rattle.cedar_expr_model.proofs.Rising.{less_is, is_less}
use Rattle.cedar_schema_model.specs.Types.{Ty, record_type, is_closed, Declared, attribute_named}
use Rattle.cedar_schema_types.specs.AttributeLists.{attributes_from}
use Rattle.cedar_schema_types.specs.declared.types.Type.{«Type» as CodeType}
use Rattle.cedar_typechecker_model.specs.Facts.{no_facts}
use Rattle.cedar_typechecker_model.specs.Rules.{has_names_once, record_literal_type}
use Rattle.cedar_typechecker_model.specs.Typing.{plain}
use Rattle.cedar_typechecker_model.specs.Typed.{Typed, Row, no_row, row_with, FieldRow, no_field_row, field_row_with, record_typed, noted}
use Rattle.cedar_typechecker_answers.specs.Marked.{type_in, marks_of, rows}
use Rattle.cedar_typechecker_answers.specs.Answers.{typed_at, seen}
use Rattle.cedar_typechecker_answers.specs.declared.answer.TypecheckAnswer.{TypecheckAnswer}
use Rattle.cedar_typechecker_operators.specs.Rows.{then_row, then_fields, type_at, required_at}

abbrev typed_expr : ExprKind (Option CodeType) → Option Loc → Option CodeType → Expr (Option CodeType)
typed_expr k l d = record { expr_kind = k; source_loc = l; «data» = d }

-- a row by the types of its expressions
abbrev pub row_of : List (Expr (Option CodeType)) → List Ty → Row
row_of es ts = record { types = ts; at = trees (map tree_of es); below = rows (map marks_of es) }

one_typed : (k : ExprKind (Option CodeType)) (l : Option Loc) (d : Option CodeType) (es : List (Expr (Option CodeType))) (o : Option (List Ty))
    → option_and_then (λ x. option_map (row_with x) (option_map (row_of es) o)) (typed_at (typed_expr k l d) no_facts d) ≡ option_map (row_of (typed_expr k l d ∷ es)) (option_and_then (λ y. option_map (λ ys. y ∷ ys) o) (type_in d))
one_typed k l None es o = refl
one_typed k l (Some t) es None = refl
one_typed k l (Some t) es (Some ts) = refl

pub row_is : (es : List (Expr (Option CodeType))) → then_row es (Some no_row) ≡ option_map (row_of es) (all_given type_at es)
row_is [] = refl
row_is (e ∷ es) = ap (λ o. option_and_then (λ x. option_map (row_with x) o) (typed_at e no_facts e.«data»)) (row_is es) ∙ one_typed e.expr_kind e.source_loc e.«data» es (all_given type_at es)

-- fields by what they declare
abbrev pub fields_of : List (RcStr Global × Expr (Option CodeType)) → List (Text × Declared) → FieldRow
fields_of es ds = record { attributes = attributes_from ds; at = tree_fields (named (field_trees es)); below = rows (map (λ e. marks_of e.1) es) }

one_field : (a : RcStr Global) (k : ExprKind (Option CodeType)) (l : Option Loc) (d : Option CodeType) (es : List (RcStr Global × Expr (Option CodeType))) (o : Option (List (Text × Declared)))
    → option_and_then (λ x. option_map (field_row_with (rc_str_bytes a) x) (option_map (fields_of es) o)) (typed_at (typed_expr k l d) no_facts d) ≡ option_map (fields_of ((a, typed_expr k l d) ∷ es)) (option_and_then (λ y. option_map (λ ys. y ∷ ys) o) (required_at (a, typed_expr k l d)))
one_field a k l None es o = refl
one_field a k l (Some t) es None = refl
one_field a k l (Some t) es (Some ds) = refl

pub fields_are : (es : List (RcStr Global × Expr (Option CodeType))) → then_fields es (Some no_field_row) ≡ option_map (fields_of es) (all_given required_at es)
fields_are [] = refl
fields_are (e ∷ es) = ap (λ o. option_and_then (λ x. option_map (field_row_with (rc_str_bytes e.0) x) o) (typed_at e.1 no_facts e.1.«data»)) (fields_are es) ∙ one_field e.0 e.1.expr_kind e.1.source_loc e.1.«data» es (all_given required_at es)

-- where one of the row has no type, nothing follows from it
nothing : {A B : Type 0} (f : A → B) (o : Option A) → None ≡ option_map f o → o ≡ None
nothing f None h = refl
nothing f (Some a) h = absurd (cc)

pub row_lacks : {A B : Type 0} (f : List Ty → B) (g : Row → Option A) (es : List (Expr (Option CodeType))) → None ≡ option_map f (all_given type_at es) → None ≡ option_and_then g (then_row es (Some no_row))
row_lacks f g es h = ap (λ o. option_and_then g (option_map (row_of es) o)) (sym (nothing f (all_given type_at es) h)) ∙ ap (option_and_then g) (sym (row_is es))

pub fields_lack : {A : Type 0} (g : FieldRow → Option A) (es : List (RcStr Global × Expr (Option CodeType))) → None ≡ all_given required_at es → None ≡ option_and_then g (then_fields es (Some no_field_row))
fields_lack g es h = ap (λ o. option_and_then g (option_map (fields_of es) o)) h ∙ ap (option_and_then g) (sym (fields_are es))

-- the type by those of the row
module _ (rule : List Ty → Option Ty) (t : Option Ty) (es : List (Expr (Option CodeType))) (whole : Tree) (next : Row → Option Typed) (is : (ts : List Ty) → next (row_of es ts) ≡ noted whole (rows (map marks_of es)) (plain (rule ts))) where
  by_types : (o : Option (List Ty)) → all_given type_at es ≡ o → Some t ≡ option_map rule o → noted whole (rows (map marks_of es)) (plain t) ≡ option_and_then next (then_row es (Some no_row))
  by_types None e h = absurd (cc)
  by_types (Some ts) e h =
      let same : t ≡ rule ts = cc in
      ap (λ u. noted whole (rows (map marks_of es)) (plain u)) same
      ∙ sym (is ts)
      ∙ ap (λ o. option_and_then next (option_map (row_of es) o)) (sym e)
      ∙ ap (option_and_then next) (sym (row_is es))

  pub row_has : Some t ≡ option_map rule (all_given type_at es) → noted whole (rows (map marks_of es)) (plain t) ≡ option_and_then next (then_row es (Some no_row))
  row_has h = by_types (all_given type_at es) refl h

-- names that rise stand once
abbrev is_first : Text → List (Text × Declared) → Bool
is_first a [] = true
is_first a (p ∷ ps) = is_lt (text_cmp a p.0)

parts : (p : Text × Declared) (ps : List (Text × Declared)) → names_rise (p ∷ ps) ≡ true → (is_first p.0 ps ≡ true) × (names_rise ps ≡ true)
parts p [] h = (refl, refl)
parts p (q ∷ ps) h = both_hold (is_lt (text_cmp p.0 q.0)) (names_rise (q ∷ ps)) h

first_too : (c a : Text) (qs : List (Text × Declared)) → text_cmp c a ≡ Less → is_first a qs ≡ true → is_first c qs ≡ true
first_too c a [] e k = refl
first_too c a (r ∷ qs) e k = is_less (text_cmp c r.0) (text_total.trans c a r.0 e (less_is (text_cmp a r.0) k))

other : (c a : Text) (b : Bool) → bytes_eq c a ≡ b → text_cmp c a ≡ Less → b ≡ false
other c a true e f = let q = tied_itself text_total a in let same : c ≡ a = (bytes_eq-Decides c a).0 e in let less : text_cmp a a ≡ Less = ap (λ x. text_cmp x a) (sym same) ∙ f in absurd (cc)
other c a false e f = refl

absent : (c : Text) (ps : List (Text × Declared)) → is_first c ps ≡ true → names_rise ps ≡ true → attribute_named c (attributes_from ps) ≡ None
absent c [] f h = refl
absent c (p ∷ ps) f h =
    let q = parts p ps h in
    let e : text_cmp c p.0 ≡ Less = less_is (text_cmp c p.0) f in
    ap (λ b. if b then Some (record { type = p.1.type; is_required = p.1.is_required }) else attribute_named c (attributes_from ps)) (other c p.0 (bytes_eq c p.0) refl e)
    ∙ absent c ps (first_too c p.0 ps e q.0) q.1

rising_once : (ps : List (Text × Declared)) → names_rise ps ≡ true → has_names_once (attributes_from ps) ≡ true
rising_once [] h = refl
rising_once (p ∷ ps) h =
    let q = parts p ps h in
    (λ i. is_none (absent p.0 ps q.0 q.1 i) && rising_once ps q.1 i)

-- what fields declare has their names
module _ (e : RcStr Global × Expr (Option CodeType)) (es : List (RcStr Global × Expr (Option CodeType))) (ds : List (Text × Declared)) (later : (rest : List (Text × Declared)) → all_given required_at es ≡ Some rest → map (λ p. p.0) rest ≡ map (λ p. p.0) (named es)) where
  abbrev given : Option Ty → Option (List (Text × Declared)) → Option (List (Text × Declared))
  given t o = option_and_then (λ y. option_map (λ ys. y ∷ ys) o) (option_map (λ u. (rc_str_bytes e.0, record { type = u; is_required = true })) t)

  by_type : (t : Option Ty) → type_at e.1 ≡ t → (o : Option (List (Text × Declared))) → all_given required_at es ≡ o → all_given required_at (e ∷ es) ≡ Some ds → map (λ p. p.0) ds ≡ map (λ p. p.0) (named (e ∷ es))
  by_type None a o b h = let whole : given None o ≡ Some ds = (λ i. given (sym a i) (sym b i)) ∙ h in absurd (cc)
  by_type (Some t) a None b h = let whole : given (Some t) None ≡ Some ds = (λ i. given (sym a i) (sym b i)) ∙ h in absurd (cc)
  by_type (Some t) a (Some rest) b h =
      let whole : given (Some t) (Some rest) ≡ Some ds = (λ i. given (sym a i) (sym b i)) ∙ h in
      let same : ds ≡ (rc_str_bytes e.0, record { type = t; is_required = true }) ∷ rest = cc in
      ap (map (λ p. p.0)) same ∙ ap (λ ns. rc_str_bytes e.0 ∷ ns) (later rest b)

names_given : (es : List (RcStr Global × Expr (Option CodeType))) (ds : List (Text × Declared)) → all_given required_at es ≡ Some ds → map (λ p. p.0) ds ≡ map (λ p. p.0) (named es)
names_given [] ds h = let same : ds ≡ [] = cc in ap (map (λ p. p.0)) same
names_given (e ∷ es) ds h = by_type e es ds (λ rest b. names_given es rest b) (type_at e.1) refl (all_given required_at es) refl h

pub fields_have : (es : List (RcStr Global × Expr (Option CodeType))) (ds : List (Text × Declared)) (u : Ty) → names_rise (named es) ≡ true → Some ds ≡ all_given required_at es → u ≡ record_type (attributes_from (in_order ds)) is_closed
    → noted (record_literal (tree_fields (named (field_trees es)))) (rows (map (λ e. marks_of e.1) es)) (plain (Some u)) ≡ option_and_then record_typed (then_fields es (Some no_field_row))
fields_have es ds u rising given is =
    let rise : names_rise ds ≡ true = ap (rises text_cmp) (names_given es ds (sym given)) ∙ rising in
    let whole : Some u ≡ record_literal_type (attributes_from ds) = ap Some (is ∙ ap (λ ps. record_type (attributes_from ps) is_closed) (in_order_stays ds rise)) ∙ ap (λ b. if b then Some (record_type (attributes_from ds) is_closed) else None) (sym (rising_once ds rise)) in
    ap (λ o. noted (record_literal (tree_fields (named (field_trees es)))) (rows (map (λ e. marks_of e.1) es)) (plain o)) whole
    ∙ ap (λ o. option_and_then record_typed (option_map (fields_of es) o)) given
    ∙ ap (option_and_then record_typed) (sym (fields_are es))

-- what an answer is, by what it is equal to
pub answered : {E : Type 0} (r : Result TypecheckAnswer E) (o p : Option Typed) → o ≡ p → IfOk r (λ a. seen a ≡ o) → IfOk r (λ a. seen a ≡ p)
answered r o p e h = subst (λ q. IfOk r (λ a. seen a ≡ q)) e h
