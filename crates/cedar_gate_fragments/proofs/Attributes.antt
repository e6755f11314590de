-- Reading an object of attributes member by member.
use Rattle.std.proofs.Common.{◌≡◌, List, [], ◌∷◌, ◌++◌, map, Bool, true, false, Option, Some, None, option_map, Global, string_bytes, refl, ap, ◌∙◌, ℕ, ◌≤◌, subst, arith}
use denote.Param.Weighed.{most}
use Rattle.std.proofs.lemmas.List.{map-append}
use Rattle.std.specs.Option.{option_or}
use Rattle.std.specs.Rc.{rc_str_bytes}
use Rattle.std.specs.declared.rc.RcStr.{RcStr}
use Rattle.serde_json.proofs.Views.{Entry}
use Rattle.serde_json.specs.View.{view, members_view}
use Rattle.cedar_expr_model.specs.Name.{Text, Name}
use Rattle.cedar_expr_leaves.specs.Views.{raw_name_of}
use Rattle.cedar_expr_leaves.specs.declared.raw_name.RawName.{RawName}
use Rattle.cedar_schema_model.specs.Declarations.{TypeExpr, FieldExprs, no_field_exprs, field_expr}
use Rattle.cedar_schema_decl.specs.Forms.{TypeForm}
use Rattle.cedar_schema_decl.specs.Laws.{as_expr, as_exprs}
use Rattle.cedar_expr_values.specs.Fields.{by_text}
use Rattle.cedar_schema_decl.specs.Trees.{Rows, in_a_row, variant_step, record_step, type_step, attribute_step, attribute_form, attribute_rows, record_rows}
use Rattle.cedar_schema_decl.specs.declared.json_schema.Type.{«Type» as Written}
use Rattle.cedar_schema_decl.specs.declared.json_schema.TypeVariant.{TypeVariant}
use Rattle.cedar_schema_decl.specs.declared.json_schema.RecordType.{RecordType, RecordType-F, roll-RecordType, fold-roll-RecordType}
use Rattle.cedar_schema_decl.specs.declared.json_schema.TypeOfAttribute.{TypeOfAttribute}
use Rattle.cedar_gate_model.specs.Reading.{given}
use Rattle.cedar_gate_model.specs.ReadingSchema.{type_read, marked_read, attributes_in}
use Rattle.cedar_gate_fragments.specs.Types.{required_type, optional_type, attribute_read, attribute_seen}

-- attributes of the code: one more, and those of a record that is made
module _ {N A : Type 0} (f : N → A) where
  more_rows : (done : List (RcStr Global × TypeOfAttribute N)) (k : RcStr Global) (a : TypeOfAttribute N) → attribute_rows f (done ++ (k, a) ∷ []) ≡ attribute_rows f done ++ (rc_str_bytes k, attribute_form f a) ∷ []
  more_rows done k a = map-append (λ (e : RcStr Global × TypeOfAttribute N). by_text (e.0, attribute_form f e.1)) done ((k, a) ∷ [])

  twice : (es : List (RcStr Global × TypeOfAttribute N)) → map by_text (map (λ e. (e.0, attribute_form f e.1)) es) ≡ attribute_rows f es
  twice [] = refl
  twice (e ∷ es) = ap (λ rows. by_text (e.0, attribute_form f e.1) ∷ rows) (twice es)

  pub rolled : (x : RecordType-F N (TypeVariant N) (RecordType N) (Written N) (TypeOfAttribute N)) → record_rows f (roll-RecordType N x) ≡ attribute_rows f x.attributes.entries
  rolled x = fold-roll-RecordType N (TypeForm A) (Rows A) (TypeForm A) (TypeForm A × Bool) (variant_step f) record_step type_step attribute_step x ∙ twice x.attributes.entries

abbrev before_rows : Rows Name → FieldExprs → FieldExprs
before_rows [] fs = fs
before_rows (p ∷ ps) fs = field_expr p.0 (as_expr p.1.0) p.1.1 (before_rows ps fs)

-- the attributes that were read, before what is read of the rest
abbrev pub then_rows : Rows Name → Option FieldExprs → Option FieldExprs
then_rows rows rest = option_map (before_rows rows) rest

pub no_rows_before : (rest : Option FieldExprs) → then_rows [] rest ≡ rest
no_rows_before None = refl
no_rows_before (Some fs) = refl

pub all_rows : (rows : Rows Name) → before_rows rows no_field_exprs ≡ as_exprs (in_a_row rows)
all_rows [] = refl
all_rows (p ∷ ps) = ap (field_expr p.0 (as_expr p.1.0) p.1.1) (all_rows ps)

before_one_more : (rows : Rows Name) (a : Text) (f : TypeForm Name × Bool) (fs : FieldExprs) → before_rows (rows ++ (a, f) ∷ []) fs ≡ before_rows rows (field_expr a (as_expr f.0) f.1 fs)
before_one_more [] a f fs = refl
before_one_more (p ∷ ps) a f fs = ap (field_expr p.0 (as_expr p.1.0) p.1.1) (before_one_more ps a f fs)

one_more_row : (rows : Rows Name) (a : Text) (f : TypeForm Name × Bool) (rest : Option FieldExprs) → then_rows (rows ++ (a, f) ∷ []) rest ≡ then_rows rows (option_map (field_expr a (as_expr f.0) f.1) rest)
one_more_row rows a f None = refl
one_more_row rows a f (Some fs) = ap Some (before_one_more rows a f fs)

-- an attribute of this name, as what is read of it alone
as_attribute : (a : Text) (o p : Option TypeExpr) (rest : Option FieldExprs)
    → given (option_or (option_map (λ t. field_expr a t true) o) (option_map (λ t. field_expr a t false) p)) (λ f. option_map f rest)
    ≡ given (option_or (option_map required_type o) (option_map optional_type p)) (λ q. option_map (field_expr a q.0 q.1) rest)
as_attribute a None None rest = refl
as_attribute a None (Some t) rest = refl
as_attribute a (Some t) p rest = refl

pub start : (es : List (RcStr Global × TypeOfAttribute RawName)) (rest : Option FieldExprs) → es ≡ [] → then_rows (attribute_rows raw_name_of es) rest ≡ rest
start es rest e = rw e (no_rows_before rest)

pub next_attribute : (es : List (RcStr Global × TypeOfAttribute RawName)) (k : RcStr Global) (x : TypeOfAttribute RawName) (e : Entry) (left rest : List Entry) → rest ≡ e ∷ left → rc_str_bytes k ≡ string_bytes e.0 → attribute_read (view e.1) ≡ Some (attribute_seen x)
    → then_rows (attribute_rows raw_name_of (es ++ (k, x) ∷ [])) (attributes_in (members_view left)) ≡ then_rows (attribute_rows raw_name_of es) (attributes_in (members_view rest))
next_attribute es k x e left rest is h r =
    ap (λ rows. then_rows rows (attributes_in (members_view left))) (more_rows raw_name_of es k x)
    ∙ one_more_row (attribute_rows raw_name_of es) (rc_str_bytes k) (attribute_form raw_name_of x) (attributes_in (members_view left))
    ∙ rw (is, as_attribute (string_bytes e.0) (type_read (view e.1)) (marked_read (view e.1)) (attributes_in (members_view left)), r, h) refl

-- what is left of a list weighs no more than the whole
pub within_all : {A : Type 0} (f : A → ℕ) (left whole : List A) → left ≡ whole → most f left ≤ most f whole
within_all f left whole e = rw e (omega arith)

pub still_within : {A : Type 0} (f : A → ℕ) (x : A) (rest left whole : List A) → left ≡ x ∷ rest → most f left ≤ most f whole → most f rest ≤ most f whole
still_within f x rest left whole e h =
    let g : most f (x ∷ rest) ≤ most f whole = subst (λ ys. most f ys ≤ most f whole) e h in
    omega arith
