-- What the code's values are in the model: as they were made, and alone.
-- Rule: values and equality (docs/RULES.md).
use Rattle.std.specs.Prelude.{Bool, List, [], ◌∷◌, map, Option}
use Rattle.std.specs.List.{list_all}
use Rattle.std.specs.Rc.{rc_str_bytes}
use Rattle.std.specs.declared.alloc.Global.{Global}
use Rattle.std.specs.declared.rc.RcStr.{RcStr}
use Rattle.cedar_expr_model.specs.Name.{Text}
use Rattle.cedar_expr_model.specs.Value.{V, Vs}
use Rattle.cedar_expr_model.specs.Made as model
use Rattle.cedar_expr_model.specs.Made.{Made, made_prim, made_set, made_record, Mades, no_mades, MadeFields, no_made_fields, made_field}
use Rattle.cedar_expr_model.specs.Order.{value_cmp}
use Rattle.cedar_expr_model.specs.Canonical.{is_canonical}
use Rattle.cedar_expr_model.specs.Records.{in_order}
use Rattle.std.specs.declared.cmp.Ordering.{Ordering}
use Rattle.cedar_expr_leaves.specs.Literals.{literal_of}
use Rattle.cedar_expr_names.specs.declared.loc.Loc.{Loc}
use Rattle.cedar_expr_values.specs.Extension.{Extension, made_of_extension}
use Rattle.cedar_expr_values.specs.Rising.{in_rising}
use Rattle.cedar_expr_values.specs.declared.value.Value.{Value}
use Rattle.cedar_expr_values.specs.declared.value.ValueKind.{ValueKind}
use Rattle.cedar_expr_values.specs.declared.value.ValueKind.TheVariants.{Lit, Set as SetKind, Record as RecordKind, ExtensionValue}
use Rattle.cedar_expr_values.specs.declared.value.Set.{Set}
use Rattle.cedar_expr_values.specs.declared.value.Record.{Record}

-- members and fields in a row
abbrev pub made_list : List Made → Mades
made_list [] = no_mades
made_list (m ∷ ms) = model.made m (made_list ms)

abbrev pub made_fields : List (Text × Made) → MadeFields
made_fields [] = no_made_fields
made_fields (p ∷ ps) = made_field p.0 p.1 (made_fields ps)

-- made values in the order of what they are, whatever call made them
abbrev pub made_cmp : Made → Made → Ordering
made_cmp m n = value_cmp (model.bare m) (model.bare n)

-- the set of these as they were made: of equal ones the first
abbrev pub members_as_made : List Made → Mades
members_as_made ms = made_list (in_rising made_cmp ms)

-- the record of these as they were made: of a repeated name the last
abbrev pub record_as_made : List (Text × Made) → Made
record_as_made ps = made_record (made_fields (in_order ps))

-- A value, a kind, a set and a record as they were made.
abbrev pub mades : {X : Type 0} → (X → Extension) → Set X → Mades
mades seen s = s.0

abbrev pub fields_made : {X : Type 0} → (X → Extension) → Record X → MadeFields
fields_made seen r = r.0

abbrev pub made_kind : {X : Type 0} → (X → Extension) → ValueKind X → Made
made_kind seen (Lit l) = made_prim (literal_of l)
made_kind seen (SetKind s) = made_set s.0
made_kind seen (RecordKind r) = made_record r.0
made_kind seen (ExtensionValue x) = made_of_extension (seen x.value)

abbrev pub made : {X : Type 0} → (X → Extension) → Value X → Made
made seen v = made_kind seen v.kind

-- A value, a kind and a set without the calls that make extension values.
abbrev pub bare : {X : Type 0} → (X → Extension) → Value X → V
bare seen v = model.bare (made seen v)

abbrev pub bare_kind : {X : Type 0} → (X → Extension) → ValueKind X → V
bare_kind seen k = model.bare (made_kind seen k)

abbrev pub bares : {X : Type 0} → (X → Extension) → Set X → Vs
bares seen s = model.bares (mades seen s)

-- names with their values
abbrev pub made_pair : {X : Type 0} → (X → Extension) → RcStr Global × Value X → Text × Made
made_pair seen p = (rc_str_bytes p.0, made seen p.1)

abbrev pub bare_pair : {X : Type 0} → (X → Extension) → RcStr Global × Value X → Text × V
bare_pair seen p = (rc_str_bytes p.0, bare seen p.1)

-- the values alone
abbrev pub values_of : {X : Type 0} → List (RcStr Global × Value X) → List (Value X)
values_of ps = map (λ p. p.1) ps

-- each of these values is canonical
abbrev pub all_canonical : {X : Type 0} → (X → Extension) → List (Value X) → Bool
all_canonical seen vs = list_all is_canonical (map (bare seen) vs)

-- where a value stands in its source
abbrev pub place_of : {X : Type 0} → Value X → Option Loc
place_of v = v.loc

-- what a value is
abbrev pub kind_of : {X : Type 0} → Value X → ValueKind X
kind_of v = v.kind
