-- What errors of evaluation keep.
-- Rule: partial evaluation (docs/RULES.md).
use Rattle.std.specs.Prelude.{◌≡◌, ℕ, List, ◌∷◌, [], map, length, Bool, true, false, Option, Some, None, is_some, codes, take}
use Rattle.std.specs.Map.{lookup, keys_of}
use Rattle.std.specs.Rc.{rc_str_bytes}
use Rattle.std.specs.Str.{bytes_eq}
use Rattle.cedar_expr_names.specs.Views.{uid_of}
use Rattle.cedar_expr_model.specs.Name.{Text, Name}
use Rattle.cedar_expr_model.specs.Uid.{Uid}
use Rattle.cedar_expr_model.specs.Made.{Made}
use Rattle.cedar_expr_model.specs.Names.{unqualified}
use Rattle.cedar_expr_model.specs.Substitution.{core_type_of}
use Rattle.cedar_expr_model.specs.Tree.{CoreType}
use Rattle.cedar_expr_model.specs.Value.{V}
use Rattle.cedar_expr_leaves.specs.declared.non_empty.NonEmpty.{NonEmpty}
use Rattle.cedar_expr_values.specs.Types.{core_of}
use Rattle.cedar_expr_values.specs.declared.types.Type.{«Type» as CoreKind}
use Rattle.cedar_store_model.specs.Outcome.{Fault}
use Rattle.cedar_store_model.specs.World.{Entity}
use Rattle.cedar_evaluator_model.specs.Scope.{Stop, stopped}
use Rattle.cedar_evaluator_model.specs.Steps.{errs}
use Rattle.cedar_evaluator_errors.specs.Outcomes.{is_memory, stop_or}
use Rattle.cedar_evaluator_errors.specs.declared.err.EvaluationError.{EvaluationError}
use Rattle.cedar_evaluator_errors.specs.declared.err.EvaluationError.TheVariants.{TypeError, EntityAttrDoesNotExist, RecordAttrDoesNotExist}

-- it is an error of this fault, or out of memory
abbrev pub StopsWith : Fault → EvaluationError → Type 0
StopsWith f e = (other : Stop) → is_memory e ≡ false → errs f ≡ stopped (stop_or other e)

-- the name of no type, which stands for that of any entity
abbrev pub any_entity : Name
any_entity = unqualified (codes "any_entity_type")

abbrev pub expected_types : NonEmpty CoreKind → List CoreType
expected_types ts = core_of ts.head ∷ map core_of ts.tail.items

-- the types that an error asks for, and the one that is there
abbrev pub types_of : EvaluationError → Option (List CoreType × CoreType)
types_of (TypeError e) = Some (expected_types e.expected, core_of e.actual)
types_of e = None

-- One of these types is asked for and the value is none of them, or it is out of memory.
abbrev pub AsksFor : List CoreType → V → EvaluationError → Type 0
AsksFor ts v e = is_memory e ≡ false → types_of e ≡ Some (ts, core_type_of v)

-- what an error keeps of an attribute or tag that is missing in an entity
pub record MissingPart : Type 0 where
  pub entity : Uid
  pub name : Text
  pub was_attribute : Bool
  pub exists_the_other_kind : Bool
  pub available : List Text
  pub total : ℕ

-- and of a field that is missing in a record
pub record MissingField : Type 0 where
  pub name : Text
  pub available : List Text
  pub total : ℕ

abbrev pub missing_part : EvaluationError → Option MissingPart
missing_part (EntityAttrDoesNotExist e) = Some (record { entity = uid_of e.entity.value; name = rc_str_bytes e.attr_or_tag; was_attribute = e.was_attr; exists_the_other_kind = e.exists_the_other_kind; available = map rc_str_bytes e.available_attrs_or_tags.items; total = e.total_attrs_or_tags })
missing_part e = None

abbrev pub missing_field : EvaluationError → Option MissingField
missing_field (RecordAttrDoesNotExist e) = Some (record { name = rc_str_bytes e.attr; available = map rc_str_bytes e.available_attrs.items; total = e.total_attrs })
missing_field e = None

-- an error keeps this, or it is out of memory
abbrev pub KeepsPart : MissingPart → EvaluationError → Type 0
KeepsPart p e = is_memory e ≡ false → missing_part e ≡ Some p

abbrev pub KeepsField : MissingField → EvaluationError → Type 0
KeepsField f e = is_memory e ≡ false → missing_field e ≡ Some f

-- at most the first five of these names
abbrev pub first_five : List Text → List Text
first_five ns = take 5 ns

abbrev pub has_name : {A : Type 0} → Text → List (Text × A) → Bool
has_name a ps = is_some (lookup (bytes_eq a) ps)

-- an attribute, and a tag, that is missing in the entity
abbrev pub lacked_attribute : Uid → Text → Entity Made → MissingPart
lacked_attribute u a e = record { entity = u; name = a; was_attribute = true; exists_the_other_kind = has_name a e.tags; available = first_five (keys_of e.attributes); total = length e.attributes }

abbrev pub lacked_tag : Uid → Text → Entity Made → MissingPart
lacked_tag u a e = record { entity = u; name = a; was_attribute = false; exists_the_other_kind = has_name a e.attributes; available = first_five (keys_of e.tags); total = length e.tags }

-- a field that is missing in a record of these names
abbrev pub lacked_field : Text → List Text → MissingField
lacked_field a ns = record { name = a; available = first_five ns; total = length ns }
