-- What is declared of an attribute, for the values of a type.
-- Rule: attributes of a type (docs/RULES.md).
use Rattle.std.specs.Prelude.{List, Bool, true, false, Option, None, is_some, map, option_map, option_and_then}
use Rattle.std.specs.List.{list_all, list_any}
use Rattle.cedar_expr_model.specs.Name.{Text, Name}
use Rattle.cedar_expr_model.specs.Lists.{all_given}
use Rattle.cedar_schema_model.specs.Types.{is_open, is_closed, Ty, never, any_entity, entity_types, record_type, Declared, attribute_named, permissive}
use Rattle.cedar_schema_model.specs.Schema.{Schema, type_named}
use Rattle.cedar_schema_model.specs.Join.{reduce_to_join}
use Rattle.cedar_schema_model.specs.Conforming.{of_kind, attributes_at}

-- what the schema declares of an attribute for one entity type: only a standard one has attributes
abbrev pub declared_of : Schema → Text → Name → Option Declared
declared_of s a n = option_and_then (λ e. attribute_named a (attributes_at (of_kind e.kind))) (type_named s n)

-- the permissive join of the types, required where all require it
abbrev pub declared_by_all : List Declared → Option Declared
declared_by_all ds = option_map (λ t. record { type = t; is_required = list_all (λ (d : Declared). d.is_required) ds }) (reduce_to_join permissive (map (λ (d : Declared). d.type) ds))

-- For a record what it lists, for entities what all members of the union declare.
abbrev pub lookup_attribute : Schema → Ty → Text → Option Declared
lookup_attribute s (record_type as_ o) a = attribute_named a as_
lookup_attribute s (entity_types ns) a = option_and_then declared_by_all (all_given (declared_of s a) ns)
lookup_attribute s t a = None

-- whether some value of the type may have the attribute
abbrev pub may_have_attribute : Schema → Ty → Text → Bool
may_have_attribute s never a = true
may_have_attribute s any_entity a = true
may_have_attribute s (record_type as_ is_open) a = true
may_have_attribute s (record_type as_ is_closed) a = is_some (attribute_named a as_)
may_have_attribute s (entity_types ns) a = list_any (λ n. is_some (declared_of s a n)) ns
may_have_attribute s t a = false
