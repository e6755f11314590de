-- The laws of the derived order, equality and hash of types.
use Rattle.std.proofs.Common.{sym, ◌∙◌}
use Rattle.cedar_schema_types.specs.declared.types.AttributeType.{AttributeType}
use Rattle.cedar_schema_types.specs.contracts.types.TypeOrd.TheImpl.Laws as order_laws
use Rattle.cedar_schema_types.specs.contracts.types.TypeHash.TheImpl.Laws as hash_laws
use Rattle.cedar_schema_types.specs.contracts.types.AttributeTypePartialEq.TheImpl.Laws as attribute_laws
use Rattle.cedar_schema_types.specs.contracts.types.AttributeTypeEq.TheImpl.Laws as equality_laws
use Rattle.cedar_schema_types.specs.Types.{type_of}
use Rattle.cedar_schema.proofs.EqualTypes.{equal_types}
use Rattle.cedar_schema.proofs.SameTypes.{same_type-Decides}
use Rattle.cedar_schema.proofs.laws.types_are_compared.Goals as goal

-- both ways by the test of the model's types
pub returns-clause-equality : goal.returns-clause-equality
returns-clause-equality c = λ a b. (λ e. (same_type-Decides (type_of a) (type_of b)).0 (sym (equal_types a b) ∙ e), λ e. equal_types a b ∙ (same_type-Decides (type_of a) (type_of b)).1 e)

pub returns-clause-order : goal.returns-clause-order
returns-clause-order c = order_laws.matches_eq-law

pub returns-clause-hash : goal.returns-clause-hash
returns-clause-hash c = hash_laws.respects_eq-law

-- both are compared as the first with itself
pub returns-clause-places : goal.returns-clause-places
returns-clause-places c t r l m =
    let one : AttributeType = record { attr_type = t; is_required = r; loc = l } in
    let other : AttributeType = record { attr_type = t; is_required = r; loc = m } in
    attribute_laws.is one other ∙ sym (attribute_laws.is one one) ∙ equality_laws.laws-law.refl one
