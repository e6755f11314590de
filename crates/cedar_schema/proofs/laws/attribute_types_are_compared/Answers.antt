-- The laws of the derived order and hash, and the equality by the model.
use Rattle.std.proofs.Common.{refl, sym, ◌∙◌}
use Rattle.cedar_schema_types.specs.contracts.types.AttributeTypeOrd.TheImpl.Laws as order_laws
use Rattle.cedar_schema_types.specs.contracts.types.AttributeTypeHash.TheImpl.Laws as hash_laws
use Rattle.cedar_schema.proofs.Compared.{declared_decide, no_difference}
use Rattle.cedar_schema.proofs.laws.attribute_types_are_compared.Goals as goal

pub returns-clause-equality : goal.returns-clause-equality
returns-clause-equality c = declared_decide

pub returns-clause-order : goal.returns-clause-order
returns-clause-order c = order_laws.matches_eq-law

pub returns-clause-hash : goal.returns-clause-hash
returns-clause-hash c = hash_laws.respects_eq-law

-- the two are the same of the model
pub returns-clause-equal_places : goal.returns-clause-equal_places
returns-clause-equal_places c a l = (declared_decide a (record a { loc = l })).1 refl

pub returns-clause-ordered_places : goal.returns-clause-ordered_places
returns-clause-ordered_places c a l = no_difference _ (sym (order_laws.matches_eq-law a (record a { loc = l })) ∙ (declared_decide a (record a { loc = l })).1 refl)

pub returns-clause-hashed_places : goal.returns-clause-hashed_places
returns-clause-hashed_places c a l = hash_laws.respects_eq-law a (record a { loc = l }) ((declared_decide a (record a { loc = l })).1 refl)
