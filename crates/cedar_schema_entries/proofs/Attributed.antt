-- The attributes that are kept are those of the kind.
use Rattle.std.proofs.Common.{◌≡◌, true, refl, sym, ap, ◌∙◌}
use Rattle.cedar_schema_model.specs.Types as model
use Rattle.cedar_schema_model.specs.Types.{no_attributes, attribute}
use Rattle.cedar_schema_model.specs.Conforming.{of_kind, attributes_at}
use Rattle.cedar_schema_entries.specs.Kinds.{kind_with, are_none, are_of_kind}
use Rattle.cedar_schema_entries.specs.declared.entity_kinds.ValidatorEntityTypeKind.{ValidatorEntityTypeKind}
use Rattle.cedar_schema_entries.specs.declared.entity_kinds.ValidatorEntityTypeKind.TheVariants.{Standard, Enum, External}

none : (as_ : model.Attributes) → are_none as_ ≡ true → as_ ≡ no_attributes
none no_attributes h = refl
none (attribute n t r as_) h = absurd (cc)

pub its_attributes : (as_ : model.Attributes) (k : ValidatorEntityTypeKind) → are_of_kind as_ k ≡ true → as_ ≡ attributes_at (of_kind (kind_with as_ k))
its_attributes as_ (Standard s) h = refl
its_attributes as_ (Enum ids) h = none as_ h
its_attributes as_ External h = none as_ h
