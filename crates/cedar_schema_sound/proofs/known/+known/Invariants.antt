use Rattle.std.proofs.Common.{◌≡◌}
use Rattle.cedar_schema_types.specs.Types.{attributes_of}
use Rattle.cedar_schema_types.specs.AttributeLists.{attributes_from, declared_pairs}
use Rattle.cedar_schema_built.specs.Views.{schema_kept}
use Rattle.cedar_schema_model.specs.Unsound.{attributes_fault}
use Rattle.cedar_schema_sound.specs.Views.{names_known}
use Rattle.cedar_schema_sound.proofs.known.+known.Given as goal

abbrev pub invariant-unknown_in_attributes-loop-name : goal.invariant-unknown_in_attributes-loop-name
invariant-unknown_in_attributes-loop-name l =
    attributes_fault (names_known l.extension_types) (schema_kept l.schema) (attributes_from (declared_pairs l._name-iterator)) ≡ attributes_fault (names_known l.extension_types) (schema_kept l.schema) (attributes_of l.attrs)
