use Rattle.std.proofs.Common.{◌≡◌, ◌+◌, ◌*◌, ◌≤◌, map, length}
use Rattle.std.specs.Slice.Iter.{iter_rest}
use Rattle.cedar_expr_model.specs.Records.{fields}
use Rattle.cedar_expr_values.specs.Kept.{made_size, mades_size}
use Rattle.cedar_expr_values.specs.Values.{made, mades, bares, bare_pair}
use Rattle.cedar_schema_model.specs.HasType.{have_type, fields_fit}
use Rattle.cedar_schema_types.specs.Kinds.{openness_of}
use Rattle.cedar_schema_types.specs.Types.{type_of, attributes_of}
use Rattle.cedar_schema_joins.proofs.Fitting.{all_have, all_fit}
use Rattle.cedar_schema_joins.proofs.Smaller.{size_of, fields_size_of}
use Rattle.cedar_schema_joins.proofs.values.+values.Given as goal

abbrev pub decreases-has_type : goal.decreases-has_type
decreases-has_type g l = 4 * made_size (made g.X.ExtensionValue.seen l.value.now)

abbrev pub decreases-field_fits : goal.decreases-field_fits
decreases-field_fits g l = 4 * made_size (made g.X.ExtensionValue.seen l.value.now) + 1

abbrev pub decreases-is_set_of : goal.decreases-is_set_of
decreases-is_set_of g l = 4 * mades_size (mades g.X.ExtensionValue.seen l.members.now) + 3

abbrev pub decreases-have_type : goal.decreases-have_type
decreases-have_type g l = 4 * mades_size (mades g.X.ExtensionValue.seen l.members.now) + 2

abbrev pub decreases-is_record_of : goal.decreases-is_record_of
decreases-is_record_of g l = 4 * fields_size_of g.X.ExtensionValue.seen l.pairs.now.entries + 3

abbrev pub decreases-fields_fit : goal.decreases-fields_fit
decreases-fields_fit g l = 4 * fields_size_of g.X.ExtensionValue.seen l.pairs.now.entries + 2

abbrev pub invariant-have_type-loop-member : goal.invariant-have_type-loop-member
invariant-have_type-loop-member g l =
    record {
      fits : all_have g.X.ExtensionValue.seen (type_of l.ty) (iter_rest l.member-iterator) ≡ have_type (bares g.X.ExtensionValue.seen l.members) (type_of l.ty);
      within : size_of g.X.ExtensionValue.seen (iter_rest l.member-iterator) ≤ mades_size (mades g.X.ExtensionValue.seen l.members);
    }

abbrev pub invariant-fields_fit-loop-name : goal.invariant-fields_fit-loop-name
invariant-fields_fit-loop-name g l =
    record {
      fits : all_fit g.X.ExtensionValue.seen (attributes_of l.attrs) (openness_of l.tag) l.rest.left
          ≡ fields_fit (attributes_of l.attrs) (openness_of l.tag) (fields (map (bare_pair g.X.ExtensionValue.seen) l.pairs.entries));
      within : fields_size_of g.X.ExtensionValue.seen l.rest.left ≤ fields_size_of g.X.ExtensionValue.seen l.pairs.entries;
    }

abbrev pub decreases-fields_fit-loop-name : goal.decreases-fields_fit-loop-name
decreases-fields_fit-loop-name g l = length l.rest.left
