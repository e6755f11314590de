use Rattle.std.proofs.Common.{◌≡◌, ◌++◌, map, take, Some}
use Rattle.std.specs.Rc.{rc_str_bytes}
use Rattle.cedar_expr_model.specs.Lists.{all_given}
use Rattle.cedar_expr_values.specs.Values.{bare, bare_pair}
use Rattle.cedar_expr_partial.specs.Parts.{value_shown, field_shown}
use Rattle.cedar_expr_partial.proofs.Shown.{after}
use Rattle.cedar_expr_partial.proofs.reading.+valued.Given as goal

abbrev pub invariant-member_values-loop-e : goal.invariant-member_values-loop-e
invariant-member_values-loop-e g l =
    all_given value_shown (take l.e-index l.members) ≡ Some (map (bare g.X.ExtensionValue.seen) l.values.items)

abbrev pub invariant-field_values-loop-name : goal.invariant-field_values-loop-name
invariant-field_values-loop-name g l =
    record {
      read : all_given field_shown l.fields.entries ≡ after (field_shown {T = g.row.T.Denot}) (map (bare_pair g.X.ExtensionValue.seen) l.values.items) (all_given field_shown l.name-iterator);
      names : map (λ p. p.0) (map (bare_pair g.X.ExtensionValue.seen) l.values.items) ++ map (λ e. rc_str_bytes e.0) l.name-iterator ≡ map (λ e. rc_str_bytes e.0) l.fields.entries;
    }
