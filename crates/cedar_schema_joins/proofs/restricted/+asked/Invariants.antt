use Rattle.std.proofs.Common.{◌≡◌, ◌≤◌, drop, length}
use Rattle.cedar_schema_types.specs.Kinds.{openness_of}
use Rattle.cedar_schema_types.specs.Types.{type_of, attributes_of}
use Rattle.cedar_schema_joins.proofs.Asking.{left_to_ask, fields_left}
use Rattle.cedar_schema_joins.proofs.SmallerFields.{deepest_field}
use Rattle.cedar_schema_joins.proofs.restricted.+asked.Given as goal

abbrev pub invariant-ask_each-loop-expr : goal.invariant-ask_each-loop-expr
invariant-ask_each-loop-expr g l =
    left_to_ask (g.F.Functions.signatures l.table) (type_of l.ty) (drop l.expr-index l.exprs) ≡ left_to_ask (g.F.Functions.signatures l.table) (type_of l.ty) l.exprs

abbrev pub invariant-ask_fields-loop-name : goal.invariant-ask_fields-loop-name
invariant-ask_fields-loop-name g l =
    record {
      asked : fields_left (g.F.Functions.signatures l.table) (attributes_of l.attrs) (openness_of l.tag) l.rest.left
          ≡ fields_left (g.F.Functions.signatures l.table) (attributes_of l.attrs) (openness_of l.tag) l.pairs.entries;
      within : deepest_field {T = g.row.T.Denot} l.rest.left ≤ deepest_field {T = g.row.T.Denot} l.pairs.entries;
    }

abbrev pub decreases-ask_fields-loop-name : goal.decreases-ask_fields-loop-name
decreases-ask_fields-loop-name g l = length l.rest.left
