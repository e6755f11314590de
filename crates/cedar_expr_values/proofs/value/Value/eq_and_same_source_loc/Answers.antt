use Rattle.std.proofs.Common.{◌∙◌, sym}
use Rattle.cedar_expr_values.specs.Values.{bare, place_of}
use Rattle.cedar_expr_values.proofs.Located.{at_same_place, not_the_same}
use Rattle.cedar_expr_values.proofs.value.Value.eq_and_same_source_loc.Goals as goal

pub returns-then-same : goal.returns-then-same
returns-then-same g c =
    let seen = g.X.ExtensionValue.seen in
    at_same_place (bare seen c.args.self.now) (bare seen c.args.other.now) (place_of c.args.self.now) (place_of c.args.other.now) c.eq.result (sym c.same.ensures ∙ c.if-same.true) c.eq.ensures

pub returns-else-same : goal.returns-else-same
returns-else-same g c =
    let seen = g.X.ExtensionValue.seen in
    not_the_same (bare seen c.args.self.now) (bare seen c.args.other.now) (place_of c.args.self.now) (place_of c.args.other.now) c.same.result (sym c.same.ensures ∙ c.if-same.false) c.if-same.false
