use Rattle.std.proofs.Common.{map, sym, ap, ◌∙◌}
use Rattle.cedar_expr_values.specs.Kept.{KeptRecord}
use Rattle.cedar_expr_values.specs.Falls.{record_is}
use Rattle.cedar_expr_values.specs.Values.{made_fields, made_pair}
use Rattle.cedar_expr_values.proofs.value.Record.as_map.Goals as goal

pub returns-clause-as_made : goal.returns-clause-as_made
returns-clause-as_made g c =
    sym (ap (λ (k : KeptRecord). k.0) c.self.view_is)
    ∙ record_is g.X.ExtensionValue.seen c.self.inside c.self.invariant
    ∙ ap (λ m. made_fields (map (made_pair g.X.ExtensionValue.seen) m.entries)) (sym c.deref.ensures)
