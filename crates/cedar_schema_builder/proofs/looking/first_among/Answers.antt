use Rattle.std.proofs.Common.{find, ap, ◌∙◌}
use Rattle.cedar_schema_builder.proofs.Finding.{passes_found, passes_one}
use Rattle.cedar_schema_builder.proofs.looking.first_among.Goals as goal

pub returns-in-Some : goal.returns-in-Some
returns-in-Some g c =
    passes_found g.L.Look.wanted g.L.Look.names c.args.parts.now c.loop-part.part-index _ _ _
    c.loop-part-test.true
    (c.in-Some.ensures ∙ ap (λ e. find g.L.Look.wanted (g.L.Look.names e)) c.part-item.is)
    c.loop-part.invariant

pub loop-part-preserved : goal.loop-part-preserved
loop-part-preserved g c =
    passes_one g.L.Look.wanted g.L.Look.names c.args.parts.now c.loop-part.part-index _ _
    c.loop-part-test.true
    (c.in_default.ensures ∙ ap (λ e. find g.L.Look.wanted (g.L.Look.names e)) c.part-item.is)
    c.loop-part.invariant
