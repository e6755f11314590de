use Rattle.std.proofs.Common.{sym, ◌∙◌}
use Rattle.std.proofs.lemmas.Bool.{true≢false}
use Rattle.cedar_schema_sound.proofs.laws.order_of_fragments_is_free.Goals as goal

pub returns-clause-same : goal.returns-clause-same
returns-clause-same c = λ x fs gs d e w v r k l b m. c.built_is_the_schema.ensures.alike x d e r (b.are_well_formed d w) k l (b.keeps d w) (m.keeps e v)

pub returns-clause-refused : goal.returns-clause-refused
returns-clause-refused c = λ x fs gs d e w v r k b f i m.
    true≢false (sym ((c.declarations_are_decided.ensures.faults x d f).1 ((c.bags_have_no_order.ensures.faults x d e r f).1 (m.each e v))) ∙ b.are_well_formed d w f i)
