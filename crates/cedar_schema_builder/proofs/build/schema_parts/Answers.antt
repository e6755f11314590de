use Rattle.cedar_schema_resolver.specs.Meanings.{extensions_seen}
use Rattle.cedar_schema_builder.proofs.build.schema_parts.Goals as goal

pub returns-in-Err-clause-refused : goal.returns-in-Err-clause-refused
returns-in-Err-clause-refused c = λ f q. record { each = λ d w. c.named_are_faults.ensures (extensions_seen c.args.extension_types.now) d c.in-Err.error (c.in-Err.ensures.named.each d w) f q }
