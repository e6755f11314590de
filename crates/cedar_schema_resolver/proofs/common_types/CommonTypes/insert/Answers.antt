use Rattle.cedar_schema_resolver.proofs.Stored.{types_with, kept_after, on_ok}
use Rattle.cedar_schema_resolver.proofs.common_types.CommonTypes.insert.Goals as goal

pub returns-clause-inserted : goal.returns-clause-inserted
returns-clause-inserted c = on_ok c.put.result _ _ c.put.ensures.put (λ e. types_with c.args.name c.args.ty c.args.self.now.types.entries c.put.new.map.entries e)

pub returns-clause-kept : goal.returns-clause-kept
returns-clause-kept c = on_ok c.put.result _ _ c.put.ensures.put (λ e. kept_after c.args.name c.args.ty c.args.self.now.types.entries c.put.new.map.entries e)
