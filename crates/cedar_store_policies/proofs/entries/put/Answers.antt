use Rattle.std.proofs.Common.{◌∙◌}
use Rattle.std.specs.Str.{bytes_eq}
use Rattle.indexmap.proofs.CallerLemmas.{insert_entry-new}
use Rattle.cedar_store_parts.specs.Parts.{id_text}
use Rattle.cedar_store_policies.proofs.Keyed.{key_absent}
use Rattle.cedar_store_policies.proofs.entries.put.Goals as goal

pub returns-clause-put : goal.returns-clause-put
returns-clause-put g c = c.in_ok-insert.ensures.entries ∙ insert_entry-new (λ i j. bytes_eq (id_text i) (id_text j)) c.args.map.now c.args.id c.args.value (key_absent c.args.id c.args.map.now.entries c.requires)
