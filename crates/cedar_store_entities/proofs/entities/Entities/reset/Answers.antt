use Rattle.std.proofs.Common.{map, take, sym, ap, ◌∙◌}
use Rattle.std.proofs.lemmas.List.{take-map}
use Rattle.cedar_store_entities.specs.Views.{entity_uid}
use Rattle.cedar_store_entities.proofs.entities.Entities.reset.Goals as goal

pub invariant_of-self : goal.invariant_of-self
invariant_of-self c =
    let s = c.args.self.now in
    let n = c.args.mark.entities in
    record { named = c.truncate.ensures ∙ ap (take n) s.named ∙ take-map entity_uid n s.entities.items ∙ ap (map entity_uid) (sym c.truncate-2.ensures.items) }
