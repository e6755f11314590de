use Rattle.std.proofs.Common.{◌≡◌, true, [], map, ap}
use Rattle.cedar_expr_names.specs.Views.{uid_of}
use Rattle.cedar_store_entities.specs.Recorded.{with_indirects, with_parents}
use Rattle.cedar_store_entities.specs.Views.{kin_seen}
use Rattle.cedar_store_entities.specs.declared.entity.Entity.{Entity}
use Rattle.cedar_schema_built.specs.Entities.{are_indirect}
use Rattle.cedar_schema_built.proofs.Rows.{no_parents, ok_more}
use Rattle.cedar_schema_built.proofs.entities.as_entity.Goals as goal

pub returns-clause-indirect : goal.returns-clause-indirect
returns-clause-indirect c =
    let us = map uid_of c.take_row-ancestors.result.items in
    let vs = map uid_of c.new-2.result.items in
    ok_more (λ (e : Entity). kin_seen e ≡ with_parents (with_indirects [] us) vs) (λ (e : Entity). are_indirect (kin_seen e) ≡ true) c.new-4.result
    (λ e h. no_parents (kin_seen e) us vs h (ap (map uid_of) c.new-2.ensures.items))
    c.new-4.ensures.kin
