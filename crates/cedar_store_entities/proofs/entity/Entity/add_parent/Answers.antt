use Rattle.std.proofs.Common.{map}
use Rattle.std.proofs.lemmas.Result.{on_ok_weaker}
use Rattle.cedar_expr_names.specs.Views.{uid_of}
use Rattle.cedar_store_entities.specs.Views.{kin_in, part_pair}
use Rattle.cedar_store_entities.proofs.Kin.{parent_more}
use Rattle.cedar_store_entities.proofs.entity.Entity.add_parent.Goals as goal

pub returns-clause-added : goal.returns-clause-added
returns-clause-added c =
    let e = c.args.self.now in
    on_ok_weaker c.add_parent.result (λ k i. record { attributes = map part_pair e.attrs.entries; tags = map part_pair e.tags.entries; ancestors = parent_more (kin_in e.ancestors) (kin_in c.add_parent.new.self) (uid_of c.args.uid) k i })
    c.add_parent.ensures.kin
