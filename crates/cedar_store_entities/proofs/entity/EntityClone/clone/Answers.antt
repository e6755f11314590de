use Rattle.cedar_store_entities.proofs.Copies.{copied}
use Rattle.cedar_store_entities.proofs.entity.EntityClone.clone.Goals as goal

pub returns : goal.returns
returns c =
    record {
      cases =
          copied c.args.self.now (record { uid = c.in_ok-clone.field-0; attrs = c.in_ok-clone-2.field-0; tags = c.in_ok-clone-3.field-0; ancestors = c.in_ok-clone-4.field-0 }) c.in_ok-clone.ensures.cases.0
          c.in_ok-clone-2.ensures.cases c.in_ok-clone-3.ensures.cases c.in_ok-clone-4.ensures.cases;
    }
