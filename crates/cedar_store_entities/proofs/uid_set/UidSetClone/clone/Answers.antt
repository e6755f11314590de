use Rattle.std.proofs.Common.{ap, ◌∙◌}
use Rattle.cedar_store_entities.specs.Places.{are_apart}
use Rattle.cedar_store_entities.proofs.Led.{led_copied, uids_copied}
use Rattle.cedar_store_entities.proofs.uid_set.UidSetClone.clone.Goals as goal

pub invariant_of-result : goal.invariant_of-result
invariant_of-result c =
    let s = c.args.self.now in
    let us = c.in_ok-clone.field-0.items in
    record {
      led = led_copied s.uids.items us s.places.entries c.in_ok-clone-2.field-0.entries c.in_ok-clone.ensures.cases.0 c.in_ok-clone-2.ensures.cases s.led;
      apart = ap are_apart (uids_copied s.uids.items us c.in_ok-clone.ensures.cases.0) ∙ s.apart;
    }

pub returns : goal.returns
returns c = record { cases = uids_copied c.args.self.now.uids.items c.in_ok-clone.field-0.items c.in_ok-clone.ensures.cases.0 }
