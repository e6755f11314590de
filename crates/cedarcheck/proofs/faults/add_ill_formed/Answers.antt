use Rattle.cedarcheck.proofs.Broken.{schema_number}
use Rattle.cedarcheck.proofs.faults.add_ill_formed.Goals as goal

pub returns-in_ok-add_unless-in-Schema : goal.returns-in_ok-add_unless-in-Schema
returns-in_ok-add_unless-in-Schema c = λ s told. c.in_ok-add_unless-in-Schema.ensures s (λ e. schema_number s c.args.fault.now c.in-Schema.field-0 c.in-Schema.is told)
