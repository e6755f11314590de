use Rattle.std.proofs.Common.{refl}
use Rattle.cedar_gate_model.specs.ReadingBundle.{input_read}
use Rattle.cedar_gate_model.proofs.Promised.{printed_promised}
use Rattle.cedar_gate_model.proofs.headline.what_is_printed_is_promised.Goals as goal

pub returns : goal.returns
returns c = λ f bytes status text fair p. printed_promised c.runs_keep_the_headline.ensures c.worked_courses.ensures.bundles f fair bytes (input_read f bytes) refl status text p
