use Rattle.std.proofs.Common.{ap, ◌∙◌}
use Rattle.cedar_evaluator_requests.specs.Views.{entry_of}
use Rattle.cedar_gate_model.specs.Asked.{is_no_kept_member}
use Rattle.cedar_schema_built.specs.Views.{schema_kept}
use Rattle.cedar_gate_conforming.proofs.Placed.{known_is}
use Rattle.cedar_gate_conforming.proofs.requests.is_no_entry_member.Goals as goal

pub returns-in-Some : goal.returns-in-Some
returns-in-Some c = c.is_no_kept_member.ensures ∙ ap (is_no_kept_member (schema_kept c.args.schema.now)) (c.in-Some.ensures ∙ known_is (entry_of c.args.entry.now))

pub returns-in-None : goal.returns-in-None
returns-in-None c = ap (is_no_kept_member (schema_kept c.args.schema.now)) (c.in-None.ensures ∙ known_is (entry_of c.args.entry.now))
