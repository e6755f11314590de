use Rattle.std.proofs.Common.{◌≡◌, map, ap, ◌∙◌}
use Rattle.std.specs.declared.alloc.Global.{Global}
use Rattle.std.specs.declared.vec.Vec.{Vec}
use Rattle.cedar_gate_accepted.proofs.Judging.{warned_by}
use Rattle.cedar_gate_accepted.proofs.Listed.{on_ok}
use Rattle.cedar_gate_model.specs.Acceptance.{warnings_of}
use Rattle.cedar_gate_rules.specs.Policies.{policies_of}
use Rattle.cedar_store_parts.specs.Parts.{id_text}
use Rattle.cedar_store_parts.specs.declared.policy_id.PolicyID.{PolicyID}
use Rattle.cedar_gate_accepted.proofs.judged.judge_by.Goals as goal

pub returns-clause-warnings : goal.returns-clause-warnings
returns-clause-warnings g c = λ s w.
    on_ok c.judged.result (λ ws. ws ≡ c.in_ok-checked.checked.warnings) (λ (ws : Vec PolicyID Global). map id_text ws.items ≡ warnings_of s)
    (λ ws e. ap (λ (v : Vec PolicyID Global). map id_text v.items) e
    ∙ warned_by c.args.level (g.S.DeclaredAttributes.schema c.args.schema.now) (g.S.TypingSchema.table c.args.schema.now) (policies_of c.args.policies.now) c.in_ok-checked.checked s w c.in_ok-checked.ensures c.verdicts_are_alike.ensures.impossible)
    c.judged.ensures.warnings
