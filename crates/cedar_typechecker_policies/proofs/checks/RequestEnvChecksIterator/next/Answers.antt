use Rattle.std.proofs.Common.{ap, length, arith}
use Rattle.cedar_store_policies.specs.Templates.{template_of}
use Rattle.cedar_typechecker_model.specs.Verdicts.{policy_environments}
use Rattle.cedar_typechecker_policies.proofs.Left.{fewer, ended}
use Rattle.cedar_typechecker_policies.proofs.checks.RequestEnvChecksIterator.next.Goals as goal

pub returns-in-Err-clause-goes : goal.returns-in-Err-clause-goes
returns-in-Err-clause-goes g c =
    let i = c.args.self.now in
    let k = c.end.new.self in
    let es = policy_environments (g.S.DeclaredAttributes.schema i.schema.now) (template_of i.template.now) in
    let gs = policy_environments (g.S.DeclaredAttributes.schema k.schema.now) (template_of k.template.now) in
    record {
      on = λ _. (tt, tt, ended i.is_begun k.is_begun i.envs.items k.envs.items es gs c.in-Err.ensures.unbegun c.end.ensures.begun c.end.ensures.envs);
      keeps = tt;
      rests = λ _. tt;
    }

pub returns-in-Ok-clause-goes : goal.returns-in-Ok-clause-goes
returns-in-Ok-clause-goes g c =
    let i = c.args.self.now in
    let j = c.begin.new.self in
    let es = policy_environments (g.S.DeclaredAttributes.schema i.schema.now) (template_of i.template.now) in
    let fs = policy_environments (g.S.DeclaredAttributes.schema j.schema.now) (template_of j.template.now) in
    let h = c.in_default.ensures in
    record {
      on = λ _. (tt, tt, fewer i.is_begun j.is_begun j.is_begun i.envs.items j.envs.items c.pop.new.self.items es fs fs h.begun h.left h.begun (omega (arith, c.in_ok-env.ensures.cases)));
      keeps = tt;
      rests = λ _. tt;
    }

pub returns-in-Err-check-clause-goes : goal.returns-in-Err-check-clause-goes
returns-in-Err-check-clause-goes g c =
    let i = c.args.self.now in
    let j = c.begin.new.self in
    let k = c.end-in-Err-check.new.self in
    let es = policy_environments (g.S.DeclaredAttributes.schema i.schema.now) (template_of i.template.now) in
    let fs = policy_environments (g.S.DeclaredAttributes.schema j.schema.now) (template_of j.template.now) in
    let gs = policy_environments (g.S.DeclaredAttributes.schema k.schema.now) (template_of k.template.now) in
    let h = c.in_default.ensures in
    let last = c.end-in-Err-check.ensures in
    record {
      on = λ _. (tt, tt, fewer i.is_begun j.is_begun k.is_begun i.envs.items j.envs.items k.envs.items es fs gs h.begun h.left last.begun (omega (arith, ap length last.envs, c.in_ok-env.ensures.cases)));
      keeps = tt;
      rests = λ _. tt;
    }
