use Rattle.std.proofs.Common.{◌∷◌, map, sym, subst, ap, ◌∙◌}
use Rattle.std.specs.Rc.{rc_str_bytes}
use Rattle.cedar_expr_names.specs.Views.{uid_of}
use Rattle.cedar_expr_model.specs.Made.{made_prim}
use Rattle.cedar_expr_model.specs.Value.{entity}
use Rattle.cedar_expr_values.specs.Extensions.{extension_of}
use Rattle.cedar_expr_values.specs.Values.{made}
use Rattle.cedar_evaluator_model.specs.Steps.{path_of}
use Rattle.cedar_evaluator_reads.specs.Paths.{Goes}
use Rattle.cedar_evaluator_reads.specs.Scopes.{scope_seen}
use Rattle.cedar_evaluator_reads.proofs.Along.{no_path}
use Rattle.cedar_evaluator_reads.proofs.knowledge.Knowledge.path_step.Goals as goal

pub returns-in-Entity : goal.returns-in-Entity
returns-in-Entity g c =
    let s = scope_seen c.args.self.now in
    let bs = map rc_str_bytes c.args.after.now in
    subst (λ m. Goes (path_of s (rc_str_bytes c.args.name.now) (rc_str_bytes c.args.next.now ∷ bs) m) (path_of s (rc_str_bytes c.args.next.now) bs) c.entity_step.result)
    (sym (c.in-Entity.ensures ∙ ap (λ u. made_prim (entity (uid_of u))) (sym c.deref.ensures))) c.entity_step.ensures

pub returns-in-Neither : goal.returns-in-Neither
returns-in-Neither g c = λ other h. no_path (scope_seen c.args.self.now) (rc_str_bytes c.args.name.now) (rc_str_bytes c.args.next.now) (map rc_str_bytes c.args.after.now) (made extension_of c.args.v.now) c.in-Neither.ensures.1 ∙ c.no_record.ensures.stop other h
