use Rattle.std.proofs.Common.{ap, ◌∙◌}
use Rattle.cedar_expr_model.specs.Lists.{first_found}
use Rattle.cedar_expr_model.specs.Parts.{Unknown}
use Rattle.cedar_expr_model.specs.Substitution.{mismatch, mismatch_at}
use Rattle.cedar_expr_trees.specs.Trees.{tree_of}
use Rattle.cedar_expr_trees.specs.Unknowns.{unknown_of}
use Rattle.cedar_expr_trees.specs.Positions.{unknowns_left}
use Rattle.cedar_expr_substitution.specs.Bound.{bindings_of}
use Rattle.cedar_expr_substitution.proofs.Typed.{first_refused, mismatch_passes}
use Rattle.cedar_expr_substitution.proofs.substitute.ask_annotations.Goals as goal

pub returns-in_err-ask_annotation-clause-refused : goal.returns-in_err-ask_annotation-clause-refused
returns-in_err-ask_annotation-clause-refused g c =
    let env = bindings_of g.X.ExtensionValue.seen c.args.bindings.now in
    let u = unknown_of c.in-Some.u.now in
    mismatch_passes (mismatch_at u.name u.annotation (env u.name)) (mismatch env (tree_of c.args.e.now)) c.from_residual-in_err-ask_annotation.result c.in_err-ask_annotation.field-0.0 c.from_residual-in_err-ask_annotation.ensures.1 c.in_err-ask_annotation.ensures.refused
    (λ x h. c.loop-u.invariant ∙ ap (first_found (λ (v : Unknown). mismatch_at v.name v.annotation (env v.name))) c.in-Some.ensures.steps ∙ first_refused (λ (v : Unknown). mismatch_at v.name v.annotation (env v.name)) u (unknowns_left c.next.new.self) x h)
