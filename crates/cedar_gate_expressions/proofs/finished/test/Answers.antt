use Rattle.std.proofs.Common.{◌≡◌, List, Some, None, option_map, ap, ◌∙◌}
use Rattle.std.proofs.lemmas.Result.{IfOk-weaker, IfErr-weaker}
use Rattle.serde_json.specs.Find.{as_str}
use Rattle.serde_json.specs.View.{view, items_view}
use Rattle.serde_json.specs.declared.value.Value.{Value}
use Rattle.cedar_expr_model.specs.Builder.{path_test}
use Rattle.cedar_expr_trees.specs.Trees.{tree_of}
use Rattle.cedar_gate_model.specs.Reading.{given, each}
use Rattle.cedar_gate_model.specs.ReadingExpression.{Version}
use Rattle.cedar_gate_expressions.specs.declared.forms.Test.{Test}
use Rattle.cedar_gate_expressions.specs.declared.forms.Test.TheVariants.{Has}
use Rattle.cedar_gate_expressions.specs.Forms.{test_rest}
use Rattle.cedar_gate_expressions.specs.Parts.{parts}
use Rattle.cedar_gate_expressions.proofs.Heads.{path_is}
use Rattle.cedar_gate_expressions.proofs.finished.test.Goals as goal

pub returns-in-Has-clause-ok : goal.returns-in-Has-clause-ok
returns-in-Has-clause-ok c =
    let t = tree_of c.args.head in
    let is : (v : Version) → test_rest c.args.kind t (parts v c.args.items.now) ≡ given (as_str (view c.in-Some.x.now)) (λ a. option_map (path_test t a) (each as_str (items_view c.in-Some.rest.now))) =
    λ v. ap (λ (k : Test). test_rest k t (parts v c.args.items.now)) c.in-Has.is ∙ ap (λ (xs : List Value). test_rest Has t (parts v xs)) c.in-Some.ensures.first ∙ path_is v t c.in-Some.x.now c.in-Some.rest.now in
    IfOk-weaker c.read_path.result _ _ (λ e h v. is v ∙ h) c.read_path.ensures.ok

pub returns-in-Has-clause-unreadable : goal.returns-in-Has-clause-unreadable
returns-in-Has-clause-unreadable c =
    let t = tree_of c.args.head in
    let is : (v : Version) → test_rest c.args.kind t (parts v c.args.items.now) ≡ given (as_str (view c.in-Some.x.now)) (λ a. option_map (path_test t a) (each as_str (items_view c.in-Some.rest.now))) =
    λ v. ap (λ (k : Test). test_rest k t (parts v c.args.items.now)) c.in-Has.is ∙ ap (λ (xs : List Value). test_rest Has t (parts v xs)) c.in-Some.ensures.first ∙ path_is v t c.in-Some.x.now c.in-Some.rest.now in
    IfErr-weaker c.read_path.result _ _ (λ f h q v. is v ∙ h q) c.read_path.ensures.unreadable
