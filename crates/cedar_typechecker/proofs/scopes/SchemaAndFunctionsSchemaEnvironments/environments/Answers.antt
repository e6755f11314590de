use Rattle.std.proofs.Common.{◌≡◌, List, map, IfOk, subst, ap, ◌∙◌}
use Rattle.std.specs.List.{flat_map}
use Rattle.std.specs.declared.alloc.Global.{Global}
use Rattle.std.specs.declared.vec.Vec.{Vec}
use Rattle.cedar_schema_model.specs.Environment.{Environment}
use Rattle.cedar_schema_built.specs.Views.{schema_kept}
use Rattle.cedar_typechecker_environments.specs.Settings.{environment_of}
use Rattle.cedar_typechecker_environments.specs.declared.request_env.RequestEnv.{RequestEnv}
use Rattle.cedar_typechecker_model.specs.Asked.{environments_kept}
use Rattle.cedar_typechecker_model.proofs.Seen.Asked.{environments_asked}
use Rattle.cedar_typechecker.proofs.scopes.SchemaAndFunctionsSchemaEnvironments.environments.Goals as goal

pub returns : goal.returns
returns g c =
    subst (λ (xs : List Environment). IfOk c.environments_of.result (λ (es : Vec RequestEnv Global). map environment_of es.items ≡ xs)) (ap (flat_map environments_kept) c.action_ids.ensures ∙ environments_asked (schema_kept c.args.self.now.schema.now)) c.environments_of.ensures
