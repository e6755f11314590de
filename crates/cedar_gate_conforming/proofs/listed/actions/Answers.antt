use Rattle.std.proofs.Common.{◌≡◌, List, map, sym, subst}
use Rattle.std.specs.declared.alloc.Global.{Global}
use Rattle.std.specs.declared.vec.Vec.{Vec}
use Rattle.std.proofs.lemmas.Result.{IfOk-weaker}
use Rattle.cedar_expr_model.specs.Uid.{Uid}
use Rattle.cedar_expr_model.specs.Value.{V}
use Rattle.cedar_gate_model.specs.Alike.{AreActionEntities}
use Rattle.cedar_schema_built.specs.Views.{schema_kept}
use Rattle.cedar_schema_model.specs.Kept.{kept_action_entities}
use Rattle.cedar_store_entities.specs.Views.{entity_pair}
use Rattle.cedar_store_entities.specs.declared.entity.Entity.{Entity}
use Rattle.cedar_store_model.specs.World as model
use Rattle.cedar_gate_conforming.proofs.Rising.{kept_once}
use Rattle.cedar_gate_conforming.proofs.listed.actions.Goals as goal

pub returns : goal.returns
returns c = λ s w.
    let k = schema_kept c.args.schema.now in
    IfOk-weaker c.action_entities.result (λ (es : Vec Entity Global). map entity_pair es.items ≡ kept_action_entities k) (λ es. AreActionEntities s (map entity_pair es.items))
    (λ es h. subst (λ (ds : List (Uid × model.Entity V)). AreActionEntities s ds) (sym h) (c.kept_actions_are_entities.ensures s k w (kept_once k c.schemas_are_in_order.ensures.kept)))
    c.action_entities.ensures.entities
