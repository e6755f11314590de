use Rattle.std.proofs.Common.{◌≡◌, Ok}
use Rattle.std.proofs.lemmas.Result.{IfOk-weaker}
use Rattle.cedar_expr_names.specs.Namespaces.{space_of}
use Rattle.cedar_expr_leaves.specs.Views.{raw_name_of}
use Rattle.cedar_schema_decl.specs.Conditional.{conditional_of, conditional_in, qualifying}
use Rattle.cedar_schema_decl.specs.Definitions.{standard_written, entity_form}
use Rattle.cedar_schema_decl.specs.Requalified.{requalified_entity}
use Rattle.cedar_schema_fragments.specs.Qualified.{entity_with}
use Rattle.cedar_schema_fragments.proofs.Qualifying.{entity_is}
use Rattle.cedar_schema_fragments.proofs.naming.standard_in.Goals as goal

pub returns : goal.returns
returns c =
    let space = space_of c.args.namespace in
    let written = standard_written raw_name_of c.args.parents.now c.args.attributes.now c.args.tags.now in
    IfOk-weaker c.requalify_standard.result (λ r. requalified_entity (qualifying space) written ≡ Ok (entity_form conditional_of r)) (λ r. entity_form conditional_of r ≡ entity_with (conditional_in space) written)
    (λ r h. entity_is space written (entity_form conditional_of r) h) c.requalify_standard.ensures.made
