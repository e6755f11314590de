use Rattle.std.proofs.Common.{◌≡◌, List, IfOk, not, map, subst, ap, ◌∙◌}
use Rattle.std.specs.declared.alloc.Global.{Global}
use Rattle.std.specs.declared.vec.Vec.{Vec}
use Rattle.cedar_expr_names.specs.declared.entity.EntityType.{EntityType}
use Rattle.std.specs.List.{filter}
use Rattle.cedar_expr_model.specs.Name.{Name, name_eq}
use Rattle.cedar_expr_names.specs.Views.{type_name_of}
use Rattle.cedar_schema_built.specs.Views.{schema_kept}
use Rattle.cedar_schema_built.specs.Iterators.{ancestors_left}
use Rattle.cedar_schema_model.specs.Kept.{kept_type, kept_ancestors}
use Rattle.cedar_typechecker_model.proofs.Seen.Asked.{others_asked}
use Rattle.cedar_typechecker_model.proofs.Seen.Told.{found_is, none_is, none_above}
use Rattle.cedar_typechecker_model.proofs.Seen.Tests.{tests_closed}
use Rattle.cedar_typechecker.proofs.scopes.SchemaAndFunctionsSchemaEnvironments.types_above.Goals as goal

pub returns-in-Some : goal.returns-in-Some
returns-in-Some g c =
    let s = c.args.self.now in
    let k = schema_kept s.schema.now in
    let n = type_name_of c.args.ty.now in
    let above = found_is (kept_ancestors k n) (ancestors_left c.in-Some.ancestors) (kept_type k n) c.in-Some.ensures in
    subst (λ (xs : List Name). IfOk c.others_of.result (λ (ts : Vec EntityType Global). map type_name_of ts.items ≡ xs)) (ap (filter (λ m. not (name_eq m n))) above ∙ others_asked k (tests_closed (schema_kept s.schema.now) s.closed) s.once n) c.others_of.ensures

pub returns-in-None : goal.returns-in-None
returns-in-None g c =
    let s = c.args.self.now in
    let k = schema_kept s.schema.now in
    let n = type_name_of c.args.ty.now in
    ap (map type_name_of) c.new.ensures.items ∙ none_above k (tests_closed (schema_kept s.schema.now) s.closed) s.once n (none_is (kept_ancestors k n) (kept_type k n) c.in-None.ensures)
