use Rattle.std.proofs.Common.{map, sym, ap, ◌∙◌}
use Rattle.std.specs.List.{list_any}
use Rattle.std.specs.Rc.{rc_str_bytes}
use Rattle.std.specs.Str.{bytes_eq}
use Rattle.cedar_expr_names.specs.Views.{eid_text}
use Rattle.cedar_schema_entries.specs.Kinds.{kind_with}
use Rattle.cedar_typechecker_model.specs.ScopeRules.{has_id}
use Rattle.cedar_typechecker.proofs.Given.{text_among}
use Rattle.cedar_typechecker.proofs.scopes.may_have_id.Goals as goal

pub returns-in-Enum : goal.returns-in-Enum
returns-in-Enum c = λ as_.
    let keys = c.in-Enum.members.keys in
    c.contains.ensures ∙ text_among c.as_str.result.now keys ∙ ap (λ t. list_any (bytes_eq t) (map rc_str_bytes keys)) c.as_str.ensures ∙ ap (λ k. has_id (kind_with as_ k) (eid_text c.args.id.now)) (sym c.in-Enum.is)
