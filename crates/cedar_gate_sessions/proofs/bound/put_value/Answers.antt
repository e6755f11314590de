use Rattle.std.proofs.Common.{Some, option_map, ap, ◌∙◌}
use Rattle.std.specs.Rc.{rc_str_bytes}
use Rattle.std.specs.Str.{bytes_eq}
use Rattle.std.specs.HashMap.{get_by}
use Rattle.cedar_expr_values.specs.Extensions.{extension_of}
use Rattle.cedar_expr_values.specs.Values.{made}
use Rattle.cedar_gate_sessions.proofs.Texts.{text_updates, map_cond}
use Rattle.cedar_gate_sessions.proofs.bound.put_value.Goals as goal

pub returns-clause-put : goal.returns-clause-put
returns-clause-put c = λ k.
    ap (option_map (made extension_of)) (text_updates (rc_str_bytes c.args.name) c.args.bound.now c.insert.new.self (Some c.args.value) c.in_ok-insert.ensures.updates k)
    ∙ map_cond (made extension_of) (bytes_eq (rc_str_bytes c.args.name) k) (Some c.args.value) (get_by (λ j. bytes_eq k (rc_str_bytes j)) c.args.bound.now)
