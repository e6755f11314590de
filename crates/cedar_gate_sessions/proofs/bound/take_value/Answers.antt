use Rattle.std.proofs.Common.{None, option_map, ap, ◌∙◌}
use Rattle.std.specs.Rc.{rc_str_bytes}
use Rattle.std.specs.Str.{bytes_eq}
use Rattle.std.specs.HashMap.{get_by}
use Rattle.cedar_expr_values.specs.Extensions.{extension_of}
use Rattle.cedar_expr_values.specs.Values.{made}
use Rattle.cedar_gate_sessions.proofs.Texts.{text_updates, map_cond}
use Rattle.cedar_gate_sessions.proofs.bound.take_value.Goals as goal

pub returns : goal.returns
returns c = λ k.
    ap (option_map (made extension_of)) (text_updates c.args.name.now c.args.bound.now c.remove.new.self None c.remove.ensures.updates k)
    ∙ map_cond (made extension_of) (bytes_eq c.args.name.now k) None (get_by (λ j. bytes_eq k (rc_str_bytes j)) c.args.bound.now)
