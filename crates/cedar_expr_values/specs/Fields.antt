-- Names of the code with what stands under them.
-- Rule: values and equality (docs/RULES.md).
use Rattle.std.specs.Rc.{rc_str_bytes}
use Rattle.std.specs.declared.alloc.Global.{Global}
use Rattle.std.specs.declared.rc.RcStr.{RcStr}
use Rattle.cedar_expr_model.specs.Name.{Text}

-- a name as a text, and what stands under it
abbrev pub by_text : {A : Type 0} → RcStr Global × A → Text × A
by_text p = (rc_str_bytes p.0, p.1)
