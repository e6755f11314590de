-- What is bound, and which names are open by it.
-- Rule: sessions (docs/RULES.md).
use Rattle.std.specs.Prelude.{◌≡◌, ◌&&◌, ◌||◌, not, is_some, nat_eq, Bool, true, false, Option, option_map, codes, if◌then◌else◌}
use Rattle.std.specs.HashMap.{HashMap, get_by}
use Rattle.std.specs.List.{list_any}
use Rattle.std.specs.Rc.{rc_str_bytes}
use Rattle.std.specs.Str.{bytes_eq}
use Rattle.std.specs.declared.alloc.Global.{Global}
use Rattle.std.specs.declared.rc.RcStr.{RcStr}
use Rattle.cedar_expr_model.specs.Name.{Text}
use Rattle.cedar_expr_model.specs.Made.{Made}
use Rattle.cedar_expr_model.specs.Parts.{unknowns}
use Rattle.cedar_expr_model.specs.Tree.{record_literal}
use Rattle.cedar_expr_values.specs.Extensions.{extension_of}
use Rattle.cedar_expr_values.specs.Values.{made}
use Rattle.cedar_expr_values.specs.declared.extension.ExtValue.{ExtValue}
use Rattle.cedar_expr_values.specs.declared.value.Value.{Value}
use Rattle.cedar_evaluator_model.specs.Response.{PartialRequest}
use Rattle.cedar_evaluator_model.specs.Scope.{Context, closed, residual_fields, unknown_context}
use Rattle.cedar_gate_model.specs.Session.{entry_named, is_open_entry, is_open_context, variable_names}

-- the value that a name is bound to
abbrev pub bound_in : {S : Type 0} → HashMap (RcStr Global) (Value ExtValue) S → Text → Option Made
bound_in m = λ n. option_map (made extension_of) (get_by (λ k. bytes_eq n (rc_str_bytes k)) m)

-- the name is bound to this value, or to none, and the others are bound as before
abbrev pub Rebinds : Text → Option Made → (Text → Option Made) → (Text → Option Made) → Type 0
Rebinds name value before after = (n : Text) → after n ≡ (if bytes_eq name n then value else before n)

-- a double quote stands in the name
abbrev pub has_quote : Text → Bool
has_quote n = list_any (λ b. nat_eq b 34) n

-- the name is that of a variable
abbrev pub is_variable_name : Text → Bool
is_variable_name n = list_any (bytes_eq n) variable_names

-- the name was open in the request, and these bindings don't bind it
abbrev pub is_open_by : PartialRequest → (Text → Option Made) → Text → Bool
is_open_by r values n = not (is_some (values n)) && (is_open_entry (entry_named r n) || is_open_context r.context n)

abbrev pub HasOpenBy : PartialRequest → (Text → Option Made) → Type 0
HasOpenBy r values = (n : Text) × (is_open_by r values n ≡ true)

-- the variable of this name is open
abbrev pub is_open_variable : PartialRequest → (Text → Option Made) → Text → Bool
is_open_variable r values n = not (is_some (values n)) && is_open_entry (entry_named r n)

-- something of the context isn't bound
abbrev pub has_open_in : (Text → Option Made) → Context → Bool
has_open_in values (closed fs) = false
has_open_in values (residual_fields fs) = list_any (λ u. not (is_some (values u.name))) (unknowns (record_literal fs))
has_open_in values unknown_context = not (is_some (values (codes "context")))

-- a variable is open, or something of the context isn't bound
abbrev pub has_open_by : PartialRequest → (Text → Option Made) → Bool
has_open_by r values = (is_open_variable r values (codes "principal") || (is_open_variable r values (codes "action") || is_open_variable r values (codes "resource"))) || has_open_in values r.context
