-- How calls are written, as the model's.
-- Rule: extension functions (docs/RULES.md).
use Rattle.cedar_expr_model.specs.Table as model
use Rattle.cedar_expr_model.specs.Table.{function_style, method_style}
use Rattle.cedar_expr_functions.specs.declared.extension.CallStyle.{CallStyle}
use Rattle.cedar_expr_functions.specs.declared.extension.CallStyle.TheVariants.{FunctionStyle, MethodStyle}

-- the style of the model
abbrev pub style_of : CallStyle → model.CallStyle
style_of FunctionStyle = function_style
style_of MethodStyle = method_style
