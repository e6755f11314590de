-- What unknowns are, as the model's, and how they are shown.
-- Rule: expressions; texts (docs/RULES.md).
use Rattle.std.specs.Prelude.{◌++◌, codes, option_map}
use Rattle.std.specs.Rc.{rc_str_bytes}
use Rattle.cedar_expr_model.specs.Name.{Text}
use Rattle.cedar_expr_model.specs.Uid.{quoted}
use Rattle.cedar_expr_model.specs.Parts as model
use Rattle.cedar_expr_values.specs.Types.{core_of}
use Rattle.cedar_expr_trees.specs.declared.expr.Unknown.{Unknown}

-- the unknown that a code unknown is
abbrev pub unknown_of : Unknown → model.Unknown
unknown_of u = record { name = rc_str_bytes u.name; annotation = option_map core_of u.type_annotation }

-- how an unknown is shown: by its name alone
abbrev pub unknown_text : model.Unknown → Text
unknown_text u = codes "unknown(" ++ (quoted u.name ++ codes ")")
