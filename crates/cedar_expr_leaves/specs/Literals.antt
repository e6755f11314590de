-- What the code's literals are in the model, and the text that a literal is shown as.
-- Rule: values and equality; texts (docs/RULES.md).
use Rattle.std.specs.Prelude.{Bool, true, false, codes, if◌then◌else◌}
use Rattle.std.specs.Fmt.{signed_decimal}
use Rattle.std.specs.Rc.{rc_str_bytes}
use Rattle.cedar_expr_model.specs.Name.{Text}
use Rattle.cedar_expr_model.specs.Uid.{quoted, uid_text}
use Rattle.cedar_expr_model.specs.Value as model
use Rattle.cedar_expr_leaves.specs.declared.literal.Literal.{Literal}
use Rattle.cedar_expr_leaves.specs.declared.literal.Literal.TheVariants.{Bool as BoolV, Long, String, EntityUID}
use Rattle.cedar_expr_names.specs.Views.{uid_of}

-- the literal of the model
abbrev pub literal_of : Literal → model.Literal
literal_of (BoolV b) = model.truth b
literal_of (Long n) = model.long n
literal_of (String s) = model.text (rc_str_bytes s)
literal_of (EntityUID u) = model.entity (uid_of u.value)

-- the literal is a uid
abbrev pub is_uid : model.Literal → Bool
is_uid (model.entity u) = true
is_uid p = false

-- A literal's text: a truth value by its word, a whole number in decimals, a text in double quotes, a uid by its own text.
abbrev pub literal_text : model.Literal → Text
literal_text (model.truth b) = if b then codes "true" else codes "false"
literal_text (model.long n) = signed_decimal n
literal_text (model.text s) = quoted s
literal_text (model.entity u) = uid_text u
