-- What the code finds wrong with a built schema, in the model's words.
-- Rule: schemas; descent; well-formed declarations (docs/RULES.md).
use Rattle.std.specs.Prelude.{List, map}
use Rattle.std.specs.declared.alloc.Global.{Global}
use Rattle.std.specs.declared.collections.BTreeSet.{BTreeSet}
use Rattle.cedar_expr_model.specs.Name.{Name}
use Rattle.cedar_expr_names.specs.Views.{plain_name_of, type_name_of, uid_of}
use Rattle.cedar_expr_names.specs.declared.name.Name.{Name as CodeName}
use Rattle.cedar_schema_model.specs.Unsound as model
use Rattle.cedar_schema_model.specs.Unsound.{undeclared_type, unknown_extension, type_as_action, type_left_out, undeclared_action, action_of_other_type, open_context, action_below_itself, action_left_out}
use Rattle.cedar_schema_sound.specs.declared.unsound.Unsound.{Unsound}
use Rattle.cedar_schema_sound.specs.declared.unsound.Unsound.TheVariants.{UndeclaredType, UnknownExtensionType, TypeNamedAction, TypeLeftOut, UndeclaredAction, ActionOfOtherType, ContextNotClosedRecord, ActionBelowItself, ActionLeftOut}

abbrev pub fault_seen : Unsound → model.Unsound
fault_seen (UndeclaredType t) = undeclared_type (type_name_of t.now)
fault_seen (UnknownExtensionType n) = unknown_extension (plain_name_of n.now)
fault_seen (TypeNamedAction t) = type_as_action (type_name_of t.now)
fault_seen (TypeLeftOut t m) = type_left_out (type_name_of t.now) (type_name_of m.now)
fault_seen (UndeclaredAction u) = undeclared_action (uid_of u.now)
fault_seen (ActionOfOtherType u) = action_of_other_type (uid_of u.now)
fault_seen (ContextNotClosedRecord u) = open_context (uid_of u.now)
fault_seen (ActionBelowItself u) = action_below_itself (uid_of u.now)
fault_seen (ActionLeftOut u v) = action_left_out (uid_of u.now) (uid_of v.now)

-- the names of the extension types that are known
abbrev pub names_known : BTreeSet CodeName Global → List Name
names_known x = map plain_name_of x.keys
