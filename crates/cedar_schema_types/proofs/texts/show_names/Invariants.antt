use Rattle.std.proofs.Common.{true}
use Rattle.std.specs.Fmt.{IsPlainFormatter}
use Rattle.cedar_schema_model.specs.Texts.{names_text}
use Rattle.cedar_schema_types.specs.Unions.{members_of}
use Rattle.cedar_schema_types.proofs.Shown.{Shown, names_left}
use Rattle.cedar_schema_types.proofs.texts.show_names.Given as goal

abbrev pub invariant-loop-ty : goal.invariant-loop-ty
invariant-loop-ty g l = IsPlainFormatter l.fn.f → Shown g.W.Write.write_str_gives l.fn.f (names_left l.is_first l.ty-iterator) (names_text true (members_of l.union)) l.f
