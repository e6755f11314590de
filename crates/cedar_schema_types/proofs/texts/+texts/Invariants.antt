use Rattle.std.proofs.Common.{true}
use Rattle.std.specs.Fmt.{IsPlainFormatter}
use Rattle.cedar_schema_model.specs.Texts.{attributes_text}
use Rattle.cedar_schema_types.specs.Types.{attributes_of}
use Rattle.cedar_schema_types.proofs.Shown.{Shown, attributes_left}
use Rattle.cedar_schema_types.proofs.texts.+texts.Given as goal

abbrev pub invariant-show_attributes-loop-name : goal.invariant-show_attributes-loop-name
invariant-show_attributes-loop-name g l = IsPlainFormatter l.fn.f → Shown g.W.Write.write_str_gives l.fn.f (attributes_left l.is_first l.name-iterator) (attributes_text true (attributes_of l.attrs)) l.f
