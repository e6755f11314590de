use Rattle.std.proofs.Common.{rules, ap, ◌∙◌, map, true}
use Rattle.std.proofs.Output.{has_written_of_eq, writes_in_calls_nil}
use Rattle.cedar_expr_names.specs.Views.{type_name_of}
use Rattle.cedar_schema_model.specs.Texts.{names_text}
use Rattle.cedar_schema_types.proofs.Shown.{name_shown, names_shown, shown_first}
use Rattle.cedar_schema_types.proofs.texts.show_names.Goals as goal

pub loop-ty-preserved : goal.loop-ty-preserved
loop-ty-preserved g c = λ p.
    let before = c.loop-ty.invariant p in
    let sep = has_written_of_eq _ _ _ _ _ c.between.ensures (c.in_ok-write_str.ensures.writes before.wrote.plain (search rules)) in
    let one = c.in_ok-write.ensures.writes sep.plain (search rules) in
    name_shown _ c.args.f.now c.loop-ty.f c.write_str.new.self c.write.new.self c.loop-ty.is_first c.loop-ty.ty-iterator c.next.new.self c.in-Some.ty.now _ before c.in-Some.ensures.steps sep one

pub loop-ty-init : goal.loop-ty-init
loop-ty-init g c = λ p. shown_first _ c.args.f.now _ _ (ap (λ ts. names_text true (map type_name_of ts)) c.into_iter-ty-iterator.ensures.into_iter_gives ∙ ap (names_text true) c.iter-ty-items.ensures.members) (record { wrote = writes_in_calls_nil _ _; plain = p })

pub returns : goal.returns
returns g c = λ p ok. names_shown _ c.args.f.now c.loop-ty.f c.loop-ty.is_first c.loop-ty.ty-iterator _ (c.loop-ty.invariant p) c.in-None.ensures.steps.0
