use Rattle.std.proofs.Common.{◌≡◌, ◌++◌, refl, ap, ◌∙◌, arith, rules}
use Rattle.std.specs.Prelude.{string_bytes}
use Rattle.cedar_expr_names.specs.Ids.{id_text}
use Rattle.cedar_expr_names.proofs.Writing.{all_joined}
use Rattle.cedar_expr_names.proofs.reading.joined_text.Goals as goal

pub returns : goal.returns
returns c =
    let base = id_text c.args.base.now in
    let last : string_bytes c.push_str-2.new.self ≡ string_bytes c.loop-part.text ++ base = search rules in
    last ∙ ap (λ t. t ++ base) c.loop-part.invariant ∙ all_joined c.args.path.now c.args.path.now c.loop-part.part-index base refl (omega arith)
