use Rattle.std.proofs.Common.{◌≡◌, map, sym, ap, ◌∙◌, rules, Result, Ok, Err, Some, IfOk}
use Rattle.cedar_expr_model.proofs.Reading.{read_writes}
use Rattle.cedar_expr_model.specs.Name.{Text, name_read, name_text}
use Rattle.cedar_expr_names.specs.declared.err.NameError.{NameError}
use Rattle.cedar_expr_names.specs.declared.internal_name.InternalName.{InternalName}
use Rattle.cedar_expr_names.specs.Parts.{id_text, name_of}
use Rattle.cedar_expr_names.proofs.PartByPart.{read_from, takes}
use Rattle.cedar_expr_names.proofs.internal_name.InternalName.from_normalized_str.Goals as goal

pub loop-part-preserved : goal.loop-part-preserved
loop-part-preserved c = (
  search rules,
  c.loop-part.invariant.1
      ∙ takes (map id_text c.loop-part.path.items) c.loop-part.rest.now c.in-Some.part.now c.in-Some.next.now c.in-Some.ensures.first c.in_ok-path.ensures.identifies
      ∙ ap (λ ids. read_from ids c.in-Some.next.now) (sym c.in_ok-path.ensures.read),
)

-- a name that is read has the text that was read
shown : (text : Text) (r : Result InternalName NameError) → IfOk r (λ n. name_read text ≡ Some (name_of n)) → IfOk r (λ n. name_text (name_of n) ≡ text)
shown text (Ok n) h = sym (read_writes text (name_of n) h).whole
shown text (Err e) h = h

pub returns-clause-shown : goal.returns-clause-shown
returns-clause-shown c = shown c.args.text.now c.map_err.result (search rules)
