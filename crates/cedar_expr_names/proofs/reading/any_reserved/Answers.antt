use Rattle.std.proofs.Common.{sym, ◌∙◌, rules, tests}
use Rattle.std.specs.Str.{bytes_eq}
use Rattle.std.proofs.lemmas.Iterator.{YieldsList-from_slice}
use Rattle.std.proofs.lemmas.Iterator.Search.{any_from_yields_List}
use Rattle.cedar_expr_model.specs.Name.{reserved}
use Rattle.cedar_expr_names.specs.Ids.{id_text}
use Rattle.cedar_expr_names.proofs.PartByPart.{any_map}
use Rattle.cedar_expr_names.proofs.reading.any_reserved.Goals as goal

pub returns : goal.returns
returns c =
    any_from_yields_List (λ i. bytes_eq reserved (id_text i)) _ _ c.any.result c.any.ensures.ran (YieldsList-from_slice c.args.parts.now cc) (λ x b q k. search (rules, tests))
    ∙ sym (any_map (bytes_eq reserved) id_text c.args.parts.now)
