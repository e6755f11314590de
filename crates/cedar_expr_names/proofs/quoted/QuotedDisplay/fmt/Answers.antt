use Rattle.std.proofs.Common.{◌≡◌, ◌∷◌, ◌++◌, [], sym, ap, ◌∙◌, rules}
use Rattle.std.proofs.Output.{has_written_append, has_written_of_eq}
use Rattle.std.proofs.lemmas.List.{map-id, flat_map_more}
use Rattle.std.proofs.lemmas.Iterator.{YieldsList-from_chars}
use Rattle.std.proofs.lemmas.Iterator.Consumers.{YieldsList-end}
use Rattle.std.specs.List.{flat_map}
use Rattle.std.specs.Str.{IsUtf8, chars}
use Rattle.cedar_expr_model.specs.Uid.{escaped}
use Rattle.cedar_expr_names.proofs.quoted.QuotedDisplay.fmt.Goals as goal

pub returns-clause-writes : goal.returns-clause-writes
returns-clause-writes g c plain ok =
    let text = c.args.self.now.0.now in
    let is_text : IsUtf8 text = search rules in
    let all = YieldsList-end (YieldsList-from_chars text is_text cc) c.loop-c.yielded _ c.loop-c.yielded_by _ _ c.in-None.is c.next.ensures.steps in
    let same : c.loop-c.yielded ≡ chars text = sym (map-id c.loop-c.yielded) ∙ all.0 in
    has_written_of_eq _ _ _ _ _ (ap (λ cs. 34 ∷ (flat_map escaped cs ++ (34 ∷ []))) same) (has_written_append _ _ _ _ _ _ (c.loop-c.invariant plain) (search rules))

pub loop-c-preserved : goal.loop-c-preserved
loop-c-preserved g c = λ plain. has_written_of_eq _ _ _ _ _ (flat_map_more escaped (34 ∷ []) c.loop-c.yielded c.in-Some.c) (has_written_append _ _ _ _ _ _ (c.loop-c.invariant plain) (search rules))
