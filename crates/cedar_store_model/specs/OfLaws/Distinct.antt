-- Sets of policies in which no id is repeated.
-- Rule: policies and templates (docs/RULES.md).
use Rattle.std.specs.Prelude.{map, ◌++◌, Bool, is_none}
use Rattle.std.specs.Str.{bytes_eq}
use Rattle.cedar_expr_model.specs.Repeats.{repeated}
use Rattle.cedar_store_model.specs.PolicySet.{PolicySet}

-- no id is used twice, be it by templates or policies
abbrev pub has_distinct_ids : PolicySet → Bool
has_distinct_ids s = is_none (repeated bytes_eq (map (λ p. p.id) (s.templates ++ s.policies)))
