-- What patterns hold, as the model's.
-- Rule: patterns (docs/RULES.md).
use Rattle.std.specs.Prelude.{List, map}
use Rattle.cedar_expr_model.specs.Pattern as model
use Rattle.cedar_expr_model.specs.Pattern.{Element, character, wildcard}
use Rattle.cedar_expr_leaves.specs.declared.pattern.PatternElem.{PatternElem}
use Rattle.cedar_expr_leaves.specs.declared.pattern.PatternElem.TheVariants.{Char, Wildcard}
use Rattle.cedar_expr_leaves.specs.declared.pattern.Pattern.{Pattern}

-- the element that a code element is
abbrev pub element_of : PatternElem → Element
element_of (Char c) = character c
element_of Wildcard = wildcard

-- the pattern that these elements are
abbrev pub elements_of : List PatternElem → model.Pattern
elements_of es = map element_of es

-- the pattern that a code pattern holds
abbrev pub pattern_of : Pattern → model.Pattern
pattern_of p = elements_of p.elems.value.items
