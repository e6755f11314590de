-- The first character of a text stands before those of the rest.
use Rattle.std.proofs.Common.{rules}
use Rattle.std.proofs.lemmas.Str.{chars_past_char}
use Rattle.cedar_expr_leaves.proofs.matching.split_char.Goals as goal

pub returns : goal.returns
returns c = search (rules, chars_past_char)
