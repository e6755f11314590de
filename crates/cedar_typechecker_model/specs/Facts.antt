-- Facts: that an expression has an attribute, or a tag. They hold where the expression that gives them is true.
-- Rule: typing (docs/RULES.md).
use Rattle.std.specs.Prelude.{◌&&◌, ◌||◌, Bool, false}
use Rattle.std.specs.Str.{bytes_eq}
use Rattle.cedar_expr_model.specs.Name.{Text}
use Rattle.cedar_expr_model.specs.Tree.{Tree}
use Rattle.cedar_expr_model.specs.Shape.{tree_eq}

-- what an expression has: an attribute, or the tag that an expression names
pub data Part : Type 0 where
  attribute_part : Text → Part
  tag_part : Tree → Part

abbrev pub part_eq : Part → Part → Bool
part_eq (attribute_part a) (attribute_part b) = bytes_eq a b
part_eq (tag_part t) (tag_part u) = tree_eq t u
part_eq p q = false

abbrev pub Facts : Type 0
Facts = Tree → Part → Bool

abbrev pub no_facts : Facts
no_facts = λ e part. false

-- the one fact that the expression has the part
abbrev pub fact : Tree → Part → Facts
fact e p = λ e' p'. tree_eq e e' && part_eq p p'

abbrev pub union : Facts → Facts → Facts
union f g = λ e part. f e part || g e part

abbrev pub intersection : Facts → Facts → Facts
intersection f g = λ e part. f e part && g e part
