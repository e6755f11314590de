-- What the code's facts are in the model.
-- Rule: typing (docs/RULES.md).
use Rattle.std.specs.Prelude.{Bool, List, ◌≡◌, true}
use Rattle.std.specs.List.{list_any}
use Rattle.std.specs.Rc.{rc_str_bytes}
use Rattle.cedar_expr_model.specs.Tree.{Tree}
use Rattle.cedar_expr_shapes.specs.Shapes.{shape_of}
use Rattle.cedar_typechecker_model.specs.Facts.{Facts, fact, Part, attribute_part, tag_part}
use Rattle.cedar_typechecker_environments.specs.declared.facts.Capability.{Capability}
use Rattle.cedar_typechecker_environments.specs.declared.facts.Capability.TheVariants.{Attribute, Tag}
use Rattle.cedar_typechecker_environments.specs.declared.facts.CapabilitySet.{CapabilitySet}

-- the expression, and what it has
abbrev pub capability_of : Capability → Tree × Part
capability_of (Attribute e a) = (shape_of e, attribute_part (rc_str_bytes a))
capability_of (Tag e t) = (shape_of e, tag_part (shape_of t))

-- whether the fact is that the expression has the part
abbrev pub is_of : Tree → Part → Capability → Bool
is_of e p k = fact (capability_of k).0 (capability_of k).1 e p

-- the facts of these
abbrev pub facts_among : List Capability → Facts
facts_among ks = λ e p. list_any (is_of e p) ks

abbrev pub facts_of : CapabilitySet → Facts
facts_of c = facts_among c.capabilities

-- What is equal is hashed alike.
abbrev pub AreHashedAlike : {A B : Type 0} → (A → A → Bool) → (A → B) → Type 0
AreHashedAlike {A} eq hash = (a b : A) → eq a b ≡ true → hash a ≡ hash b
