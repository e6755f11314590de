-- The types that are due for further arguments.
-- Rule: typing (docs/RULES.md).
use Rattle.std.specs.Prelude.{List, [], ◌∷◌}
use Rattle.cedar_schema_model.specs.Types.{Ty}

-- without the first, but the last stays
abbrev pub after_one : List Ty → List Ty
after_one (p ∷ q ∷ ps) = q ∷ ps
after_one ps = ps
