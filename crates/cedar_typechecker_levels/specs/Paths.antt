-- The names of an access path.
-- Rule: levels (docs/RULES.md).
use Rattle.std.specs.Prelude.{List, [], ◌∷◌, map, Option, Some, None}
use Rattle.std.specs.Rc.{rc_str_bytes}
use Rattle.cedar_expr_model.specs.Name.{Text}
use Rattle.cedar_typechecker_levels.specs.declared.path.Path.{Path, fold-Path}
use Rattle.cedar_typechecker_levels.specs.declared.path.Path.TheOpen.{Path-F}

abbrev pub path_step : Path-F (List Text) → List Text
path_step Path-F.End = []
path_step (Path-F.Names names) = map rc_str_bytes names.now
path_step (Path-F.Before a names) = rc_str_bytes a.now ∷ map rc_str_bytes names.now
path_step (Path-F.Then a path) = rc_str_bytes a.now ∷ path.now

abbrev pub path_of : Path → List Text
path_of = fold-Path (List Text) path_step

-- the first apart from the others
abbrev pub first_apart : {A : Type 0} → List A → Option (A × List A)
first_apart [] = None
first_apart (a ∷ as_) = Some (a, as_)
