-- What a lawful builder keeps to, and the form of the expressions that it makes.
-- Rule: expressions (docs/RULES.md).
use Rattle.std.specs.Prelude.{◌≡◌, ◌&&◌, ◌||◌, [], Bool}
use Rattle.cedar_expr_model.specs.Name.{Text}
use Rattle.cedar_expr_model.specs.Value.{truth}
use Rattle.cedar_expr_model.specs.Builder.{Builder}

-- A lawful builder makes of two truth values their literal, and of a path of one attribute the plain test.
pub record IsLawful {B : Type 0} (b : Builder B) : Type 0 where
  pub conjoins : (x y : Bool) → b.of_both (b.of_lit (truth x)) (b.of_lit (truth y)) ≡ b.of_lit (truth (x && y))
  pub disjoins : (x y : Bool) → b.of_either (b.of_lit (truth x)) (b.of_lit (truth y)) ≡ b.of_lit (truth (x || y))
  pub walks_one : (t : B) (a : Text) → b.of_path t a [] ≡ b.of_has t a
