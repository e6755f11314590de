-- What the laws of builders say.
-- Rule: expressions; substitution (docs/RULES.md).
use Rattle.std.specs.Prelude.{◌≡◌, List, Option}
use Rattle.std.specs.declared.result.Result.TheVariants.{Ok}
use Rattle.cedar_expr_model.specs.Name.{Name}
use Rattle.cedar_expr_model.specs.Tree.{Tree}
use Rattle.cedar_expr_model.specs.Builder.{Builder, built, tree_builder}
use Rattle.cedar_expr_model.specs.BuilderForm.{IsLawful}
use Rattle.cedar_expr_model.specs.Substitution.{Bindings, substituted, built_under}
use Rattle.cedar_expr_builders.specs.Refusing.{refusing, built_or_refused}
use Rattle.cedar_expr_builders.specs.Views.{refuses_nothing}

-- to rebuild an expression and then to build it, through a lawful builder, is to build it
abbrev pub RebuildsOnce : Type 0 → Type 0
RebuildsOnce B = (b : Builder B) → IsLawful b → (t : Tree) → built b (built tree_builder t) ≡ built b t

-- a lawful builder stays one where it refuses calls
abbrev pub StaysLawful : Type 0 → Type 0 → Type 0
StaysLawful M R = (b : Builder M) (refuses : Name → List M → Option R) → IsLawful b → IsLawful (refusing b refuses)

-- where nothing is refused all is made
abbrev pub MakesAll : Type 0 → Type 0 → Type 0
MakesAll M R = (b : Builder M) (t : Tree) → built_or_refused b (refuses_nothing {R = R}) t ≡ Ok (built b t)

-- To substitute and then to build, refusals and all, is to build with each bound unknown made of its value.
abbrev pub RefusalsAgree : Type 0 → Type 0 → Type 0
RefusalsAgree M R = (b : Builder M) (refuses : Name → List M → Option R) → IsLawful b → (env : Bindings) (t : Tree) → built_or_refused b refuses (substituted env t) ≡ built_under (refusing b refuses) env t
