-- How many checks are still to come.
use Rattle.std.proofs.Common.{◌≡◌, ℕ, suc, ◌<◌, ◌≤◌, Bool, true, false, List, [], map, length, refl, ap, arith}
use Rattle.std.specs.Prelude.{if◌then◌else◌}
use Rattle.std.proofs.lemmas.List.{length-map}
use Rattle.cedar_schema_model.specs.Environment.{Environment}
use Rattle.cedar_typechecker_environments.specs.Settings.{environment_of}
use Rattle.cedar_typechecker_environments.specs.declared.request_env.RequestEnv.{RequestEnv}

-- the environments that are left, and how many items may come, of an iterator that is begun or isn't
abbrev left : Bool → List RequestEnv → List Environment → List Environment
left b xs es = if b then map environment_of xs else es

abbrev to_come : Bool → List RequestEnv → List Environment → ℕ
to_come b xs es = if b then length xs else suc (length es)

at_least : (b : Bool) (xs : List RequestEnv) (es : List Environment) → length (left b xs es) ≤ to_come b xs es
at_least true xs es = omega (arith, length-map xs environment_of)
at_least false xs es = omega arith

all_that_come : (b : Bool) (xs : List RequestEnv) (es : List Environment) → b ≡ true → to_come b xs es ≡ length xs
all_that_come true xs es h = refl
all_that_come false xs es h = absurd (cc)

all_that_are_left : (b : Bool) (xs : List RequestEnv) (es : List Environment) → b ≡ true → length (left b xs es) ≡ length xs
all_that_are_left true xs es h = length-map xs environment_of
all_that_are_left false xs es h = absurd (cc)

-- once it is begun and has fewer, fewer come
pub fewer : (b begun after : Bool) (xs ys zs : List RequestEnv) (es fs gs : List Environment) → begun ≡ true → left begun ys fs ≡ left b xs es → after ≡ true → length zs < length ys → to_come after zs gs < to_come b xs es
fewer b begun after xs ys zs es fs gs is same stays less =
    omega (arith, all_that_come after zs gs stays, all_that_are_left begun ys fs is, ap length same, at_least b xs es)

-- one that couldn't begin ends, and none comes
pub ended : (b after : Bool) (xs zs : List RequestEnv) (es gs : List Environment) → b ≡ false → after ≡ true → zs ≡ [] → to_come after zs gs < to_come b xs es
ended true after xs zs es gs h stays none = absurd (cc)
ended false after xs zs es gs h stays none = omega (arith, all_that_come after zs gs stays, ap length none)
