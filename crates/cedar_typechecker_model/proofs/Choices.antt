-- What a walk meets behind a part, and at a step, is what the counts say.
use Rattle.std.proofs.Common.{◌≡◌, ℕ, zero, suc, ◌<◌, ◌≤◌, ◌+◌, Bool, true, false, List, [], ◌∷◌, ◌++◌, Option, Some, None, refl, ap, ◌∙◌, append-nil, arith}
use Rattle.std.proofs.Math.Dec.{eqb-suc-zero}
use Rattle.std.proofs.lemmas.Bool.Decides.{leb_tells}
use Rattle.std.specs.Prelude.{max, nat_le, if◌then◌else◌}
use Rattle.cedar_expr_model.specs.Tree.{Tree}
use Rattle.cedar_schema_model.specs.Types.{any_bool, only_true, only_false, Ty, never, bool_type, long_type, string_type, any_entity, entity_types, any_set, set_type, record_type, extension_type}
use Rattle.cedar_typechecker_model.specs.Levels.{Violation, Count, further, needed, stepped, path_violations, unless_false, unless_true}
use Rattle.cedar_typechecker_model.specs.Counts.{behind, behind_test, target_behind_test}
use Rattle.cedar_typechecker_model.specs.Reported.{further_on, may_be_true, may_be_false, taken, taken_steps, too_far, path_reported}
use Rattle.cedar_typechecker_model.proofs.Numbers.{needed_again, needed_twice, needed_max, max_none, none_max}

pub and_is : (o : Option Ty) (vs : List Violation) → taken (may_be_true o) vs ≡ behind unless_false o vs
and_is None vs = refl
and_is (Some (bool_type only_false)) vs = refl
and_is (Some (bool_type only_true)) vs = refl
and_is (Some (bool_type any_bool)) vs = refl
and_is (Some never) vs = refl
and_is (Some long_type) vs = refl
and_is (Some string_type) vs = refl
and_is (Some any_entity) vs = refl
and_is (Some (entity_types ns)) vs = refl
and_is (Some any_set) vs = refl
and_is (Some (set_type t)) vs = refl
and_is (Some (record_type as_ r)) vs = refl
and_is (Some (extension_type n)) vs = refl

pub or_is : (o : Option Ty) (vs : List Violation) → taken (may_be_false o) vs ≡ behind unless_true o vs
or_is None vs = refl
or_is (Some (bool_type only_true)) vs = refl
or_is (Some (bool_type only_false)) vs = refl
or_is (Some (bool_type any_bool)) vs = refl
or_is (Some never) vs = refl
or_is (Some long_type) vs = refl
or_is (Some string_type) vs = refl
or_is (Some any_entity) vs = refl
or_is (Some (entity_types ns)) vs = refl
or_is (Some any_set) vs = refl
or_is (Some (set_type t)) vs = refl
or_is (Some (record_type as_ r)) vs = refl
or_is (Some (extension_type n)) vs = refl

pub choice_is : (o : Option Ty) (vs ws : List Violation) → taken (may_be_true o) vs ++ taken (may_be_false o) ws ≡ behind_test o vs ws
choice_is None vs ws = refl
choice_is (Some (bool_type only_true)) vs ws = append-nil vs
choice_is (Some (bool_type only_false)) vs ws = refl
choice_is (Some (bool_type any_bool)) vs ws = refl
choice_is (Some never) vs ws = refl
choice_is (Some long_type) vs ws = refl
choice_is (Some string_type) vs ws = refl
choice_is (Some any_entity) vs ws = refl
choice_is (Some (entity_types ns)) vs ws = refl
choice_is (Some any_set) vs ws = refl
choice_is (Some (set_type t)) vs ws = refl
choice_is (Some (record_type as_ r)) vs ws = refl
choice_is (Some (extension_type n)) vs ws = refl

pub target_found_is : (o : Option Ty) (c d : Count) → taken (may_be_true o) c.found ++ taken (may_be_false o) d.found ≡ (target_behind_test o c d).found
target_found_is None c d = refl
target_found_is (Some (bool_type only_true)) c d = append-nil c.found
target_found_is (Some (bool_type only_false)) c d = refl
target_found_is (Some (bool_type any_bool)) c d = refl
target_found_is (Some never) c d = refl
target_found_is (Some long_type) c d = refl
target_found_is (Some string_type) c d = refl
target_found_is (Some any_entity) c d = refl
target_found_is (Some (entity_types ns)) c d = refl
target_found_is (Some any_set) c d = refl
target_found_is (Some (set_type t)) c d = refl
target_found_is (Some (record_type as_ r)) c d = refl
target_found_is (Some (extension_type n)) c d = refl

pub target_steps_is : (o : Option Ty) (c d : Count) → max (taken_steps (may_be_true o) (needed c.steps)) (taken_steps (may_be_false o) (needed d.steps)) ≡ needed (target_behind_test o c d).steps
target_steps_is None c d = refl
target_steps_is (Some (bool_type only_true)) c d = max_none (needed c.steps)
target_steps_is (Some (bool_type only_false)) c d = none_max (needed d.steps)
target_steps_is (Some (bool_type any_bool)) c d = needed_max c.steps d.steps
target_steps_is (Some never) c d = needed_max c.steps d.steps
target_steps_is (Some long_type) c d = needed_max c.steps d.steps
target_steps_is (Some string_type) c d = needed_max c.steps d.steps
target_steps_is (Some any_entity) c d = needed_max c.steps d.steps
target_steps_is (Some (entity_types ns)) c d = needed_max c.steps d.steps
target_steps_is (Some any_set) c d = needed_max c.steps d.steps
target_steps_is (Some (set_type t)) c d = needed_max c.steps d.steps
target_steps_is (Some (record_type as_ r)) c d = needed_max c.steps d.steps
target_steps_is (Some (extension_type n)) c d = needed_max c.steps d.steps

-- a number is within a level of 32 bits exactly where it is so up to the greatest
same_test : (w n : ℕ) → n < 4294967296 → nat_le (needed w) n ≡ nat_le w n
same_test w n small = by (nat_le w n) refl (nat_le (needed w) n) refl
  where
    by : (b : Bool) → nat_le w n ≡ b → (d : Bool) → nat_le (needed w) n ≡ d → d ≡ b
    by true p true q = refl
    by false p false q = refl
    by true p false q =
        let l : w ≤ n = grind (arith, leb_tells w n, p) in
        let k : n < needed w = grind (arith, leb_tells (needed w) n, q) in
        absurd (omega (arith, l, k))
    by false p true q =
        let l : n < w = grind (arith, leb_tells w n, p) in
        let k : needed w ≤ n = grind (arith, leb_tells (needed w) n, q) in
        absurd (omega (arith, l, k, small))

within : (n : ℕ) (x : Tree) (w : ℕ) (vs : List Violation) (b : Bool) → (if b then [] else (record { at = x; required = Some (needed w) } ∷ [])) ++ vs ≡ (if b then vs else (record { at = x; required = Some (needed w) } ∷ vs))
within n x w vs true = refl
within n x w vs false = refl

-- a step, from a target that is counted so
pub step_is : (n : ℕ) (x : Tree) (k j : ℕ) (vs : List Violation) (c : Count) → n < 4294967296 → j ≡ needed c.steps → vs ≡ c.found → too_far n x (further_on k j) ++ vs ≡ stepped n x (further k c)
step_is n x k j vs c small is found =
    let w : ℕ = c.steps + k in
    let same : further_on k j ≡ needed w = ap (further_on k) is ∙ needed_again c.steps k in
    (λ i. too_far n x (same i) ++ found i)
    ∙ ap (λ (b : Bool). (if b then [] else (record { at = x; required = Some (needed w) } ∷ [])) ++ c.found) (same_test w n small)
    ∙ within n x w c.found (nat_le w n)

-- a path with so many steps on entities
pub path_is : (n : ℕ) (x : Tree) (k j : ℕ) (vs ws inside : List Violation) (c : Count) → n < 4294967296 → j ≡ needed c.steps → vs ≡ c.found → ws ≡ inside → path_reported n x (needed k) j vs ws ≡ path_violations n x k c inside
path_is n x zero j vs ws inside c small is found at = at
path_is n x (suc k) j vs ws inside c small is found at =
    some (needed (suc k)) (omega arith)
    ∙ ap (λ m. too_far n x m ++ vs) (needed_twice j (suc k))
    ∙ step_is n x (suc k) j vs c small is found
  where
    some : (m : ℕ) → 0 < m → path_reported n x m j vs ws ≡ too_far n x (further_on m j) ++ vs
    some zero h = absurd (omega (arith, h))
    some (suc m) h = ap (λ (b : Bool). if b then ws else (too_far n x (further_on (suc m) j) ++ vs)) (eqb-suc-zero m)
