-- The tests of a policy over its environments decide the verdicts.
use Rattle.std.proofs.Common.{◌≡◌, ◌↔◌, Bool, true, List, Option, Some, refl, ap, ◌∙◌, Decides}
use Rattle.std.specs.Prelude.{Contains}
use Rattle.std.specs.List.{list_all, filter}
use Rattle.cedar_expr_model.specs.Tree.{Tree}
use Rattle.cedar_expr_model.specs.Table.{Table}
use Rattle.cedar_expr_model.proofs.Lists.{all-Decides, filter_has, filter_only}
use Rattle.cedar_store_model.specs.Policy.{Policy, condition}
use Rattle.cedar_schema_model.specs.Types.{BoolType, any_bool, only_true, only_false, Ty, bool_type, Mode}
use Rattle.cedar_schema_model.specs.Schema.{Schema}
use Rattle.cedar_schema_model.specs.Environment.{Environment}
use Rattle.cedar_typechecker_model.specs.Rules.{Setting}
use Rattle.cedar_typechecker_model.specs.Typing.{type_of}
use Rattle.cedar_typechecker_model.specs.Verdicts.{policy_environments, in_mode, strictly, HasBool, HasFalse, PassesIn, passes_in, IsWarned, is_warned, fits, IsImpossible, impossible, RequestType, is_of_request, IsIrrelevant, irrelevant_for, Verdict, success, irrelevant, fail, HasVerdict, verdict_of, is_bool, is_false, condition_type}
use Rattle.cedar_typechecker_model.proofs.Typing.{has_its_type, type_is}

bool_there : (found : Option Ty) → is_bool found ≡ true → (b : BoolType) × (found ≡ Some (bool_type b))
bool_there (Some (bool_type b)) h = (b, refl)
bool_there found h = cc

false_there : (found : Option Ty) → is_false found ≡ true → found ≡ Some (bool_type only_false)
false_there (Some (bool_type only_false)) h = refl
false_there found h = cc

pub is_bool-Decides : (s : Setting) (t : Tree) → Decides (is_bool (type_of s t)) (HasBool s t)
is_bool-Decides s t = (
  λ h. let r = bool_there (type_of s t) h in let k = has_its_type s t (bool_type r.0) r.1 in (r.0, k.0, k.1),
  λ h. ap is_bool (type_is s t (bool_type h.0) h.1 h.2),
)

pub is_false-Decides : (s : Setting) (t : Tree) → Decides (is_false (type_of s t)) (HasFalse s t)
is_false-Decides s t = (
  λ h. has_its_type s t (bool_type only_false) (false_there (type_of s t) h),
  λ h. ap is_false (type_is s t (bool_type only_false) h.0 h.1),
)

pub passes-Decides : (m : Mode) (s : Schema) (x : Table) (p : Policy) → Decides (passes_in m s x p) (PassesIn m s x p)
passes-Decides m s x p = all-Decides (λ (e : Environment). is_bool (type_of (in_mode m s x e) (condition p))) (λ e. HasBool (in_mode m s x e) (condition p)) (λ e. is_bool-Decides (in_mode m s x e) (condition p)) (policy_environments s p)

pub is_warned-Decides : (m : Mode) (s : Schema) (x : Table) (p : Policy) → Decides (is_warned m s x p) (IsWarned m s x p)
is_warned-Decides m s x p = all-Decides (λ (e : Environment). is_false (type_of (in_mode m s x e) (condition p))) (λ e. HasFalse (in_mode m s x e) (condition p)) (λ e. is_false-Decides (in_mode m s x e) (condition p)) (policy_environments s p)

-- a test of each item that passes another
filtered-Decides : {X : Type 0} (q p : X → Bool) (P : X → Type 0) → ((x : X) → Decides (p x) (P x)) → (xs : List X) → Decides (list_all p (filter q xs)) ((x : X) → Contains xs x → q x ≡ true → P x)
filtered-Decides q p P each xs =
    let d = all-Decides p P each (filter q xs) in
    (λ h x k e. d.0 h x (filter_has q xs x k e), λ h. d.1 (λ x k. let r = filter_only q xs x k in h x r.0 r.1))

filtered_twice-Decides : {X : Type 0} (r q p : X → Bool) (P : X → Type 0) → ((x : X) → Decides (p x) (P x)) → (xs : List X) → Decides (list_all p (filter r (filter q xs))) ((x : X) → Contains xs x → q x ≡ true → r x ≡ true → P x)
filtered_twice-Decides r q p P each xs =
    let d = filtered-Decides r p P each (filter q xs) in
    (λ h x k e. d.0 h x (filter_has q xs x k e), λ h. d.1 (λ x k e. let n = filter_only q xs x k in h x n.0 n.1 e))

pub impossible-Decides : (s : Schema) (x : Table) (p : Policy) → Decides (impossible s x p) (IsImpossible s x p)
impossible-Decides s x p = filtered-Decides (fits p) (λ (e : Environment). is_false (condition_type s x p e)) (λ (e : Environment). HasFalse (strictly s x e) (condition p)) (λ e. is_false-Decides (strictly s x e) (condition p)) (policy_environments s p)

pub irrelevant-Decides : (s : Schema) (x : Table) (r : RequestType) (p : Policy) → Decides (irrelevant_for s x r p) (IsIrrelevant s x r p)
irrelevant-Decides s x r p = filtered_twice-Decides (is_of_request r) (fits p) (λ (e : Environment). is_false (condition_type s x p e)) (λ (e : Environment). HasFalse (strictly s x e) (condition p)) (λ e. is_false-Decides (strictly s x e) (condition p)) (policy_environments s p)

success_there : (found : Option Ty) → verdict_of found ≡ success → (b : BoolType) × (b ≡ only_false → ⊥) × (found ≡ Some (bool_type b))
success_there (Some (bool_type any_bool)) h = (any_bool, (λ e. cc), refl)
success_there (Some (bool_type only_true)) h = (only_true, (λ e. cc), refl)
success_there found h = cc

irrelevant_there : (found : Option Ty) → verdict_of found ≡ irrelevant → found ≡ Some (bool_type only_false)
irrelevant_there (Some (bool_type only_false)) h = refl
irrelevant_there found h = cc

is_success : (b : BoolType) → (b ≡ only_false → ⊥) → verdict_of (Some (bool_type b)) ≡ success
is_success only_false h = absurd (h refl)
is_success b h = refl

-- a failed check has no type of truth values
fails : (found : Option Ty) → (is_bool found ≡ true → ⊥) → verdict_of found ≡ fail
fails (Some (bool_type b)) h = absurd (h refl)
fails found h = refl

no_bool : (found : Option Ty) → verdict_of found ≡ fail → is_bool found ≡ true → ⊥
no_bool (Some (bool_type any_bool)) h e = cc
no_bool (Some (bool_type only_true)) h e = cc
no_bool (Some (bool_type only_false)) h e = cc
no_bool found h e = cc

pub verdict-Decides : (s : Setting) (t : Tree) (v : Verdict) → (verdict_of (type_of s t) ≡ v) ↔ HasVerdict s t v
verdict-Decides s t success = (
  λ h. let r = success_there (type_of s t) h in let k = has_its_type s t (bool_type r.0) r.2 in (r.0, k.0, r.1, k.1),
  λ h. ap verdict_of (type_is s t (bool_type h.0) h.1 h.3) ∙ is_success h.0 h.2,
)
verdict-Decides s t irrelevant = (
  λ h. has_its_type s t (bool_type only_false) (irrelevant_there (type_of s t) h),
  λ h. ap verdict_of (type_is s t (bool_type only_false) h.0 h.1),
)
verdict-Decides s t fail = (
  λ h k. no_bool (type_of s t) h ((is_bool-Decides s t).1 k),
  λ h. fails (type_of s t) (λ e. h ((is_bool-Decides s t).0 e)),
)
