-- Annotations and the types of values.
use Rattle.std.proofs.Common.{◌≡◌, Bool, true, false, List, ◌∷◌, Option, Some, None, Result, Ok, Err, IfErr, subst, sym, ap, ◌∙◌}
use Rattle.std.specs.Option.{option_or}
use Rattle.std.specs.Result.{IsErrAnd}
use Rattle.std.specs.Prelude.{if◌then◌else◌}
use Rattle.cedar_expr_model.specs.Name.{Text}
use Rattle.cedar_expr_model.specs.Tree.{CoreType}
use Rattle.cedar_expr_model.specs.Order.{core_eq}
use Rattle.cedar_expr_model.specs.Made.{Made, bare}
use Rattle.cedar_expr_model.specs.Lists.{first_found}
use Rattle.cedar_expr_model.specs.Substitution.{Mismatch, mismatch_at, core_type_of}
use Rattle.cedar_expr_substitution.specs.Bound.{IsMismatch}
use Rattle.cedar_expr_substitution.specs.declared.err.SubstitutionError.{SubstitutionError}
use Rattle.cedar_expr_substitution.specs.declared.err.SubstitutionError.TheVariants.{OutOfMemory, TypeError}

module _ (n : Text) (a : Option CoreType) (o : Option Made) (c d : CoreType) (m : Made) where
  abbrev differ : Mismatch
  differ = record { name = n; annotation = c; actual = d }

  told : a ≡ Some c → o ≡ Some m → d ≡ core_type_of (bare m) → (b : Bool) → core_eq c d ≡ b → mismatch_at n a o ≡ (if b then None else Some differ)
  told h k e b q =
      ap (λ x. mismatch_at n x o) h
      ∙ ap (mismatch_at n (Some c)) k
      ∙ ap (λ x. if core_eq c x then None else Some (record { name = n; annotation = c; actual = x })) (sym e)
      ∙ ap (λ x. if x then None else Some differ) q

  -- a value of the annotation is no mismatch, and one of another type is
  pub fits : a ≡ Some c → o ≡ Some m → d ≡ core_type_of (bare m) → core_eq c d ≡ true → mismatch_at n a o ≡ None
  fits h k e q = told h k e true q

  pub differs : a ≡ Some c → o ≡ Some m → d ≡ core_type_of (bare m) → core_eq c d ≡ false → mismatch_at n a o ≡ Some differ
  differs h k e q = told h k e false q

-- what is found at the first is what is found
pub first_refused : {A B : Type 0} (f : A → Option B) (x : A) (xs : List A) (b : B) → f x ≡ Some b → first_found f (x ∷ xs) ≡ Some b
first_refused f x xs b h = ap (λ o. option_or o (first_found f xs)) h

-- a refusal that is handed on
pub mismatch_passes : {B : Type 0} (m n : Option Mismatch) (r : Result B SubstitutionError) (e : SubstitutionError) → IsErrAnd r (λ y. y ≡ e) → IsMismatch m e → ((x : Mismatch) → m ≡ Some x → n ≡ Some x) → IfErr r (IsMismatch n)
mismatch_passes m n (Ok b) e h k l = tt
mismatch_passes m n (Err y) e h k l = subst (IsMismatch n) (sym h) (go e k)
  where
    go : (e : SubstitutionError) → IsMismatch m e → IsMismatch n e
    go OutOfMemory k = tt
    go (TypeError name expected actual) k = l _ k
