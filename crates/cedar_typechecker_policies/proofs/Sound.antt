-- What a policy that passes in the strict mode promises of its meaning.
use Rattle.std.proofs.Common.{◌≡◌, ℕ, true, List, [], ◌∷◌, refl, sym, ap, subst, ◌∙◌}
use Rattle.std.specs.Prelude.{option_map}
use Rattle.cedar_expr_model.specs.Lists.{is_nil}
use Rattle.cedar_expr_model.specs.Table.{Table}
use Rattle.cedar_expr_model.specs.Tree.{Tree}
use Rattle.cedar_expr_model.specs.Value.{V}
use Rattle.cedar_typechecker_model.proofs.InReach.{conditions_are_in_reach}
use Rattle.cedar_schema_model.specs.Schema.{Schema}
use Rattle.cedar_schema_model.specs.Types.{BoolType, any_bool, bool_type, Mode, strict}
use Rattle.cedar_store_model.specs.Outcome.{Res, val, err}
use Rattle.cedar_store_model.specs.Policy.{Policy}
use Rattle.cedar_store_model.proofs.Known.{an_outcome}
use Rattle.cedar_typechecker_model.specs.Facts.{no_facts}
use Rattle.cedar_typechecker_model.specs.Rules.{Setting}
use Rattle.cedar_typechecker_model.specs.Soundness.{IsGood}
use Rattle.cedar_typechecker_model.specs.Typing.{type_of}
use Rattle.cedar_typechecker_model.specs.Verdicts.{in_mode, strictly, Passes, is_bool, passes_in, policy_violations, policy_violations_in}
use Rattle.cedar_typechecker_model.proofs.Sound.Connectives.{in_any}
use Rattle.cedar_typechecker_model.proofs.Sound.Facts.{hold_none}
use Rattle.cedar_typechecker_model.proofs.Sound.Policies.{conforming, passing_is_sound, types_are_sound}
use Rattle.cedar_typechecker_model.proofs.Verdicts.{is_bool-Decides, passes-Decides}
use Rattle.cedar_typechecker_policies.specs.Sound.{ForAlike, MeansTruth, PolicyMeansTruth, LooksInReach, with_bindings}
use Rattle.cedar_typechecker_model.specs.Alike.{AnswersAlike, HasSameSignatures}
use Rattle.cedar_typechecker_model.proofs.Alike.Policies.{types_alike, passing_alike, levels_alike}

any_good : (b : BoolType) (r : Res V) → IsGood (bool_type b) r → IsGood (bool_type any_bool) r
any_good b (val v) h = in_any b v h
any_good b (err f) h = h

module _ (m : Mode) (s : Schema) (x : Table) (p : Policy) (strictly_typed : m ≡ strict) (passes : passes_in m s x p ≡ true) where
  passes_alike : (d : Schema) (y : Table) → AnswersAlike s d → HasSameSignatures x y → (q : Policy) → passes_in strict s x q ≡ passes_in strict s x p → Passes d y q
  passes_alike d y alike same q e = (passes-Decides strict d y q).0 (sym (passing_alike s d alike x y same strict q) ∙ e ∙ subst (λ k. passes_in k s x p ≡ true) strictly_typed passes)

  -- one that passes means a truth value, or errs as expected
  pub passing_means : ForAlike s x (PolicyMeansTruth p)
  passing_means d y alike same b w o c whole bound conform =
      let q = with_bindings p b in
      passing_is_sound d y w q (conforming d y w o c) bound conform whole (passes_alike d y alike same q refl)

  nothing : {A : Type 0} (xs : List A) → is_nil xs ≡ true → xs ≡ []
  nothing [] h = refl
  nothing (z ∷ xs) h = absurd (cc)

  -- and what it looks up is in reach, where it has no violation
  pub passing_reaches : (n : ℕ) → policy_violations_in m n s x p ≡ [] → ForAlike s x (LooksInReach n p)
  passing_reaches n none d y alike same b w o c slice bound u looks =
      let q = with_bindings p b in
      let here : policy_violations_in strict n s x q ≡ [] = subst (λ k. policy_violations_in k n s x p ≡ []) strictly_typed none in
      let there = nothing (policy_violations n d y q) (sym (levels_alike s d alike x y same strict n q) ∙ ap is_nil here) in
      conditions_are_in_reach n d y w q o c slice bound (passes_alike d y alike same q refl) there u looks

-- an expression that is typed as a truth value in one environment means one there, or errs as expected, under each schema and table that answer
-- alike
module _ (k : Setting) (t : Tree) (strictly_typed : k.mode ≡ strict) (bool : is_bool (type_of k t) ≡ true) where
  type_alike : (d : Schema) (y : Table) → AnswersAlike k.schema d → HasSameSignatures k.table y → type_of (strictly d y k.env) t ≡ type_of k t
  type_alike d y alike same =
      ap (λ o. option_map (λ j. j.type) o) (sym (types_alike k.schema d alike k.table y same strict k.env no_facts t))
      ∙ ap (λ z. type_of (in_mode z k.schema k.table k.env) t) (sym strictly_typed)

  pub checked_means : ForAlike k.schema k.table (MeansTruth k.env t)
  checked_means d y alike same w suits bound conform =
      let h = (is_bool-Decides (strictly d y k.env) t).0 (ap is_bool (type_alike d y alike same) ∙ bool) in
      ((λ r means. any_good h.0 r (types_are_sound d y k.env w suits no_facts t (hold_none w) bound conform (bool_type h.0) h.1 h.2 r means).0), (λ whole. an_outcome w whole t))
