-- The rules that were asked are kept, and one that is broken is a fault.
use Rattle.std.proofs.Common.{◌≡◌, Bool, List, [], ◌∷◌, ◌&&◌, refl, ap, ◌∙◌}
use Rattle.std.specs.List.{list_all}
use Rattle.cedar_gate_accepted.specs.Handed.{IsSeenBy}
use Rattle.cedar_gate_model.specs.Acceptance.{Submission, schema_in}
use Rattle.cedar_schema_model.specs.Schema.{Schema}
use Rattle.cedar_store_model.specs.Policy.{Policy}
use Rattle.cedar_typechecker_model.specs.Alike.{AnswersAlike}

-- what is alike of each is alike of all
pub all_alike : {X : Type 0} (f g : X → Bool) → ((x : X) → f x ≡ g x) → (xs : List X) → list_all f xs ≡ list_all g xs
all_alike f g h [] = refl
all_alike f g h (x ∷ xs) = λ i. h x i && all_alike f g h xs i

-- a test of all policies, by the schema of the submission and by another that answers alike
pub seen_alike : (f : Schema → Policy → Bool) → ((s t : Schema) → AnswersAlike s t → (p : Policy) → f s p ≡ f t p)
    → (t : Schema) (ps : List Policy) (s : Submission) → IsSeenBy t ps s → list_all (f (schema_in s)) s.policies ≡ list_all (f t) ps
seen_alike f alike t ps s w = ap (list_all (f (schema_in s))) w.policies ∙ all_alike (f (schema_in s)) (f t) (alike (schema_in s) t w.schema) ps
