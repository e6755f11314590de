-- Names for parts of the definitions that proofs take apart.
use Rattle.std.specs.Prelude.{◌≡◌, ℕ, List, [], ◌∷◌, ◌++◌, Option, None, Contains, false, true, codes, IsSome}
use Rattle.std.specs.List.{flat_map}
use Rattle.std.specs.Option.{option_map_or}
use Rattle.std.specs.Fmt.{decimal}
use Rattle.cedar_expr_model.specs.Name.{Text}
use Rattle.cedar_expr_model.specs.Uid.{Uid, uid_text, quoted}
use Rattle.cedar_expr_model.specs.Value.{truth_value}
use Rattle.cedar_expr_model.specs.Tree.{Tree, record_literal}
use Rattle.cedar_expr_model.specs.Parts.{Unknown}
use Rattle.cedar_expr_model.specs.Made.{Made, bare}
use Rattle.cedar_expr_model.specs.Substitution.{fits_annotation}
use Rattle.cedar_store_model.specs.Outcome.{val}
use Rattle.cedar_store_model.specs.World.{World}
use Rattle.cedar_store_model.specs.Policy.{Policy, Effect, permit, forbid}
use Rattle.cedar_store_model.specs.Answer.{Decision, PolicyMeans}
use Rattle.cedar_store_model.specs.Reads.{uid_of}
use Rattle.cedar_evaluator_model.specs.Scope.{Entry, Context}
use Rattle.cedar_gate_model.specs.Transcript.{Step, load, decide}
use Rattle.cedar_gate_model.specs.Session.{context_unknowns}
use Rattle.cedar_gate_model.specs.Lines.{line, decision_word}
use Rattle.cedar_gate_model.specs.ReadingExpression.{Part, of_part}

abbrev pub impossible_line : Text → Text
impossible_line id = line (codes "impossible " ++ quoted id)

abbrev pub reason_line : Text → Text
reason_line id = line (codes "reason " ++ quoted id)

-- the line of a round, which has its number and what was asked for
abbrev pub round_line : ℕ → List Uid → Text
round_line k uids = line (codes "round " ++ (decimal k ++ flat_map (λ u. 32 ∷ uid_text u) uids))

abbrev pub decided_line : Option Decision → Text
decided_line found = line (codes "decision " ++ option_map_or decision_word found (codes "None"))

abbrev pub request_keys : List Text
request_keys = codes "principal" ∷ codes "action" ∷ codes "resource" ∷ codes "context" ∷ []

abbrev pub entity_keys : List Text
entity_keys = codes "uid" ∷ codes "attrs" ∷ codes "tags" ∷ codes "ancestors" ∷ []

abbrev pub action_keys : List Text
action_keys = codes "in" ∷ codes "principals" ∷ codes "resources" ∷ codes "context" ∷ []

abbrev pub namespace_keys : List Text
namespace_keys = codes "commonTypes" ∷ codes "entityTypes" ∷ codes "actions" ∷ []

abbrev pub policy_keys : List Text
policy_keys = codes "id" ∷ codes "effect" ∷ codes "principal" ∷ codes "action" ∷ codes "resource" ∷ codes "when" ∷ codes "link" ∷ []

abbrev pub step_words : List (Text × Step)
step_words = (codes "load", load) ∷ (codes "decide", decide) ∷ []

abbrev pub effect_words : List (Text × Effect)
effect_words = (codes "permit", permit) ∷ (codes "forbid", forbid) ∷ []

-- an object of expressions
abbrev pub record_form : List Part → Option Tree
record_form xs = of_part record_literal (λ x. x.fields) xs

-- a value that is no entity, for a variable that is one
abbrev pub IsNoEntity : Option Entry → Made → Type 0
IsNoEntity e m = IsSome e × (uid_of (bare m) ≡ None)

-- a value that isn't of the annotation of an unknown of this name
abbrev pub BreaksAnnotation : Context → Text → Made → Type 0
BreaksAnnotation c n m = (u : Unknown) × Contains (context_unknowns c) u × (u.name ≡ n) × (fits_annotation u.annotation (bare m) ≡ false)

-- what is known makes the policy true
abbrev pub IsForcedTrue : World → Policy → Type 0
IsForcedTrue k p = PolicyMeans k p (val (truth_value true))
