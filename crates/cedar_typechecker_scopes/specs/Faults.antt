-- What the scope passes report: for each expression, in order, what it names that isn't declared.
-- Rule: the scope rules (docs/RULES.md).
use Rattle.std.specs.Prelude.{List, [], ◌∷◌, ◌++◌, map, Bool, Option, if◌then◌else◌, ◌≡◌}
use Rattle.std.specs.List.{flat_map}
use Rattle.std.specs.Option.{option_map_or}
use Rattle.std.specs.declared.alloc.Global.{Global}
use Rattle.std.specs.declared.vec.Vec.{Vec}
use Rattle.cedar_expr_model.specs.Name.{Text, Name}
use Rattle.cedar_expr_model.specs.Uid.{Uid}
use Rattle.cedar_expr_model.specs.Value.{Literal, entity}
use Rattle.cedar_expr_model.specs.Tree.{Tree, lit, is_type}
use Rattle.cedar_expr_model.specs.Parts.{subexpressions}
use Rattle.cedar_store_model.specs.Policy.{Policy, SlotBindings, condition}
use Rattle.cedar_store_parts.specs.Parts.{id_text}
use Rattle.cedar_store_parts.specs.Views.{Wrong, unknown_type, unknown_action, unknown_member, wrong_of}
use Rattle.cedar_store_parts.specs.declared.diagnostics.ValidationError.{ValidationError}
use Rattle.cedar_schema_model.specs.Schema.{Schema}
use Rattle.cedar_typechecker_model.specs.ScopeRules.{is_known_type, is_no_unknown_action, is_no_unknown_member}

-- the policy and what is wrong with it
pub record Blame : Type 0 where
  pub policy : Text
  pub wrong : Wrong

abbrev pub blame : Text → Wrong → Blame
blame id w = record { policy = id; wrong = w }

abbrev pub blame_of : ValidationError → Blame
blame_of e = blame (id_text e.policy_id) (wrong_of e.kind)

-- the three scope rules
pub data ScopeRule : Type 0 where
  known_types known_actions known_members : ScopeRule

abbrev pub unless : Bool → Wrong → List Wrong
unless is_right w = if is_right then [] else (w ∷ [])

-- what is wrong with an entity type, and with a uid, by a rule
abbrev pub wrong_type : Schema → ScopeRule → Name → List Wrong
wrong_type s known_types n = unless (is_known_type s n) (unknown_type n)
wrong_type s known_actions n = []
wrong_type s known_members n = []

abbrev pub wrong_uid : Schema → ScopeRule → Uid → List Wrong
wrong_uid s known_types u = unless (is_known_type s u.kind) (unknown_type u.kind)
wrong_uid s known_actions u = unless (is_no_unknown_action s u) (unknown_action u)
wrong_uid s known_members u = unless (is_no_unknown_member s u) (unknown_member u)

-- what is wrong with an expression by itself
abbrev pub wrong_literal : Schema → ScopeRule → Literal → List Wrong
wrong_literal s r (entity u) = wrong_uid s r u
wrong_literal s r p = []

abbrev pub wrong_here : Schema → ScopeRule → Tree → List Wrong
wrong_here s r (lit p) = wrong_literal s r p
wrong_here s r (is_type e n) = wrong_type s r n
wrong_here s r t = []

-- what is wrong with the scope and the body of a policy, in the order of the parts of its condition
abbrev pub wrong_within : Schema → ScopeRule → Policy → List Wrong
wrong_within s r p = flat_map (wrong_here s r) (subexpressions (condition p))

-- what is wrong with the uids that the slots of a policy are bound to
abbrev pub wrong_by : Schema → Uid → List Wrong
wrong_by s u = wrong_uid s known_types u ++ (wrong_uid s known_actions u ++ wrong_uid s known_members u)

abbrev pub wrong_bound : Schema → SlotBindings → List Wrong
wrong_bound s b = option_map_or (wrong_by s) b.principal [] ++ option_map_or (wrong_by s) b.resource []

-- what is wrong, of this policy
abbrev pub blamed : Text → List Wrong → List Blame
blamed id ws = map (blame id) ws

-- The errors report this of the policy of this id, and this is appended to them.
abbrev pub Reports : Text → List Wrong → Vec ValidationError Global → Type 0
Reports id ws es = map blame_of es.items ≡ blamed id ws

abbrev pub AddsReport : Text → List Wrong → Vec ValidationError Global → Vec ValidationError Global → Type 0
AddsReport id ws old new = map blame_of new.items ≡ map blame_of old.items ++ blamed id ws

-- what is wrong with the scope and the body of the policy by the rule
abbrev pub ReportsRule : Schema → ScopeRule → Policy → Vec ValidationError Global → Type 0
ReportsRule s r p es = Reports p.id (wrong_within s r p) es
