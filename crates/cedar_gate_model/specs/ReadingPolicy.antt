-- Reading policies.
-- Rule: what a bundle reads as; policies and templates (docs/RULES.md).
use Rattle.std.specs.Prelude.{[], ◌∷◌, codes, Option, Some, None, option_map}
use Rattle.serde_json.specs.Data.{Data}
use Rattle.serde_json.specs.Find.{as_str}
use Rattle.cedar_store_model.specs.Policy.{Policy, permit, forbid, Target, named, own_slot, Scope, any, exactly, inside, of_kind, of_kind_inside, ActionScope, any_action, exactly_action, inside_actions, SlotBindings, no_bindings}
use Rattle.cedar_gate_model.specs.Reading.{given, required, optional, has_only, list_of}
use Rattle.cedar_gate_model.specs.ReadingForms.{word_of, first_form, alone, read_as}
use Rattle.cedar_gate_model.specs.ReadingName.{plain_name_read, uid_read}
use Rattle.cedar_gate_model.specs.ReadingExpression.{Version, expression_read}
use Rattle.cedar_expr_model.specs.Lists.{when}

-- a target: a uid, or the slot of its own variable
abbrev pub target_read : Data → Option Target
target_read d = first_form (word_of ((codes "?", own_slot) ∷ []) ∷ read_as named uid_read ∷ []) d

abbrev pub of_kind_inside_read : Data → Option Scope
of_kind_inside_read d =
    when (has_only (codes "is" ∷ codes "in" ∷ []) d) (given (required (codes "is") plain_name_read d) (λ n. option_map (of_kind_inside n) (required (codes "in") target_read d)))

-- the principal or resource part of a scope
abbrev pub scope_read : Data → Option Scope
scope_read d =
    first_form (alone (codes "eq") (read_as exactly target_read) ∷ alone (codes "in") (read_as inside target_read) ∷ alone (codes "is") (read_as of_kind plain_name_read) ∷ of_kind_inside_read ∷ []) d

-- the action part
abbrev pub action_scope_read : Data → Option ActionScope
action_scope_read d = first_form (alone (codes "eq") (read_as exactly_action uid_read) ∷ alone (codes "in") (read_as inside_actions (list_of uid_read)) ∷ []) d

-- bindings, as they are
abbrev pub bindings_read : Data → Option SlotBindings
bindings_read d =
    when (has_only (codes "?principal" ∷ codes "?resource" ∷ []) d)
    (given (optional (codes "?principal") (read_as Some uid_read) None d) (λ principal.
    option_map (λ resource. record { principal = principal; resource = resource }) (optional (codes "?resource") (read_as Some uid_read) None d)))

-- A policy, without annotations. A part of the scope that lacks is any.
abbrev pub policy_read : Version → Data → Option Policy
policy_read v d =
    when (has_only (codes "id" ∷ codes "effect" ∷ codes "principal" ∷ codes "action" ∷ codes "resource" ∷ codes "when" ∷ codes "link" ∷ []) d)
    (given (required (codes "id") as_str d) (λ id.
    given (required (codes "effect") (word_of ((codes "permit", permit) ∷ (codes "forbid", forbid) ∷ [])) d) (λ effect.
    given (optional (codes "principal") scope_read any d) (λ principal.
    given (optional (codes "action") action_scope_read any_action d) (λ action.
    given (optional (codes "resource") scope_read any d) (λ resource.
    given (optional (codes "when") (read_as Some (expression_read v)) None d) (λ body.
    option_map (λ bindings. record { id = id; effect = effect; annotations = []; principal = principal; action = action; resource = resource; body = body; bindings = bindings })
    (optional (codes "link") bindings_read no_bindings d))))))))
