-- The actions that are declared elsewhere, once there are no more entity types.
use Rattle.std.proofs.Common.{◌≡◌, ◌++◌, true, false, cond, List, [], ◌∷◌, map, sym, ap, ◌∙◌}
use Rattle.std.specs.List.{filter}
use Rattle.cedar_expr_model.specs.Uid.{Uid}
use Rattle.cedar_schema_model.specs.Kept.{KeptAction, Elsewhere, action_elsewhere, types_elsewhere, actions_elsewhere}
use Rattle.cedar_schema_entries.specs.Views.{entity_type_seen, action_seen}
use Rattle.cedar_schema_entries.specs.declared.entity_type.ValidatorEntityType.{ValidatorEntityType}
use Rattle.cedar_schema_entries.specs.declared.action.ValidatorActionId.{ValidatorActionId}

abbrev pub both_left : List ValidatorEntityType → List ValidatorActionId → List Elsewhere
both_left ts as_ = types_elsewhere (map entity_type_seen ts) ++ actions_elsewhere (map action_seen as_)

abbrev external : List ValidatorActionId → List KeptAction
external as_ = filter (λ (a : KeptAction). a.is_external) (map action_seen as_)

first_is : (a : ValidatorActionId) (later : List ValidatorActionId) → (action_seen a).is_external ≡ true → actions_elsewhere (map action_seen (a ∷ later)) ≡ action_elsewhere (action_seen a).uid ∷ actions_elsewhere (map action_seen later)
first_is a later h = ap (λ b. map (λ (a : KeptAction). action_elsewhere a.uid) (cond b (action_seen a ∷ external later) (external later))) h

first_is_not : (a : ValidatorActionId) (later : List ValidatorActionId) → (action_seen a).is_external ≡ false → actions_elsewhere (map action_seen (a ∷ later)) ≡ actions_elsewhere (map action_seen later)
first_is_not a later h = ap (λ b. map (λ (a : KeptAction). action_elsewhere a.uid) (cond b (action_seen a ∷ external later) (external later))) h

pub gives_action : (whole : List Elsewhere) (ts : List ValidatorEntityType) (as_ later : List ValidatorActionId) (a : ValidatorActionId) (n : Uid) → whole ≡ both_left ts as_ → ts ≡ [] → as_ ≡ a ∷ later → (action_seen a).is_external ≡ true → n ≡ (action_seen a).uid
    → whole ≡ action_elsewhere n ∷ both_left ts later
gives_action whole ts as_ later a n h none is e named =
    h ∙ (λ i. both_left (none i) (is i)) ∙ first_is a later e
    ∙ (λ i. action_elsewhere (sym named i) ∷ both_left (sym none i) later)

pub passes_action : (whole : List Elsewhere) (ts : List ValidatorEntityType) (as_ later : List ValidatorActionId) (a : ValidatorActionId) → whole ≡ both_left ts as_ → ts ≡ [] → as_ ≡ a ∷ later → (action_seen a).is_external ≡ false
    → whole ≡ both_left ts later
passes_action whole ts as_ later a h none is e =
    h ∙ (λ i. both_left (none i) (is i)) ∙ first_is_not a later e ∙ (λ i. both_left (sym none i) later)

pub none_left : (whole : List Elsewhere) (ts : List ValidatorEntityType) (as_ : List ValidatorActionId) → whole ≡ both_left ts as_ → ts ≡ [] → as_ ≡ [] → whole ≡ []
none_left whole ts as_ h none is = h ∙ (λ i. both_left (none i) (is i))
