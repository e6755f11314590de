-- An accepted submission at level 2 and a world that is fit for it.
use Rattle.std.proofs.Common.{◌≡◌, Bool, true, [], inl, inr, refl, subst}
use Rattle.cedar_expr_model.specs.Uid.{Uid}
use Rattle.cedar_expr_model.specs.OfLaws.Fair.{IsFair}
use Rattle.cedar_expr_model.specs.Tree.{get_attr, var, resource}
use Rattle.cedar_expr_model.specs.Value.{V, prim, entity}
use Rattle.cedar_expr_model.proofs.Lists.{all_each, contains_cases, contains_none}
use Rattle.cedar_store_model.specs.Outcome.{val}
use Rattle.cedar_store_model.specs.World.{Entity, Found, held, missing, not_loaded}
use Rattle.cedar_store_model.specs.Looks.{Looks}
use Rattle.cedar_store_model.specs.Policy.{condition}
use Rattle.cedar_store_model.proofs.Meaning.{outcome_means}
use Rattle.cedar_schema_model.specs.Schema.{Schema, declares_action}
use Rattle.cedar_schema_model.specs.ActionEntities.{as_entity}
use Rattle.cedar_schema_model.specs.Conforming.{EntityConforms, entity_conforms}
use Rattle.cedar_schema_model.proofs.Decls.Conforming.{entity_conforms-Decides, request_conforms-Decides}
use Rattle.cedar_schema_model.proofs.Decls.Environments.{declares_action-Decides}
use Rattle.cedar_typechecker_model.specs.Worked.{view, owner, no_table}
use Rattle.cedar_gate_model.specs.Acceptance.{IsAccepted, schema_in}
use Rattle.cedar_gate_model.specs.Moment.{request_of}
use Rattle.cedar_typechecker_model.specs.Slice.{slice}
use Rattle.cedar_typechecker_model.specs.Reach.{SliceConforms}
use Rattle.cedar_gate_model.specs.SliceSoundness.{IsFitFor}
use Rattle.cedar_gate_model.specs.WorkedGate.{user_b, p0, level_two, three_and_z, viewed_by_a}
use Rattle.cedar_gate_model.proofs.Gate.Accepting.{admitted_accepted}
use Rattle.cedar_gate_model.proofs.Gate.Slices.{slice_is_listed}

pub level_two_accepted : IsAccepted level_two
level_two_accepted = admitted_accepted level_two refl

no_table_fair : IsFair no_table
no_table_fair f s vs e = cc

-- what is found conforms
found_conforms : Schema → Uid → Found V → Bool
found_conforms s u (held d) = entity_conforms s u d
found_conforms s u missing = true
found_conforms s u not_loaded = true

found_conform : (s : Schema) (u : Uid) (f : Found V) → found_conforms s u f ≡ true → (d : Entity V) → f ≡ held d → EntityConforms s u d
unfolding found_conforms
found_conform s u (held e) h d q = (let p : e ≡ d = cc in subst (EntityConforms s u) p ((entity_conforms-Decides s u e).0 h))
found_conform s u missing h d q = cc
found_conform s u not_loaded h d q = cc

slice_conforms : SliceConforms (schema_in level_two) 2 (viewed_by_a three_and_z)
unfolding found_conforms
slice_conforms u h =
    found_conform (schema_in level_two) u ((viewed_by_a three_and_z).store u)
    (all_each (λ y. found_conforms (schema_in level_two) y ((viewed_by_a three_and_z).store y)) (slice (schema_in level_two) 2 (viewed_by_a three_and_z)) refl u ((slice_is_listed (schema_in level_two) 2 (viewed_by_a three_and_z) u).1 h))

view_alone : (u : Uid) → declares_action (schema_in level_two) u ≡ true → view ≡ u
view_alone u h = contains_cases (view ≡ u) view [] u ((declares_action-Decides (schema_in level_two) u).0 h) (λ e. e) (λ k. absurd (contains_none u k))

view_held : (d : Entity V) × ((viewed_by_a three_and_z).store view ≡ held d) × EntityConforms (schema_in level_two) view d
view_held = (as_entity (schema_in level_two) view, refl, (entity_conforms-Decides (schema_in level_two) view (as_entity (schema_in level_two) view)).0 refl)

pub level_two_fit : IsFitFor level_two (viewed_by_a three_and_z)
level_two_fit = (
  record {
    fair = no_table_fair;
    table = refl;
    request = (request_conforms-Decides (schema_in level_two) (request_of (viewed_by_a three_and_z))).0 refl;
    actions = λ u h. subst (λ y. (d : Entity V) × ((viewed_by_a three_and_z).store y ≡ held d) × EntityConforms (schema_in level_two) y d) (view_alone u h) view_held;
  },
  slice_conforms,
)

-- `resource.owner.boss` looks up the owner
pub owner_looked_up : Looks (viewed_by_a three_and_z) (condition p0) user_b
owner_looked_up =
    inr (
      refl,
      inr (
        refl,
        inr (refl, inl (inr (prim (entity user_b), outcome_means (viewed_by_a three_and_z) (get_attr (var resource) owner) (val (prim (entity user_b))) refl, refl))),
      ),
    )
