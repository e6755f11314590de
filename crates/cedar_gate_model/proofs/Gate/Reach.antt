-- What is looked up where there is no violation is in the slice, or a declared action.
use Rattle.std.proofs.Common.{◌≡◌, ◌≤◌, inl, inr, ℕ, List, [], ◌∷◌, Some, None, refl, sym, ap, ◌∙◌, subst}
use Rattle.std.specs.Prelude.{Contains, if◌then◌else◌}
use Rattle.cedar_expr_model.specs.Uid.{Uid}
use Rattle.cedar_expr_model.specs.Table.{Table}
use Rattle.cedar_expr_model.specs.OfLaws.Fair.{IsFair}
use Rattle.cedar_expr_model.specs.Value.{V}
use Rattle.cedar_expr_model.proofs.Lists.{contains_head, contains_none}
use Rattle.cedar_store_model.specs.Outcome.{Res}
use Rattle.cedar_store_model.specs.World.{World, Found, held}
use Rattle.cedar_store_model.specs.Looks.{Looks}
use Rattle.cedar_store_model.specs.Laws.{with_store}
use Rattle.cedar_store_model.specs.Knowledge.{IsWhole}
use Rattle.cedar_store_model.specs.Policy.{Policy, condition}
use Rattle.cedar_store_model.specs.Answer.{with_slots, PolicyMeans, IsSatisfied, answer_of}
use Rattle.cedar_store_model.proofs.Stores.{only_lookups_answer}
use Rattle.cedar_schema_model.specs.Types.{any_bool, bool_type, strict}
use Rattle.cedar_schema_model.specs.Schema.{Schema}
use Rattle.cedar_schema_model.specs.ActionEntities.{as_entity}
use Rattle.cedar_schema_model.proofs.Decls.Environments.{actions_conform}
use Rattle.cedar_schema_model.specs.Conforming.{EntityConforms}
use Rattle.cedar_typechecker_model.specs.Verdicts.{IsImpossible, policy_violations}
use Rattle.cedar_typechecker_model.specs.OfLaws.Simple.{IsOrderly}
use Rattle.cedar_typechecker_model.specs.Soundness.{IsGood, ConformsAt}
use Rattle.cedar_typechecker_model.specs.PolicySoundness.{IsConforming, LookupsConform}
use Rattle.cedar_typechecker_model.proofs.Larger.{larger_levels_pass_policies}
use Rattle.cedar_typechecker_model.proofs.Sound.Orderly.{schemas_are_orderly}
use Rattle.cedar_typechecker_model.proofs.Sound.Policies.{conforming, passing_is_sound, impossible_is_sound}
use Rattle.cedar_gate_model.specs.Acceptance.{Submission, IsAccepted, extension_types, schema_in}
use Rattle.cedar_evaluator_model.specs.Response.{PartialRequest}
use Rattle.cedar_gate_model.specs.Moment.{Completes}
use Rattle.cedar_typechecker_model.specs.Reach.{IsInReach, SliceConforms}
use Rattle.cedar_typechecker_model.proofs.InReach.{conditions_are_in_reach}
use Rattle.cedar_gate_model.specs.SliceSoundness.{IsFitFor}
use Rattle.cedar_gate_model.proofs.Gate.Accepting.{accepted_good, acceptance_reads}

-- what is in reach conforms
reach_conforms : (s : Schema) (x : Table) (n : ℕ) (w : World) → IsConforming s x w → SliceConforms s n w → (u : Uid) → IsInReach s n w u → ConformsAt s w u
reach_conforms s x n w c conform u (inl h) = conform u h
reach_conforms s x n w c conform u (inr h) =
    λ d q. (let k = c.actions u h in let e : k.0 ≡ d = (let z : held k.0 ≡ held d = sym k.1 ∙ q in cc) in subst (EntityConforms s u) e k.2)

none_listed : {A : Type 0} (xs : List A) → ((x : A) → Contains xs x → ⊥) → xs ≡ []
none_listed [] h = refl
none_listed (y ∷ ys) h = absurd (h y (contains_head y ys))

-- the policies of accepted submissions
module _ (b : Submission) (w : World) (a : IsAccepted b) (f : IsFitFor b w) where
  pub orderly : IsOrderly (schema_in b)
  orderly = schemas_are_orderly (extension_types b.table) b.declarations (accepted_good b a).well_formed

  pub accepted_in_reach : (p : Policy) → Contains b.policies p → (u : Uid) → Looks (with_slots w p.bindings) (condition p) u → IsInReach (schema_in b) b.level w u
  accepted_in_reach p k u l =
      let g = accepted_good b a in
      let fits = g.fits p k in
      conditions_are_in_reach b.level (schema_in b) b.table w p orderly f.0 f.1 (g.each p k).linked fits.typed (none_listed (policy_violations b.level (schema_in b) b.table p) fits.near_enough) u l

  pub accepted_conform : (p : Policy) → Contains b.policies p → LookupsConform (schema_in b) w p
  accepted_conform p k u l = reach_conforms (schema_in b) b.table b.level w f.0 f.1 u (accepted_in_reach p k u l)

  pub accepted_are_sound : (p : Policy) → Contains b.policies p
      → (IsWhole w → (r : Res V) × PolicyMeans w p r × IsGood (bool_type any_bool) r) × (IsImpossible (schema_in b) b.table p → IsSatisfied w p → ⊥)
  accepted_are_sound p k =
      let g = accepted_good b a in (
        λ h. passing_is_sound (schema_in b) b.table w p (conforming (schema_in b) b.table w orderly f.0) (g.each p k).linked (accepted_conform p k) h (g.fits p k).typed,
        λ h m. impossible_is_sound (schema_in b) b.table w p (conforming (schema_in b) b.table w orderly f.0) (g.each p k).linked (accepted_conform p k) h m,
      )

  pub only_the_slice_answers : (store : Uid → Found V) → ((u : Uid) → IsInReach (schema_in b) b.level w u → store u ≡ w.store u) → answer_of (with_store w store) b.policies ≡ answer_of w b.policies
  only_the_slice_answers store same = only_lookups_answer w store b.policies (λ p k u l. same u (accepted_in_reach p k u l))

-- a world that completes a request
pub completions_fit : (b : Submission) (start : PartialRequest) (w : World) → IsFair b.table → Completes (schema_in b) b.table b.level start w → IsFitFor b w
completions_fit b start w fair c = (
  record {
    fair = fair;
    table = c.table;
    request = c.request;
    actions = λ u h. (as_entity (schema_in b) u, c.actions u h, actions_conform (schema_in b) u (as_entity (schema_in b) u) (ap (λ d. if d then Some (as_entity (schema_in b) u) else None) h));
  },
  λ u k d q. c.slice u d k q,
)

-- larger levels
pub larger_levels_accept : (b : Submission) (n : ℕ) → b.level ≤ n → IsAccepted b → IsAccepted (record b { level = n })
larger_levels_accept b n l a =
    let g = accepted_good b a in
    (acceptance_reads (record b { level = n })).1
    (record {
      well_formed = g.well_formed;
      resolved = g.resolved;
      distinct = g.distinct;
      each = g.each;
      fits = λ p k. (
          let f = g.fits p k in
          let none = larger_levels_pass_policies strict b.level n (schema_in b) b.table p l (none_listed (policy_violations b.level (schema_in b) b.table p) f.near_enough) in
          record {
            types = f.types;
            actions = f.actions;
            members = f.members;
            typed = f.typed;
            near_enough = λ v h. contains_none v (subst (λ vs. Contains vs v) none h);
          });
    })
