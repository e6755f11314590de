-- The environments of a policy cover its conforming requests; a policy that passes means a truth value or errs as expected.
use Rattle.std.proofs.Common.{◌≡◌, ◌&&◌, ◌⊎◌, inl, inr, ⊎_elim, Bool, true, false, List, [], ◌∷◌, Option, Some, None, refl, sym, ap, ◌∙◌, subst}
use Rattle.std.specs.Prelude.{Contains, is_some, map, find, if◌then◌else◌, IsSome}
use Rattle.cedar_expr_model.specs.Name.{Name, name_eq}
use Rattle.cedar_expr_model.specs.Uid.{Uid, uid_eq}
use Rattle.cedar_expr_model.specs.Value.{entity, V, prim, record_of, truth_value}
use Rattle.cedar_expr_model.specs.Builder.{conjunction}
use Rattle.cedar_expr_model.specs.Parts.{subexpressions, slot_here, slots}
use Rattle.cedar_expr_model.specs.Table.{Table}
use Rattle.cedar_expr_model.specs.OfLaws.Fair.{IsFair}
use Rattle.cedar_expr_model.specs.Tree.{principal, action, resource, SlotId, principal_slot, resource_slot, Tree, slot}
use Rattle.cedar_expr_model.proofs.Equality.{name_eq-Decides, uid_eq-Decides}
use Rattle.cedar_expr_model.proofs.Lists.{hold_both, any_has, hold_left, contains_head, contains_cases, contains_none}
use Rattle.cedar_store_model.specs.Outcome.{Res, val, err}
use Rattle.cedar_store_model.specs.World.{Request, World, Entity, held}
use Rattle.cedar_store_model.specs.Operators.{says}
use Rattle.cedar_store_model.specs.Meaning.{Means, variable, outcome_of}
use Rattle.cedar_store_model.proofs.Named.{known_uid, slot_eq}
use Rattle.cedar_store_model.specs.Looks.{Looks}
use Rattle.cedar_store_model.specs.Knowledge.{IsWhole}
use Rattle.cedar_store_model.specs.Policy.{Policy, Scope, own_slot, exactly, of_kind_inside, any, of_kind, named, scope_tree, action_tree, body_tree, condition, binding_of, tree_uses, has_slot}
use Rattle.cedar_store_model.specs.AnswerLaws.{scope_has_slot}
use Rattle.cedar_store_model.specs.Answer.{with_slots, PolicyMeans, IsSatisfied}
use Rattle.cedar_store_model.proofs.Conditions.{policies_mean_truth}
use Rattle.cedar_store_model.proofs.Known.{an_outcome}
use Rattle.cedar_store_model.proofs.Meaning.{means_outcome}
use Rattle.cedar_store_model.proofs.Sets.{condition_uses}
use Rattle.cedar_schema_model.specs.Types.{BoolType, any_bool, only_false, Ty, bool_type, record_type, is_closed}
use Rattle.cedar_schema_model.specs.Schema.{EntityType, Action, Schema, declares_action}
use Rattle.cedar_schema_model.specs.HasType.{HasType}
use Rattle.cedar_store_model.specs.Store.{OpenRequest, as_open}
use Rattle.cedar_schema_model.specs.Conforming.{EntityConforms, RequestConforms}
use Rattle.cedar_schema_model.specs.Environment.{Environment, environment_at, environments}
use Rattle.cedar_schema_model.specs.DeclLaws.{IsGoodFor, IsGoodRequest}
use Rattle.cedar_schema_model.proofs.Types.Lookups.{inside}
use Rattle.cedar_schema_model.proofs.Decls.Direct.{requests_read}
use Rattle.cedar_schema_model.proofs.Decls.Environments.{found_as, has_environment, slots_covered}
use Rattle.cedar_schema_model.proofs.Decls.Schema.{kept_has}
use Rattle.cedar_typechecker_model.specs.Facts.{Facts, no_facts}
use Rattle.cedar_typechecker_model.specs.Rules.{slot_type}
use Rattle.cedar_typechecker_model.specs.Typing.{Types}
use Rattle.cedar_typechecker_model.specs.OfLaws.Simple.{IsOrderly}
use Rattle.cedar_typechecker_model.specs.Soundness.{IsGood, Hold, ConformsAt, Suits, SlotsAreBound}
use Rattle.cedar_typechecker_model.specs.PolicySoundness as policies
use Rattle.cedar_typechecker_model.specs.PolicySoundness.{IsBound, LookupsConform, IsCovered, IsFalse}
use Rattle.cedar_typechecker_model.specs.Verdicts.{strictly, scope_use, fits_slot, Passes, IsImpossible, RequestType, IsIrrelevant}
use Rattle.cedar_typechecker_model.proofs.Sound.Attributes.{Fine}
use Rattle.cedar_typechecker_model.proofs.Sound.Connectives.{in_any}
use Rattle.cedar_typechecker_model.proofs.Sound.Facts.{hold_none}
use Rattle.cedar_typechecker_model.proofs.Sound.Soundness.{SlotsIn, sound}
use Rattle.cedar_typechecker_model.proofs.Sound.Scopes.{IsTruth, OnlyFalse, conjunction_false, looks_left, looks_right, HasSlot, scope_truth, action_truth, IsTaken, IsUnfit, slot_choice, scope_false}
use Rattle.cedar_store_model.specs.Policy as policy
use Rattle.cedar_schema_model.specs.Environment as environment
use Rattle.cedar_typechecker_model.proofs.Named.{bound_type}

-- a slot that stands in an expression is one that it uses
slot_same : (i : SlotId) → slot_eq i i ≡ true
slot_same principal_slot = refl
slot_same resource_slot = refl

used_slot : (t : Tree) (i : SlotId) → Contains (subexpressions t) (slot i) → tree_uses t i ≡ true
used_slot t i h = any_has (slot_eq i) (slots t) i (kept_has slot_here (subexpressions t) (slot i) i h refl) (slot_same i)

pub slots_in : (w : World) (t : Tree) → SlotsAreBound w t → SlotsIn w (subexpressions t)
slots_in w t h = record { bound = λ i k. h i (used_slot t i k) }

pub types_are_sound : (s : Schema) (x : Table) (e : Environment) (w : World) → Suits s x e w → (known : Facts) (t : Tree) → Hold w known → SlotsAreBound w t → ((u : Uid) → Looks w t u → ConformsAt s w u)
    → (ty : Ty) (out : Facts) → Types (strictly s x e) known t ty out → (r : Res V) → Means w t r → IsGood ty r × (r ≡ val (truth_value true) → Hold w out)
types_are_sound s x e w suits known t hold bound c ty out d r m =
    let g = sound s x e w suits known hold t (slots_in w t bound) c ty out d in
    let q = means_outcome w t r m in
    (subst (Fine ty) q g.fine, λ k. g.holds (q ∙ ap Some k))

-- The request of a world, and a world in which it conforms under an orderly schema, taken apart.
pub record IsOfRequest (w : World) (r : Request) : Type 0 where
  pub principal : w.principal ≡ Some r.principal
  pub action : w.action ≡ Some r.action
  pub resource : w.resource ≡ Some r.resource
  pub context : w.context ≡ Some (record_of r.context)

pub record IsConforming (s : Schema) (x : Table) (w : World) : Type 0 where
  pub schema : IsOrderly s
  pub fair : IsFair x
  pub table : w.table ≡ x
  pub request : (r : Request) × IsOfRequest w r × RequestConforms s (as_open r)
  pub actions : (u : Uid) → declares_action s u ≡ true → (d : Entity V) × (w.store u ≡ held d) × EntityConforms s u d

pub conforming : (s : Schema) (x : Table) (w : World) → IsOrderly s → policies.IsConforming s x w → IsConforming s x w
conforming s x w o c =
    let k = (requests_read s (record { principal = w.principal; action = w.action; resource = w.resource; context = w.context })).0 c.request in
    let e = k.1 in
    record {
      schema = o;
      fair = c.fair;
      table = c.table;
      request = (
        k.0,
        record {
          principal = ap (λ (r : OpenRequest). r.principal) e;
          action = ap (λ (r : OpenRequest). r.action) e;
          resource = ap (λ (r : OpenRequest). r.resource) e;
          context = ap (λ (r : OpenRequest). r.context) e;
        },
        subst (RequestConforms s) e c.request,
      );
      actions = c.actions;
    }

-- a conforming request, read directly
same_request : (r q : Request) → as_open r ≡ as_open q → q ≡ r
same_request r q e =
    let a : q.principal ≡ r.principal = inside (ap (λ (x : OpenRequest). x.principal) (sym e)) in
    let b : q.action ≡ r.action = inside (ap (λ (x : OpenRequest). x.action) (sym e)) in
    let c : q.resource ≡ r.resource = inside (ap (λ (x : OpenRequest). x.resource) (sym e)) in
    let d : q.context ≡ r.context = (let k : record_of q.context ≡ record_of r.context = inside (ap (λ (x : OpenRequest). x.context) (sym e)) in cc) in
    λ i. record { principal = a i; action = b i; resource = c i; context = d i }

good_request : (s : Schema) (x : Table) (w : World) → (c : IsConforming s x w) → IsGoodRequest s c.request.0
good_request s x w c =
    let r = c.request in
    let k = (requests_read s (as_open r.0)).0 r.2 in
    subst (IsGoodRequest s) (same_request r.0 k.0 k.1) k.2

-- the slot of an environment that fits has the type that is bound
slot_typed : (o b : Option Name) (u : Option Uid) (v : Uid) → o ≡ b → fits_slot b u ≡ true → u ≡ Some v → HasType (prim (entity v)) (bound_type o)
slot_typed o None u v e h q = subst (λ z. HasType (prim (entity v)) (bound_type z)) (sym e) tt
slot_typed o (Some n) None v e h q = cc
slot_typed o (Some n) (Some y) v e h q =
    let p : y ≡ v = inside q in
    let k : n ≡ v.kind = (name_eq-Decides n y.kind).0 h ∙ ap (λ (z : Uid). z.kind) p in
    subst (λ z. HasType (prim (entity v)) (bound_type z)) (sym e) (subst (λ z. Contains (z ∷ []) v.kind) (sym k) (contains_head v.kind []))

-- a type that is listed is declared
declared_among : (n : Name) (ts : List EntityType) → Contains (map (λ t. t.name) ts) n → is_some (find (λ (t : EntityType). name_eq n t.name) ts) ≡ true
declared_among n [] h = absurd (contains_none n h)
declared_among n (t ∷ ts) h =
    contains_cases (is_some (find (λ (u : EntityType). name_eq n u.name) (t ∷ ts)) ≡ true) t.name (map (λ u. u.name) ts) n h
    (λ e. here (name_eq n t.name) (find (λ (u : EntityType). name_eq n u.name) ts) ((name_eq-Decides n t.name).1 (sym e)))
    (λ k. later (name_eq n t.name) (find (λ (u : EntityType). name_eq n u.name) ts) (declared_among n ts k))
  where
    here : (b : Bool) (rest : Option EntityType) → b ≡ true → is_some (if b then Some t else rest) ≡ true
    here true rest e = refl
    here false rest e = cc

    later : (b : Bool) (rest : Option EntityType) → is_some rest ≡ true → is_some (if b then Some t else rest) ≡ true
    later true rest e = refl
    later false rest e = e

module _ (s : Schema) (x : Table) (w : World) (p : Policy) (c : IsConforming s x w) where
  -- an environment of the request's action and types, with slots that fit, suits
  suits_with : (a : Action) → IsGoodFor s c.request.0 a → (m n : Option Name) → fits_slot m p.bindings.principal ≡ true → fits_slot n p.bindings.resource ≡ true
      → Suits s x (environment.with_slots (environment_at a c.request.0.principal.kind c.request.0.resource.kind) m n) (with_slots w p.bindings)
  suits_with a g m n h k =
      let q = c.request.1 in
      let f = found_as c.request.0.action s.actions a g.action in
      record {
        schema = c.schema;
        fair = c.fair;
        table = c.table;
        environment = (a, f.1, refl, refl);
        principal = λ u e. ap (λ (z : Uid). z.kind) (inside (sym e ∙ q.principal));
        action = λ u e. inside (sym e ∙ q.action) ∙ sym f.0;
        resource = λ u e. ap (λ (z : Uid). z.kind) (inside (sym e ∙ q.resource));
        context = λ v e. subst (λ z. HasType z (record_type a.context is_closed)) (inside (sym q.context ∙ e)) g.context;
        slots = slots_of;
        actions = c.actions;
      }
    where
      slots_of : (i : SlotId) (u : Uid) → binding_of p.bindings i ≡ Some u → HasType (prim (entity u)) (slot_type (strictly s x (environment.with_slots (environment_at a c.request.0.principal.kind c.request.0.resource.kind) m n)) i)
      slots_of principal_slot u e = slot_typed m m p.bindings.principal u refl h e
      slots_of resource_slot u e = slot_typed n n p.bindings.resource u refl k e

  -- the bindings of the slots that the scope has
  has_scope_slot : (d : Scope) → HasSlot d → scope_has_slot d ≡ true
  has_scope_slot (exactly own_slot) h = refl
  has_scope_slot (policy.inside own_slot) h = refl
  has_scope_slot (of_kind_inside n own_slot) h = refl
  has_scope_slot any h = absurd h
  has_scope_slot (exactly (named u)) h = absurd h
  has_scope_slot (policy.inside (named u)) h = absurd h
  has_scope_slot (of_kind n) h = absurd h
  has_scope_slot (of_kind_inside n (named u)) h = absurd h

  pub known_principal : variable (with_slots w p.bindings) principal ≡ Some (val (prim (entity c.request.0.principal)))
  known_principal = ap known_uid c.request.1.principal

  pub known_action : variable (with_slots w p.bindings) action ≡ Some (val (prim (entity c.request.0.action)))
  known_action = ap known_uid c.request.1.action

  pub known_resource : variable (with_slots w p.bindings) resource ≡ Some (val (prim (entity c.request.0.resource)))
  known_resource = ap known_uid c.request.1.resource

  pub not_true : (o : Option (Res V)) → OnlyFalse o → o ≡ Some (says true) → ⊥
  not_true o h e = let q : val (truth_value true) ≡ val (truth_value false) = h (val (truth_value true)) e in cc

  -- slots that fit are those of an environment
  pub covered : IsTaken s p.principal c.request.0.principal.kind p.bindings.principal → IsTaken s p.resource c.request.0.resource.kind p.bindings.resource → IsCovered s x w p
  covered m n =
      let good = good_request s x w c in
      let a = good.0 in
      let g = good.1 in
      let e = environment_at a c.request.0.principal.kind c.request.0.resource.kind in (
        environment.with_slots e m.0 n.0,
        (slots_covered s (scope_use p.principal) (scope_use p.resource) (environment.with_slots e m.0 n.0)).1 (e, (has_environment s c.request.0 a g).1, (m.0, m.1, (n.0, n.1, refl))),
        hold_both (fits_slot m.0 p.bindings.principal) (fits_slot n.0 p.bindings.resource) m.2 n.2,
        suits_with a g m.0 n.0 m.2 n.2,
      )

  -- the slots of the condition are bound
  pub condition_bound : IsBound p → SlotsAreBound (with_slots w p.bindings) (condition p)
  condition_bound bound i h = bound i h

  module _ (bound : IsBound p) where
    pub principal_bound : HasSlot p.principal → IsSome p.bindings.principal
    principal_bound h = bound principal_slot (condition_uses p principal_slot ∙ hold_left _ (tree_uses (body_tree p.body) principal_slot) (has_scope_slot p.principal h))

    pub resource_bound : HasSlot p.resource → IsSome p.bindings.resource
    resource_bound h = bound resource_slot (condition_uses p resource_slot ∙ hold_left _ (tree_uses (body_tree p.body) resource_slot) (has_scope_slot p.resource h))

    -- the parts of the condition
    abbrev pub first : Tree
    first = scope_tree principal principal_slot p.principal

    abbrev pub second : Tree
    second = action_tree p.action

    abbrev pub third : Tree
    third = scope_tree resource resource_slot p.resource

    pub first_truth : IsTruth (outcome_of (with_slots w p.bindings) first)
    first_truth = scope_truth (with_slots w p.bindings) principal c.request.0.principal known_principal principal_slot p.principal principal_bound

    pub second_truth : IsTruth (outcome_of (with_slots w p.bindings) second)
    second_truth = action_truth (with_slots w p.bindings) c.request.0.action known_action p.action

    pub third_truth : IsTruth (outcome_of (with_slots w p.bindings) third)
    third_truth = scope_truth (with_slots w p.bindings) resource c.request.0.resource known_resource resource_slot p.resource resource_bound

    -- whether the slots fit
    pub principal_choice : IsTaken s p.principal c.request.0.principal.kind p.bindings.principal ⊎ IsUnfit s p.principal c.request.0.principal.kind p.bindings.principal
    principal_choice =
        let a = good_request s x w c in
        let f = found_as c.request.0.action s.actions a.0 a.1.action in
        slot_choice s c.schema p.principal c.request.0.principal.kind p.bindings.principal (declared_among c.request.0.principal.kind s.types (c.schema.listed a.0 f.1 c.request.0.principal.kind (inl a.1.principal))) principal_bound

    pub resource_choice : IsTaken s p.resource c.request.0.resource.kind p.bindings.resource ⊎ IsUnfit s p.resource c.request.0.resource.kind p.bindings.resource
    resource_choice =
        let a = good_request s x w c in
        let f = found_as c.request.0.action s.actions a.0 a.1.action in
        slot_choice s c.schema p.resource c.request.0.resource.kind p.bindings.resource (declared_among c.request.0.resource.kind s.types (c.schema.listed a.0 f.1 c.request.0.resource.kind (inr a.1.resource))) resource_bound

    module _ (conform : LookupsConform s w p) where
      principal_unfit : IsUnfit s p.principal c.request.0.principal.kind p.bindings.principal → OnlyFalse (outcome_of (with_slots w p.bindings) (condition p))
      principal_unfit h =
          let rest = conjunction second (conjunction third (body_tree p.body)) in
          let f = scope_false s (with_slots w p.bindings) principal principal_slot c.request.0.principal p.principal known_principal h (λ z l. conform z (looks_left (with_slots w p.bindings) first rest z l)) in
          conjunction_false (with_slots w p.bindings) first rest first_truth (λ e. absurd (not_true _ f e))

      resource_unfit : IsUnfit s p.resource c.request.0.resource.kind p.bindings.resource → OnlyFalse (outcome_of (with_slots w p.bindings) (condition p))
      resource_unfit h =
          let v = with_slots w p.bindings in
          let last = conjunction third (body_tree p.body) in
          let rest = conjunction second last in
          conjunction_false v first rest first_truth
          (λ e. conjunction_false v second last second_truth
          (λ k. (let f = scope_false s v resource resource_slot c.request.0.resource p.resource known_resource h (λ z l. conform z (looks_right v first rest z e (looks_right v second last z k (looks_left v third (body_tree p.body) z l)))) in
          conjunction_false v third (body_tree p.body) third_truth (λ i. absurd (not_true _ f i)))))

      is_false : OnlyFalse (outcome_of (with_slots w p.bindings) (condition p)) → IsFalse w p
      is_false f r m = f r (means_outcome (with_slots w p.bindings) (condition p) r m)

      pub environments_cover : IsCovered s x w p ⊎ IsFalse w p
      environments_cover = ⊎_elim (λ m. ⊎_elim (λ n. inl (covered m n)) (λ u. inr (is_false (resource_unfit u))) resource_choice) (λ u. inr (is_false (principal_unfit u))) principal_choice

      typed_sound : (e : Environment) → Suits s x e (with_slots w p.bindings) → (ty : Ty) (out : Facts) → Types (strictly s x e) no_facts (condition p) ty out → (r : Res V) → Means (with_slots w p.bindings) (condition p) r → IsGood ty r
      typed_sound e suits ty out d r m = (types_are_sound s x e (with_slots w p.bindings) suits no_facts (condition p) (hold_none (with_slots w p.bindings)) (condition_bound bound) conform ty out d r m).0

      any_good : (b : BoolType) (r : Res V) → IsGood (bool_type b) r → IsGood (bool_type any_bool) r
      any_good b (val v) h = in_any b v h
      any_good b (err f) h = h

      whole_slots : IsWhole w → IsWhole (with_slots w p.bindings)
      whole_slots h = record { principal = h.principal; action = h.action; resource = h.resource; context = h.context; unknowns = h.unknowns; store = h.store }

      pub passing_is_sound : IsWhole w → Passes s x p → (r : Res V) × PolicyMeans w p r × IsGood (bool_type any_bool) r
      passing_is_sound h passes =
          let m = an_outcome (with_slots w p.bindings) (whole_slots h) (condition p) in (
            m.0,
            (policies_mean_truth w p m.0).1 m.1,
            ⊎_elim
                (λ k. (let d = passes k.0 k.1 in any_good d.0 m.0 (typed_sound k.0 k.3 (bool_type d.0) d.1 d.2 m.0 m.1)))
                (λ f. subst (IsGood (bool_type any_bool)) (sym (f m.0 m.1)) refl)
                environments_cover,
          )

      pub impossible_is_sound : IsImpossible s x p → IsSatisfied w p → ⊥
      impossible_is_sound impossible sat =
          ⊎_elim
          (λ k. (let d = impossible k.0 k.1 k.2 in let g : IsGood (bool_type only_false) (val (truth_value true)) = typed_sound k.0 k.3 (bool_type only_false) d.0 d.1 (val (truth_value true)) sat in lies g))
          (λ f. (let q = f (val (truth_value true)) sat in cc))
          environments_cover
        where
          lies : false ≡ true → ⊥
          lies e = cc

      -- nor is one that is irrelevant for the types of the request
      pub irrelevant_is_sound : (r : RequestType) → c.request.0.principal.kind ≡ r.principal → c.request.0.action ≡ r.action → c.request.0.resource.kind ≡ r.resource → IsIrrelevant s x r p → IsSatisfied w p → ⊥
      irrelevant_is_sound r a b d irrelevant sat =
          ⊎_elim
          (λ k.
          let e = k.0 in
          let suits = k.3 in
          let first = (name_eq-Decides r.principal e.principal).1 (sym a ∙ suits.principal c.request.0.principal c.request.1.principal) in
          let second = (uid_eq-Decides r.action e.action).1 (sym b ∙ suits.action c.request.0.action c.request.1.action) in
          let third = (name_eq-Decides r.resource e.resource).1 (sym d ∙ suits.resource c.request.0.resource c.request.1.resource) in
          let of_types = hold_both (name_eq r.principal e.principal) (uid_eq r.action e.action && name_eq r.resource e.resource) first (hold_both (uid_eq r.action e.action) (name_eq r.resource e.resource) second third) in
          let f = irrelevant e k.1 k.2 of_types in
          let lie : false ≡ true = typed_sound e suits (bool_type only_false) f.0 f.1 (val (truth_value true)) sat in
          cc)
          (λ f. (let q = f (val (truth_value true)) sat in cc))
          environments_cover
