-- What completes a request completes the one that values which fit make of it.
use Rattle.std.proofs.Common.{◌≡◌, Bool, true, false, cond, refl, sym, ap, ◌∙◌, subst, ◌⊎◌, inl, inr}
use Rattle.std.specs.Prelude.{Option, Some, None, option_map, codes}
use Rattle.cedar_expr_model.specs.Name.{Text, Name, name_eq}
use Rattle.cedar_expr_model.specs.Uid.{Uid}
use Rattle.cedar_expr_model.specs.Value.{V, entity, prim, record_of}
use Rattle.cedar_expr_model.specs.Tree.{record_literal, TreeFields, Var, principal, action, resource, context}
use Rattle.cedar_expr_model.specs.Made.{Made, made_prim, made_set, made_record, made_extension, MadeFields, bare, bare_fields}
use Rattle.cedar_expr_model.specs.Substitution.{Bindings, substituted}
use Rattle.cedar_store_model.specs.Outcome.{val}
use Rattle.cedar_store_model.specs.World.{World}
use Rattle.cedar_store_model.specs.Meaning.{outcome_of}
use Rattle.cedar_store_model.specs.OfLaws.Extends.{Keeps}
use Rattle.cedar_store_model.proofs.Meaning.{means_outcome, outcome_means}
use Rattle.cedar_evaluator_model.specs.Scope.{Scope, Entry, uid, unknown_uid, Context, closed, residual_fields, unknown_context, Left, value_left, residual, stopped}
use Rattle.cedar_evaluator_model.specs.OfLaws.Calls.{Agrees}
use Rattle.cedar_evaluator_model.specs.OfLaws.WellMade.{IsWellMade, IsMadeWell, IsContextMadeWell, AllMadeWell}
use Rattle.cedar_evaluator_model.specs.Completion.{PartIs}
use Rattle.cedar_evaluator_model.specs.OfLaws.Completing.{EntryMeans, ContextMeans, Completes}
use Rattle.cedar_evaluator_model.specs.Response.{PartialRequest}
use Rattle.cedar_evaluator_model.specs.Reauthorize.{Refusal, wrong_value, known_already, other_type, Outcome, makes_it, refuses, and_next, entry_with, entry_bound, context_bound, restricted_left, context_made, context_substituted, request_bound, resumed}
use Rattle.cedar_evaluator_model.specs.ReauthorizeLaws.{CompletesRequest, BindsRightly}
use Rattle.cedar_evaluator_model.proofs.Named.{fits_in, fits_annotations, context_under}
use Rattle.cedar_evaluator_model.proofs.Residuals.Stands.{Stands}
use Rattle.cedar_evaluator_model.proofs.Residuals.Node.{evaluated_stands}
use Rattle.cedar_evaluator_model.proofs.Residuals.Slots.{substituted_outcome, substituted_fits, value_with_slots}
use Rattle.cedar_evaluator_model.proofs.Residuals.Completing.{completes_at, completes_unbound, well_at, well_unbound}

-- where something is made in the end it was made before
pub made_next : {A B : Type 0} (o : Outcome A) (f : A → Outcome B) (y : B) → and_next o f ≡ makes_it y → (a : A) × (o ≡ makes_it a) × (f a ≡ makes_it y)
made_next (makes_it a) f y e = (a, refl, e)
made_next (refuses r) f y e = cc

-- entries
kind_case : (b : Bool) (u : Uid) (z : Refusal) (e : Entry) → cond b (makes_it (uid u)) (refuses z) ≡ makes_it e → uid u ≡ e
kind_case true u z e q = cc
kind_case false u z e q = cc

with_uid : (x : Var) (u : Uid) (k : Option Name) (e : Entry) → entry_with x u (unknown_uid k) ≡ makes_it e → uid u ≡ e
with_uid x u None e q = cc
with_uid x u (Some k) e q = kind_case (name_eq k u.kind) u (other_type x) e q

entry_known : (w : World) (n : Text) (x : Var) (u : Uid) (e d : Entry) (o : Option Uid) → EntryMeans w n e o → w.unknowns n ≡ Some (prim (entity u)) → entry_with x u e ≡ makes_it d
    → EntryMeans w n d o
entry_known w n x u (uid v) d o h k q = cc
entry_known w n x u (unknown_uid t) d o h k q =
    let v = h.0 in
    let same : Some (prim (entity v)) ≡ Some (prim (entity u)) = sym h.3 ∙ k in
    let uids : v ≡ u = cc in
    subst (λ y. EntryMeans w n y o) (with_uid x u t d q) (h.1 ∙ ap Some uids)

entry_completes : (w : World) (n : Text) (x : Var) (e d : Entry) (o : Option Uid) (m : Option Made) → EntryMeans w n e o → Keeps (option_map bare m) (w.unknowns n) → entry_bound x e m ≡ makes_it d
    → EntryMeans w n d o
entry_completes w n x e d o None h k q = let same : e ≡ d = cc in subst (λ y. EntryMeans w n y o) same h
entry_completes w n x e d o (Some (made_prim (entity u))) h k q = entry_known w n x u e d o h k q
entry_completes w n x e d o (Some m) h k q = cc

-- contexts
module _ (w : World) where
  -- the context means this, and its values are well made
  abbrev pub IsContext : Context → Option V → Type 0
  IsContext c o = ContextMeans w c o × IsContextMadeWell w.table c

  unknown_bound : (o : Option V) (m : Made) (d : Context) → ContextMeans w unknown_context o → w.unknowns (codes "context") ≡ Some (bare m) → IsWellMade w.table m
      → context_bound unknown_context (Some m) ≡ makes_it d → IsContext d o
  unknown_bound o (made_record fs) d h k g q =
      let same : closed fs ≡ d = cc in
      let both : Some (record_of h.0) ≡ Some (record_of (bare_fields fs)) = sym h.2 ∙ k in
      subst (λ y. IsContext y o) same (h.1 ∙ both, g)
  unknown_bound o (made_prim p) d h k g q = cc
  unknown_bound o (made_set ms) d h k g q = cc
  unknown_bound o (made_extension n t f ps) d h k g q = cc

  known_bound : (m : Made) (d c : Context) → (context_bound c (Some m) ≡ refuses (known_already context)) ⊎ (context_bound c (Some m) ≡ refuses (wrong_value context))
      → context_bound c (Some m) ≡ makes_it d → ⊥
  known_bound m d c (inl e) q = let k : refuses (known_already context) ≡ makes_it d = sym e ∙ q in cc
  known_bound m d c (inr e) q = let k : refuses (wrong_value context) ≡ makes_it d = sym e ∙ q in cc

  closed_refuses : (m : Made) (fs : MadeFields) → (context_bound (closed fs) (Some m) ≡ refuses (known_already context)) ⊎ (context_bound (closed fs) (Some m) ≡ refuses (wrong_value context))
  closed_refuses (made_record gs) fs = inl refl
  closed_refuses (made_prim p) fs = inr refl
  closed_refuses (made_set ms) fs = inr refl
  closed_refuses (made_extension n t f ps) fs = inr refl

  residual_refuses : (m : Made) (fs : TreeFields)
      → (context_bound (residual_fields fs) (Some m) ≡ refuses (known_already context)) ⊎ (context_bound (residual_fields fs) (Some m) ≡ refuses (wrong_value context))
  residual_refuses (made_record gs) fs = inl refl
  residual_refuses (made_prim p) fs = inr refl
  residual_refuses (made_set ms) fs = inr refl
  residual_refuses (made_extension n t f ps) fs = inr refl

  context_known : (c d : Context) (o : Option V) (m : Option Made) → IsContext c o → Keeps (option_map bare m) (w.unknowns (codes "context")) → IsMadeWell w.table m
      → context_bound c m ≡ makes_it d → IsContext d o
  context_known c d o None h k g q = let same : c ≡ d = cc in subst (λ y. IsContext y o) same h
  context_known unknown_context d o (Some m) h k g q = unknown_bound o m d h.0 k g q
  context_known (closed fs) d o (Some m) h k g q = absurd (known_bound m d (closed fs) (closed_refuses m fs) q)
  context_known (residual_fields fs) d o (Some m) h k g q = absurd (known_bound m d (residual_fields fs) (residual_refuses m fs) q)

  -- what an evaluated record stands for
  record_made : (v : V) (l : Left) (d : Context) → Stands (record w { slots = λ x. None }) (Some (val v)) l → context_made l ≡ makes_it d → IsContext d (Some v)
  record_made v (value_left (made_record fs)) d h q =
      let same : closed fs ≡ d = cc in
      let values : v ≡ record_of (bare_fields fs) = let k = h.0 in cc in
      subst (λ y. IsContext y (Some v)) same (ap Some values, h.1)
  record_made v (residual (record_literal fs)) d h q =
      let same : residual_fields fs ≡ d = cc in
      let m = outcome_means (record w { slots = λ x. None }) (record_literal fs) (val v) h.0 in
      subst (λ y. IsContext y (Some v)) same ((v, refl, (value_with_slots w (record_literal fs) v m, fits_annotations w (record_literal fs) h.1)), tt)
  record_made v (value_left m) d h q = cc
  record_made v (residual r) d h q = cc
  record_made v (stopped r) d h q = cc

module _ (w : World) (s : Scope) (agrees : Agrees s) (well : AllMadeWell s) (complete : Completes w s) (env : Bindings) (binds : BindsRightly w env) where
  -- the record of a residual context with the values put in
  put_stands : (fs : TreeFields) (v : V) → PartIs w (record_literal fs) v → Stands (record w { slots = λ x. None }) (Some (val v)) (restricted_left s (substituted env (record_literal fs)))
  put_stands fs v h =
      let u = record w { slots = λ x. None } in
      let t = record_literal fs in
      let c = completes_unbound u (record s { slots = λ x. None }) (completes_at w (λ x. None) s complete) in
      let g = well_unbound (record s { slots = λ x. None }) (well_at s (λ x. None) well) in
      let e : outcome_of u (substituted env t) ≡ Some (val v) = sym (substituted_outcome u env binds.made binds.means t) ∙ means_outcome u t (val v) (h.0 (λ x. None)) in
      subst (λ o. Stands u o (restricted_left s (substituted env t))) e (evaluated_stands u (record s { slots = λ x. None; values = λ n. None }) agrees c g 512 (substituted env t) (substituted_fits _ env t (fits_in w t h.1)))

  context_put : (c d : Context) (o : Option V) → IsContext w c o → context_substituted s env c ≡ makes_it d → IsContext w d o
  context_put (closed fs) d o h q = let same : closed fs ≡ d = cc in subst (λ y. IsContext w y o) same h
  context_put unknown_context d o h q = let same : unknown_context ≡ d = cc in subst (λ y. IsContext w y o) same h
  context_put (residual_fields fs) d o h q =
      let k = h.0 in
      subst (IsContext w d) (sym k.1) (record_made w k.0 (restricted_left s (substituted env (record_literal fs))) d (put_stands fs k.0 k.2) q)

  context_completes : (c d : Context) (o : Option V) → IsContext w c o → context_under s env c ≡ makes_it d → IsContext w d o
  context_completes c d o h q =
      let k = made_next (context_bound c (env (codes "context"))) (context_substituted s env) d q in
      context_put k.0 d o (context_known w c k.0 o (env (codes "context")) h (binds.means (codes "context")) (binds.made (codes "context")) k.1) k.2

  pub request_completes : (q b : PartialRequest) → CompletesRequest w q → request_bound s env q ≡ makes_it b → CompletesRequest w b
  request_completes q b h e =
      let p = made_next (entry_bound principal q.principal (env (codes "principal"))) _ b e in
      let a = made_next (entry_bound action q.action (env (codes "action"))) _ b p.2 in
      let r = made_next (entry_bound resource q.resource (env (codes "resource"))) _ b a.2 in
      let c = made_next (context_under s env q.context) _ b r.2 in
      let same : record { principal = p.0; action = a.0; resource = r.0; context = c.0 } ≡ b = cc in
      let k = context_completes q.context c.0 w.context (h.means.context, h.made) c.1 in
      let done : CompletesRequest w (record { principal = p.0; action = a.0; resource = r.0; context = c.0 }) =
      record {
        means = record {
          principal = entry_completes w (codes "principal") principal q.principal p.0 w.principal (env (codes "principal")) h.means.principal (binds.means (codes "principal")) p.1;
          action = entry_completes w (codes "action") action q.action a.0 w.action (env (codes "action")) h.means.action (binds.means (codes "action")) a.1;
          resource = entry_completes w (codes "resource") resource q.resource r.0 w.resource (env (codes "resource")) h.means.resource (binds.means (codes "resource")) r.1;
          context = k.0;
        };
        made = k.1;
      }
      in
      subst (CompletesRequest w) same done

  -- the scope with the request, under the values
  pub resumed_completes : (b : PartialRequest) → CompletesRequest w b → Completes w (resumed s env b)
  resumed_completes b h =
      record {
        whole = complete.whole;
        principal = h.means.principal;
        action = h.means.action;
        resource = h.means.resource;
        context = h.means.context;
        slots = complete.slots;
        unknowns = binds.means;
        table = complete.table;
        store = complete.store;
      }

  pub resumed_well : (b : PartialRequest) → CompletesRequest w b → AllMadeWell (resumed s env b)
  resumed_well b h =
      record {
        context = subst (λ x. IsContextMadeWell x b.context) complete.table h.made;
        values = λ n. subst (λ x. IsMadeWell x (env n)) complete.table (binds.made n);
        store = well.store;
        calls = well.calls;
      }
