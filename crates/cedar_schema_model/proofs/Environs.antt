-- The environments.
use Rattle.std.proofs.Common.{◌≡◌, List, map, refl, sym, ap, ◌∙◌, subst}
use Rattle.std.specs.Prelude.{Contains}
use Rattle.std.specs.List.{flat_map}
use Rattle.cedar_expr_model.specs.Name.{Name}
use Rattle.cedar_expr_model.specs.Uid.{Uid}
use Rattle.cedar_expr_model.proofs.Lists.{map_has, map_from, flat_has, flat_from}
use Rattle.cedar_schema_model.specs.Schema.{Action, Schema}
use Rattle.cedar_schema_model.specs.Environment.{Environment, environment_at, environments}
use Rattle.cedar_schema_model.specs.Kept.{KeptAction, Kept, RequestKind, kinds_with, kinds_of, kept_environments}
use Rattle.cedar_schema_model.specs.KeptOf.{IsSameAction, IsKeptOf}
use Rattle.cedar_schema_model.specs.KeptLaws.{kind_of, EnvironmentsAreKept}

abbrev request_kind : Name → Uid → Name → RequestKind
request_kind p u r = record { principal = p; action = u; resource = r }

-- what an environment of an action is made of
kinds_from : (a : KeptAction) (x : RequestKind) → Contains (kinds_of a) x → (p : Name) × Contains a.applied.principals p × ((r : Name) × Contains a.applied.resources r × (request_kind p a.uid r ≡ x))
kinds_from a x c = let p = flat_from (kinds_with a.uid a.applied.resources) a.applied.principals x c in (p.0, p.1, map_from (λ r. request_kind p.0 a.uid r) a.applied.resources x p.2)

kinds_has : (a : KeptAction) (p r : Name) → Contains a.applied.principals p → Contains a.applied.resources r → Contains (kinds_of a) (request_kind p a.uid r)
kinds_has a p r c d = flat_has (kinds_with a.uid a.applied.resources) a.applied.principals p (request_kind p a.uid r) c (map_has (λ r. request_kind p a.uid r) a.applied.resources r d)

abbrev at_action : Action → List Environment
at_action b = flat_map (λ p. map (environment_at b p) b.resources) b.principals

at_from : (b : Action) (e : Environment) → Contains (at_action b) e → (p : Name) × Contains b.principals p × ((r : Name) × Contains b.resources r × (environment_at b p r ≡ e))
at_from b e c = let p = flat_from (λ p. map (environment_at b p) b.resources) b.principals e c in (p.0, p.1, map_from (environment_at b p.0) b.resources e p.2)

at_has : (b : Action) (p r : Name) → Contains b.principals p → Contains b.resources r → Contains (at_action b) (environment_at b p r)
at_has b p r c d = flat_has (λ p. map (environment_at b p) b.resources) b.principals p (environment_at b p r) c (map_has (environment_at b p) b.resources r d)

pub environments_kept : EnvironmentsAreKept
environments_kept s k h x = (only, all)
  where
    only : Contains (kept_environments k) x → (e : Environment) × Contains (environments s) e × (kind_of e ≡ x)
    only c =
        let a = flat_from kinds_of k.actions x c in
        let q = kinds_from a.0 x a.2 in
        let b = h.actions a.0 a.1 in
        let p = q.0 in
        let r = q.2.0 in (
          environment_at b.0 p r,
          flat_has at_action s.actions b.0 (environment_at b.0 p r) b.1 (at_has b.0 p r ((b.2.principals p).0 q.1) ((b.2.resources r).0 q.2.1)),
          ap (λ u. request_kind p u r) (sym b.2.uid) ∙ q.2.2,
        )

    all : ((e : Environment) × Contains (environments s) e × (kind_of e ≡ x)) → Contains (kept_environments k) x
    all c =
        let b = flat_from at_action s.actions c.0 c.1 in
        let q = at_from b.0 c.0 b.2 in
        let a = h.all_actions b.0 b.1 in
        let p = q.0 in
        let r = q.2.0 in
        subst (Contains (kept_environments k)) (ap (λ u. request_kind p u r) a.2.uid ∙ ap kind_of q.2.2 ∙ c.2)
        (flat_has kinds_of k.actions a.0 (request_kind p a.0.uid r) a.1 (kinds_has a.0 p r ((a.2.principals p).1 q.1) ((a.2.resources r).1 q.2.1)))
