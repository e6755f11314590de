use Rattle.std.proofs.Common.{rules, ◌≡◌, ◌++◌, ◌∷◌, [], map, ap, sym, ◌∙◌, append_assoc}
use Rattle.std.proofs.lemmas.List.{map-append}
use Rattle.std.specs.Vec.Iter.{into_iter_items}
use Rattle.cedar_schema_built.specs.Views.{request_kind}
use Rattle.cedar_schema_entries.specs.Views.{action_seen}
use Rattle.cedar_store_parts.specs.Views.{kind_of}
use Rattle.cedar_typechecker_environments.specs.Settings.{environment_of, environment_without_slots}
use Rattle.cedar_typechecker_model.specs.Seen.{context_of}
use Rattle.cedar_typechecker.proofs.OfRequests.{environment_by, kinds_kept}
use Rattle.cedar_typechecker.proofs.environments.add_environments.Goals as goal

pub loop-kind-init : goal.loop-kind-init
loop-kind-init c =
    let a = action_seen c.args.action.now in
    let found = map environment_of (c.args.found.now).items in
    let all : into_iter_items c.into_iter-kind-iterator.result ≡ c.in_ok-kinds.kinds.items = search rules in
    ap (λ ks. found ++ map (environment_by a) ks) (ap (map request_kind) all ∙ c.in_ok-kinds.ensures) ∙ ap (λ es. found ++ es) (kinds_kept a)

pub loop-kind-preserved : goal.loop-kind-preserved
loop-kind-preserved c =
    let a = action_seen c.args.action.now in
    let old = c.loop-kind.found.items in
    let e = c.of_request_type.result in
    let rest = map (environment_by a) (map request_kind (into_iter_items c.next.new.self)) in
    let same : environment_of e ≡ environment_by a (request_kind c.in-Some.kind) =
    c.of_request_type.ensures ∙ ap (environment_without_slots (kind_of c.in-Some.kind)) (c.in_ok-context.ensures ∙ ap context_of c.context.ensures) in
    ap (λ es. map environment_of es ++ rest) c.in_ok-push.ensures.items
    ∙ ap (λ es. es ++ rest) (map-append environment_of old (e ∷ []))
    ∙ append_assoc (map environment_of old) (environment_of e ∷ []) rest
    ∙ ap (λ x. map environment_of old ++ x ∷ rest) same
    ∙ ap (λ ks. map environment_of old ++ map (environment_by a) (map request_kind ks)) (sym c.in-Some.ensures.steps.0)
    ∙ c.loop-kind.invariant
