use Rattle.std.proofs.Common.{◌≡◌, [], ◌∷◌, map, sym, ap, ◌∙◌}
use Rattle.std.proofs.lemmas.List.{map-append}
use Rattle.std.specs.Vec.Iter.{into_iter_items}
use Rattle.cedar_schema_decl.specs.Requalified.{each}
use Rattle.cedar_schema_decl.proofs.Gathered.{handed, gathers_none, gathers_one, gathers_all, gathers_not, nothing}
use Rattle.cedar_schema_fragments.specs.Refusals.{Refuses}
use Rattle.cedar_schema_fragments.proofs.resolving.resolve_each.Goals as goal

pub loop-part-init : goal.loop-part-init
loop-part-init g c =
    let before = g.R.Resolve.before in
    let is : into_iter_items c.into_iter-part-iterator.result ≡ c.args.parts.items = c.into_iter-part-iterator.ensures.into_iter_gives.0 in (
      tt,
      tt,
      gathers_none (g.R.Resolve.resolves c.args.names.now) (map before c.args.parts.items) (map before (into_iter_items c.into_iter-part-iterator.result)) (map g.R.Resolve.after c.in_ok-made.made.items)
          (ap (map before) (sym is))
          (ap (map g.R.Resolve.after) c.in_ok-made.ensures.items),
    )

pub loop-part-preserved : goal.loop-part-preserved
loop-part-preserved g c =
    let before = g.R.Resolve.before in
    let after = g.R.Resolve.after in (
      tt,
      tt,
      gathers_one (g.R.Resolve.resolves c.args.names.now) (map before c.args.parts.items) (map before (into_iter_items c.loop-part.part-iterator)) (map before (into_iter_items c.next.new.self))
          (map after c.loop-part.made.items) (map after c.push.new.self.items)
          (before c.in-Some.part) (after c.in_ok-resolve.field-0)
          c.loop-part.invariant.2
          (ap (map before) c.in-Some.ensures.steps.0)
          c.in_ok-resolve.ensures.made
          (ap (map after) c.in_ok-push.ensures.items ∙ map-append after c.loop-part.made.items (c.in_ok-resolve.field-0 ∷ [])),
    )

pub returns-clause-made : goal.returns-clause-made
returns-clause-made g c =
    let before = g.R.Resolve.before in
    gathers_all (g.R.Resolve.resolves c.args.names.now) (map before c.args.parts.items) (map before (into_iter_items c.loop-part.part-iterator)) (map g.R.Resolve.after c.loop-part.made.items) c.loop-part.invariant.2
    (ap (map before) (nothing (into_iter_items c.loop-part.part-iterator) (sym c.loop-part.part-iterator.rest.ok.0 ∙ c.in-None.ensures.steps.0)))

pub returns-in_err-resolve-clause-refused : goal.returns-in_err-resolve-clause-refused
returns-in_err-resolve-clause-refused g c =
    let before = g.R.Resolve.before in
    let f = g.R.Resolve.resolves c.args.names.now in
    let all = map before c.args.parts.items in
    handed (Refuses (each f all)) c.in_err-resolve.field-0.0 c.from_residual-in_err-resolve.result c.from_residual-in_err-resolve.ensures.1
    (λ q u. gathers_not f all (map before (into_iter_items c.loop-part.part-iterator)) (map before (into_iter_items c.next.new.self)) (map g.R.Resolve.after c.loop-part.made.items) (before c.in-Some.part) q c.loop-part.invariant.2
    (ap (map before) c.in-Some.ensures.steps.0)
    (c.in_err-resolve.ensures.refused q u))
