use Rattle.std.proofs.Common.{◌≡◌, [], ◌∷◌, Ok, Err, map, sym, ap, ◌∙◌}
use Rattle.std.proofs.lemmas.List.{map-append}
use Rattle.std.specs.Vec.Iter.{into_iter_items}
use Rattle.cedar_expr_names.specs.Views.{name_of}
use Rattle.cedar_schema_decl.specs.Definitions.{common_form, commons_form}
use Rattle.cedar_schema_decl.specs.Refusals.{RefusesBy}
use Rattle.cedar_schema_decl.specs.Requalified.{and_then, requalified, under_name, each}
use Rattle.cedar_schema_decl.proofs.Gathered.{handed, gathers_none, gathers_one, gathers_all, gathers_not, nothing}
use Rattle.cedar_schema_decl.proofs.Untold.{untold}
use Rattle.cedar_schema_decl.proofs.definitions.requalify_commons.Goals as goal

pub loop-name-init : goal.loop-name-init
loop-name-init g c =
    let f = under_name (requalified (g.R.Requalify.renames c.args.names.now)) in
    let is : into_iter_items c.into_iter-name-iterator.result ≡ c.args.commons.defs.items = c.into_iter-name-iterator.ensures.into_iter_gives.0 in (
      tt,
      tt,
      gathers_none f (map (λ e. (name_of e.0, common_form g.R.Requalify.before e.1)) c.args.commons.defs.items) (map (λ e. (name_of e.0, common_form g.R.Requalify.before e.1)) (into_iter_items c.into_iter-name-iterator.result)) (map (λ e. (name_of e.0, common_form g.R.Requalify.after e.1)) c.in_ok-defs.defs.items)
          (ap (map (λ e. (name_of e.0, common_form g.R.Requalify.before e.1))) (sym is))
          (ap (map (λ e. (name_of e.0, common_form g.R.Requalify.after e.1))) c.in_ok-defs.ensures.items),
    )

pub loop-name-preserved : goal.loop-name-preserved
loop-name-preserved g c =
    let f = under_name (requalified (g.R.Requalify.renames c.args.names.now)) in
    let name = name_of c.in-Some.name in (
      tt,
      tt,
      gathers_one f (map (λ e. (name_of e.0, common_form g.R.Requalify.before e.1)) c.args.commons.defs.items) (map (λ e. (name_of e.0, common_form g.R.Requalify.before e.1)) (into_iter_items c.loop-name.name-iterator)) (map (λ e. (name_of e.0, common_form g.R.Requalify.before e.1)) (into_iter_items c.next.new.self))
          (map (λ e. (name_of e.0, common_form g.R.Requalify.after e.1)) c.loop-name.defs.items) (map (λ e. (name_of e.0, common_form g.R.Requalify.after e.1)) c.append.new.items.items)
          (name, common_form g.R.Requalify.before c.in-Some.common) (name, common_form g.R.Requalify.after c.in_ok-requalify_common.field-0)
          c.loop-name.invariant.2
          (ap (map (λ e. (name_of e.0, common_form g.R.Requalify.before e.1))) c.in-Some.ensures.steps.0)
          (ap (and_then (λ y. Ok (name, y))) c.in_ok-requalify_common.ensures.made)
          (ap (map (λ e. (name_of e.0, common_form g.R.Requalify.after e.1))) c.in_ok-append.ensures.appended ∙ map-append (λ e. (name_of e.0, common_form g.R.Requalify.after e.1)) c.loop-name.defs.items ((c.in-Some.name, c.in_ok-requalify_common.field-0) ∷ [])),
    )

pub returns-clause-made : goal.returns-clause-made
returns-clause-made g c =
    let f = under_name (requalified (g.R.Requalify.renames c.args.names.now)) in
    gathers_all f (map (λ e. (name_of e.0, common_form g.R.Requalify.before e.1)) c.args.commons.defs.items) (map (λ e. (name_of e.0, common_form g.R.Requalify.before e.1)) (into_iter_items c.loop-name.name-iterator)) (map (λ e. (name_of e.0, common_form g.R.Requalify.after e.1)) c.loop-name.defs.items) c.loop-name.invariant.2
    (ap (map (λ e. (name_of e.0, common_form g.R.Requalify.before e.1))) (nothing (into_iter_items c.loop-name.name-iterator) (sym c.loop-name.name-iterator.rest.ok.0 ∙ c.in-None.ensures.steps.0)))

pub returns-in_err-requalify_common-clause-refused : goal.returns-in_err-requalify_common-clause-refused
returns-in_err-requalify_common-clause-refused g c =
    let f = under_name (requalified (g.R.Requalify.renames c.args.names.now)) in
    let all = map (λ e. (name_of e.0, common_form g.R.Requalify.before e.1)) c.args.commons.defs.items in
    let name = name_of c.in-Some.name in
    handed (RefusesBy g.R.Requalify.tells (each f all)) c.in_err-requalify_common.field-0.0 c.from_residual-in_err-requalify_common.result c.from_residual-in_err-requalify_common.ensures.1
    (λ q u. gathers_not f all (map (λ e. (name_of e.0, common_form g.R.Requalify.before e.1)) (into_iter_items c.loop-name.name-iterator)) (map (λ e. (name_of e.0, common_form g.R.Requalify.before e.1)) (into_iter_items c.next.new.self)) (map (λ e. (name_of e.0, common_form g.R.Requalify.after e.1)) c.loop-name.defs.items) (name, common_form g.R.Requalify.before c.in-Some.common) q c.loop-name.invariant.2
    (ap (map (λ e. (name_of e.0, common_form g.R.Requalify.before e.1))) c.in-Some.ensures.steps.0)
    (ap (and_then (λ y. Ok (name, y))) (c.in_err-requalify_common.ensures.refused q u)))

pub returns-in_err-defs-clause-refused : goal.returns-in_err-defs-clause-refused
returns-in_err-defs-clause-refused g c =
    untold g.R.Requalify.tells (each (under_name (requalified (g.R.Requalify.renames c.args.names.now))) (commons_form g.R.Requalify.before c.args.commons)) c.from_residual.result
    (g.met.R.Requalify.memory_tells_none c.in_err-defs.field-0.0) c.from_residual.ensures.1

pub returns-in_err-append-clause-refused : goal.returns-in_err-append-clause-refused
returns-in_err-append-clause-refused g c =
    untold g.R.Requalify.tells (each (under_name (requalified (g.R.Requalify.renames c.args.names.now))) (commons_form g.R.Requalify.before c.args.commons)) c.from_residual-in_err-append.result
    (g.met.R.Requalify.memory_tells_none c.in_err-append.field-0.0) c.from_residual-in_err-append.ensures.1
