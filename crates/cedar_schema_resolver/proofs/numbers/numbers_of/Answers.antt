use Rattle.std.proofs.Common.{◌++◌, [], ◌∷◌, sym, ap, ◌∙◌}
use Rattle.std.proofs.lemmas.List.{take_all}
use Rattle.std.specs.BTreeMap.{get}
use Rattle.std.specs.List.{filter_map}
use Rattle.std.specs.Option.{option_copied}
use Rattle.cedar_schema_resolver.proofs.Numbering.{kept_some, kept_none}
use Rattle.cedar_schema_resolver.proofs.numbers.numbers_of.Goals as goal
use Rattle.cedar_schema_resolver.proofs.numbers.numbers_of.Goals.{in-Some+in_ok-push-in-Some, in-None}

pub loop-name-preserved : goal.loop-name-preserved
loop-name-preserved g c =
    let number = get g.N.Ord.cmp c.args.numbers.now in
    elim c.match-get.branch [
      | in-Some+in_ok-push-in-Some w ↦
          ap (λ v. v.items) w.found-is ∙ w.in_ok-push-in-Some.ensures.items ∙ ap (λ ns. ns ++ w.in-Some.number.now ∷ []) c.loop-name.invariant
          ∙ sym (kept_some number c.args.names.now c.loop-name.name-index c.name-item.result w.in-Some.number.now c.loop-name-test.true c.name-item.is (sym c.get.ensures.value ∙ ap option_copied w.in-Some.is))
      | in-None w ↦
          ap (λ v. v.items) w.found-is ∙ c.loop-name.invariant
          ∙ sym (kept_none number c.args.names.now c.loop-name.name-index c.name-item.result c.loop-name-test.true c.name-item.is (sym c.get.ensures.value ∙ ap option_copied w.in-None.is))
    ]

pub loop-name-init : goal.loop-name-init
loop-name-init g c = c.in_ok-found.ensures.items

pub returns : goal.returns
returns g c = c.loop-name.invariant ∙ ap (filter_map (get g.N.Ord.cmp c.args.numbers.now)) (take_all c.loop-name.name-index c.args.names.now c.loop-name-test.false)
