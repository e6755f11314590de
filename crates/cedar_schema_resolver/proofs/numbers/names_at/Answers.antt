use Rattle.std.proofs.Common.{[], ◌∷◌, map, sym, ap, ◌∙◌, subst}
use Rattle.std.specs.Slice.Iter.{iter_rest}
use Rattle.std.proofs.lemmas.List.{append-nil}
use Rattle.cedar_schema_resolver.specs.Numbers.{names_in, IsAt, AreNamesAt}
use Rattle.cedar_schema_resolver.proofs.Gathering.{no_names, one_name, from_back, in_whole}
use Rattle.cedar_schema_resolver.proofs.numbers.names_at.Goals as goal

pub loop-number-init : goal.loop-number-init
loop-number-init g c =
    let names = names_in g.N.Node.seen c.args.nodes.now in
    record { from_back = ([], append-nil _ ∙ ap (λ r. iter_rest r.iter) c.into_iter-number-iterator.ensures.into_iter_gives ∙ ap iter_rest c.rev-number-items.ensures.source ∙ c.iter.ensures.rest, subst (AreNamesAt names []) (sym (ap (map g.N.Node.seen) c.new-names.ensures.empty)) (no_names names)) }

pub name_at-requires : goal.name_at-requires
name_at-requires g c =
    let put = c.loop-number.invariant.from_back in
    c.requires.each _ (in_whole (iter_rest c.loop-number.number-iterator.iter) (iter_rest c.next.new.self.iter) put.0 c.args.numbers.now c.in-Some.number.now c.in-Some.ensures.steps put.1)

pub loop-number-preserved : goal.loop-number-preserved
loop-number-preserved g c =
    let names = names_in g.N.Node.seen c.args.nodes.now in
    let put = c.loop-number.invariant.from_back in
    let number = c.in-Some.number.now in
    record {
      from_back = (
        number ∷ put.0,
        from_back (iter_rest c.loop-number.number-iterator.iter) (iter_rest c.next.new.self.iter) put.0 c.args.numbers.now number c.in-Some.ensures.steps put.1,
        one_name g.N.Node.seen g.N.Ord.cmp g.met.N.Node.told names put.0 c.loop-number.names.keys c.insert.new.self.keys number c.in_ok-name.name (subst (IsAt names number) (sym c.in_ok-name.ensures) c.name_at.ensures) c.in_ok-insert.ensures.keys put.2,
      );
    }
