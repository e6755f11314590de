use Rattle.std.proofs.Common.{◌≤◌, is_some, length, sym, ap, ◌∙◌, subst, arith}
use Rattle.std.specs.Map.{lookup}
use Rattle.std.proofs.lemmas.List.{length-map}
use Rattle.std.specs.BTreeMap.{get, is_at}
use Rattle.cedar_schema_resolver.specs.Numbers.{names_in, IsAt}
use Rattle.cedar_schema_resolver.proofs.Numbering.{numbered_begins, numbered_goes, numbered_ends, stood_before, none_there}
use Rattle.cedar_schema_resolver.proofs.numbers.numbers.Goals as goal

pub returns-then-is_some-clause-repeated : goal.returns-then-is_some-clause-repeated
returns-then-is_some-clause-repeated g c =
    let names = names_in g.N.Node.seen c.args.nodes.now in
    stood_before g.N.Node.seen names c.loop-number.number (get g.N.Ord.cmp c.loop-number.numbers) c.in_ok-name.name
    (subst (IsAt names c.loop-number.number) (sym c.in_ok-name.ensures) c.name_at.ensures)
    (ap is_some (sym c.in_ok-insert.ensures.old) ∙ sym c.is_some.ensures ∙ c.if-is_some.true)
    c.loop-number.invariant.numbered

pub loop-number-preserved : goal.loop-number-preserved
loop-number-preserved g c =
    let names = names_in g.N.Node.seen c.args.nodes.now in
    record {
      numbered = numbered_goes g.N.Node.seen names c.loop-number.number (get g.N.Ord.cmp c.loop-number.numbers) (get g.N.Ord.cmp c.insert.new.self) (is_at (g.N.Ord.cmp c.in_ok-name.name)) c.in_ok-name.name
          (g.met.N.Node.told c.in_ok-name.name)
          (subst (IsAt names c.loop-number.number) (sym c.in_ok-name.ensures) c.name_at.ensures)
          (none_there (get g.N.Ord.cmp c.loop-number.numbers c.in_ok-name.name) (ap is_some (sym c.in_ok-insert.ensures.old) ∙ sym c.is_some.ensures ∙ c.if-is_some.false))
          c.in_ok-insert.ensures.updates.0
          c.loop-number.invariant.numbered;
    }

pub loop-number-init : goal.loop-number-init
loop-number-init g c =
    let names = names_in g.N.Node.seen c.args.nodes.now in
    record {
      numbered = numbered_begins g.N.Node.seen names (get g.N.Ord.cmp c.new-numbers.result) (λ q. ap (lookup (is_at (g.N.Ord.cmp q))) c.new-numbers.ensures.empty);
    }

pub returns-clause-numbers : goal.returns-clause-numbers
returns-clause-numbers g c =
    let names = names_in g.N.Node.seen c.args.nodes.now in
    let past : length names ≤ c.loop-number.number = omega (arith, c.loop-number-test.false, length-map c.args.nodes.now (λ t. g.N.Node.seen t.0)) in
    (numbered_ends g.N.Node.seen names c.loop-number.number (get g.N.Ord.cmp c.loop-number.numbers) past c.loop-number.invariant.numbered).0

pub returns-clause-once : goal.returns-clause-once
returns-clause-once g c =
    let names = names_in g.N.Node.seen c.args.nodes.now in
    let past : length names ≤ c.loop-number.number = omega (arith, c.loop-number-test.false, length-map c.args.nodes.now (λ t. g.N.Node.seen t.0)) in
    (numbered_ends g.N.Node.seen names c.loop-number.number (get g.N.Ord.cmp c.loop-number.numbers) past c.loop-number.invariant.numbered).1
