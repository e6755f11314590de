use Rattle.cedar_expr_functions.proofs.Distinct.{named_rise, moved_values, names_again, refused_key, lent_cmp}
use Rattle.std.specs.Map.{keys_of}
use Rattle.std.specs.Prelude.{IsPermutation}
use Rattle.cedar_expr_functions.specs.Named.{NamesRise}
use Rattle.std.proofs.Common.{Some, None, subst, sym, ap, ◌∙◌}
use Rattle.cedar_expr_functions.proofs.gathered.by_name.Goals as goal

pub returns-in_ok-in_order-in-Ok-clause-rising : goal.returns-in_ok-in_order-in-Ok-clause-rising
returns-in_ok-in_order-in-Ok-clause-rising g c = subst NamesRise (sym c.in_ok-in_order-in-Ok.ensures.values) (named_rise c.in_ok-pairs.pairs.items c.in-Ok.map.entries c.args.functions.now c.in_ok-pairs.ensures.names c.in_ok-pairs.ensures.functions c.in-Ok.ensures.pairs c.in_ok-in_order-in-Ok.ensures.ordered)

pub returns-in_ok-in_order-in-Ok-clause-functions : goal.returns-in_ok-in_order-in-Ok-clause-functions
returns-in_ok-in_order-in-Ok-clause-functions g c = subst (IsPermutation c.args.functions.now) (sym c.in_ok-in_order-in-Ok.ensures.values) (moved_values c.in_ok-pairs.pairs.items c.in-Ok.map.entries c.args.functions.now c.in_ok-pairs.ensures.functions c.in-Ok.ensures.pairs)

pub returns-in_ok-in_order-in-Ok-clause-distinct : goal.returns-in_ok-in_order-in-Ok-clause-distinct
returns-in_ok-in_order-in-Ok-clause-distinct g c = names_again c.in_ok-pairs.pairs.items c.args.functions.now None c.in_ok-pairs.ensures.names c.in-Ok.ensures.distinct

pub returns-in_ok-clone-in-Err-Repeated-clause-refused : goal.returns-in_ok-clone-in-Err-Repeated-clause-refused
returns-in_ok-clone-in-Err-Repeated-clause-refused g c =
    let cloned = rw c.in-Err-Repeated.field-0-is at c.in_ok-clone-in-Err-Repeated.ensures.cases.0 in
    names_again c.in_ok-pairs.pairs.items c.args.functions.now (Some c.in-Err-Repeated.name) c.in_ok-pairs.ensures.names (refused_key lent_cmp (keys_of c.in_ok-pairs.pairs.items) c.in-Err-Repeated.field-0 c.in-Err-Repeated.name c.in-Err-Repeated.field-0-is c.in-Err-Repeated.ensures.refused)
    ∙ ap Some (sym cloned)
