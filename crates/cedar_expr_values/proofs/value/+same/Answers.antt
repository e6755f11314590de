use Rattle.std.proofs.Common.{◌≡◌, ◌+◌, ◌*◌, max, ap, ◌∙◌, arith}
use Rattle.std.specs.Ordering.{is_eq}
use contract.BorrowLft.{⊑_meet, ⊑_static}
use Rattle.cedar_expr_values.specs.Kept.{mades_size, made_fields_size}
use Rattle.cedar_expr_values.specs.declared.value.Record.TheDeep.{size-ValueKind}
use Rattle.cedar_expr_values.proofs.Derived.{equal_is}
use Rattle.cedar_expr_values.proofs.Agreed.{sets_tie, records_tie}
use Rattle.cedar_expr_values.proofs.Measured.{set_within, record_within}
use Rattle.cedar_expr_values.proofs.value.+same.Goals as goal

pub compared::RecordPartialEq::eq-eq-requires : goal.compared::RecordPartialEq::eq-eq-requires
compared::RecordPartialEq::eq-eq-requires g t c κs inc =
    let x = g.X in
    let d : max (4 * (made_fields_size c.args.self.now.0 + 1) + 0) (4 * (made_fields_size c.args.other.now.0 + 1) + 0) ≡ t = c.decreases in
    let a = record_within x.ExtensionValue x.Ord x.PartialEq x.PartialOrd c.self.inside c.args.self.now t c.self.invariant c.self.view_is (omega arith) in
    let b = record_within x.ExtensionValue x.Ord x.PartialEq x.PartialOrd c.other.inside c.args.other.now t c.other.invariant c.other.view_is (omega arith) in
    (((a, (b, tt)), tt), (search (⊑_meet, ⊑_static) depth 40 fits 30000, search (⊑_static) depth 30))

pub compared::RecordPartialEq::eq-returns : goal.compared::RecordPartialEq::eq-returns
compared::RecordPartialEq::eq-returns g t c =
    let x = g.X in
    let m = g.met.X in
    let agree = equal_is g.row.X x.ExtensionValue x.ExtensionValue-dict x.Ord x.Ord-dict x.Eq x.Eq-dict x.PartialEq x.PartialEq-dict x.PartialOrd x.PartialOrd-dict x.Destruct-dict
    (λ a b. m.Ord.matches_eq a b ∙ ap is_eq (m.ExtensionValue.ordered a b)) in
    c.eq.ensures ∙ records_tie x.ExtensionValue.seen _ agree c.self.inside c.other.inside c.args.self.now c.args.other.now c.self.invariant c.other.invariant c.self.view_is c.other.view_is

pub compared::SetPartialEq::eq-eq-requires : goal.compared::SetPartialEq::eq-eq-requires
compared::SetPartialEq::eq-eq-requires g t c κs inc =
    let x = g.X in
    let d : max (4 * (mades_size c.args.self.now.0 + 1) + 0) (4 * (mades_size c.args.other.now.0 + 1) + 0) ≡ t = c.decreases in
    let a = set_within x.ExtensionValue x.Ord x.PartialEq x.PartialOrd c.self.inside _ c.args.self.now t (ap (λ m. m.values.items) c.deref.ensures) c.self.invariant.0 c.self.view_is (omega arith) in
    let b = set_within x.ExtensionValue x.Ord x.PartialEq x.PartialOrd c.other.inside _ c.args.other.now t (ap (λ m. m.values.items) c.deref-2.ensures) c.other.invariant.0 c.other.view_is (omega arith) in
    (((a, (b, tt)), tt), (search (⊑_meet, ⊑_static) depth 40, search (⊑_static) depth 30))

pub compared::SetPartialEq::eq-returns : goal.compared::SetPartialEq::eq-returns
compared::SetPartialEq::eq-returns g t c =
    let x = g.X in
    let m = g.met.X in
    let agree = equal_is g.row.X x.ExtensionValue x.ExtensionValue-dict x.Ord x.Ord-dict x.Eq x.Eq-dict x.PartialEq x.PartialEq-dict x.PartialOrd x.PartialOrd-dict x.Destruct-dict
    (λ a b. m.Ord.matches_eq a b ∙ ap is_eq (m.ExtensionValue.ordered a b)) in
    c.eq.ensures ∙ sets_tie x.ExtensionValue.seen _ agree c.self.inside c.other.inside _ _ c.args.self.now c.args.other.now (ap (λ m. m.values.items) c.deref.ensures) (ap (λ m. m.values.items) c.deref-2.ensures) c.self.invariant.0 c.other.invariant.0 c.self.view_is c.other.view_is

pub ValueKindPartialEq::eq-eq-requires-in-Set-other :
    goal.ValueKindPartialEq::eq-eq-requires-in-Set-other
ValueKindPartialEq::eq-eq-requires-in-Set-other g t c κs inc =
    let x = g.X in
    let k = size-ValueKind g.row.X.Denot x.ExtensionValue x.Ord x.PartialEq x.PartialOrd in
    let d : max (k c.args.self.now) (k c.args.other.now) ≡ t = c.decreases in
    let e = ap k c.in-Set.eq-arg-in-Set-this-1-own.given.1 in
    let f = ap k c.in-Set-other.eq-arg-in-Set-1-own.given.1 in
    (omega arith, inc)

pub ValueKindPartialEq::eq-eq-requires-in-Record-other :
    goal.ValueKindPartialEq::eq-eq-requires-in-Record-other
ValueKindPartialEq::eq-eq-requires-in-Record-other g t c κs inc =
    let x = g.X in
    let k = size-ValueKind g.row.X.Denot x.ExtensionValue x.Ord x.PartialEq x.PartialOrd in
    let d : max (k c.args.self.now) (k c.args.other.now) ≡ t = c.decreases in
    let e = ap k c.in-Record.eq-arg-in-Record-1-own.given.1 in
    let f = ap k c.in-Record-other.eq-arg-in-Record-1-own.given.1 in
    (omega arith, inc)
