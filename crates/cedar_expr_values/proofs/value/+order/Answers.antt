use Rattle.std.proofs.Common.{◌≡◌, ◌+◌, ◌*◌, max, Some, ap, ◌∙◌, arith}
use contract.BorrowLft.{⊑_meet, ⊑_static}
use Rattle.cedar_expr_values.specs.Kept.{mades_size, made_fields_size}
use Rattle.cedar_expr_values.specs.declared.value.Record.TheDeep.{size-ValueKind}
use Rattle.cedar_expr_values.proofs.Derived.{compared_is}
use Rattle.cedar_expr_values.proofs.Agreed.{sets_agree, records_agree}
use Rattle.cedar_expr_values.proofs.Measured.{set_within, record_within}
use Rattle.cedar_expr_values.proofs.value.+order.Goals as goal

pub compared::RecordOrd::cmp-cmp-requires : goal.compared::RecordOrd::cmp-cmp-requires
compared::RecordOrd::cmp-cmp-requires g t c κs inc =
    let x = g.X in
    let d : max (4 * (made_fields_size c.args.self.now.0 + 1) + 0) (4 * (made_fields_size c.args.other.now.0 + 1) + 0) ≡ t = c.decreases in
    let a = record_within x.ExtensionValue x.Ord x.PartialEq x.PartialOrd c.self.inside c.args.self.now t c.self.invariant c.self.view_is (omega arith) in
    let b = record_within x.ExtensionValue x.Ord x.PartialEq x.PartialOrd c.other.inside c.args.other.now t c.other.invariant c.other.view_is (omega arith) in
    (((a, (b, tt)), tt), (search (⊑_meet, ⊑_static) depth 40 fits 30000, search (⊑_static) depth 30))

pub compared::RecordOrd::cmp-returns : goal.compared::RecordOrd::cmp-returns
compared::RecordOrd::cmp-returns g t c =
    let x = g.X in
    let m = g.met.X in
    let agree = compared_is g.row.X x.ExtensionValue x.ExtensionValue-dict x.Ord x.Ord-dict x.Eq x.Eq-dict x.PartialEq x.PartialEq-dict x.PartialOrd x.PartialOrd-dict x.Destruct-dict
    m.ExtensionValue.ordered in
    c.cmp.ensures ∙ records_agree x.ExtensionValue.seen _ agree c.self.inside c.other.inside c.args.self.now c.args.other.now c.self.invariant c.other.invariant c.self.view_is c.other.view_is

pub compared::RecordPartialOrd::partial_cmp-cmp-requires : goal.compared::RecordPartialOrd::partial_cmp-cmp-requires
compared::RecordPartialOrd::partial_cmp-cmp-requires g t c κs inc =
    let x = g.X in
    let d : max (4 * (made_fields_size c.args.self.now.0 + 1) + 0) (4 * (made_fields_size c.args.other.now.0 + 1) + 0) ≡ t = c.decreases in
    let a = record_within x.ExtensionValue x.Ord x.PartialEq x.PartialOrd c.self.inside c.args.self.now t c.self.invariant c.self.view_is (omega arith) in
    let b = record_within x.ExtensionValue x.Ord x.PartialEq x.PartialOrd c.other.inside c.args.other.now t c.other.invariant c.other.view_is (omega arith) in
    (((a, (b, tt)), tt), (search (⊑_meet, ⊑_static) depth 40 fits 30000, search (⊑_static) depth 30))

pub compared::RecordPartialOrd::partial_cmp-returns : goal.compared::RecordPartialOrd::partial_cmp-returns
compared::RecordPartialOrd::partial_cmp-returns g t c =
    let x = g.X in
    let m = g.met.X in
    let agree = compared_is g.row.X x.ExtensionValue x.ExtensionValue-dict x.Ord x.Ord-dict x.Eq x.Eq-dict x.PartialEq x.PartialEq-dict x.PartialOrd x.PartialOrd-dict x.Destruct-dict
    m.ExtensionValue.ordered in
    ap Some (c.cmp.ensures ∙ records_agree x.ExtensionValue.seen _ agree c.self.inside c.other.inside c.args.self.now c.args.other.now c.self.invariant c.other.invariant c.self.view_is c.other.view_is)

pub compared::SetOrd::cmp-cmp-requires : goal.compared::SetOrd::cmp-cmp-requires
compared::SetOrd::cmp-cmp-requires g t c κs inc =
    let x = g.X in
    let d : max (4 * (mades_size c.args.self.now.0 + 1) + 0) (4 * (mades_size c.args.other.now.0 + 1) + 0) ≡ t = c.decreases in
    let a = set_within x.ExtensionValue x.Ord x.PartialEq x.PartialOrd c.self.inside _ c.args.self.now t (ap (λ m. m.values.items) c.deref.ensures) c.self.invariant.0 c.self.view_is (omega arith) in
    let b = set_within x.ExtensionValue x.Ord x.PartialEq x.PartialOrd c.other.inside _ c.args.other.now t (ap (λ m. m.values.items) c.deref-2.ensures) c.other.invariant.0 c.other.view_is (omega arith) in
    (((a, (b, tt)), tt), (search (⊑_meet, ⊑_static) depth 40 fits 30000, search (⊑_static) depth 30))

pub compared::SetOrd::cmp-returns : goal.compared::SetOrd::cmp-returns
compared::SetOrd::cmp-returns g t c =
    let x = g.X in
    let m = g.met.X in
    let agree = compared_is g.row.X x.ExtensionValue x.ExtensionValue-dict x.Ord x.Ord-dict x.Eq x.Eq-dict x.PartialEq x.PartialEq-dict x.PartialOrd x.PartialOrd-dict x.Destruct-dict
    m.ExtensionValue.ordered in
    c.cmp.ensures ∙ sets_agree x.ExtensionValue.seen _ agree c.self.inside c.other.inside _ _ c.args.self.now c.args.other.now (ap (λ m. m.values.items) c.deref.ensures) (ap (λ m. m.values.items) c.deref-2.ensures) c.self.invariant.0 c.other.invariant.0 c.self.view_is c.other.view_is

pub compared::SetPartialOrd::partial_cmp-cmp-requires : goal.compared::SetPartialOrd::partial_cmp-cmp-requires
compared::SetPartialOrd::partial_cmp-cmp-requires g t c κs inc =
    let x = g.X in
    let d : max (4 * (mades_size c.args.self.now.0 + 1) + 0) (4 * (mades_size c.args.other.now.0 + 1) + 0) ≡ t = c.decreases in
    let a = set_within x.ExtensionValue x.Ord x.PartialEq x.PartialOrd c.self.inside _ c.args.self.now t (ap (λ m. m.values.items) c.deref.ensures) c.self.invariant.0 c.self.view_is (omega arith) in
    let b = set_within x.ExtensionValue x.Ord x.PartialEq x.PartialOrd c.other.inside _ c.args.other.now t (ap (λ m. m.values.items) c.deref-2.ensures) c.other.invariant.0 c.other.view_is (omega arith) in
    (((a, (b, tt)), tt), (search (⊑_meet, ⊑_static) depth 40 fits 30000, search (⊑_static) depth 30))

pub compared::SetPartialOrd::partial_cmp-returns : goal.compared::SetPartialOrd::partial_cmp-returns
compared::SetPartialOrd::partial_cmp-returns g t c =
    let x = g.X in
    let m = g.met.X in
    let agree = compared_is g.row.X x.ExtensionValue x.ExtensionValue-dict x.Ord x.Ord-dict x.Eq x.Eq-dict x.PartialEq x.PartialEq-dict x.PartialOrd x.PartialOrd-dict x.Destruct-dict
    m.ExtensionValue.ordered in
    ap Some (c.cmp.ensures ∙ sets_agree x.ExtensionValue.seen _ agree c.self.inside c.other.inside _ _ c.args.self.now c.args.other.now (ap (λ m. m.values.items) c.deref.ensures) (ap (λ m. m.values.items) c.deref-2.ensures) c.self.invariant.0 c.other.invariant.0 c.self.view_is c.other.view_is)

pub ValueKindOrd::cmp-cmp-requires-in-Record-other :
    goal.ValueKindOrd::cmp-cmp-requires-in-Record-other
ValueKindOrd::cmp-cmp-requires-in-Record-other g t c κs inc =
    let x = g.X in
    let k = size-ValueKind g.row.X.Denot x.ExtensionValue x.Ord x.PartialEq x.PartialOrd in
    let d : max (k c.args.self.now) (k c.args.other.now) ≡ t = c.decreases in
    let e = ap k c.in-Record.cmp-arg-in-Record-1-own.given.1 in
    let f = ap k c.in-Record-other.cmp-arg-in-Record-1-own.given.1 in
    (omega arith, inc)

pub ValueKindPartialOrd::partial_cmp-partial_cmp-requires-in-Record-other :
    goal.ValueKindPartialOrd::partial_cmp-partial_cmp-requires-in-Record-other
ValueKindPartialOrd::partial_cmp-partial_cmp-requires-in-Record-other g t c κs inc =
    let x = g.X in
    let k = size-ValueKind g.row.X.Denot x.ExtensionValue x.Ord x.PartialEq x.PartialOrd in
    let d : max (k c.args.self.now) (k c.args.other.now) ≡ t = c.decreases in
    let e = ap k c.in-Record.partial_cmp-arg-in-Record-1-own.given.1 in
    let f = ap k c.in-Record-other.partial_cmp-arg-in-Record-1-own.given.1 in
    (omega arith, inc)

pub ValueKindOrd::cmp-cmp-requires-in-Set-other :
    goal.ValueKindOrd::cmp-cmp-requires-in-Set-other
ValueKindOrd::cmp-cmp-requires-in-Set-other g t c κs inc =
    let x = g.X in
    let k = size-ValueKind g.row.X.Denot x.ExtensionValue x.Ord x.PartialEq x.PartialOrd in
    let d : max (k c.args.self.now) (k c.args.other.now) ≡ t = c.decreases in
    let e = ap k c.in-Set.cmp-arg-in-Set-this-1-own.given.1 in
    let f = ap k c.in-Set-other.cmp-arg-in-Set-1-own.given.1 in
    (omega arith, inc)

pub ValueKindPartialOrd::partial_cmp-partial_cmp-requires-in-Set-other :
    goal.ValueKindPartialOrd::partial_cmp-partial_cmp-requires-in-Set-other
ValueKindPartialOrd::partial_cmp-partial_cmp-requires-in-Set-other g t c κs inc =
    let x = g.X in
    let k = size-ValueKind g.row.X.Denot x.ExtensionValue x.Ord x.PartialEq x.PartialOrd in
    let d : max (k c.args.self.now) (k c.args.other.now) ≡ t = c.decreases in
    let e = ap k c.in-Set.partial_cmp-arg-in-Set-this-1-own.given.1 in
    let f = ap k c.in-Set-other.partial_cmp-arg-in-Set-1-own.given.1 in
    (omega arith, inc)
