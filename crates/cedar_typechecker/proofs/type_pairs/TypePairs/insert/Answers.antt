use Rattle.std.proofs.Common.{Some, sym, ap, ◌∙◌, true, cond}
use Rattle.std.specs.BTreeMap.{get, is_at}
use Rattle.std.specs.List.{list_any}
use Rattle.cedar_typechecker.specs.Pairs.{types_by}
use Rattle.cedar_typechecker.proofs.Putting.{row_has, some_is, pair_put, pair_kept, on_err}
use Rattle.cedar_typechecker.proofs.type_pairs.TypePairs.insert.Goals as goal

pub returns-in_err-insert-clause-kept : goal.returns-in_err-insert-clause-kept
returns-in_err-insert-clause-kept c =
    let m = c.args.self.now.rows in
    let row = c.insert.new.self in
    let v = c.in-Some.ensures.value in
    on_err _ _
    (pair_kept m (get types_by (c.get_mut.follows.lender row)) c.args.first row
    ((c.get_mut.follows.holds row).3 (some_is _ _ (sym v))).0
    (λ r. ap (list_any (is_at (types_by r))) c.in_err-insert.ensures.err ∙ ap (λ o. row_has o r) v))

pub returns-in-Some-clause-added : goal.returns-in-Some-clause-added
returns-in-Some-clause-added c =
    let m = c.args.self.now.rows in
    let row = c.insert.new.self in
    let v = c.in-Some.ensures.value in
    pair_put m (get types_by (c.get_mut.follows.lender row)) c.args.first c.args.second row
    ((c.get_mut.follows.holds row).3 (some_is _ _ (sym v))).0
    (λ r. c.in_ok-insert.ensures.updates.0 r ∙ ap (λ o. cond (is_at (types_by c.args.second) r) true (row_has o r)) v)

pub returns-clause-added : goal.returns-clause-added
returns-clause-added c =
    let m = c.args.self.now.rows in
    let v = c.in_default.ensures.value in
    let same = c.get_mut.follows.holds-at-none in
    pair_put m (get types_by c.insert-3.new.self) c.args.first c.args.second c.insert-2.new.self
    (λ q. c.in_ok-insert-3.ensures.updates.0 q ∙ ap (λ n. cond (is_at (types_by c.args.first) q) (Some c.insert-2.new.self) (get types_by n q)) same)
    (λ r. c.in_ok-insert-2.ensures.updates.0 r ∙ ap (λ b. cond (is_at (types_by c.args.second) r) true b) (ap (list_any (is_at (types_by r))) c.new-row.ensures.empty ∙ ap (λ o. row_has o r) v))
