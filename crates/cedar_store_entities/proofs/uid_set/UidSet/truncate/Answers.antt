use Rattle.std.proofs.Common.{◌-◌, length, take, sym, ap, ◌∙◌, arith}
use Rattle.std.proofs.lemmas.List.{length-map, length-take, take-take, take_all}
use Rattle.cedar_expr_names.specs.Views.{uid_of}
use Rattle.cedar_store_entities.specs.Uids.{uids_in}
use Rattle.cedar_store_entities.proofs.uid_set.UidSet.truncate.Goals as goal

pub last-preserved : goal.last-preserved
last-preserved c =
    let us = uids_in c.last.self in
    let l = length-map c.last.self.uids.items uid_of in
    ap (take c.args.len) c.drop_last.ensures ∙ take-take c.args.len (length us - 1) us (omega (arith, l)) ∙ c.last.invariant

pub last-smaller : goal.last-smaller
last-smaller c =
    let us = uids_in c.last.self in
    let l = length-map c.last.self.uids.items uid_of in
    let k = ap length c.drop_last.ensures ∙ length-take (length us - 1) us in
    omega (arith, l, k)

pub returns : goal.returns
returns c =
    let us = uids_in c.last.self in
    let l = length-map c.last.self.uids.items uid_of in
    sym (take_all c.args.len us (omega (arith, l))) ∙ c.last.invariant
