use Rattle.std.proofs.Common.{◌≡◌, Option, Some, None, sym, subst, IfOk}
use Rattle.std.specs.Prelude.{Result}
use Rattle.std.specs.declared.alloc.AllocError.{AllocError}
use Rattle.cedar_expr_names.specs.Views.{uid_of}
use Rattle.cedar_expr_names.specs.declared.entity.EntityUID.{EntityUID}
use Rattle.cedar_store_entities.specs.Stores.{store_made, Dereferences}
use Rattle.cedar_store_entities.specs.declared.entity.Entity.{Entity}
use Rattle.cedar_gate_runs.specs.Hosts.{answered_of, answer_from, stored}
use Rattle.cedar_gate_runs.proofs.Stored.{by_copy, by_none, by_unloaded}
use Rattle.cedar_gate_runs.proofs.store_host.answer_one.Goals.{in-Data+in_ok-clone-in-Data, in-NoSuchEntity, in-Residual}
use Rattle.cedar_gate_runs.proofs.store_host.answer_one.Goals as goal

pub returns : goal.returns
returns c =
    let s = c.args.entities.now in
    let u = uid_of c.args.uid.now in
    let uid = c.uids_are_uids.ensures c.args.uid.now in
    let asked = c.in_ok-asked.asked in
    let same = c.in_ok-asked.ensures.cases.0 in
    let P : Result (EntityUID × Option Entity) AllocError → Type 0 = λ r. IfOk r (λ a. answered_of a ≡ answer_from (stored (store_made s)) u) in
    elim c.match-branch-3.branch [
      | in-Data+in_ok-clone-in-Data w ↦ (
          let d = subst (Dereferences s u) w.in-Data.is c.in_ok-entity.ensures in
          let k = w.in_ok-clone-in-Data in
          subst P (sym w.result-is) (by_copy s u asked w.in-Data.entity.now k.field-0 same d.1 d.2 k.ensures.cases.0 k.ensures.cases.1))
      | in-NoSuchEntity w ↦ subst P (sym w.result-is) (by_none s u asked uid same (subst (Dereferences s u) w.in-NoSuchEntity.is c.in_ok-entity.ensures))
      | in-Residual w ↦ subst P (sym w.result-is) (by_unloaded s u asked uid same (subst (Dereferences s u) w.in-Residual.is c.in_ok-entity.ensures).0)
    ]
