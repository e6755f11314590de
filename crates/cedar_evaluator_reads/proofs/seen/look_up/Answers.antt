use Rattle.std.proofs.Common.{Result, Ok, Err, ◌≡◌, refl, sym, subst}
use Rattle.std.specs.Prelude.{IfOk}
use Rattle.std.specs.declared.alloc.AllocError.{AllocError}
use Rattle.cedar_store_entities.specs.declared.entity.Entity.{Entity}
use Rattle.cedar_store_entities.specs.declared.entities.Dereference.{Dereference}
use Rattle.cedar_expr_names.specs.Views.{uid_of}
use Rattle.cedar_store_entities.specs.Stores.{Dereferences}
use Rattle.cedar_evaluator_reads.specs.Scopes.{store_of}
use Rattle.cedar_evaluator_reads.specs.Seen.{IsFound}
use Rattle.cedar_evaluator_reads.proofs.Found.{is_found}
use Rattle.cedar_evaluator_reads.proofs.seen.look_up.Goals as goal

pub returns : goal.returns
returns c = go c.entity.result c.entity.ensures
  where
    go : (r : Result (Dereference Entity) AllocError) → IfOk r (Dereferences c.args.entities.now (uid_of c.args.uid.now)) → IfOk r (IsFound (store_of c.args.entities.now (uid_of c.args.uid.now)) (uid_of c.args.uid.now))
    go (Ok d) h = is_found c.args.entities.now (uid_of c.args.uid.now) d h
    go (Err e) h = h
