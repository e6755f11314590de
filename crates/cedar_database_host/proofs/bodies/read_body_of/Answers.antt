use Rattle.std.proofs.Common.{◌≡◌, true, false, sym, ap, ◌∙◌}
use Rattle.cedar_expr_names.specs.Views.{uid_of}
use Rattle.cedar_expr_model.specs.Uid.{uid_eq}
use Rattle.cedar_expr_model.proofs.Equality.{uid_eq-Decides}
use Rattle.cedar_gate_bundles.specs.Written.{entity_pair_made}
use Rattle.cedar_store_entities.specs.Views.{entity_uid}
use Rattle.cedar_database_host.proofs.AnswerLemmas.{own_read, other_read}
use Rattle.cedar_database_host.proofs.bodies.read_body_of.Goals as goal

pub returns-clause-own : goal.returns-clause-own
returns-clause-own g c =
    let u = uid_of c.args.uid.now in
    let e : uid_eq (entity_uid c.in_ok-entity.entity) u ≡ true = ap (λ v. uid_eq v u) (sym c.uid.ensures) ∙ sym c.same.ensures ∙ c.if-not-same.false in
    (uid_eq-Decides (entity_uid c.in_ok-entity.entity) u).0 e

pub returns-clause-ok : goal.returns-clause-ok
returns-clause-ok g c agrees =
    let u = uid_of c.args.uid.now in
    let e : uid_eq (entity_uid c.in_ok-entity.entity) u ≡ true = ap (λ v. uid_eq v u) (sym c.uid.ensures) ∙ sym c.same.ensures ∙ c.if-not-same.false in
    own_read (g.T.EntityReader.functions c.args.reader.now) u c.args.body.now (entity_pair_made c.in_ok-entity.entity) (c.in_ok-entity.ensures.ok agrees) e

pub returns-then-not-same-clause-unreadable : goal.returns-then-not-same-clause-unreadable
returns-then-not-same-clause-unreadable g c unreadable agrees =
    let u = uid_of c.args.uid.now in
    let e : uid_eq (entity_uid c.in_ok-entity.entity) u ≡ false = ap (λ v. uid_eq v u) (sym c.uid.ensures) ∙ sym c.same.ensures ∙ c.if-not-same.true in
    other_read (g.T.EntityReader.functions c.args.reader.now) u c.args.body.now (entity_pair_made c.in_ok-entity.entity) (c.in_ok-entity.ensures.ok agrees) e
