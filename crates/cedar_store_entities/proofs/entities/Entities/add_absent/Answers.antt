use Rattle.std.proofs.Common.{refl, sym, ◌∙◌}
use Rattle.cedar_expr_names.specs.Views.{uid_of}
use Rattle.cedar_store_entities.specs.Uids.{uids_in}
use Rattle.cedar_store_entities.proofs.Gathered.{present_is}
use Rattle.cedar_store_entities.proofs.entities.Entities.add_absent.Goals as goal

pub returns-then-has-2-clause-refused : goal.returns-then-has-2-clause-refused
returns-then-has-2-clause-refused c =
    let s = c.args.self.now in
    (present_is s.entities.items (uids_in s.uids) (uid_of c.args.uid) s.named ∙ (sym c.has-2.ensures ∙ c.if-has-2.true), refl)

pub returns-clause-accepted : goal.returns-clause-accepted
returns-clause-accepted c =
    let s = c.args.self.now in
    (sym c.has.ensures ∙ c.if-has.false, present_is s.entities.items (uids_in s.uids) (uid_of c.args.uid) s.named ∙ (sym c.has-2.ensures ∙ c.if-has-2.false))
