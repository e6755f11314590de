use Rattle.std.proofs.Common.{sym, ◌∙◌, subst, ⊎_elim, arith}
use Rattle.std.specs.Prelude.{Contains}
use Rattle.cedar_schema_resolver.specs.Graphs.{targets}
use Rattle.cedar_schema_resolver.proofs.Finding.{is_itself, not_itself}
use Rattle.cedar_schema_resolver.proofs.Searching.{next_place}
use Rattle.cedar_schema_resolver.proofs.Ordering.{edge_from}
use Rattle.cedar_schema_resolver.proofs.order.first_on_cycle.Goals as goal

pub returns-then-contains-clause-found : goal.returns-then-contains-clause-found
returns-then-contains-clause-found c =
    record { edge = subst (λ ns. Contains ns c.loop-node.node-counter) c.row.ensures (is_itself c.loop-node.node-counter c.row.result.now (sym c.contains.ensures.value ∙ c.if-contains.true)) }

pub loop-node-preserved : goal.loop-node-preserved
loop-node-preserved c =
    λ i l h.
    ⊎_elim
    (λ k. c.loop-node.invariant i k h)
    (λ e. not_itself c.loop-node.node-counter c.row.result.now (sym c.contains.ensures.value ∙ c.if-contains.false)
    (subst (λ ns. Contains ns c.loop-node.node-counter) (sym c.row.ensures) (subst (λ k. Contains (targets c.args.rows.now k) k) e h)))
    (next_place i c.loop-node.node-counter l)

pub returns-clause-none : goal.returns-clause-none
returns-clause-none c = record { none = λ i h. let l = edge_from c.args.rows.now i i h in c.loop-node.invariant i (omega (arith, l, c.loop-node-test.false)) h }
