use Rattle.cedar_gate_wanted.proofs.next.next_wanted.Goals as goal

pub returns-clause-members : goal.returns-clause-members
returns-clause-members g c = λ u. ((λ k. (c.in_ok-all.ensures u).0 ((c.in_ok-wanted.ensures.members u).0 k)), (λ k. (c.in_ok-wanted.ensures.members u).1 ((c.in_ok-all.ensures u).1 k)))
