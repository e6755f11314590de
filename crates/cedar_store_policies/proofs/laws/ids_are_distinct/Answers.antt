use Rattle.cedar_store_policies.proofs.laws.ids_are_distinct.Goals as goal

pub returns : goal.returns
returns c = λ s. s.distinct
