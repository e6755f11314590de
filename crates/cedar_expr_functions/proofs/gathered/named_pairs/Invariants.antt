use Rattle.std.proofs.Common.{◌≡◌, map, take}
use Rattle.cedar_expr_functions.proofs.gathered.named_pairs.Given as goal

abbrev pub invariant-loop-f : goal.invariant-loop-f
invariant-loop-f g l = record { names : map (λ p. p.0.now) l.pairs.items ≡ map (λ f. f.now.name) (take l.f-index l.functions); functions : map (λ p. p.1) l.pairs.items ≡ take l.f-index l.functions }
