use Rattle.std.proofs.Common.{map, drop}
use Rattle.cedar_expr_names.specs.Views.{uid_of}
use Rattle.cedar_typechecker_answers.proofs.Copied.{Gathered}
use Rattle.cedarcheck.proofs.subjects.uids_copied.Given as goal

abbrev pub invariant-loop-uid : goal.invariant-loop-uid
invariant-loop-uid l = Gathered (λ u. uid_of u.value) (λ u. uid_of u.value) (map (λ u. uid_of u.value) l.uids) l.copied.items (drop l.uid-index l.uids)
