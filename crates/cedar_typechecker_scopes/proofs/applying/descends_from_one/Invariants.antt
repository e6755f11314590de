use Rattle.std.proofs.Common.{◌≡◌, false, map, take}
use Rattle.std.specs.List.{list_any}
use Rattle.cedar_expr_names.specs.Views.{uid_of}
use Rattle.cedar_typechecker_scopes.specs.Applying.{is_or_descends}
use Rattle.cedar_typechecker_scopes.proofs.applying.descends_from_one.Given as goal

abbrev pub invariant-loop-uid : goal.invariant-loop-uid
invariant-loop-uid g l = list_any (is_or_descends (g.S.DeclaredAttributes.schema l.schema) (uid_of l.action)) (map (λ u. uid_of u.value) (take l.uid-index l.uids)) ≡ false
