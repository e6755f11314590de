use Rattle.std.proofs.Common.{◌≡◌, ℕ, length, take}
use Rattle.cedar_store_entities.specs.Uids.{uids_in}
use Rattle.cedar_store_entities.proofs.uid_set.UidSet.truncate.Given as goal

abbrev pub invariant-last : goal.invariant-last
invariant-last l = take l.fn.len (uids_in l.self) ≡ take l.fn.len (uids_in l.initial.self)

abbrev pub decreases-last : goal.decreases-last
decreases-last l = length (uids_in l.self)
