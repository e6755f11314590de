use Rattle.cedar_store_model.proofs.Instances.{from_nothing, not_back, absence_is_known, whole_world, not_whole, open_is_not_whole}
use Rattle.cedar_store_model.proofs.worked.worked_knowledge.Goals as goal

pub returns-clause-from_nothing : goal.returns-clause-from_nothing
returns-clause-from_nothing c = from_nothing

pub returns-clause-not_back : goal.returns-clause-not_back
returns-clause-not_back c = not_back

pub returns-clause-absence : goal.returns-clause-absence
returns-clause-absence c = absence_is_known

pub returns-clause-lost_part : goal.returns-clause-lost_part
returns-clause-lost_part c h = cc

pub returns-clause-new_part : goal.returns-clause-new_part
returns-clause-new_part c h = cc

pub returns-clause-finished_part : goal.returns-clause-finished_part
returns-clause-finished_part c = cc

pub returns-clause-unfinished_stays : goal.returns-clause-unfinished_stays
returns-clause-unfinished_stays c h = cc

pub returns-clause-whole_world : goal.returns-clause-whole_world
returns-clause-whole_world c = whole_world

pub returns-clause-not_whole : goal.returns-clause-not_whole
returns-clause-not_whole c = not_whole

pub returns-clause-open_is_not_whole : goal.returns-clause-open_is_not_whole
returns-clause-open_is_not_whole c = open_is_not_whole
