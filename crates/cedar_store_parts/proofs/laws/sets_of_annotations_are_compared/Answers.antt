use Rattle.cedar_store_parts.specs.Parts.{annotation_pair}
use Rattle.cedar_store_parts.proofs.Compared.{lists_decide, pairs_decide}
use Rattle.cedar_store_parts.proofs.laws.sets_of_annotations_are_compared.Goals as goal

pub returns : goal.returns
returns c = λ a b. lists_decide _ annotation_pair pairs_decide a.0.entries b.0.entries
