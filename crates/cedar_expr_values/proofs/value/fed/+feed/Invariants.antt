use Rattle.std.proofs.Common.{◌≡◌, fold, drop}
use Rattle.cedar_expr_values.proofs.Fed.{all_fed, fields_fed}
use Rattle.cedar_expr_values.proofs.value.fed.+feed.Given as goal

abbrev pub invariant-feed_record-loop-name : goal.invariant-feed_record-loop-name
invariant-feed_record-loop-name g l =
    fold g.H.Hasher.write l.state (fields_fed g.X.ExtensionValue.seen l.name-iterator) ≡ fold g.H.Hasher.write l.initial.state (fields_fed g.X.ExtensionValue.seen l.initial.name-iterator)

abbrev pub invariant-feed_set-loop-value : goal.invariant-feed_set-loop-value
invariant-feed_set-loop-value g l =
    fold g.H.Hasher.write l.state (all_fed g.X.ExtensionValue.seen (drop l.value-index l.value-items)) ≡ fold g.H.Hasher.write l.initial.state (all_fed g.X.ExtensionValue.seen l.value-items)
