-- What is added so far and what the fields mention that are left is what all fields mention.
use Rattle.std.proofs.Common.{◌≡◌, ◌+◌, ◌*◌, ◌≤◌, ◌++◌}
use Rattle.cedar_expr_values.specs.Kept.{made_size}
use Rattle.cedar_expr_values.specs.Values.{made}
use Rattle.cedar_gate_openings.specs.Mentions.{uids, mentioned_in}
use Rattle.cedar_gate_openings.proofs.Mentioned.{fields_size_of}
use Rattle.cedar_gate_openings.proofs.mentions.+mentions.Given as goal

abbrev pub decreases-add_mentioned : goal.decreases-add_mentioned
decreases-add_mentioned g l = 2 * made_size (made g.X.ExtensionValue.seen l.value.now)

abbrev pub decreases-add_mentioned_in : goal.decreases-add_mentioned_in
decreases-add_mentioned_in g l = 2 * fields_size_of g.X.ExtensionValue.seen l.pairs.now.entries + 1

abbrev pub invariant-add_mentioned_in-loop-name : goal.invariant-add_mentioned_in-loop-name
invariant-add_mentioned_in-loop-name g l =
    record {
      added : uids l.to.items ++ mentioned_in g.X.ExtensionValue.seen l._name-iterator ≡ uids l.initial.to.items ++ mentioned_in g.X.ExtensionValue.seen l.pairs.entries;
      within : fields_size_of g.X.ExtensionValue.seen l._name-iterator ≤ fields_size_of g.X.ExtensionValue.seen l.pairs.entries;
    }
