-- What the code's transcripts are in the model.
-- Rule: legal transcript (docs/RULES.md).
use Rattle.std.specs.Prelude.{List, map, option_map}
use Rattle.std.specs.Rc.{rc_str_bytes}
use Rattle.cedar_expr_names.specs.Views.{uid_of}
use Rattle.cedar_gate_model.specs.Transcript as model
use Rattle.cedar_evaluator_requests.specs.Views.{decision_of}
use Rattle.cedar_gate_runs.specs.declared.transcript.Entry.{Entry}
use Rattle.cedar_gate_runs.specs.declared.transcript.Entry.TheVariants.{Round, Bound, Decided}

abbrev pub entry_of : Entry → model.Entry
entry_of (Round uids) = model.round (map uid_of uids.items)
entry_of (Bound n) = model.bound (rc_str_bytes n)
entry_of (Decided d) = model.decided (option_map decision_of d)

abbrev pub entries_of : List Entry → List model.Entry
entries_of es = map entry_of es
