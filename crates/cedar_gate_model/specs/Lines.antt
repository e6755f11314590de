-- The lines that the program prints, and its status. Each line ends with a line feed.
-- Rule: the lines; statuses and refusal numbers (docs/RULES.md).
use Rattle.std.specs.Prelude.{◌≡◌, ◌+◌, ℕ, List, [], ◌∷◌, ◌++◌, Option, Some, None, codes}
use Rattle.std.specs.List.{flat_map}
use Rattle.std.specs.Fmt.{decimal}
use Rattle.cedar_expr_model.specs.Name.{Text, name_text}
use Rattle.cedar_expr_model.specs.Uid.{uid_text, quoted, uid_eq}
use Rattle.cedar_store_model.specs.Outcome.{Fault, missing_entity, overflow, zero_divisor, extension_failed}
use Rattle.cedar_store_model.specs.Answer.{Decision, allow, deny, PolicyError, Answer}
use Rattle.cedar_gate_model.specs.Acceptance.{Submission, Cause, HasFault, IsAccepted, number_of, warnings_of, schema_in}
use Rattle.cedar_gate_model.specs.Session.{Setup, open_number, bind_number, supply_number, answer_number}
use Rattle.cedar_gate_model.specs.Transcript.{Entry, round, bound, decided}
use Rattle.cedar_gate_model.specs.Runs.{End, answered, opening_refused, supply_refused, binding_refused, answer_refused, DecidesInPart, Runs}
use Rattle.cedar_evaluator_model.specs.Functions.{Functions}
use Rattle.cedar_gate_model.specs.Bundle.{Bundle}
use Rattle.std.specs.Option.{option_map_or}
use Rattle.std.specs.Map.{lookup}

pub data Status : Type 0 where
  is_answered is_refused is_unreadable is_stopped : Status

abbrev pub line : Text → Text
line text = text ++ 10 ∷ []

abbrev pub decision_word : Decision → Text
decision_word allow = codes "Allow"
decision_word deny = codes "Deny"

abbrev pub warning_lines : Submission → Text
warning_lines s = flat_map (λ id. line (codes "impossible " ++ quoted id)) (warnings_of s)

-- the words of an error; an accepted policy has no other
abbrev pub fault_words : Fault → Text
fault_words (missing_entity u) = codes " missing " ++ uid_text u
fault_words overflow = codes " overflow"
fault_words zero_divisor = codes " zero"
fault_words (extension_failed e) = codes " extension " ++ name_text e
fault_words f = []

abbrev pub error_line : PolicyError → Text
error_line e = line (codes "error " ++ (quoted e.id ++ fault_words e.fault))

-- The lines of a transcript whose next round has this number. The line of a round has its number and what was asked for; a binding
-- prints nothing.
abbrev pub entry_lines : ℕ → List Entry → Text
entry_lines k [] = []
entry_lines k (round uids ∷ es) = line (codes "round " ++ (decimal k ++ flat_map (λ u. 32 ∷ uid_text u) uids)) ++ entry_lines (k + 1) es
entry_lines k (bound n ∷ es) = entry_lines k es
entry_lines k (decided d ∷ es) = line (codes "decision " ++ option_map_or decision_word d (codes "None")) ++ entry_lines k es

-- the answer's line, its reasons and its errors
abbrev pub answer_lines : Answer → Text
answer_lines a = line (codes "answer " ++ decision_word a.decision) ++ (flat_map (λ id. line (codes "reason " ++ quoted id)) a.reasons ++ flat_map error_line a.errors)

abbrev pub numbered : Text → ℕ → Text
numbered word n = line (word ++ (32 ∷ decimal n))

-- how a run's last lines read
abbrev pub end_lines : End → Text
end_lines (answered a) = answer_lines a
end_lines (opening_refused f) = numbered (codes "open") (open_number f)
end_lines (supply_refused f) = numbered (codes "supply") (supply_number f)
end_lines (binding_refused f) = numbered (codes "bind") (bind_number f)
end_lines (answer_refused f) = numbered (codes "answer") (answer_number f)

abbrev pub unreadable_line : Text
unreadable_line = line (codes "unreadable")

abbrev pub refused_line : ℕ → Text
refused_line n = numbered (codes "refused") n

-- the status of a run by its end
abbrev pub end_status : End → Status
end_status (answered a) = is_answered
end_status e = is_stopped

-- what a session of a bundle stands on
abbrev pub setup_of : Functions → Bundle → Setup
setup_of f b = record { schema = schema_in b.submission; level = b.submission.level; limit = b.submission.limit; functions = f; start = b.start; store = λ u. lookup (uid_eq u) b.store }

-- the lines of a run, after acceptance
abbrev pub run_lines : Bundle → List Entry → End → Text
run_lines b es end = warning_lines b.submission ++ (entry_lines 1 es ++ end_lines end)

-- What may be printed for an accepted bundle: the lines of a run of it.
abbrev pub PrintsRun : Functions → Bundle → Status → Text → Type 0
PrintsRun f b status text = (es : List Entry) × (end : End)
    × Runs (DecidesInPart (setup_of f b) b.submission.policies) (setup_of f b) b.submission.policies b.steps es end × (status ≡ end_status end) × (text ≡ run_lines b es end)

-- What may be printed for an input, and the status with it. Where several faults are there, any may be named.
abbrev pub Prints : Functions → Option Bundle → Status → Text → Type 0
Prints f None status text = (status ≡ is_unreadable) × (text ≡ unreadable_line)
Prints f (Some b) is_refused text = (c : Cause) × HasFault c b.submission × (text ≡ refused_line (number_of c))
Prints f (Some b) is_unreadable text = ⊥
Prints f (Some b) status text = IsAccepted b.submission × PrintsRun f b status text
