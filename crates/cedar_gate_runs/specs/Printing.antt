-- Parts of the lines that are printed.
-- Rule: the lines (docs/RULES.md).
use Rattle.std.specs.Prelude.{ℕ, ◌<◌, List, [], ◌∷◌, ◌++◌, Option, codes, length, take}
use Rattle.std.specs.List.{flat_map}
use Rattle.std.specs.Option.{option_map_or}
use Rattle.std.specs.Fmt.{decimal}
use Rattle.std.specs.Io.KnownBytes.{Appends}
use Rattle.cedar_expr_model.specs.Name.{Text}
use Rattle.cedar_expr_model.specs.Uid.{Uid, uid_text, quoted}
use Rattle.cedar_store_model.specs.Answer.{Decision}
use Rattle.cedar_evaluator_model.specs.Scope.{fault, limit}
use Rattle.cedar_evaluator_model.specs.Response.{Cause, stops, no_value, ResponseError}
use Rattle.cedar_evaluator_model.specs.Members.{Concrete}
use Rattle.cedar_gate_model.specs.Lines.{line, decision_word, entry_lines, fault_words}
use Rattle.cedar_evaluator_requests.specs.Views.{answer_of}
use Rattle.cedar_evaluator_requests.specs.declared.response.Response.{Response}
use Rattle.cedar_gate_runs.specs.Transcripts.{entries_of}
use Rattle.cedar_gate_runs.specs.declared.transcript.Transcript.{Transcript}

-- the uids of a round, each after a space
abbrev pub uids_text : List Uid → Text
uids_text uids = flat_map (λ u. 32 ∷ uid_text u) uids

-- the lines of a round and of a decision
abbrev pub round_line : ℕ → List Uid → Text
round_line k uids = line (codes "round " ++ (decimal k ++ uids_text uids))

abbrev pub decided_line : Option Decision → Text
decided_line d = line (codes "decision " ++ option_map_or decision_word d (codes "None"))

-- a line of a word and an id in quotes
abbrev pub named_line : Text → Text → Text
named_line word id = line (word ++ (32 ∷ quoted id))

-- the words of an error; one that is no fault has none
abbrev pub cause_words : Cause → Text
cause_words (stops (fault f)) = fault_words f
cause_words (stops limit) = []
cause_words (no_value t) = []

abbrev pub error_line : ResponseError → Text
error_line e = line (codes "error " ++ (quoted e.id ++ cause_words e.cause))

-- the answer's line, its reasons and its errors
abbrev pub concrete_lines : Concrete → Text
concrete_lines a = line (codes "answer " ++ decision_word a.decision) ++ (flat_map (λ id. named_line (codes "reason") id) a.reasons ++ flat_map error_line a.errors)

-- the lines of impossible policies and of reasons, by their ids
abbrev pub impossible_lines : List Text → Text
impossible_lines ids = flat_map (λ id. named_line (codes "impossible") id) ids

abbrev pub reason_lines : List Text → Text
reason_lines ids = flat_map (λ id. named_line (codes "reason") id) ids

-- the lines of a run that came to an answer
abbrev pub answered_lines : Transcript → Response → Text
answered_lines t r = entry_lines 1 (entries_of t.entries.items) ++ concrete_lines (answer_of r)

-- known bytes grow by a beginning of a text that isn't all of it
abbrev pub AppendsBeginning : Option (List ℕ) → Option (List ℕ) → Text → Type 0
AppendsBeginning old new text = (n : ℕ) × (n < length text) × Appends old new (take n text)
