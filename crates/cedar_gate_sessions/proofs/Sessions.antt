-- What sessions decide and answer by evaluations.
use Rattle.std.proofs.Common.{◌≡◌, ◌∙◌, ◌||◌, Bool, true, false, cond, sym, ap, subst}
use Rattle.std.specs.Prelude.{All}
use Rattle.std.specs.List.{list_any}
use Rattle.std.specs.Str.{bytes_eq}
use Rattle.std.proofs.lemmas.Slice.Eq.{bytes_eq-Decides}
use Rattle.cedar_expr_model.specs.Uid.{Uid, uid_eq}
use Rattle.cedar_expr_model.specs.ListLaws.{AreDistinct}
use Rattle.cedar_expr_model.specs.Made.{Made}
use Rattle.cedar_expr_model.specs.Value.{V}
use Rattle.cedar_expr_model.proofs.Gathering.{each_in}
use Rattle.cedar_store_model.specs.Knowledge.{IsSettled}
use Rattle.cedar_store_model.specs.Policy.{condition}
use Rattle.cedar_store_model.specs.Answer.{ids, answer_of}
use Rattle.cedar_store_model.specs.World.{Found, held, missing, not_loaded}
use Rattle.cedar_store_model.proofs.Distinct.{distinct-Decides}
use Rattle.cedar_schema_model.specs.Schema.{declares_action}
use Rattle.cedar_evaluator_model.specs.Known.{known_found, known_world}
use Rattle.cedar_evaluator_model.specs.Laws.{WithinLimit, as_concrete}
use Rattle.cedar_evaluator_model.specs.OfLaws.Whole.{NothingUnknown, HoldsValues}
use Rattle.cedar_evaluator_model.specs.Scope.{Scope}
use Rattle.cedar_gate_model.specs.Acceptance.{Submission, IsAccepted, repeated_policy}
use Rattle.cedar_gate_model.specs.RunsAnswer.{Course, session_of, IsAdmitted, IsOpened}
use Rattle.cedar_gate_model.specs.Session.{Setup, State, scope_now, world_now, whole_store, NothingIsWanted, AnswerRefusal, AnswerFault}
use Rattle.cedar_gate_model.proofs.Gate.Accepting.{acceptance_reads}
use Rattle.cedar_gate_model.proofs.Runs.Answering.{loaded_answers}
use Rattle.cedar_gate_model.proofs.Runs.Completing.{Stands, parts_there, store_settled}
use Rattle.cedar_gate_model.proofs.Runs.Deciding.{none_unknown, leaves_nothing}
use Rattle.cedar_gate_model.proofs.Runs.Names.{stands_of}
use Rattle.cedar_gate_model.proofs.Runs.Owing.{each_all}
use Rattle.cedar_gate_sessions.specs.Answers.{answered}
use Rattle.cedar_gate_sessions.specs.Laws.{Conform, loaded_store}
use Rattle.cedar_gate_sessions.proofs.AnswersLeft.{answered_is}

pub accepted_distinct : (b : Submission) → IsAccepted b → AreDistinct (ids b.policies)
accepted_distinct b accepted = (distinct-Decides bytes_eq bytes_eq-Decides (ids b.policies)).0 (accepted repeated_policy tt)

pub accepted_within : (b : Submission) → IsAccepted b → (s : Scope) → All (WithinLimit s b.limit) b.policies
accepted_within b accepted s =
    each_all (WithinLimit s b.limit) b.policies
    (λ p k.
    let good = ((acceptance_reads b).0 accepted).each p k in
    ((each_in _ (condition p)).1 (none_unknown (condition p) good.known _), good.shallow))

-- what is settled has values
values_of_settled : (f : Found V) → IsSettled f → HoldsValues f
values_of_settled (held e) h = h
values_of_settled missing h = tt
values_of_settled not_loaded h = absurd h

settled_if : (b : Bool) (f : Found V) → IsSettled f → IsSettled (cond b f missing)
settled_if true f h = h
settled_if false f h = tt

module _ (c : Course) (s : State) (store : Uid → Found Made) (admitted : IsAdmitted c) (opened : IsOpened (session_of c) s) (conform : Conform (session_of c) s)
    (nothing : NothingIsWanted (session_of c) s) (fine : (f : AnswerRefusal) → AnswerFault (session_of c) s f → ⊥) (same : (u : Uid) → known_found (store u) ≡ loaded_store (session_of c) s u) where
  abbrev x : Setup
  x = session_of c

  abbrev scope : Scope
  scope = scope_now x s store

  stands : Stands x s
  stands = let t = stands_of x opened.opened s.bound opened.bound in record { values = t.values; each = t.each; conform = conform }

  settled : (u : Uid) → IsSettled (known_found (store u))
  settled u = subst IsSettled (sym (same u)) (settled_if (declares_action x.schema u || list_any (uid_eq u) s.asked) (whole_store x u) (store_settled x admitted.store u))

  known : NothingUnknown scope
  known =
      let p = parts_there x s stands nothing fine in
      record { principal = p.0; action = p.1; resource = p.2; context = p.3; store = λ u. values_of_settled (known_found (store u)) (settled u); calls = leaves_nothing c admitted }

  pub session_answers : answered scope c.submission.limit c.submission.policies ≡ as_concrete (answer_of (world_now x s) c.submission.policies)
  session_answers =
      answered_is scope c.submission.limit (admitted.fair).agrees known settled c.submission.policies (accepted_within c.submission admitted.accepted scope)
      ∙ (λ i. as_concrete (answer_of (record (known_world scope) { store = λ u. same u i }) c.submission.policies))
      ∙ ap as_concrete (loaded_answers c admitted s stands opened.opened nothing fine)
