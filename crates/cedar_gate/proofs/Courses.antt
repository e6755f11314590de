-- What a gate was handed is accepted; courses at it are admitted, and its sessions stand at their start.
use Rattle.std.proofs.Common.{◌≡◌, ◌∙◌, ℕ, List, true, sym, ap, subst}
use Rattle.cedar_evaluator_model.specs.Response.{PartialRequest}
use Rattle.cedar_evaluator_requests.specs.Views.{request_of}
use Rattle.cedar_evaluator_requests.specs.declared.request.Request.{Request}
use Rattle.cedar_expr_functions.specs.Tables.{table_of, functions_of, ordered_of}
use Rattle.cedar_expr_functions.specs.declared.extensions.Extensions.{Extensions}
use Rattle.cedar_expr_model.specs.Name.{Name}
use Rattle.cedar_expr_model.specs.Table.{Table, Signature, all_typed}
use Rattle.cedar_expr_model.specs.OfLaws.Fair as tables
use Rattle.cedar_schema_model.specs.Declarations.{Declarations}
use Rattle.cedar_schema_model.specs.Resolved.{schema_of}
use Rattle.cedar_store_model.specs.Policy.{Policy}
use Rattle.cedar_gate_model.specs.Acceptance.{Submission, IsAccepted}
use Rattle.cedar_gate_model.specs.RunsAnswer.{Course, session_of, IsAdmitted}
use Rattle.cedar_gate_model.specs.RunsAsk.{IsMadeContext}
use Rattle.cedar_gate_rules.specs.Limit.{levels_of}
use Rattle.cedar_gate_runs.specs.declared.steps.Step.{Step}
use Rattle.cedar_gate_sessions.specs.Sessions.{IsSetup}
use Rattle.cedar_gate.specs.Courses.{IsCourseOf}
use Rattle.cedar_gate.specs.Gates.{IsOf, IsSetupOf, accepted_in, declared_in, policies_held, table_held, level_held, limit_held}
use Rattle.cedar_gate.specs.Handed.{submission_with}
use Rattle.cedar_gate.specs.declared.gate.Gate.{Gate}

-- a table by its functions and ordered types, a submission by its parts
table_is : (t : Table) (fs : List Signature) (os : List Name) → t.functions ≡ fs → t.ordered ≡ os → t ≡ record { functions = fs; ordered = os; answers = t.answers }
table_is t fs os ef eo =
    let by_functions : List Signature → Table = λ a. record { functions = a; ordered = t.ordered; answers = t.answers } in
    let by_ordered : List Name → Table = λ b. record { functions = fs; ordered = b; answers = t.answers } in
    ap by_functions ef ∙ ap by_ordered eo

submission_is : (s : Submission) (d : Declarations) (ps : List Policy) (t : Table) (level limit : ℕ) → s.declarations ≡ d → s.policies ≡ ps → s.table ≡ t → s.level ≡ level → s.limit ≡ limit
    → s ≡ record { declarations = d; policies = ps; table = t; level = level; limit = limit }
submission_is s d ps t level limit ed ep et el em =
    let by_declarations : Declarations → Submission = λ x. record { declarations = x; policies = s.policies; table = s.table; level = s.level; limit = s.limit } in
    let by_policies : List Policy → Submission = λ x. record { declarations = d; policies = x; table = s.table; level = s.level; limit = s.limit } in
    let by_table : Table → Submission = λ x. record { declarations = d; policies = ps; table = x; level = s.level; limit = s.limit } in
    let by_level : ℕ → Submission = λ x. record { declarations = d; policies = ps; table = t; level = x; limit = s.limit } in
    let by_limit : ℕ → Submission = λ x. record { declarations = d; policies = ps; table = t; level = level; limit = x } in
    ap by_declarations ed ∙ ap by_policies ep ∙ ap by_table et ∙ ap by_level el ∙ ap by_limit em

module _ {B : _} {F : _} {γ : _} (g : Gate B F γ) where
  -- what the gate was handed is accepted
  pub accepted_at : (s : Submission) → IsOf g s → IsAccepted s
  accepted_at s h =
      let t = table_of (table_held g) s.table.answers in
      subst IsAccepted (sym (submission_is s (declared_in g) _ t (level_held g) (levels_of (limit_held g)) h.handed.declarations h.handed.policies
      (table_is s.table (functions_of (table_held g)) (ordered_of (table_held g)) h.handed.functions h.handed.ordered) h.level h.handed.limit)) (g.accepted s.table.answers)

  -- a course at the gate is admitted
  pub admitted_at : (q : Request) (given : List Step) (c : Course) → IsMadeContext (request_of q).context → IsCourseOf g q given c → IsAdmitted c
  admitted_at q given c made h = record {
    accepted = accepted_at c.submission h.submission;
    fair = record {
      table = h.table;
      fair = subst tables.IsFair h.table h.fair.fair.fair;
      typed = subst (λ (t : Table). all_typed t ≡ true) h.table h.fair.fair.typed;
      agrees = h.fair.fair.agrees;
    };
    context = subst (λ (r : PartialRequest). IsMadeContext r.context) h.start made;
    store = h.store;
  }

  -- the setup of its session is one of the gate
  pub course_setup : (q : Request) (given : List Step) (c : Course) → IsCourseOf g q given c → IsSetup (λ (a : Gate B F γ). IsSetupOf a) (session_of c) g q
  course_setup q given c h = record {
    gate = record {
      schema = sym (ap schema_of h.submission.handed.declarations);
      level = sym h.submission.level;
      limit = sym h.submission.handed.limit;
      agrees = h.fair.agrees;
    };
    start = h.start;
    represented = h.context;
  }

  -- its policies are those of the gate
  pub policies_at : (q : Request) (given : List Step) (c : Course) → IsCourseOf g q given c → accepted_in g ≡ c.submission.policies
  policies_at q given c h = sym h.submission.handed.policies
