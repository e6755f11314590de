-- Declarations in another order are accepted alike, and come to the same answer.
use Rattle.std.proofs.Common.{◌≡◌, ◌∙◌, Bool, true, false, cond, List, refl, sym, inl, inr}
use Rattle.std.specs.List.{list_any}
use Rattle.cedar_expr_model.specs.Uid.{Uid, uid_eq}
use Rattle.cedar_expr_model.specs.Value.{V}
use Rattle.cedar_store_model.specs.Answer.{Answer}
use Rattle.cedar_store_model.specs.Store.{found_as, if_uid, whole}
use Rattle.cedar_store_model.specs.World.{Found, held}
use Rattle.cedar_schema_model.specs.ActionEntities.{action_ancestors, as_entity}
use Rattle.cedar_schema_model.specs.BagLaws.{IsReordered}
use Rattle.cedar_schema_model.specs.Declarations.{Declarations}
use Rattle.cedar_schema_model.specs.Resolved.{schema_of}
use Rattle.cedar_schema_model.specs.Schema.{Schema, declares_action}
use Rattle.cedar_schema_model.specs.WellFormed.{unresolved_external}
use Rattle.cedar_schema_model.proofs.Decls.Environments.{ancestors_declared}
use Rattle.cedar_schema_model.proofs.Decls.Faults.{no_schema_fault, where_no_schema_fault}
use Rattle.cedar_schema_model.proofs.Decls.Reordered.{same_faults}
use Rattle.cedar_typechecker_model.proofs.Moved.Policies.{schemas_moved, order_passes, order_finds}
use Rattle.cedar_typechecker_model.proofs.Moved.Schemas.{IsMoved, moved_back, any_moved, ancestors_into, same_declares_action, same_known_type, same_no_unknown_action, same_no_unknown_member}
use Rattle.cedar_gate_model.specs.Acceptance.{Submission, IsAccepted, extension_types, schema_in}
use Rattle.cedar_gate_model.specs.Runs.{answered}
use Rattle.cedar_gate_model.specs.RunsAlike.{course_world, with_declarations, by_declarations}
use Rattle.cedar_gate_model.specs.RunsAnswer.{Course, session_of, MayRun}
use Rattle.cedar_gate_model.specs.Session.{whole_store}
use Rattle.cedar_gate_model.specs.Transcript.{Entry}
use Rattle.cedar_gate_model.proofs.Gate.Accepting.{acceptance_reads, accepted_good}
use Rattle.cedar_gate_model.proofs.Runs.Alike.{course_answer}
use Rattle.cedar_gate_model.proofs.Runs.Ancestors.{FoundAlike, stores_alike}

pub declarations_may_move : (b : Submission) (d : Declarations) → IsReordered b.declarations d → IsAccepted b → IsAccepted (with_declarations b d)
declarations_may_move b d moved accepted =
    let g = accepted_good b accepted in
    let ns = extension_types b.table in
    let s = schema_in b in
    let t = schema_of d in
    let m = schemas_moved ns b.declarations d g.well_formed moved in
    (acceptance_reads (with_declarations b d)).1
    (record {
      well_formed = where_no_schema_fault ns d (λ f k h. no_schema_fault ns b.declarations g.well_formed f k ((same_faults ns b.declarations d moved f).1 h));
      resolved = λ h. g.resolved ((same_faults ns b.declarations d moved unresolved_external).1 h);
      distinct = g.distinct;
      each = g.each;
      fits = λ p k. (
          let f = g.fits p k in
          record {
            types = λ n h. sym (same_known_type s t m n) ∙ f.types n h;
            actions = λ u h. sym (same_no_unknown_action s t m u) ∙ f.actions u h;
            members = λ u h. sym (same_no_unknown_member s t m u) ∙ f.members u h;
            typed = order_passes ns b.declarations d b.table p g.well_formed moved f.typed;
            near_enough = λ v h. f.near_enough v ((order_finds ns b.declarations d b.table p b.level v g.well_formed moved).1 h);
          });
    })

-- action entities differ in the order of their ancestors alone
pub same_ancestors : (s t : Schema) → IsMoved s t → (u v : Uid) → list_any (uid_eq v) (action_ancestors t u) ≡ list_any (uid_eq v) (action_ancestors s u)
same_ancestors s t m u v =
    any_moved (uid_eq v) (action_ancestors t u) (action_ancestors s u)
    (λ y k. (ancestors_declared s u y).1 (ancestors_into t s (moved_back s t m) u y ((ancestors_declared t u y).0 k)))
    (λ y k. (ancestors_declared t u y).1 (ancestors_into s t m u y ((ancestors_declared s u y).0 k)))

pub store_case : (s t : Schema) → IsMoved s t → (u : Uid) (o : Found V) (a b : Bool) → a ≡ b → FoundAlike (cond b (held (as_entity t u)) o) (cond a (held (as_entity s u)) o)
store_case s t m u o true true e = inr (as_entity t u, as_entity s u, refl, refl, record { attributes = refl; tags = refl; ancestors = same_ancestors s t m u })
store_case s t m u o false false e = inl refl
store_case s t m u o true false e = cc
store_case s t m u o false true e = cc

pub moved_declarations_answer_alike : (c : Course) (d : Declarations) (es fs : List Entry) (a b : Answer) → IsAccepted c.submission → IsReordered c.submission.declarations d
    → MayRun c es (answered a) → MayRun (by_declarations c d) fs (answered b) → a ≡ b
moved_declarations_answer_alike c d es fs a b accepted moved run other =
    let g = accepted_good c.submission accepted in
    let s = schema_in c.submission in
    let t = schema_of d in
    let m = schemas_moved (extension_types c.submission.table) c.submission.declarations d g.well_formed moved in
    let x = session_of (by_declarations c d) in
    course_answer c es a run
    ∙ sym (stores_alike (course_world c) (whole_store x) (λ u. store_case s t m u (if_uid u (found_as whole (c.store u))) (declares_action s u) (declares_action t u) (same_declares_action s t m u)) c.submission.policies)
    ∙ sym (course_answer (by_declarations c d) fs b other)
