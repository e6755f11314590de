-- What is kept is closed where its tests say so.
use Rattle.cedar_expr_model.specs.Name.{name_eq}
use Rattle.cedar_expr_model.specs.Uid.{uid_eq}
use Rattle.cedar_expr_model.proofs.Equality.{name_eq-Decides, uid_eq-Decides}
use Rattle.cedar_expr_model.proofs.Lists.{found-Decides}
use Rattle.cedar_schema_model.specs.Kept.{Kept, kept_ancestors, kept_action_ancestors}
use Rattle.cedar_typechecker_model.specs.Seen.{names_kept, uids_kept, IsClosed, ClosedByTests}

pub closed_by_tests : (k : Kept) → IsClosed k → ClosedByTests k
closed_by_tests k h = record {
  types_there = λ m n e. (found-Decides name_eq name_eq-Decides m (names_kept k)).1 (h.types_there m n ((found-Decides name_eq name_eq-Decides n (kept_ancestors k m)).0 e));
  types_on = λ l m n e f. (found-Decides name_eq name_eq-Decides n (kept_ancestors k l)).1 (h.types_on l m n ((found-Decides name_eq name_eq-Decides m (kept_ancestors k l)).0 e) ((found-Decides name_eq name_eq-Decides n (kept_ancestors k m)).0 f));
  actions_there = λ u v e. (found-Decides uid_eq uid_eq-Decides u (uids_kept k)).1 (h.actions_there u v ((found-Decides uid_eq uid_eq-Decides v (kept_action_ancestors k u)).0 e));
  actions_on = λ t u v e f. (found-Decides uid_eq uid_eq-Decides v (kept_action_ancestors k t)).1 (h.actions_on t u v ((found-Decides uid_eq uid_eq-Decides u (kept_action_ancestors k t)).0 e) ((found-Decides uid_eq uid_eq-Decides v (kept_action_ancestors k u)).0 f));
}

pub tests_closed : (k : Kept) → ClosedByTests k → IsClosed k
tests_closed k h = record {
  types_there = λ m n c. (found-Decides name_eq name_eq-Decides m (names_kept k)).0 (h.types_there m n ((found-Decides name_eq name_eq-Decides n (kept_ancestors k m)).1 c));
  types_on = λ l m n c d. (found-Decides name_eq name_eq-Decides n (kept_ancestors k l)).0 (h.types_on l m n ((found-Decides name_eq name_eq-Decides m (kept_ancestors k l)).1 c) ((found-Decides name_eq name_eq-Decides n (kept_ancestors k m)).1 d));
  actions_there = λ u v c. (found-Decides uid_eq uid_eq-Decides u (uids_kept k)).0 (h.actions_there u v ((found-Decides uid_eq uid_eq-Decides v (kept_action_ancestors k u)).1 c));
  actions_on = λ t u v c d. (found-Decides uid_eq uid_eq-Decides v (kept_action_ancestors k t)).0 (h.actions_on t u v ((found-Decides uid_eq uid_eq-Decides u (kept_action_ancestors k t)).1 c) ((found-Decides uid_eq uid_eq-Decides v (kept_action_ancestors k u)).1 d));
}
