-- Whether a session has an answer.
use Rattle.std.proofs.Common.{arith, ◌≡◌, ◌&&◌, ◌||◌, ◌==◌, not, is_some, true, false, List, [], ◌∷◌, map, length, Option, sym, ap, subst, ◌∙◌}
use Rattle.std.specs.Prelude.{Contains}
use Rattle.std.proofs.lemmas.Bool.{eqb-true}
use Rattle.cedar_expr_model.specs.Name.{Text}
use Rattle.cedar_expr_model.specs.Uid.{Uid}
use Rattle.cedar_expr_model.specs.Made.{Made}
use Rattle.cedar_expr_model.proofs.Lists.{contains_head}
use Rattle.cedar_schema_model.specs.Conforming.{RequestConforms, request_conforms}
use Rattle.cedar_schema_model.proofs.Decls.Conforming.{request_conforms-Decides}
use Rattle.cedar_evaluator_model.specs.Response.{PartialRequest}
use Rattle.cedar_gate_openings.specs.Names.{HasOpenBy}
use Rattle.cedar_gate_model.specs.Moment.{request_of}
use Rattle.cedar_gate_model.specs.Session.{Setup, State, value_of, world_now, HasOpenName, is_open_name, is_open_entry, is_open_context, entry_named, NothingIsWanted, AnswerRefusal, AnswerFault, not_bound, still_wanted, not_conforming}
use Rattle.cedar_gate_openings.specs.Requests.{request_at}
use Rattle.cedar_gate_sessions.specs.Requests.{known_request}

-- whether something is in a list
module _ {A : Type 0} (f : A → Uid) where
  pub some_there : (us : List A) (vs : List Uid) → map f us ≡ vs → (length us == 0) ≡ false → (u : Uid) × Contains vs u
  some_there [] vs is e = absurd (cc)
  some_there (v ∷ us) vs is e = (f v, subst (λ ws. Contains ws (f v)) is (contains_head (f v) (map f us)))

  pub none_there : (us : List A) (vs : List Uid) → map f us ≡ vs → (length us == 0) ≡ true → vs ≡ []
  none_there [] vs is e = sym is
  none_there (v ∷ us) vs is e = absurd (omega (arith, eqb-true (length (v ∷ us)) 0 e))

module _ (x : Setup) (s : State) where
  module _ (values : Text → Option Made) (r : PartialRequest) (bound : (n : Text) → values n ≡ value_of s n) (start : r ≡ x.start) where
    -- something is open, by what is bound
    pub has_open : HasOpenBy r values → HasOpenName x.start s
    has_open h = (h.0, subst (λ q. is_open_name q s h.0 ≡ true) start (subst (λ o. (not (is_some o) && (is_open_entry (entry_named r h.0) || is_open_context r.context h.0)) ≡ true) (bound h.0) h.1))

    pub none_open : (HasOpenBy r values → ⊥) → HasOpenName x.start s → ⊥
    none_open none h = none (h.0, subst (λ o. (not (is_some o) && (is_open_entry (entry_named r h.0) || is_open_context r.context h.0)) ≡ true) (sym (bound h.0)) (subst (λ q. is_open_name q s h.0 ≡ true) (sym start) h.1))

  module _ (now : PartialRequest) (at : now ≡ request_at x.functions s x.start) where
    -- the request that is known is that of the world
    known_same : known_request now ≡ request_of (world_now x s)
    known_same = ap known_request at

    pub conforms_now : request_conforms x.schema (known_request now) ≡ true → RequestConforms x.schema (request_of (world_now x s))
    conforms_now e = (request_conforms-Decides x.schema (request_of (world_now x s))).0 (ap (request_conforms x.schema) (sym known_same) ∙ e)

    pub refuses_now : request_conforms x.schema (known_request now) ≡ false → RequestConforms x.schema (request_of (world_now x s)) → ⊥
    refuses_now e h = let lie : true ≡ false = sym ((request_conforms-Decides x.schema (request_of (world_now x s))).1 h) ∙ ap (request_conforms x.schema) (sym known_same) ∙ e in cc

  -- then no answer is refused
  pub none_refused : (HasOpenName x.start s → ⊥) → NothingIsWanted x s → RequestConforms x.schema (request_of (world_now x s)) → (f : AnswerRefusal) → AnswerFault x s f → ⊥
  none_refused closed nothing conforms not_bound h = closed h
  none_refused closed nothing conforms still_wanted h = nothing h.0 h.1
  none_refused closed nothing conforms not_conforming h = h.1 conforms
