-- Groups while they are gathered, in the model.
-- Rule: partial responses (docs/RULES.md).
use Rattle.std.specs.Prelude.{List, [], ◌∷◌, ◌++◌, map, Option, Some, None}
use Rattle.std.specs.List.{cons_option}
use Rattle.cedar_expr_model.specs.Tree.{Tree}
use Rattle.cedar_store_model.specs.Policy.{Policy, Effect, permit, forbid}
use Rattle.cedar_evaluator_model.specs.Scope.{Left}
use Rattle.cedar_evaluator_model.specs.Response.{PartialRequest, Noted, noted, Cause, ErrorState, with_error as erred, ResponseError, Response, of_effect, if_true, if_false, if_residual, if_stopped}
use Rattle.cedar_evaluator_requests.specs.Views.{error_of}
use Rattle.cedar_evaluator_requests.specs.Groups.{noted_seen, false_seen, residual_seen, each_once}
use Rattle.cedar_evaluator.specs.declared.gathering.Gathering.{Gathering}

-- the response to a request that has these groups
abbrev pub gathered : PartialRequest → Gathering → Response
gathered q g = record {
  true_permits = map noted_seen g.true_permits.items;
  false_permits = map false_seen g.false_permits.items;
  residual_permits = map residual_seen g.residual_permits.items;
  true_forbids = map noted_seen g.true_forbids.items;
  false_forbids = map false_seen g.false_forbids.items;
  residual_forbids = map residual_seen g.residual_forbids.items;
  errors = map error_of g.errors.items;
  request = q;
}

-- the response to a request that has these groups, where an id that is repeated in a group stands once
abbrev pub each_kept : PartialRequest → Gathering → Response
each_kept q g = record {
  true_permits = map noted_seen (each_once g.true_permits.items);
  false_permits = map false_seen (each_once g.false_permits.items);
  residual_permits = map residual_seen (each_once g.residual_permits.items);
  true_forbids = map noted_seen (each_once g.true_forbids.items);
  false_forbids = map false_seen (each_once g.false_forbids.items);
  residual_forbids = map residual_seen (each_once g.residual_forbids.items);
  errors = map error_of g.errors.items;
  request = q;
}

abbrev pub nothing_gathered : PartialRequest → Response
nothing_gathered q = record { true_permits = []; false_permits = []; residual_permits = []; true_forbids = []; false_forbids = []; residual_forbids = []; errors = []; request = q }

-- one more at the end of a group of this effect
abbrev pub with_true : Response → Effect → Noted → Response
with_true r permit n = record r { true_permits = r.true_permits ++ n ∷ [] }
with_true r forbid n = record r { true_forbids = r.true_forbids ++ n ∷ [] }

abbrev pub with_false : Response → Effect → Noted × ErrorState → Response
with_false r permit n = record r { false_permits = r.false_permits ++ n ∷ [] }
with_false r forbid n = record r { false_forbids = r.false_forbids ++ n ∷ [] }

abbrev pub with_residual : Response → Effect → Noted × Tree → Response
with_residual r permit n = record r { residual_permits = r.residual_permits ++ n ∷ [] }
with_residual r forbid n = record r { residual_forbids = r.residual_forbids ++ n ∷ [] }

abbrev pub with_error : Response → ResponseError → Response
with_error r e = record r { errors = r.errors ++ e ∷ [] }

-- one policy more: true, false with whether it erred, or with what is left of it
abbrev pub true_noted : Response → Policy → Response
true_noted r p = with_true r p.effect (noted p)

abbrev pub false_noted : Response → Policy → ErrorState → Response
false_noted r p s = with_false r p.effect (noted p, s)

abbrev pub residual_noted : Response → Policy → Tree → Response
residual_noted r p t = with_residual r p.effect (noted p, t)

-- one policy more that erred, and its error
abbrev pub error_noted : Response → Policy → Cause → Response
error_noted r p c = with_false (with_error r (record { id = p.id; cause = c })) p.effect (noted p, erred)

-- what each group takes of a policy of this effect, at its end
abbrev pub with_parts : Response → Effect → Option Noted → Option (Noted × ErrorState) → Option (Noted × Tree) → Option ResponseError → Response
with_parts r e t f l x = record {
  true_permits = r.true_permits ++ cons_option (of_effect permit e t) [];
  false_permits = r.false_permits ++ cons_option (of_effect permit e f) [];
  residual_permits = r.residual_permits ++ cons_option (of_effect permit e l) [];
  true_forbids = r.true_forbids ++ cons_option (of_effect forbid e t) [];
  false_forbids = r.false_forbids ++ cons_option (of_effect forbid e f) [];
  residual_forbids = r.residual_forbids ++ cons_option (of_effect forbid e l) [];
  errors = r.errors ++ cons_option x [];
  request = r.request;
}

-- the response with one policy more, of which this is left
abbrev pub with_left : Response → Policy → Left → Response
with_left r p l = with_parts r p.effect (if_true p l) (if_false p l) (if_residual p l) (if_stopped p l)
