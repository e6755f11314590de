-- What a request and its roots are at a state of a session.
-- Rule: sessions; the slice (docs/RULES.md).
use Rattle.std.specs.Prelude.{◌≡◌, ◌↔◌, true, List, Contains}
use Rattle.cedar_expr_model.specs.Name.{Text}
use Rattle.cedar_expr_model.specs.Uid.{Uid}
use Rattle.cedar_expr_model.specs.Made.{Made}
use Rattle.cedar_evaluator_model.specs.Response.{PartialRequest}
use Rattle.cedar_gate_model.specs.RunsAsk.{IsMadeContext}
use Rattle.cedar_gate_model.specs.Session.{Setup, State, known_now, is_open_name, with_bound}
use Rattle.cedar_typechecker_model.specs.Slice.{roots}
use Rattle.cedar_gate_openings.specs.Requests.{request_at}
use Rattle.cedar_gate_openings.specs.Roots.{known_roots}
use Rattle.cedar_gate_wanted.specs.Laws.{IsBoundMore}

-- The roots of the request at a state are those of what is known then.
abbrev pub RootsAreKnown : Type 0
RootsAreKnown = (x : Setup) (s : State) (r : PartialRequest) → r ≡ request_at x.functions s x.start → known_roots r ≡ roots (known_now x s)

-- A list of the roots of the request at a state has exactly the roots of what is known then.
abbrev pub RootsAreListed : Type 0
RootsAreListed = (x : Setup) (s : State) (r : PartialRequest) (us : List Uid) → r ≡ request_at x.functions s x.start → us ≡ known_roots r → (u : Uid) → Contains us u ↔ Contains (roots (known_now x s)) u

-- A binding of an open name has all roots of the state before.
abbrev pub BindingIsMore : Type 0
BindingIsMore = (x : Setup) (s : State) (n : Text) (m : Made) → IsMadeContext x.start.context → is_open_name x.start s n ≡ true → IsBoundMore x s (with_bound s n m)
