-- The world of what an evaluation knows as values: what is still an expression, or unknown, is open in it.
-- Rule: partial evaluation; what is known (docs/RULES.md).
use Rattle.std.specs.Prelude.{List, map, Option, Some, None, option_map}
use Rattle.cedar_expr_model.specs.Name.{Text}
use Rattle.cedar_expr_model.specs.Uid.{Uid}
use Rattle.cedar_expr_model.specs.Value.{V, record_of}
use Rattle.cedar_expr_model.specs.Made.{Made, bare, bare_fields}
use Rattle.cedar_expr_model.specs.ValueParts.{Part, known, left}
use Rattle.cedar_store_model.specs.World.{World, Entity, Found, held, missing, not_loaded, by_found}
use Rattle.cedar_evaluator_model.specs.Scope.{Scope, Entry, uid, unknown_uid, Context, closed}

-- the uid, where it is known
abbrev pub known_entry : Entry → Option Uid
known_entry (uid u) = Some u
known_entry (unknown_uid k) = None

-- the context, where it is a value
abbrev pub known_context : Context → Option V
known_context (closed fs) = Some (record_of (bare_fields fs))
known_context c = None

abbrev pub known_part : Part Made → Part V
known_part (known m) = known (bare m)
known_part (left t) = left t

-- attributes, or tags, with their bare values
abbrev pub known_parts : List (Text × Part Made) → List (Text × Part V)
known_parts ps = map (λ p. (p.0, known_part p.1)) ps

abbrev pub known_entity : Entity Made → Entity V
known_entity e = record { attributes = known_parts e.attributes; tags = known_parts e.tags; ancestors = e.ancestors }

abbrev pub known_found : Found Made → Found V
known_found found = by_found (λ e. held (known_entity e)) missing not_loaded found

-- What a scope knows as a world. An expression that means something in it needs nothing else.
abbrev pub known_world : Scope → World
known_world s = record {
  principal = known_entry s.principal;
  action = known_entry s.action;
  resource = known_entry s.resource;
  context = known_context s.context;
  slots = s.slots;
  unknowns = λ n. option_map bare (s.values n);
  table = s.table;
  store = λ u. known_found (s.store u);
}
