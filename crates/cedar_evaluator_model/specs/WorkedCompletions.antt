-- The values of the worked examples of completions and of standing for an expression.
-- Rule: completions; partial evaluation (docs/RULES.md).
use Rattle.std.specs.Prelude.{◌≡◌, [], ◌∷◌, codes, true, Some, if◌then◌else◌}
use Rattle.std.specs.Str.{bytes_eq}
use Rattle.cedar_expr_model.specs.Name.{Text}
use Rattle.cedar_expr_model.specs.Uid.{Uid, uid_eq, uid_text}
use Rattle.cedar_expr_model.specs.Value.{V, prim, entity, record_of, no_fields, truth_value}
use Rattle.cedar_expr_model.specs.Table.{Table, fails}
use Rattle.cedar_store_model.specs.World.{World, held, missing, not_loaded}
use Rattle.cedar_store_model.specs.Store.{unloaded}
use Rattle.cedar_evaluator_model.specs.OfLaws.Completing.{Completes}
use Rattle.cedar_evaluator_model.specs.Scope.{Scope}
use Rattle.cedar_evaluator_model.specs.Worked.{user_a, user_b, doc_d, view, no_slot, worked_table, scope, open_scope, deep_context, entity_d}

-- the open request over a store without entities
abbrev pub open_request : Scope
open_request = record open_scope { store = λ u. missing }

-- what the unknowns mean: the variables' names their values, the name of `User::"b"` that uid, and every other one true
abbrev pub meant : Text → V
meant n =
    if bytes_eq n (codes "principal") then prim (entity user_a)
    else (if bytes_eq n (codes "action") then prim (entity view)
    else (if bytes_eq n (codes "resource") then prim (entity doc_d)
    else (if bytes_eq n (codes "context") then record_of no_fields
    else (if bytes_eq n (uid_text user_b) then prim (entity user_b) else truth_value true))))

abbrev pub completed : World
completed =
    record {
      principal = Some user_a;
      action = Some view;
      resource = Some doc_d;
      context = Some (record_of no_fields);
      slots = no_slot;
      unknowns = λ n. Some (meant n);
      table = worked_table;
      store = λ u. missing;
    }

-- the principal is a document
abbrev pub other_kind : World
other_kind = record completed { principal = Some doc_d }

-- the principal isn't what the unknown `principal` means
abbrev pub other_name : World
other_name = record completed { principal = Some user_b }

-- each slot is bound to `User::"a"`
abbrev pub bound_slots : World
bound_slots = record completed { slots = λ x. Some user_a }

-- no functions
abbrev pub empty_table : Table
empty_table = record { functions = []; ordered = []; answers = λ f vs. fails f }

-- nothing is unknown, and there are no functions
abbrev pub whole_scope : Scope
whole_scope = record scope { table = empty_table; store = λ u. missing }

-- two uids of one text, of which the second has no well-formed type
abbrev pub twin : Uid
twin = record { kind = record { path = codes "a" ∷ []; base = codes "b" }; id = [] }

abbrev pub other_twin : Uid
other_twin = record { kind = record { path = []; base = codes "a::b" }; id = [] }

-- no world completes a scope in which neither is loaded, since the unknown of their text can't mean both
abbrev pub TwinsAreNeverOpen : Type 0
TwinsAreNeverOpen = (w : World) (s : Scope) → s.store twin ≡ not_loaded → s.store other_twin ≡ not_loaded → Completes w s → ⊥

-- Of the store `Doc::"d"` is loaded and nothing else; the request is open, and the context is {r: {s: unknown u}}.
abbrev pub some_loaded : Scope
some_loaded = record open_scope { context = deep_context; store = λ u. if uid_eq u doc_d then held entity_d else unloaded u }

-- some world completes the scope
abbrev pub IsCompletable : Scope → Type 0
IsCompletable s = (w : World) × Completes w s
