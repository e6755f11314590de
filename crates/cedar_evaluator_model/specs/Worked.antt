-- The values of the worked examples of partial evaluation.
-- Rule: partial evaluation; completions (docs/RULES.md).
use Rattle.std.specs.Prelude.{ℕ, pos, List, [], ◌∷◌, codes, true, false, Bool, Option, Some, None, if◌then◌else◌}
use Rattle.std.specs.Str.{bytes_eq}
use Rattle.cedar_expr_model.specs.Name.{Text, Name, name_eq}
use Rattle.cedar_expr_model.specs.Uid.{Uid, uid_eq, uid_text}
use Rattle.cedar_expr_model.specs.Value.{truth, long, text, entity, V, prim}
use Rattle.cedar_expr_model.specs.Tree.{Tree, lit, unknown, string_core, extension_core, entity_core, no_tree_fields, tree_field, SlotId, record_literal}
use Rattle.cedar_expr_model.specs.Made.{Made, made_prim, made_record, made_extension, no_made_fields, made_field}
use Rattle.cedar_expr_model.specs.Table.{Table, Signature, function_style, Called, fails, leaves}
use Rattle.cedar_expr_model.specs.ValueParts.{known, left}
use Rattle.cedar_store_model.specs.World.{Entity, Found, held, missing, not_loaded}
use Rattle.cedar_evaluator_model.specs.Scope.{Scope, MadeCalled, makes, faults, leaves_unknown, uid, unknown_uid, Context, closed, residual_fields, unknown_context}
use Rattle.cedar_evaluator_model.specs.OfLaws.Calls.{bare_called}

abbrev pub named : Text → Name
named n = record { path = []; base = n }

abbrev pub entity_of : Text → Text → Uid
entity_of k i = record { kind = named k; id = i }

abbrev pub user : Name
user = named (codes "User")

abbrev pub doc : Name
doc = named (codes "Doc")

-- `User::"a"`, `User::"b"`, `Doc::"d"`, `Action::"view"`
abbrev pub user_a : Uid
user_a = entity_of (codes "User") (codes "a")

abbrev pub user_b : Uid
user_b = entity_of (codes "User") (codes "b")

abbrev pub doc_d : Uid
doc_d = entity_of (codes "Doc") (codes "d")

abbrev pub view : Uid
view = entity_of (codes "Action") (codes "view")

abbrev pub number : ℕ → Tree
number n = lit (long (pos n))

abbrev pub made_number : ℕ → Made
made_number n = made_prim (long (pos n))

abbrev pub made_truth : Bool → Made
made_truth b = made_prim (truth b)

abbrev pub true_tree : Tree
true_tree = lit (truth true)

abbrev pub false_tree : Tree
false_tree = lit (truth false)

-- the unknowns `a` and `u`, without annotation
abbrev pub unknown_a : Tree
unknown_a = unknown (codes "a") None

abbrev pub unknown_u : Tree
unknown_u = unknown (codes "u") None

-- Functions: `rank`, of a text, whose values are ordered; and `later`, of a text, which leaves the unknown of that name.
abbrev pub rank : Name
rank = named (codes "rank")

abbrev pub later : Name
later = named (codes "later")

abbrev pub rank_function : Signature
rank_function = record { name = rank; style = function_style; parameters = string_core ∷ []; is_variadic = false; result = Some (extension_core rank) }

abbrev pub later_function : Signature
later_function = record { name = later; style = function_style; parameters = string_core ∷ []; is_variadic = false; result = None }

-- the rank of a text, which is its own key; the empty text has none
abbrev pub rank_of : Text → MadeCalled
rank_of [] = faults rank
rank_of (c ∷ k) = makes (made_extension rank (c ∷ k) rank (text (c ∷ k) ∷ []))

abbrev pub worked_calls : Name → List Made → MadeCalled
worked_calls f (made_prim (text k) ∷ []) = if name_eq f rank then rank_of k else leaves_unknown k
worked_calls f ms = faults f

abbrev pub bare_rank : Text → Called
bare_rank k = bare_called (rank_of k)

abbrev pub worked_answers : Name → List V → Called
worked_answers f (prim (text k) ∷ []) = if name_eq f rank then bare_rank k else leaves k
worked_answers f vs = fails f

abbrev pub worked_table : Table
worked_table = record { functions = rank_function ∷ later_function ∷ []; ordered = rank ∷ []; answers = worked_answers }

-- Entities: `User::"a"` has {boss: User::"b", ok: unknown u, rest: {y: unknown u}}, the tags {t: 1, later: unknown a}, and
-- the ancestor `Doc::"d"`. `Doc::"d"` has {owner: User::"a", place: {x: 1}}. `User::"b"` isn't loaded. Others are missing.
abbrev pub entity_a : Entity Made
entity_a =
    record {
      attributes =
          (codes "boss", known (made_prim (entity user_b)))
          ∷ (codes "ok", left unknown_u)
          ∷ (codes "rest", left (record_literal (tree_field (codes "y") unknown_u no_tree_fields)))
          ∷ [];
      tags = (codes "t", known (made_number 1)) ∷ (codes "later", left unknown_a) ∷ [];
      ancestors = doc_d ∷ [];
    }

abbrev pub entity_d : Entity Made
entity_d =
    record {
      attributes =
          (codes "owner", known (made_prim (entity user_a)))
          ∷ (codes "place", known (made_record (made_field (codes "x") (made_number 1) no_made_fields)))
          ∷ [];
      tags = [];
      ancestors = [];
    }

abbrev pub worked_store : Uid → Found Made
worked_store u = if uid_eq u user_a then held entity_a else (if uid_eq u doc_d then held entity_d else (if uid_eq u user_b then not_loaded else missing))

abbrev pub no_value : Text → Option Made
no_value n = None

abbrev pub no_slot : SlotId → Option Uid
no_slot x = None

-- `User::"a"` views `Doc::"d"` with the context {}
abbrev pub scope : Scope
scope =
    record {
      principal = uid user_a;
      action = uid view;
      resource = uid doc_d;
      context = closed no_made_fields;
      slots = no_slot;
      values = no_value;
      table = worked_table;
      calls = worked_calls;
      store = worked_store;
    }

-- one unknown with a value
abbrev pub value_of : Text → Made → Text → Option Made
value_of n m k = if bytes_eq n k then Some m else None

abbrev pub with_value : Text → Made → Scope
with_value n m = record scope { values = value_of n m }

-- the principal is an unknown user; so are action and context, and the resource is unknown without a type
abbrev pub open_scope : Scope
open_scope = record scope { principal = unknown_uid (Some user); action = unknown_uid None; resource = unknown_uid None; context = unknown_context }

abbrev pub with_context : Context → Scope
with_context c = record scope { context = c }

-- the context {r: {s: unknown u}}
abbrev pub deep_context : Context
deep_context = residual_fields (tree_field (codes "r") (record_literal (tree_field (codes "s") unknown_u no_tree_fields)) no_tree_fields)

-- everything is missing, nothing is unknown
abbrev pub bare_scope : Scope
bare_scope = record scope { store = λ u. missing }

-- the unknown that stands for an entity that isn't loaded
abbrev pub standing_b : Tree
standing_b = unknown (uid_text user_b) (Some (entity_core user))
