-- Which scopes a world completes: those that ask for nothing twice in different ways.
-- Rule: completions (docs/RULES.md).
use Rattle.std.specs.Prelude.{◌≡◌, ◌==◌, ◌&&◌, [], ◌∷◌, Bool, true, not, Some, None, codes, option_map}
use Rattle.std.specs.List.{list_any}
use Rattle.std.specs.Str.{bytes_eq}
use Rattle.cedar_expr_model.specs.Name.{Text}
use Rattle.cedar_expr_model.specs.Uid.{Uid}
use Rattle.cedar_expr_model.specs.Uids.{is_uid}
use Rattle.cedar_expr_model.specs.Value.{V, prim, entity, record_of}
use Rattle.cedar_expr_model.specs.Tree.{record_literal}
use Rattle.cedar_expr_model.specs.Made.{bare, bare_fields}
use Rattle.cedar_store_model.specs.World.{World, not_loaded}
use Rattle.cedar_store_model.specs.OfLaws.Extends.{Keeps}
use Rattle.cedar_evaluator_model.specs.Scope.{Scope, Entry, uid, unknown_uid, Context, closed, residual_fields, unknown_context}
use Rattle.cedar_evaluator_model.specs.Known.{known_found}
use Rattle.cedar_evaluator_model.specs.OfLaws.Whole.{HoldsValues}
use Rattle.cedar_evaluator_model.specs.Completion.{PartIs}
use Rattle.cedar_evaluator_model.specs.OfLaws.Completing.{Completes}

-- the name has a double quote, as the text of each uid
abbrev pub has_quote : Text → Bool
has_quote n = list_any (λ b. b == 34) n

-- the name of a variable
abbrev pub names_variable : Text → Bool
names_variable n = list_any (bytes_eq n) (codes "principal" ∷ codes "action" ∷ codes "resource" ∷ codes "context" ∷ [])

-- a name that neither a variable nor an entity has
abbrev pub is_free_name : Text → Bool
is_free_name n = not (has_quote n) && not (names_variable n)

-- the name of an entry that is unknown has no value, and that of a known one has its uid, if it has one
abbrev pub EntryAgrees : Scope → Text → Entry → Type 0
EntryAgrees s n (uid u) = Keeps (option_map bare (s.values n)) (Some (prim (entity u)))
EntryAgrees s n (unknown_uid k) = s.values n ≡ None

-- Where free names mean what is given, a context with residual fields is a value.
abbrev pub ContextAgrees : Scope → (Text → V) → Context → Type 0
ContextAgrees s given (closed fs) = Keeps (option_map bare (s.values (codes "context"))) (Some (record_of (bare_fields fs)))
ContextAgrees s given (residual_fields fs) = (s.values (codes "context") ≡ None)
    × ((v : V) × ((w : World) → w.table ≡ s.table → ((n : Text) → is_free_name n ≡ true → w.unknowns n ≡ Some (given n)) → PartIs w (record_literal fs) v))
ContextAgrees s given unknown_context = s.values (codes "context") ≡ None

-- The parts of a scope agree, with what is given for free names: nothing is open that is no uid, no text of a uid has a value, free
-- names have the values given, the variables' names those of the variables, and what is held are values.
pub record Agree (s : Scope) (given : Text → V) : Type 0 where
  pub uids : (u : Uid) → s.store u ≡ not_loaded → is_uid u ≡ true
  pub names : (n : Text) → has_quote n ≡ true → s.values n ≡ None
  pub free : (n : Text) → is_free_name n ≡ true → Keeps (option_map bare (s.values n)) (Some (given n))
  pub principal : EntryAgrees s (codes "principal") s.principal
  pub action : EntryAgrees s (codes "action") s.action
  pub resource : EntryAgrees s (codes "resource") s.resource
  pub context : ContextAgrees s given s.context
  pub store : (u : Uid) → HoldsValues (known_found (s.store u))

-- a world completes such a scope, in which free names mean what is given
abbrev pub CompletionsExist : Type 0
CompletionsExist = (s : Scope) (given : Text → V) → Agree s given → (w : World) × Completes w s × ((n : Text) → is_free_name n ≡ true → w.unknowns n ≡ Some (given n))
