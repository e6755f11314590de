-- What the laws of these worlds say.
-- Rule: the meaning; the store; what is known (docs/RULES.md).
use Rattle.std.specs.Prelude.{◌≡◌, List, true}
use Rattle.std.specs.List.{list_all}
use Rattle.cedar_expr_model.specs.Name.{Text}
use Rattle.cedar_expr_model.specs.Uid.{Uid}
use Rattle.cedar_expr_model.specs.Value.{V}
use Rattle.cedar_expr_model.specs.Tree.{Tree, is_in, get_tag, has_tag}
use Rattle.cedar_expr_model.specs.Table.{Table, all_typed}
use Rattle.cedar_expr_model.specs.OfLaws.Fair.{IsFair}
use Rattle.cedar_store_model.specs.Outcome.{Res}
use Rattle.cedar_store_model.specs.World.{World}
use Rattle.cedar_store_model.specs.Store.{Store, whole, look_up}
use Rattle.cedar_store_model.specs.Knowledge.{holds_values, IsSettled}
use Rattle.cedar_store_model.specs.Reads.{attribute_read, attribute_tested}
use Rattle.cedar_store_model.specs.Meaning.{Means, combined, path_tested}
use Rattle.cedar_store_model.specs.Alone.{store_alone}
use Rattle.cedar_store_model.specs.Settled.{CallsLeaveNone, IsSettledWorld, BindsUnknowns}

-- What is read in a world with this store is what is read where the store alone is known.
pub record ReadsAsAlone (w : World) (s : Store) : Type 0 where
  pub attribute : (a : Text) (v : V) → attribute_read w a v ≡ attribute_read (store_alone s) a v
  pub test : (a : Text) (v : V) → attribute_tested w a v ≡ attribute_tested (store_alone s) a v
  pub path : (a : Text) (bs : List Text) (v : V) → path_tested w a bs v ≡ path_tested (store_alone s) a bs v
  pub within : (v x : V) → combined w is_in v x ≡ combined (store_alone s) is_in v x
  pub tag : (v x : V) → combined w get_tag v x ≡ combined (store_alone s) get_tag v x
  pub tag_test : (v x : V) → combined w has_tag v x ≡ combined (store_alone s) has_tag v x

abbrev pub ReadsAskTheStore : Type 0
ReadsAskTheStore = (w : World) (s : Store) → w.store ≡ look_up s → ReadsAsAlone w s

-- where everything is known but unknowns, an expression whose unknowns are bound means one outcome and no other
abbrev pub SettledWorldsAnswer : Type 0
SettledWorldsAnswer = (w : World) → IsSettledWorld w → (t : Tree) → BindsUnknowns w t → (r : Res V) × Means w t r × ((s : Res V) → Means w t s → s ≡ r)

-- each uid is known of a whole store of values
abbrev pub WholeStoresAreSettled : Type 0
WholeStoresAreSettled = (s : Store) → s.extent ≡ whole → list_all (λ e. holds_values e.1) s.entities ≡ true → (u : Uid) → IsSettled (look_up s u)

-- calls of a fair table leave nothing, where each function has a result type
abbrev pub TypedTablesLeaveNone : Type 0
TypedTablesLeaveNone = (x : Table) → IsFair x → all_typed x ≡ true → CallsLeaveNone x
