-- What the laws of reading say.
-- Rule: what a bundle reads as (docs/RULES.md).
use Rattle.std.specs.Prelude.{◌≡◌, ◌≤◌, ◌&&◌, ◌||◌, [], Contains, Bool, true, false, codes, Some, None}
use Rattle.std.specs.Str.{bytes_eq}
use Rattle.serde_json.specs.Data.{Data, string, array, object, Items, no_items, item, Members, no_members, member}
use Rattle.serde_json.specs.Find.{get}
use Rattle.cedar_expr_model.specs.Name.{Text}
use Rattle.cedar_expr_model.specs.Uid.{Uid}
use Rattle.cedar_expr_model.specs.Value.{V}
use Rattle.cedar_expr_model.specs.Tree.{SlotId, principal_slot, resource_slot, Tree, TreeFields, record_literal}
use Rattle.cedar_expr_model.specs.OfLaws.Built.{is_built}
use Rattle.cedar_expr_model.specs.Made.{Made}
use Rattle.cedar_expr_model.specs.Unknowns.{has_unknown}
use Rattle.cedar_store_model.specs.World.{Entity}
use Rattle.cedar_store_model.specs.Knowledge.{holds_values}
use Rattle.cedar_store_model.specs.Policy.{tree_uses}
use Rattle.cedar_schema_model.specs.BagLaws.{HasTwice}
use Rattle.cedar_evaluator_model.specs.Scope.{residual_fields}
use Rattle.cedar_evaluator_model.specs.Functions.{Functions}
use Rattle.cedar_gate_model.specs.Bundle.{Bundle}
use Rattle.cedar_gate_model.specs.ReadingExpression.{Version, second, expression_read}
use Rattle.cedar_gate_model.specs.ReadingValue.{value_read, context_read}
use Rattle.cedar_gate_model.specs.ReadingBundle.{bundle_read}
use Rattle.std.specs.Map.{keys_of}
use Rattle.cedar_expr_model.specs.Restricted.{is_restricted}

-- what is read as an expression has the form that builders make
abbrev pub ReadIsBuilt : Type 0
ReadIsBuilt = (v : Version) (d : Data) (t : Tree) → expression_read v d ≡ Some t → is_built t ≡ true

-- how a slot is written
abbrev pub slot_text : SlotId → Text
slot_text principal_slot = codes "?principal"
slot_text resource_slot = codes "?resource"

-- a list of the word `slot` and this slot
abbrev pub is_slot_form : SlotId → Items → Bool
is_slot_form s (item (string w) (item (string v) no_items)) = bytes_eq w (codes "slot") && bytes_eq v (slot_text s)
is_slot_form s ds = false

-- such a list stands somewhere in it
abbrev mutual
  pub writes_slot : SlotId → Data → Bool
  writes_slot s (array ds) = is_slot_form s ds || some_writes_slot s ds
  writes_slot s (object ms) = member_writes_slot s ms
  writes_slot s d = false

  pub some_writes_slot : SlotId → Items → Bool
  some_writes_slot s no_items = false
  some_writes_slot s (item d ds) = writes_slot s d || some_writes_slot s ds

  pub member_writes_slot : SlotId → Members → Bool
  member_writes_slot s no_members = false
  member_writes_slot s (member k d ms) = writes_slot s d || member_writes_slot s ms

-- an expression has no slot but those that are written
abbrev pub ReadSlotsAreWritten : Type 0
ReadSlotsAreWritten = (v : Version) (s : SlotId) (d : Data) (t : Tree) → writes_slot s d ≡ false → expression_read v d ≡ Some t → tree_uses t s ≡ false

-- the level and the limit of a bundle are in their ranges
abbrev pub NumbersAreInRange : Type 0
NumbersAreInRange = (x : Functions) (d : Data) (b : Bundle) → bundle_read x d ≡ Some b
    → (b.submission.level ≤ 4294967295) × (1 ≤ b.submission.limit) × (b.submission.limit ≤ 512)

-- a bundle without the key of steps has none
abbrev pub LackingStepsAreNone : Type 0
LackingStepsAreNone = (x : Functions) (d : Data) (b : Bundle) → bundle_read x d ≡ Some b → get (codes "steps") d ≡ None → b.steps ≡ []

-- the table of a bundle is the one that it is read with
abbrev pub TableIsGiven : Type 0
TableIsGiven = (x : Functions) (d : Data) (b : Bundle) → bundle_read x d ≡ Some b → b.submission.table ≡ x.table

-- no uid stands twice in the store of a bundle
abbrev pub StoredOnce : Type 0
StoredOnce = (x : Functions) (d : Data) (b : Bundle) → bundle_read x d ≡ Some b → HasTwice (keys_of b.store) → ⊥

-- attributes and tags of the store of a bundle are values alone
abbrev pub StoreHoldsValues : Type 0
StoreHoldsValues = (x : Functions) (d : Data) (b : Bundle) → bundle_read x d ≡ Some b → (e : Uid × Entity V) → Contains b.store e → holds_values e.1 ≡ true

-- a value is read of a restricted expression that has no unknown
abbrev pub ValuesAreRestricted : Type 0
ValuesAreRestricted = (x : Functions) (d : Data) (m : Made) → value_read x d ≡ Some m
    → (t : Tree) × (expression_read second d ≡ Some t) × (is_restricted t ≡ true) × (has_unknown t ≡ false)

-- a context that isn't a value has an unknown, and its fields are restricted
abbrev pub OpenContextsHaveUnknowns : Type 0
OpenContextsHaveUnknowns = (x : Functions) (d : Data) (fs : TreeFields) → context_read x d ≡ Some (residual_fields fs)
    → (has_unknown (record_literal fs) ≡ true) × (is_restricted (record_literal fs) ≡ true)
