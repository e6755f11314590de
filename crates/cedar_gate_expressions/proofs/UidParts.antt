-- A list of another length than two is no uid, whatever reads its type.
use Rattle.std.proofs.Common.{◌≡◌, ◌<◌, ◌≤◌, List, [], ◌∷◌, length, Option, None, arith, refl}
use Rattle.serde_json.specs.Data.{Data}
use Rattle.serde_json.specs.View.{items_view}
use Rattle.serde_json.specs.declared.value.Value.{Value}
use Rattle.cedar_expr_model.specs.Name.{Name}
use Rattle.cedar_gate_model.specs.ReadingName.{uid_in}

pub short_uid : (kind_read : Data → Option Name) (xs : List Value) → length xs < 2 → uid_in kind_read (items_view xs) ≡ None
short_uid kind_read [] high = refl
short_uid kind_read (x ∷ []) high = refl
short_uid kind_read (x ∷ y ∷ xs) high = absurd (omega arith)

pub long_uid : (kind_read : Data → Option Name) (xs : List Value) → 3 ≤ length xs → uid_in kind_read (items_view xs) ≡ None
long_uid kind_read [] low = absurd (omega arith)
long_uid kind_read (x ∷ []) low = absurd (omega arith)
long_uid kind_read (x ∷ y ∷ []) low = absurd (omega arith)
long_uid kind_read (x ∷ y ∷ z ∷ xs) low = refl
