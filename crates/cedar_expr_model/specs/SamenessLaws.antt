-- What stands in a set and in a record, and equality as of sets and maps, of which the laws speak.
-- Rule: values and equality (docs/RULES.md).
use Rattle.std.specs.Prelude.{◌≡◌}
use Rattle.std.proofs.Common.{◌⊎◌}
use Rattle.cedar_expr_model.specs.Name.{Text}
use Rattle.cedar_expr_model.specs.Value.{V, prim, set_of, record_of, extension, Vs, no_values, value, Fields, no_fields, field}

-- the value stands among these
abbrev pub Among : V → Vs → Type 0
Among v no_values = ⊥
Among v (value w ws) = (v ≡ w) ⊎ Among v ws

-- the field stands among these
abbrev pub FieldAmong : Text → V → Fields → Type 0
FieldAmong a v no_fields = ⊥
FieldAmong a v (field b w gs) = ((a ≡ b) × (v ≡ w)) ⊎ FieldAmong a v gs

-- Equality as of sets and maps: two sets where each member of either has an equal one in the other, two records where
-- each field of either has one of the same name and an equal value in the other.
abbrev mutual
  pub Same : V → V → Type 0
  Same (prim p) (prim q) = p ≡ q
  Same (set_of vs) (set_of ws) = EachAmong vs ws × ((w : V) → Among w ws → HasSame vs w)
  Same (record_of fs) (record_of gs) = EachFieldAmong fs gs × ((b : Text) (w : V) → FieldAmong b w gs → HasSameField fs b w)
  Same (extension m j) (extension n k) = (m ≡ n) × (j ≡ k)
  Same v w = ⊥

  -- some member of these is the same as the value
  pub HasSame : Vs → V → Type 0
  HasSame no_values w = ⊥
  HasSame (value v vs) w = Same v w ⊎ HasSame vs w

  -- each of these has a same one among those
  pub EachAmong : Vs → Vs → Type 0
  EachAmong no_values ws = Unit {0}
  EachAmong (value v vs) ws = ((w : V) × Among w ws × Same v w) × EachAmong vs ws

  -- some field of these has the name and a value that is the same
  pub HasSameField : Fields → Text → V → Type 0
  HasSameField no_fields b w = ⊥
  HasSameField (field a v fs) b w = ((a ≡ b) × Same v w) ⊎ HasSameField fs b w

  pub EachFieldAmong : Fields → Fields → Type 0
  EachFieldAmong no_fields gs = Unit {0}
  EachFieldAmong (field a v fs) gs = ((w : V) × FieldAmong a w gs × Same v w) × EachFieldAmong fs gs
