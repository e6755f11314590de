-- What stands in a set or a record has a smaller measure than it.
use Rattle.std.proofs.Common.{◌≡◌, ℕ, ◌+◌, ◌*◌, ◌<◌, ◌≤◌, List, [], ◌∷◌, map, ap, arith}
use denote.Param.Weighed.{most}
use Rattle.std.specs.declared.cmp.Ord as Ord
use Rattle.std.specs.declared.cmp.PartialEq as PartialEq
use Rattle.std.specs.declared.cmp.PartialOrd as PartialOrd
use Rattle.cedar_expr_values.specs.Kept.{KeptSet, KeptRecord, mades_size, made_fields_size}
use Rattle.cedar_expr_values.specs.Inside.{set_inside, record_inside, MembersRise, NamesRise}
use Rattle.cedar_expr_values.specs.Falls.{set_falls, record_falls}
use Rattle.cedar_expr_values.specs.declared.extension.ExtensionValue as ExtensionValue
use Rattle.cedar_expr_values.specs.declared.value.Value.{Value}
use Rattle.cedar_expr_values.specs.declared.value.Set.TheInside.{Inside as SetInside}
use Rattle.cedar_expr_values.specs.declared.value.Record.TheInside.{Inside as RecordInside}
use Rattle.cedar_expr_values.specs.declared.value.Record.TheDeep.{deep-Value, size-Value}

module _ {X : Type 0} (ext : ExtensionValue.Ghosts X) (ord : Ord.Ghosts X) (peq : PartialEq.Ghosts X) (pord : PartialOrd.Ghosts X) where
  most_within : (vs : List (Value X)) (n : ℕ) → most (deep-Value X ext ord peq pord) vs ≤ n → most (size-Value X ext ord peq pord) vs < 4 * (n + 1)
  most_within [] n h = omega arith
  most_within (v ∷ vs) n h = let b = most_within vs n (omega arith) in omega arith

  pub set_within : (a : SetInside X) (vs : List (Value X)) (s : KeptSet) (t : ℕ) → vs ≡ a.members.value.values.items → MembersRise ext.seen a → set_inside ext.seen a ≡ s → 4 * (mades_size s.0 + 1) ≤ t
      → most (size-Value X ext ord peq pord) vs < t
  set_within a vs s t is h e m =
      let b = most_within a.members.value.values.items (mades_size (set_inside ext.seen a).0) (let f = set_falls ext ord peq pord a h in omega arith) in
      let d = ap (λ (k : KeptSet). mades_size k.0) e in
      let l = ap (most (size-Value X ext ord peq pord)) is in
      omega arith

  pub record_within : (a : RecordInside X) (r : KeptRecord) (t : ℕ) → NamesRise ext.seen a → record_inside ext.seen a ≡ r → 4 * (made_fields_size r.0 + 1) ≤ t
      → most (size-Value X ext ord peq pord) (map (λ e. e.1) a.fields.value.entries) < t
  record_within a r t h e m =
      let b = most_within (map (λ e. e.1) a.fields.value.entries) (made_fields_size (record_inside ext.seen a).0) (let f = record_falls ext ord peq pord a h in omega arith) in
      let d = ap (λ (k : KeptRecord). made_fields_size k.0) e in
      omega arith
