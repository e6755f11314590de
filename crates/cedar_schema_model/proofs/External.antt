-- What is declared elsewhere.
use Rattle.std.proofs.Common.{◌≡◌, ◌++◌, Bool, true, List, map, refl, sym, ap, ◌∙◌, subst, inl, inr, ◌⊎◌, ⊎_elim}
use Rattle.std.specs.Prelude.{Contains}
use Rattle.std.specs.List.{filter}
use Rattle.std.proofs.lemmas.List.Elements.{Contains-append_left, Contains-append_right, Contains-append_cases}
use Rattle.cedar_expr_model.specs.Name.{Name}
use Rattle.cedar_expr_model.specs.Uid.{Uid}
use Rattle.cedar_expr_model.proofs.Lists.{map_has, map_from, filter_has, filter_only}
use Rattle.cedar_schema_model.specs.Schema.{EntityKind, standard, enumerated, external, EntityType, Action, Schema}
use Rattle.cedar_schema_model.specs.Kept.{KeptType, KeptAction, Kept, is_elsewhere, Elsewhere, type_elsewhere, action_elsewhere, types_elsewhere, actions_elsewhere, elsewhere}
use Rattle.cedar_schema_model.specs.KeptOf.{IsSameKind, IsSameType, IsSameAction, IsKeptOf}
use Rattle.cedar_schema_model.specs.KeptLaws.{HasElsewhere, ElsewhereIsKept}

kind_elsewhere : (j k : EntityKind) → IsSameKind j k → is_elsewhere j ≡ true → k ≡ external
kind_elsewhere (standard as_ t) k h e = absurd (cc)
kind_elsewhere (enumerated ids) k h e = absurd (cc)
kind_elsewhere external k h e = h

elsewhere_kind : (j k : EntityKind) → IsSameKind j k → k ≡ external → is_elsewhere j ≡ true
elsewhere_kind (standard as_ t) k h e = absurd (apart as_ t (sym h ∙ e))
  where
    apart : (as_ : _) (t : _) → standard as_ t ≡ external → ⊥
    apart as_ t q = cc
elsewhere_kind (enumerated ids) k h e = absurd (apart h.0 (sym h.1 ∙ e))
  where
    apart : (js : _) → enumerated js ≡ external → ⊥
    apart js q = cc
elsewhere_kind external k h e = refl

abbrev test_type : KeptType → Bool
test_type t = is_elsewhere t.kind

abbrev test_action : KeptAction → Bool
test_action a = a.is_external

-- of which kind it is
is_type : Elsewhere → Name → Type 0
is_type x n = type_elsewhere n ≡ x

type_only : (s : Schema) (k : Kept) → IsKeptOf s k → (x : Elsewhere) → Contains (types_elsewhere k.types) x → HasElsewhere s x
type_only s k h x c =
    let t = map_from (λ (t : KeptType). type_elsewhere t.name) (filter test_type k.types) x c in
    let f = filter_only test_type k.types t.0 t.1 in
    let e = h.types t.0 f.0 in
    subst (HasElsewhere s) t.2 (e.0, e.1, e.2.name, kind_elsewhere t.0.kind e.0.kind e.2.kind f.1)

action_only : (s : Schema) (k : Kept) → IsKeptOf s k → (x : Elsewhere) → Contains (actions_elsewhere k.actions) x → HasElsewhere s x
action_only s k h x c =
    let a = map_from (λ (a : KeptAction). action_elsewhere a.uid) (filter test_action k.actions) x c in
    let f = filter_only test_action k.actions a.0 a.1 in
    let b = h.actions a.0 f.0 in
    subst (HasElsewhere s) a.2 (b.0, b.1, b.2.uid, sym b.2.is_external ∙ f.1)

all : (s : Schema) (k : Kept) → IsKeptOf s k → (x : Elsewhere) → HasElsewhere s x → Contains (elsewhere k) x
all s k h (type_elsewhere n) e =
    let t = h.all_types e.0 e.1 in
    let same : t.0.name ≡ n = t.2.name ∙ sym e.2 in
    Contains-append_left (types_elsewhere k.types) (actions_elsewhere k.actions) (type_elsewhere n)
    (subst (λ m. Contains (types_elsewhere k.types) (type_elsewhere m)) same (map_has (λ (t : KeptType). type_elsewhere t.name) (filter test_type k.types) t.0 (filter_has test_type k.types t.0 t.1 (elsewhere_kind t.0.kind e.0.kind t.2.kind e.3))))
all s k h (action_elsewhere u) b =
    let a = h.all_actions b.0 b.1 in
    let same : a.0.uid ≡ u = a.2.uid ∙ sym b.2 in
    Contains-append_right (types_elsewhere k.types) (actions_elsewhere k.actions) (action_elsewhere u)
    (subst (λ v. Contains (actions_elsewhere k.actions) (action_elsewhere v)) same (map_has (λ (a : KeptAction). action_elsewhere a.uid) (filter test_action k.actions) a.0 (filter_has test_action k.actions a.0 a.1 (a.2.is_external ∙ b.3))))

pub elsewhere_kept : ElsewhereIsKept
elsewhere_kept s k h x = (λ c. ⊎_elim (type_only s k h x) (action_only s k h x) (Contains-append_cases (types_elsewhere k.types) (actions_elsewhere k.actions) x c), all s k h x)
