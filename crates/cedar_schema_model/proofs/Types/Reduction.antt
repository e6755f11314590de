-- Joins of several types.
use Rattle.std.proofs.Common.{◌≡◌, ◌↔◌, List, [], ◌∷◌, true, Option, Some, None, is_some, Contains, refl, sym, ap, ◌∙◌, subst}
use Rattle.std.specs.List.{list_all}
use Rattle.cedar_expr_model.proofs.Lists.{both_hold, contains_head, contains_tail, contains_cases, contains_none}
use Rattle.cedar_schema_model.specs.Types.{Ty, never, Mode}
use Rattle.cedar_schema_model.specs.OfLaws.Formed.{Below, is_well_formed_type}
use Rattle.cedar_schema_model.specs.TypeLaws.{has_no_any_set}
use Rattle.cedar_schema_model.proofs.Named.{join_all}
use Rattle.cedar_schema_model.specs.Join.{join, reduce_to_join}
use Rattle.cedar_schema_model.proofs.Types.Lookups.{no_none, inside, from_some, some_is}
use Rattle.cedar_schema_model.proofs.Types.Subtypes.{below_on, below_same, below_both, same_options}
use Rattle.cedar_schema_model.proofs.Types.JoinParts.{for_some}
use Rattle.cedar_schema_model.proofs.Types.JoinFormed.{join_formed, join_free}
use Rattle.cedar_schema_model.proofs.Types.JoinAbove.{join_above}
use Rattle.cedar_schema_model.proofs.Types.JoinLeast.{join_least}

abbrev Formed : Ty → Type 0
Formed t = is_well_formed_type t ≡ true

abbrev AllFormed : List Ty → Type 0
AllFormed ts = list_all is_well_formed_type ts ≡ true

abbrev AllFree : List Ty → Type 0
AllFree ts = list_all has_no_any_set ts ≡ true

pub formed_join : (m : Mode) (a b j : Ty) → Formed a → Formed b → join m a b ≡ Some j → Formed j
formed_join m a b j v w e = for_some (λ x. is_well_formed_type x ≡ true) (join m a b) j (join_formed m a b v w) e

pub free_join : (m : Mode) (a b j : Ty) → has_no_any_set a ≡ true → has_no_any_set b ≡ true → join m a b ≡ Some j → has_no_any_set j ≡ true
free_join m a b j v w e = for_some (λ x. has_no_any_set x ≡ true) (join m a b) j (join_free m a b v w) e

pub exists_exactly : (m : Mode) (a b : Ty) → Formed a → Formed b → has_no_any_set a ≡ true → has_no_any_set b ≡ true → (is_some (join m a b) ≡ true) ↔ ((c : Ty) × (has_no_any_set c ≡ true) × Below m a c × Below m b c)
exists_exactly m a b v w f g = (
  λ h. let j = from_some (join m a b) h in
      let u = join_above m a b j.0 v w j.1 in
      (j.0, free_join m a b j.0 f g j.1, u.0, u.1),
  λ h. let j = join_least m a b h.0 v w h.1 h.2 h.3 in some_is (join m a b) j.0 j.1,
)

-- one after the other
abbrev Tops : Mode → Ty → List Ty → Ty → Type 0
Tops m t ts j = Below m t j × ((u : Ty) → Contains ts u → Below m u j)

never_joins : (m : Mode) (us : List Ty) → join_all m None us ≡ None
never_joins m [] = refl
never_joins m (u ∷ us) = never_joins m us

step_in : (m : Mode) (o : Option Ty) (us : List Ty) (j : Ty) → join_all m o us ≡ Some j → (k : Ty) × (o ≡ Some k) × (join_all m (Some k) us ≡ Some j)
step_in m None us j h = no_none (sym (never_joins m us) ∙ h)
step_in m (Some k) us j h = (k, refl, h)

all_above : (m : Mode) (ts : List Ty) (t j : Ty) → Formed t → AllFormed ts → join_all m (Some t) ts ≡ Some j → Formed j × Tops m t ts j
all_above m [] t j v w h = (subst (λ x. is_well_formed_type x ≡ true) (inside h) v, (subst (λ x. Below m t x) (inside h) (below_same m t v), λ u i. absurd (contains_none u i)))
all_above m (u ∷ us) t j v w h =
    let p = both_hold (is_well_formed_type u) (list_all is_well_formed_type us) w in
    let f = step_in m (join m t u) us j h in
    let a = join_above m t u f.0 v p.0 f.1 in
    let r = all_above m us f.0 j (formed_join m t u f.0 v p.0 f.1) p.1 f.2 in
    let top = r.1 in
    (r.0, (below_on m j t f.0 a.0 top.0, λ x i. contains_cases (Below m x j) u us x i (λ e. subst (λ y. Below m y j) e (below_on m j u f.0 a.1 top.0)) (top.1 x)))

all_least : (m : Mode) (ts : List Ty) (t c : Ty) → Formed t → AllFormed ts → has_no_any_set c ≡ true → Below m t c → ((u : Ty) → Contains ts u → Below m u c) → (j : Ty) × (join_all m (Some t) ts ≡ Some j) × Below m j c
all_least m [] t c v w f h k = (t, refl, h)
all_least m (u ∷ us) t c v w f h k =
    let p = both_hold (is_well_formed_type u) (list_all is_well_formed_type us) w in
    let j = join_least m t u c v p.0 f h (k u (contains_head u us)) in
    let r = all_least m us j.0 c (formed_join m t u j.0 v p.0 j.1) p.1 f j.2 (λ x i. k x (contains_tail u us x i)) in
    (r.0, ap (λ o. join_all m o us) j.1 ∙ r.1, r.2)

all_free : (m : Mode) (ts : List Ty) (t j : Ty) → has_no_any_set t ≡ true → AllFree ts → join_all m (Some t) ts ≡ Some j → has_no_any_set j ≡ true
all_free m [] t j v w h = subst (λ x. has_no_any_set x ≡ true) (inside h) v
all_free m (u ∷ us) t j v w h =
    let p = both_hold (has_no_any_set u) (list_all has_no_any_set us) w in
    let f = step_in m (join m t u) us j h in
    all_free m us f.0 j (free_join m t u f.0 v p.0 f.1) p.1 f.2

pub reduction_above : (m : Mode) (ts : List Ty) (j : Ty) → AllFormed ts → reduce_to_join m ts ≡ Some j → (t : Ty) → Contains ts t → Below m t j
reduction_above m ts j w h = (all_above m ts never j refl w h).1.1

pub reduction_least : (m : Mode) (ts : List Ty) (c : Ty) → AllFormed ts → has_no_any_set c ≡ true → ((t : Ty) → Contains ts t → Below m t c) → (j : Ty) × (reduce_to_join m ts ≡ Some j) × Below m j c
reduction_least m ts c w f h = all_least m ts never c refl w f refl h

one_way : (m : Mode) (ts us : List Ty) → AllFormed ts → AllFormed us → AllFree ts → AllFree us → ((t : Ty) → Contains ts t ↔ Contains us t) → (j : Ty) → reduce_to_join m ts ≡ Some j → reduce_to_join m us ≡ Some j
one_way m ts us v w f g same j h =
    let free = all_free m ts never j refl f h in
    let k = reduction_least m us j w free (λ t i. reduction_above m ts j v h t ((same t).1 i)) in
    let l = reduction_least m ts k.0 v (all_free m us never k.0 refl g k.1) (λ t i. reduction_above m us k.0 w k.1 t ((same t).0 i)) in
    let e : l.0 ≡ j = inside (sym l.1 ∙ h) in
    let formed_j = (all_above m ts never j refl v h).0 in
    let formed_k = (all_above m us never k.0 refl w k.1).0 in
    k.1 ∙ ap Some (below_both m k.0 j formed_k formed_j k.2 (subst (λ x. Below m x k.0) e l.2))

pub reduction_of_members : (m : Mode) (ts us : List Ty) → AllFormed ts → AllFormed us → AllFree ts → AllFree us → ((t : Ty) → Contains ts t ↔ Contains us t) → reduce_to_join m ts ≡ reduce_to_join m us
reduction_of_members m ts us v w f g same =
    same_options (reduce_to_join m ts) (reduce_to_join m us) (one_way m ts us v w f g same)
    (one_way m us ts w v g f (λ t. ((same t).1, (same t).0)))

pub reduction_free : (m : Mode) (ts : List Ty) (j : Ty) → AllFree ts → reduce_to_join m ts ≡ Some j → has_no_any_set j ≡ true
reduction_free m ts j w h = all_free m ts never j refl w h
