-- Entity types and actions, each with descendants that stand once, and the uids of the actions of a schema, which do too.
use Rattle.std.proofs.Common.{◌≡◌, Bool, true, false, Option, List, [], ◌∷◌, map, refl, sym, ap, ◌∙◌, subst, inl, inr}
use Rattle.std.specs.Prelude.{Contains}
use Rattle.std.specs.List.Sorted.{IsStrictlySortedBy}
use Rattle.std.specs.Map.{keys_of}
use Rattle.std.specs.Ordering.{eq_by_cmp}
use Rattle.std.specs.declared.alloc.Global.{Global}
use Rattle.std.specs.declared.vec.Vec.{Vec}
use Rattle.cedar_expr_model.specs.Name.{name_eq}
use Rattle.cedar_expr_model.specs.Uid.{Uid, uid_eq}
use Rattle.cedar_expr_model.specs.UidOrder.{name_cmp, uid_cmp}
use Rattle.cedar_expr_model.specs.Lists.{rises}
use Rattle.cedar_expr_model.proofs.Equality.{uid_eq-Decides}
use Rattle.cedar_expr_model.proofs.Lists.{both_hold, contains_tail}
use Rattle.cedar_expr_names.specs.Views.{uid_of}
use Rattle.cedar_expr_names.specs.declared.entity.EntityUID.{EntityUID}
use Rattle.cedar_schema_model.specs.BagLaws.{HasTwice}
use Rattle.cedar_schema_model.specs.Kept.{KeptType, KeptAction}
use Rattle.cedar_schema_entries.specs.InOrder.{type_in_order, action_in_order}
use Rattle.cedar_schema_entries.specs.Views.{action_seen}
use Rattle.cedar_schema_entries.specs.declared.action.ValidatorActionId.{ValidatorActionId}
use Rattle.cedar_schema_entries.proofs.Among.{same_uid}
use Rattle.cedar_schema_entries.proofs.InOrder.{uids_rise}
use Rattle.cedar_schema_built.specs.Above.{row_of, IsTaken}
use Rattle.cedar_schema_built.specs.Ancestors.{uids_by}
use Rattle.cedar_schema_built.specs.Entries.{actions_in, action_keys, action_names}
use Rattle.cedar_schema_built.proofs.Putting.{of_keys, of_names}
use Rattle.cedar_schema_built.proofs.Rising.{name_total, uid_total, rises_once}

pub type_once : (t : KeptType) → type_in_order t ≡ true → HasTwice t.descendants → ⊥
type_once t h = rises_once name_total t.descendants (both_hold _ (rises name_cmp t.descendants) h).1

pub action_once : (a : KeptAction) → action_in_order a ≡ true → HasTwice a.descendants → ⊥
action_once a h = rises_once uid_total a.descendants (both_hold _ (rises uid_cmp a.descendants) (both_hold (rises name_cmp a.applied.principals) _ h).1).1

-- the uids under which actions stand are theirs, each once
pub keys_are : (es : List (EntityUID × ValidatorActionId)) → action_keys es ≡ action_names es → map uid_of (keys_of es) ≡ map (λ (a : KeptAction). a.uid) (actions_in es)
keys_are es n = of_keys uid_of es ∙ n ∙ of_names action_seen (λ (a : KeptAction). a.uid) es

pub keys_once : (es : List (EntityUID × ValidatorActionId)) → IsStrictlySortedBy uids_by (keys_of es) → HasTwice (map uid_of (keys_of es)) → ⊥
keys_once es s = rises_once uid_total (map uid_of (keys_of es)) (uids_rise (keys_of es) s)

pub names_once : (es : List (EntityUID × ValidatorActionId)) → action_keys es ≡ action_names es → IsStrictlySortedBy uids_by (keys_of es) → HasTwice (map (λ (a : KeptAction). a.uid) (actions_in es)) → ⊥
names_once es n s = subst (λ us. HasTwice us → ⊥) (keys_are es n) (keys_once es s)

-- what is under the later uids stays where the row of the first is taken out
pub left_below : (rest later : List EntityUID) (u : EntityUID) → rest ≡ u ∷ later → (HasTwice (map uid_of rest) → ⊥) → (old new : EntityUID → Option (Vec EntityUID Global)) → IsTaken uids_by u old new
    → (as_ : Uid → List Uid) → ((q : EntityUID) → Contains (map uid_of rest) (uid_of q) → map uid_of (row_of old q) ≡ as_ (uid_of q))
    → (q : EntityUID) → Contains (map uid_of later) (uid_of q) → map uid_of (row_of new q) ≡ as_ (uid_of q)
left_below rest later u is once old new taken as_ h q c =
    ap (map uid_of) (taken.others q (apart (uid_eq (uid_of q) (uid_of u)) refl))
    ∙ h q (subst (λ us. Contains (map uid_of us) (uid_of q)) (sym is) (contains_tail (uid_of u) (map uid_of later) (uid_of q) c))
  where
    apart : (b : Bool) → uid_eq (uid_of q) (uid_of u) ≡ b → eq_by_cmp uids_by q u ≡ false
    apart true e = absurd (subst (λ us. HasTwice (map uid_of us) → ⊥) is once (inl (subst (Contains (map uid_of later)) ((uid_eq-Decides (uid_of q) (uid_of u)).0 e) c)))
    apart false e = same_uid q u ∙ e

pub rest_once : (rest later : List EntityUID) (u : EntityUID) → rest ≡ u ∷ later → (HasTwice (map uid_of rest) → ⊥) → HasTwice (map uid_of later) → ⊥
rest_once rest later u is once t = subst (λ us. HasTwice (map uid_of us) → ⊥) is once (inr t)

pub mapped : {X Y Z : Type 0} (f : Y → Z) (g : X → Y) (xs : List X) → map f (map g xs) ≡ map (λ x. f (g x)) xs
mapped f g [] = refl
mapped f g (x ∷ xs) = ap (λ zs. f (g x) ∷ zs) (mapped f g xs)
