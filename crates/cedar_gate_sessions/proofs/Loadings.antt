-- What is loaded at a state, as far as it leads to further uids.
use Rattle.std.proofs.Common.{◌≡◌, ◌∙◌, Bool, true, false, List, [], Contains, Option, None, if◌then◌else◌, cond, ◌||◌, refl, sym, ap, subst, is_some}
use Rattle.std.specs.Prelude.{IsSome, ◌↔◌}
use Rattle.std.specs.Option.{option_map_or}
use Rattle.std.specs.declared.alloc.Global.{Global}
use Rattle.std.specs.declared.vec.Vec.{Vec}
use Rattle.cedar_expr_model.specs.UidOrder.{are_rising}
use Rattle.cedar_expr_model.specs.Uid.{Uid}
use Rattle.cedar_expr_model.specs.Uids.{is_uid}
use Rattle.cedar_expr_names.specs.declared.entity.EntityUID.{EntityUID}
use Rattle.cedar_store_model.specs.Store.{unloaded, if_uid, found_as, whole}
use Rattle.cedar_store_model.specs.World.{held, missing, not_loaded}
use Rattle.cedar_schema_model.specs.ActionEntities.{as_entity}
use Rattle.cedar_schema_model.specs.Schema.{Schema, declares_action}
use Rattle.cedar_gate_wanted.specs.Kept.{IsKept}
use Rattle.cedar_gate_wanted.specs.Rows.{row_of, uids}
use Rattle.cedar_gate_model.specs.Session.{Setup, State, at_start, known_now}
use Rattle.cedar_typechecker_model.specs.Slice.{roots, mentioned_by_found}
use Rattle.cedar_gate_wanted.specs.Laws.{IsLoadedAt}
use Rattle.cedar_gate_wanted.specs.Wanting.{IsWanting, IsSameLoading, is_open, near_in, rows_in, mentions_of, wanted_in}
use Rattle.cedar_gate_wanted.specs.declared.loading.Loading.{Loading}

module _ (l m : Loading) (same : IsSameLoading l m) where
  near_same : near_in m ≡ near_in l
  near_same = λ i u. same.near u i

  rows_same : rows_in m ≡ rows_in l
  rows_same = λ i u. same.rows u i

  pub wanting_same : (s : Schema) → IsWanting s l → IsWanting s m
  wanting_same s w = record {
    in_order = subst (λ us. are_rising us ≡ true) (sym same.wanted) w.in_order;
    exact = λ u. subst (λ us. Contains us u ↔ (is_open s (near_in m u) (rows_in m u) u ≡ true)) (sym same.wanted)
        (subst (λ f. Contains (wanted_in l) u ↔ (is_open s (f u) (rows_in m u) u ≡ true)) (sym near_same)
        (subst (λ a. Contains (wanted_in l) u ↔ (is_open s (near_in l u) (a u) u ≡ true)) (sym rows_same) (w.exact u)));
    kept = λ u k. subst (λ o. IsSome o) (sym (same.near u)) (w.kept u (subst (λ o. IsSome o) (same.rows u) k));
  }

  pub loaded_same : (x : Setup) (s : State) → IsLoadedAt x s l → IsLoadedAt x s m
  loaded_same x s at = record {
    asked = λ u. ap is_some (same.rows u) ∙ at.asked u;
    mentions = λ u. ap (λ a. row_of a u) rows_same ∙ at.mentions u;
    kept = subst (λ f. IsKept (roots (known_now x s)) (mentions_of m) x.level f) (sym near_same) (subst (λ a. IsKept (roots (known_now x s)) (row_of a) x.level (near_in l)) (sym rows_same) at.kept);
  }

known_action : (u : Uid) (x : Setup) (d : Bool) → [] ≡ mentioned_by_found (if d || false then (if d then held (as_entity x.schema u) else if_uid u (found_as whole (x.store u))) else unloaded u)
known_action u x true = refl
known_action u x false = no_mentions (is_uid u)
  where
    no_mentions : (b : Bool) → [] ≡ mentioned_by_found (cond b not_loaded missing)
    no_mentions true = refl
    no_mentions false = refl

-- nothing was asked for at the start
pub loaded_at_start : (x : Setup) (l : Loading) (us : List Uid) → ((u : Uid) → rows_in l u ≡ None) → us ≡ roots (known_now x at_start) → IsKept us (mentions_of l) x.level (near_in l) → IsLoadedAt x at_start l
loaded_at_start x l us none is kept = record {
  asked = λ u. ap is_some (none u);
  mentions = λ u. ap (λ (o : Option (Vec EntityUID Global)). option_map_or (λ r. uids r.items) o []) (none u) ∙ known_action u x (declares_action x.schema u);
  kept = subst (λ rs. IsKept rs (mentions_of l) x.level (near_in l)) is kept;
}
