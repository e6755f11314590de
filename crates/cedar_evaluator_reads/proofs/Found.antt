-- What look-ups find.
use Rattle.std.proofs.Common.{◌≡◌, Bool, true, false, cond, List, [], ◌∷◌, map, Option, Some, None, option_map, refl, sym, ap, ◌∙◌}
use Rattle.std.proofs.lemmas.Map.Text.{is_eq-slice_cmp}
use Rattle.std.specs.Borrow.{Bor}
use Rattle.std.specs.BTreeMap.{is_at}
use Rattle.std.specs.Map.{lookup}
use Rattle.std.specs.Option.{option_copied}
use Rattle.std.specs.Ordering.{is_eq}
use Rattle.std.specs.Rc.{rc_str_bytes}
use Rattle.std.specs.Str.{bytes_eq}
use Rattle.std.specs.declared.alloc.Global.{Global}
use Rattle.std.specs.declared.rc.RcStr.{RcStr}
use Rattle.cedar_expr_names.specs.Views.{uid_of}
use Rattle.cedar_expr_model.specs.Name.{Text}
use Rattle.cedar_expr_model.specs.Uid.{Uid, uid_eq}
use Rattle.cedar_expr_model.specs.Uids.{is_uid}
use Rattle.cedar_expr_model.specs.Made.{Made, MadeFields}
use Rattle.cedar_expr_model.specs.Order.{text_cmp}
use Rattle.cedar_expr_model.specs.Tree.{Tree}
use Rattle.cedar_expr_model.specs.Builder.{tree_fields}
use Rattle.cedar_expr_model.specs.Parts.{listed_fields}
use Rattle.cedar_expr_model.specs.Value.{V}
use Rattle.cedar_expr_values.specs.Extension.{Extension}
use Rattle.cedar_expr_values.specs.Values.{made, made_fields, made_pair}
use Rattle.cedar_expr_values.specs.declared.value.Value.{Value}
use Rattle.cedar_expr_trees.specs.Trees.{tree_of, named, field_trees}
use Rattle.cedar_expr_trees.specs.declared.expr.Expr.{Expr}
use Rattle.cedar_store_model.specs.Store.{Extent, whole, partial, found_as, extent_for, look_up}
use Rattle.cedar_store_model.specs.World as model
use Rattle.cedar_store_model.specs.World.{Found, held, missing, not_loaded}
use Rattle.cedar_store_entities.specs.Stores.{entities_kept, store_seen, store_made, Dereferences}
use Rattle.cedar_store_entities.specs.StoreParts.{entities_in, kept_in}
use Rattle.cedar_store_entities.specs.Views.{Kept, entity_uid, entity_seen, entity_kept, bare_entity}
use Rattle.cedar_store_entities.specs.declared.entity.Entity.{Entity}
use Rattle.cedar_store_entities.specs.declared.entities.Entities.{Entities}
use Rattle.cedar_store_entities.specs.declared.entities.Dereference.{Dereference}
use Rattle.cedar_store_entities.specs.declared.entities.Dereference.TheVariants as found
use Rattle.cedar_evaluator_model.specs.Steps.{made_named}
use Rattle.cedar_evaluator_model.specs.Evaluation.{tree_named}
use Rattle.cedar_evaluator_reads.specs.Scopes.{found_kept, store_of}
use Rattle.cedar_evaluator_reads.specs.Seen.{IsFound}

-- the field of a record
module _ {X : Type 0} (seen : X → Extension) where
  abbrev in_map : List (RcStr Global × Value X) → MadeFields
  in_map es = made_fields (map (made_pair seen) es)

  field_found : (a : Text) (es : List (RcStr Global × Value X)) → option_map (made seen) (lookup (is_at (λ j. text_cmp a (rc_str_bytes j))) es) ≡ made_named a (in_map es)
  field_found a [] = refl
  field_found a (e ∷ es) = go (is_eq (text_cmp a (rc_str_bytes e.0))) (bytes_eq a (rc_str_bytes e.0)) (is_eq-slice_cmp a (rc_str_bytes e.0)) (field_found a es)
    where
      go : (s t : Bool) → s ≡ t → option_map (made seen) (lookup (is_at (λ j. text_cmp a (rc_str_bytes j))) es) ≡ made_named a (in_map es) → option_map (made seen) (cond s (Some e.1) (lookup (is_at (λ j. text_cmp a (rc_str_bytes j))) es)) ≡ cond t (Some (made seen e.1)) (made_named a (in_map es))
      go true t q h = ap (λ b. cond b (Some (made seen e.1)) (made_named a (in_map es))) q
      go false t q h = h ∙ ap (λ b. cond b (Some (made seen e.1)) (made_named a (in_map es))) q

  copied : (r : Option (Bor (Value X))) → option_map (λ v. made seen v.now) r ≡ option_map (made seen) (option_copied r)
  copied None = refl
  copied (Some v) = refl

  pub field_is : (a : Text) (es : List (RcStr Global × Value X)) (r : Option (Bor (Value X))) → option_copied r ≡ lookup (is_at (λ j. text_cmp a (rc_str_bytes j))) es → made_named a (in_map es) ≡ option_map (λ v. made seen v.now) r
  field_is a es r h = sym (field_found a es) ∙ ap (option_map (made seen)) (sym h) ∙ sym (copied r)

-- the field of a residual record
expr_found : (a : Text) (es : List (RcStr Global × Expr Unit)) → option_map (tree_of {T = Unit}) (lookup (is_at (λ j. text_cmp a (rc_str_bytes j))) es) ≡ tree_named a (tree_fields (named (field_trees es)))
expr_found a [] = refl
expr_found a (e ∷ es) = go (is_eq (text_cmp a (rc_str_bytes e.0))) (bytes_eq a (rc_str_bytes e.0)) (is_eq-slice_cmp a (rc_str_bytes e.0)) (expr_found a es)
  where
    go : (s t : Bool) → s ≡ t → option_map (tree_of {T = Unit}) (lookup (is_at (λ j. text_cmp a (rc_str_bytes j))) es) ≡ tree_named a (tree_fields (named (field_trees es))) → option_map (tree_of {T = Unit}) (cond s (Some e.1) (lookup (is_at (λ j. text_cmp a (rc_str_bytes j))) es)) ≡ cond t (Some (tree_of {T = Unit} e.1)) (tree_named a (tree_fields (named (field_trees es))))
    go true t q h = ap (λ b. cond b (Some (tree_of {T = Unit} e.1)) (tree_named a (tree_fields (named (field_trees es))))) q
    go false t q h = h ∙ ap (λ b. cond b (Some (tree_of {T = Unit} e.1)) (tree_named a (tree_fields (named (field_trees es))))) q

expr_copied : (r : Option (Bor (Expr Unit))) → option_map (λ e. tree_of {T = Unit} e.now) r ≡ option_map (tree_of {T = Unit}) (option_copied r)
expr_copied None = refl
expr_copied (Some v) = refl

pub expr_is : (a : Text) (es : List (RcStr Global × Expr Unit)) (r : Option (Bor (Expr Unit))) → option_copied r ≡ lookup (is_at (λ j. text_cmp a (rc_str_bytes j))) es → tree_named a (tree_fields (named (field_trees es))) ≡ option_map (λ e. tree_of {T = Unit} e.now) r
expr_is a es r h = sym (expr_found a es) ∙ ap (option_map (tree_of {T = Unit})) (sym h) ∙ sym (expr_copied r)

-- an entity among all that is kept
abbrev bare_kept : Kept → model.Entity V
bare_kept k = bare_entity k.0

among : (u : Uid) (es : List Entity) → lookup (uid_eq u) (entities_in es) ≡ option_map bare_kept (lookup (uid_eq u) (kept_in es))
among u [] = refl
among u (e ∷ es) = go (uid_eq u (entity_uid e)) (among u es)
  where
    go : (b : Bool) → lookup (uid_eq u) (entities_in es) ≡ option_map bare_kept (lookup (uid_eq u) (kept_in es)) → cond b (Some (bare_entity (entity_seen e))) (lookup (uid_eq u) (entities_in es)) ≡ option_map bare_kept (cond b (Some (entity_kept e)) (lookup (uid_eq u) (kept_in es)))
    go true h = refl
    go false h = h

is_missing : (b : Bool) (x : Extent) (o : Option Kept) → cond b (found_as x (option_map bare_kept o)) missing ≡ missing → cond b (found_kept x o) missing ≡ missing
is_missing false x o h = refl
is_missing true x (Some k) h = absurd (cc)
is_missing true whole None h = refl
is_missing true partial None h = absurd (cc)

is_not_loaded : (b : Bool) (x : Extent) (o : Option Kept) → cond b (found_as x (option_map bare_kept o)) missing ≡ not_loaded → cond b (found_kept x o) missing ≡ not_loaded
is_not_loaded false x o h = absurd (cc)
is_not_loaded true x (Some k) h = absurd (cc)
is_not_loaded true whole None h = absurd (cc)
is_not_loaded true partial None h = refl

is_held : (b : Bool) (x : Extent) (o : Option Kept) (e : model.Entity V) (k : Kept) → cond b (found_as x (option_map bare_kept o)) missing ≡ held e → o ≡ Some k → cond b (found_kept x o) missing ≡ held k.0
is_held false x o e k h p = absurd (cc)
is_held true x o e k h p = ap (found_kept x) p

looked : (s : Entities) (u : Uid) (f : Found V) → look_up (store_seen s) u ≡ f → cond (is_uid u) (found_as (extent_for (store_seen s) u) (option_map bare_kept (lookup (uid_eq u) (store_made s)))) missing ≡ f
looked s u f h = ap (λ o. cond (is_uid u) (found_as (extent_for (store_seen s) u) o) missing) (sym (among u (entities_kept s))) ∙ h

-- what the store answers
pub is_found : (s : Entities) (u : Uid) (d : Dereference Entity) → Dereferences s u d → IsFound (store_of s u) u d
is_found s u found.NoSuchEntity h = is_missing (is_uid u) (extent_for (store_seen s) u) (lookup (uid_eq u) (store_made s)) (looked s u _ h)
is_found s u (found.Residual e) h = (is_not_loaded (is_uid u) (extent_for (store_seen s) u) (lookup (uid_eq u) (store_made s)) (looked s u _ h.0), h.1)
is_found s u (found.Data e) h = is_held (is_uid u) (extent_for (store_seen s) u) (lookup (uid_eq u) (store_made s)) _ (entity_kept e.now) (looked s u _ h.0) h.1
