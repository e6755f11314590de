-- What the code's requests, values of unknowns and stores hold is canonical, by the types of its values.
use Rattle.std.proofs.Common.{◌≡◌, Bool, true, false, cond, List, [], ◌∷◌, map, Option, Some, None}
use Rattle.std.specs.Prelude.{IfSome, option_map}
use Rattle.std.specs.Borrow.{Bor}
use Rattle.std.specs.HashMap.{HashMap, get_by}
use Rattle.std.specs.Map.{lookup}
use Rattle.std.specs.Rc.{rc_str_bytes}
use Rattle.std.specs.Str.{bytes_eq}
use Rattle.std.specs.declared.alloc.Global.{Global}
use Rattle.std.specs.declared.rc.RcStr.{RcStr}
use Rattle.cedar_expr_model.specs.Canonical.{is_canonical}
use Rattle.cedar_expr_model.specs.Made.{Made, bare}
use Rattle.cedar_expr_model.specs.Name.{Text}
use Rattle.cedar_expr_model.specs.Uid.{Uid, uid_eq}
use Rattle.cedar_expr_model.specs.Uids.{is_uid}
use Rattle.cedar_expr_model.specs.ValueParts.{Part}
use Rattle.cedar_expr_values.specs.Extensions.{extension_of}
use Rattle.cedar_expr_values.specs.Members.{value_kept}
use Rattle.cedar_expr_values.specs.Values.{made}
use Rattle.cedar_expr_values.specs.declared.extension.ExtValue.{ExtValue}
use Rattle.cedar_expr_values.specs.declared.value.Value.{Value}
use Rattle.cedar_expr_partial.specs.declared.partial_value.PartialValue.{PartialValue}
use Rattle.cedar_expr_partial.specs.declared.partial_value.PartialValue.TheVariants.{Value as Whole, Residual}
use Rattle.cedar_store_model.specs.Store.{Extent, whole, partial, if_uid, extent_for}
use Rattle.cedar_store_model.specs.World.{Found, missing}
use Rattle.cedar_store_entities.specs.StoreParts.{kept_in}
use Rattle.cedar_store_entities.specs.Stores.{entities_kept, store_seen, store_made}
use Rattle.cedar_store_entities.specs.Views.{Kept, entity_seen, entity_uid, entity_kept, part_pair, part_seen}
use Rattle.cedar_store_entities.specs.declared.entities.Entities.{Entities}
use Rattle.cedar_store_entities.specs.declared.entity.Entity.{Entity}
use Rattle.cedar_evaluator_model.specs.OfLaws.WellMade.{IsPartCanonical, IsEntityCanonical, IsFoundCanonical, IsContextCanonical}
use Rattle.cedar_evaluator_requests.specs.Views.{context_or_unknown, request_of}
use Rattle.cedar_evaluator_requests.specs.declared.context.Context.{Context}
use Rattle.cedar_evaluator_requests.specs.declared.context.Context.TheVariants as known
use Rattle.cedar_evaluator_requests.specs.declared.request.Request.{Request}
use Rattle.cedar_evaluator_reads.specs.Scopes.{values_in, values_bound, found_kept, store_of}

part_canonical : (p : PartialValue ExtValue) → IsPartCanonical (Some (part_seen p))
part_canonical (Whole v) = value_kept extension_of v
part_canonical (Residual e) = tt

this_or_other : (b : Bool) (p : PartialValue ExtValue) (o : Option (Part Made)) → IsPartCanonical o → IsPartCanonical (cond b (Some (part_seen p)) o)
this_or_other true p o h = part_canonical p
this_or_other false p o h = h

parts_canonical : (es : List (RcStr Global × PartialValue ExtValue)) (a : Text) → IsPartCanonical (lookup (bytes_eq a) (map part_pair es))
parts_canonical [] a = tt
parts_canonical (e ∷ es) a = this_or_other (bytes_eq a (rc_str_bytes e.0)) e.1 (lookup (bytes_eq a) (map part_pair es)) (parts_canonical es a)

pub entity_canonical : (e : Entity) → IsEntityCanonical (entity_seen e)
entity_canonical e = record { attributes = parts_canonical e.attrs.entries; tags = parts_canonical e.tags.entries }

-- the context of a request
context_canonical : (c : Option Context) → IsContextCanonical (context_or_unknown c)
context_canonical None = tt
context_canonical (Some (known.Value fs)) = fs.1
context_canonical (Some (known.RestrictedResidual r)) = tt

pub request_canonical : (q : Request) → IsContextCanonical (request_of q).context
request_canonical q = context_canonical q.context

-- the values of unknowns
value_canonical : (o : Option (Value ExtValue)) → IfSome (option_map (made extension_of) o) (λ m. is_canonical (bare m) ≡ true)
value_canonical None = tt
value_canonical (Some v) = value_kept extension_of v

pub map_canonical : {S : Type 0} (m : HashMap (RcStr Global) (Value ExtValue) S) (n : Text) → IfSome (values_in m n) (λ m. is_canonical (bare m) ≡ true)
map_canonical m n = value_canonical (get_by (λ k. bytes_eq n (rc_str_bytes k)) m)

pub values_canonical : {S : Type 0} (m : Option (Bor (HashMap (RcStr Global) (Value ExtValue) S))) (n : Text) → IfSome (values_bound m n) (λ m. is_canonical (bare m) ≡ true)
values_canonical None n = tt
values_canonical (Some m) n = map_canonical m.now n

-- what a store answers
first_or_other : (x : Extent) (b : Bool) (e : Entity) (o : Option Kept) → IsFoundCanonical (found_kept x o) → IsFoundCanonical (found_kept x (cond b (Some (entity_kept e)) o))
first_or_other x true e o h = entity_canonical e
first_or_other x false e o h = h

kept_canonical : (x : Extent) (es : List Entity) (u : Uid) → IsFoundCanonical (found_kept x (lookup (uid_eq u) (kept_in es)))
kept_canonical whole [] u = tt
kept_canonical partial [] u = tt
kept_canonical x (e ∷ es) u = first_or_other x (uid_eq u (entity_uid e)) e (lookup (uid_eq u) (kept_in es)) (kept_canonical x es u)

found_there : (b : Bool) (f : Found Made) → IsFoundCanonical f → IsFoundCanonical (cond b f missing)
found_there true f h = h
found_there false f h = tt

pub store_canonical : (s : Entities) (u : Uid) → IsFoundCanonical (store_of s u)
store_canonical s u = found_there (is_uid u) (found_kept (extent_for (store_seen s) u) (lookup (uid_eq u) (store_made s))) (kept_canonical (extent_for (store_seen s) u) (entities_kept s) u)
