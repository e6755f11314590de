-- What a check says decides whether an entity or a request conforms.
use Rattle.std.proofs.Common.{◌≡◌, Bool, true, false, List, [], ◌∷◌, Option, Some, None, is_some, is_ok, Result, Ok, Err, OnOk, IfOk, IfErr, IfSome, refl, sym, ap, ◌∙◌, ◌&&◌}
use Rattle.std.specs.Prelude.{not, find, if◌then◌else◌}
use Rattle.std.specs.List.{list_all}
use Rattle.std.specs.declared.alloc.AllocError.{AllocError}
use Rattle.cedar_expr_model.specs.Uid.{Uid}
use Rattle.cedar_expr_model.specs.Value.{V}
use Rattle.cedar_store_model.specs.Store.{OpenRequest}
use Rattle.cedar_store_model.specs.World.{Entity}
use Rattle.cedar_schema_model.specs.Conforming.{ConformFault, conform_faults, has_entity_fault, has_request_fault, EntityConforms, RequestConforms, entity_conforms, request_conforms}
use Rattle.cedar_schema_model.specs.Declarations.{Declarations}
use Rattle.cedar_schema_model.specs.Resolved.{schema_of}
use Rattle.cedar_schema_model.specs.Schema.{Schema}
use Rattle.cedar_schema_model.specs.Kept.{Kept}
use Rattle.cedar_gate_accepted.specs.Alike.{IsKeptByTests}
use Rattle.cedar_gate_accepted.proofs.Tested.{tested_alike}
use Rattle.cedar_gate_conforming.specs.Faults.{fault_seen, IsThere, IsTold}
use Rattle.cedar_gate_conforming.specs.declared.faults.ConformFault as code
use Rattle.cedar_gate_model.specs.Alike.{ConformsAlike}
use Rattle.cedar_gate_model.specs.ConformingLaws.{DeclaredConformAlike}
use Rattle.cedar_gate.specs.Checks.{IsVerdict}

both : (a b : Bool) → a ≡ true → b ≡ true → (a && b) ≡ true
both true true h k = refl
both true false h k = k
both false b h k = h

-- where no fault is there all are not there
none_there : (has : ConformFault → Bool) → ((f : ConformFault) → has f ≡ false) → (fs : List ConformFault) → list_all (λ f. not (has f)) fs ≡ true
none_there has h [] = refl
none_there has h (f ∷ fs) = both (not (has f)) (list_all (λ g. not (has g)) fs) (ap not (h f)) (none_there has h fs)

-- where one is found first it is not so that none is there
found_here : (has : ConformFault → Bool) (f g : ConformFault) (fs : List ConformFault) → (find has fs ≡ Some g → list_all (λ x. not (has x)) fs ≡ false)
    → (b : Bool) → (if b then Some f else find has fs) ≡ Some g → (not b && list_all (λ x. not (has x)) fs) ≡ false
found_here has f g fs later true e = refl
found_here has f g fs later false e = later e

one_there : (has : ConformFault → Bool) (g : ConformFault) (fs : List ConformFault) → find has fs ≡ Some g → list_all (λ f. not (has f)) fs ≡ false
one_there has g [] e = cc
one_there has g (f ∷ fs) e = found_here has f g fs (one_there has g fs) (has f) e

fault_there : (has : ConformFault → Bool) (o : Option ConformFault) → is_some o ≡ true → IfSome o (λ g. (has g ≡ true) × (find has conform_faults ≡ Some g)) → list_all (λ f. not (has f)) conform_faults ≡ false
fault_there has None some h = cc
fault_there has (Some g) some h = one_there has g conform_faults h.1

decided : (has : ConformFault → Bool) (r : Result Unit code.ConformFault) (b : Bool) → IsVerdict r b → OnOk r ((f : ConformFault) → has f ≡ false) → IfErr r (IsThere has)
    → b ≡ list_all (λ f. not (has f)) conform_faults
decided has (Ok u) b v ok err = v ∙ sym (none_there has ok conform_faults)
decided has (Err f) b v ok err = v.0 ∙ sym (fault_there has (fault_seen f) v.1 err)

module _ (law : DeclaredConformAlike) (d : Declarations) (k : Kept) (h : IsKeptByTests (schema_of d) k) (r : Result Unit code.ConformFault) (b : Bool) (v : IsVerdict r b) where
  pub entity_decided : (u : Uid) (e : Entity V) → ((s : Schema) → ConformsAlike s k → OnOk r (EntityConforms s u e)) → ((s : Schema) → ConformsAlike s k → IfErr r (IsThere (has_entity_fault s u e)))
      → b ≡ entity_conforms (schema_of d) u e
  entity_decided u e ok err =
      tested_alike (schema_of d) k h b (entity_conforms (schema_of d) u e)
      (λ w. decided (has_entity_fault (schema_of d) u e) r b v (ok (schema_of d) (law d k w)) (err (schema_of d) (law d k w)))

  pub request_decided : (q : OpenRequest) → ((s : Schema) → ConformsAlike s k → OnOk r (RequestConforms s q)) → ((s : Schema) → ConformsAlike s k → IfErr r (IsThere (has_request_fault s q)))
      → b ≡ request_conforms (schema_of d) q
  request_decided q ok err =
      tested_alike (schema_of d) k h b (request_conforms (schema_of d) q)
      (λ w. decided (has_request_fault (schema_of d) q) r b v (ok (schema_of d) (law d k w)) (err (schema_of d) (law d k w)))

-- a check that isn't out of memory
pub verdict_told : (r : Result Unit code.ConformFault) (b : Bool) → b ≡ is_ok r → IfErr r IsTold → IsVerdict r b
verdict_told (Ok u) b e told = e
verdict_told (Err f) b e told = (e, told)

-- and so it does where it may be out of memory
module _ (law : DeclaredConformAlike) (d : Declarations) (k : Kept) (h : IsKeptByTests (schema_of d) k) (r : Result Unit code.ConformFault) where
  pub request_told : (o : OpenRequest) → ((s : Schema) → ConformsAlike s k → OnOk r (RequestConforms s o)) → ((s : Schema) → ConformsAlike s k → IfErr r (IsThere (has_request_fault s o)))
      → (q : Result Bool AllocError) → IfOk q (λ b. IsVerdict r b) → IfOk q (λ b. b ≡ request_conforms (schema_of d) o)
  request_told o ok err (Ok b) v = request_decided law d k h r b v o ok err
  request_told o ok err (Err x) v = tt
