-- A set that is made of policies, one after the other.
use Rattle.std.proofs.Common.{◌≡◌, Bool, true, false, cond, List, [], ◌∷◌, ◌++◌, map, Some, None, Result, Ok, Err, IfErr, sym, ap, ◌∙◌, subst}
use Rattle.std.proofs.lemmas.List.{map-append}
use Rattle.std.proofs.lemmas.Slice.Eq.{bytes_eq-Decides}
use Rattle.std.specs.Result.{IsErrAnd}
use Rattle.std.specs.Str.{bytes_eq}
use Rattle.cedar_expr_model.specs.Repeats.{repeated}
use Rattle.cedar_expr_model.proofs.Lists.{found-Decides}
use Rattle.cedar_expr_model.proofs.Repeating.{repeat_is_first}
use Rattle.cedar_store_model.specs.OfLaws.Distinct.{has_distinct_ids}
use Rattle.cedar_store_model.specs.Policy as model
use Rattle.cedar_store_model.specs.PolicySet.{PolicySet, is_taken, with_policy, add_policy}
use Rattle.cedar_store_model.proofs.Distinct.{distinct-Decides}
use Rattle.cedar_store_policies.specs.Policies.{policy_of}
use Rattle.cedar_store_policies.specs.SetParts.{ids_of}
use Rattle.cedar_store_policies.specs.SetRefusals.{RefusesId, RefusesIds}
use Rattle.cedar_store_parts.specs.declared.err.PolicySetError.{PolicySetError}
use Rattle.cedar_store_parts.specs.declared.err.PolicySetError.TheVariants.{OutOfMemory, Occupied}
use Rattle.cedar_store_policies.specs.declared.policy.Policy.{Policy}
use Rattle.cedar_store_policies.proofs.Keyed.{any_ids}

-- what a refusal says is handed on
pub handed : {B E : Type 0} (P : E → Type 0) (e : E) (r : Result B E) → IsErrAnd r (λ y. y ≡ e) → P e → IfErr r P
handed P e (Ok y) same h = tt
handed P e (Err y) same h = subst P (sym same) h

taken : {A : Type 0} (c : Bool) (a r : A) → cond c None (Some a) ≡ Some r → r ≡ a
taken true a r h = cc
taken false a r h = cc

-- the set of these policies alone
abbrev pub only : List Policy → PolicySet
only ps = record { templates = []; policies = map policy_of ps }

more_policies : (ps rest : List Policy) (p : Policy) → map policy_of (ps ++ p ∷ rest) ≡ map policy_of ps ++ policy_of p ∷ map policy_of rest
more_policies ps rest p = map-append policy_of ps (p ∷ rest)

-- one policy more
pub gathered : (s r : PolicySet) (ps : List Policy) (p : Policy) → s ≡ only ps → add_policy s (policy_of p) ≡ Some r → r ≡ only (ps ++ p ∷ [])
gathered s r ps p made h =
    taken (is_taken (policy_of p).id s) (with_policy s (policy_of p)) r h
    ∙ ap (λ q. with_policy q (policy_of p)) made
    ∙ ap (λ qs. record { templates = []; policies = qs }) (sym (more_policies ps [] p))

more_ids : (ps rest : List Policy) (p : Policy) → ids_of (map policy_of (ps ++ p ∷ rest)) ≡ ids_of (map policy_of ps) ++ (policy_of p).id ∷ ids_of (map policy_of rest)
more_ids ps rest p = ap ids_of (more_policies ps rest p) ∙ map-append (λ (q : model.Policy). q.id) (map policy_of ps) (policy_of p ∷ map policy_of rest)

-- an id that is present is the first that stands twice
met_again : (ps rest : List Policy) (p : Policy) → has_distinct_ids (only ps) ≡ true → is_taken (policy_of p).id (only ps) ≡ true → repeated bytes_eq (ids_of (map policy_of (ps ++ p ∷ rest))) ≡ Some (policy_of p).id
met_again ps rest p d h =
    let front = ids_of (map policy_of ps) in
    let apart = (distinct-Decides bytes_eq bytes_eq-Decides front).0 d in
    let among = (found-Decides bytes_eq bytes_eq-Decides (policy_of p).id front).0 (sym (any_ids (policy_of p).id (map policy_of ps)) ∙ h) in
    (repeat_is_first bytes_eq bytes_eq-Decides (ids_of (map policy_of (ps ++ p ∷ rest))) (policy_of p).id).1 (front, ids_of (map policy_of rest), more_ids ps rest p, apart, among)

module _ (s : PolicySet) (ps rest : List Policy) (p : Policy) (made : s ≡ only ps) (distinct : has_distinct_ids s ≡ true) where
  -- why one more policy is refused is why all of them are
  refused_one : (e : PolicySetError) → RefusesId s (policy_of p).id e → RefusesIds (ids_of (map policy_of (ps ++ p ∷ rest))) e
  refused_one OutOfMemory h = tt
  refused_one (Occupied i) h = met_again ps rest p (ap has_distinct_ids (sym made) ∙ distinct) (ap (is_taken (policy_of p).id) (sym made) ∙ h.0) ∙ ap Some (sym h.1)

  pub refused_all : (all : List Policy) (e : PolicySetError) → all ≡ ps ++ p ∷ rest → RefusesId s (policy_of p).id e → RefusesIds (ids_of (map policy_of all)) e
  refused_all all e goes h = subst (λ qs. RefusesIds (ids_of (map policy_of qs)) e) (sym goes) (refused_one e h)
