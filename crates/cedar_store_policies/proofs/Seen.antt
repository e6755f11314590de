-- What is seen of a set beside the model's: what one more entry does, and what is found.
use Rattle.std.proofs.Common.{◌≡◌, List, [], ◌∷◌, ◌++◌, map, Option, option_map, refl, sym, ap, ◌∙◌}
use Rattle.std.proofs.lemmas.List.{map-append}
use Rattle.std.specs.Borrow.{Bor}
use Rattle.std.specs.Map.{lookup}
use Rattle.std.specs.Option.{option_copied}
use Rattle.std.specs.Str.{bytes_eq}
use Rattle.std.specs.declared.alloc.Global.{Global}
use Rattle.std.specs.declared.rc.Rc.{Rc}
use Rattle.cedar_store_model.specs.Policy as model
use Rattle.cedar_store_parts.specs.Parts.{id_text}
use Rattle.cedar_store_parts.specs.declared.policy_id.PolicyID.{PolicyID}
use Rattle.cedar_store_policies.specs.Templates.{template_of}
use Rattle.cedar_store_policies.specs.Policies.{policy_of}
use Rattle.cedar_store_policies.specs.SetParts.{keys_in, templates_in, policies_in, ids_of}
use Rattle.cedar_store_policies.specs.Seen.{Seen, SetSeen, template_seen, policy_seen, entries_seen, with_template_seen, with_policy_seen, find_seen}
use Rattle.cedar_store_policies.specs.declared.template.Template.{Template}
use Rattle.cedar_store_policies.specs.declared.policy.Policy.{Policy}
use Rattle.cedar_store_policies.proofs.Keyed.{found}

abbrev shared_seen : Rc Template Global → Seen
shared_seen t = template_seen t.value

-- one more entry
pub policy_last : (ts : List (PolicyID × Rc Template Global)) (ls more : List (PolicyID × Policy)) (k : PolicyID) (p : Policy) → more ≡ ls ++ (k, p) ∷ [] → entries_seen ts more ≡ with_policy_seen (entries_seen ts ls) (policy_seen p)
policy_last ts ls more k p m =
    ap (entries_seen ts) m ∙ ap (λ ps. record { templates = map (λ e. template_seen e.1.value) ts; policies = ps }) (map-append (λ (e : PolicyID × Policy). policy_seen e.1) ls ((k, p) ∷ []))

pub template_last : (ts more : List (PolicyID × Rc Template Global)) (ls : List (PolicyID × Policy)) (k : PolicyID) (t : Rc Template Global) → more ≡ ts ++ (k, t) ∷ [] → entries_seen more ls ≡ with_template_seen (entries_seen ts ls) (template_seen t.value)
template_last ts more ls k t m =
    ap (λ es. entries_seen es ls) m ∙ ap (λ ps. record { templates = ps; policies = map (λ e. policy_seen e.1) ls }) (map-append (λ (e : PolicyID × Rc Template Global). template_seen e.1.value) ts ((k, t) ∷ []))

-- the ids that are seen are those of the model
ids_seen : {A : Type 0} (f : A → model.Policy) (g : A → Seen) → ((x : A) → (f x).id ≡ (g x).id) → (es : List (PolicyID × A)) → ids_of (map (λ e. f e.1) es) ≡ map (λ s. s.id) (map (λ e. g e.1) es)
ids_seen f g same [] = refl
ids_seen f g same (e ∷ es) = λ i. same e.1 i ∷ ids_seen f g same es i

-- what is found under an id
pub found_template_seen : (k : PolicyID) (ts : List (PolicyID × Rc Template Global)) (r : Option (Bor (Rc Template Global))) → keys_in ts ≡ ids_of (templates_in ts) → option_copied r ≡ lookup (λ q. bytes_eq (id_text k) (id_text q)) ts → option_map (λ y. template_seen y.now.value) r ≡ find_seen (id_text k) (map (λ e. template_seen e.1.value) ts)
found_template_seen k ts r n h = found shared_seen (λ (s : Seen). s.id) k ts r (n ∙ ids_seen (λ (y : Rc Template Global). template_of y.value) shared_seen (λ y. refl) ts) h

pub found_policy_seen : (k : PolicyID) (ls : List (PolicyID × Policy)) (r : Option (Bor Policy)) → keys_in ls ≡ ids_of (policies_in ls) → option_copied r ≡ lookup (λ q. bytes_eq (id_text k) (id_text q)) ls → option_map (λ y. policy_seen y.now) r ≡ find_seen (id_text k) (map (λ e. policy_seen e.1) ls)
found_policy_seen k ls r n h = found policy_seen (λ (s : Seen). s.id) k ls r (n ∙ ids_seen policy_of policy_seen (λ y. refl) ls) h

-- the set of these policies alone, and one policy more
abbrev pub only_seen : List Policy → SetSeen
only_seen ps = record { templates = []; policies = map policy_seen ps }

pub gathered_seen : (s r : SetSeen) (ps : List Policy) (p : Policy) → s ≡ only_seen ps → r ≡ with_policy_seen s (policy_seen p) → r ≡ only_seen (ps ++ p ∷ [])
gathered_seen s r ps p made h =
    h ∙ ap (λ q. with_policy_seen q (policy_seen p)) made ∙ ap (λ qs. record { templates = []; policies = qs }) (sym (map-append policy_seen ps (p ∷ [])))
