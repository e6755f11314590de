-- Entries that stand under the ids of what they hold: which ids are present, and what one more entry does.
use Rattle.std.proofs.Common.{◌≡◌, Bool, true, false, cond, ◌||◌, List, [], ◌∷◌, ◌++◌, map, Option, Some, None, option_map, Result, Ok, Err, find, refl, sym, ap, ◌∙◌}
use Rattle.std.proofs.lemmas.List.{map-append}
use Rattle.std.proofs.lemmas.List.Folds.{list_any-append}
use Rattle.std.specs.Prelude.{OnOk, OnErr}
use Rattle.std.specs.Borrow.{Bor}
use Rattle.std.specs.List.{list_any}
use Rattle.std.specs.Map.{lookup}
use Rattle.std.specs.Option.{is_some, option_copied}
use Rattle.std.specs.Str.{bytes_eq}
use Rattle.std.specs.declared.alloc.Global.{Global}
use Rattle.std.specs.declared.rc.Rc.{Rc}
use Rattle.cedar_expr_model.specs.Name.{Text}
use Rattle.cedar_store_model.specs.OfLaws.Distinct.{has_distinct_ids}
use Rattle.cedar_store_model.specs.Policy as model
use Rattle.cedar_store_model.specs.PolicySet.{is_taken, template_of as find_template, with_policy, add_policy, add_template}
use Rattle.cedar_store_model.proofs.Sets.{ids_stay_distinct}
use Rattle.cedar_store_parts.specs.Parts.{id_text}
use Rattle.cedar_store_policies.specs.Templates.{template_of}
use Rattle.cedar_store_policies.specs.Policies.{policy_of}
use Rattle.cedar_store_policies.specs.SetParts.{keys_in, templates_in, policies_in, ids_of, set_made}
use Rattle.cedar_store_policies.specs.PolicySets.{find_policy}
use Rattle.cedar_store_parts.specs.declared.policy_id.PolicyID.{PolicyID}
use Rattle.cedar_store_policies.specs.declared.template.Template.{Template}
use Rattle.cedar_store_policies.specs.declared.policy.Policy.{Policy}

-- what stands under keys, seen otherwise
pub map_values : {A B : Type 0} (f : A → B) (es : List (PolicyID × A)) → map f (map (λ e. e.1) es) ≡ map (λ e. f e.1) es
map_values f [] = refl
map_values f (e ∷ es) = ap (λ ys. f e.1 ∷ ys) (map_values f es)

some_first : {A : Type 0} (b : Bool) (x : A) (o : Option A) (t : Bool) → is_some o ≡ t → is_some (cond b (Some x) o) ≡ (b || t)
some_first true x o t h = refl
some_first false x o t h = h

none_is : {A : Type 0} (o : Option A) → is_some o ≡ false → o ≡ None
none_is None h = refl
none_is (Some x) h = cc

-- an entry is found where the id is among the keys
pub key_found : {A : Type 0} (k : PolicyID) (es : List (PolicyID × A)) → is_some (lookup (λ q. bytes_eq (id_text k) (id_text q)) es) ≡ list_any (bytes_eq (id_text k)) (keys_in es)
key_found k [] = refl
key_found k (e ∷ es) = some_first (bytes_eq (id_text k) (id_text e.0)) e.1 (lookup (λ q. bytes_eq (id_text k) (id_text q)) es) (list_any (bytes_eq (id_text k)) (keys_in es)) (key_found k es)

pub key_absent : {A : Type 0} (k : PolicyID) (es : List (PolicyID × A)) → list_any (bytes_eq (id_text k)) (keys_in es) ≡ false → lookup (λ q. bytes_eq (id_text k) (id_text q)) es ≡ None
key_absent k es h = none_is (lookup (λ q. bytes_eq (id_text k) (id_text q)) es) (key_found k es ∙ h)

pub any_ids : (t : Text) (ps : List model.Policy) → list_any (λ p. bytes_eq t p.id) ps ≡ list_any (bytes_eq t) (ids_of ps)
any_ids t [] = refl
any_ids t (p ∷ ps) = ap (λ b. bytes_eq t p.id || b) (any_ids t ps)

either_true : (a b : Bool) → b ≡ true → (a || b) ≡ true
either_true true b h = refl
either_true false b h = h

more_keys : {A : Type 0} (es : List (PolicyID × A)) (k : PolicyID) (x : A) → keys_in (es ++ (k, x) ∷ []) ≡ keys_in es ++ id_text k ∷ []
more_keys {A} es k x = map-append (λ (e : PolicyID × A). id_text e.0) es ((k, x) ∷ [])

more_policies : (ls : List (PolicyID × Policy)) (k : PolicyID) (p : Policy) → policies_in (ls ++ (k, p) ∷ []) ≡ policies_in ls ++ policy_of p ∷ []
more_policies ls k p = map-append (λ (e : PolicyID × Policy). policy_of e.1) ls ((k, p) ∷ [])

more_templates : (ts : List (PolicyID × Rc Template Global)) (k : PolicyID) (t : Rc Template Global) → templates_in (ts ++ (k, t) ∷ []) ≡ templates_in ts ++ template_of t.value ∷ []
more_templates ts k t = map-append (λ (e : PolicyID × Rc Template Global). template_of e.1.value) ts ((k, t) ∷ [])

more_ids : (ps : List model.Policy) (p : model.Policy) → ids_of (ps ++ p ∷ []) ≡ ids_of ps ++ p.id ∷ []
more_ids ps p = map-append (λ (q : model.Policy). q.id) ps (p ∷ [])

-- an entry more stands under its own id too
pub links_named_more : (ls more : List (PolicyID × Policy)) (k : PolicyID) (p : Policy) → keys_in ls ≡ ids_of (policies_in ls) → more ≡ ls ++ (k, p) ∷ [] → id_text k ≡ (policy_of p).id → keys_in more ≡ ids_of (policies_in more)
links_named_more ls more k p n m e =
    ap keys_in m ∙ more_keys ls k p ∙ (λ i. n i ++ e i ∷ []) ∙ sym (more_ids (policies_in ls) (policy_of p)) ∙ ap ids_of (sym (more_policies ls k p)) ∙ ap (λ es. ids_of (policies_in es)) (sym m)

pub templates_named_more : (ts more : List (PolicyID × Rc Template Global)) (k : PolicyID) (t : Rc Template Global) → keys_in ts ≡ ids_of (templates_in ts) → more ≡ ts ++ (k, t) ∷ [] → id_text k ≡ (template_of t.value).id → keys_in more ≡ ids_of (templates_in more)
templates_named_more ts more k t n m e =
    ap keys_in m ∙ more_keys ts k t ∙ (λ i. n i ++ e i ∷ []) ∙ sym (more_ids (templates_in ts) (template_of t.value)) ∙ ap ids_of (sym (more_templates ts k t)) ∙ ap (λ es. ids_of (templates_in es)) (sym m)

module _ (ts : List (PolicyID × Rc Template Global)) (ls : List (PolicyID × Policy)) (tn : keys_in ts ≡ ids_of (templates_in ts)) (ln : keys_in ls ≡ ids_of (policies_in ls)) where
  -- an id is present where it is a key
  taken_is : (t : Text) → is_taken t (set_made ts ls) ≡ (list_any (bytes_eq t) (keys_in ts) || list_any (bytes_eq t) (keys_in ls))
  taken_is t =
      let a = any_ids t (templates_in ts) ∙ ap (list_any (bytes_eq t)) (sym tn) in
      let b = any_ids t (policies_in ls) ∙ ap (list_any (bytes_eq t)) (sym ln) in
      list_any-append (λ (p : model.Policy). bytes_eq t p.id) (templates_in ts) (policies_in ls) ∙ (λ i. a i || b i)

  pub free : (t : Text) → list_any (bytes_eq t) (keys_in ts) ≡ false → list_any (bytes_eq t) (keys_in ls) ≡ false → is_taken t (set_made ts ls) ≡ false
  free t a b = taken_is t ∙ (λ i. a i || b i)

  pub taken_by_template : (t : Text) → list_any (bytes_eq t) (keys_in ts) ≡ true → is_taken t (set_made ts ls) ≡ true
  taken_by_template t a = taken_is t ∙ ap (λ b. b || list_any (bytes_eq t) (keys_in ls)) a

  pub taken_by_policy : (t : Text) → list_any (bytes_eq t) (keys_in ls) ≡ true → is_taken t (set_made ts ls) ≡ true
  taken_by_policy t b = taken_is t ∙ either_true (list_any (bytes_eq t) (keys_in ts)) (list_any (bytes_eq t) (keys_in ls)) b

  -- one policy more
  pub policy_put : (more : List (PolicyID × Policy)) (k : PolicyID) (p : Policy) → more ≡ ls ++ (k, p) ∷ [] → set_made ts more ≡ with_policy (set_made ts ls) (policy_of p)
  policy_put more k p m = ap (set_made ts) m ∙ ap (λ ps. record { templates = templates_in ts; policies = ps }) (more_policies ls k p)

  pub policy_added : (more : List (PolicyID × Policy)) (k : PolicyID) (p : Policy) → more ≡ ls ++ (k, p) ∷ [] → is_taken (policy_of p).id (set_made ts ls) ≡ false → add_policy (set_made ts ls) (policy_of p) ≡ Some (set_made ts more)
  policy_added more k p m f = ap (λ b. cond b None (Some (with_policy (set_made ts ls) (policy_of p)))) f ∙ ap Some (sym (policy_put more k p m))

  pub policy_distinct : (more : List (PolicyID × Policy)) (k : PolicyID) (p : Policy) → more ≡ ls ++ (k, p) ∷ [] → is_taken (policy_of p).id (set_made ts ls) ≡ false → has_distinct_ids (set_made ts ls) ≡ true → has_distinct_ids (set_made ts more) ≡ true
  policy_distinct more k p m f d = (ids_stay_distinct (set_made ts ls) (set_made ts more) d).1 (policy_of p) (policy_added more k p m f)

  -- one template more
  template_put : (more : List (PolicyID × Rc Template Global)) (k : PolicyID) (t : Rc Template Global) → more ≡ ts ++ (k, t) ∷ [] → set_made more ls ≡ record { templates = templates_in ts ++ template_of t.value ∷ []; policies = policies_in ls }
  template_put more k t m = ap (λ es. set_made es ls) m ∙ ap (λ ps. record { templates = ps; policies = policies_in ls }) (more_templates ts k t)

  pub template_added : (more : List (PolicyID × Rc Template Global)) (k : PolicyID) (t : Rc Template Global) → more ≡ ts ++ (k, t) ∷ [] → is_taken (template_of t.value).id (set_made ts ls) ≡ false → add_template (set_made ts ls) (template_of t.value) ≡ Some (set_made more ls)
  template_added more k t m f = ap (λ b. cond b None (Some (record { templates = templates_in ts ++ template_of t.value ∷ []; policies = policies_in ls }))) f ∙ ap Some (sym (template_put more k t m))

  pub template_distinct : (more : List (PolicyID × Rc Template Global)) (k : PolicyID) (t : Rc Template Global) → more ≡ ts ++ (k, t) ∷ [] → is_taken (template_of t.value).id (set_made ts ls) ≡ false → has_distinct_ids (set_made ts ls) ≡ true → has_distinct_ids (set_made more ls) ≡ true
  template_distinct more k t m f d = (ids_stay_distinct (set_made ts ls) (set_made more ls) d).0 (template_of t.value) (template_added more k t m f)

  -- what a set keeps where a policy or a template may have entered
  pub policy_enters : (t : Text) (k : PolicyID) (p : Policy) (more : List (PolicyID × Policy)) {E : Type 0} (r : Result (Unit {0}) E) → t ≡ (policy_of p).id → id_text k ≡ t → list_any (bytes_eq t) (keys_in ts) ≡ false → list_any (bytes_eq t) (keys_in ls) ≡ false → has_distinct_ids (set_made ts ls) ≡ true → OnOk r (more ≡ ls ++ (k, p) ∷ []) → OnErr r (more ≡ ls)
      → (keys_in more ≡ ids_of (policies_in more)) × (has_distinct_ids (set_made ts more) ≡ true)
  policy_enters t k p more (Ok x) e f a b d h i = (links_named_more ls more k p ln h (f ∙ e), policy_distinct more k p h (ap (λ u. is_taken u (set_made ts ls)) (sym e) ∙ free t a b) d)
  policy_enters t k p more (Err x) e f a b d h i = (ap keys_in i ∙ ln ∙ ap (λ es. ids_of (policies_in es)) (sym i), ap (λ es. has_distinct_ids (set_made ts es)) i ∙ d)

  pub template_enters : (t : Text) (k : PolicyID) (x : Rc Template Global) (more : List (PolicyID × Rc Template Global)) {E : Type 0} (r : Result (Unit {0}) E) → t ≡ (template_of x.value).id → id_text k ≡ t → list_any (bytes_eq t) (keys_in ts) ≡ false → list_any (bytes_eq t) (keys_in ls) ≡ false → has_distinct_ids (set_made ts ls) ≡ true → OnOk r (more ≡ ts ++ (k, x) ∷ []) → OnErr r (more ≡ ts)
      → (keys_in more ≡ ids_of (templates_in more)) × (has_distinct_ids (set_made more ls) ≡ true)
  template_enters t k x more (Ok y) e f a b d h i = (templates_named_more ts more k x tn h (f ∙ e), template_distinct more k x h (ap (λ u. is_taken u (set_made ts ls)) (sym e) ∙ free t a b) d)
  template_enters t k x more (Err y) e f a b d h i = (ap keys_in i ∙ tn ∙ ap (λ es. ids_of (templates_in es)) (sym i), ap (λ es. has_distinct_ids (set_made es ls)) i ∙ d)

  -- one that has entered
  pub policy_entered : (t : Text) (k : PolicyID) (p : Policy) (more : List (PolicyID × Policy)) → t ≡ (policy_of p).id → list_any (bytes_eq t) (keys_in ts) ≡ false → list_any (bytes_eq t) (keys_in ls) ≡ false → more ≡ ls ++ (k, p) ∷ [] → add_policy (set_made ts ls) (policy_of p) ≡ Some (set_made ts more)
  policy_entered t k p more e a b h = policy_added more k p h (ap (λ u. is_taken u (set_made ts ls)) (sym e) ∙ free t a b)

  pub template_entered : (t : Text) (k : PolicyID) (x : Rc Template Global) (more : List (PolicyID × Rc Template Global)) → t ≡ (template_of x.value).id → list_any (bytes_eq t) (keys_in ts) ≡ false → list_any (bytes_eq t) (keys_in ls) ≡ false → more ≡ ts ++ (k, x) ∷ [] → add_template (set_made ts ls) (template_of x.value) ≡ Some (set_made more ls)
  template_entered t k x more e a b h = template_added more k x h (ap (λ u. is_taken u (set_made ts ls)) (sym e) ∙ free t a b)

heads : (a b : Text) (as_ bs : List Text) → a ∷ as_ ≡ b ∷ bs → a ≡ b
heads a b as_ bs e = cc

tails : (a b : Text) (as_ bs : List Text) → a ∷ as_ ≡ b ∷ bs → as_ ≡ bs
tails a b as_ bs e = cc

-- what is found under a key, seen otherwise, is the first of that name
module _ {A B : Type 0} (f : A → B) (name : B → Text) where
  chosen : (s t : Bool) → s ≡ t → (x : A) (o : Option A) (q : Option B) → option_map f o ≡ q → option_map f (cond s (Some x) o) ≡ cond t (Some (f x)) q
  chosen s true e x o q h = ap (λ b. option_map f (cond b (Some x) o)) e
  chosen s false e x o q h = ap (λ b. option_map f (cond b (Some x) o)) e ∙ h

  first_found : (k : PolicyID) (es : List (PolicyID × A)) → keys_in es ≡ map name (map (λ e. f e.1) es) → option_map f (lookup (λ q. bytes_eq (id_text k) (id_text q)) es) ≡ find (λ p. bytes_eq (id_text k) (name p)) (map (λ e. f e.1) es)
  first_found k [] n = refl
  first_found k (e ∷ es) n =
      chosen (bytes_eq (id_text k) (id_text e.0)) (bytes_eq (id_text k) (name (f e.1))) (ap (bytes_eq (id_text k)) (heads _ _ (keys_in es) (map name (map (λ (d : PolicyID × A). f d.1) es)) n)) e.1 (lookup (λ q. bytes_eq (id_text k) (id_text q)) es) (find (λ p. bytes_eq (id_text k) (name p)) (map (λ (d : PolicyID × A). f d.1) es))
      (first_found k es (tails _ _ (keys_in es) (map name (map (λ (d : PolicyID × A). f d.1) es)) n))

  copied : (r : Option (Bor A)) → option_map f (option_copied r) ≡ option_map (λ y. f y.now) r
  copied None = refl
  copied (Some a) = refl

  pub found : (k : PolicyID) (es : List (PolicyID × A)) (r : Option (Bor A)) → keys_in es ≡ map name (map (λ e. f e.1) es) → option_copied r ≡ lookup (λ q. bytes_eq (id_text k) (id_text q)) es → option_map (λ y. f y.now) r ≡ find (λ p. bytes_eq (id_text k) (name p)) (map (λ e. f e.1) es)
  found k es r n h = sym (copied r) ∙ ap (option_map f) h ∙ first_found k es n

pub found_template : (k : PolicyID) (ts : List (PolicyID × Rc Template Global)) (ls : List (PolicyID × Policy)) (r : Option (Bor (Rc Template Global))) → keys_in ts ≡ ids_of (templates_in ts) → option_copied r ≡ lookup (λ q. bytes_eq (id_text k) (id_text q)) ts → option_map (λ y. template_of y.now.value) r ≡ find_template (id_text k) (set_made ts ls)
found_template k ts ls r n h = found (λ (y : Rc Template Global). template_of y.value) (λ (p : model.Policy). p.id) k ts r n h

pub found_policy : (k : PolicyID) (ts : List (PolicyID × Rc Template Global)) (ls : List (PolicyID × Policy)) (r : Option (Bor Policy)) → keys_in ls ≡ ids_of (policies_in ls) → option_copied r ≡ lookup (λ q. bytes_eq (id_text k) (id_text q)) ls → option_map (λ y. policy_of y.now) r ≡ find_policy (id_text k) (set_made ts ls)
found_policy k ts ls r n h = found policy_of (λ (p : model.Policy). p.id) k ls r n h
