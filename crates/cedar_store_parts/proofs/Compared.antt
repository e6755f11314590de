-- Parts of policies are equal exactly where they are the same as the model's.
use Rattle.std.proofs.Common.{◌≡◌, Bool, ◌&&◌, List, [], ◌∷◌, map, Option, Some, None, option_map, refl, sym, ap, subst, Decides}
use Rattle.std.proofs.lemmas.Bool.Decides.{Decides-and, Decides-like}
use Rattle.std.proofs.lemmas.Slice.Eq.{bytes_eq-Decides}
use Rattle.std.specs.Cmp.Lexicographic.{pointwise}
use Rattle.std.specs.Option.{option_eq}
use Rattle.std.specs.Str.{bytes_eq}
use Rattle.std.specs.declared.alloc.Global.{Global}
use Rattle.std.specs.declared.rc.Rc.{Rc}
use Rattle.cedar_expr_model.proofs.Equality.{name_eq-Decides, uid_eq-Decides}
use Rattle.cedar_expr_names.proofs.Equality.{names_eq_is, uids_eq_is}
use Rattle.cedar_expr_names.specs.Views.{name_bytes, any_id_text, plain_name_of, type_name_of, eid_text, uid_of}
use Rattle.cedar_expr_names.specs.declared.any_id.AnyId.{AnyId}
use Rattle.cedar_expr_names.specs.declared.name.Name.{Name}
use Rattle.cedar_expr_names.specs.declared.entity.EntityType.{EntityType}
use Rattle.cedar_expr_names.specs.declared.entity.EntityUID.{EntityUID}
use Rattle.cedar_store_model.specs.Policy.{named, any, exactly, inside, of_kind, of_kind_inside, any_action, exactly_action, inside_actions}
use Rattle.cedar_store_parts.specs.Parts.{annotation_text, annotation_pair, target_of, scope_of, action_scope_of, bindings_of}
use Rattle.cedar_store_parts.specs.declared.annotation.Annotation.{Annotation}
use Rattle.cedar_store_parts.specs.declared.constraint.EntityReference.{EntityReference}
use Rattle.cedar_store_parts.specs.declared.constraint.EntityReference.TheVariants.{EUID, Slot}
use Rattle.cedar_store_parts.specs.declared.constraint.PrincipalOrResourceConstraint.{PrincipalOrResourceConstraint}
use Rattle.cedar_store_parts.specs.declared.constraint.PrincipalOrResourceConstraint.TheVariants as asked
use Rattle.cedar_store_parts.specs.declared.constraint.ActionConstraint.{ActionConstraint}
use Rattle.cedar_store_parts.specs.declared.constraint.ActionConstraint.TheVariants as asked_action
use Rattle.cedar_store_parts.specs.declared.slot_env.SlotEnv.{SlotEnv}
use Rattle.cedar_store_parts.specs.contracts.constraint.EntityReferencePartialEq.TheImpl as references
use Rattle.cedar_store_parts.specs.contracts.constraint.PrincipalOrResourceConstraintPartialEq.TheImpl as scopes
use Rattle.cedar_store_parts.specs.contracts.constraint.ActionConstraintPartialEq.TheImpl as actions
use Rattle.cedar_store_parts.specs.contracts.slot_env.SlotEnvPartialEq.TheImpl as bindings

-- what `==` computes of names, types and uids
abbrev names_eq : Name → Name → Bool
names_eq m n = bytes_eq (name_bytes m.internal) (name_bytes n.internal)

abbrev types_eq : EntityType → EntityType → Bool
types_eq s t = names_eq s.0 t.0

abbrev uids_eq : EntityUID → EntityUID → Bool
uids_eq u v = types_eq u.entity_type v.entity_type && bytes_eq (eid_text u.eid) (eid_text v.eid)

pub names_decide : (m n : Name) → Decides (names_eq m n) (plain_name_of m ≡ plain_name_of n)
names_decide m n = subst (λ b. Decides b (plain_name_of m ≡ plain_name_of n)) (sym (names_eq_is m.internal n.internal)) (name_eq-Decides (plain_name_of m) (plain_name_of n))

pub types_decide : (s t : EntityType) → Decides (types_eq s t) (type_name_of s ≡ type_name_of t)
types_decide s t = names_decide s.0 t.0

pub uids_decide : (u v : EntityUID) → Decides (uids_eq u v) (uid_of u ≡ uid_of v)
uids_decide u v = subst (λ b. Decides b (uid_of u ≡ uid_of v)) (sym (uids_eq_is u v)) (uid_eq-Decides (uid_of u) (uid_of v))

-- lists, and what may be there, item by item
pub lists_decide : {X Y : Type 0} (E : X → X → Bool) (f : X → Y) → ((a b : X) → Decides (E a b) (f a ≡ f b)) → (xs ys : List X) → Decides (pointwise E xs ys) (map f xs ≡ map f ys)
lists_decide E f d [] [] = (λ _. refl, λ _. refl)
lists_decide E f d [] (y ∷ ys) = (λ h. cc, λ h. cc)
lists_decide E f d (x ∷ xs) [] = (λ h. cc, λ h. cc)
lists_decide E f d (x ∷ xs) (y ∷ ys) = Decides-like _ (λ p. let e = p.0 in let g = p.1 in cc) (λ e. (cc, cc)) (Decides-and _ _ (d x y) (lists_decide E f d xs ys))

pub options_decide : {X Y : Type 0} (E : X → X → Bool) (f : X → Y) → ((a b : X) → Decides (E a b) (f a ≡ f b)) → (x y : Option X) → Decides (option_eq E x y) (option_map f x ≡ option_map f y)
options_decide E f d None None = (λ _. refl, λ _. refl)
options_decide E f d None (Some y) = (λ h. cc, λ h. cc)
options_decide E f d (Some x) None = (λ h. cc, λ h. cc)
options_decide E f d (Some x) (Some y) = Decides-like _ (λ e. ap Some e) (λ e. cc) (d x y)

-- annotations with their names
pub pairs_decide : (e f : AnyId × Annotation) → Decides (bytes_eq (any_id_text e.0) (any_id_text f.0) && bytes_eq (annotation_text e.1) (annotation_text f.1)) (annotation_pair e ≡ annotation_pair f)
pairs_decide e f = Decides-like _ (λ p i. (p.0 i, p.1 i)) (λ h. (ap (λ q. q.0) h, ap (λ q. q.1) h)) (Decides-and _ _ (bytes_eq-Decides (any_id_text e.0) (any_id_text f.0)) (bytes_eq-Decides (annotation_text e.1) (annotation_text f.1)))

-- what a part of a scope names
pub references_decide : (a b : EntityReference) → Decides ((references.ghosts).eq a b) (target_of a ≡ target_of b)
references_decide (EUID u) (EUID v) = Decides-like _ (λ e. ap named e) (λ e. cc) (uids_decide u.value v.value)
references_decide (EUID u) (Slot m) = (λ h. cc, λ h. cc)
references_decide (Slot l) (EUID v) = (λ h. cc, λ h. cc)
references_decide (Slot l) (Slot m) = (λ _. refl, λ _. refl)

-- what it asks
pub scopes_decide : (a b : PrincipalOrResourceConstraint) → Decides ((scopes.ghosts).eq a b) (scope_of a ≡ scope_of b)
scopes_decide asked.Any asked.Any = (λ _. refl, λ _. refl)
scopes_decide (asked.In s) (asked.In t) = Decides-like _ (λ e. ap inside e) (λ e. cc) (references_decide s t)
scopes_decide (asked.Eq s) (asked.Eq t) = Decides-like _ (λ e. ap exactly e) (λ e. cc) (references_decide s t)
scopes_decide (asked.Is n) (asked.Is m) = Decides-like _ (λ e. ap of_kind e) (λ e. cc) (types_decide n.value m.value)
scopes_decide (asked.IsIn n s) (asked.IsIn m t) = Decides-like _ (λ p i. of_kind_inside (p.0 i) (p.1 i)) (λ e. (cc, cc)) (Decides-and _ _ (types_decide n.value m.value) (references_decide s t))
scopes_decide a b = (λ h. cc, λ h. cc)

pub actions_decide : (a b : ActionConstraint) → Decides ((actions.ghosts).eq a b) (action_scope_of a ≡ action_scope_of b)
actions_decide asked_action.Any asked_action.Any = (λ _. refl, λ _. refl)
actions_decide (asked_action.In us) (asked_action.In vs) = Decides-like _ (λ e. ap inside_actions e) (λ e. cc) (lists_decide (λ (u v : Rc EntityUID Global). uids_eq u.value v.value) (λ u. uid_of u.value) (λ u v. uids_decide u.value v.value) us.items vs.items)
actions_decide (asked_action.Eq u) (asked_action.Eq v) = Decides-like _ (λ e. ap exactly_action e) (λ e. cc) (uids_decide u.value v.value)
actions_decide a b = (λ h. cc, λ h. cc)

-- what slots are bound to
shared_decide : (x y : Option (Rc EntityUID Global)) → Decides (option_eq (λ (u v : Rc EntityUID Global). uids_eq u.value v.value) x y) (option_map (λ u. uid_of u.value) x ≡ option_map (λ u. uid_of u.value) y)
shared_decide = options_decide (λ (u v : Rc EntityUID Global). uids_eq u.value v.value) (λ u. uid_of u.value) (λ u v. uids_decide u.value v.value)

pub bindings_decide : (a b : SlotEnv) → Decides ((bindings.ghosts).eq a b) (bindings_of a ≡ bindings_of b)
bindings_decide a b = Decides-like _ (λ p i. record { principal = p.0 i; resource = p.1 i }) (λ e. (ap (λ s. s.principal) e, ap (λ s. s.resource) e)) (Decides-and _ _ (shared_decide a.principal b.principal) (shared_decide a.resource b.resource))
