-- What is found in a schema as it is seen is what is kept.
use Rattle.std.proofs.Common.{◌≡◌, ◌∙◌, List, [], ◌∷◌, map, Bool, true, false, cond, Option, Some, None, option_map, is_some, refl, ap}
use Rattle.std.specs.Prelude.{option_and_then}
use Rattle.std.specs.List.{find}
use Rattle.std.specs.Option.{option_map_or}
use Rattle.cedar_expr_model.specs.Name.{Name, name_eq}
use Rattle.cedar_expr_model.specs.Uid.{Uid, uid_eq}
use Rattle.cedar_schema_model.specs.Schema.{EntityKind, EntityType, Action, type_named, action_with}
use Rattle.cedar_schema_model.specs.Descent.{type_names, action_uids}
use Rattle.cedar_schema_model.specs.Kept.{KeptType, KeptAction, Kept, kept_type, kept_action}
use Rattle.cedar_typechecker_model.specs.Seen.{type_seen, action_seen, schema_seen, names_kept, uids_kept}

-- what is found in a list that is seen by a function which keeps names
module _ {S A B : Type 0} (eq : S → S → Bool) (of_a : A → S) (of_b : B → S) (f : A → B) (same : (a : A) → of_b (f a) ≡ of_a a) where
  pub find_seen : (s : S) (as_ : List A) → find (λ b. eq s (of_b b)) (map f as_) ≡ option_map f (find (λ a. eq s (of_a a)) as_)
  find_seen s [] = refl
  find_seen s (a ∷ as_) = (λ i. cond (eq s (same a i)) (Some (f a)) (find_seen s as_ i)) ∙ step (eq s (of_a a))
    where
      step : (t : Bool) → cond t (Some (f a)) (option_map f (find (λ a. eq s (of_a a)) as_)) ≡ option_map f (cond t (Some a) (find (λ a. eq s (of_a a)) as_))
      step true = refl
      step false = refl

  pub names_seen : (as_ : List A) → map of_b (map f as_) ≡ map of_a as_
  names_seen [] = refl
  names_seen (a ∷ as_) = λ i. same a i ∷ names_seen as_ i

pub type_found : (k : Kept) (n : Name) → type_named (schema_seen k) n ≡ option_map (type_seen k) (kept_type k n)
type_found k n = find_seen name_eq (λ (t : KeptType). t.name) (λ (e : EntityType). e.name) (type_seen k) (λ t. refl) n k.types

pub action_found : (k : Kept) (u : Uid) → action_with (schema_seen k) u ≡ option_map (action_seen k) (kept_action k u)
action_found k u = find_seen uid_eq (λ (a : KeptAction). a.uid) (λ (b : Action). b.uid) (action_seen k) (λ a. refl) u k.actions

pub type_names_seen : (k : Kept) → type_names (schema_seen k) ≡ names_kept k
type_names_seen k = names_seen name_eq (λ (t : KeptType). t.name) (λ (e : EntityType). e.name) (type_seen k) (λ t. refl) k.types

pub action_uids_seen : (k : Kept) → action_uids (schema_seen k) ≡ uids_kept k
action_uids_seen k = names_seen uid_eq (λ (a : KeptAction). a.uid) (λ (b : Action). b.uid) (action_seen k) (λ a. refl) k.actions

-- of what is found
pub some_seen : {A B : Type 0} (f : A → B) (o : Option A) → is_some (option_map f o) ≡ is_some o
some_seen f None = refl
some_seen f (Some a) = refl

pub there_seen : {A B C : Type 0} (f : A → B) (g : B → C) (d : C) (o : Option A) → option_map_or g (option_map f o) d ≡ option_map_or (λ a. g (f a)) o d
there_seen f g d None = refl
there_seen f g d (Some a) = refl

pub then_there : {A C : Type 0} (g : A → Option C) (o : Option A) → option_and_then g o ≡ option_map_or g o None
then_there g None = refl
then_there g (Some a) = refl

-- what is told of the kind of an entity type
pub by_kind : {C : Type 0} (g : EntityKind → C) (d : C) (k : Kept) (n : Name) → option_map_or (λ (e : EntityType). g e.kind) (type_named (schema_seen k) n) d ≡ option_map_or (λ (t : KeptType). g t.kind) (kept_type k n) d
by_kind g d k n = ap (λ o. option_map_or (λ (e : EntityType). g e.kind) o d) (type_found k n) ∙ there_seen (type_seen k) (λ (e : EntityType). g e.kind) d (kept_type k n)
