-- What is kept of the entities that are read, with their values as they are made.
use Rattle.std.proofs.Common.{◌≡◌, ◌∙◌, Bool, true, false, List, [], ◌∷◌, map, Option, Some, None, option_map, codes, refl, sym, ap, subst, if◌then◌else◌}
use Rattle.std.specs.Prelude.{Result, Ok, Err, IfOk, IfErr}
use Rattle.std.specs.Map.{lookup}
use Rattle.serde_json.specs.Data.{Data, Items, no_items, item}
use Rattle.serde_json.specs.Find.{as_array}
use Rattle.cedar_expr_model.specs.Name.{Text}
use Rattle.cedar_expr_model.specs.Uid.{Uid, uid_eq}
use Rattle.cedar_expr_model.specs.Lists.{when}
use Rattle.cedar_expr_model.specs.Made.{Made}
use Rattle.cedar_expr_model.specs.Table.{Table}
use Rattle.cedar_expr_model.specs.Value.{V}
use Rattle.cedar_expr_model.specs.ValueParts.{Part}
use Rattle.cedar_store_model.specs.World as world
use Rattle.cedar_store_model.specs.World.{held}
use Rattle.cedar_store_entities.specs.StoreParts.{entities_in, kept_in}
use Rattle.cedar_store_entities.specs.Stores.{entities_kept, store_seen, store_made}
use Rattle.cedar_store_entities.specs.Views.{Kept, entity_uid, entity_of, entity_seen, entity_kept, kept_pair, entity_pair, bare_part, bare_entity}
use Rattle.cedar_store_entities.specs.declared.entities.Entities.{Entities}
use Rattle.cedar_store_entities.specs.declared.entity.Entity.{Entity}
use Rattle.cedar_evaluator_model.specs.OfLaws.WellMade.{IsFoundMadeWell}
use Rattle.cedar_gate_model.specs.Reading.{given, required, optional, has_only, each, list_of, members_of}
use Rattle.cedar_evaluator_model.specs.Functions.{Functions}
use Rattle.cedar_gate_model.specs.ReadingName.{uid_read}
use Rattle.cedar_gate_model.specs.ReadingRequest.{with_uids, entity_read}
use Rattle.cedar_gate_model.specs.ReadingValue.{value_read}
use Rattle.cedar_gate_expressions.specs.Maps.{under_text}
use Rattle.cedar_gate_bundles.specs.Written.{known_made, entity_read_made, entity_pair_made, bare_entity_pair, AreWritten, IsStoreWritten}
use Rattle.cedar_gate_bundles.proofs.Parted.{as_known, parts_are}

-- an entity, with its values bare, is the model's
bare_known : (ps : List (Text × Made)) → map as_known ps ≡ map (λ (p : Text × Part Made). (p.0, bare_part p.1)) (map known_made ps)
bare_known [] = refl
bare_known (p ∷ ps) = ap (λ qs. as_known p ∷ qs) (bare_known ps)

abbrev entity_in : Uid → List (Text × Made) → List (Text × Made) → List Uid → Uid × world.Entity V
entity_in u ps ts us = (u, record { attributes = map as_known ps; tags = map as_known ts; ancestors = with_uids [] us })

abbrev made_in : Uid → List (Text × Made) → List (Text × Made) → List Uid → Uid × world.Entity Made
made_in u ps ts us = (u, record { attributes = map known_made ps; tags = map known_made ts; ancestors = with_uids [] us })

same_in : (u : Uid) (ps ts : List (Text × Made)) (us : List Uid) → entity_in u ps ts us ≡ bare_entity_pair (made_in u ps ts us)
same_in u ps ts us = λ i. (u, record { attributes = bare_known ps i; tags = bare_known ts i; ancestors = with_uids [] us })

by_parts : (b : Bool) (ou : Option Uid) (op ot : Option (List (Text × Made))) (os : Option (List Uid))
    → when b (given ou (λ u. given (option_map (map as_known) op) (λ ps. given (option_map (map as_known) ot) (λ ts. option_map (λ us. (u, record { attributes = ps; tags = ts; ancestors = with_uids [] us })) os))))
    ≡ option_map bare_entity_pair (when b (given ou (λ u. given op (λ ps. given ot (λ ts. option_map (made_in u ps ts) os)))))
by_parts false ou op ot os = refl
by_parts true None op ot os = refl
by_parts true (Some u) None ot os = refl
by_parts true (Some u) (Some ps) None os = refl
by_parts true (Some u) (Some ps) (Some ts) None = refl
by_parts true (Some u) (Some ps) (Some ts) (Some us) = ap Some (same_in u ps ts us)

pub entity_bare : (x : Functions) (d : Data) → entity_read x d ≡ option_map bare_entity_pair (entity_read_made x d)
entity_bare x d =
    rw (parts_are x (codes "attrs") d, parts_are x (codes "tags") d)
    (by_parts (has_only (codes "uid" ∷ codes "attrs" ∷ codes "tags" ∷ codes "ancestors" ∷ []) d) (required (codes "uid") uid_read d)
    (optional (codes "attrs") (members_of (under_text (value_read x))) [] d) (optional (codes "tags") (members_of (under_text (value_read x))) [] d) (optional (codes "ancestors") (list_of uid_read) [] d))

-- so is a list of them
one_bare : (o : Option (Uid × world.Entity Made)) (rest : Option (List (Uid × world.Entity Made)))
    → given (option_map bare_entity_pair o) (λ b. option_map (λ more. b ∷ more) (option_map (map bare_entity_pair) rest)) ≡ option_map (map bare_entity_pair) (given o (λ a. option_map (λ more. a ∷ more) rest))
one_bare None rest = refl
one_bare (Some e) None = refl
one_bare (Some e) (Some es) = refl

each_bare : (x : Functions) (ds : Items) → each (entity_read x) ds ≡ option_map (map bare_entity_pair) (each (entity_read_made x) ds)
each_bare x no_items = refl
each_bare x (item d ds) = rw (entity_bare x d, each_bare x ds) (one_bare (entity_read_made x d) (each (entity_read_made x) ds))

of_array : (x : Functions) (o : Option Items) → given o (each (entity_read x)) ≡ option_map (map bare_entity_pair) (given o (each (entity_read_made x)))
of_array x None = refl
of_array x (Some ds) = each_bare x ds

list_bare : (x : Functions) (d : Data) → list_of (entity_read x) d ≡ option_map (map bare_entity_pair) (list_of (entity_read_made x) d)
list_bare x d = of_array x (as_array d)

pairs_bare : (es : List Entity) → map bare_entity_pair (map entity_pair_made es) ≡ map entity_pair es
pairs_bare [] = refl
pairs_bare (e ∷ es) = ap (λ more. entity_pair e ∷ more) (pairs_bare es)

pub listed : (x : Functions) (d : Data) (es : List Entity) → list_of (entity_read_made x) d ≡ Some (map entity_pair_made es) → list_of (entity_read x) d ≡ Some (map entity_pair es)
listed x d es h = list_bare x d ∙ ap (option_map (map bare_entity_pair)) h ∙ ap Some (pairs_bare es)

pub unlisted : (x : Functions) (d : Data) → list_of (entity_read_made x) d ≡ None → list_of (entity_read x) d ≡ None
unlisted x d h = list_bare x d ∙ ap (option_map (map bare_entity_pair)) h

-- the values of a store of entities as they are written are so
found_well : (x : Table) (es : List Entity) → AreWritten x (map entity_pair_made es) → (u : Uid) (e : world.Entity Made) → option_map (λ (k : Kept). k.0) (lookup (uid_eq u) (map kept_pair es)) ≡ Some e → IsFoundMadeWell x (held e)
found_well x [] h u e q = cc
found_well x (f ∷ es) h u e q =
    elim (uid_eq u (entity_uid f)) as (λ c. option_map (λ (k : Kept). k.0) (if c then Some (entity_kept f) else lookup (uid_eq u) (map kept_pair es)) ≡ Some e → IsFoundMadeWell x (held e))
    [ true ↦ λ r. (let s : entity_seen f ≡ e = cc in subst (λ (g : world.Entity Made). IsFoundMadeWell x (held g)) s h.0) | false ↦ λ r. found_well x es h.1 u e r ] q

pub store_written : (x : Table) (es : List Entity) (s : Entities) → store_made s ≡ map kept_pair es → AreWritten x (map entity_pair_made es) → IsStoreWritten x s
store_written x es s k h =
    record { written = subst (λ (ks : List (Uid × Kept)). (u : Uid) (e : world.Entity Made) → option_map (λ (k : Kept). k.0) (lookup (uid_eq u) ks) ≡ Some e → IsFoundMadeWell x (held e)) (sym k) (found_well x es h) }

-- the entity of a uid is the one that is kept under it, without the calls
same_entry : (es : List Entity) (u : Uid) → lookup (uid_eq u) (entities_in es) ≡ option_map bare_entity (option_map (λ (k : Kept). k.0) (lookup (uid_eq u) (kept_in es)))
same_entry [] u = refl
same_entry (f ∷ es) u =
    elim (uid_eq u (entity_uid f)) as (λ c. (if c then Some (entity_of f) else lookup (uid_eq u) (entities_in es)) ≡ option_map bare_entity (option_map (λ (k : Kept). k.0) (if c then Some (entity_kept f) else lookup (uid_eq u) (kept_in es))))
    [ true ↦ refl | false ↦ same_entry es u ]

pub each_kept : (s : Entities) (u : Uid) → lookup (uid_eq u) (store_seen s).entities ≡ option_map bare_entity (option_map (λ (k : Kept). k.0) (lookup (uid_eq u) (store_made s)))
each_kept s u = same_entry (entities_kept s) u

-- what holds of a result, as it does of what it holds
pub if_ok : {A E : Type 0} (P Q : A → Type 0) (r : Result A E) → ((a : A) → P a → Q a) → IfOk r P → IfOk r Q
if_ok P Q (Ok a) k h = k a h
if_ok P Q (Err e) k h = tt

pub if_err : {A E : Type 0} (P Q : E → Type 0) (r : Result A E) → ((e : E) → P e → Q e) → IfErr r P → IfErr r Q
if_err P Q (Ok a) k h = tt
if_err P Q (Err e) k h = k e h
