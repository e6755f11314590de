-- What a bundle that was read says.
use Rattle.std.proofs.Common.{◌≡◌, ◌≤◌, ℕ, Bool, true, false, not, List, [], ◌∷◌, Option, Some, None, Contains, refl, sym, ap, ◌∙◌, subst, codes, ◌&&◌, option_map}
use Rattle.std.specs.List.{list_all}
use Rattle.std.proofs.lemmas.Bool.{leb-true}
use Rattle.serde_json.specs.Data.{Data, Items, no_items, item, Members, no_members, member}
use Rattle.serde_json.specs.Find.{get, as_array, as_object}
use Rattle.cedar_expr_model.specs.Name.{Text}
use Rattle.cedar_expr_model.specs.Uid.{Uid, uid_eq}
use Rattle.cedar_expr_model.specs.Value.{V}
use Rattle.cedar_expr_model.proofs.Lists.{both_hold, hold_both, all_each}
use Rattle.cedar_expr_model.proofs.Equality.{uid_eq-Decides}
use Rattle.cedar_expr_model.specs.ValueParts.{Part, known}
use Rattle.cedar_store_model.specs.World.{Entity}
use Rattle.cedar_store_model.specs.Knowledge.{is_known, holds_values}
use Rattle.cedar_schema_model.specs.BagLaws.{HasTwice}
use Rattle.cedar_schema_model.proofs.Decls.Faults.{repeated-Decides}
use Rattle.cedar_gate_model.specs.Reading.{required, if_there, optional, has_only, each, list_of, each_member, count_read}
use Rattle.cedar_gate_model.specs.Acceptance.{Submission}
use Rattle.cedar_evaluator_model.specs.Functions.{Functions}
use Rattle.cedar_gate_model.specs.Bundle.{Bundle}
use Rattle.cedar_gate_model.specs.ReadingForms.{if_passing, number_between}
use Rattle.cedar_gate_model.specs.ReadingName.{uid_read}
use Rattle.cedar_gate_model.specs.ReadingSchema.{schema_read}
use Rattle.cedar_gate_model.specs.ReadingPolicy.{policy_read}
use Rattle.cedar_gate_model.specs.ReadingValue.{value_read}
use Rattle.cedar_gate_model.specs.ReadingRequest.{request_read, parts_read, entity_read, store_read, step_read, steps_read}
use Rattle.cedar_gate_model.specs.ReadingBundle.{version_read, submission_read, is_bundle, bundle_read}
use Rattle.cedar_gate_model.proofs.Reading.Steps.{given_some, map_some, passing_some, given_gives, map_gives, if_gives}
use Rattle.std.specs.Map.{keys_of}
use Rattle.cedar_store_model.specs.Store.{are_distinct}
use Rattle.cedar_expr_model.specs.Repeats.{repeated}
use Rattle.std.specs.Prelude.{nat_le, is_some}
use Rattle.cedar_expr_model.specs.Made.{bare}
use Rattle.cedar_gate_model.proofs.Named.{entity_keys}

-- what a number in a range is
pub in_range : (low high : ℕ) (d : Data) (n : ℕ) → number_between low high d ≡ Some n → (low ≤ n) × (n ≤ high)
in_range low high d n e =
    let p = given_some (count_read d) (if_passing (λ m. nat_le low m && nat_le m high)) n e in
    let q = passing_some (λ m. nat_le low m && nat_le m high) p.0 n p.2 in
    let r = both_hold _ _ q.0 in
    subst (λ m. (low ≤ m) × (m ≤ high)) (sym q.1) (leb-true low p.0 r.0, leb-true p.0 high r.1)

-- the numbers and the table of what is handed to the gate
pub record Numbers (x : Functions) (s : Submission) : Type 0 where
  pub level : s.level ≤ 4294967295
  pub low : 1 ≤ s.limit
  pub high : s.limit ≤ 512
  pub table : s.table ≡ x.table

pub submission_numbers : (x : Functions) (d : Data) (s : Submission) → submission_read x d ≡ Some s → Numbers x s
submission_numbers x d = given_gives (Numbers x) (required (codes "version") version_read d) _ (λ version u.
    given_gives (Numbers x) (required (codes "level") (number_between 0 4294967295) d) _ (λ level p.
    given_gives (Numbers x) (required (codes "limit") (number_between 1 512) d) _ (λ limit q.
    given_gives (Numbers x) (required (codes "schema") schema_read d) _ (λ declarations r.
    map_gives (Numbers x) _ (required (codes "policies") (list_of (policy_read version)) d) (λ policies t.
    let m = given_some (get (codes "level") d) (number_between 0 4294967295) level p in
    let n = given_some (get (codes "limit") d) (number_between 1 512) limit q in
    let j = in_range 0 4294967295 m.0 level m.2 in
    let k = in_range 1 512 n.0 limit n.2 in
    record { level = j.1; low = k.0; high = k.1; table = refl })))))

-- the parts of a bundle are read from its keys
pub record PartsOf (x : Functions) (d : Data) (b : Bundle) : Type 0 where
  pub submission : submission_read x d ≡ Some b.submission
  pub store : required (codes "store") (store_read x) d ≡ Some b.store
  pub steps : steps_read x d ≡ Some b.steps

pub bundle_parts : (x : Functions) (d : Data) (b : Bundle) → bundle_read x d ≡ Some b → PartsOf x d b
bundle_parts x d = if_gives (PartsOf x d) (is_bundle d) _ (λ _. given_gives (PartsOf x d) (submission_read x d) _ (λ submission p.
    given_gives (PartsOf x d) (required (codes "request") (request_read x) d) _ (λ start q.
    given_gives (PartsOf x d) (required (codes "store") (store_read x) d) _ (λ store r.
    map_gives (PartsOf x d) _ (steps_read x d) (λ steps t. record { submission = p; store = r; steps = t })))))

pub numbers_in_range : (x : Functions) (d : Data) (b : Bundle) → bundle_read x d ≡ Some b → (b.submission.level ≤ 4294967295) × (1 ≤ b.submission.limit) × (b.submission.limit ≤ 512)
numbers_in_range x d b e =
    let p = submission_numbers x d b.submission (bundle_parts x d b e).submission in
    (p.level, p.low, p.high)

pub table_is_given : (x : Functions) (d : Data) (b : Bundle) → bundle_read x d ≡ Some b → b.submission.table ≡ x.table
table_is_given x d b e = (submission_numbers x d b.submission (bundle_parts x d b e).submission).table

-- what is read where the key lacks, and where it doesn't
lacking_is : {A : Type 0} (read : Data → Option A) (usual : A) (o : Option Data) (a : A) → if_there read usual o ≡ Some a → o ≡ None → a ≡ usual
lacking_is read usual None a e q = cc
lacking_is read usual (Some d) a e q = cc

pub there_has : {A : Type 0} (Q : A → Type 0) (read : Data → Option A) (usual : A) → Q usual → ((d : Data) (a : A) → read d ≡ Some a → Q a) → (o : Option Data) (a : A) → if_there read usual o ≡ Some a → Q a
there_has Q read usual h k None a e = let q : usual ≡ a = cc in subst Q q h
there_has Q read usual h k (Some d) a e = k d a e

pub lacking_steps_are_none : (x : Functions) (d : Data) (b : Bundle) → bundle_read x d ≡ Some b → get (codes "steps") d ≡ None → b.steps ≡ []
lacking_steps_are_none x d b e = lacking_is (list_of (step_read x)) [] (get (codes "steps") d) b.steps (bundle_parts x d b e).steps

-- a store that was read
store_passes : (x : Functions) (d : Data) (b : Bundle) → bundle_read x d ≡ Some b → (e : Data) × (list_of (entity_read x) e ≡ Some b.store) × (are_distinct b.store ≡ true)
store_passes x d b e =
    let p = given_some (get (codes "store") d) (store_read x) b.store (bundle_parts x d b e).store in
    let q = given_some (list_of (entity_read x) p.0) (if_passing are_distinct) b.store p.2 in
    let r = passing_some are_distinct q.0 b.store q.2 in
    (p.0, q.1 ∙ ap Some (sym r.1), ap are_distinct r.1 ∙ r.0)

not_twice : (c : Bool) → not c ≡ true → c ≡ true → ⊥
not_twice true h k = cc
not_twice false h k = cc

pub stored_once : (x : Functions) (d : Data) (b : Bundle) → bundle_read x d ≡ Some b → HasTwice (keys_of b.store) → ⊥
stored_once x d b e h =
    let p = store_passes x d b e in
    not_twice (is_some (repeated uid_eq (keys_of b.store))) p.2 ((repeated-Decides uid_eq uid_eq-Decides (keys_of b.store)).1 h)

-- attributes and tags are values
abbrev AreKnown : List (Text × Part V) → Type 0
AreKnown ps = list_all (λ (p : Text × Part V). is_known p.1) ps ≡ true

-- an attribute or a tag as it is read
abbrev part_of : Functions → Text → Data → Option (Text × Part V)
part_of x k d = option_map (λ m. (k, known (bare m))) (value_read x d)

members_known : (x : Functions) (ms : Members) (ps : List (Text × Part V)) → each_member (part_of x) ms ≡ Some ps → AreKnown ps
members_known x no_members ps e = let q : [] ≡ ps = cc in subst AreKnown q refl
members_known x (member k d ms) ps e =
    let p = given_some (part_of x k d) _ ps e in
    let m = map_some _ (value_read x d) p.0 p.1 in
    let q = map_some (λ more. p.0 ∷ more) (each_member (part_of x) ms) ps p.2 in
    subst AreKnown (sym q.2) (hold_both (is_known p.0.1) _ (ap (λ (r : Text × Part V). is_known r.1) m.2) (members_known x ms q.0 q.1))

parts_known : (x : Functions) (d : Data) (ps : List (Text × Part V)) → parts_read x d ≡ Some ps → AreKnown ps
parts_known x d ps e = let p = given_some (as_object d) (each_member (part_of x)) ps e in members_known x p.0 ps p.2

abbrev HoldsValues : Uid × Entity V → Type 0
HoldsValues e = holds_values e.1 ≡ true

entity_known : (x : Functions) (d : Data) (f : Uid × Entity V) → entity_read x d ≡ Some f → HoldsValues f
entity_known x d = if_gives HoldsValues (has_only entity_keys d) _ (λ _. given_gives HoldsValues (required (codes "uid") uid_read d) _ (λ u p.
    given_gives HoldsValues (optional (codes "attrs") (parts_read x) [] d) _ (λ attributes q.
    given_gives HoldsValues (optional (codes "tags") (parts_read x) [] d) _ (λ tags r.
    map_gives HoldsValues _ (optional (codes "ancestors") (list_of uid_read) [] d) (λ ancestors t.
    hold_both (list_all (λ (p : Text × Part V). is_known p.1) attributes) (list_all (λ (p : Text × Part V). is_known p.1) tags)
    (there_has AreKnown (parts_read x) [] refl (parts_known x) (get (codes "attrs") d) attributes q)
    (there_has AreKnown (parts_read x) [] refl (parts_known x) (get (codes "tags") d) tags r))))))

entities_known : (x : Functions) (ds : Items) (es : List (Uid × Entity V)) → each (entity_read x) ds ≡ Some es → list_all (λ (f : Uid × Entity V). holds_values f.1) es ≡ true
entities_known x no_items es e = let q : [] ≡ es = cc in subst (λ (fs : List (Uid × Entity V)). list_all (λ f. holds_values f.1) fs ≡ true) q refl
entities_known x (item d ds) es e =
    let p = given_some (entity_read x d) _ es e in
    let q = map_some (λ more. p.0 ∷ more) (each (entity_read x) ds) es p.2 in
    subst (λ (fs : List (Uid × Entity V)). list_all (λ f. holds_values f.1) fs ≡ true) (sym q.2)
    (hold_both (holds_values p.0.1) _ (entity_known x d p.0 p.1) (entities_known x ds q.0 q.1))

pub store_holds_values : (x : Functions) (d : Data) (b : Bundle) → bundle_read x d ≡ Some b → (f : Uid × Entity V) → Contains b.store f → holds_values f.1 ≡ true
store_holds_values x d b e f h =
    let p = store_passes x d b e in
    let q = given_some (as_array p.0) (each (entity_read x)) b.store p.1 in
    all_each (λ (g : Uid × Entity V). holds_values g.1) b.store (entities_known x q.0 b.store q.2) f h
