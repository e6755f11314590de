-- What the laws of repeated names, records of pairs, sets side by side and names say.
-- Rule: repeated names; extension functions; values and equality; identifiers and names (docs/RULES.md).
use Rattle.std.specs.Prelude.{◌≡◌, ◌↔◌, Bool, true, false, List, [], ◌∷◌, ◌++◌, map, Contains, Option, Some, None, if◌then◌else◌}
use Rattle.std.specs.Option.{option_or}
use Rattle.std.specs.Str.{bytes_eq}
use Rattle.std.specs.Map.{lookup}
use Rattle.std.specs.Bool.{Decides}
use Rattle.std.specs.List.{list_all, filter_map}
use Rattle.cedar_expr_model.specs.Name.{Text, Name}
use Rattle.cedar_expr_model.specs.Value.{V, Vs, field_of}
use Rattle.cedar_expr_model.specs.Tree.{CoreType}
use Rattle.cedar_expr_model.specs.Canonical.{is_canonical, are_rising, is_subset, is_disjoint}
use Rattle.cedar_expr_model.specs.SamenessLaws.{Among}
use Rattle.cedar_expr_model.specs.Made.{Made}
use Rattle.cedar_expr_model.specs.Names.{namespace_of, within, qualified, is_unqualified}
use Rattle.cedar_expr_model.specs.Records.{in_order, names_rise, fields, record_made}
use Rattle.cedar_expr_model.specs.Repeats.{repeated, repeated_function, repeated_constructor, table_fault}
use Rattle.cedar_expr_model.specs.Table.{Signature, constructed}
use Rattle.cedar_expr_model.specs.ValueParts.{Part, known, split, values_alone}

-- none is repeated
abbrev pub AreDistinct : {A : Type 0} → List A → Type 0
AreDistinct [] = Unit {0}
AreDistinct (x ∷ xs) = ¬ (Contains xs x) × AreDistinct xs

-- It stands behind a beginning of which all are distinct, and in which it stands.
abbrev pub IsMetAgain : {A : Type 0} → A → List A → Type 0
IsMetAgain {A} x xs = (front : List A) × (back : List A) × (xs ≡ front ++ x ∷ back) × AreDistinct front × Contains front x

-- where a test decides equality, none is found again exactly where all are distinct
abbrev pub RepeatsDecide : Type 0 → Type 0
RepeatsDecide A = (eq : A → A → Bool) → ((x y : A) → Decides (eq x y) (x ≡ y)) → (xs : List A) → (repeated eq xs ≡ None) ↔ AreDistinct xs

-- and what is found is what is met again first
abbrev pub RepeatIsFirst : Type 0 → Type 0
RepeatIsFirst A = (eq : A → A → Bool) → ((x y : A) → Decides (eq x y) (x ≡ y)) → (xs : List A) (x : A) → (repeated eq xs ≡ Some x) ↔ IsMetAgain x xs

abbrev pub function_names : List Signature → List Name
function_names ss = map (λ (s : Signature). s.name) ss

-- a table has no fault exactly where no name and no type of a constructor is repeated
abbrev pub TableFaultDecides : Type 0
TableFaultDecides = (ss : List Signature) → (table_fault ss ≡ None) ↔ (AreDistinct (function_names ss) × AreDistinct (filter_map constructed ss))

-- a repeated name is the fault wherever there is one
abbrev pub FunctionFault : Type 0
FunctionFault = (ss : List Signature) (f : Name) → (table_fault ss ≡ Some (repeated_function f)) ↔ IsMetAgain f (function_names ss)

-- a type with two constructors is the fault where no name is repeated
abbrev pub ConstructorFault : Type 0
ConstructorFault = (ss : List Signature) (t : CoreType) → (table_fault ss ≡ Some (repeated_constructor t)) ↔ (AreDistinct (function_names ss) × IsMetAgain t (filter_map constructed ss))

-- what stands in the last pair of this name
abbrev pub last_of : {A : Type 0} → Text → List (Text × A) → Option A
last_of a [] = None
last_of a (p ∷ ps) = option_or (last_of a ps) (if bytes_eq a p.0 then Some p.1 else None)

-- the pairs in order rise, and have of each name the last
abbrev pub InOrderRises : Type 0 → Type 0
InOrderRises A = (ps : List (Text × A)) → names_rise (in_order ps) ≡ true

abbrev pub InOrderFinds : Type 0 → Type 0
InOrderFinds A = (a : Text) (ps : List (Text × A)) → lookup (bytes_eq a) (in_order ps) ≡ last_of a ps

-- pairs whose names rise are in order
abbrev pub InOrderStays : Type 0 → Type 0
InOrderStays A = (ps : List (Text × A)) → names_rise ps ≡ true → in_order ps ≡ ps

-- the record of canonical values is canonical, and has of each name the last
abbrev pub RecordsAreCanonical : Type 0
RecordsAreCanonical = (ps : List (Text × V)) → list_all (λ (p : Text × V). is_canonical p.1) ps ≡ true → is_canonical (record_made ps) ≡ true

abbrev pub RecordsHaveLast : Type 0
RecordsHaveLast = (a : Text) (ps : List (Text × V)) → field_of a (fields (in_order ps)) ≡ last_of a ps

-- of sets in rising order the tests of subset and of disjoint sets decide
abbrev pub SubsetDecides : Type 0
SubsetDecides = (vs ws : Vs) → are_rising ws ≡ true → Decides (is_subset vs ws) ((u : V) → Among u vs → Among u ws)

abbrev pub DisjointDecides : Type 0
DisjointDecides = (vs ws : Vs) → are_rising ws ≡ true → Decides (is_disjoint vs ws) ((u : V) → Among u vs → ¬ (Among u ws))

-- a list is split into values exactly where it is a list of values, and these are they
abbrev pub SplitGivesValues : Type 0
SplitGivesValues = (ps : List (Part Made)) (ms : List Made) → (split ps ≡ values_alone ms) ↔ (ps ≡ map known ms)

-- the namespace of a name in a namespace is that one
abbrev pub NamespaceIsKept : Type 0
NamespaceIsKept = (space : Name) (base : Text) → namespace_of (within space base) ≡ Some space

-- a name that has a namespace stays, and so does one that was qualified before
abbrev pub QualifiedStays : Type 0
QualifiedStays = (space : Option Name) (n : Name) → is_unqualified n ≡ false → qualified space n ≡ n

abbrev pub QualifiedOnce : Type 0
QualifiedOnce = (space : Name) (other : Option Name) (n : Name) → qualified other (qualified (Some space) n) ≡ qualified (Some space) n
