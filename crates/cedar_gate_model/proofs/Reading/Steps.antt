-- What was read, step by step.
use Rattle.std.proofs.Common.{◌≡◌, Bool, true, false, List, [], ◌∷◌, Option, Some, None, refl, sym, subst, option_map, if◌then◌else◌, bytes_eq}
use Rattle.cedar_expr_model.specs.Name.{Text}
use Rattle.cedar_gate_model.specs.Reading.{given}
use Rattle.cedar_gate_model.specs.ReadingForms.{if_passing}
use Rattle.std.specs.Map.{lookup}
use Rattle.std.specs.Prelude.{option_and_then}

pub given_some : {A B : Type 0} (o : Option A) (next : A → Option B) (b : B) → given o next ≡ Some b → (a : A) × (o ≡ Some a) × (next a ≡ Some b)
given_some None next b e = cc
given_some (Some a) next b e = (a, refl, e)

pub and_then_some : {A B : Type 0} (f : A → Option B) (o : Option A) (b : B) → option_and_then f o ≡ Some b → (a : A) × (o ≡ Some a) × (f a ≡ Some b)
and_then_some f None b e = cc
and_then_some f (Some a) b e = (a, refl, e)

pub map_some : {A B : Type 0} (f : A → B) (o : Option A) (b : B) → option_map f o ≡ Some b → (a : A) × (o ≡ Some a) × (b ≡ f a)
map_some f None b e = cc
map_some f (Some a) b e = (a, refl, cc)

pub if_some_of : {A : Type 0} (c : Bool) (o : Option A) (a : A) → (if c then o else None) ≡ Some a → (c ≡ true) × (o ≡ Some a)
if_some_of true o a e = (refl, e)
if_some_of false o a e = cc

pub passing_some : {A : Type 0} (test : A → Bool) (a b : A) → if_passing test a ≡ Some b → (test a ≡ true) × (b ≡ a)
passing_some test a b e = let p = if_some_of (test a) (Some a) b e in (p.0, cc)

-- what holds of all that stand in a list of words, each where the word is its own, holds of what stands beside the word
abbrev pub AllBeside : {A : Type 0} → (A → Type 0) → Text → List (Text × A) → Type 0
AllBeside T word [] = Unit {0}
AllBeside T word (p ∷ ps) = (bytes_eq word p.0 ≡ true → T p.1) × AllBeside T word ps

pub beside_all : {A : Type 0} (T : A → Type 0) (word : Text) (ps : List (Text × A)) → AllBeside T word ps → (a : A) → lookup (bytes_eq word) ps ≡ Some a → T a
beside_all T word [] h a e = cc
beside_all {A} T word (p ∷ ps) h a e =
    elim (bytes_eq word p.0) as (λ c. bytes_eq word p.0 ≡ c → (if c then Some p.1 else lookup (bytes_eq word) ps) ≡ Some a → T a)
    [ true ↦ λ q r. let s : p.1 ≡ a = cc in subst T s (h.0 q) | false ↦ λ q r. beside_all T word ps h.1 a r ] refl e

-- whatever is given has this
abbrev pub Gives : {A : Type 0} → (A → Type 0) → Option A → Type 0
Gives {A} Q o = (a : A) → o ≡ Some a → Q a

pub given_gives : {A B : Type 0} (Q : B → Type 0) (o : Option A) (next : A → Option B) → ((a : A) → o ≡ Some a → Gives Q (next a)) → Gives Q (given o next)
given_gives Q o next h b e = let p = given_some o next b e in h p.0 p.1 b p.2

pub map_gives : {A B : Type 0} (Q : B → Type 0) (make : A → B) (o : Option A) → ((a : A) → o ≡ Some a → Q (make a)) → Gives Q (option_map make o)
map_gives Q make o h b e = let p = map_some make o b e in subst Q (sym p.2) (h p.0 p.1)

pub if_gives : {A : Type 0} (Q : A → Type 0) (c : Bool) (o : Option A) → (c ≡ true → Gives Q o) → Gives Q (if c then o else None)
if_gives Q c o h a e = let p = if_some_of c o a e in h p.0 a p.1
