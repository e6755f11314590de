-- Each fault with its number.
use Rattle.std.proofs.Common.{◌≡◌, ℕ, Some, Contains, sym, subst, refl, arith}
use Rattle.cedar_schema_model.specs.Conforming.{ConformFault, numbered_faults}
use Rattle.cedar_gate_conforming.specs.Faults.{fault_number, fault_seen}
use Rattle.cedar_gate_conforming.specs.declared.faults.ConformFault as code
use Rattle.cedar_gate_conforming.specs.declared.faults.ConformFault.TheVariants.{OutOfMemory, Undeclared, NotListed, NoMember, LacksAttribute, UndeclaredAttribute, AttributeValue, Tag, Ancestor, Context, OpenPart}

named : (n : ℕ) (g f : ConformFault) → Contains numbered_faults (n, g) → Some g ≡ Some f → Contains numbered_faults (n, f)
named n g f c e = let q : g ≡ f = cc in subst (λ x. Contains numbered_faults (n, x)) q c

has_number : (s : code.ConformFault) (f : ConformFault) → fault_seen s ≡ Some f → Contains numbered_faults (fault_number s, f)
has_number OutOfMemory f e = absurd (cc)
has_number Undeclared f e = named 1 _ f (0, omega arith, refl) e
has_number NotListed f e = named 2 _ f (1, omega arith, refl) e
has_number NoMember f e = named 3 _ f (2, omega arith, refl) e
has_number LacksAttribute f e = named 4 _ f (3, omega arith, refl) e
has_number UndeclaredAttribute f e = named 5 _ f (4, omega arith, refl) e
has_number AttributeValue f e = named 6 _ f (5, omega arith, refl) e
has_number Tag f e = named 7 _ f (6, omega arith, refl) e
has_number Ancestor f e = named 8 _ f (7, omega arith, refl) e
has_number Context f e = named 9 _ f (8, omega arith, refl) e
has_number OpenPart f e = named 10 _ f (9, omega arith, refl) e

pub numbered : (s : code.ConformFault) (n : ℕ) → n ≡ fault_number s → (f : ConformFault) → fault_seen s ≡ Some f → Contains numbered_faults (n, f)
numbered s n h f e = subst (λ m. Contains numbered_faults (m, f)) (sym h) (has_number s f e)
