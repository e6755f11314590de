-- Names of unknowns that a session isn't opened with.
use Rattle.std.proofs.Common.{◌≡◌, ◌||◌, true, false, Bool, ℕ, List, [], ◌∷◌, Contains, refl, sym, ap, ◌∙◌, subst}
use Rattle.std.specs.Prelude.{nat_eq}
use Rattle.std.specs.Bool.{Decides}
use Rattle.std.proofs.lemmas.Bool.Decides.{Decides-eqb}
use Rattle.std.specs.List.{list_any}
use Rattle.std.specs.Str.{bytes_eq}
use Rattle.std.proofs.lemmas.Slice.Eq.{bytes_eq-Decides}
use Rattle.cedar_expr_model.specs.Name.{Text}
use Rattle.cedar_expr_model.specs.Parts.{Unknown}
use Rattle.cedar_expr_model.proofs.Lists.{contains_head, contains_tail, contains_cases, contains_none, found-Decides, hold_left, hold_right}
use Rattle.cedar_gate_model.specs.Session.{variable_names}
use Rattle.cedar_gate_openings.specs.Faults.{HaveFitNames}
use Rattle.cedar_gate_openings.specs.Names.{has_quote, is_variable_name}

-- the test holds of one, or of none
pub any_there : {X : Type 0} (p : X → Bool) (xs : List X) → list_any p xs ≡ true → (x : X) × Contains xs x × (p x ≡ true)
any_there p [] e = cc
any_there {X} p (y ∷ xs) e = go (any_there p xs) (p y) refl e
  where
    go : (list_any p xs ≡ true → (x : X) × Contains xs x × (p x ≡ true)) → (t : Bool) → p y ≡ t → (t || list_any p xs) ≡ true → (x : X) × Contains (y ∷ xs) x × (p x ≡ true)
    go rest true q k = (y, contains_head y xs, q)
    go rest false q k = let r = rest k in (r.0, contains_tail y xs r.0 r.1, r.2)

pub any_seen : {X : Type 0} (p : X → Bool) (xs : List X) (x : X) → Contains xs x → p x ≡ true → list_any p xs ≡ true
any_seen p [] x h e = absurd (contains_none x h)
any_seen {X} p (y ∷ xs) x h e = contains_cases (list_any p (y ∷ xs) ≡ true) y xs x h (λ q. hold_left (p y) (list_any p xs) (ap p q ∙ e)) (λ m. hold_right (p y) (list_any p xs) (any_seen p xs x m e))

never : true ≡ false → ⊥
never e = cc

either_false : (a b : Bool) → (a || b) ≡ false → (a ≡ false) × (b ≡ false)
either_false true b e = cc
either_false false b e = (refl, e)

pub any_absent : {X : Type 0} (p : X → Bool) (xs : List X) → list_any p xs ≡ false → (x : X) → Contains xs x → p x ≡ true → ⊥
any_absent p [] e x k h = contains_none x k
any_absent p (y ∷ xs) e x k h =
    let q = either_false (p y) (list_any p xs) e in
    contains_cases ⊥ y xs x k (λ is. never (sym h ∙ ap p (sym is) ∙ q.0)) (λ m. any_absent p xs q.1 x m h)

-- a byte, or a name, stands among these
quote_is : (x y : ℕ) → Decides (nat_eq x y) (x ≡ y)
quote_is x y = Decides-eqb x y

pub quote_there : (n : Text) → list_any (λ b. nat_eq b 34) n ≡ true → Contains n 34
quote_there n e = let r = any_there (λ b. nat_eq b 34) n e in subst (λ b. Contains n b) ((quote_is r.0 34).0 r.2) r.1

pub quote_seen : (n : Text) → Contains n 34 → list_any (λ b. nat_eq b 34) n ≡ true
quote_seen n h = any_seen (λ b. nat_eq b 34) n 34 h refl

pub name_there : (ns : List Text) (n : Text) → list_any (bytes_eq n) ns ≡ true → Contains ns n
name_there ns n e = (found-Decides bytes_eq bytes_eq-Decides n ns).0 e

pub name_seen : (ns : List Text) (n : Text) → Contains ns n → list_any (bytes_eq n) ns ≡ true
name_seen ns n h = (found-Decides bytes_eq bytes_eq-Decides n ns).1 h

-- the names of unknowns, by a test
module _ (us : List Unknown) where
  pub quoted : list_any (λ (u : Unknown). has_quote u.name) us ≡ true → (u : Unknown) × Contains us u × Contains u.name 34
  quoted e = let r = any_there (λ (u : Unknown). has_quote u.name) us e in (r.0, r.1, quote_there (r.0).name r.2)

  unquoted : list_any (λ (u : Unknown). has_quote u.name) us ≡ false → (u : Unknown) → Contains us u → Contains u.name 34 → ⊥
  unquoted e u k h = any_absent (λ (v : Unknown). has_quote v.name) us e u k (quote_seen u.name h)

  pub variable : list_any (λ (u : Unknown). is_variable_name u.name) us ≡ true → (u : Unknown) × Contains us u × Contains variable_names u.name
  variable e = let r = any_there (λ (u : Unknown). is_variable_name u.name) us e in (r.0, r.1, name_there variable_names (r.0).name r.2)

  no_variable : list_any (λ (u : Unknown). is_variable_name u.name) us ≡ false → (u : Unknown) → Contains us u → Contains variable_names u.name → ⊥
  no_variable e u k h = any_absent (λ (v : Unknown). is_variable_name v.name) us e u k (name_seen variable_names u.name h)

  pub fit_names : list_any (λ (u : Unknown). has_quote u.name) us ≡ false → list_any (λ (u : Unknown). is_variable_name u.name) us ≡ false → HaveFitNames us
  fit_names e f = record { quotes = unquoted e; variables = no_variable f }
