-- The tests of equality decide equality.
use Rattle.std.proofs.Common.{◌≡◌, List, [], ◌∷◌, true, refl, ap}
use Rattle.std.specs.Bool.{Decides}
use Rattle.std.proofs.lemmas.Bool.Decides.{Decides-and, Decides-like}
use Rattle.std.proofs.lemmas.Slice.Eq.{bytes_eq-Decides}
use Rattle.cedar_expr_model.specs.Name.{Text, Name, name_eq, texts_eq}
use Rattle.cedar_expr_model.specs.Uid.{Uid, uid_eq}

pub texts_eq-Decides : (xs ys : List Text) → Decides (texts_eq xs ys) (xs ≡ ys)
texts_eq-Decides [] [] = (λ _. refl, λ _. refl)
texts_eq-Decides [] (y ∷ ys) = (λ h. cc, λ h. cc)
texts_eq-Decides (x ∷ xs) [] = (λ h. cc, λ h. cc)
texts_eq-Decides (x ∷ xs) (y ∷ ys) = Decides-like _ (λ p. let e = p.0 in let f = p.1 in cc) (λ e. (cc, cc)) (Decides-and _ _ (bytes_eq-Decides x y) (texts_eq-Decides xs ys))

same_name : (m n : Name) → (m.path ≡ n.path) × (m.base ≡ n.base) → m ≡ n
same_name m n p = λ i. record { path = p.0 i; base = p.1 i }

pub name_eq-Decides : (m n : Name) → Decides (name_eq m n) (m ≡ n)
name_eq-Decides m n = Decides-like _ (same_name m n) (λ e. (ap (λ (k : Name). k.path) e, ap (λ (k : Name). k.base) e)) (Decides-and _ _ (texts_eq-Decides m.path n.path) (bytes_eq-Decides m.base n.base))

same_uid : (u v : Uid) → (u.kind ≡ v.kind) × (u.id ≡ v.id) → u ≡ v
same_uid u v p = λ i. record { kind = p.0 i; id = p.1 i }

pub uid_eq-Decides : (u v : Uid) → Decides (uid_eq u v) (u ≡ v)
uid_eq-Decides u v = Decides-like _ (same_uid u v) (λ e. (ap (λ (k : Uid). k.kind) e, ap (λ (k : Uid). k.id) e)) (Decides-and _ _ (name_eq-Decides u.kind v.kind) (bytes_eq-Decides u.id v.id))

-- a thing is equal to itself by the test
pub uid_eq_same : (u : Uid) → uid_eq u u ≡ true
uid_eq_same u = (uid_eq-Decides u u).1 refl

pub name_eq_same : (n : Name) → name_eq n n ≡ true
name_eq_same n = (name_eq-Decides n n).1 refl
