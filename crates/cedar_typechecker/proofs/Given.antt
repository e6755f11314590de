-- What calls give, as the answers that are due.
use Rattle.std.proofs.Common.{◌≡◌, ◌||◌, List, [], ◌∷◌, map, refl, ap}
use Rattle.std.specs.BTreeMap.{is_at}
use Rattle.std.specs.Cmp.Lexicographic.{slice_cmp}
use Rattle.std.specs.List.{list_any}
use Rattle.std.specs.Ordering.{nat_cmp}
use Rattle.std.specs.Rc.{rc_str_bytes}
use Rattle.std.specs.Str.{bytes_eq}
use Rattle.std.specs.declared.alloc.Global.{Global}
use Rattle.std.specs.declared.rc.RcStr.{RcStr}
use Rattle.std.proofs.lemmas.Map.Text.{is_eq-slice_cmp}
use Rattle.cedar_expr_model.specs.Name.{Text, Name, name_eq}
use Rattle.cedar_typechecker_environments.specs.Signatures.{CallSignature}

-- two signatures of the same parts
pub same_call : (s t : CallSignature) → (s.parameters ≡ t.parameters) × ((s.is_variadic ≡ t.is_variadic) × ((s.is_constructor ≡ t.is_constructor) × (s.result ≡ t.result))) → s ≡ t
same_call s t h = λ i. record { parameters = h.0 i; is_variadic = h.1.0 i; is_constructor = h.1.1.0 i; result = h.1.1.1 i }

-- a text among texts
pub text_among : (t : Text) (ks : List (RcStr Global)) → list_any (is_at (λ k. slice_cmp nat_cmp t (rc_str_bytes k))) ks ≡ list_any (bytes_eq t) (map rc_str_bytes ks)
text_among t [] = refl
text_among t (k ∷ ks) = λ i. is_eq-slice_cmp t (rc_str_bytes k) i || text_among t ks i

-- one of these, by its name
pub named_among : {A : Type 0} (f : A → Name) (n : Name) (xs : List A) → list_any (λ x. name_eq n (f x)) xs ≡ list_any (name_eq n) (map f xs)
named_among f n [] = refl
named_among f n (x ∷ xs) = ap (λ b. name_eq n (f x) || b) (named_among f n xs)
