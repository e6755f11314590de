-- Joins of several types, one after the other.
use Rattle.std.proofs.Common.{◌≡◌, ℕ, ◌+◌, ◌<◌, List, [], ◌∷◌, map, drop, length, get_or, Option, Some, None, option_map, refl, sym, ap, ◌∙◌}
use Rattle.std.proofs.lemmas.List.{drop_more}
use Rattle.cedar_schema_model.specs.Types.{Ty, Mode}
use Rattle.cedar_schema_model.specs.Join.{join}
use Rattle.cedar_schema_model.proofs.Named.{join_all}
use Rattle.cedar_schema_types.specs.Types.{type_of}
use Rattle.cedar_schema_types.specs.declared.types.Type.{«Type» as CodeType}

nothing_joins : (m : Mode) (us : List Ty) → join_all m None us ≡ None
nothing_joins m [] = refl
nothing_joins m (u ∷ us) = nothing_joins m us

-- a join that goes on with the next type, and one that there isn't
pub next_joined : (m : Mode) (j t k : Ty) (ts : List Ty) (whole : Option Ty) → join_all m (Some j) (t ∷ ts) ≡ whole → Some k ≡ join m j t → join_all m (Some k) ts ≡ whole
next_joined m j t k ts whole h e = ap (λ o. join_all m o ts) e ∙ h

pub not_joined : (m : Mode) (j t : Ty) (ts : List Ty) (whole : Option Ty) → join_all m (Some j) (t ∷ ts) ≡ whole → None ≡ join m j t → None ≡ whole
not_joined m j t ts whole h e = sym (nothing_joins m ts) ∙ ap (λ o. join_all m o ts) e ∙ h

-- at an index the next type doesn't join
pub stops_at : (m : Mode) (tys : List CodeType) (i : ℕ) (x : CodeType) (j : Ty) (o : Option CodeType) (whole : Option Ty) → i < length tys → x ≡ get_or tys i x → join_all m (Some j) (map type_of (drop i tys)) ≡ whole → option_map type_of o ≡ join m j (type_of x) → o ≡ None → None ≡ whole
stops_at m tys i x j o whole below at h e none =
    not_joined m j (type_of x) (map type_of (drop (i + 1) tys)) whole
    (ap (λ ts. join_all m (Some j) (map type_of ts)) (sym (drop_more tys i x below ∙ ap (λ y. y ∷ drop (i + 1) tys) (sym at))) ∙ h)
    (sym (ap (option_map type_of) none) ∙ e)
