-- Fragments that are made of what is written, and several together.
use Rattle.std.proofs.Common.{◌≡◌, List, [], ◌∷◌, ◌++◌, map, Ok, refl, sym, ap, ◌∙◌}
use Rattle.std.proofs.lemmas.List.{append-nil, map-append}
use Rattle.std.proofs.lemmas.Grind.{flat_map-append}
use Rattle.std.specs.List.{flat_map}
use Rattle.cedar_expr_leaves.specs.declared.conditional_name.ConditionalName.{ConditionalName}
use Rattle.cedar_schema_model.specs.Declarations.{Declarations, bag}
use Rattle.cedar_schema_decl.specs.Conditional.{conditional_of}
use Rattle.cedar_schema_decl.specs.Requalified.{each}
use Rattle.cedar_schema_fragments.proofs.Wholes.{each_after}
use Rattle.cedar_schema_fragments.specs.Namespaces.{fragment_form}
use Rattle.cedar_schema_fragments.specs.Qualified.{namespace_qualified}
use Rattle.cedar_schema_fragments.specs.Written.{WrittenNamespace}
use Rattle.cedar_schema_fragments.specs.WrittenDeclarations.{declared_in, declarations_of, all_forms, AreWritten}
use Rattle.cedar_schema_fragments.specs.declared.namespace_def.ValidatorSchemaFragment.{ValidatorSchemaFragment}

pub made_written : (f : ValidatorSchemaFragment ConditionalName ConditionalName) (ws : List WrittenNamespace) → each namespace_qualified ws ≡ Ok (fragment_form conditional_of conditional_of f) → AreWritten (f ∷ []) (declarations_of ws)
made_written f ws h = record { namespaces = ws; declares = refl; qualifies = h ∙ ap Ok (sym (append-nil (fragment_form conditional_of conditional_of f))) }

-- the declarations of one list after the other
module _ {A : Type 0} (of : Declarations → List A) where
  one_after : (ws vs : List WrittenNamespace) → flat_map of (map declared_in (ws ++ vs)) ≡ flat_map of (map declared_in ws) ++ (flat_map of (map declared_in vs) ++ [])
  one_after ws vs = ap (flat_map of) (map-append declared_in ws vs) ∙ flat_map-append of (map declared_in ws) (map declared_in vs) ∙ ap (λ xs. flat_map of (map declared_in ws) ++ xs) (sym (append-nil (flat_map of (map declared_in vs))))

both_declared : (ws vs : List WrittenNamespace) → declarations_of (ws ++ vs) ≡ bag (declarations_of ws ∷ declarations_of vs ∷ [])
both_declared ws vs = λ i. record { commons = one_after (λ d. d.commons) ws vs i; entities = one_after (λ d. d.entities) ws vs i; actions = one_after (λ d. d.actions) ws vs i }

pub both_written : (fs gs : List (ValidatorSchemaFragment ConditionalName ConditionalName)) (d e : Declarations) → AreWritten fs d → AreWritten gs e → AreWritten (fs ++ gs) (bag (d ∷ e ∷ []))
both_written fs gs d e w v = record {
  namespaces = w.namespaces ++ v.namespaces;
  declares = (λ i. bag (w.declares i ∷ v.declares i ∷ [])) ∙ sym (both_declared w.namespaces v.namespaces);
  qualifies = each_after namespace_qualified w.namespaces v.namespaces (all_forms fs) (all_forms gs) w.qualifies v.qualifies ∙ ap Ok (sym (flat_map-append (fragment_form conditional_of conditional_of) fs gs));
}
