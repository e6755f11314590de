-- What is listed of fragments, by the forms of the namespaces that are written.
use Rattle.std.proofs.Common.{◌≡◌, Bool, true, false, ◌&&◌, List, [], ◌∷◌, ◌++◌, map, Option, Some, None, option_map, refl, sym, ap, ◌∙◌, subst}
use Rattle.std.specs.Prelude.{Contains, not, if◌then◌else◌}
use Rattle.std.specs.List.{flat_map}
use Rattle.std.specs.Option.{option_to_list}
use Rattle.std.specs.Ordering.{match_ordering}
use Rattle.std.specs.declared.cmp.Ordering.{Ordering}
use Rattle.std.specs.declared.cmp.Ordering.TheVariants.{Less, Equal, Greater}
use Rattle.std.proofs.lemmas.Grind.{flat_map-append}
use Rattle.std.proofs.lemmas.List.{map-append}
use Rattle.std.proofs.lemmas.List.Folds.{flat_map-map}
use Rattle.cedar_expr_model.specs.Name.{Text, Name}
use Rattle.cedar_expr_model.specs.Lists.{is_nil}
use Rattle.cedar_expr_names.specs.Views.{name_of}
use Rattle.cedar_expr_names.specs.declared.internal_name.InternalName.{InternalName}
use Rattle.cedar_expr_names.specs.declared.loc.Loc.{Loc}
use Rattle.cedar_expr_leaves.specs.declared.conditional_name.ConditionalName.{ConditionalName}
use Rattle.cedar_schema_model.specs.Declarations.{common_name, common_names}
use Rattle.cedar_schema_decl.specs.Conditional.{Conditional, conditional_of}
use Rattle.cedar_schema_decl.specs.Definitions.{common_form, entity_form}
use Rattle.cedar_schema_decl.specs.Forms.{TypeForm, EntityForm}
use Rattle.cedar_schema_fragments.proofs.Wholes.{whole}
use Rattle.cedar_schema_fragments.specs.Actions.{under_uid}
use Rattle.cedar_schema_fragments.specs.Namespaces.{NamespaceForm, namespace_form}
use Rattle.cedar_schema_fragments.specs.Qualified.{common_qualified}
use Rattle.cedar_schema_fragments.specs.Written.{WrittenNamespace}
use Rattle.cedar_schema_fragments.specs.WrittenDeclarations.{common_declaration, declared_in, declarations_of, all_forms}
use Rattle.cedar_schema_fragments.specs.declared.namespace_def.ValidatorNamespaceDef.{ValidatorNamespaceDef}
use Rattle.cedar_schema_fragments.specs.declared.namespace_def.ValidatorSchemaFragment.{ValidatorSchemaFragment}
use Rattle.cedar_schema_built.specs.OfFragments.{common_in, commons_of_space, commons_of_fragments, declares_any, space_at, space_in, spaces_of_fragments}
use Rattle.cedar_schema_built.specs.Put.{put, all_put}

-- the names of what is put in order are put in order
module _ {S A : Type 0} (by : S → S → Ordering) (name : A → S) where
  names_step : (a b : A) (bs : List A) (ns : List S) (o : Ordering) → map name (put by name a bs) ≡ ns → map name (match_ordering o (a ∷ b ∷ bs) (a ∷ bs) (b ∷ put by name a bs)) ≡ match_ordering o (name a ∷ name b ∷ map name bs) (name a ∷ map name bs) (name b ∷ ns)
  names_step a b bs ns Less h = refl
  names_step a b bs ns Equal h = refl
  names_step a b bs ns Greater h = ap (λ xs. name b ∷ xs) h

  put_names : (a : A) (bs : List A) → map name (put by name a bs) ≡ put by (λ s. s) (name a) (map name bs)
  put_names a [] = refl
  put_names a (b ∷ bs) = names_step a b bs (put by (λ s. s) (name a) (map name bs)) (by (name a) (name b)) (put_names a bs)

  pub all_put_names : (bs as_ : List A) → map name (all_put by name bs as_) ≡ all_put by (λ s. s) (map name bs) (map name as_)
  all_put_names bs [] = refl
  all_put_names bs (a ∷ as_) = all_put_names (put by name a bs) as_ ∙ ap (λ xs. all_put by (λ s. s) xs (map name as_)) (put_names a bs)

abbrev pub Space : Type 0
Space = ValidatorNamespaceDef ConditionalName ConditionalName

abbrev pub Fragment : Type 0
Fragment = ValidatorSchemaFragment ConditionalName ConditionalName

abbrev pub Form : Type 0
Form = NamespaceForm Conditional (Conditional × Text)

abbrev form_of : Space → Form
form_of = namespace_form conditional_of conditional_of

twice : {X Y Z : Type 0} (g : Y → Z) (f : X → Y) (xs : List X) → map g (map f xs) ≡ map (λ x. g (f x)) xs
twice g f [] = refl
twice g f (x ∷ xs) = ap (λ ys. g (f x) ∷ ys) (twice g f xs)

-- what is seen of the namespaces of fragments, where its names are found in their forms
module _ {A : Type 0} (seen : Space → List A) (name : A → Name) (found : Form → List Name) (each : (n : Space) → map name (seen n) ≡ found (form_of n)) where
  of_spaces : (ns : List Space) → map name (flat_map seen ns) ≡ flat_map found (map form_of ns)
  of_spaces [] = refl
  of_spaces (n ∷ ns) = map-append name (seen n) (flat_map seen ns) ∙ (λ i. each n i ++ of_spaces ns i)

  of_fragments : (fs : List Fragment) → map name (flat_map (λ f. flat_map seen f.0.items) fs) ≡ flat_map found (all_forms fs)
  of_fragments [] = refl
  of_fragments (f ∷ fs) =
      map-append name (flat_map seen f.0.items) (flat_map (λ g. flat_map seen g.0.items) fs)
      ∙ (λ i. of_spaces f.0.items i ++ of_fragments fs i)
      ∙ sym (flat_map-append found (map form_of f.0.items) (all_forms fs))

  pub of_written : (fs : List Fragment) (ws : List WrittenNamespace) → all_forms fs ≡ map whole ws → map name (flat_map (λ f. flat_map seen f.0.items) fs) ≡ flat_map (λ w. found (whole w)) ws
  of_written fs ws e = of_fragments fs ∙ ap (flat_map found) e ∙ flat_map-map found whole ws

-- common types
abbrev commons_found : Form → List Name
commons_found n = map (λ c. c.0) n.commons

commons_each : (n : Space) → map (λ c. c.name) (commons_of_space n) ≡ commons_found (form_of n)
commons_each n = twice (λ c. c.name) common_in n.common_types.defs.items ∙ sym (twice (λ c. c.0) (λ e. (name_of e.0, common_form conditional_of e.1)) n.common_types.defs.items)

commons_written : (ws : List WrittenNamespace) → flat_map (λ w. commons_found (whole w)) ws ≡ common_names (declarations_of ws)
commons_written [] = refl
commons_written (w ∷ ws) =
    (λ i. (twice (λ c. c.0) (common_qualified w.namespace) w.commons ∙ sym (twice common_name (common_declaration w.namespace) w.commons)) i ++ commons_written ws i)
    ∙ sym (map-append common_name (map (common_declaration w.namespace) w.commons) (flat_map (λ d. d.commons) (map declared_in ws)))

pub commons_named : (fs : List Fragment) (ws : List WrittenNamespace) → all_forms fs ≡ map whole ws → map (λ c. c.name) (commons_of_fragments fs) ≡ common_names (declarations_of ws)
commons_named fs ws e = of_written commons_of_space (λ c. c.name) commons_found commons_each fs ws e ∙ commons_written ws

-- namespaces
nil_of : {X Y : Type 0} (f : X → Y) (xs : List X) → is_nil xs ≡ is_nil (map f xs)
nil_of f [] = refl
nil_of f (x ∷ xs) = refl

abbrev pub any_in : Form → Bool
any_in n = not (is_nil n.commons && (is_nil n.entities && is_nil n.actions))

abbrev pub space_found : Form → List Name
space_found n = if any_in n then option_to_list n.namespace else []

any_same : (n : Space) → declares_any n ≡ any_in (form_of n)
any_same n = λ i. not (nil_of {Y = Name × TypeForm Conditional} (λ e. (name_of e.0, common_form conditional_of e.1)) n.common_types.defs.items i && (nil_of {Y = Name × EntityForm Conditional} (λ e. (name_of e.0, entity_form conditional_of e.1)) n.entity_types.defs.items i && nil_of (under_uid conditional_of conditional_of) n.actions.actions.items i))

space_named : (l : Option Loc) (o : Option InternalName) (t : Bool) → map (λ s. s.name) (if t then space_at l o else []) ≡ (if t then option_to_list (option_map name_of o) else [])
space_named l None true = refl
space_named l (Some n) true = refl
space_named l o false = refl

spaces_each : (n : Space) → map (λ s. s.name) (space_in n) ≡ space_found (form_of n)
spaces_each n = space_named n.loc n.namespace (declares_any n) ∙ ap (λ t. if t then option_to_list (option_map name_of n.namespace) else []) (any_same n)

pub spaces_named : (fs : List Fragment) (ws : List WrittenNamespace) → all_forms fs ≡ map whole ws → map (λ s. s.name) (spaces_of_fragments fs) ≡ flat_map (λ w. space_found (whole w)) ws
spaces_named fs ws e = of_written space_in (λ s. s.name) space_found spaces_each fs ws e
