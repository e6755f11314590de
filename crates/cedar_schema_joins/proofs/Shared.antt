-- What all members of a union declare, one after the other.
use Rattle.std.proofs.Common.{◌≡◌, ◌&&◌, ◌||◌, Bool, true, false, List, [], ◌∷◌, map, Option, Some, None, option_map, is_some, option_and_then, refl, sym, ap, ◌∙◌}
use Rattle.std.specs.List.{list_all, list_any}
use Rattle.cedar_expr_model.specs.Name.{Text, Name}
use Rattle.cedar_schema_model.specs.Types.{Ty, Declared, Mode, permissive}
use Rattle.cedar_schema_model.specs.Schema.{Schema}
use Rattle.cedar_schema_model.specs.Join.{join}
use Rattle.cedar_schema_model.specs.Lookup.{declared_of}
use Rattle.cedar_schema_model.proofs.Named.{all_declared, join_all}

nothing_joins : (m : Mode) (us : List Ty) → join_all m None us ≡ None
nothing_joins m [] = refl
nothing_joins m (u ∷ us) = nothing_joins m us

abbrev pub the_declared : Ty → Bool → Declared
the_declared t r = record { type = t; is_required = r }

-- what is declared in common, by the join so far and the members that are left
abbrev pub in_common : Bool → Option Ty → List Declared → Option Declared
in_common r j ds = option_map (λ t. record { type = t; is_required = r && list_all (λ (d : Declared). d.is_required) ds }) (join_all permissive j (map (λ (d : Declared). d.type) ds))

module _ (s : Schema) (a : Text) where
  abbrev pub left_to_join : Ty → Bool → List Name → Option Declared
  left_to_join j r ns = option_and_then (in_common r (Some j)) (all_declared s a ns)

  and_then_more : (x y z : Bool) → ((x && y) && z) ≡ (x && (y && z))
  and_then_more true y z = refl
  and_then_more false y z = refl

  same_flag : (o : Option Ty) (b c : Bool) → b ≡ c → option_map (λ (t : Ty). the_declared t b) o ≡ option_map (λ (t : Ty). the_declared t c) o
  same_flag o b c e = ap (λ x. option_map (λ (t : Ty). the_declared t x) o) e

  more_left : (j k : Ty) (r : Bool) (d : Declared) (o : Option (List Declared)) → Some k ≡ join permissive j d.type
      → option_and_then (in_common (r && d.is_required) (Some k)) o ≡ option_and_then (in_common r (Some j)) (option_map (λ ds. d ∷ ds) o)
  more_left j k r d None e = refl
  more_left j k r d (Some ds) e =
      ap (λ x. in_common (r && d.is_required) x ds) e
      ∙ same_flag (join_all permissive (join permissive j d.type) (map (λ (d : Declared). d.type) ds)) _ _ (and_then_more r d.is_required (list_all (λ (d : Declared). d.is_required) ds))

  none_left : (j : Ty) (r : Bool) (d : Declared) (o : Option (List Declared)) → None ≡ join permissive j d.type → None ≡ option_and_then (in_common r (Some j)) (option_map (λ ds. d ∷ ds) o)
  none_left j r d None e = refl
  none_left j r d (Some ds) e =
      ap (option_map (λ t. the_declared t (r && list_all (λ (d : Declared). d.is_required) (d ∷ ds)))) (sym (nothing_joins permissive (map (λ (d : Declared). d.type) ds)) ∙ ap (λ o. join_all permissive o (map (λ (d : Declared). d.type) ds)) e)

  -- the next member declares it, with a type that joins
  pub member_joins : (j k : Ty) (r : Bool) (n : Name) (ns : List Name) (d : Declared) (whole : Option Declared) → left_to_join j r (n ∷ ns) ≡ whole → Some d ≡ declared_of s a n → Some k ≡ join permissive j d.type
      → left_to_join k (r && d.is_required) ns ≡ whole
  member_joins j k r n ns d whole h there e =
      more_left j k r d (all_declared s a ns) e
      ∙ ap (λ o. option_and_then (in_common r (Some j)) (option_and_then (λ y. option_map (λ ys. y ∷ ys) (all_declared s a ns)) o)) there
      ∙ h

  -- it doesn't join, or isn't declared
  pub member_apart : (j : Ty) (r : Bool) (n : Name) (ns : List Name) (d : Declared) (whole : Option Declared) → left_to_join j r (n ∷ ns) ≡ whole → Some d ≡ declared_of s a n → None ≡ join permissive j d.type → None ≡ whole
  member_apart j r n ns d whole h there e =
      none_left j r d (all_declared s a ns) e
      ∙ ap (λ o. option_and_then (in_common r (Some j)) (option_and_then (λ y. option_map (λ ys. y ∷ ys) (all_declared s a ns)) o)) there
      ∙ h

  pub member_lacks : (j : Ty) (r : Bool) (n : Name) (ns : List Name) (whole : Option Declared) → left_to_join j r (n ∷ ns) ≡ whole → None ≡ declared_of s a n → None ≡ whole
  member_lacks j r n ns whole h e = ap (λ o. option_and_then (in_common r (Some j)) (option_and_then (λ y. option_map (λ ys. y ∷ ys) (all_declared s a ns)) o)) e ∙ h

  alone : (r : Bool) → (r && true) ≡ r
  alone true = refl
  alone false = refl

  pub all_joined : (j : Ty) (r : Bool) (ns : List Name) (whole : Option Declared) → left_to_join j r ns ≡ whole → ns ≡ [] → Some (the_declared j r) ≡ whole
  all_joined j r ns whole h is = ap (λ b. Some (the_declared j b)) (sym (alone r)) ∙ ap (left_to_join j r) (sym is) ∙ h

  -- some member declares it
  abbrev pub some_declare : List Name → Bool
  some_declare ns = list_any (λ n. is_some (declared_of s a n)) ns

  pub here : (n : Name) (ns : List Name) (whole : Bool) → some_declare (n ∷ ns) ≡ whole → true ≡ is_some (declared_of s a n) → true ≡ whole
  here n ns whole h e = ap (λ b. b || some_declare ns) e ∙ h

  pub not_here : (n : Name) (ns : List Name) (whole : Bool) → some_declare (n ∷ ns) ≡ whole → false ≡ is_some (declared_of s a n) → some_declare ns ≡ whole
  not_here n ns whole h e = ap (λ b. b || some_declare ns) e ∙ h
