-- The sets of what descends from each declaration, by the schema that they tell.
use Rattle.std.proofs.Common.{◌≡◌, ℕ, zero, suc, List, [], ◌∷◌, map, length, get_or, refl, sym, ap, ◌∙◌, subst, arith}
use Rattle.std.proofs.lemmas.List.{length-map}
use Rattle.std.specs.Prelude.{◌↔◌, Contains}
use Rattle.cedar_expr_model.specs.Name.{Name}
use Rattle.cedar_expr_model.specs.Uid.{Uid}
use Rattle.cedar_schema_fragments.specs.WrittenDeclarations.{parents_written, as_uid}
use Rattle.cedar_schema_model.specs.Descent.{Reaches, type_names, action_uids, Descends, ActionDescends}
use Rattle.cedar_schema_resolver.specs.Descent.{HasParentIn, nodes_in, AreDescendants}
use Rattle.cedar_schema_resolver.specs.HierarchyLaws.{types_with_parents, actions_with_parents, TypesDescendSo, ActionsDescendSo}
use Rattle.cedar_schema_resolver.specs.Numbers.{IsAt}
use Rattle.cedar_schema_resolver.proofs.Places.{at_map}
use Rattle.cedar_schema_resolver.specs.Meanings.{Setting}
use Rattle.cedar_schema_assembly.specs.Told.{schema_told}
use Rattle.cedar_schema_assembly.specs.Seen.{WrittenType, WrittenAction, names_written, uids_written, types_above, actions_above}
use Rattle.cedar_schema_assembly.proofs.Telling.{Within}

-- an item of a place, whatever stands for none
at_get : {X : Type 0} (xs : List X) (i : ℕ) (x d : X) → IsAt xs i x → get_or xs i d ≡ x
at_get [] i x d h = let l = h.0 in absurd (omega (arith, l))
at_get (y ∷ ys) zero x d h = h.1
at_get (y ∷ ys) (suc i) x d h = let l = h.0 in at_get ys i x d (omega (arith, l), h.1)

module _ {S : Type 0} (ts : List (S × List S)) (sets : List (List S)) (d : AreDescendants ts sets) (i : ℕ) (n : S) (b : List S) (h : IsAt (nodes_in ts) i n) (k : IsAt sets i b) where
  pub below_to : (m : S) → Contains b m → Contains (nodes_in ts) m × Reaches (HasParentIn ts) m n
  below_to m c = d.only i m n h (subst (λ x. Contains x m) (sym (at_get sets i b [] k)) c)

  pub below_from : (m : S) → Contains (nodes_in ts) m → Reaches (HasParentIn ts) m n → Contains b m
  below_from m c r = subst (λ x. Contains x m) (at_get sets i b [] k) (d.all i m n h c r)

-- of entity types
types_nodes : (es : List WrittenType) → nodes_in (types_above es) ≡ names_written es
types_nodes [] = refl
types_nodes (e ∷ es) = ap (λ ns. e.0 ∷ ns) (types_nodes es)

module _ (s : Setting) (as_ : List WrittenAction) where
  pub same_names : (es : List WrittenType) → type_names (schema_told s es as_) ≡ names_written es
  same_names [] = refl
  same_names (e ∷ es) = ap (λ ns. e.0 ∷ ns) (same_names es)

  same_lines : (es : List WrittenType) → types_with_parents (schema_told s es as_) ≡ types_above es
  same_lines [] = refl
  same_lines (e ∷ es) = ap (λ ns. (e.0, parents_written e.1) ∷ ns) (same_lines es)

module _ (es : List WrittenType) (bs : List (List Name)) (d : AreDescendants (types_above es) bs) where
  pub types_even : length es ≡ length bs
  types_even = sym (length-map es (λ e. (e.0, parents_written e.1))) ∙ sym d.size

  module _ (i : ℕ) (e : WrittenType) (b : List Name) (h : IsAt es i e) (k : IsAt bs i b) where
    node : IsAt (nodes_in (types_above es)) i e.0
    node = subst (λ ns. IsAt ns i e.0) (sym (types_nodes es)) (at_map (λ (e : WrittenType). e.0) es i e h)

    pub named_below : Within b (names_written es)
    named_below m c = subst (λ ns. Contains ns m) (types_nodes es) (below_to (types_above es) bs d i e.0 b node k m c).0

    pub type_below : TypesDescendSo → (s : Setting) (as_ : List WrittenAction) (m : Name) → Contains b m ↔ (Contains (type_names (schema_told s es as_)) m × Descends (schema_told s es as_) m e.0)
    type_below law s as_ m = (
      (λ c.
          let r = below_to (types_above es) bs d i e.0 b node k m c in
          (subst (λ ns. Contains ns m) (types_nodes es ∙ sym (same_names s as_ es)) r.0, (law (schema_told s es as_) m e.0).0 (subst (λ ts. Reaches (HasParentIn ts) m e.0) (sym (same_lines s as_ es)) r.1))),
      λ p.
          below_from (types_above es) bs d i e.0 b node k m
          (subst (λ ns. Contains ns m) (same_names s as_ es ∙ sym (types_nodes es)) p.0)
          (subst (λ ts. Reaches (HasParentIn ts) m e.0) (same_lines s as_ es) ((law (schema_told s es as_) m e.0).1 p.1)),
    )

-- of actions
actions_nodes : (as_ : List WrittenAction) → nodes_in (actions_above as_) ≡ uids_written as_
actions_nodes [] = refl
actions_nodes (a ∷ as_) = ap (λ us. a.0 ∷ us) (actions_nodes as_)

module _ (s : Setting) (es : List WrittenType) where
  pub same_uids : (as_ : List WrittenAction) → action_uids (schema_told s es as_) ≡ uids_written as_
  same_uids [] = refl
  same_uids (a ∷ as_) = ap (λ us. a.0 ∷ us) (same_uids as_)

  same_action_lines : (as_ : List WrittenAction) → actions_with_parents (schema_told s es as_) ≡ actions_above as_
  same_action_lines [] = refl
  same_action_lines (a ∷ as_) = ap (λ us. (a.0, map as_uid a.1.parents) ∷ us) (same_action_lines as_)

module _ (as_ : List WrittenAction) (bs : List (List Uid)) (d : AreDescendants (actions_above as_) bs) where
  pub actions_even : length as_ ≡ length bs
  actions_even = sym (length-map as_ (λ a. (a.0, map as_uid a.1.parents))) ∙ sym d.size

  module _ (i : ℕ) (a : WrittenAction) (b : List Uid) (h : IsAt as_ i a) (k : IsAt bs i b) where
    action_node : IsAt (nodes_in (actions_above as_)) i a.0
    action_node = subst (λ us. IsAt us i a.0) (sym (actions_nodes as_)) (at_map (λ (a : WrittenAction). a.0) as_ i a h)

    pub action_below : ActionsDescendSo → (s : Setting) (es : List WrittenType) (u : Uid) → Contains b u ↔ (Contains (action_uids (schema_told s es as_)) u × ActionDescends (schema_told s es as_) u a.0)
    action_below law s es u = (
      (λ c.
          let r = below_to (actions_above as_) bs d i a.0 b action_node k u c in
          (subst (λ us. Contains us u) (actions_nodes as_ ∙ sym (same_uids s es as_)) r.0, (law (schema_told s es as_) u a.0).0 (subst (λ ts. Reaches (HasParentIn ts) u a.0) (sym (same_action_lines s es as_)) r.1))),
      λ p.
          below_from (actions_above as_) bs d i a.0 b action_node k u
          (subst (λ us. Contains us u) (same_uids s es as_ ∙ sym (actions_nodes as_)) p.0)
          (subst (λ ts. Reaches (HasParentIn ts) u a.0) (same_action_lines s es as_) ((law (schema_told s es as_) u a.0).1 p.1)),
    )
