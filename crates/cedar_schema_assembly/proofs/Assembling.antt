-- What is made of all declarations is what a built schema keeps.
use Rattle.std.proofs.Common.{◌≡◌, List, [], ◌∷◌, sym, ap, ◌∙◌, subst}
use Rattle.std.specs.Prelude.{Contains}
use Rattle.cedar_expr_model.specs.Name.{Name}
use Rattle.cedar_expr_model.specs.Uid.{Uid}
use Rattle.cedar_expr_model.proofs.Lists.{map_has, map_from}
use Rattle.cedar_schema_model.specs.Kept.{KeptType, KeptAction}
use Rattle.cedar_schema_model.specs.KeptOf.{IsSameType, IsSameAction}
use Rattle.cedar_schema_model.specs.BagLaws.{HasTwice}
use Rattle.cedar_schema_model.specs.Descent.{Chain, HasActionParent, Descends, ActionDescends}
use Rattle.cedar_schema_model.specs.Schema.{Action}
use Rattle.cedar_schema_resolver.specs.Descent.{AreDescendants}
use Rattle.cedar_schema_resolver.specs.HierarchyLaws.{TypesDescendSo, ActionsDescendSo}
use Rattle.cedar_schema_resolver.proofs.Places.{at_in}
use Rattle.cedar_schema_resolver.specs.Meanings.{Setting}
use Rattle.cedar_schema_assembly.specs.Pieces.{AreTypesOf, AreActionsOf}
use Rattle.cedar_schema_assembly.specs.Told.{schema_told, entity_told, action_told}
use Rattle.cedar_schema_assembly.specs.Found.{AreTypesTold, AreActionsTold, AreTypesKnown, AreContextsKnown, AreContextsRecords, AreApart}
use Rattle.cedar_schema_assembly.specs.Lists.{StandOnce}
use Rattle.cedar_schema_assembly.specs.Made.{AreMade, IsTypeMade, IsActionMade}
use Rattle.cedar_schema_assembly.specs.Seen.{WrittenType, WrittenAction, names_written, uids_written, types_above, actions_above}
use Rattle.cedar_schema_assembly.proofs.Below.{same_names, type_below, same_uids, action_below}
use Rattle.cedar_schema_assembly.proofs.Making.{made_from, made_of}

module _ (s : Setting) (es : List WrittenType) (bs : List (List Name)) (ts : List KeptType) (m : AreMade (IsTypeMade s) es bs ts) where
  pub types_known : AreTypesKnown s.extensions es
  types_known = record { each = λ e c t k. (made_of (IsTypeMade s) es bs ts m e c).1.1.4.known.each t k }

  pub types_told : TypesDescendSo → AreDescendants (types_above es) bs → StandOnce (names_written es) → AreTypesTold s es ts
  types_told law d once = record { each = λ as_. of as_ }
    where
      of : (as_ : List WrittenAction) → AreTypesOf (schema_told s es as_) ts
      of as_ = record {
        each = λ t c. let r = made_from (IsTypeMade s) es bs ts m t c in (entity_told s r.1.0, map_has (entity_told s) es r.1.0 (at_in es r.0 r.1.0 r.1.1.1), r.1.1.3.same);
        all = λ e c. let f = map_from (entity_told s) es e c in let r = made_of (IsTypeMade s) es bs ts m f.0 f.1 in (r.0, r.1.1.1, subst (IsSameType r.0) f.2 r.1.1.4.same);
        once = λ h. once.none (subst HasTwice (same_names s as_ es) h);
        below = λ t c n.
            let r = made_from (IsTypeMade s) es bs ts m t c in
            let k = type_below es bs d r.0 r.1.0 r.1.1.0 r.1.1.1 r.1.1.2 law s as_ n in
            let here = r.1.1.3.same.name in (
              (λ h. let p = k.0 (r.1.1.3.descendants.only n h) in (p.0, subst (Descends (schema_told s es as_) n) (sym here) p.1)),
              λ p. r.1.1.3.descendants.all n (k.1 (p.0, subst (Descends (schema_told s es as_) n) here p.1)),
            );
      }

module _ (s : Setting) (as_ : List WrittenAction) (bs : List (List Uid)) (ks : List KeptAction) (m : AreMade (IsActionMade s) as_ bs ks) where
  pub contexts_known : AreContextsKnown s.extensions as_
  contexts_known = record { each = λ a c. (made_of (IsActionMade s) as_ bs ks m a c).1.1.4.known }

  pub contexts_records : AreContextsRecords s as_
  contexts_records = record { each = λ a c. (made_of (IsActionMade s) as_ bs ks m a c).1.1.4.is_record }

  module _ (law : ActionsDescendSo) (d : AreDescendants (actions_above as_) bs) where
    pub actions_told : StandOnce (uids_written as_) → AreActionsTold s as_ ks
    actions_told once = record { each = λ es. of es }
      where
        of : (es : List WrittenType) → AreActionsOf (schema_told s es as_) ks
        of es = record {
          each = λ k c. let r = made_from (IsActionMade s) as_ bs ks m k c in (action_told s r.1.0, map_has (action_told s) as_ r.1.0 (at_in as_ r.0 r.1.0 r.1.1.1), r.1.1.3.same);
          all = λ b c. let f = map_from (action_told s) as_ b c in let r = made_of (IsActionMade s) as_ bs ks m f.0 f.1 in (r.0, r.1.1.1, subst (IsSameAction r.0) f.2 r.1.1.4.same);
          once = λ h. once.none (subst HasTwice (same_uids s es as_) h);
          below = λ k c u.
              let r = made_from (IsActionMade s) as_ bs ks m k c in
              let w = action_below as_ bs d r.0 r.1.0 r.1.1.0 r.1.1.1 r.1.1.2 law s es u in
              let here = r.1.1.3.same.uid in (
                (λ h. let p = w.0 (r.1.1.3.descendants.only u h) in (p.0, subst (ActionDescends (schema_told s es as_) u) (sym here) p.1)),
                λ p. r.1.1.3.descendants.all u (w.1 (p.0, subst (ActionDescends (schema_told s es as_) u) here p.1)),
              );
        }

    -- one that descends from itself has a parent, and so is declared
    first_step : (es : List WrittenType) (u : Uid) (zs : List Uid) (v : Uid) → Chain (HasActionParent (schema_told s es as_)) u zs v → (a : WrittenAction) × Contains as_ a × (a.0 ≡ u)
    first_step es u [] v c = let f = map_from (action_told s) as_ c.0 c.1 in (f.0, f.1, ap (λ (b : Action). b.uid) f.2 ∙ sym c.2)
    first_step es u (z ∷ zs) v c = let f = map_from (action_told s) as_ c.0.0 c.0.1 in (f.0, f.1, ap (λ (b : Action). b.uid) f.2 ∙ sym c.0.2)

    pub actions_apart : AreApart s as_
    actions_apart = record {
      none = λ es u h.
          let a = first_step es u h.0 u h.1 in
          let r = made_of (IsActionMade s) as_ bs ks m a.0 a.1 in
          let w = action_below as_ bs d r.1.0 a.0 r.1.1.0 r.1.1.2 r.1.1.3 law s es a.0.0 in
          r.1.1.4.apart (w.1 (
            subst (λ us. Contains us a.0.0) (sym (same_uids s es as_)) (map_has (λ (a : WrittenAction). a.0) as_ a.0 a.1),
            subst (λ v. ActionDescends (schema_told s es as_) v v) (sym a.2) h,
          ));
    }
