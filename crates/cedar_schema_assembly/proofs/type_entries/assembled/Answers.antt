use Rattle.std.proofs.Common.{rules, arith, ◌≡◌, [], ◌∷◌, length, map, sym, ap, ◌∙◌, inl, inr, ⊎_elim}
use Rattle.std.proofs.lemmas.List.{map-append, nil_from_length}
use Rattle.std.specs.Iterator.Adapters.{zip_first, zip_second}
use Rattle.std.specs.Slice.Iter.{iter_rest}
use Rattle.std.specs.Vec.Iter.{into_iter_items, into_iter_len}
use Rattle.cedar_expr_names.specs.Views.{name_of}
use Rattle.cedar_schema_decl.proofs.Gathered.{handed}
use Rattle.cedar_schema_entries.specs.Views.{entity_type_seen}
use Rattle.cedar_schema_resolver.proofs.Places.{at_in}
use Rattle.cedar_schema_resolver.specs.Meanings.{setting_of}
use Rattle.cedar_schema_assembly.specs.Lists.{sets_seen}
use Rattle.cedar_schema_assembly.specs.Made.{IsTypeMade}
use Rattle.cedar_schema_assembly.specs.Refusals.{TellsTypes}
use Rattle.cedar_schema_assembly.specs.Seen.{type_seen, types_seen}
use Rattle.cedar_schema_assembly.proofs.Below.{types_even, named_below}
use Rattle.cedar_schema_assembly.proofs.Making.{none_made, one_made, all_made, pair_here}
use Rattle.cedar_schema_assembly.proofs.Telling.{type_tells}
use Rattle.cedar_schema_assembly.proofs.type_entries.assembled.Goals as goal

pub loop-entry-init : goal.loop-entry-init
loop-entry-init c =
    let es = types_seen c.args.declared.now in
    let bs = sets_seen name_of c.args.below.items in
    let first : iter_rest (zip_first c.into_iter-entry-iterator.result) ≡ c.args.declared.now = search rules in
    let second : into_iter_items (zip_second c.into_iter-entry-iterator.result) ≡ c.args.below.items = search rules in
    let long : into_iter_len (zip_second c.into_iter-entry-iterator.result) ≡ length c.args.below.items = search rules in
    record {
      made = none_made (IsTypeMade (setting_of c.args.resolver.now)) es bs (types_even es bs c.requires) _ _ (ap types_seen first) (ap (sets_seen name_of) second) _ (ap (map entity_type_seen) c.in_ok-entity_types.ensures.items);
      full = long ∙ ap length (sym second);
    }

pub loop-entry-preserved : goal.loop-entry-preserved
loop-entry-preserved c =
    let es = types_seen c.args.declared.now in
    let bs = sets_seen name_of c.args.below.items in
    let t = c.in_ok-entity_type.field-0 in
    record {
      made = one_made (IsTypeMade (setting_of c.args.resolver.now)) es bs
          (types_seen (iter_rest (zip_first c.loop-entry.entry-iterator))) (types_seen (iter_rest (zip_first c.next.new.self)))
          (sets_seen name_of (into_iter_items (zip_second c.loop-entry.entry-iterator))) (sets_seen name_of (into_iter_items (zip_second c.next.new.self)))
          (map entity_type_seen c.loop-entry.entity_types.items) (map entity_type_seen c.push.new.self.items)
          (type_seen c.in-Some.entry.now) (map name_of c.in-Some.names.keys) (entity_type_seen t)
          (ap types_seen c.in-Some.ensures.steps.0) (ap (sets_seen name_of) c.in-Some.ensures.steps.1.0)
          (ap (map entity_type_seen) c.in_ok-push.ensures.items ∙ map-append entity_type_seen c.loop-entry.entity_types.items (t ∷ []))
          c.in_ok-entity_type.ensures.made c.loop-entry.invariant.made;
      full = let a = c.in-Some.ensures.steps.1.1 in let b = ap length c.in-Some.ensures.steps.1.0 in let f = c.loop-entry.invariant.full in omega (arith, a, b, f);
    }

pub returns-in_err-entity_type-clause-refused : goal.returns-in_err-entity_type-clause-refused
returns-in_err-entity_type-clause-refused c =
    let s = setting_of c.args.resolver.now in
    let es = types_seen c.args.declared.now in
    let bs = sets_seen name_of c.args.below.items in
    let e = type_seen c.in-Some.entry.now in
    let b = map name_of c.in-Some.names.keys in
    let p = pair_here (IsTypeMade s) es bs
    (types_seen (iter_rest (zip_first c.loop-entry.entry-iterator))) (types_seen (iter_rest (zip_first c.next.new.self)))
    (sets_seen name_of (into_iter_items (zip_second c.loop-entry.entry-iterator))) (sets_seen name_of (into_iter_items (zip_second c.next.new.self)))
    (map entity_type_seen c.loop-entry.entity_types.items) e b
    (ap types_seen c.in-Some.ensures.steps.0) (ap (sets_seen name_of) c.in-Some.ensures.steps.1.0) c.loop-entry.invariant.made in
    handed (TellsTypes s es) c.in_err-entity_type.field-0.0 c.from_residual-in_err-entity_type.result c.from_residual-in_err-entity_type.ensures.1
    (type_tells s es e b c.in_err-entity_type.field-0.0 (at_in es p.0 e p.1) (named_below es bs c.requires p.0 e b p.1 p.2) c.in_err-entity_type.ensures.refused)

pub returns-clause-made : goal.returns-clause-made
returns-clause-made c =
    let es = types_seen c.args.declared.now in
    let bs = sets_seen name_of c.args.below.items in
    all_made (IsTypeMade (setting_of c.args.resolver.now)) es bs
    (types_seen (iter_rest (zip_first c.loop-entry.entry-iterator))) (sets_seen name_of (into_iter_items (zip_second c.loop-entry.entry-iterator)))
    (map entity_type_seen c.loop-entry.entity_types.items)
    (⊎_elim (λ a. inl (ap types_seen (nil_from_length (iter_rest (zip_first c.loop-entry.entry-iterator)) a.1.0))) (λ b. inr (ap (sets_seen name_of) (nil_from_length (into_iter_items (zip_second c.loop-entry.entry-iterator)) (sym c.loop-entry.invariant.full ∙ b.1.0)))) c.in-None.ensures.steps)
    c.loop-entry.invariant.made
