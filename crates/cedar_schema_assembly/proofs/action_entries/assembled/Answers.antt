use Rattle.std.proofs.Common.{rules, arith, ◌≡◌, [], ◌∷◌, length, map, sym, ap, ◌∙◌, inl, inr, ⊎_elim}
use Rattle.std.proofs.lemmas.List.{map-append, nil_from_length}
use Rattle.std.specs.Iterator.Adapters.{zip_first, zip_second}
use Rattle.std.specs.Slice.Iter.{iter_rest}
use Rattle.std.specs.Vec.Iter.{into_iter_items, into_iter_len}
use Rattle.cedar_expr_names.specs.Views.{uid_of}
use Rattle.cedar_schema_decl.proofs.Gathered.{handed}
use Rattle.cedar_schema_entries.specs.Views.{action_seen}
use Rattle.cedar_schema_resolver.proofs.Places.{at_in}
use Rattle.cedar_schema_resolver.specs.Meanings.{setting_of}
use Rattle.cedar_schema_assembly.specs.Lists.{sets_seen}
use Rattle.cedar_schema_assembly.specs.Made.{IsActionMade}
use Rattle.cedar_schema_assembly.specs.Refusals.{TellsActions}
use Rattle.cedar_schema_assembly.specs.Seen.{action_under_uid, actions_seen}
use Rattle.cedar_schema_assembly.proofs.Below.{actions_even, action_below}
use Rattle.cedar_schema_assembly.proofs.Making.{none_made, one_made, all_made, pair_here}
use Rattle.cedar_schema_assembly.proofs.Telling.{action_tells}
use Rattle.cedar_schema_assembly.proofs.action_entries.assembled.Goals as goal

pub loop-entry-init : goal.loop-entry-init
loop-entry-init c =
    let es = actions_seen c.args.declared.now in
    let bs = sets_seen uid_of c.args.below.items in
    let first : iter_rest (zip_first c.into_iter-entry-iterator.result) ≡ c.args.declared.now = search rules in
    let second : into_iter_items (zip_second c.into_iter-entry-iterator.result) ≡ c.args.below.items = search rules in
    let long : into_iter_len (zip_second c.into_iter-entry-iterator.result) ≡ length c.args.below.items = search rules in
    record {
      made = none_made (IsActionMade (setting_of c.args.resolver.now)) es bs (actions_even es bs c.requires) _ _ (ap actions_seen first) (ap (sets_seen uid_of) second) _ (ap (map action_seen) c.in_ok-actions.ensures.items);
      full = long ∙ ap length (sym second);
    }

pub loop-entry-preserved : goal.loop-entry-preserved
loop-entry-preserved c =
    let es = actions_seen c.args.declared.now in
    let bs = sets_seen uid_of c.args.below.items in
    let t = c.in_ok-action.field-0 in
    record {
      made = one_made (IsActionMade (setting_of c.args.resolver.now)) es bs
          (actions_seen (iter_rest (zip_first c.loop-entry.entry-iterator))) (actions_seen (iter_rest (zip_first c.next.new.self)))
          (sets_seen uid_of (into_iter_items (zip_second c.loop-entry.entry-iterator))) (sets_seen uid_of (into_iter_items (zip_second c.next.new.self)))
          (map action_seen c.loop-entry.actions.items) (map action_seen c.push.new.self.items)
          (action_under_uid c.in-Some.entry.now) (map uid_of c.in-Some.uids.keys) (action_seen t)
          (ap actions_seen c.in-Some.ensures.steps.0) (ap (sets_seen uid_of) c.in-Some.ensures.steps.1.0)
          (ap (map action_seen) c.in_ok-push.ensures.items ∙ map-append action_seen c.loop-entry.actions.items (t ∷ []))
          c.in_ok-action.ensures.made c.loop-entry.invariant.made;
      full = let a = c.in-Some.ensures.steps.1.1 in let b = ap length c.in-Some.ensures.steps.1.0 in let f = c.loop-entry.invariant.full in omega (arith, a, b, f);
    }

pub returns-in_err-action-clause-refused : goal.returns-in_err-action-clause-refused
returns-in_err-action-clause-refused c =
    let s = setting_of c.args.resolver.now in
    let es = actions_seen c.args.declared.now in
    let bs = sets_seen uid_of c.args.below.items in
    let e = action_under_uid c.in-Some.entry.now in
    let b = map uid_of c.in-Some.uids.keys in
    let p = pair_here (IsActionMade s) es bs
    (actions_seen (iter_rest (zip_first c.loop-entry.entry-iterator))) (actions_seen (iter_rest (zip_first c.next.new.self)))
    (sets_seen uid_of (into_iter_items (zip_second c.loop-entry.entry-iterator))) (sets_seen uid_of (into_iter_items (zip_second c.next.new.self)))
    (map action_seen c.loop-entry.actions.items) e b
    (ap actions_seen c.in-Some.ensures.steps.0) (ap (sets_seen uid_of) c.in-Some.ensures.steps.1.0) c.loop-entry.invariant.made in
    handed (TellsActions s es) c.in_err-action.field-0.0 c.from_residual-in_err-action.result c.from_residual-in_err-action.ensures.1
    (action_tells es s e b c.in_err-action.field-0.0 (at_in es p.0 e p.1) (λ h. ((action_below es bs c.requires p.0 e b p.1 p.2 c.descent_is_the_schemas.ensures.actions s [] e.0).0 h).1) c.in_err-action.ensures.refused)

pub returns-clause-made : goal.returns-clause-made
returns-clause-made c =
    let es = actions_seen c.args.declared.now in
    let bs = sets_seen uid_of c.args.below.items in
    all_made (IsActionMade (setting_of c.args.resolver.now)) es bs
    (actions_seen (iter_rest (zip_first c.loop-entry.entry-iterator))) (sets_seen uid_of (into_iter_items (zip_second c.loop-entry.entry-iterator)))
    (map action_seen c.loop-entry.actions.items)
    (⊎_elim (λ a. inl (ap actions_seen (nil_from_length (iter_rest (zip_first c.loop-entry.entry-iterator)) a.1.0))) (λ b. inr (ap (sets_seen uid_of) (nil_from_length (into_iter_items (zip_second c.loop-entry.entry-iterator)) (sym c.loop-entry.invariant.full ∙ b.1.0)))) c.in-None.ensures.steps)
    c.loop-entry.invariant.made
