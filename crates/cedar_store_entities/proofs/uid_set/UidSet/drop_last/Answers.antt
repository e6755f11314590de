use Rattle.std.proofs.Common.{rules, ◌≡◌, ◌++◌, ◌∷◌, [], map, sym, ap, subst, ◌∙◌}
use Rattle.cedar_expr_names.specs.Views.{uid_of}
use Rattle.cedar_store_entities.specs.Places.{Leads, are_apart}
use Rattle.cedar_store_entities.proofs.Led.{led_less, apart_less, uids_more}
use Rattle.cedar_store_entities.proofs.uid_set.UidSet.drop_last.Goals as goal

pub invariant_of-self : goal.invariant_of-self
invariant_of-self c =
    let s = c.args.self.now in
    let us = c.pop.new.self.items in
    let u = c.in-Some.uid in
    let e : s.uids.items ≡ us ++ u ∷ [] = search rules in
    let less = apart_less (map uid_of us) (uid_of u) (ap are_apart (sym (uids_more us u)) ∙ ap (λ vs. are_apart (map uid_of vs)) (sym e) ∙ s.apart) in
    record { led = led_less s.places.entries c.remove.new.self.entries us u (subst (λ vs. Leads s.places.entries vs) e s.led) less.1 c.remove.ensures.updates.0; apart = less.0 }
