use Rattle.std.proofs.Common.{rules, ◌≡◌, ◌++◌, ◌∷◌, [], map, length, sym, ap, subst, ◌∙◌}
use Rattle.cedar_expr_names.specs.Views.{uid_of}
use Rattle.cedar_store_entities.specs.Places.{Leads, are_apart}
use Rattle.cedar_store_entities.proofs.Led.{led_more, apart_more, uids_more}
use Rattle.cedar_store_entities.proofs.uid_set.UidSet.put.Goals as goal

pub invariant_of-self-2 : goal.invariant_of-self-2
invariant_of-self-2 c =
    let s = c.args.self.now in
    let e : c.push_reserved.new.self.items ≡ s.uids.items ++ c.args.uid ∷ [] = c.push_reserved.ensures.items ∙ ap (λ us. us ++ c.args.uid ∷ []) c.reserve.ensures.items in
    let n : c.len.result ≡ length s.uids.items = search rules in
    record {
      led = subst (λ us. Leads c.insert.new.self.entries us) (sym e)
          (led_more s.places.entries c.insert.new.self.entries s.uids.items c.args.uid c.in_ok-key.key c.len.result c.in_ok-key.ensures.cases.0 n s.led c.requires c.in_ok-insert.ensures.updates.0);
      apart = ap (λ us. are_apart (map uid_of us)) e ∙ ap are_apart (uids_more s.uids.items c.args.uid) ∙ apart_more (map uid_of s.uids.items) (uid_of c.args.uid) s.apart c.requires;
    }
