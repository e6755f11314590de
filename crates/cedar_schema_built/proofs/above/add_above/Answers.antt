use Rattle.std.proofs.Common.{[], ◌∷◌, ◌++◌, Some, sym, ap, ◌∙◌, cond}
use Rattle.std.specs.BTreeMap.{get, is_at}
use Rattle.std.specs.Option.{option_map_or}
use Rattle.cedar_schema_built.proofs.Adding.{added, same_row, some_is}
use Rattle.cedar_schema_built.proofs.above.add_above.Goals as goal

pub returns-in-Some : goal.returns-in-Some
returns-in-Some g c =
    let row = c.push.new.self in
    let v = c.in-Some.ensures.value in
    added g.K.Ord.cmp g.met.K.Ord.total (get g.K.Ord.cmp c.args.above.now) (get g.K.Ord.cmp (c.get_mut.follows.lender row)) c.args.key c.args.ancestor row
    ((c.get_mut.follows.holds row).3 (some_is _ _ (sym v))).0
    (c.in_ok-push.ensures.items ∙ ap (λ o. option_map_or (λ r. r.items) o [] ++ c.args.ancestor ∷ []) v)
    (same_row g.K.Ord.cmp g.met.K.Ord.total c.args.above.now.entries)

pub returns : goal.returns
returns g c =
    let same = c.get_mut.follows.holds-at-none in
    let v = c.in_default.ensures.value in
    added g.K.Ord.cmp g.met.K.Ord.total (get g.K.Ord.cmp c.args.above.now) (get g.K.Ord.cmp c.insert.new.self) c.args.key c.args.ancestor c.push-2.new.self
    (λ q. c.in_ok-insert.ensures.updates.0 q ∙ ap (λ n. cond (is_at (g.K.Ord.cmp c.args.key) q) (Some c.push-2.new.self) (get g.K.Ord.cmp n q)) same)
    (c.in_ok-push-2.ensures.items ∙ ap (λ us. us ++ c.args.ancestor ∷ []) (c.new-row.ensures.items ∙ ap (λ o. option_map_or (λ r. r.items) o []) v))
    (same_row g.K.Ord.cmp g.met.K.Ord.total c.args.above.now.entries)
