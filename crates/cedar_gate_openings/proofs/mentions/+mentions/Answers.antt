use Rattle.std.proofs.Common.{◌≡◌, ◌++◌, [], OnOk, sym, ap, ◌∙◌, subst, arith}
use Rattle.std.proofs.lemmas.List.{append-nil}
use Rattle.cedar_expr_model.specs.Made as model
use Rattle.cedar_expr_values.specs.Values.{bare, bare_kind}
use Rattle.cedar_typechecker_model.specs.Slice.{mentioned}
use Rattle.cedar_gate_openings.specs.Mentions.{uids, mentioned_in}
use Rattle.cedar_gate_openings.proofs.Mentioned.{by_fields, add_one, fields_size_of}
use Rattle.cedar_gate_openings.proofs.mentions.+mentions.Goals as goal

pub add_mentioned-returns-in-Lit : goal.add_mentioned-returns-in-Lit
add_mentioned-returns-in-Lit g t c =
    subst (λ zs. OnOk c.add_literal.result (uids c.add_literal.new.to.items ≡ uids c.args.to.now.items ++ zs))
    (ap (λ k. mentioned (bare_kind g.X.ExtensionValue.seen k)) (sym c.in-Lit.is) ∙ ap (λ m. mentioned (model.bare m)) c.value_kind.ensures.value) c.add_literal.ensures

pub add_mentioned-returns-in-Record : goal.add_mentioned-returns-in-Record
add_mentioned-returns-in-Record g t c =
    subst (λ zs. OnOk c.add_mentioned_in.result (uids c.add_mentioned_in.new.to.items ≡ uids c.args.to.now.items ++ zs))
    (sym (by_fields g.X.ExtensionValue.seen c.in-Record.pairs.0 c.as_map.result.now.entries c.as_map.ensures.as_made) ∙ ap (λ k. mentioned (bare_kind g.X.ExtensionValue.seen k)) (sym c.in-Record.is) ∙ ap (λ m. mentioned (model.bare m)) c.value_kind.ensures.value) c.add_mentioned_in.ensures

pub add_mentioned-returns-in-Set : goal.add_mentioned-returns-in-Set
add_mentioned-returns-in-Set g t c =
    let none : mentioned (bare g.X.ExtensionValue.seen c.args.value.now) ≡ [] = sym (ap (λ k. mentioned (bare_kind g.X.ExtensionValue.seen k)) (sym c.in-Set.is) ∙ ap (λ m. mentioned (model.bare m)) c.value_kind.ensures.value) in
    sym (ap (λ zs. uids c.args.to.now.items ++ zs) none ∙ append-nil (uids c.args.to.now.items))

pub add_mentioned-returns-in-ExtensionValue : goal.add_mentioned-returns-in-ExtensionValue
add_mentioned-returns-in-ExtensionValue g t c =
    let none : mentioned (bare g.X.ExtensionValue.seen c.args.value.now) ≡ [] = sym (ap (λ k. mentioned (bare_kind g.X.ExtensionValue.seen k)) (sym c.in-ExtensionValue.is) ∙ ap (λ m. mentioned (model.bare m)) c.value_kind.ensures.value) in
    sym (ap (λ zs. uids c.args.to.now.items ++ zs) none ∙ append-nil (uids c.args.to.now.items))

pub add_mentioned_in-loop-name-preserved : goal.add_mentioned_in-loop-name-preserved
add_mentioned_in-loop-name-preserved g t c =
    record {
      added = add_one (uids c.loop-name.to.items) (uids c.add_mentioned.new.to.items) _ (mentioned (bare g.X.ExtensionValue.seen c.in-Some.value.now)) (mentioned_in g.X.ExtensionValue.seen c.next.new.self)
          (ap (λ es. uids c.loop-name.to.items ++ mentioned_in g.X.ExtensionValue.seen es) (sym c.in-Some.ensures.steps) ∙ c.loop-name.invariant.added) c.in_ok-add_mentioned.ensures;
      within = let here = ap (fields_size_of g.X.ExtensionValue.seen) c.in-Some.ensures.steps in omega (arith, here, c.loop-name.invariant.within);
    }
