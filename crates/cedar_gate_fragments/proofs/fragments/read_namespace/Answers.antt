use Rattle.std.proofs.Common.{◌≡◌, rules, true, codes, [], ◌∷◌, Some, ap, sym, ◌∙◌}
use Rattle.serde_json.specs.View.{view}
use Rattle.cedar_gate_model.specs.Reading.{has_only}
use Rattle.cedar_gate_fragments.specs.Written.{space_seen, definition_seen}
use Rattle.cedar_gate_fragments.proofs.Together.{namespace_made, fragment_made}
use Rattle.cedar_gate_fragments.proofs.fragments.read_namespace.Goals as goal

pub returns-clause-ok : goal.returns-clause-ok
returns-clause-ok c =
    let space = c.in_ok-space.space in
    let definition = c.in_ok-definition.definition in
    let h : has_only (codes "commonTypes" ∷ codes "entityTypes" ∷ codes "actions" ∷ []) (view c.args.value.now) ≡ true = search rules in
    let put : c.insert.new.self.entries ≡ (space, definition) ∷ [] = search rules in
    namespace_made c.args.key.now (view c.args.value.now) (space_seen space) (definition_seen definition) h c.in_ok-space.ensures.ok c.in_ok-definition.ensures.ok
    ∙ ap Some (sym (fragment_made (record { 0 = c.insert.new.self }) space definition put))
