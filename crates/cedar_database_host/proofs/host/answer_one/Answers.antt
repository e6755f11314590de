use Rattle.std.proofs.Common.{◌≡◌, Some, ap, subst}
use Rattle.std.specs.Prelude.{option_map}
use Rattle.std.specs.String.{string_bytes}
use Rattle.cedar_expr_names.specs.Views.{uid_of}
use Rattle.cedar_expr_model.specs.Uid.{uid_text}
use Rattle.cedar_store_entities.specs.Views.{entity_seen}
use Rattle.sqlite.specs.Held.{state}
use Rattle.cedar_database_host.specs.Lookup.{body_at}
use Rattle.cedar_database_host.specs.Reading.{entity_in}
use Rattle.cedar_database_host.proofs.AnswerLemmas.{answered_with, found_under}
use Rattle.cedar_database_host.proofs.LoopLemmas.{mapped_ok}
use Rattle.cedar_database_host.proofs.host.answer_one.Goals as goal

pub returns-in-Ok-clause-answer : goal.returns-in-Ok-clause-answer
returns-in-Ok-clause-answer g c clean lookup agrees =
    let d = (state g.S.Store c.args.connection.now).now in
    let u = uid_of c.args.uid.now in
    let x = g.T.EntityReader.functions c.args.reader.now in
    let body = string_bytes c.in-Ok-Some.body in
    let e = c.in-Ok.entity in
    let same : uid_of c.in_ok-asked.asked ≡ u = (mapped_ok _ c.clone.result c.map_err.result _ _ c.in_ok-asked.asked c.map_err.ensures.cases c.in_ok-asked.was c.map_err.ensures.variant c.clone.ensures.cases).0 in
    let text : string_bytes c.in_ok-key.key ≡ uid_text u = mapped_ok _ c.format.result c.map_err-2.result _ _ c.in_ok-key.key c.map_err-2.ensures.cases c.in_ok-key.was c.map_err-2.ensures.variant c.format.ensures.ok in
    let shown : body_at d (uid_text u) ≡ Some body =
    found_under d c.as_str.result.now (string_bytes c.in_ok-key.key) (uid_text u) body (option_map string_bytes c.in-Ok-Some.field-0) (c.in-Ok-Some.ensures.body clean lookup) (ap (option_map string_bytes) c.in-Ok-Some.field-0-is) c.as_str.ensures.value text in
    let read : entity_in x u body ≡ Some (entity_seen e) = subst (λ t. entity_in x u t ≡ Some (entity_seen e)) c.as_str-in-Ok-Some.ensures.value (c.in-Ok.ensures.ok agrees) in
    answered_with x d u c.in_ok-asked.asked same body e shown read c.in-Ok.ensures.own
