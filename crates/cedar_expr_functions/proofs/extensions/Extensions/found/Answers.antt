use Rattle.std.proofs.Common.{rules, Some, None, ap, ◌∙◌, option_map}
use Rattle.std.proofs.lemmas.Fn.{always_returns_same}
use Rattle.cedar_expr_functions.specs.Functions.{function_signature}
use Rattle.cedar_expr_functions.specs.Named.{names_compared}
use Rattle.cedar_expr_names.specs.Views.{plain_name_of}
use Rattle.cedar_expr_functions.proofs.Found.{searched, signature_found, found_answers, found_named}
use Rattle.cedar_expr_functions.proofs.extensions.Extensions.found.Goals as goal

pub returns-in-Ok-clause-found : goal.returns-in-Ok-clause-found
returns-in-Ok-clause-found g c =
    let facts = c.binary_search_by.ensures in
    let by_name = facts.position (λ f. names_compared f.now.name c.args.name.now) (always_returns_same _ _ _ (λ a r f called. (search rules, search rules))) in
    let ended = searched c.args.name.now c.args.self.now.functions.items c.deref.result.now c.binary_search_by.result c.deref.ensures.value facts.bound by_name c.args.self.now.rising in
    let here = (rw c.in-Ok.is at ended) c.index.result.now c.index.ensures in
    ap (option_map (λ f. function_signature f.now)) here ∙ signature_found (plain_name_of c.args.name.now) c.args.self.now.functions.items

pub returns-in-Ok-clause-answers : goal.returns-in-Ok-clause-answers
returns-in-Ok-clause-answers g c =
    let facts = c.binary_search_by.ensures in
    let by_name = facts.position (λ f. names_compared f.now.name c.args.name.now) (always_returns_same _ _ _ (λ a r f called. (search rules, search rules))) in
    let ended = searched c.args.name.now c.args.self.now.functions.items c.deref.result.now c.binary_search_by.result c.deref.ensures.value facts.bound by_name c.args.self.now.rising in
    let here = (rw c.in-Ok.is at ended) c.index.result.now c.index.ensures in
    found_answers c.args.self.now (plain_name_of c.args.name.now) (Some c.index.result.now) here

pub returns-in-Ok-clause-named : goal.returns-in-Ok-clause-named
returns-in-Ok-clause-named g c =
    let facts = c.binary_search_by.ensures in
    let by_name = facts.position (λ f. names_compared f.now.name c.args.name.now) (always_returns_same _ _ _ (λ a r f called. (search rules, search rules))) in
    let ended = searched c.args.name.now c.args.self.now.functions.items c.deref.result.now c.binary_search_by.result c.deref.ensures.value facts.bound by_name c.args.self.now.rising in
    let here = (rw c.in-Ok.is at ended) c.index.result.now c.index.ensures in
    found_named c.args.self.now (plain_name_of c.args.name.now) (Some c.index.result.now) here

pub returns-in-Err-clause-found : goal.returns-in-Err-clause-found
returns-in-Err-clause-found g c =
    let facts = c.binary_search_by.ensures in
    let by_name = facts.position (λ f. names_compared f.now.name c.args.name.now) (always_returns_same _ _ _ (λ a r f called. (search rules, search rules))) in
    let ended = searched c.args.name.now c.args.self.now.functions.items c.deref.result.now c.binary_search_by.result c.deref.ensures.value facts.bound by_name c.args.self.now.rising in
    let here = rw c.in-Err.is at ended in
    ap (option_map (λ f. function_signature f.now)) here ∙ signature_found (plain_name_of c.args.name.now) c.args.self.now.functions.items
