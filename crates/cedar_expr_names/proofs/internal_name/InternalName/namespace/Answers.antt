-- The path of a name that has a namespace ends with the namespace's base.
use Rattle.std.proofs.Common.{◌≡◌, ◌+◌, ◌-◌, ◌≤◌, ◌<◌, List, [], ◌∷◌, ◌++◌, length, take, map, get_or, sym, ap, ◌∙◌, arith, rules}
use Rattle.std.proofs.lemmas.List.{take_more, take_all, map-append}
use Rattle.cedar_expr_model.specs.Name.{joined, name_of_parts}
use Rattle.cedar_expr_model.proofs.Reading.{name_of_all}
use Rattle.cedar_expr_names.specs.declared.id.Id.{Id}
use Rattle.cedar_expr_names.specs.Parts.{id_text}
use Rattle.cedar_expr_names.specs.Namespaces.{optional_text}
use Rattle.cedar_expr_names.proofs.internal_name.InternalName.namespace.Goals as goal

before_last : (ids : List Id) (x : Id) → 1 ≤ length ids → x ≡ get_or ids (length ids - 1) x → ids ≡ take (length ids - 1) ids ++ x ∷ []
before_last ids x h e =
    let n = length ids - 1 in
    let l : n < length ids = omega (arith, h) in
    let all : take (n + 1) ids ≡ ids = take_all (n + 1) ids (omega (arith, h)) in
    sym all ∙ take_more ids n x l ∙ ap (λ y. take n ids ++ y ∷ []) (sym e)

namespace_is : (ids : List Id) (x : Id) → 1 ≤ length ids → x ≡ get_or ids (length ids - 1) x → joined (map id_text (take (length ids - 1) ids)) (id_text x) ≡ optional_text (name_of_parts [] (map id_text ids))
namespace_is ids x h e =
    let front = take (length ids - 1) ids in
    let parts : map id_text ids ≡ map id_text front ++ id_text x ∷ [] = ap (map id_text) (before_last ids x h e) ∙ map-append id_text front (x ∷ []) in
    sym (ap optional_text (ap (name_of_parts []) parts ∙ name_of_all [] (map id_text front) (id_text x)))

pub returns-in-len1-up : goal.returns-in-len1-up
returns-in-len1-up c =
    let ids = c.as_slice.result.now in
    let same : ids ≡ c.args.self.now.content.value.path.items = search rules in
    let is = namespace_is ids c.base-item.result c.in-len1-up.len_at_least c.base-item.is ∙ ap (λ is. optional_text (name_of_parts [] (map id_text is))) same in
    search (rules, is)
