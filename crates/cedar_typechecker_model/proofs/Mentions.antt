-- What a uid is mentioned by, part by part.
use Rattle.std.proofs.Common.{List, [], ◌++◌, inl, inr, ⊎_elim, ◌⊎◌}
use Rattle.std.specs.Prelude.{Contains, Option, option_to_list}
use Rattle.std.specs.Option.{option_map_or}
use Rattle.std.proofs.lemmas.List.Elements.{Contains-append_left, Contains-append_right, Contains-append_cases}
use Rattle.cedar_expr_model.specs.Name.{Text}
use Rattle.cedar_expr_model.specs.Uid.{Uid}
use Rattle.cedar_expr_model.specs.Value.{V}
use Rattle.cedar_expr_model.specs.ValueParts.{Part, known_value}
use Rattle.cedar_expr_model.proofs.Lists.{flat_has, flat_from}
use Rattle.cedar_store_model.specs.World.{World, Found}
use Rattle.cedar_typechecker_model.specs.Slice.{mentioned, mentioned_by_parts, mentioned_by_found, roots}

-- what a part mentions
abbrev pub mentioned_by_part : Part V → List Uid
mentioned_by_part p = option_map_or mentioned (known_value p) []

abbrev pub PartMentions : Part V → Uid → Type 0
PartMentions p u = Contains (mentioned_by_part p) u

abbrev pub PartsMention : List (Text × Part V) → Uid → Type 0
PartsMention ps u = Contains (mentioned_by_parts ps) u

abbrev pub FoundMentions : Found V → Uid → Type 0
FoundMentions f u = Contains (mentioned_by_found f) u

-- what is known, and what the context mentions
abbrev pub IsKnown : Option Uid → Uid → Type 0
IsKnown o u = Contains (option_to_list o) u

abbrev pub ContextMentions : Option V → Uid → Type 0
ContextMentions o u = Contains (option_map_or mentioned o []) u

abbrev pub IsRoot : World → Uid → Type 0
IsRoot w u = Contains (roots w) u

-- the part that mentions it
pub mentioning : (ps : List (Text × Part V)) (u : Uid) → PartsMention ps u → (p : Text × Part V) × Contains ps p × PartMentions p.1 u
mentioning ps u h = flat_from (λ (p : Text × Part V). mentioned_by_part p.1) ps u h

pub mentioned_there : (ps : List (Text × Part V)) (p : Text × Part V) (u : Uid) → Contains ps p → PartMentions p.1 u → PartsMention ps u
mentioned_there ps p u k h = flat_has (λ (p : Text × Part V). mentioned_by_part p.1) ps p u k h

-- a root is the principal, the resource, or mentioned by the context
pub root_cases : (w : World) (u : Uid) → IsRoot w u → IsKnown w.principal u ⊎ (IsKnown w.resource u ⊎ ContextMentions w.context u)
root_cases w u h =
    ⊎_elim (λ k. inl k) (λ k. inr (Contains-append_cases (option_to_list w.resource) (option_map_or mentioned w.context []) u k))
    (Contains-append_cases (option_to_list w.principal) (option_to_list w.resource ++ option_map_or mentioned w.context []) u h)

pub root_from : (w : World) (u : Uid) → IsKnown w.principal u ⊎ (IsKnown w.resource u ⊎ ContextMentions w.context u) → IsRoot w u
root_from w u h =
    ⊎_elim (Contains-append_left (option_to_list w.principal) (option_to_list w.resource ++ option_map_or mentioned w.context []) u)
    (λ k. Contains-append_right (option_to_list w.principal) (option_to_list w.resource ++ option_map_or mentioned w.context []) u
    (⊎_elim (Contains-append_left (option_to_list w.resource) (option_map_or mentioned w.context []) u) (Contains-append_right (option_to_list w.resource) (option_map_or mentioned w.context []) u) k))
    h
