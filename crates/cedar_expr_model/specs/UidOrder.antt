-- The order of names and uids.
-- Rule: the uid text and its escape (docs/RULES.md).
use Rattle.std.specs.Prelude.{◌&&◌, List, [], ◌∷◌, Bool, true}
use Rattle.std.specs.Ordering.{nat_cmp, ordering_then, is_lt}
use Rattle.std.specs.Cmp.Lexicographic.{slice_cmp}
use Rattle.std.specs.declared.cmp.Ordering.{Ordering}
use Rattle.cedar_expr_model.specs.Name.{Name, name_text}
use Rattle.cedar_expr_model.specs.Uid.{Uid}

-- names by their texts, in byte order
abbrev pub name_cmp : Name → Name → Ordering
name_cmp m n = slice_cmp nat_cmp (name_text m) (name_text n)

-- uids by the texts of their types and then by their ids, in byte order
abbrev pub uid_cmp : Uid → Uid → Ordering
uid_cmp u v = ordering_then (name_cmp u.kind v.kind) (slice_cmp nat_cmp u.id v.id)

-- each uid stands before the next, so none is repeated
abbrev pub are_rising : List Uid → Bool
are_rising [] = true
are_rising (u ∷ []) = true
are_rising (u ∷ v ∷ us) = is_lt (uid_cmp u v) && are_rising (v ∷ us)
