-- Rows that read the characters of a text, computed.
use Rattle.std.proofs.Common.{◌≡◌, [], ◌∷◌, true, false, codes, refl}
use Rattle.std.specs.Prelude.{Some}
use Rattle.std.specs.Str.{chars}
use Rattle.std.specs.Fmt.{digits}
use Rattle.cedar_expr_model.specs.Pattern.{character, wildcard}
use Rattle.cedar_expr_model.specs.Tree.{like, unknown, entity_core}
use Rattle.cedar_store_model.specs.Operators.{says}
use Rattle.cedar_store_model.specs.Meaning.{outcome_of}
use Rattle.cedar_store_model.specs.Store.{stand_in}
use Rattle.cedar_store_model.specs.Worked.{word, world, plain}

pub alike : outcome_of world (like (word (codes "foo bar")) (character 102 ∷ wildcard ∷ wildcard ∷ character 114 ∷ [])) ≡ Some (says true)
unfolding chars
alike = refl

pub not_alike : outcome_of world (like (word (codes "a")) []) ≡ Some (says false)
unfolding chars
not_alike = refl

pub stands_in : stand_in (record { kind = plain (codes "test_entity_type"); id = codes "missing" }) ≡ unknown (codes "test_entity_type::\"missing\"") (Some (entity_core (plain (codes "test_entity_type"))))
unfolding chars digits
stands_in = refl
