-- How long the walk along a text and a pattern is at most, and its turns where what is left is known by equations.
use Rattle.std.proofs.Common.{◌≡◌, ℕ, suc, ◌+◌, ◌*◌, ◌≤◌, Bool, true, false, List, [], ◌∷◌, length, Option, Some, None, refl, ap, subst, arith}
use Rattle.std.specs.List.{list_all}
use Rattle.std.specs.Str.{chars}
use Rattle.cedar_expr_model.specs.Pattern.{Pattern, character, wildcard, matches}
use Rattle.cedar_expr_leaves.specs.declared.pattern.PatternElem.{PatternElem}
use Rattle.cedar_expr_leaves.specs.declared.pattern.PatternElem.TheVariants.{Char, Wildcard}
use Rattle.cedar_expr_leaves.specs.declared.matching.Retry.{Retry}
use Rattle.cedar_expr_leaves.specs.Patterns.{elements_of}
use Rattle.cedar_expr_leaves.specs.Turns.{matches_later}
use Rattle.cedar_expr_leaves.proofs.Walking.{Walks, takes, skips}

-- from where the last wildcard is tried, and what follows it
abbrev pub from_of : List ℕ → Option Retry → List ℕ
from_of text None = chars text
from_of text (Some r) = chars r.from.now

abbrev pub tail_of : Option Retry → Pattern
tail_of None = []
tail_of (Some r) = elements_of r.elems.now

-- What is left is no longer than where it began.
pub record Bounds (pattern p : Pattern) (cs : List ℕ) (from : List ℕ) (tail : Pattern) : Type 0 where
  pub elems : length p ≤ length pattern
  pub tail_fits : length tail ≤ length pattern
  pub rest : length cs ≤ length from

-- How many turns are left at most: n(m + 1) + m where the walk begins, and more than m at each of its turns.
abbrev pub turns : Pattern → Pattern → List ℕ → ℕ
turns pattern p from = length from * (length pattern + 1) + length p

-- the turns, where elements and text are known by equations
module _ (whole : Bool) (pattern p others : Pattern) (c : ℕ) (cs after : List ℕ) (back : Bool) (from : List ℕ) (tail : Pattern) where
  pub walk_taken : p ≡ character c ∷ others → cs ≡ c ∷ after → Walks whole p cs back → Walks whole others after back
  walk_taken e f w = takes whole c others after back (subst (λ ds. Walks whole (character c ∷ others) ds back) f (subst (λ q. Walks whole q cs back) e w))

  pub bounds_taken : p ≡ character c ∷ others → cs ≡ c ∷ after → Bounds pattern p cs from tail → Bounds pattern others after from tail
  bounds_taken e f b =
      let m : length p ≡ suc (length others) = ap length e in
      let n : length cs ≡ suc (length after) = ap length f in
      record { elems = omega (arith, b.elems); tail_fits = b.tail_fits; rest = omega (arith, b.rest) }

  pub walk_skipped : p ≡ wildcard ∷ others → Walks whole p cs back → Walks whole others cs (matches_later others cs)
  walk_skipped e w = skips whole others cs back (subst (λ q. Walks whole q cs back) e w)

  pub bounds_skipped : p ≡ wildcard ∷ others → Bounds pattern p cs from tail → Bounds pattern others cs cs others
  bounds_skipped e b =
      let m : length p ≡ suc (length others) = ap length e in
      let k : length others ≤ length pattern = omega (arith, b.elems) in
      record { elems = k; tail_fits = k; rest = omega arith }

-- only wildcards match a text that has ended
abbrev pub is_wildcard : PatternElem → Bool
is_wildcard (Char c) = false
is_wildcard Wildcard = true

pub at_end : (es : List PatternElem) → matches (elements_of es) [] ≡ list_all is_wildcard es
at_end [] = refl
at_end (Char c ∷ es) = refl
at_end (Wildcard ∷ es) = at_end es
