-- Where the walk along a text and a pattern stands, and that each of its turns keeps what is known there.
use Rattle.std.proofs.Common.{◌≡◌, ℕ, Bool, true, false, ◌&&◌, ◌||◌, ◌==◌, List, [], ◌∷◌, refl, ap, ◌∙◌}
use Rattle.std.proofs.lemmas.Bool.Decides.{Decides-eqb}
use Rattle.cedar_expr_model.specs.Pattern.{Pattern, character, wildcard, matches, after_some}
use Rattle.cedar_expr_leaves.specs.Turns.{matches_later}

-- Booleans
or_false : (a : Bool) → a ≡ (a || false)
or_false true = refl
or_false false = refl

absorbs : (a b : Bool) → (b ≡ true → a ≡ true) → (a || b) ≡ a
absorbs true b h = refl
absorbs false true h = cc (h refl)
absorbs false false h = refl

right_holds : (a b : Bool) → b ≡ true → (a || b) ≡ true
right_holds true b h = refl
right_holds false b h = h

one_holds : (a b : Bool) {G : Type 0} → (a || b) ≡ true → (a ≡ true → G) → (b ≡ true → G) → G
one_holds true b h f g = f refl
one_holds false b h f g = g h

second_holds : (a b : Bool) → (a && b) ≡ true → b ≡ true
second_holds true b h = h
second_holds false b h = cc

-- What matches from a later character on, or here, matches from some character on.
later_some : (p : Pattern) (cs : List ℕ) → matches_later p cs ≡ true → after_some (matches p) cs ≡ true
later_some p [] h = cc
later_some p (c ∷ cs) h = right_holds (matches p (c ∷ cs)) (after_some (matches p) cs) h

here_some : (p : Pattern) (cs : List ℕ) → matches p cs ≡ true → after_some (matches p) cs ≡ true
here_some p [] h = h
here_some p (c ∷ cs) h = ap (λ t. t || after_some (matches p) cs) h

some_is : (p : Pattern) (cs : List ℕ) → after_some (matches p) cs ≡ (matches p cs || matches_later p cs)
some_is p [] = or_false (matches p [])
some_is p (c ∷ cs) = refl

-- Where a character and a pattern match from some character on, the pattern matches from a later one on.
past_character : (c : ℕ) (p : Pattern) (cs : List ℕ) → after_some (matches (character c ∷ p)) cs ≡ true → matches_later p cs ≡ true
past_character c p [] h = h
past_character c p (d ∷ cs) h =
    one_holds ((c == d) && matches p cs) (after_some (matches (character c ∷ p)) cs) h
    (λ k. here_some p cs (second_holds (c == d) (matches p cs) k))
    (λ k. later_some p cs (past_character c p cs k))

-- Where a wildcard and a pattern match from some character on, so does the pattern.
past_wildcard : (p : Pattern) (cs : List ℕ) → after_some (matches (wildcard ∷ p)) cs ≡ true → after_some (matches p) cs ≡ true
past_wildcard p [] h = h
past_wildcard p (c ∷ cs) h =
    one_holds (after_some (matches p) (c ∷ cs)) (after_some (matches (wildcard ∷ p)) cs) h
    (λ k. k)
    (λ k. later_some p (c ∷ cs) (past_wildcard p cs k))

later_wildcard : (p : Pattern) (cs : List ℕ) → matches_later (wildcard ∷ p) cs ≡ true → after_some (matches p) cs ≡ true
later_wildcard p [] h = cc
later_wildcard p (c ∷ cs) h = later_some p (c ∷ cs) (past_wildcard p cs h)

-- The whole matches exactly where the rest of the pattern matches the rest of the text, or the retry matches later; and
-- where the retry matches later, so does the rest of the pattern.
pub record Walks (whole : Bool) (p : Pattern) (cs : List ℕ) (back : Bool) : Type 0 where
  pub same : whole ≡ (matches p cs || back)
  pub covers : back ≡ true → matches_later p cs ≡ true

pub begins : (p : Pattern) (cs : List ℕ) → Walks (matches p cs) p cs false
begins p cs = record { same = or_false (matches p cs); covers = λ h. cc }

itself : (c : ℕ) → (c == c) ≡ true
itself c = (Decides-eqb c c).1 refl

pub takes : (whole : Bool) (c : ℕ) (p : Pattern) (cs : List ℕ) (back : Bool) → Walks whole (character c ∷ p) (c ∷ cs) back → Walks whole p cs back
takes whole c p cs back w = record {
  same = w.same ∙ ap (λ t. (t && matches p cs) || back) (itself c);
  covers = λ h. past_character c p cs (w.covers h);
}

pub skips : (whole : Bool) (p : Pattern) (cs : List ℕ) (back : Bool) → Walks whole (wildcard ∷ p) cs back → Walks whole p cs (matches_later p cs)
skips whole p cs back w = record {
  same = w.same ∙ absorbs (after_some (matches p) cs) back (λ h. later_wildcard p cs (w.covers h)) ∙ some_is p cs;
  covers = λ h. h;
}

pub ends : (whole : Bool) (p : Pattern) (cs : List ℕ) (back : Bool) → cs ≡ [] → Walks whole p cs back → whole ≡ matches p []
ends whole p [] back e w = w.same ∙ absorbs (matches p []) back (λ h. absurd (let k : false ≡ true = w.covers h in cc))
ends whole p (c ∷ cs) back e w = cc
