-- The lines of refusals, one after the other.
use Rattle.std.proofs.Common.{◌≡◌, ℕ, ◌<◌, ◌+◌, ◌≤◌, ◌++◌, ◌∷◌, [], List, length, get_or, take, Result, Ok, Err, refl, sym, ap, ◌∙◌, append_assoc, append-nil, subst}
use Rattle.std.specs.Prelude.{OnOk}
use Rattle.std.proofs.lemmas.List.{map-append, take_more, take_all}
use Rattle.cedar_expr_model.specs.Name.{Text}
use Rattle.cedarcheck.specs.Faults.{numbers_in}
use Rattle.cedarcheck.specs.Lines.{refusal_line, AddsRefusal, AreRefusals}
use Rattle.cedarcheck.specs.declared.findings.Finding.{Finding}

-- what was appended is a refusal
pub refusal_added : {X E : Type 0} (r : Result X E) (n : ℕ) (words old new : Text) → OnOk r (new ≡ old ++ refusal_line n words) → OnOk r (AddsRefusal n old new)
refusal_added (Ok x) n words old new h = (words, h)
refusal_added (Err e) n words old new h = tt

-- one more line
one_more : (ns : List ℕ) (n : ℕ) (text words : Text) → AreRefusals ns text → AreRefusals (ns ++ n ∷ []) (text ++ refusal_line n words)
one_more [] n text words h = (words, [], ap (λ t. t ++ refusal_line n words) h ∙ sym (append-nil (refusal_line n words)), refl)
one_more (m ∷ ns) n text words h =
    let (own, rest, is, more) = h in
    (own, rest ++ refusal_line n words, ap (λ t. t ++ refusal_line n words) is ∙ append_assoc (refusal_line m own) rest (refusal_line n words), one_more ns n rest words more)

-- one more finding
more_numbers : (fs : List Finding) (i : ℕ) (f d : Finding) → i < length fs → f ≡ get_or fs i d → numbers_in (take i fs) ++ f.number ∷ [] ≡ numbers_in (take (i + 1) fs)
more_numbers fs i f d below at =
    sym (ap numbers_in (take_more fs i d below ∙ ap (λ g. take i fs ++ g ∷ []) (sym at)) ∙ map-append (λ (g : Finding). g.number) (take i fs) (f ∷ []))

module _ (fs : List Finding) (i : ℕ) (text : Text) (h : AreRefusals (numbers_in (take i fs)) text) where
  pub next_line : (f d : Finding) → i < length fs → f ≡ get_or fs i d → (new : Text) → AddsRefusal f.number text new → AreRefusals (numbers_in (take (i + 1) fs)) new
  next_line f d below at new a =
      let P : Text → Type 0 = AreRefusals (numbers_in (take (i + 1) fs)) in
      let Q : List ℕ → Type 0 = λ ns. AreRefusals ns (text ++ refusal_line f.number a.0) in
      subst P (sym a.1) (subst Q (more_numbers fs i f d below at) (one_more (numbers_in (take i fs)) f.number text a.0 h))

  pub all_lines : length fs ≤ i → AreRefusals (numbers_in fs) text
  all_lines past = let Q : List ℕ → Type 0 = λ ns. AreRefusals ns text in subst Q (ap numbers_in (take_all i fs past)) h
