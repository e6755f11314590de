-- Rounds and bindings, by what is loaded.
use Rattle.std.proofs.Common.{◌≡◌, ◌⊎◌, inl, inr, ◌||◌, ℕ, zero, suc, List, [], ◌++◌, Contains, Bool, true, false, Option, Some, None, if◌then◌else◌, refl, sym, ap, ◌∙◌, subst, map}
use Rattle.std.proofs.lemmas.List.Elements.{Contains-append_left, Contains-append_right, Contains-append_cases}
use Rattle.std.proofs.lemmas.List.Folds.{list_any-append}
use Rattle.std.specs.List.{list_any}
use Rattle.std.specs.Option.{option_map_or}
use Rattle.std.specs.Prelude.{◌↔◌, IsSome, is_some}
use Rattle.std.specs.declared.alloc.Global.{Global}
use Rattle.std.specs.declared.vec.Vec.{Vec}
use Rattle.cedar_expr_model.specs.Uid.{Uid, uid_eq}
use Rattle.cedar_expr_model.proofs.Equality.{uid_eq-Decides}
use Rattle.cedar_expr_model.proofs.Lists.{found-Decides, hold_left, hold_right}
use Rattle.cedar_expr_names.specs.declared.entity.EntityUID.{EntityUID}
use Rattle.cedar_store_model.specs.World.{Found}
use Rattle.cedar_store_model.specs.Store.{unloaded}
use Rattle.cedar_expr_model.specs.Value.{V}
use Rattle.cedar_schema_model.specs.Schema.{declares_action}
use Rattle.cedar_gate_model.specs.Runs.{with_asked}
use Rattle.cedar_gate_model.specs.Session.{Setup, State, known_now, whole_store}
use Rattle.cedar_typechecker_model.specs.Slice.{roots, mentioned_by_found}
use Rattle.cedar_gate_wanted.specs.Near.{IsNear, IsBelow}
use Rattle.cedar_gate_wanted.specs.Kept.{IsKept}
use Rattle.cedar_gate_wanted.specs.Rows.{uids, row_of, found_at, mentions_in}
use Rattle.cedar_gate_wanted.specs.Laws.{IsLoadedAt, AreAnswers, KeepsFrom, IsBoundMore, SupplyIsRound, RootsAreBound}
use Rattle.cedar_gate_wanted.specs.Supplying.{rows_of, keys_in, IsFilled, AreKeys}
use Rattle.cedar_gate_wanted.specs.Wanting.{near_in, rows_in, mentions_of, wanted_in}
use Rattle.cedar_gate_wanted.specs.declared.loading.Loading.{Loading}
use Rattle.cedar_gate_wanted.proofs.Taking.{keys_are, filled_has}

abbrev Row : Type 0
Row = Vec EntityUID Global

any_none : (u : Uid) (us : List Uid) → (Contains us u → ⊥) → list_any (uid_eq u) us ≡ false
any_none u us misses = go (list_any (uid_eq u) us) refl
  where
    go : (b : Bool) → list_any (uid_eq u) us ≡ b → list_any (uid_eq u) us ≡ false
    go true e = absurd (misses ((found-Decides uid_eq uid_eq-Decides u us).0 e))
    go false e = e

or_false : (b : Bool) → (b || false) ≡ b
or_false true = refl
or_false false = refl

-- what is known of a store at a uid, by whether it was asked for
abbrev known_at : Setup → Uid → Bool → Found V
known_at x u asked = if declares_action x.schema u || asked then whole_store x u else unloaded u

whole_there : (x : Setup) (u : Uid) → known_at x u true ≡ whole_store x u
whole_there x u = ap (λ (b : Bool). if b then whole_store x u else unloaded u) (hold_right (declares_action x.schema u) true refl)

row_there : (a : Uid → Option Row) (u : Uid) (r : Row) → a u ≡ Some r → row_of a u ≡ uids r.items
row_there a u r e = ap (λ (o : Option Row). option_map_or (λ r. uids r.items) o []) e

pub supply_is_round : SupplyIsRound
supply_is_round x s l m ps at filled keys answers keeps = record {
  asked = λ u. elim (filled.filled u) [
    | inl had ↦ (let there : list_any (uid_eq u) (wanted_in l) ≡ true = (found-Decides uid_eq uid_eq-Decides u (wanted_in l)).1 (keys.each u (filled_has ps u had.0 had.1)) in
        let some : is_some (rows_in m u) ≡ true = ap is_some had.2 in
        some ∙ sym (list_any-append (uid_eq u) s.asked (wanted_in l) ∙ hold_right (list_any (uid_eq u) s.asked) (list_any (uid_eq u) (wanted_in l)) there))
    | inr out ↦ ap is_some out.1 ∙ at.asked u ∙ sym (apart u (not_wanted u out.0))
  ];
  mentions = λ u. elim (filled.filled u) [
    | inl had ↦ (let there : list_any (uid_eq u) (s.asked ++ wanted_in l) ≡ true = list_any-append (uid_eq u) s.asked (wanted_in l)
        ∙ hold_right (list_any (uid_eq u) s.asked) (list_any (uid_eq u) (wanted_in l)) ((found-Decides uid_eq uid_eq-Decides u (wanted_in l)).1 (keys.each u (filled_has ps u had.0 had.1))) in
        row_there (rows_in m) u had.0 had.2 ∙ answers.each u had.0 had.1 ∙ ap mentioned_by_found (sym (ap (known_at x u) there ∙ whole_there x u)))
    | inr out ↦ ap (λ (o : Option Row). option_map_or (λ r. uids r.items) o []) out.1 ∙ at.mentions u ∙ ap (λ b. mentioned_by_found (known_at x u b)) (sym (apart u (not_wanted u out.0)))
  ];
  kept = keeps (roots (known_now x s)) at.kept;
}
  where
    not_wanted : (u : Uid) → (Contains (map (λ (p : Uid × Row). p.0) (rows_of ps)) u → ⊥) → Contains (wanted_in l) u → ⊥
    not_wanted u out k = out (subst (λ zs. Contains zs u) (sym (keys_are ps)) (keys.all u k))

    apart : (u : Uid) → (Contains (wanted_in l) u → ⊥) → list_any (uid_eq u) (s.asked ++ wanted_in l) ≡ list_any (uid_eq u) s.asked
    apart u misses = list_any-append (uid_eq u) s.asked (wanted_in l) ∙ ap (λ b. list_any (uid_eq u) s.asked || b) (any_none u (wanted_in l) misses) ∙ or_false (list_any (uid_eq u) s.asked)

-- near by chains from roots with the same members
near_from : (r q : List Uid) (m : Uid → List Uid) → ((u : Uid) → Contains r u → Contains q u) → (n : ℕ) (u : Uid) → IsNear r m n u → IsNear q m n u
near_from r q m more zero u near = absurd near
near_from r q m more (suc n) u (inl c) = inl (more u c)
near_from r q m more (suc n) u (inr (v, near, c)) = inr (v, near_from r q m more n v near, c)

kept_from : (r q : List Uid) (m : Uid → List Uid) (n : ℕ) (f : Uid → Option ℕ) → ((u : Uid) → Contains r u → Contains q u) → ((u : Uid) → Contains q u → Contains r u) → IsKept r m n f → IsKept q m n f
kept_from r q m n f there back k = record {
  near = λ j u le. ((λ h. (k.near j u le).0 (near_from q r m back j u h)), (λ h. near_from r q m there j u ((k.near j u le).1 h)));
  below = k.below;
}

pub roots_bound : RootsAreBound
roots_bound x s t l m rs at more rows all keeps = record {
  asked = λ u. ap (λ a. is_some (found_at a u)) rows ∙ at.asked u ∙ ap (λ us. list_any (uid_eq u) us) (sym more.asked);
  mentions = λ u. ap (λ a. mentions_in a u) rows ∙ at.mentions u ∙ ap (λ us. mentioned_by_found (known_at x u (list_any (uid_eq u) us))) (sym more.asked);
  kept = kept_from (roots (known_now x s) ++ rs) (roots (known_now x t)) (mentions_of m) x.level (near_in m)
      (λ u k. elim (Contains-append_cases (roots (known_now x s)) rs u k) [ inl old ↦ more.more u old | inr new ↦ (all u).0 new ])
      (λ u k. Contains-append_right (roots (known_now x s)) rs u ((all u).1 k)) (keeps (roots (known_now x s)) at.kept);
}
