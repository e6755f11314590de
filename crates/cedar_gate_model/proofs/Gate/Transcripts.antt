-- What a legal transcript asks for, and which decisions it gives.
use Rattle.std.proofs.Common.{◌≡◌, ◌≤◌, ℕ, suc, Bool, true, false, List, [], ◌∷◌, ◌++◌, length, Option, Some, None, codes, inl, inr, ⊎_elim, ◌⊎◌, refl, sym, ◌∙◌, subst, arith}
use Rattle.std.specs.Prelude.{Contains}
use Rattle.std.proofs.lemmas.List.{length-append}
use Rattle.std.proofs.lemmas.List.Elements.{Contains-append_left, Contains-append_cases}
use Rattle.cedar_expr_model.specs.Uid.{Uid}
use Rattle.cedar_expr_model.specs.Value.{V}
use Rattle.cedar_expr_model.proofs.Lists.{contains_cases, contains_none}
use Rattle.cedar_store_model.specs.World.{World}
use Rattle.cedar_store_model.specs.Answer.{Decision, decision_of}
use Rattle.cedar_typechecker_model.specs.Slice.{IsNear, InSlice}
use Rattle.cedar_expr_model.specs.Lists.{when}
use Rattle.cedar_gate_model.specs.Moment.{Moment, at_first, entry_known, context_known, known_at}
use Rattle.cedar_gate_model.specs.Transcript.{Entry, round, bound, decided, Case, after, IsWanted, IsLegalEntry, AreLegal}
use Rattle.cedar_gate_model.specs.GateLaws.{KnowsRoots, moment_after, asked_in, rounds_after, last_rounds, AsksTheSlice}
use Rattle.cedar_gate_model.proofs.Gate.Slices.{near_kept}
use Rattle.cedar_gate_model.proofs.Runs.Loading.{Settled, near_of_loaded, round_is_below, settles_more, slice_is_loaded}
use Rattle.cedar_typechecker_model.proofs.Mentions.{IsKnown, ContextMentions, IsRoot, root_cases, root_from}

-- what is known of the world of a transcript at a moment
abbrev pub known : Case → World → Moment → World
known c w m = known_at c.schema c.start w m

known_only : (t : Bool) (o : Option Uid) (u : Uid) → IsKnown (when t o) u → IsKnown o u
known_only true o u h = h
known_only false o u h = absurd (contains_none u h)

context_only : (t : Bool) (o : Option V) (u : Uid) → ContextMentions (when t o) u → ContextMentions o u
context_only true o u h = h
context_only false o u h = absurd (contains_none u h)

-- the world with what was given or bound alone, over the whole store
abbrev opened : Case → World → Moment → World
opened c w m = record (known c w m) { store = w.store }

root_only : (c : Case) (w : World) (m : Moment) (u : Uid) → IsRoot (known c w m) u → IsRoot w u
root_only c w m u h =
    root_from w u
    (⊎_elim (λ k. inl (known_only (entry_known m (codes "principal") c.start.principal) w.principal u k))
    (λ k. inr (⊎_elim (λ q. inl (known_only (entry_known m (codes "resource") c.start.resource) w.resource u q)) (λ q. inr (context_only (context_known m c.start.context) w.context u q)) k)) (root_cases (known c w m) u h))

-- what is near by what is known is near
pub near_by_known : (c : Case) (w : World) (m : Moment) (n : ℕ) (u : Uid) → IsNear n (known c w m) u → IsNear n w u
near_by_known c w m n u h = near_kept (opened c w m) w (root_only c w m) (λ v x k. k) n u (near_of_loaded c.schema (opened c w m) m.asked n u h)

-- what is asked is what was asked before, or in the slice
asked_after : (c : Case) (w : World) (m : Moment) (es : List Entry) (u : Uid) → AreLegal c w m es → Contains (moment_after m es).asked u → Contains m.asked u ⊎ InSlice c.schema c.level w u
asked_after c w m [] u h k = inl k
asked_after c w m (round uids ∷ es) u h k =
    ⊎_elim (λ a. ⊎_elim (λ b. inl b) (λ b. let q = ((h.0.exact u).0 b).0 in inr (near_by_known c w m c.level u q.0, q.1)) (Contains-append_cases m.asked uids u a)) (λ a. inr a)
    (asked_after c w (after m (round uids)) es u h.1 k)
asked_after c w m (bound n ∷ es) u h k = asked_after c w (after m (bound n)) es u h.1 k
asked_after c w m (decided d ∷ es) u h k = asked_after c w m es u h.1 k

pub asked_is_in_slice : (c : Case) (w : World) (es : List Entry) (u : Uid) → AreLegal c w at_first es → Contains (asked_in es) u → InSlice c.schema c.level w u
asked_is_in_slice c w es u h k = ⊎_elim (λ a. absurd (contains_none u a)) (λ a. a) (asked_after c w at_first es u h k)

-- what was asked stays asked
pub stays_asked : (m : Moment) (es : List Entry) (u : Uid) → Contains m.asked u → Contains (moment_after m es).asked u
stays_asked m [] u k = k
stays_asked m (round uids ∷ es) u k = stays_asked (after m (round uids)) es u (Contains-append_left m.asked uids u k)
stays_asked m (bound n ∷ es) u k = stays_asked (after m (bound n)) es u k
stays_asked m (decided d ∷ es) u k = stays_asked m es u k

once : (c : Case) (w : World) (m : Moment) (before rest : List Entry) (uids : List Uid) (u : Uid) → AreLegal c w m (before ++ round uids ∷ rest) → Contains (moment_after m before).asked u → Contains uids u → ⊥
once c w m [] rest uids u h a k = ((h.0.exact u).0 k).1 a
once c w m (round vs ∷ before) rest uids u h a k = once c w (after m (round vs)) before rest uids u h.1 a k
once c w m (bound n ∷ before) rest uids u h a k = once c w (after m (bound n)) before rest uids u h.1 a k
once c w m (decided d ∷ before) rest uids u h a k = once c w m before rest uids u h.1 a k

pub asked_once : (c : Case) (w : World) (before rest : List Entry) (uids : List Uid) (u : Uid) → AreLegal c w at_first (before ++ round uids ∷ rest) → Contains (asked_in before) u → Contains uids u → ⊥
asked_once c w before rest uids u h a k = once c w at_first before rest uids u h a k

-- decisions
the_decision : (c : Case) (w : World) (m : Moment) (o : Option Decision) (d : Decision) → IsLegalEntry c w m (decided o) → o ≡ Some d → d ≡ decision_of w c.policies
the_decision c w m None d h e = cc
the_decision c w m (Some g) d h e = let k = h in cc

named_decision : (e : Entry) → Option Decision → Option Decision
named_decision (decided o) d = o
named_decision e d = d

final : (c : Case) (w : World) (m : Moment) (es : List Entry) (d : Decision) → AreLegal c w m es → Contains es (decided (Some d)) → d ≡ decision_of w c.policies
final c w m [] d h k = absurd (contains_none (decided (Some d)) k)
final c w m (round uids ∷ es) d h k = contains_cases (d ≡ decision_of w c.policies) (round uids) es (decided (Some d)) k (λ e. cc) (final c w (after m (round uids)) es d h.1)
final c w m (bound n ∷ es) d h k = contains_cases (d ≡ decision_of w c.policies) (bound n) es (decided (Some d)) k (λ e. cc) (final c w (after m (bound n)) es d h.1)
final c w m (decided o ∷ es) d h k = contains_cases (d ≡ decision_of w c.policies) (decided o) es (decided (Some d)) k (λ e. the_decision c w m o d h.0 cc) (final c w m es d h.1)

pub decisions_are_final : (c : Case) (w : World) (es : List Entry) (d : Decision) → AreLegal c w at_first es → Contains es (decided (Some d)) → d ≡ decision_of w c.policies
decisions_are_final c w es d h k = final c w at_first es d h k

pub one_decision : (c : Case) (w : World) (es : List Entry) (d e : Decision) → AreLegal c w at_first es → Contains es (decided (Some d)) → Contains es (decided (Some e)) → d ≡ e
one_decision c w es d e h k l = decisions_are_final c w es d h k ∙ sym (decisions_are_final c w es e h l)

-- all that is nearer than r is loaded
abbrev IsSettled : Case → World → Moment → ℕ → Type 0
IsSettled c w m r = Settled c.schema (opened c w m) m.asked r

length_more : (found : List (List Uid)) (uids : List Uid) → length (found ++ uids ∷ []) ≡ suc (length found)
length_more found uids = let e = length-append found (uids ∷ []) in omega (arith, e)

few : (c : Case) (w : World) (m : Moment) (es : List Entry) (found : List (List Uid)) → AreLegal c w m es → IsSettled c w m (length found) → length found ≤ c.level → length (rounds_after es found) ≤ c.level
few c w m [] found h settled l = l
few c w m (round uids ∷ es) found h settled l =
    let r = h.0 in
    let v = opened c w m in
    let b = round_is_below c.schema v c.level m.asked uids (length found) r.some_wanted r.exact settled in
    let e = length_more found uids in
    few c w (after m (round uids)) es (found ++ uids ∷ []) h.1
    (subst (Settled c.schema v (m.asked ++ uids)) (sym e) (settles_more c.schema v c.level m.asked uids (length found) r.exact settled b)) (omega (arith, e, b))
few c w m (bound n ∷ es) found h settled l = few c w (after m (bound n)) es [] h.1 (λ u k. absurd k) (omega arith)
few c w m (decided d ∷ es) found h settled l = few c w m es found h.1 settled l

pub rounds_are_few : (c : Case) (w : World) (es : List Entry) → AreLegal c w at_first es → length (last_rounds es) ≤ c.level
rounds_are_few c w es h = few c w at_first es [] h (λ u k. absurd k) (omega arith)

-- where all is known and nothing is wanted
when_true : {A : Type 0} (t : Bool) (o : Option A) → t ≡ true → when t o ≡ o
when_true true o e = refl
when_true false o e = cc

root_known : (c : Case) (w : World) (m : Moment) → KnowsRoots c.start m → (u : Uid) → IsRoot w u → IsRoot (opened c w m) u
root_known c w m e u h =
    root_from (opened c w m) u
    (⊎_elim (λ k. inl (subst (λ o. IsKnown o u) (sym (when_true (entry_known m (codes "principal") c.start.principal) w.principal e.0)) k))
    (λ k. inr (⊎_elim (λ q. inl (subst (λ o. IsKnown o u) (sym (when_true (entry_known m (codes "resource") c.start.resource) w.resource e.1)) q))
    (λ q. inr (subst (λ o. ContextMentions o u) (sym (when_true (context_known m c.start.context) w.context e.2)) q)) k)) (root_cases w u h))

pub slice_is_asked : (c : Case) (w : World) (es : List Entry) → AreLegal c w at_first es → KnowsRoots c.start (moment_after at_first es) → ((u : Uid) → IsWanted c w (moment_after at_first es) u → ⊥) → AsksTheSlice c w es
slice_is_asked c w es h e none =
    let m = moment_after at_first es in
    record {
      exact = λ u. (asked_is_in_slice c w es u h, λ k. slice_is_loaded c.schema (opened c w m) c.level m.asked none u (near_kept w (opened c w m) (root_known c w m e) (λ v x q. q) c.level u k.0, k.1));
      few = rounds_are_few c w es h;
    }
