use Rattle.std.proofs.Common.{◌≡◌, true, nat_cmp, refl, rules, [], ◌∷◌, ◌++◌, Some, string_bytes, sym, ap, ◌∙◌, subst, append_assoc}
use Rattle.std.specs.Cmp.Lexicographic.{slice_cmp}
use Rattle.std.specs.List.Sorted.{IsStrictlySortedBy}
use Rattle.std.specs.Map.{keys_of}
use Rattle.std.specs.String.{string_cmp}
use Rattle.cedar_expr_names.specs.Views.{id_text}
use Rattle.cedar_expr_model.specs.Name.{is_identifier}
use Rattle.serde_json.proofs.Views.{Entry}
use Rattle.serde_json.specs.View.{view, members_view}
use Rattle.cedar_gate_expressions.specs.Maps.{under_word}
use Rattle.cedar_gate_expressions.proofs.Gathered.{next_member, nothing_before}
use Rattle.cedar_gate_expressions.proofs.Sorted.{insert_last, same_names_more}
use Rattle.cedar_gate_expressions.proofs.maps.read_each_word.Goals as goal

pub loop-key-preserved : goal.loop-key-preserved
loop-key-preserved g c =
    let l = c.loop-key in
    let done = l.invariant.0 in
    let e : Entry = (c.in-Some.key.now, c.in-Some.member.now) in
    let left = c.next.new.self in
    let all : c.args.members.now.entries ≡ done ++ e ∷ left = l.invariant.1 ∙ ap (λ es. done ++ es) c.in-Some.ensures.steps in
    let h : id_text c.in_ok-word.word ≡ string_bytes e.0 = c.in_ok-word.ensures.read ∙ c.as_str.ensures.value in
    let put : c.insert.new.self.entries ≡ l.made.entries ++ (c.in_ok-word.word, c.in_ok-item.item) ∷ [] =
    c.in_ok-insert.ensures.entries ∙ insert_last (λ s t. slice_cmp nat_cmp (id_text s) (id_text t)) id_text (λ a b. refl) l.made.entries c.in_ok-word.word c.in_ok-item.item done e left l.invariant.2 h (subst (λ es. IsStrictlySortedBy string_cmp (keys_of es)) all c.iter-key-items.ensures.ordered) in
    let identifies : is_identifier (string_bytes e.0) ≡ true = ap is_identifier (sym c.as_str.ensures.value) ∙ c.in_ok-word.ensures.identifies in
    let read : under_word (g.R.Reader.reading c.args.reader.now) (string_bytes e.0) (view e.1) ≡ Some (id_text c.in_ok-word.word, g.R.Reader.seen c.in_ok-item.item) =
    rw (identifies, h, c.in_ok-item.ensures.ok) refl in (
      done ++ e ∷ [],
      all ∙ sym (append_assoc done (e ∷ []) left),
      rw put (same_names_more id_text l.made.entries c.in_ok-word.word c.in_ok-item.item done e l.invariant.2 h),
      rw put (next_member (under_word (g.R.Reader.reading c.args.reader.now)) (λ e. (id_text e.0, g.R.Reader.seen e.1)) l.made.entries (c.in_ok-word.word, c.in_ok-item.item) e left l.key-iterator c.in-Some.ensures.steps read) ∙ l.invariant.3,
    )

pub loop-key-init : goal.loop-key-init
loop-key-init g c =
    let h : c.args.members.now.entries ≡ c.into_iter-key-iterator.result = search rules in
    let n : c.new-made.result.entries ≡ [] = search rules in
    ([], h, search rules, rw (n, h) (nothing_before _))
