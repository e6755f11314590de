use Rattle.std.proofs.Common.{◌≡◌, nat_cmp, refl, rules, arith, [], ◌∷◌, ◌++◌, string_bytes, sym, ap, ◌∙◌, subst, append_assoc}
use Rattle.std.specs.List.Sorted.{IsStrictlySortedBy}
use Rattle.std.specs.Map.{keys_of}
use Rattle.std.specs.String.{string_cmp}
use Rattle.std.specs.Rc.{rc_str_bytes}
use Rattle.serde_json.proofs.Views.{Entry}
use Rattle.serde_json.specs.declared.value.Value.{size-Value}
use Rattle.serde_json.specs.View.{members_view}
use Rattle.cedar_gate_model.specs.ReadingExpression.{fields_in}
use Rattle.std.specs.Cmp.Lexicographic.{slice_cmp}
use Rattle.cedar_gate_expressions.specs.Forms.{version_of}
use Rattle.cedar_gate_expressions.proofs.Sorted.{insert_last, same_names_more}
use Rattle.cedar_gate_expressions.proofs.Fields.{next_field, start, still_within, within_all}
use Rattle.cedar_gate_expressions.proofs.Arguments.{next_at}
use Rattle.cedar_gate_expressions.proofs.expressions.+read.Goals as goal

pub read_fields-loop-key-preserved : goal.read_fields-loop-key-preserved
read_fields-loop-key-preserved t c =
    let l = c.loop-key in
    let done = l.invariant.0 in
    let e : Entry = (c.in-Some.key.now, c.in-Some.member.now) in
    let left = c.next_member.new.members.left in
    let steps : l.left.left ≡ e ∷ left = c.in-Some.ensures in
    let all : c.args.members.now.entries ≡ done ++ e ∷ left = l.invariant.1 ∙ ap (λ es. done ++ es) steps in
    let k = c.in_ok-add_field.ensures.0 in
    let h : rc_str_bytes k ≡ string_bytes e.0 = c.in_ok-add_field.ensures.1 in
    let put : c.add_field.new.fields.entries ≡ l.fields.entries ++ (k, c.in_ok-field.field) ∷ [] =
    c.in_ok-add_field.ensures.2 ∙ insert_last (λ s t. slice_cmp nat_cmp (rc_str_bytes s) (rc_str_bytes t)) rc_str_bytes (λ a b. refl) l.fields.entries k c.in_ok-field.field done e left l.invariant.2 h (subst (λ es. IsStrictlySortedBy string_cmp (keys_of es)) all c.members_of-left.ensures.ordered) in (
      done ++ e ∷ [],
      all ∙ sym (append_assoc done (e ∷ []) left),
      rw put (same_names_more rc_str_bytes l.fields.entries k c.in_ok-field.field done e l.invariant.2 h),
      rw put (next_field (version_of c.args.version) l.fields.entries k c.in_ok-field.field e left l.left.left steps h c.in_ok-field.ensures.ok) ∙ l.invariant.3,
      still_within (λ (x : Entry). size-Value x.1) e left l.left.left c.args.members.now.entries steps l.invariant.4,
    )

pub read_fields-loop-key-init : goal.read_fields-loop-key-init
read_fields-loop-key-init t c =
    let h : c.members_of-left.result.left ≡ c.args.members.now.entries = c.members_of-left.ensures.rest in
    let n : c.new-fields.result.entries ≡ [] = search rules in (
      [],
      sym h,
      search rules,
      start c.new-fields.result.entries (fields_in (version_of c.args.version) (members_view c.members_of-left.result.left)) n ∙ ap (λ es. fields_in (version_of c.args.version) (members_view es)) h,
      within_all (λ (x : Entry). size-Value x.1) c.members_of-left.result.left c.args.members.now.entries h,
    )

pub read_each_expression-loop-i-preserved : goal.read_each_expression-loop-i-preserved
read_each_expression-loop-i-preserved t c =
    rw c.in_ok-push.ensures.items (next_at (version_of c.args.version) c.loop-i.list.items c.in_ok-e.e c.index-items-i.result c.args.items.now c.loop-i.i (omega arith) c.index-items-i.is c.in_ok-e.ensures.ok ∙ c.loop-i.invariant)
