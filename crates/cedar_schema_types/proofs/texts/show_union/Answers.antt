use Rattle.std.proofs.Common.{rules, sym}
use Rattle.std.proofs.Output.{has_written_append, has_written_of_eq}
use Rattle.cedar_schema_types.specs.Unions.{members_of}
use Rattle.cedar_schema_types.proofs.Shown.{union_many}
use Rattle.cedar_schema_types.proofs.texts.show_union.Goals as goal

pub returns-in_ok-show_names-in-None : goal.returns-in_ok-show_names-in-None
returns-in_ok-show_names-in-None g c = λ p ok.
    let one = c.in_ok-write_str-in-None.ensures.writes p (search rules) in
    let two = c.in_ok-show_names-in-None.ensures one.plain (search rules) in
    let three = c.write_str-in-None.ensures.writes two.plain ok in
    has_written_of_eq _ _ _ _ _ (union_many (members_of c.args.union.now) (sym c.in-None.ensures)) (has_written_append _ _ _ _ _ _ one (has_written_append _ _ _ _ _ _ two three))
