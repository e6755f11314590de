use Rattle.std.proofs.Common.{◌≡◌, refl, ap, ◌∙◌, rules}
use Rattle.cedar_expr_model.specs.Name.{name_read, name_text}
use Rattle.cedar_expr_names.specs.Parts.{name_of}
use Rattle.cedar_expr_names.proofs.Equality.{well_formed}
use Rattle.cedar_expr_model.proofs.Reading.{writes_read}
use Rattle.cedar_expr_names.proofs.internal_name.InternalName.as_str.Goals as goal

pub returns-clause-reads_back : goal.returns-clause-reads_back
returns-clause-reads_back c =
    let name = name_of c.args.self.now in
    let text : c.as_str.result.now ≡ name_text name = search rules in
    ap name_read text ∙ writes_read (name_text name) name (record { parts = well_formed c.args.self.now; whole = refl })
