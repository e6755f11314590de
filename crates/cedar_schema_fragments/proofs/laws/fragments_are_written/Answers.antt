use Rattle.cedar_schema_fragments.proofs.Together.{made_written, both_written}
use Rattle.cedar_schema_fragments.proofs.Reserved.{refused_for, refused_is_fault, formed_are_made}
use Rattle.cedar_schema_fragments.proofs.laws.fragments_are_written.Goals as goal

pub returns-clause-made : goal.returns-clause-made
returns-clause-made c = made_written

pub returns-clause-told : goal.returns-clause-told
returns-clause-told c = refused_for

pub returns-clause-faulty : goal.returns-clause-faulty
returns-clause-faulty c = refused_is_fault

pub returns-clause-formed : goal.returns-clause-formed
returns-clause-formed c = formed_are_made

pub returns-clause-together : goal.returns-clause-together
returns-clause-together c = both_written
