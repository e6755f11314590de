-- Which fault of reading another fault is.
use Rattle.cedar_expr_names.specs.declared.err.NameError.{NameError}
use Rattle.cedar_expr_names.specs.declared.err.NameError.TheVariants as name
use Rattle.serde_json.specs.Errors.{IsMemory}
use Rattle.serde_json.specs.declared.error.Error.{Error}
use Rattle.cedar_gate_expressions.specs.declared.fault.ReadFault.{ReadFault}
use Rattle.cedar_gate_expressions.specs.declared.fault.ReadFault.TheVariants.{OutOfMemory, Unreadable}

-- A text that is no name is unreadable.
abbrev pub names_as : NameError → ReadFault
names_as name.OutOfMemory = OutOfMemory
names_as name.NotNormalized = Unreadable
names_as (name.Reserved e) = Unreadable

-- A fault of reading JSON is of memory, or of the text.
abbrev pub IsFaultOf : Error → ReadFault → Type 0
IsFaultOf e OutOfMemory = IsMemory e
IsFaultOf e Unreadable = ¬ IsMemory e
