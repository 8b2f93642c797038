-- What follows an opcode, as the reader's table gives it.
use Rattle.std.specs.Prelude.{Option, Some, None}
use Rattle.wa_types.specs.Opcodes.{Form, no_immediate, a_zero, an_index, an_index_and_zero, an_access, some_labels, a_bulk, a_constant, a_float}
use Rattle.wasm_grammar.specs.declared.opcodes.ImmediateForm.{ImmediateForm}
use Rattle.wasm_grammar.specs.declared.opcodes.ImmediateForm.TheVariants.{Nothing, ZeroByte, Index, IndexAndZero, Access, Labels, Constant32, Constant64, Float4, Float8, Bulk}

-- what follows an opcode
abbrev pub form_of : ImmediateForm → Form
form_of Nothing = no_immediate
form_of ZeroByte = a_zero
form_of Index = an_index
form_of IndexAndZero = an_index_and_zero
form_of Access = an_access
form_of Labels = some_labels
form_of Constant32 = a_constant 32
form_of Constant64 = a_constant 64
form_of Float4 = a_float 4
form_of Float8 = a_float 8
form_of Bulk = a_bulk

-- the same where it is one
abbrev pub follows_of : Option ImmediateForm → Option Form
follows_of None = None
follows_of (Some s) = Some (form_of s)
