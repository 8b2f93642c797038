-- The rules of validity (standard, section 3) and their numbers: where several rules fail at one place, the smallest is told.
use Rattle.std.specs.Prelude.{ℕ, suc}
use Rattle.wa_types.specs.declared.rules.Rule.{Rule}
use Rattle.wa_types.specs.declared.rules.Rule.TheVariants.{UnknownType, UnknownFunc, UnknownTable, UnknownMemory, UnknownGlobal, UnknownLocal, UnknownLabel, StackTypes, Alignment}
use Rattle.wa_types.specs.declared.rules.Rule.TheVariants.{ConstantGlobal, BadLimits, SecondInstance, NotConstant, DuplicateExport, StartType, SecondResult}

-- the number of each rule
abbrev pub number : Rule → ℕ
-- type index
number UnknownType = 1
-- function index
number UnknownFunc = 2
-- table index, or no table for `call_indirect`
number UnknownTable = 3
-- memory index, or no memory for an instruction that needs one
number UnknownMemory = 4
-- global index
number UnknownGlobal = 5
-- local index
number UnknownLocal = 6
-- label
number UnknownLabel = 7
-- operand types, labels of `br_table` that differ, or results at an end
number StackTypes = 8
-- alignment above natural
number Alignment = 9
-- `global.set` of a constant global
number ConstantGlobal = 10
-- limits
number BadLimits = 11
-- second table or second memory
number SecondInstance = 12
-- initialiser of a global, or offset of a segment
number NotConstant = 13
-- export name used twice
number DuplicateExport = 14
-- start function not of type [] -> []
number StartType = 15
-- type with more than one result
number SecondResult = 16

-- a number above all rules
abbrev pub above_all : ℕ
above_all = suc (number SecondResult)
