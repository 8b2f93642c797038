-- Small files and where they fail, and each beginning of a module's file.
use Rattle.std.specs.Prelude.{◌≡◌, ℕ, zero, suc, ◌==◌, ◌||◌, List, [], ◌∷◌, ◌++◌, map, take, Option, Some, None, if◌then◌else◌}
use Rattle.wa_types.specs.Encoding.{preamble}
use Rattle.wa_types.specs.Binary.{Placed, nothing, index, float, RawCode, ended, instr, RawBody, Section, types, functions, bodies}
use Rattle.wa_types.specs.Spells.{Spells}
use Rattle.wa_types.specs.Marks.{floats}
use Rattle.checks.specs.Beginnings.{FaultFound}

-- the bytes of a file, and where it fails; None for a whole one
pub record File : Type 0 where
  pub bytes : List ℕ
  pub fault : Option ℕ

-- Each file fails where it should.
abbrev pub AllFound : List File → Type 0
AllFound [] = Unit {0}
AllFound (f ∷ fs) = FaultFound f.bytes f.fault × AllFound fs

-- a file of these sections
abbrev pub of_sections : List ℕ → Option ℕ → File
of_sections bytes fault = record { bytes = preamble ++ bytes; fault = fault }

-- the type [] -> []
abbrev pub a_type : List ℕ
a_type = 0x01 ∷ 0x04 ∷ 0x01 ∷ 0x60 ∷ 0x00 ∷ 0x00 ∷ []

-- a function of that type
abbrev pub a_function : List ℕ
a_function = 0x03 ∷ 0x02 ∷ 0x01 ∷ 0x00 ∷ []

-- the body of that function
abbrev pub a_body : List ℕ
a_body = 0x0A ∷ 0x04 ∷ 0x01 ∷ 0x02 ∷ 0x00 ∷ 0x0B ∷ []

-- Files, whole ones and others.
abbrev pub files : List File
files =
    record { bytes = []; fault = Some 0 }
    ∷ record { bytes = take 7 preamble; fault = Some 7 }
    ∷ record { bytes = 0x00 ∷ 0x61 ∷ 0x73 ∷ 0x6E ∷ []; fault = Some 4 }
    ∷ of_sections [] None
    -- a size of five bytes, and the same with a wrong last byte
    ∷ of_sections (0x01 ∷ 0x84 ∷ 0x80 ∷ 0x80 ∷ 0x80 ∷ 0x00 ∷ 0x01 ∷ 0x60 ∷ 0x00 ∷ 0x00 ∷ []) None
    ∷ of_sections (0x01 ∷ 0x84 ∷ 0x80 ∷ 0x80 ∷ 0x80 ∷ 0x10 ∷ 0x01 ∷ 0x60 ∷ 0x00 ∷ 0x00 ∷ []) (Some 14)
    -- an id that there is none of; sections in another order; one section twice
    ∷ of_sections (0x0C ∷ 0x01 ∷ 0x00 ∷ []) (Some 9)
    ∷ of_sections (0x03 ∷ 0x01 ∷ 0x00 ∷ a_type) (Some 12)
    ∷ of_sections (a_type ++ a_type) (Some 15)
    -- a section of size 0
    ∷ of_sections (0x01 ∷ 0x00 ∷ []) (Some 10)
    -- a content that is complete before its end, and one that isn't complete at its end
    ∷ of_sections (0x01 ∷ 0x02 ∷ 0x00 ∷ 0x00 ∷ []) (Some 11)
    ∷ of_sections (0x01 ∷ 0x03 ∷ 0x01 ∷ 0x60 ∷ 0x00 ∷ 0x00 ∷ []) (Some 13)
    -- a name that is UTF-8, one that isn't, and one that is longer than its section
    ∷ of_sections (0x00 ∷ 0x03 ∷ 0x02 ∷ 0xC3 ∷ 0xA9 ∷ []) None
    ∷ of_sections (0x00 ∷ 0x03 ∷ 0x01 ∷ 0xFF ∷ 0x00 ∷ []) (Some 12)
    ∷ of_sections (0x00 ∷ 0x02 ∷ 0x02 ∷ 0x61 ∷ 0x62 ∷ []) (Some 12)
    -- a name whose first byte begins no character: it fails at its end
    ∷ of_sections (0x00 ∷ 0x04 ∷ 0x02 ∷ 0xFF ∷ 0x61 ∷ 0x00 ∷ []) (Some 13)
    -- a section that ends in its first of five types
    ∷ of_sections (0x01 ∷ 0x02 ∷ 0x05 ∷ 0x60 ∷ []) (Some 12)
    -- a value type that there is none of; a type of another form
    ∷ of_sections (0x01 ∷ 0x05 ∷ 0x01 ∷ 0x60 ∷ 0x01 ∷ 0x7B ∷ 0x00 ∷ []) (Some 14)
    ∷ of_sections (0x01 ∷ 0x04 ∷ 0x01 ∷ 0x61 ∷ 0x00 ∷ 0x00 ∷ []) (Some 12)
    -- a function with its body, and one without
    ∷ of_sections (a_type ++ a_function ++ a_body) None
    ∷ of_sections (a_type ++ a_function) (Some 18)
    -- more bodies than functions; the data section's id where a body is owed
    ∷ of_sections (a_type ++ a_body) (Some 17)
    ∷ of_sections (a_type ++ a_function ++ 0x0B ∷ 0x01 ∷ 0x00 ∷ []) (Some 19)
    -- a body whose code ends too early, and one whose code doesn't end
    ∷ of_sections (a_type ++ a_function ++ 0x0A ∷ 0x05 ∷ 0x01 ∷ 0x03 ∷ 0x00 ∷ 0x0B ∷ 0x0B ∷ []) (Some 24)
    ∷ of_sections (a_type ++ a_function ++ 0x0A ∷ 0x04 ∷ 0x01 ∷ 0x02 ∷ 0x00 ∷ 0x01 ∷ []) (Some 24)
    -- a body that is longer than its section
    ∷ of_sections (a_type ++ a_function ++ 0x0A ∷ 0x04 ∷ 0x01 ∷ 0x09 ∷ 0x00 ∷ 0x0B ∷ []) (Some 24)
    -- an opcode that there is none of; an else behind no if
    ∷ of_sections (a_type ++ a_function ++ 0x0A ∷ 0x05 ∷ 0x01 ∷ 0x03 ∷ 0x00 ∷ 0x06 ∷ 0x0B ∷ []) (Some 24)
    ∷ of_sections (a_type ++ a_function ++ 0x0A ∷ 0x05 ∷ 0x01 ∷ 0x03 ∷ 0x00 ∷ 0x05 ∷ 0x0B ∷ []) (Some 24)
    -- a copy whose number has two bytes, and a fill
    ∷ of_sections (a_type ++ a_function ++ 0x0A ∷ 0x09 ∷ 0x01 ∷ 0x07 ∷ 0x00 ∷ 0xFC ∷ 0x8A ∷ 0x00 ∷ 0x00 ∷ 0x00 ∷ 0x0B ∷ []) None
    ∷ of_sections (a_type ++ a_function ++ 0x0A ∷ 0x07 ∷ 0x01 ∷ 0x05 ∷ 0x00 ∷ 0xFC ∷ 0x0B ∷ 0x00 ∷ 0x0B ∷ []) None
    -- another number behind the prefix, which is judged when all its bytes are there
    ∷ of_sections (a_type ++ a_function ++ 0x0A ∷ 0x08 ∷ 0x01 ∷ 0x06 ∷ 0x00 ∷ 0xFC ∷ 0x0C ∷ 0x00 ∷ 0x00 ∷ 0x0B ∷ []) (Some 25)
    ∷ of_sections (a_type ++ a_function ++ 0x0A ∷ 0x08 ∷ 0x01 ∷ 0x06 ∷ 0x00 ∷ 0xFC ∷ 0x89 ∷ 0x00 ∷ 0x00 ∷ 0x0B ∷ []) (Some 26)
    -- another byte in a zero's place, of a copy and of a fill
    ∷ of_sections (a_type ++ a_function ++ 0x0A ∷ 0x08 ∷ 0x01 ∷ 0x06 ∷ 0x00 ∷ 0xFC ∷ 0x0A ∷ 0x00 ∷ 0x01 ∷ 0x0B ∷ []) (Some 27)
    ∷ of_sections (a_type ++ a_function ++ 0x0A ∷ 0x07 ∷ 0x01 ∷ 0x05 ∷ 0x00 ∷ 0xFC ∷ 0x0B ∷ 0x80 ∷ 0x0B ∷ []) (Some 26)
    ∷ []

-- a module with an import, whose one function calls it
abbrev pub sleeper : List ℕ
sleeper =
    0x00 ∷ 0x61 ∷ 0x73 ∷ 0x6D ∷ 0x01 ∷ 0x00 ∷ 0x00 ∷ 0x00 ∷ 0x01 ∷ 0x06 ∷ 0x01 ∷ 0x60 ∷
    0x01 ∷ 0x7F ∷ 0x01 ∷ 0x7F ∷ 0x02 ∷ 0x0D ∷ 0x01 ∷ 0x03 ∷ 0x65 ∷ 0x6E ∷ 0x76 ∷ 0x05 ∷
    0x73 ∷ 0x6C ∷ 0x65 ∷ 0x65 ∷ 0x70 ∷ 0x00 ∷ 0x00 ∷ 0x03 ∷ 0x02 ∷ 0x01 ∷ 0x00 ∷ 0x07 ∷
    0x07 ∷ 0x01 ∷ 0x03 ∷ 0x72 ∷ 0x75 ∷ 0x6E ∷ 0x00 ∷ 0x01 ∷ 0x0A ∷ 0x08 ∷ 0x01 ∷ 0x06 ∷
    0x00 ∷ 0x20 ∷ 0x00 ∷ 0x10 ∷ 0x00 ∷ 0x0B ∷ []

-- Its first k bytes: they are a whole file behind the preamble, the types, the imports, and at the end.
abbrev pub beginning : ℕ → File
beginning k = record {
  bytes = take k sleeper;
  fault = if k == 8 || k == 16 || k == 31 || k == 54 then None else Some k;
}

-- the numbers below n
abbrev pub below : ℕ → List ℕ
below zero = []
below (suc n) = below n ++ n ∷ []

-- each beginning of that file
abbrev pub beginnings : List File
beginnings = map beginning (below 55)

-- a function that holds `f32.const` behind `unreachable`, and calls another that isn't there
abbrev pub float_file : List ℕ
float_file = preamble ++ a_type ++ a_function ++
    0x0A ∷ 0x0C ∷ 0x01 ∷ 0x0A ∷ 0x00 ∷ 0x00 ∷ 0x43 ∷ 0x00 ∷ 0x00 ∷ 0x00 ∷ 0x00 ∷ 0x10 ∷ 0x07 ∷ 0x0B ∷ []

-- a byte at its offset
abbrev pub at_place : (place byte : ℕ) → Placed
at_place k b = record { place = k; byte = b }

-- its code
abbrev pub float_code : RawCode
float_code =
    instr (at_place 23 0x00) nothing
    (instr (at_place 24 0x43) (float (0x00 ∷ 0x00 ∷ 0x00 ∷ 0x00 ∷ []))
    (instr (at_place 29 0x10) (index 7)
    (ended 31)))

-- its body
abbrev pub float_body : RawBody
float_body = record { size = 10; locals = []; code = float_code }

-- its type section
abbrev pub float_types : Section
float_types = types (record { params = []; results = [] } ∷ [])

-- its code section
abbrev pub float_bodies : Section
float_bodies = bodies (float_body ∷ [])

-- its sections
abbrev pub float_sections : List Section
float_sections = float_types ∷ functions (0 ∷ []) ∷ float_bodies ∷ []

-- What the file spells has one float, at offset 24.
abbrev pub FloatFound : Type 0
FloatFound = Spells float_file float_sections × (floats float_sections ≡ 24 ∷ [])
