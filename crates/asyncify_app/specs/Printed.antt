-- What `gen` prints.
use Rattle.std.specs.Prelude.{◌≡◌, ◌⊎◌, ℕ, List, ◌++◌, length, None, codes}
use Rattle.std.specs.Fmt.{decimal}
use Rattle.vault_port.specs.Taken.{Appends, AppendsLess}
use Rattle.wa_types.specs.Encoding.{Enc}
use Rattle.script_model.specs.Transcript.{refusal_line, write_fault, line_end}
use Rattle.transcript.specs.Refused.{PrintsMemory}
use Rattle.gen_module.specs.Generated.{generated}
use Rattle.asyncify_app.specs.Playing.{PlaysGenerated}

-- three lines: how many functions were generated, and how many bytes written; how much of its area a pause used; and a result
unfoldable pub three_lines : (number bytes used value : ℕ) → List ℕ
three_lines number bytes used value =
    codes "generated functions " ++ decimal number ++ codes " bytes " ++ decimal bytes ++ line_end
    ++ codes "area " ++ decimal used ++ line_end ++ codes "result i32:" ++ decimal value ++ line_end

-- The lines of the generated module of n functions: of its bytes, and of what its run, rewritten, has told.
abbrev pub IsGeneratedText : ℕ → List ℕ → Type 0
IsGeneratedText n text = (used : ℕ) × (value : ℕ) × PlaysGenerated n used value × (text ≡ three_lines n (length (Enc (generated n))) used value)

-- such lines were printed
abbrev pub PrintsGenerated : ℕ → List ℕ → List ℕ → Type 0
PrintsGenerated n old new = (text : List ℕ) × IsGeneratedText n text × Appends text old new

-- less of such lines was printed
abbrev pub PrintsLess : ℕ → List ℕ → List ℕ → Type 0
PrintsLess n old new = (text : List ℕ) × IsGeneratedText n text × AppendsLess text old new

-- some first bytes of such lines, or of the refusal's line, and then some of the line on memory, were printed
abbrev pub RunsOutOfMemory : ℕ → (output : List ℕ) → (faults faults' : ℕ) → List ℕ → List ℕ → Type 0
RunsOutOfMemory n output faults faults' old new =
    (text : List ℕ) × (IsGeneratedText n text ⊎ (text ≡ refusal_line None (write_fault output))) × PrintsMemory text faults faults' old new
