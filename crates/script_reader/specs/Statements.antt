-- Statements as the program has them, as plain data.
use Rattle.std.specs.Prelude.{Option, List, ℕ}
use Rattle.std.specs.List.{find}
use Rattle.std.specs.Option.{option_map}
use Rattle.std.specs.Str.{bytes_eq}
use Rattle.script_model.specs.ScriptLines.{Statement, begins_program, lists_imports, ignores_imports, saves, has_area, has_steps, sets_global, binds, enters, answers, shows, detaches, has_mailbox, begins_strand, Keyword, program_word, imports_word, ignore_imports_word, save_word, area_word, steps_word, global_word, device_word, enter_word, answer_word, show_word, detach_word, mailbox_word, strand_word, Spelling}
use Rattle.wa_model.specs.View.{answer_line_of}
use Rattle.script_reader.specs.declared.statements.Statement.{Statement as StatementValue}
use Rattle.script_reader.specs.declared.statements.Statement.TheVariants as S
use Rattle.script_reader.specs.declared.keywords.Keyword.{Keyword as KeywordValue}
use Rattle.script_reader.specs.declared.keywords.Keyword.TheVariants as K

-- a keyword
abbrev pub keyword_of : KeywordValue → Keyword
keyword_of K.Program = program_word
keyword_of K.Imports = imports_word
keyword_of K.IgnoreImports = ignore_imports_word
keyword_of K.Save = save_word
keyword_of K.Area = area_word
keyword_of K.Steps = steps_word
keyword_of K.Global = global_word
keyword_of K.Device = device_word
keyword_of K.Enter = enter_word
keyword_of K.Answer = answer_word
keyword_of K.Show = show_word
keyword_of K.Detach = detach_word
keyword_of K.Mailbox = mailbox_word
keyword_of K.Strand = strand_word

-- the keyword that a word is, among some of them
abbrev pub keyword_among : List Spelling → List ℕ → Option Keyword
keyword_among some word = option_map (λ (s : Spelling). s.keyword) (find (λ (s : Spelling). bytes_eq s.text word) some)

-- a statement
abbrev pub statement_of : StatementValue → Statement
statement_of (S.Program path) = begins_program path
statement_of (S.Imports list) = lists_imports list
statement_of S.IgnoreImports = ignores_imports
statement_of (S.Save live) = saves live
statement_of (S.Area area) = has_area area.at area.len
statement_of (S.Steps n) = has_steps n
statement_of (S.Global name value) = sets_global name value
statement_of (S.Device import device) = binds import device
statement_of (S.Enter name args) = enters name args.items
statement_of (S.Answer line) = answers (answer_line_of line)
statement_of (S.Show at len) = shows at len
statement_of (S.Detach detach) = detaches detach.device detach.before
statement_of (S.Mailbox name) = has_mailbox name
statement_of (S.Strand area) = begins_strand area.at area.len

-- what a line says, if anything
abbrev pub line_of : Option StatementValue → Option Statement
line_of said = option_map statement_of said
