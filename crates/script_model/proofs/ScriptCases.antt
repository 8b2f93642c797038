-- Small scripts and transcripts that the definitions compute, wrong readings beside right ones.
use Rattle.std.proofs.Common.{◌≡◌, ℕ, List, [], ◌∷◌, ◌++◌, Some, None, false, refl}
use Rattle.std.specs.Prelude.{Option, Result, Ok, Err, codes}
use Rattle.std.specs.Str.{is_utf8, chars}
use Rattle.std.proofs.Math.Utf8.{encode}
use Rattle.std.specs.Fmt.{digits}
use Rattle.wa_types.specs.declared.bounds.LimitKind.TheVariants as L
use Rattle.wa_types.specs.declared.values.Value.TheVariants as V
use Rattle.wa_types.specs.declared.values.Trap.TheVariants.{Unreachable, Import}
use Rattle.wa_model.specs.declared.answers.Said.TheVariants as S
use Rattle.wa_model.specs.declared.events.End.TheVariants.{Trapped, UnwindTrap}
use Rattle.wa_model.specs.Outside.{Line, Event, called, answered, paused, returned, ended, shown}
use Rattle.script_model.specs.Script.{Script, ScriptFault, breaks, too_many, device_line, strand_line, unsaved_line}
use Rattle.script_model.specs.ScriptLines.{begins_program, has_steps, shows, detaches, has_mailbox, begins_strand, answers, line_says, word_text, value_in, result_in, number_in, hex_in}
use Rattle.script_model.specs.ScriptText.{script_text}
use Rattle.script_model.specs.Transcript.{Names, event_line, Transcript, last_line, refusal_line, script, invalid, limit, snapshot_limit, snapshot_refused}

-- lines that end in LF
abbrev line : List ℕ → List ℕ → List ℕ
line text rest = text ++ 10 ∷ rest

-- ---- words and numbers

escapes : word_text (codes "a%62%C3%a9") ≡ Some (97 ∷ 98 ∷ 195 ∷ 169 ∷ [])
unfolding script_text is_utf8 chars encode digits
escapes = refl

cut_escape : word_text (codes "a%6") ≡ None
unfolding script_text is_utf8 chars encode digits
cut_escape = refl

-- a byte that is no UTF-8 by itself
bad_text : word_text (codes "%C3") ≡ None
unfolding script_text is_utf8 chars encode digits
bad_text = refl

numbers : (number_in (codes "0") ≡ Some 0) × (number_in (codes "120") ≡ Some 120) × (number_in (codes "012") ≡ None) × (number_in (codes "+1") ≡ None) × (number_in [] ≡ None)
unfolding script_text is_utf8 chars encode digits
numbers = (refl, refl, refl, refl, refl)

least_values : (value_in (codes "i32:-2147483648") ≡ Some (V.I32 2147483648)) × (value_in (codes "i32:-2147483649") ≡ None) × (value_in (codes "i32:4294967295") ≡ Some (V.I32 4294967295))
    × (value_in (codes "i32:4294967296") ≡ None)
unfolding script_text is_utf8 chars encode digits
least_values = (refl, refl, refl, refl)

no_negative_zero : value_in (codes "i32:-0") ≡ None
unfolding script_text is_utf8 chars encode digits
no_negative_zero = refl

-- escapes stand in each word, the first one too; what they stand for is no longer looked at as a blank
escaped_keyword : line_says (codes "%70rogram a%20b") ≡ Ok (Some (begins_program (codes "a b")))
unfolding script_text is_utf8 chars encode digits
escaped_keyword = refl

escape_before_keyword : line_says (codes "other %zz") ≡ Err 1
unfolding script_text is_utf8 chars encode digits
escape_before_keyword = refl

no_plus : (value_in (codes "i32:+1") ≡ None) × (value_in (codes "i32:") ≡ None) × (value_in (codes "i64:01") ≡ None) × (value_in (codes "f32:1") ≡ None)
unfolding script_text is_utf8 chars encode digits
no_plus = (refl, refl, refl, refl)

great_values : (value_in (codes "i64:-1") ≡ Some (V.I64 18446744073709551615)) × (value_in (codes "i64:18446744073709551615") ≡ Some (V.I64 18446744073709551615))
    × (value_in (codes "i64:18446744073709551616") ≡ None)
unfolding script_text is_utf8 chars encode digits
great_values = (refl, refl, refl)

hex_digits : (hex_in (codes "0") ≡ None) × (hex_in (codes "000") ≡ None) × (hex_in (codes "0g") ≡ None) × (hex_in (codes "aB") ≡ Some (171 ∷ []))
unfolding script_text is_utf8 chars encode digits
hex_digits = (refl, refl, refl, refl)

-- ---- lines

comment : line_says (codes "# 100%") ≡ Ok None
unfolding script_text is_utf8 chars encode digits
comment = refl

-- a `#` behind a space is a word
no_comment : line_says (codes " # x") ≡ Err 2
unfolding script_text is_utf8 chars encode digits
no_comment = refl

tabs : line_says (9 ∷ codes "program" ++ 9 ∷ codes "f ") ≡ Ok (Some (begins_program (codes "f")))
unfolding script_text is_utf8 chars encode digits
tabs = refl

form_before_number : line_says (codes "area x") ≡ Err 3
unfolding script_text is_utf8 chars encode digits
form_before_number = refl

number_out : line_says (codes "steps 0") ≡ Err 4
unfolding script_text is_utf8 chars encode digits
number_out = refl

an_answer : line_says (codes "answer env.read i32:4 ticks 2 poke 65532 01fF")
    ≡ Ok (Some (answers (record { import = codes "env.read"; answer = record { said = S.Value (Some (V.I32 4)); pokes = record { at = 65532; bytes = 1 ∷ 255 ∷ [] } ∷ []; ticks = 2 } })))
unfolding script_text is_utf8 chars encode digits
an_answer = refl

-- what a call is told: `trap` is a word of its own, and no value
results : (result_in (codes "trap") ≡ Some S.Trap) × (result_in (codes "none") ≡ Some (S.Value None)) × (result_in (codes "i32:5") ≡ Some (S.Value (Some (V.I32 5))))
    × (result_in (codes "traps") ≡ None) × (value_in (codes "trap") ≡ None)
unfolding script_text is_utf8 chars encode digits
results = (refl, refl, refl, refl, refl)

a_trap : line_says (codes "answer env.read trap ticks 4 poke 0 01")
    ≡ Ok (Some (answers (record { import = codes "env.read"; answer = record { said = S.Trap; pokes = record { at = 0; bytes = 1 ∷ [] } ∷ []; ticks = 4 } })))
unfolding script_text is_utf8 chars encode digits
a_trap = refl

-- ticks stand in front of pokes
ticks_behind : line_says (codes "answer env.read none poke 0 00 ticks 2") ≡ Err 3
unfolding script_text is_utf8 chars encode digits
ticks_behind = refl

no_policy : line_says (codes "save some") ≡ Err 3
unfolding script_text is_utf8 chars encode digits
no_policy = refl

ranges : (line_says (codes "steps 1000000001") ≡ Err 4) × (line_says (codes "show 0 4097") ≡ Err 4) × (line_says (codes "show 0 0") ≡ Err 4) × (line_says (codes "detach d 0") ≡ Err 4)
    × (line_says (codes "area 4294967296 8") ≡ Err 4)
unfolding script_text is_utf8 chars encode digits
ranges = (refl, refl, refl, refl, refl)

bounds : (line_says (codes "steps 1000000000") ≡ Ok (Some (has_steps 1000000000))) × (line_says (codes "show 0 4096") ≡ Ok (Some (shows 0 4096)))
    × (line_says (codes "detach d 1") ≡ Ok (Some (detaches (codes "d") 1)))
unfolding script_text is_utf8 chars encode digits
bounds = (refl, refl, refl)

-- `ticks` twice, and `ticks` without a number, are of a wrong form, whatever the numbers are
ticks_twice : (line_says (codes "answer env.read none ticks 1 ticks 1") ≡ Err 3) × (line_says (codes "answer env.read none ticks") ≡ Err 3) × (line_says (codes "answer env.read x poke") ≡ Err 3)
unfolding script_text is_utf8 chars encode digits
ticks_twice = (refl, refl, refl)

-- ---- scripts

-- the fault of a text that is no script
abbrev fault : Result Script ScriptFault → Option ScriptFault
fault (Ok s) = None
fault (Err f) = Some f

nothing : script_text [] ≡ Ok (record { programs = []; detaches = []; mailboxes = [] })
unfolding script_text is_utf8 chars encode digits
nothing = refl

one_program : script_text (line (codes "program f" ++ 13 ∷ []) (line (codes "area 0 64") (codes "enter run i32:7")))
    ≡ Ok (record {
      programs = record {
        line = 1;
        path = codes "f";
        list = None;
        ignore_imports = false;
        policy_live = false;
        area = record { at = 0; len = 64 };
        area_line = 2;
        steps = 100000000;
        globals = [];
        binds = [];
        entries = record { line = 3; name = codes "run"; args = V.I32 7 ∷ [] } ∷ [];
        answers = [];
        shows = [];
        strands = [];
      } ∷ [];
      detaches = [];
      mailboxes = [];
    })
unfolding script_text is_utf8 chars encode digits
one_program = refl

-- a CR at the end of a last line without LF belongs to its word
last_cr : fault (script_text (line (codes "program f") (codes "area 0 64" ++ 13 ∷ []))) ≡ Some (breaks 2 4)
unfolding script_text is_utf8 chars encode digits
last_cr = refl

early_line : fault (script_text (codes "area 0 64")) ≡ Some (breaks 1 5)
unfolding script_text is_utf8 chars encode digits
early_line = refl

no_area : fault (script_text (line (codes "program f") (line (codes "program g") (codes "area 0 64")))) ≡ Some (breaks 1 7)
unfolding script_text is_utf8 chars encode digits
no_area = refl

-- `imports` and `ignore-imports` together; each program has its own
repeated : fault (script_text (line (codes "program f") (line (codes "ignore-imports") (codes "imports env.a")))) ≡ Some (breaks 3 6)
unfolding script_text is_utf8 chars encode digits
repeated = refl

own_area : fault (script_text (line (codes "program f") (line (codes "area 0 64") (line (codes "program f") (codes "area 0 64"))))) ≡ None
unfolding script_text is_utf8 chars encode digits
own_area = refl

bad_list : fault (script_text (line (codes "program f") (codes "imports env"))) ≡ Some (breaks 2 8)
unfolding script_text is_utf8 chars encode digits
bad_list = refl

-- within a line the rules are asked in their order: a number before the place of the line, that before the list, and a second line before its list
number_before_place : fault (script_text (codes "area x 0")) ≡ Some (breaks 1 4)
unfolding script_text is_utf8 chars encode digits
number_before_place = refl

place_before_list : fault (script_text (codes "imports env")) ≡ Some (breaks 1 5)
unfolding script_text is_utf8 chars encode digits
place_before_list = refl

second_before_list : fault (script_text (line (codes "program f") (line (codes "imports env.a") (codes "imports env")))) ≡ Some (breaks 3 6)
unfolding script_text is_utf8 chars encode digits
second_before_list = refl

-- a program without an area is told once all lines are lawful
later_line : fault (script_text (line (codes "program f") (codes "save some"))) ≡ Some (breaks 2 3)
unfolding script_text is_utf8 chars encode digits
later_line = refl

-- `detach` may stand anywhere, and lines without words count
free_detach : fault (script_text (line (codes "detach d 1") (line [] (line (codes "# x") (codes "enter run"))))) ≡ Some (breaks 4 5)
unfolding script_text is_utf8 chars encode digits
free_detach = refl

-- a comment is asked for UTF-8, and for no more
bad_comment : fault (script_text (codes "# " ++ 195 ∷ [])) ≡ Some (breaks 1 1)
unfolding script_text is_utf8 chars encode digits
bad_comment = refl

abbrev program_lines : List ℕ → List ℕ
program_lines rest = line (codes "program f") (line (codes "area 0 8") rest)

abbrev four_programs : List ℕ → List ℕ
four_programs rest = program_lines (program_lines (program_lines (program_lines rest)))

sixteen : fault (script_text (four_programs (four_programs (four_programs (four_programs []))))) ≡ None
unfolding script_text is_utf8 chars encode digits
sixteen = refl

seventeen : fault (script_text (four_programs (four_programs (four_programs (four_programs (codes "program f")))))) ≡ Some (too_many 17)
unfolding script_text is_utf8 chars encode digits
seventeen = refl

-- the form of a seventeenth line is looked at first
seventeen_bad : fault (script_text (four_programs (four_programs (four_programs (four_programs (codes "program f g")))))) ≡ Some (breaks 33 3)
unfolding script_text is_utf8 chars encode digits
seventeen_bad = refl

-- ---- mailboxes

a_mailbox : (line_says (codes "mailbox a%20b") ≡ Ok (Some (has_mailbox (codes "a b")))) × (line_says (codes "mailbox") ≡ Err 3) × (line_says (codes "mailbox a b") ≡ Err 3)
unfolding script_text is_utf8 chars encode digits
a_mailbox = (refl, refl, refl)

-- mailboxes may stand before the first program, and in the midst of programs, of which they are no part
two_mailboxes : script_text (line (codes "mailbox a") (program_lines (codes "mailbox b")))
    ≡ Ok (record {
      programs = record {
        line = 2;
        path = codes "f";
        list = None;
        ignore_imports = false;
        policy_live = false;
        area = record { at = 0; len = 8 };
        area_line = 3;
        steps = 100000000;
        globals = [];
        binds = [];
        entries = [];
        answers = [];
        shows = [];
        strands = [];
      } ∷ [];
      detaches = [];
      mailboxes = record { line = 1; name = codes "a" } ∷ record { line = 4; name = codes "b" } ∷ [];
    })
unfolding script_text is_utf8 chars encode digits
two_mailboxes = refl

-- a mailbox's line is no program's
early_behind_mailbox : fault (script_text (line (codes "mailbox a") (codes "area 0 64"))) ≡ Some (breaks 2 5)
unfolding script_text is_utf8 chars encode digits
early_behind_mailbox = refl

-- a name is declared twice, however it is spelled and whatever stands between: the second line is bad; names that differ aren't
doubled : (fault (script_text (line (codes "mailbox ab") (program_lines (program_lines (codes "mailbox a%62"))))) ≡ Some (breaks 6 17))
    × (fault (script_text (line (codes "mailbox a") (line (codes "mailbox b") (line (codes "mailbox a") (codes "mailbox b"))))) ≡ Some (breaks 3 17))
    × (fault (script_text (line (codes "mailbox a") (codes "mailbox A"))) ≡ None)
unfolding script_text is_utf8 chars encode digits
doubled = (refl, refl, refl)

-- a device of the name and an import of it are no mailboxes
not_doubled : fault (script_text (program_lines (line (codes "device env.a a") (line (codes "detach a 1") (codes "mailbox a"))))) ≡ None
unfolding script_text is_utf8 chars encode digits
not_doubled = refl

-- the first bad line decides: a name declared twice before a program that has no area, and behind an earlier bad line
doubled_first : (fault (script_text (line (codes "program f") (line (codes "mailbox a") (codes "mailbox a")))) ≡ Some (breaks 3 17))
    × (fault (script_text (line (codes "mailbox a") (line (codes "save some") (codes "mailbox a")))) ≡ Some (breaks 2 3))
unfolding script_text is_utf8 chars encode digits
doubled_first = (refl, refl)

-- ---- devices

-- the line of the first `device` line
abbrev device_at : Result Script ScriptFault → Option ℕ
device_at (Ok s) = device_line s
device_at (Err f) = None

no_device : device_at (script_text (program_lines (codes "detach d 1"))) ≡ None
unfolding script_text is_utf8 chars encode digits
no_device = refl

-- the first of two, behind a program without one
first_device : device_at (script_text (program_lines (program_lines (line (codes "device env.b d") (program_lines (codes "device env.a d")))))) ≡ Some 5
unfolding script_text is_utf8 chars encode digits
first_device = refl

-- the line of the first `device`, `mailbox` or `strand` line
abbrev unsaved_at : Result Script ScriptFault → Option ℕ
unsaved_at (Ok s) = unsaved_line s
unsaved_at (Err f) = None

-- whichever comes first, and not the line of a `detach`
unsaved : (unsaved_at (script_text (program_lines (codes "detach d 1"))) ≡ None)
    × (unsaved_at (script_text (program_lines (line (codes "device env.b d") (line (codes "mailbox a") (codes "mailbox b"))))) ≡ Some 3)
    × (unsaved_at (script_text (program_lines (line (codes "mailbox b") (codes "device env.b d")))) ≡ Some 3)
    × (unsaved_at (script_text (line (codes "mailbox a") (program_lines []))) ≡ Some 1)
    × (unsaved_at (script_text (program_lines (program_lines (codes "device env.a d")))) ≡ Some 5)
    × (unsaved_at (script_text (program_lines (line (codes "strand 8 8") (codes "device env.a d")))) ≡ Some 3)
unfolding script_text is_utf8 chars encode digits
unsaved = (refl, refl, refl, refl, refl, refl)

-- ---- strands

a_strand : (line_says (codes "strand 64 8") ≡ Ok (Some (begins_strand 64 8))) × (line_says (codes "strand 64") ≡ Err 3) × (line_says (codes "strand 64 8 8") ≡ Err 3)
    × (line_says (codes "strand 64 x") ≡ Err 4)
unfolding script_text is_utf8 chars encode digits
a_strand = (refl, refl, refl, refl)

-- entries and answers behind a `strand` line are that strand's; an area, steps and what is shown are the program's wherever they stand
two_strands : script_text (line (codes "program f") (line (codes "enter a") (line (codes "strand 64 8") (line (codes "enter b") (line (codes "area 0 8")
    (line (codes "answer m.n trap") (line (codes "strand 72 16") (line (codes "show 4 2") (codes "enter c")))))))))
    ≡ Ok (record {
      programs = record {
        line = 1;
        path = codes "f";
        list = None;
        ignore_imports = false;
        policy_live = false;
        area = record { at = 0; len = 8 };
        area_line = 5;
        steps = 100000000;
        globals = [];
        binds = [];
        entries = record { line = 2; name = codes "a"; args = [] } ∷ [];
        answers = [];
        shows = record { line = 8; at = 4; len = 2 } ∷ [];
        strands =
            record {
              line = 3;
              area = record { at = 64; len = 8 };
              entries = record { line = 4; name = codes "b"; args = [] } ∷ [];
              answers = record { import = codes "m.n"; answer = record { said = S.Trap; pokes = []; ticks = 0 } } ∷ [];
            }
            ∷ record { line = 7; area = record { at = 72; len = 16 }; entries = record { line = 9; name = codes "c"; args = [] } ∷ []; answers = [] }
            ∷ [];
      } ∷ [];
      detaches = [];
      mailboxes = [];
    })
unfolding script_text is_utf8 chars encode digits
two_strands = refl

-- seven strands more
abbrev seven_strands : List ℕ → List ℕ
seven_strands rest = line (codes "strand 8 8") (line (codes "strand 8 8") (line (codes "strand 8 8") (line (codes "strand 8 8") (line (codes "strand 8 8")
    (line (codes "strand 8 8") (line (codes "strand 8 8") rest))))))

-- a program has fifteen `strand` lines; the sixteenth is bad, whatever its numbers; those of another program count anew
sixteenth : (fault (script_text (program_lines (seven_strands (seven_strands (codes "strand 8 8"))))) ≡ None)
    × (fault (script_text (program_lines (seven_strands (seven_strands (line (codes "strand 8 8") (codes "strand 8 8")))))) ≡ Some (breaks 18 3))
    × (fault (script_text (program_lines (seven_strands (seven_strands (line (codes "strand 8 8") (codes "strand 8 x")))))) ≡ Some (breaks 18 4))
    × (fault (script_text (program_lines (seven_strands (seven_strands (program_lines (line (codes "strand 8 8") (codes "strand 8 8"))))))) ≡ None)
unfolding script_text is_utf8 chars encode digits
sixteenth = (refl, refl, refl, refl)

-- a strand stands behind a program's line, and doesn't tell the program's area
early_strand : (fault (script_text (codes "strand 8 8")) ≡ Some (breaks 1 5)) × (fault (script_text (line (codes "program f") (codes "strand 8 8"))) ≡ Some (breaks 1 7))
unfolding script_text is_utf8 chars encode digits
early_strand = (refl, refl)

-- a script has no mailbox and strand both: the first `strand` line is bad, behind all other lines, and behind a program without an area
mixed : (fault (script_text (program_lines (line (codes "strand 8 8") (line (codes "strand 8 8") (codes "mailbox a"))))) ≡ Some (breaks 3 20))
    × (fault (script_text (program_lines (line (codes "mailbox a") (line (codes "strand 8 8") (codes "save some"))))) ≡ Some (breaks 5 3))
    × (fault (script_text (program_lines (line (codes "mailbox a") (line (codes "strand 8 8") (codes "program g"))))) ≡ Some (breaks 5 7))
unfolding script_text is_utf8 chars encode digits
mixed = (refl, refl, refl)

-- the line of the first `strand` line
abbrev strand_at : Result Script ScriptFault → Option ℕ
strand_at (Ok s) = strand_line s
strand_at (Err f) = None

-- the first of two, behind a program without one
first_strand : (strand_at (script_text (program_lines [])) ≡ None) × (strand_at (script_text (program_lines (program_lines (line (codes "strand 8 8") (codes "strand 8 8"))))) ≡ Some 5)
unfolding script_text is_utf8 chars encode digits
first_strand = (refl, refl)

-- ---- printed lines

abbrev names : Names
names = record { imports = codes "env.sl eep" ∷ []; entries = codes "run" ∷ []; len = 64 }

abbrev at_five : Event → Line
at_five e = record { tick = 5; program = 1; event = e }

printed : (event_line names (at_five (called (record { import = 0; args = V.I32 7 ∷ V.I64 1 ∷ [] }))) ≡ codes "5 1 call env.sl%20eep i32:7 i64:1" ++ 10 ∷ [])
    × (event_line names (at_five (paused 3 20)) ≡ codes "5 1 pause until 8 area 20 of 64" ++ 10 ∷ [])
    × (event_line names (at_five (returned 0 None)) ≡ codes "5 1 return run" ++ 10 ∷ [])
    × (event_line names (at_five (ended (UnwindTrap Unreachable 8 27))) ≡ codes "5 1 end trap unreachable while unwinding area 8 of 27" ++ 10 ∷ [])
    × (event_line names (at_five (shown 16 (Some (171 ∷ 0 ∷ [])))) ≡ codes "5 1 memory 16 ab00" ++ 10 ∷ [])
unfolding event_line digits
printed = (refl, refl, refl, refl, refl)

printed_answers : (event_line names (at_five (answered (S.Value None))) ≡ codes "5 1 answer none" ++ 10 ∷ [])
    × (event_line names (at_five (answered S.Trap)) ≡ codes "5 1 answer trap" ++ 10 ∷ [])
    × (event_line names (at_five (ended (Trapped Import))) ≡ codes "5 1 end trap import trap" ++ 10 ∷ [])
unfolding event_line digits
printed_answers = (refl, refl, refl)

refused : (refusal_line None (script 1 10) ≡ codes "script line 1 rule 10" ++ 10 ∷ [])
    × (refusal_line (Some 2) (invalid (Some 3) 8 0) ≡ codes "program 2: invalid rule 8 function 3 at 0" ++ 10 ∷ [])
    × (refusal_line None (limit L.Programs 17) ≡ codes "limit programs 17" ++ 10 ∷ [])
    × (refusal_line None (snapshot_limit 268435457) ≡ codes "limit snapshot 268435457" ++ 10 ∷ [])
    × (refusal_line None snapshot_refused ≡ codes "snapshot refused" ++ 10 ∷ [])
unfolding refusal_line digits
refused = (refl, refl, refl, refl, refl)

empty_transcript : Transcript [] 0 0 [] ≡ codes "programs 0 events 0" ++ 10 ∷ []
unfolding last_line digits
empty_transcript = refl
