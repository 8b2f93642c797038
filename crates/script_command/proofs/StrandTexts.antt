-- Texts of lines of strands, one behind others, and the names of strands.
use Rattle.std.proofs.Common.{◌≡◌, ℕ, ◌<◌, List, [], ◌∷◌, ◌++◌, length, map, Option, refl, sym, ap, ◌∙◌, append_assoc, append-nil, arith, get_or, nat_lt, false, true}
use Rattle.std.specs.Prelude.{codes, slice_get}
use Rattle.std.specs.Fmt.{decimal}
use Rattle.std.specs.Global.{Vec}
use Rattle.std.specs.Option.{option_map, unwrap_or}
use Rattle.std.proofs.lemmas.List.{length-append}
use Rattle.std.proofs.lemmas.Bool.{ltb-true}
use Rattle.std.proofs.lemmas.Option.{same_Some, slice_get-map, slice_get_read, slice_get_within}
use Rattle.script_model.specs.Transcript as T
use Rattle.script_model.specs.Transcript.{event_text, line_end, names_at}
use Rattle.transcript.specs.declared.events.Names.{Names}
use Rattle.transcript.specs.StrandLines.{strand_event_line, strand_number}
use Rattle.wa_model.specs.Outside.{Line}
use Rattle.strand_laws.specs.StrandWorld.{StrandLine}
use Rattle.script_command.specs.StrandParts.{HasNames, names_in}
use Rattle.script_command.specs.StrandTranscripts.{named_strand_line, strand_event_lines}

strand_lines_append : (names : List (List T.Names)) (front bs : List StrandLine) → strand_event_lines names (front ++ bs) ≡ strand_event_lines names front ++ strand_event_lines names bs
strand_lines_append names [] bs = refl
strand_lines_append names (a ∷ front) bs =
    ap (λ t. named_strand_line names a ++ t) (strand_lines_append names front bs) ∙ sym (append_assoc (named_strand_line names a) (strand_event_lines names front) (strand_event_lines names bs))

-- one line more
pub strand_line_more : (names : List (List T.Names)) (lines : List StrandLine) (l : StrandLine) → strand_event_lines names lines ++ named_strand_line names l ≡ strand_event_lines names (lines ++ l ∷ [])
strand_line_more names lines l = ap (λ t. strand_event_lines names lines ++ t) (sym (append-nil (named_strand_line names l))) ∙ sym (strand_lines_append names lines (l ∷ []))

-- ---- a line isn't empty

ends_some : (text : List ℕ) → 0 < length (text ++ line_end)
ends_some text = omega (arith, length-append text line_end)

pub strand_line_some : (names : T.Names) (l : Line) (k : ℕ) → 0 < length (strand_event_line names l k)
unfolding strand_event_line
strand_line_some names l k = ends_some (decimal l.tick ++ (codes " " ++ decimal l.program ++ strand_number k ++ codes " ") ++ event_text names l.tick l.event)

-- ---- names

-- the names of the strands that stand at a program's number
pub strands_named : (names : List (Vec Names)) (i : ℕ) (own : Vec Names) → true ≡ nat_lt i (length names) → own ≡ get_or names i own → names_in own ≡ unwrap_or (slice_get (map names_in names) i) []
strands_named names i own within is =
    let there = slice_get_read names (length names) i own refl (ltb-true i (length names) (sym within)) is in
    sym (ap (λ (o : Option (List T.Names)). unwrap_or o []) (slice_get-map names_in names i ∙ ap (option_map names_in) there))

-- the strand of this number is one of them
pub own_long : (names : List (Vec Names)) (i k : ℕ) (own : Vec Names) → true ≡ nat_lt i (length names) → own ≡ get_or names i own → HasNames names i k → (xs : List Names) → xs ≡ own.items → k < length xs
own_long names i k own within is h xs e =
    let there = slice_get_read names (length names) i own refl (ltb-true i (length names) (sym within)) is in
    let same : h.0 ≡ own = same_Some h.0 own (sym h.1 ∙ there) in
    let long = ap (λ (v : Vec Names). length v.items) same in
    let here = ap length e in
    let less = h.2 in
    omega (arith, long, here, less)

pub no_place : false ≡ true → ⊥
no_place e = cc

-- a program whose strand has names is there
pub program_within : (names : List (Vec Names)) (i k : ℕ) → HasNames names i k → i < length names
program_within names i k h = slice_get_within names i h.0 h.1
