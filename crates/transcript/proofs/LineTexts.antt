-- Texts of lines, one behind others, and what of them was printed.
use Rattle.std.proofs.Common.{◌≡◌, ℕ, suc, ◌+◌, ◌<◌, List, [], ◌∷◌, ◌++◌, length, map}
use Rattle.std.proofs.Common.{get_or, nat_lt, take, true, Option, Some, None, refl, sym, ap, ◌∙◌, append_assoc, append-nil, arith}
use Rattle.std.specs.Prelude.{codes}
use Rattle.std.specs.Fmt.{decimal}
use Rattle.std.specs.Option.{option_map, unwrap_or}
use Rattle.std.proofs.lemmas.List.{length-append}
use Rattle.std.proofs.lemmas.Bool.{ltb-true}
use Rattle.std.proofs.lemmas.Option.{slice_get-map, slice_get_read}
use Rattle.vault_port.specs.Taken.{Appends, AppendsLess, AppendsPast}
use Rattle.vault_port.specs.Told.{Becomes}
use Rattle.vault_port.proofs.Telling.{Becomes_then}
use Rattle.transcript.specs.declared.events.Names.{Names as NamesValue}
use Rattle.transcript.specs.Printing.{names_of}
use Rattle.wa_model.specs.Outside.{Line}
use Rattle.script_model.specs.Transcript.{Names, event_lines, event_line, event_text, last_line, line_end, names_at, no_names}

lines_append : (names : List Names) (front bs : List Line) → event_lines names (front ++ bs) ≡ event_lines names front ++ event_lines names bs
lines_append names [] bs = refl
lines_append names (a ∷ front) bs =
    ap (λ t. event_line (names_at names a.program) a ++ t) (lines_append names front bs)
    ∙ sym (append_assoc (event_line (names_at names a.program) a) (event_lines names front) (event_lines names bs))

-- one line more
pub line_more : (names : List Names) (lines : List Line) (l : Line) → event_lines names lines ++ event_line (names_at names l.program) l ≡ event_lines names (lines ++ l ∷ [])
line_more names lines l =
    ap (λ t. event_lines names lines ++ t) (sym (append-nil (event_line (names_at names l.program) l))) ∙ sym (lines_append names lines (l ∷ []))

-- ---- what was printed

appends_both : (a b : List ℕ) (x y z : List ℕ) → Appends a x y → Appends b y z → Appends (a ++ b) x z
appends_both a b x y z p q = q ∙ ap (λ t. t ++ b) p ∙ append_assoc x a b

take_past : {X : Type 0} (a b : List X) (n : ℕ) → take (length a + n) (a ++ b) ≡ a ++ take n b
take_past [] b n = ap (λ (k : ℕ). take k b) (let e : 0 + n ≡ n = omega arith in e)
take_past (x ∷ a) b n =
    ap (λ (k : ℕ). take k ((x ∷ a) ++ b)) (let e : length (x ∷ a) + n ≡ suc (length a + n) = omega arith in e) ∙ ap (λ (t : List _). x ∷ t) (take_past a b n)

appends_past : (a b : List ℕ) (x y z : List ℕ) → Appends a x y → AppendsLess b y z → AppendsPast (length a) (a ++ b) x z
appends_past a b x y z p q =
    (length a + q.0, omega arith, omega (arith, length-append a b, q.1), q.2 ∙ ap (λ t. t ++ take q.0 b) p ∙ append_assoc x a (take q.0 b) ∙ ap (λ t. x ++ t) (sym (take_past a b q.0)))

pub then_printed : (a b : List ℕ) (o p q : Option (List ℕ)) → Becomes o p (Appends a) → Becomes p q (Appends b) → Becomes o q (Appends (a ++ b))
then_printed a b o p q r s = Becomes_then (Appends a) (Appends b) (Appends (a ++ b)) (appends_both a b) o p q r s

pub then_less : (a b : List ℕ) (o p q : Option (List ℕ)) → Becomes o p (Appends a) → Becomes p q (AppendsLess b) → Becomes o q (AppendsPast (length a) (a ++ b))
then_less a b o p q r s = Becomes_then (Appends a) (AppendsLess b) (AppendsPast (length a) (a ++ b)) (appends_past a b) o p q r s

pub becomes_by : (P Q : List ℕ → List ℕ → Type 0) → ((x y : List ℕ) → P x y → Q x y) → (old new : Option (List ℕ)) → Becomes old new P → Becomes old new Q
becomes_by P Q f None None h = tt
becomes_by P Q f (Some x) (Some y) h = f x y h
becomes_by P Q f None (Some y) h = h
becomes_by P Q f (Some x) None h = h

pub becomes_same : (P : List ℕ → List ℕ → Type 0) → ((x : List ℕ) → P x x) → (o : Option (List ℕ)) → Becomes o o P
becomes_same P f None = tt
becomes_same P f (Some x) = f x

pub nothing_yet : (o : Option (List ℕ)) → Becomes o o (Appends [])
nothing_yet o = becomes_same (Appends []) (λ x. sym (append-nil x)) o

-- ---- nothing printed

ends_some : (text : List ℕ) → 0 < length (text ++ line_end)
ends_some text = omega (arith, length-append text line_end)

pub line_some : (names : Names) (l : Line) → 0 < length (event_line names l)
unfolding event_line
line_some names l = ends_some (decimal l.tick ++ codes " " ++ decimal l.program ++ codes " " ++ event_text names l.tick l.event)

pub last_some : (programs events : ℕ) → 0 < length (last_line programs events)
unfolding last_line
last_some programs events = ends_some (codes "programs " ++ decimal programs ++ codes " events " ++ decimal events)

-- nothing is less of a text that isn't empty
pub nothing_printed : (text : List ℕ) (o : Option (List ℕ)) → 0 < length text → Becomes o o (AppendsLess text)
nothing_printed text o h = becomes_same (AppendsLess text) (λ x. (0, h, sym (append-nil x))) o

-- ---- names

-- the names that stand at a program's number
pub own_names : (names : List NamesValue) (i : ℕ) (own : NamesValue) → true ≡ nat_lt i (length names) → own ≡ get_or names i own → names_of own ≡ names_at (map names_of names) i
own_names names i own within is =
    let there = slice_get_read names (length names) i own refl (ltb-true i (length names) (sym within)) is in
    sym (ap (λ (o : Option Names). unwrap_or o no_names) (slice_get-map names_of names i ∙ ap (option_map names_of) there))
