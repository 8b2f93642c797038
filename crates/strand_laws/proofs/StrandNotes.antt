-- Turns of strands that are told note by note.
use Rattle.std.proofs.Common.{arith, ◌≡◌, ℕ, zero, suc, ◌+◌, List, [], ◌∷◌, ◌++◌, Bool, true, false, Some, refl, sym, ap, ◌∙◌, subst, append_assoc, append-nil}
use Rattle.std.specs.Prelude.{MatchBool, ◌||◌, map, slice_get, slice_set}
use Rattle.std.specs.List.{AllZip}
use Rattle.wa_model.specs.Blocking.{Note, events_of}
use Rattle.wa_model.specs.Outside.{AnswerLine, Event, answered, called, ended, parked, paused, returned, shown}
use Rattle.wa_model.specs.Plan.{Outcome}
use Rattle.world_model.specs.World.{CallsMeet, Device, Look, Program, detached, ends_turn, events_with_looks, is_end, looks_after, put_off, ticks_in}
use Rattle.world_laws.proofs.Rests.{calls_more}
use Rattle.strand_laws.proofs.Blocks.{set_get, the_same}
use Rattle.strand_laws.proofs.ToldGoesOn.{told_goes_on}
use Rattle.strand_laws.proofs.ToldStrands.{calls_longer}
use Rattle.strand_laws.specs.StrandNotes.{NothingTold, OnStory, StrandCalls, TellsOnStrands, ToldStrandsBegin, TurnBegins, TurnEnds, TurnGoesOn}
use Rattle.strand_laws.specs.StrandWorld.{StrandLine, StrandsInWorld, looks_if, strand_program}
use Rattle.strand_laws.specs.Strands.{strand_at}
use Rattle.strand_laws.specs.ToldStrands.{EndsOnce, HasStory, IsDueNext, ProgramTeller, StrandTeller, having_told, line_of, tells_end, told_on}
use Rattle.strand_laws.specs.Weaving.{EndNoTurn}
use Rattle.strand_laws.specs.Woven.{Told, told_by}

-- ---- lists

module _ {A : Type 0} where
  set_twice : (xs : List A) (i : ℕ) (x y : A) → slice_set (slice_set xs i x) i y ≡ slice_set xs i y
  set_twice [] i x y = refl
  set_twice (z ∷ xs) zero x y = refl
  set_twice (z ∷ xs) (suc i) x y = ap (λ (us : List A). z ∷ us) (set_twice xs i x y)

  set_same : (xs : List A) (i : ℕ) (x : A) → slice_get xs i ≡ Some x → slice_set xs i x ≡ xs
  set_same [] i x e = refl
  set_same (z ∷ xs) zero x e = ap (λ (u : A). u ∷ xs) (sym (the_same z x e))
  set_same (z ∷ xs) (suc i) x e = ap (λ (us : List A). z ∷ us) (set_same xs i x e)

pub map_both : {A B : Type 0} (f : A → B) (xs ys : List A) → map f (xs ++ ys) ≡ map f xs ++ map f ys
map_both f [] ys = refl
map_both f (x ∷ xs) ys = ap (λ (us : List _). f x ∷ us) (map_both f xs ys)

told_both : (i : ℕ) (es fs : List Note) → told_by i (es ++ fs) ≡ told_by i es ++ told_by i fs
told_both i [] fs = refl
told_both i (x ∷ es) fs = ap (λ (z : List Told). record { strand = i; note = x } ∷ z) (told_both i es fs)

events_both : (xs ys : List Note) → events_of (xs ++ ys) ≡ events_of xs ++ events_of ys
events_both [] ys = refl
events_both (x ∷ xs) ys = ap (λ (es : List Event). x.event ∷ es) (events_both xs ys)

-- ---- notes that end no turn

true_false : {A : Type 0} → true ≡ false → A
true_false e = let no_way : ⊥ = cc in absurd no_way

put_off_both : (xs ys : List Note) → put_off (xs ++ ys) ≡ put_off xs + put_off ys
put_off_both [] ys = omega arith
put_off_both (x ∷ xs) ys = let h = put_off_both xs ys in omega (arith, h)

open_off : (xs : List Note) → EndNoTurn xs → (put_off xs ≡ 0) × (tells_end xs ≡ false)
open_off [] h = (refl, refl)
open_off (x ∷ xs) h = by x.event h.0 (open_off xs h.1)
  where
    by : (e : Event) → ends_turn e ≡ false → (put_off xs ≡ 0) × (tells_end xs ≡ false) → (ticks_in e + put_off xs ≡ 0) × ((is_end e || tells_end xs) ≡ false)
    by (called c) q r = let z = r.0 in (omega (arith, z), r.1)
    by (answered c) q r = let z = r.0 in (omega (arith, z), r.1)
    by (parked c) q r = let z = r.0 in (omega (arith, z), r.1)
    by (returned c d) q r = let z = r.0 in (omega (arith, z), r.1)
    by (shown c d) q r = let z = r.0 in (omega (arith, z), r.1)
    by (paused c d) q r = true_false q
    by (ended c) q r = true_false q

open_end : (xs ys : List Note) → EndNoTurn xs → tells_end (xs ++ ys) ≡ tells_end ys
open_end [] ys h = refl
open_end (x ∷ xs) ys h = by x.event h.0 (open_end xs ys h.1)
  where
    by : (e : Event) → ends_turn e ≡ false → tells_end (xs ++ ys) ≡ tells_end ys → (is_end e || tells_end (xs ++ ys)) ≡ tells_end ys
    by (called c) q r = r
    by (answered c) q r = r
    by (parked c) q r = r
    by (returned c d) q r = r
    by (shown c d) q r = r
    by (paused c d) q r = true_false q
    by (ended c) q r = true_false q

open_both : (xs : List Note) (y : Note) → EndNoTurn xs → ends_turn y.event ≡ false → EndNoTurn (xs ++ y ∷ [])
open_both [] y h e = (e, tt)
open_both (x ∷ xs) y h e = (h.0, open_both xs y h.1 e)

ends_once : (xs : List Note) (y : Note) → EndNoTurn xs → ends_turn y.event ≡ true → EndsOnce (xs ++ y ∷ [])
ends_once [] y h e = subst (λ b. MatchBool b (none ≡ []) (EndsOnce [])) (sym e) refl
  where
    none : List Note
    none = []
ends_once (x ∷ xs) y h e = subst (λ b. MatchBool b (xs ++ y ∷ [] ≡ []) (EndsOnce (xs ++ y ∷ []))) (sym h.0) (ends_once xs y h.1 e)

-- what is shown stands behind the last
open_shows : (looks : List Look) (xs : List Note) (y : Note) → EndNoTurn xs → events_with_looks looks (xs ++ y ∷ []) ≡ events_of xs ++ y.event ∷ looks_after looks y y.event
open_shows looks [] y h = append-nil (y.event ∷ looks_after looks y y.event)
open_shows looks (x ∷ xs) y h = by x.event h.0 (open_shows looks xs y h.1)
  where
    by : (e : Event) → ends_turn e ≡ false → events_with_looks looks (xs ++ y ∷ []) ≡ events_of xs ++ y.event ∷ looks_after looks y y.event
        → (x.event ∷ looks_after looks x e) ++ events_with_looks looks (xs ++ y ∷ []) ≡ x.event ∷ (events_of xs ++ y.event ∷ looks_after looks y y.event)
    by (called c) q r = ap (λ (es : List Event). x.event ∷ es) r
    by (answered c) q r = ap (λ (es : List Event). x.event ∷ es) r
    by (parked c) q r = ap (λ (es : List Event). x.event ∷ es) r
    by (returned c d) q r = ap (λ (es : List Event). x.event ∷ es) r
    by (shown c d) q r = ap (λ (es : List Event). x.event ∷ es) r
    by (paused c d) q r = true_false q
    by (ended c) q r = true_false q

-- ---- tellers

-- a turn told in two parts
two_parts : (s : StrandTeller) (xs : List Note) (y : Note) (met more : List Outcome) (answers left : List AnswerLine) → EndNoTurn xs
    → having_told (having_told s xs met answers) (y ∷ []) more left ≡ having_told s (xs ++ y ∷ []) (met ++ more) left
two_parts s xs y met more answers left h =
    let a = put_off_both xs (y ∷ []) in
    let due : s.due + put_off xs + put_off (y ∷ []) ≡ s.due + put_off (xs ++ y ∷ []) = omega (arith, a) in
    ap (λ n. record { due = n; has_ended = tells_end (y ∷ []); answers = left; met = (s.met ++ met) ++ more }) due
    ∙ ap (λ b. record { due = s.due + put_off (xs ++ y ∷ []); has_ended = b; answers = left; met = (s.met ++ met) ++ more }) (sym (open_end xs (y ∷ []) h))
    ∙ ap (λ (os : List Outcome). record { due = s.due + put_off (xs ++ y ∷ []); has_ended = tells_end (xs ++ y ∷ []); answers = left; met = os }) (append_assoc s.met met more)

told_parts : (t : ProgramTeller) (k : ℕ) (s : StrandTeller) (xs : List Note) (y : Note) (met more : List Outcome) (answers left : List AnswerLine) (is_last : Bool) → EndNoTurn xs
    → told_on (told_on t k (having_told s xs met answers) xs false) k (having_told (having_told s xs met answers) (y ∷ []) more left) (y ∷ []) is_last
    ≡ told_on t k (having_told s (xs ++ y ∷ []) (met ++ more) left) (xs ++ y ∷ []) is_last
told_parts t k s xs y met more answers left is_last h =
    ap (λ (ss : List StrandTeller). record { strands = ss; told = (t.told ++ told_by k xs) ++ told_by k (y ∷ []); has_ended = is_last })
    (set_twice t.strands k (having_told s xs met answers) (having_told (having_told s xs met answers) (y ∷ []) more left) ∙ ap (slice_set t.strands k) (two_parts s xs y met more answers left h))
    ∙ ap (λ (ts : List Told). record { strands = slice_set t.strands k (having_told s (xs ++ y ∷ []) (met ++ more) left); told = ts; has_ended = is_last })
    (append_assoc t.told (told_by k xs) (told_by k (y ∷ [])) ∙ ap (λ (ts : List Told). t.told ++ ts) (sym (told_both k xs (y ∷ []))))

-- nothing told
nothing_on : (s : StrandTeller) → s.has_ended ≡ false → having_told s [] [] s.answers ≡ s
nothing_on s e =
    let z : s.due + 0 ≡ s.due = omega arith in
    ap (λ n. record { due = n; has_ended = false; answers = s.answers; met = s.met ++ [] }) z ∙ ap (λ b. record { due = s.due; has_ended = b; answers = s.answers; met = s.met ++ [] }) (sym e)
    ∙ ap (λ (os : List Outcome). record { due = s.due; has_ended = s.has_ended; answers = s.answers; met = os }) (append-nil s.met)

told_nothing : (t : ProgramTeller) (k : ℕ) (s : StrandTeller) → slice_get t.strands k ≡ Some s → t.has_ended ≡ false → s.has_ended ≡ false → told_on t k (having_told s [] [] s.answers) [] false ≡ t
told_nothing t k s there on live =
    ap (λ (u : StrandTeller). told_on t k u [] false) (nothing_on s live)
    ∙ ap (λ (ss : List StrandTeller). record { strands = ss; told = t.told ++ []; has_ended = false }) (set_same t.strands k s there)
    ∙ ap (λ (ts : List Told). record { strands = t.strands; told = ts; has_ended = false }) (append-nil t.told) ∙ ap (λ b. record { strands = t.strands; told = t.told; has_ended = b }) (sym on)

-- ---- laws

pub nothing_told : NothingTold
nothing_told gs detaches ds = (refl, refl, refl)

pub turn_begins : TurnBegins
turn_begins gs detaches ds es number program strand due lines tellers g told is next =
    let d = next.is_due in record {
      before = lines;
      mid = tellers;
      es = es;
      whole = told;
      g = g;
      t = d.t;
      s = d.s;
      is_program = is;
      there = d.there;
      strand_there = d.strand_there;
      due_is = d.due;
      next = next;
      turn = [];
      goes_on = tt;
      met = [];
      answers = d.s.answers;
      calls = (refl, refl, refl);
      made = sym (append-nil lines);
      after = sym (ap (slice_set tellers program) (told_nothing d.t strand d.s d.strand_there d.goes_on d.unfinished) ∙ set_same tellers program d.t d.there);
    }

-- with one more note
module _ (gs : _) (detaches : _) (ds ds' es : List Device) (number program strand due : ℕ) (lines : List StrandLine) (tellers : List ProgramTeller) (g : StrandsInWorld) (t : ProgramTeller)
    (s : StrandTeller) (x : Note) (met : List Outcome) (answers : List AnswerLine) (h : TellsOnStrands gs detaches ds number program strand due lines tellers ds')
    (is : slice_get gs program ≡ Some g) (there : slice_get tellers program ≡ Some t) (strand_there : slice_get t.strands strand ≡ Some s)
    (calls : StrandCalls g strand (x ∷ []) met s.answers ds' answers es) where
  same_g : h.g ≡ g
  same_g = the_same h.g g (sym h.is_program ∙ is)

  abbrev s1 : StrandTeller
  s1 = having_told h.s h.turn h.met h.answers

  abbrev t1 : ProgramTeller
  t1 = told_on h.t strand s1 h.turn false

  same_t : t1 ≡ t
  same_t = the_same t1 t (sym (ap (λ (ts : List ProgramTeller). slice_get ts program) h.after ∙ set_get h.mid program t1 h.t h.there) ∙ there)

  same_s : s1 ≡ s
  same_s = the_same s1 s (sym (set_get h.t.strands strand s1 h.s h.strand_there) ∙ ap (λ (u : ProgramTeller). slice_get u.strands strand) same_t ∙ strand_there)

  all_calls : StrandCalls h.g strand (h.turn ++ x ∷ []) (h.met ++ met) h.s.answers (detached (suc number) detaches h.es) answers es
  all_calls =
      calls_more (strand_program h.g [] strand (strand_at h.g.program strand)) h.turn (x ∷ []) h.met met h.s.answers h.answers answers (detached (suc number) detaches h.es) ds' es h.calls
      (subst (λ (q : StrandsInWorld). StrandCalls q strand (x ∷ []) met h.answers ds' answers es) (sym same_g)
      (subst (λ (ls : List AnswerLine). StrandCalls g strand (x ∷ []) met ls ds' answers es) (sym (ap (λ (u : StrandTeller). u.answers) same_s)) calls))

  after_is : (is_last : Bool) → slice_set tellers program (told_on t strand (having_told s (x ∷ []) met answers) (x ∷ []) is_last)
      ≡ slice_set h.mid program (told_on h.t strand (having_told h.s (h.turn ++ x ∷ []) (h.met ++ met) answers) (h.turn ++ x ∷ []) is_last)
  after_is is_last =
      ap (λ (ts : List ProgramTeller). slice_set ts program (told_on t strand (having_told s (x ∷ []) met answers) (x ∷ []) is_last)) h.after
      ∙ set_twice h.mid program t1 (told_on t strand (having_told s (x ∷ []) met answers) (x ∷ []) is_last)
      ∙ ap (λ (u : ProgramTeller). slice_set h.mid program (told_on u strand (having_told s (x ∷ []) met answers) (x ∷ []) is_last)) (sym same_t)
      ∙ ap (λ (v : StrandTeller). slice_set h.mid program (told_on t1 strand (having_told v (x ∷ []) met answers) (x ∷ []) is_last)) (sym same_s)
      ∙ ap (slice_set h.mid program) (told_parts h.t strand h.s h.turn x h.met met h.answers answers is_last h.goes_on)

pub turn_goes_on : TurnGoesOn
turn_goes_on gs detaches ds ds' es number program strand due lines tellers g t s x met answers h is there strand_there calls e = record {
  before = h.before;
  mid = h.mid;
  es = h.es;
  whole = h.whole;
  g = h.g;
  t = h.t;
  s = h.s;
  is_program = h.is_program;
  there = h.there;
  strand_there = h.strand_there;
  due_is = h.due_is;
  next = h.next;
  turn = h.turn ++ x ∷ [];
  goes_on = open_both h.turn x h.goes_on e;
  met = h.met ++ met;
  answers = answers;
  calls = all_calls gs detaches ds ds' es number program strand due lines tellers g t s x met answers h is there strand_there calls;
  made = ap (λ (ls : List StrandLine). ls ++ line_of due program strand x.event ∷ []) h.made
      ∙ append_assoc h.before (map (line_of due program strand) (events_of h.turn)) (line_of due program strand x.event ∷ [])
      ∙ ap (λ (ls : List StrandLine). h.before ++ ls)
      (sym (map_both (line_of due program strand) (events_of h.turn) (x.event ∷ [])) ∙ ap (map (line_of due program strand)) (sym (events_both h.turn (x ∷ []))));
  after = after_is gs detaches ds ds' es number program strand due lines tellers g t s x met answers h is there strand_there calls false;
}

pub turn_ends : TurnEnds
turn_ends gs detaches ds ds' es number program strand due lines tellers g t s x is_last met answers h is there strand_there calls e =
    let q = same_g gs detaches ds ds' es number program strand due lines tellers g t s x met answers h is there strand_there calls in
    let some = all_calls gs detaches ds ds' es number program strand due lines tellers g t s x met answers h is there strand_there calls in
    let asks : Program = strand_program h.g [] strand (strand_at h.g.program strand) in
    let w : Program = strand_program h.g (looks_if is_last h.g.looks) strand (strand_at h.g.program strand) in
    let shows : List StrandLine = line_of due program strand x.event ∷ map (line_of due program strand) (looks_after (looks_if is_last g.looks) x x.event) in (
      h.before,
      map (line_of due program strand) (events_of h.turn) ++ shows,
      h.mid,
      h.es,
      h.whole,
      record {
        program = program;
        strand = strand;
        g = h.g;
        t = h.t;
        s = h.s;
        is_program = h.is_program;
        there = h.there;
        strand_there = h.strand_there;
        next = subst (λ n. IsDueNext h.mid program strand n) (sym h.due_is) h.next;
        turn = h.turn ++ x ∷ [];
        whole = ends_once h.turn x h.goes_on e;
        is_last = is_last;
        met = h.met ++ met;
        answers = answers;
        calls = subst (λ (os : List Outcome). CallsMeet w (h.turn ++ x ∷ []) os h.s.answers (detached (suc number) detaches h.es) [] answers es) (append-nil (h.met ++ met))
            (calls_longer asks w (record { imports = refl; binds = refl }) [] (h.turn ++ x ∷ []) (h.met ++ met) h.s.answers (detached (suc number) detaches h.es) [] answers es some);
        made =
            ap (λ (u : StrandsInWorld). map (line_of due program strand) (events_of h.turn) ++ line_of due program strand x.event ∷ map (line_of due program strand) (looks_after (looks_if is_last u.looks) x x.event)) (sym q)
            ∙ sym (map_both (line_of due program strand) (events_of h.turn) (x.event ∷ looks_after (looks_if is_last h.g.looks) x x.event))
            ∙ ap (map (line_of due program strand)) (sym (open_shows (looks_if is_last h.g.looks) h.turn x h.goes_on))
            ∙ ap (λ n. map (line_of n program strand) (events_with_looks (looks_if is_last h.g.looks) (h.turn ++ x ∷ []))) (sym h.due_is);
        after = after_is gs detaches ds ds' es number program strand due lines tellers g t s x met answers h is there strand_there calls is_last;
      },
      ap (λ (ls : List StrandLine). ls ++ shows) h.made ∙ append_assoc h.before (map (line_of due program strand) (events_of h.turn)) shows,
    )

pub stories_of : (gs : List StrandsInWorld) (ts : List ProgramTeller) → AllZip OnStory gs ts → AllZip HasStory gs ts
stories_of [] [] h = tt
stories_of [] (t ∷ ts) h = absurd h
stories_of (g ∷ gs) [] h = absurd h
stories_of (g ∷ gs) (t ∷ ts) h =
    let on = h.0 in
    let r = on.begins [] in
    (record { rest = r.0; more = []; story = r.1; is_rest = r.2 }, stories_of gs ts h.1)

pub told_begin : ToldStrandsBegin
told_begin gs detaches ds count lines tellers ds' some told on = told_goes_on gs detaches ds count lines tellers ds' some told (stories_of gs tellers on)
